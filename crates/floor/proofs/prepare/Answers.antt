-- What `prepare` promises: the tests go in the table's order, and each return is the refusal of the test that it stands under.
use Rattle.std.specs.Prelude.{ℕ, ◌≡◌, ◌≤◌, ◌<◌, true, false, List, length, Ok, Err}
use mathlib.Core.Path.{refl}
use native.Mathlib.Omega.{arith}
use borrow.Author.Tests.{lt-ltb, le-ltb, eq-eqb, ne_eqb}
use Rattle.std.proofs.lemmas.Result.{err_from_is_err_and}
use Rattle.floor.specs.declared.Refusal.TheVariants.{Sizes, Lengths, Cells}
use Rattle.floor.specs.Floor.{Floor, sizes_ok, cells, refusal, refused, if_accepted, PreparePromise, prepare_refusal, prepared}
use Rattle.floor.proofs.prepare.Goals as goal

module _ (f : Floor) (goal : ℕ) (est : List ℕ) where
  no_floor : sizes_ok f ≡ false → PreparePromise f goal est (Err Sizes) est
  unfolding prepare_refusal refusal refused if_accepted
  no_floor s = record { answers = rw s refl; writes = rw s refl }

  no_room : sizes_ok f ≡ true → (length est ≡ cells f → ⊥) → PreparePromise f goal est (Err Lengths) est
  unfolding prepare_refusal refusal refused if_accepted
  no_room s l = record { answers = rw (s, ne_eqb _ _ l) refl; writes = rw (s, ne_eqb _ _ l) refl }

  no_goal : sizes_ok f ≡ true → length est ≡ cells f → cells f ≤ goal → PreparePromise f goal est (Err Cells) est
  unfolding prepare_refusal refusal refused if_accepted
  no_goal s l g = record { answers = rw (s, eq-eqb _ _ l, le-ltb _ _ g) refl; writes = rw (s, eq-eqb _ _ l, le-ltb _ _ g) refl }

  accepted : sizes_ok f ≡ true → length est ≡ cells f → goal < cells f → PreparePromise f goal est (Ok tt) (prepared f goal)
  unfolding prepare_refusal refusal refused if_accepted
  accepted s l g = record { answers = rw (s, eq-eqb _ _ l, lt-ltb _ _ g) refl; writes = rw (s, eq-eqb _ _ l, lt-ltb _ _ g) refl }

pub returns-in_err-grid : goal.returns-in_err-grid
returns-in_err-grid c =
    let p = err_from_is_err_and c.from_residual.result c.from_residual.ensures.1 in
    rw (p.1, p.2, c.in_err-grid.ensures.refuses.0) (no_floor _ _ _ c.in_err-grid.ensures.refuses.1)

pub returns-then-est-cells : goal.returns-then-est-cells
returns-then-est-cells c = rw (← c.in_ok-grid.ensures.same) (no_room _ _ _ c.in_ok-grid.grid.sized (omega arith))

pub returns-then-cells-goal : goal.returns-then-cells-goal
returns-then-cells-goal c = rw (← c.in_ok-grid.ensures.same) (no_goal _ _ _ c.in_ok-grid.grid.sized (omega arith) (omega arith))

pub returns : goal.returns
returns c = rw (c.fill.ensures, ← c.in_ok-grid.ensures.same) (accepted _ _ _ c.in_ok-grid.grid.sized (omega arith) (omega arith))
