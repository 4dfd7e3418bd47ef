-- What `required` promises: the tests go in the table's order, and each return is the refusal of the test that it stands under.
use Rattle.std.specs.Prelude.{ℕ, ◌≡◌, ◌≤◌, ◌<◌, true, false, Ok, Err}
use mathlib.Core.Path.{refl}
use native.Mathlib.Omega.{arith}
use borrow.Author.Tests.{lt-ltb, le-ltb}
use Rattle.std.proofs.lemmas.Result.{err_from_is_err_and}
use Rattle.floor.specs.declared.Refusal.TheVariants.{Sizes, Cells}
use Rattle.floor.specs.Floor.{Floor, sizes_ok, cells, manhattan, refusal, refused, RequiredPromise, required_refusal}
use Rattle.floor.proofs.required.Goals.{then-cells-start-via-then-cells-start, then-cells-start-via-else-cells-start+then-cells-goal}
use Rattle.floor.proofs.required.Goals as goal

module _ (f : Floor) (start goal : ℕ) where
  no_floor : sizes_ok f ≡ false → RequiredPromise f start goal (Err Sizes)
  unfolding required_refusal refusal refused
  no_floor s = record { answers = rw s refl; figure = tt }

  no_start : sizes_ok f ≡ true → cells f ≤ start → RequiredPromise f start goal (Err Cells)
  unfolding required_refusal refusal refused
  no_start s a = record { answers = rw (s, le-ltb _ _ a) refl; figure = tt }

  no_goal : sizes_ok f ≡ true → start < cells f → cells f ≤ goal → RequiredPromise f start goal (Err Cells)
  unfolding required_refusal refusal refused
  no_goal s a b = record { answers = rw (s, lt-ltb _ _ a, le-ltb _ _ b) refl; figure = tt }

  accepted : sizes_ok f ≡ true → start < cells f → goal < cells f → RequiredPromise f start goal (Ok (manhattan f start goal))
  unfolding required_refusal refusal refused
  accepted s a b = record { answers = rw (s, lt-ltb _ _ a, lt-ltb _ _ b) refl; figure = refl }

pub returns-in_err-grid : goal.returns-in_err-grid
returns-in_err-grid c =
    let p = err_from_is_err_and c.from_residual.result c.from_residual.ensures.1 in
    rw (p.1, p.2, c.in_err-grid.ensures.refuses.0) (no_floor _ _ _ c.in_err-grid.ensures.refuses.1)

pub returns-then-cells-start : goal.returns-then-cells-start
returns-then-cells-start c = elim c.then-cells-start.branch [
  | then-cells-start-via-then-cells-start w ↦ rw (← c.in_ok-grid.ensures.same) (no_start _ _ _ c.in_ok-grid.grid.sized (omega arith))
  | then-cells-start-via-else-cells-start+then-cells-goal w ↦ rw (← c.in_ok-grid.ensures.same) (no_goal _ _ _ c.in_ok-grid.grid.sized (omega arith) (omega arith))
]

pub returns : goal.returns
returns c = rw (c.manhattan.ensures, ← c.in_ok-grid.ensures.same) (accepted _ _ _ c.in_ok-grid.grid.sized (omega arith) (omega arith))
