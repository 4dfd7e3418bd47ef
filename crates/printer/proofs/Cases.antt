-- The definition of a turn by its tests: bad sizes, on the goal, allowance used up, and else a leg that is refused or made.
use Prim.Native.Nat.{ℕ, zero, suc, ◌≤◌, ◌<◌}
use mathlib.Core.Path.{◌≡◌, ◌∙◌}
use mathlib.Core.Bool.{true, false}
use mathlib.Core.List.{List}
use borrow.Author.Tests.{eq-eqb, ne_eqb, le-leb, lt-leb}
use Rattle.floor.specs.declared.Ending.TheVariants.{Arrived, Spent}
use Rattle.floor.specs.Floor.{sizes_ok, cells}
use Rattle.rules.specs.Request.{Request, leg_refusal, leg_of}
use Rattle.host.specs.declared.Cart.{Cart}
use Rattle.trip_text.specs.declared.Errand.{Errand}
use Rattle.std.specs.Prelude.{Some}
use Rattle.printer.specs.declared.Turn.TheVariants.{Onward}
use Rattle.printer.specs.Turns.{Turned, leg_asked, refused, ended, leg_made, onward, turned}

module _ (e : Errand) (cart : Cart) (plan known est : List ℕ) where
  abbrev asked : Request
  asked = leg_asked e cart plan known est

  pub bad_sizes : sizes_ok e.floor ≡ false → turned (Some (Onward e cart)) plan known est ≡ refused 1 known est
  unfolding turned
  bad_sizes bad = rw (bad, turned)

  -- a leg by its refusal, or 0
  unfoldable pub leg_turn : ℕ → Turned
  leg_turn zero = leg_made e cart known est (leg_of asked)
  leg_turn (suc k) = refused (suc k) known est

  pub a_leg : (cart.cell ≡ e.goal → ⊥) → cart.moves < e.allowance → onward e cart plan known est ≡ leg_turn (leg_refusal asked)
  unfolding onward leg_turn
  a_leg off some = rw (ne_eqb _ _ off, lt-leb _ _ some, onward)

  module _ (sized : sizes_ok e.floor ≡ true) where
    pub on_floor : turned (Some (Onward e cart)) plan known est ≡ onward e cart plan known est
    unfolding turned
    on_floor = rw (sized, turned)

    pub arrived : cart.cell ≡ e.goal → turned (Some (Onward e cart)) plan known est ≡ ended Arrived cart (cells e.floor) known est
    unfolding onward
    arrived there = on_floor ∙ rw (eq-eqb _ _ there, onward)

    pub spent : (cart.cell ≡ e.goal → ⊥) → e.allowance ≤ cart.moves
        → turned (Some (Onward e cart)) plan known est ≡ ended Spent cart (cells e.floor) known est
    unfolding onward
    spent off none = on_floor ∙ rw (ne_eqb _ _ off, le-leb _ _ none, onward)
