-- The trip printer, turn by turn: what each turn says, what comes after it, and the known map and the estimates that it leaves.
use Rattle.std.specs.Prelude.{ℕ, zero, suc, ◌-◌, min, Option, Some, None}
use mathlib.Core.{Bool.true, Bool.false, List.List}
use lib.{Dec.eqb, Dec.leb, ListN.length, ListN.take}
use Rattle.floor.specs.{declared.Ending.Ending, declared.Ending.TheVariants.Arrived, declared.Ending.TheVariants.CutOff, declared.Ending.TheVariants.Spent, declared.Ending.TheVariants.UnderWay, Floor.sizes_ok, Floor.cells, Floor.tabulate}
use Rattle.rules.specs.{Leg.Leg, Leg.left, Request.Request, Request.leg_refusal, Request.leg_of}
use Rattle.host.specs.{declared.Cart.Cart, Host.capped}
use Rattle.trip_text.specs.{declared.Errand.Errand, Heard.Heard, Heard.fronted}
use Rattle.trip_text.specs.Heard as heard
use Rattle.trip_lines.specs.declared.{Line.Line}
use Rattle.trip_lines.specs.declared.Line.TheVariants as line
use Rattle.printer.specs.declared.Turn.{Turn, TheVariants.Onward, TheVariants.End, TheVariants.Last}

pub record Turned : Type 0 where
  pub line : Option Line
  pub turn : Option Turn
  pub known : List ℕ
  pub est : List ℕ

-- the first turn of what was heard
unfoldable pub first_turn : Heard → Option Turn
first_turn heard.BadInput = Some (Last line.BadInput)
first_turn (heard.Refused n) = Some (Last (line.Refused n))
first_turn (heard.Asked e) = Some (Onward e (record { cell = e.start; moves = 0; opened = 0; legs = 0 }))

-- the next leg's request: the smaller of the move limit and the moves left, and a trail of the printer's own
unfoldable pub leg_asked : Errand → Cart → List ℕ → List ℕ → List ℕ → Request
leg_asked e cart plan known est =
    let n = cells e.floor in
    record {
      floor = e.floor;
      plan = take n plan;
      stand = record { known = take n known; est = take n est; cell = cart.cell };
      goal = e.goal;
      setting = record { look = e.setting.look.0; limit = min e.setting.limit.0 (e.allowance - cart.moves) };
      trail = tabulate 4096 (λ x. 0);
    }

-- the cart after a leg that searched: its cell, and the totals with the leg's moves, its cells opened and itself
unfoldable pub counted : Cart → Leg → Cart
counted cart l = record {
  cell = l.cell;
  moves = capped cart.moves (length l.trail);
  opened = capped cart.opened l.opened;
  legs = capped cart.legs 1;
}

-- after a leg that was cut off comes the end, and after any other the next leg
unfoldable pub after_leg : Errand → Cart → Ending → Turn
after_leg e cart Arrived = Onward e cart
after_leg e cart CutOff = End CutOff cart (cells e.floor)
after_leg e cart Spent = Onward e cart
after_leg e cart UnderWay = Onward e cart

unfoldable pub refused : ℕ → List ℕ → List ℕ → Turned
refused n known est = record { line = Some (line.Refused n); turn = None; known = known; est = est }

unfoldable pub ended : Ending → Cart → ℕ → List ℕ → List ℕ → Turned
ended e cart n known est =
    record { line = Some (line.End e cart.moves cart.legs cart.opened); turn = Some (Last (line.Estimates n)); known = known; est = est }

unfoldable pub leg_made : Errand → Cart → List ℕ → List ℕ → Leg → Turned
leg_made e cart known est l =
    let after = counted cart l in
    let s = left e.floor l in
    record {
      line = Some (line.Leg after.legs l.opened (length l.trail) l.cell);
      turn = Some (after_leg e after l.ending);
      known = fronted s.known known;
      est = fronted s.est est;
    }

-- on the goal, arrived; allowance used up, spent; else a leg
unfoldable pub onward : Errand → Cart → List ℕ → List ℕ → List ℕ → Turned
onward e cart plan known est =
    let r = leg_asked e cart plan known est in
    elim (eqb cart.cell e.goal) [
      | true ↦ ended Arrived cart (cells e.floor) known est
      | false ↦ elim (leb e.allowance cart.moves) [
        | true ↦ ended Spent cart (cells e.floor) known est
        | false ↦ elim (leg_refusal r) [ zero ↦ leg_made e cart known est (leg_of r) | suc n ↦ refused (suc n) known est ]
      ]
    ]

unfoldable pub turned : Option Turn → List ℕ → List ℕ → List ℕ → Turned
turned (Some (Onward e cart)) plan known est = elim (sizes_ok e.floor) [ false ↦ refused 1 known est | true ↦ onward e cart plan known est ]
turned (Some (End e cart n)) plan known est = ended e cart n known est
turned (Some (Last l)) plan known est = record { line = Some l; turn = None; known = known; est = est }
turned None plan known est = record { line = None; turn = None; known = known; est = est }
