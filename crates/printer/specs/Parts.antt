-- What the parts of a turn are asked for and answer. No promise rests on these names.
use Rattle.std.specs.Prelude.{ℕ, ◌<◌, length, Some, None, Result, Ok, Err}
use mathlib.Core.{Path.◌≡◌, Bool.true, List.List}
use Rattle.floor.specs.{declared.Refusal.Refusal, Floor.sizes_ok, Floor.cells, Floor.number}
use Rattle.leg.specs.declared.LegDone.{LegDone}
use Rattle.host.specs.declared.Cart.{Cart}
use Rattle.trip_text.specs.declared.Errand.{Errand}
use Rattle.trip_lines.specs.declared.Line.TheVariants as line
use Rattle.printer.specs.declared.Next.{Next}
use Rattle.printer.specs.Turns.{Turned, after_leg}

-- a line, and what comes after it, beside the lent maps
abbrev pub with_maps : Next → List ℕ → List ℕ → Turned
with_maps next known est = record { line = next.line; turn = next.turn; known = known; est = est }

-- what is said: of a refusal its line alone
unfoldable pub said_by : Result Next Refusal → Next
said_by (Ok next) = next
said_by (Err refusal) = record { line = Some (line.Refused (number refusal)); turn = None }

-- a leg's line, and what comes after it
unfoldable pub told_of : Errand → Cart → LegDone → Next
told_of e after d = record { line = Some (line.Leg after.legs d.opened d.moves d.cell); turn = Some (after_leg e after d.ending) }

-- maps for the largest floor
pub record Lent (plan known est : List ℕ) : Type 0 where
  pub plan_long : length plan ≡ 4096
  pub known_long : length known ≡ 4096
  pub est_long : length est ≡ 4096

-- on a floor of n cells, off the goal, with moves left, a leg is made
pub record LegDue (e : Errand) (cart : Cart) (n : ℕ) : Type 0 where
  pub sized : sizes_ok e.floor ≡ true
  pub long : n ≡ cells e.floor
  pub off : cart.cell ≡ e.goal → ⊥
  pub some : cart.moves < e.allowance
