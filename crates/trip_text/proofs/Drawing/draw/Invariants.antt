-- The cells so far are drawn. The measure is the cells still to draw.
use Prim.Native.Nat.{◌-◌}
use mathlib.Core.Path.{◌≡◌}
use lib.ListN.{length}
use Rattle.floor.specs.Floor.{cells, byte}
use Rattle.floor.proofs.Boards.{Filled}
use Rattle.trip_text.specs.Parts.{mark}
use Rattle.trip_text.proofs.Drawing.draw.Given as goal

abbrev pub invariant-loop-cell : goal.invariant-loop-cell
invariant-loop-cell l = (length l.plan ≡ cells l.self.grid.floor) × Filled (λ x. byte (mark l.self.text.now l.self.grid.floor.width x)) l.cell l.plan

abbrev pub decreases-loop-cell : goal.decreases-loop-cell
decreases-loop-cell l = l.cell-end - l.cell
