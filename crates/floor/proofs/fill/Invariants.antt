-- The loop fills the estimates cell by cell: below `cell` they are the distances to the goal. The measure is the cells still to write.
use Prim.Native.Nat.{◌-◌}
use mathlib.Core.Path.{◌≡◌}
use lib.ListN.{length}
use Rattle.floor.specs.Floor.{cells, manhattan}
use Rattle.floor.proofs.Boards.{Filled}
use Rattle.floor.proofs.fill.Given as goal

abbrev pub invariant-loop-cell : goal.invariant-loop-cell
invariant-loop-cell l = (length l.est ≡ cells l.grid.floor) × Filled (λ y. manhattan l.grid.floor y l.goal) l.cell l.est

abbrev pub decreases-loop-cell : goal.decreases-loop-cell
decreases-loop-cell l = l.cell-end - l.cell
