-- The walk's loop. Each leg is accepted where the last one left off, and makes of the walk what `Advancing.antt` says; each way out of the
-- loop finds the walk over.
use Prim.Native.Nat.{◌-◌}
use Rattle.room.specs.Layout.{Clean}
use Rattle.walk.proofs.Going.{Going}
use Rattle.walk.proofs.run_walk.Given as goal

abbrev pub invariant-loop-cell : goal.invariant-loop-cell
invariant-loop-cell g l = record {
  going : Going l.task l.initial.known l.initial.est l.cart l.allowance l.initial.trail l.known l.est l.trail l.walked;
  clean : Clean l.room;
}

abbrev pub decreases-loop-cell : goal.decreases-loop-cell
decreases-loop-cell g l = l.allowance - l.walked.moves
