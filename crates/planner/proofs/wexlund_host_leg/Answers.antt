-- The entry's promise, with the answer told and the record in its four numbers.
use mathlib.Core.Path.{refl}
use Rattle.floor.specs.Floor.{value_at}
use Rattle.refusals.specs.Given.{given}
use Rattle.planner.specs.Interface.{four_of}
use Rattle.planner.proofs.Hosting.{host_told}
use Rattle.planner.proofs.wexlund_host_leg.Goals as goal

pub returns : goal.returns
unfolding given four_of value_at
returns c =
    rw (c.from.ensures, c.into.ensures, c.tell.ensures.number, c.tell.ensures.numbers)
    (host_told _ _ _ refl (rw c.task_of-task.ensures at c.leg_for-hosted.ensures))
