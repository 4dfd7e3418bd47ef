-- The entry's promise, with the answer told.
use Rattle.refusals.specs.Given.{given}
use Rattle.planner.proofs.wexlund_leg.Goals as goal

pub returns : goal.returns
unfolding given
returns c = record { gives = rw (c.tell.ensures.number, c.tell.ensures.numbers) (rw c.task_of-task.ensures at c.leg.ensures.gives) }
