-- The entry's promise, told.
use Rattle.planner.proofs.Telling.{required_told}
use Rattle.planner.proofs.wexlund_required.Goals as goal

pub returns : goal.returns
returns c = rw (c.refused.ensures, c.from.ensures, c.unwrap_or.ensures) (required_told _ _ _ _ c.required-answer.ensures)
