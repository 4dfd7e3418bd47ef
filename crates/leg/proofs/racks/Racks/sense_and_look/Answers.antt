-- Nothing new, nothing blocked ahead; else the look tells.
use mathlib.Core.Path.{◌∙◌, sym}
use Rattle.leg.proofs.Looking.{found_before, looked, not_news}
use Rattle.leg.proofs.racks.Racks.sense_and_look.Goals as goal

pub returns-else-sense : goal.returns-else-sense
returns-else-sense c = looked _ _ _ _ _ _ _ c.sense.ensures _ (c.if-sense.false ∙ sym (not_news _ _ _ _ _ _ _ c.sense.ensures c.if-sense.false c.requires.free))

pub returns-then-sense : goal.returns-then-sense
returns-then-sense c = looked _ _ _ _ _ _ _ c.sense.ensures _ (found_before _ _ _ c.first_blocked.ensures)
