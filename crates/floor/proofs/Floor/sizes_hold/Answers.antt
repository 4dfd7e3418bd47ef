-- The sides are tested one after the other.
use mathlib.Core.Path.{◌∙◌, sym}
use Rattle.floor.specs.Floor.{sizes_ok}
use Rattle.floor.proofs.Floor.sizes_hold.Goals as goal

pub returns-then-is_up_to : goal.returns-then-is_up_to
unfolding sizes_ok
returns-then-is_up_to c = rw (sym c.is_up_to.ensures ∙ c.if-is_up_to.true) c.is_up_to-then-is_up_to.ensures

pub returns-else-is_up_to : goal.returns-else-is_up_to
unfolding sizes_ok
returns-else-is_up_to c = rw (sym c.is_up_to.ensures ∙ c.if-is_up_to.false) c.if-is_up_to.false
