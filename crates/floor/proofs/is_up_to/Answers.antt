-- The code's two tests are the definition's.
use mathlib.Core.Path.{refl}
use borrow.Author.Tests.{lt-ltb, le-ltb}
use Rattle.floor.specs.Floor.{up_to}
use Rattle.floor.proofs.is_up_to.Goals as goal

pub returns-then-n-gt0 : goal.returns-then-n-gt0
unfolding up_to
returns-then-n-gt0 c = rw (lt-ltb _ _ c.if-n-gt0.true) refl

pub returns-else-n-gt0 : goal.returns-else-n-gt0
unfolding up_to
returns-else-n-gt0 c = rw (le-ltb _ _ c.if-n-gt0.false) refl
