-- The casts fit, since the floor has at most 4,096 cells.
use native.Mathlib.Omega.{arith}
use Rattle.floor.proofs.Geometry.{sides, area}
use Rattle.floor.proofs.Floor.column.Goals as goal

pub overflow_cast-result : goal.overflow_cast-result
overflow_cast-result c = omega (arith, area _ c.requires.sized)

pub overflow_cast-result-2 : goal.overflow_cast-result-2
overflow_cast-result-2 c = omega (arith, sides _ c.requires.sized)

pub nonzero_rem-result : goal.nonzero_rem-result
nonzero_rem-result c = (sides _ c.requires.sized).some_width
