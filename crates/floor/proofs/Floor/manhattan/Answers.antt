-- The Manhattan distance is the two differences' sum. It fits, since it is below the number of cells, at most 4,096.
use Prim.Native.Nat.{◌+◌, ◌<◌}
use mathlib.Core.Path.{◌≡◌, ap₂}
use native.Mathlib.Omega.{arith}
use Rattle.floor.specs.Floor.{gap, manhattan}
use Rattle.floor.proofs.Geometry.{sides, area, manhattan-lt}
use Rattle.floor.proofs.Floor.manhattan.Goals.{After-abs_diff-columns}
use Rattle.floor.proofs.Floor.manhattan.Goals as goal

summed : (c : After-abs_diff-columns) → c.abs_diff-rows.result + c.abs_diff-columns.result ≡ manhattan c.args.self c.args.a c.args.b
unfolding manhattan gap
summed c = ap₂ ◌+◌ c.abs_diff-rows.ensures c.abs_diff-columns.ensures

below : (c : After-abs_diff-columns) → c.abs_diff-rows.result + c.abs_diff-columns.result < 4096
below c = omega (
  arith,
  summed c,
  area _ c.requires.sized,
  manhattan-lt _ _ _ (sides _ c.requires.sized).some_width c.requires.on_floor.0 c.requires.on_floor.1,
)

pub returns : goal.returns
returns c = summed (goal.at.returns c).After-abs_diff-columns

pub overflow_cast-w : goal.overflow_cast-w
overflow_cast-w c = omega (arith, sides _ c.requires.sized)

pub overflow_cast-a : goal.overflow_cast-a
overflow_cast-a c = omega (arith, area _ c.requires.sized)

pub nonzero_div-a : goal.nonzero_div-a
nonzero_div-a c = (sides _ c.requires.sized).some_width

pub overflow_cast-b : goal.overflow_cast-b
overflow_cast-b c = omega (arith, area _ c.requires.sized)

pub nonzero_div-b : goal.nonzero_div-b
nonzero_div-b c = (sides _ c.requires.sized).some_width

pub overflow_cast-a-2 : goal.overflow_cast-a-2
overflow_cast-a-2 c = omega (arith, area _ c.requires.sized)

pub nonzero_rem-a : goal.nonzero_rem-a
nonzero_rem-a c = (sides _ c.requires.sized).some_width

pub overflow_cast-b-2 : goal.overflow_cast-b-2
overflow_cast-b-2 c = omega (arith, area _ c.requires.sized)

pub nonzero_rem-b : goal.nonzero_rem-b
nonzero_rem-b c = (sides _ c.requires.sized).some_width

pub overflow_add-result : goal.overflow_add-result
overflow_add-result c = omega (arith, below (goal.at.overflow_add-result c).After-abs_diff-columns)

pub overflow_cast-result : goal.overflow_cast-result
overflow_cast-result c = omega (arith, below (goal.at.overflow_cast-result c).After-abs_diff-columns)
