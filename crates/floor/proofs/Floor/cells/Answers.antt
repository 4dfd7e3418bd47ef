-- The number of cells is the product of the sides. It fits, since it is at most 4,096.
use borrow.Author.Rules.{rules}
use native.Mathlib.Omega.{arith}
use Rattle.floor.specs.Floor.{cells}
use Rattle.floor.proofs.Geometry.{area}
use Rattle.floor.proofs.Floor.cells.Goals as goal

pub overflow_mul-result : goal.overflow_mul-result
unfolding cells
overflow_mul-result c = omega (arith, area c.args.self c.requires)

pub returns : goal.returns
unfolding cells
returns c = search rules
