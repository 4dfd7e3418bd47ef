-- Where a heading leads: each test of the code is the definition's. The sums and casts fit, since the floor has at most 4,096 cells.
use Prim.Native.Nat.{◌%◌, ◌≤◌}
use mathlib.Core.Path.{sym}
use native.Mathlib.Nat.{mod-le}
use native.Mathlib.Omega.{arith}
use Rattle.floor.proofs.Geometry.{sides, area}
use Rattle.floor.proofs.Headings.{north_is, west_off, west_on, east_off, east_on, south_on, south_off}
use Rattle.floor.proofs.Floor.neighbour.Goals.{Start}
use Rattle.floor.proofs.Floor.neighbour.Goals as goal

column_most : (c : Start) → c.args.cell % c.args.self.width ≤ c.args.cell
column_most c = mod-le _ _

pub returns-in-North : goal.returns-in-North
returns-in-North c = rw c.in-North.is (north_is _ _ _ c.checked_sub.ensures)

pub returns-then-column-eq0 : goal.returns-then-column-eq0
returns-then-column-eq0 c = rw c.in-West.is (sym (west_off _ _ (omega arith)))

pub returns-then-column-w : goal.returns-then-column-w
returns-then-column-w c = rw c.in-East.is (sym (east_off _ _ (omega arith)))

pub returns-then-cell-w : goal.returns-then-cell-w
returns-then-cell-w c = rw c.in-South.is (sym (south_on _ _ (omega arith)))

pub returns-else-column-eq0 : goal.returns-else-column-eq0
returns-else-column-eq0 c = rw c.in-West.is (sym (west_on _ _ (omega arith)))

pub returns-else-column-w : goal.returns-else-column-w
returns-else-column-w c = rw c.in-East.is (sym (east_on _ _ (omega arith)))

pub returns-else-cell-w : goal.returns-else-cell-w
returns-else-cell-w c = rw c.in-South.is (sym (south_off _ _ (omega arith)))

pub overflow_sub-result : goal.overflow_sub-result
overflow_sub-result c = omega (arith, column_most (goal.at.overflow_sub-result c).Start)

pub overflow_add-column : goal.overflow_add-column
overflow_add-column c = omega (arith, area _ c.requires.sized, column_most (goal.at.overflow_add-column c).Start)

pub overflow_add-result : goal.overflow_add-result
overflow_add-result c = omega (arith, area _ c.requires.sized)

pub overflow_add-cell : goal.overflow_add-cell
overflow_add-cell c = omega (arith, area _ c.requires.sized, sides _ c.requires.sized)
