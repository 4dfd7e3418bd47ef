use native.Mathlib.Omega.{arith}
use lib.ListN.{length-set}
use Rattle.floor.specs.Floor.{prepared}
use Rattle.floor.proofs.Boards.{filled_none, filled_more, filled_all}
use Rattle.floor.proofs.fill.Goals as goal

pub loop-cell-init : goal.loop-cell-init
loop-cell-init c = (omega arith, filled_none _ _)

pub loop-cell-preserved : goal.loop-cell-preserved
loop-cell-preserved c =
    let i = c.loop-cell.invariant in
    (rw length-set i.0, filled_more _ _ _ _ (omega arith) (grind (arith, c.manhattan.ensures)) i.1)

pub returns : goal.returns
unfolding prepared
returns c = filled_all _ _ _ _ c.loop-cell.invariant.0 (omega arith) c.loop-cell.invariant.1
