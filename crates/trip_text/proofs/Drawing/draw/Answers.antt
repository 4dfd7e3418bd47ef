use mathlib.Core.Path.{◌∙◌, refl}
use native.Mathlib.Omega.{arith}
use lib.ListN.{length-set}
use Rattle.floor.specs.Floor.{cells, value_at}
use Rattle.floor.proofs.Boards.{Filled, filled_none, filled_more, filled_all}
use Rattle.trip_text.proofs.Drawing.draw.Goals as goal

pub loop-cell-init : goal.loop-cell-init
loop-cell-init c = (c.requires.0, filled_none _ _)

pub loop-cell-preserved : goal.loop-cell-preserved
loop-cell-preserved c =
    let i = c.loop-cell.invariant in
    (rw length-set i.0, filled_more _ _ _ _ (omega arith) c.cell_byte.ensures i.1)

pub returns-clause-plan : goal.returns-clause-plan
returns-clause-plan c = filled_all _ _ _ _ c.loop-cell.invariant.0 (omega arith) c.loop-cell.invariant.1

pub returns-clause-known : goal.returns-clause-known
unfolding value_at Filled
returns-clause-known c = filled_all _ _ (cells c.args.self.grid.floor) _ (c.fill.ensures.len ∙ c.requires.1) (omega arith) (λ k lt. c.fill.ensures.clones k 0 (omega arith) refl)
