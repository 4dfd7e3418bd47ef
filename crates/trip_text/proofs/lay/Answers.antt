-- The trip's maps, each at the front of what was lent.
use Rattle.std.proofs.Common.{◌≡◌, ◌∙◌, ◌≤◌, ℕ, List, length, take, sym, arith, length-take-le}
use Rattle.floor.proofs.Geometry.{area}
use Rattle.floor.proofs.Boards.{length-tabulate}
use Rattle.trip_text.proofs.Laying.{onto, prepared_front}
use Rattle.trip_text.proofs.lay.Goals.{After-cells-cells}
use Rattle.trip_text.proofs.lay.Goals as goal

few : (c : After-cells-cells) → c.cells-cells.result ≤ 4096
few c = omega (arith, c.cells-cells.ensures, area c.args.drawing.grid.floor c.args.drawing.grid.sized)

front_long : (c : After-cells-cells) (lent : List ℕ) → length lent ≡ 4096 → c.cells-cells.result ≡ length (take c.cells-cells.result lent)
front_long c lent l = sym (length-take-le c.cells-cells.result lent (omega (arith, few c, l)))

pub slice_bounds-draw-end : goal.slice_bounds-draw-end
slice_bounds-draw-end c = omega (arith, few (goal.at.slice_bounds-draw-end c).After-cells-cells, c.requires.lent.0)

pub slice_bounds-draw-end-2 : goal.slice_bounds-draw-end-2
slice_bounds-draw-end-2 c = front_long (goal.at.slice_bounds-draw-end-2 c).After-cells-cells _ c.requires.lent.0

pub slice_bounds-draw-end-3 : goal.slice_bounds-draw-end-3
slice_bounds-draw-end-3 c = omega (arith, few (goal.at.slice_bounds-draw-end-3 c).After-cells-cells, c.requires.lent.1)

pub slice_bounds-draw-end-4 : goal.slice_bounds-draw-end-4
slice_bounds-draw-end-4 c = front_long (goal.at.slice_bounds-draw-end-4 c).After-cells-cells _ c.requires.lent.1

pub draw-requires : goal.draw-requires
draw-requires c =
    let at = (goal.at.draw-requires c).After-cells-cells in
    (sym (front_long at _ c.requires.lent.0) ∙ c.cells-cells.ensures, sym (front_long at _ c.requires.lent.1) ∙ c.cells-cells.ensures)

pub slice_bounds-prepare-end : goal.slice_bounds-prepare-end
slice_bounds-prepare-end c = omega (arith, few (goal.at.slice_bounds-prepare-end c).After-cells-cells, c.requires.lent.2)

pub slice_bounds-prepare-end-2 : goal.slice_bounds-prepare-end-2
slice_bounds-prepare-end-2 c = front_long (goal.at.slice_bounds-prepare-end-2 c).After-cells-cells _ c.requires.lent.2

pub returns-clause-plan : goal.returns-clause-plan
returns-clause-plan c = rw c.requires.floor at (onto _ _ c.args.plan.now c.cells-cells.result c.draw.ensures.plan (c.cells-cells.ensures ∙ sym (length-tabulate _ _)))

pub returns-clause-known : goal.returns-clause-known
returns-clause-known c = rw c.requires.floor at (onto _ _ c.args.known.now c.cells-cells.result c.draw.ensures.known (c.cells-cells.ensures ∙ sym (length-tabulate _ _)))

pub returns-clause-est : goal.returns-clause-est
returns-clause-est c =
    let at = (goal.at.returns-clause-est c).After-cells-cells in
    let long = rw c.requires.floor at c.cells-cells.ensures in
    prepared_front c.args.errand.floor c.args.errand.goal c.args.est.now _ c.cells-cells.result _
    (rw c.requires.floor at c.args.drawing.grid.sized) c.requires.goal long (front_long at _ c.requires.lent.2) c.prepare.ensures
