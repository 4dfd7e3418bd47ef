-- A cell's byte stands where lawful rows have it.
use mathlib.Core.Path.{◌∙◌}
use native.Mathlib.Omega.{arith}
use Rattle.floor.specs.Floor.{cells}
use Rattle.floor.proofs.Geometry.{sides, area}
use Rattle.trip_text.proofs.Rows.{below, cell_within, marks}
use Rattle.trip_text.proofs.Drawing.cell_byte.Goals as goal

pub nonzero_div-cell : goal.nonzero_div-cell
nonzero_div-cell c = omega (arith, (sides _ c.args.self.grid.sized).some_width)

pub overflow_add-cell : goal.overflow_add-cell
unfolding cells
overflow_add-cell c =
    let s = sides _ c.args.self.grid.sized in
    omega (arith, below _ _ _ c.args.self.lawful _ s.some_width c.requires, s.height_most, area _ c.args.self.grid.sized, c.requires)

pub bounds-self-cell : goal.bounds-self-cell
unfolding cells
bounds-self-cell c = cell_within _ _ _ c.args.self.lawful _ (sides _ c.args.self.grid.sized).some_width c.requires

pub returns : goal.returns
unfolding cells
returns c = c.from.ensures ∙ marks _ _ _ c.args.self.lawful _ (sides _ c.args.self.grid.sized).some_width c.requires
