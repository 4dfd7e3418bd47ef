-- The goal's test, the bound's and the two passes are the rule.
use Rattle.std.proofs.Common.{◌∙◌, sym}
use native.Mathlib.Omega.{arith}
use Rattle.floor.specs.Floor.{value_at}
use Rattle.floor.proofs.Geometry.{sides}
use Rattle.refusals.proofs.Adjoining.{first_row, sound_passes}
use Rattle.refusals.proofs.maps.Maps.sound_holds.Goals as goal

pub returns : goal.returns
unfolding value_at
returns c =
    let m = c.args.self.now in
    sound_passes _ _ _ (sides _ m.grid.sized).some_width _ _ _ _
    c.low_holds.ensures
    c.rows_hold.ensures
    (rw m.known_long at c.pairs_hold.ensures)

pub pairs_hold-requires : goal.pairs_hold-requires
pairs_hold-requires c =
    let m = c.args.self.now in
    (omega (arith, first_row _ m.grid.sized, m.known_long), m.known_long ∙ sym m.est_long)
