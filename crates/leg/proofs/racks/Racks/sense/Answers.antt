-- Four headings, one after another, sense all neighbours.
use native.Mathlib.Omega.{arith}
use mathlib.Core.Path.{◌≡◌, refl}
use Rattle.leg.proofs.Marking.{heading_at, marked_none, marked_more, marked_all}
use Rattle.leg.proofs.racks.Racks.sense.Goals as goal

pub loop-heading-init : goal.loop-heading-init
loop-heading-init c = marked_none _ _ _ _ c.requires.0.bytes

pub loop-heading-preserved : goal.loop-heading-preserved
unfolding heading_at
loop-heading-preserved c = marked_more _ _ _ _ _ _ _ _ _ _ c.loop-heading.invariant refl c.mark-new.ensures

pub returns : goal.returns
returns c =
    let i = c.loop-heading in
    let all : i.heading-index ≡ 4 = omega arith in
    marked_all _ _ _ _ _ _ c.args.self.now.grid.sized c.requires.1 (rw all at i.invariant)
