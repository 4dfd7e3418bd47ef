-- What is still to be driven from here, after the moves made, is what was asked for.
use mathlib.Core.Path.{◌≡◌}
use Rattle.floor.specs.Floor.{blocked}
use Rattle.rules.specs.Leg.{sense}
use Rattle.leg.specs.Moving.{IsKnownMap}
use Rattle.leg.proofs.Driving.{Going}
use Rattle.leg.proofs.drive.Given as goal

abbrev pub invariant-loop-place : goal.invariant-loop-place
invariant-loop-place l =
    let r = l.racks in
    record {
      known_map : IsKnownMap r.grid.floor l.known;
      counted : l.drove.moves ≡ l.place;
      going : Going (sense r.grid.floor (blocked r.plan.now)) l.limit l.route l.cart (blocked l.initial.known) l.initial.trail l.place l.drove.cell (blocked l.known) l.trail;
    }
