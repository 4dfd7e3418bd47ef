-- On the goal, cut off or onward, the leg is the rules' own.
use Prim.Native.Nat.{◌<◌}
use mathlib.Core.Path.{◌∙◌}
use native.Mathlib.Omega.{arith}
use Rattle.floor.specs.Floor.{cells}
use Rattle.floor.proofs.Geometry.{area}
use Rattle.refusals.specs.Given.{given}
use Rattle.leg.proofs.Marking.{map_kept}
use Rattle.leg.proofs.Running.{tested, known_map, plan_bytes, within_most, on_goal, cut_count, cut_off, opened_few, moves_short, route_laid, went, sound_still, free_still}
use Rattle.leg.proofs.run_leg.Given.{Over}
use Rattle.leg.proofs.run_leg.Goals.{Start}
use Rattle.leg.proofs.run_leg.Goals as goal

-- the cart is on the floor
inside : (g : Over) (c : Start g) → c.args.cart < cells c.args.task.floor
unfolding given
inside g c = (tested c.args.task _ _ _ _ c.requires.accepted).inside

on_floor : (g : Over) (c : Start g) → c.args.cart < 4096
unfolding given
on_floor g c = omega (arith, inside g c, area _ (tested c.args.task _ _ _ _ c.requires.accepted).sized)

pub stayed-requires : goal.stayed-requires
stayed-requires g c = (omega (arith, on_floor g (goal.at.stayed-requires g c).Start), omega arith)

pub returns-then-cart-task-clause-leg_promise : goal.returns-then-cart-task-clause-leg_promise
returns-then-cart-task-clause-leg_promise g c = rw c.stayed.ensures (on_goal _ _ _ _ _ c.requires.accepted c.if-cart-task.true)

pub invariant_of-grid : goal.invariant_of-grid
unfolding given
invariant_of-grid g c = record { sized = (tested c.args.task _ _ _ _ c.requires.accepted).sized }

pub invariant_of-racks : goal.invariant_of-racks
unfolding given
invariant_of-racks g c = record { long = (tested c.args.task _ _ _ _ c.requires.accepted).plan_long; bytes = plan_bytes c.args.task _ _ _ _ c.requires.accepted }

pub sense-requires : goal.sense-requires
sense-requires g c = (known_map c.args.task _ _ _ _ c.requires.accepted, inside g (goal.at.sense-requires g c).Start)

pub episode-planned-requires : goal.episode-planned-requires
unfolding given
episode-planned-requires g c =
    let ok = c.requires.accepted in
    let off = c.if-cart-task.false in
    let t = tested c.args.task _ _ _ _ ok in
    let free = free_still c.args.task _ _ _ _ ok off _ _ c.sense.ensures in
    let sound = sound_still c.args.task _ _ _ _ ok off _ _ c.sense.ensures in
    (omega arith, (c.requires.fits, ((omega (arith, t.known_long), t.est_long), (((within_most c.args.task _ _ _ _ ok).0, t.inside, c.requires.clean), (free, sound)))))

pub stayed-requires-in-None : goal.stayed-requires-in-None
stayed-requires-in-None g c = (
  omega (arith, on_floor g (goal.at.stayed-requires-in-None g c).Start),
  omega (arith, cut_count c.args.task _ _ _ _ c.requires.accepted c.if-cart-task.false _ _ c.sense.ensures _ _ _ c.episode-planned.ensures c.in-None.is),
)

pub route-requires : goal.route-requires
route-requires g c = omega (arith, moves_short c.args.task _ _ _ _ c.requires.accepted c.if-cart-task.false _ _ c.sense.ensures _ _ _ c.episode-planned.ensures _ c.in-Some.is, c.requires.fits)

pub follow-requires : goal.follow-requires
unfolding given
follow-requires g c =
    let ok = c.requires.accepted in
    let off = c.if-cart-task.false in
    let l = route_laid c.args.task _ _ _ _ ok off _ _ c.sense.ensures _ _ _ c.episode-planned.ensures _ c.in-Some.is in
    record {
      known_map = (map_kept (known_map c.args.task _ _ _ _ ok) (omega arith) c.sense.ensures.bytes, inside g (goal.at.follow-requires g c).Start);
      route = (rw c.route.ensures l.on_floor, (tested c.args.task _ _ _ _ ok).room);
      free = rw c.route.ensures l.free;
      few = ((within_most c.args.task _ _ _ _ ok).1, opened_few c.args.task _ _ _ _ ok off _ _ c.sense.ensures _ _ _ c.episode-planned.ensures _ c.in-Some.is);
    }

pub returns-in-None : goal.returns-in-None
returns-in-None g c =
    let p = c.episode-planned.ensures in
    let off = c.if-cart-task.false in
    record {
      leg_promise = rw c.stayed-in-None.ensures (cut_off _ _ _ _ _ c.requires.accepted off _ _ c.sense.ensures _ _ _ p c.in-None.is c.sense.auto.known);
      clean = p.leaves.clean;
    }

pub returns-in-Some : goal.returns-in-Some
returns-in-Some g c =
    let p = c.episode-planned.ensures in
    let off = c.if-cart-task.false in
    record {
      leg_promise = went _ _ _ _ _ c.requires.accepted off _ _ c.sense.ensures _ _ _ p _ c.in-Some.is _ _ _ (rw c.route.ensures at c.follow.ensures) (c.follow.auto.known ∙ c.sense.auto.known);
      clean = p.leaves.clean;
    }
