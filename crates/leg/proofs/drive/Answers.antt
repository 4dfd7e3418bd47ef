use mathlib.Core.Path.{◌≡◌, ◌∙◌, refl, sym}
use Rattle.std.specs.Prelude.{slice_index, take, ◌<◌, length}
use Rattle.std.proofs.lemmas.List.{get_or-take, length-take, take_rest}
use native.Mathlib.Omega.{arith}
use Rattle.floor.proofs.Geometry.{area}
use Rattle.leg.proofs.Marking.{map_kept}
use Rattle.leg.proofs.Looking.{barred_later, on_floor_later}
use Rattle.leg.proofs.Driving.{going_none, going_on, arrives, halts}
use Rattle.leg.proofs.drive.Goals.{In-loop-place}
use Rattle.leg.proofs.drive.Goals as goal

-- the place is one of the route and below the limit, and the cell is the route's there
placed : (c : In-loop-place) → (c.loop-place.place < length c.args.route.now) × (c.loop-place.place < c.args.limit)
placed c =
    let l = length-take c.min-most.result c.args.route.now in
    (omega arith, omega arith)

cell_is : (c : In-loop-place) → slice_index (take c.min-most.result c.args.route.now) c.loop-place.place ≡ slice_index c.args.route.now c.loop-place.place
cell_is c =
    let l = length-take c.min-most.result c.args.route.now in
    get_or-take c.min-most.result c.args.route.now c.loop-place.place 0 (omega arith)

pub overflow_cast-drove : goal.overflow_cast-drove
overflow_cast-drove c = omega (arith, area _ c.args.racks.now.grid.sized)

pub loop-place-init : goal.loop-place-init
loop-place-init c = record {
  known_map = c.requires.known_map.0;
  counted = refl;
  going = going_none _ _ _ _ _ _ _ refl c.requires.free;
}

pub sense_and_look-requires : goal.sense_and_look-requires
sense_and_look-requires c =
    let p = (goal.at.sense_and_look-requires c).In-loop-place in
    let i = c.loop-place.invariant in
    record {
      known_map = (i.known_map, rw (c.from.ensures, cell_is p) (c.requires.route.0 _ 0 (placed p).0));
      on_floor = rw take_rest (on_floor_later _ _ _ c.requires.route.0);
      free = rw take_rest (barred_later _ _ _ (placed p).0 i.going.free);
    }

pub loop-place-preserved : goal.loop-place-preserved
loop-place-preserved c =
    let p = (goal.at.loop-place-preserved c).In-loop-place in
    let i = c.loop-place.invariant in
    let s = c.sense_and_look.ensures in
    record {
      known_map = map_kept i.known_map (omega arith) s.bytes;
      counted = refl;
      going = going_on _ _ _ _ _ _ _ _ _ _ _ i.going _ (placed p).1 (placed p).0 c.requires.route.1 (cell_is p) (rw c.from.ensures at s.seen) (rw take_rest at (sym s.looks ∙ c.if-sense_and_look.false));
    }

pub returns-after-loop-place : goal.returns-after-loop-place
returns-after-loop-place c =
    let i = c.loop-place.invariant in
    let l = length-take c.min-most.result c.args.route.now in
    arrives _ _ _ _ _ _ _ _ _ _ _ i.going (omega arith) (omega (arith, c.requires.route.1)) refl i.counted i.known_map.bytes

pub returns-then-sense_and_look : goal.returns-then-sense_and_look
returns-then-sense_and_look c =
    let p = (goal.at.returns-then-sense_and_look c).In-loop-place in
    let s = c.sense_and_look.ensures in
    halts _ _ _ _ _ _ _ _ _ _ _ _ c.loop-place.invariant.going _ (placed p).1 (placed p).0 c.requires.route.1 (cell_is p) (rw c.from.ensures at s.seen) (rw take_rest at (sym s.looks ∙ c.if-sense_and_look.true)) refl refl s.bytes
