-- The loop goes on while the cells are open, and stops at the end or at a blocked cell.
use Prim.Native.Nat.{◌<◌}
use mathlib.Core.Path.{◌∙◌, refl}
use native.Mathlib.Omega.{arith}
use lib.ListN.{length}
use Rattle.leg.proofs.Looking.{at_end, at_blocked, at_open}
use Rattle.leg.proofs.racks.first_blocked.Goals.{Else-place-route}
use Rattle.leg.proofs.racks.first_blocked.Goals as goal

pub loop-place-init : goal.loop-place-init
loop-place-init c = (omega arith, refl)

-- the place is on the route
ahead : (c : Else-place-route) → c.loop-place.place < length c.args.route.now
ahead c = omega (arith, c.loop-place.invariant.0, c.if-place-route.false)

pub bounds-route-place : goal.bounds-route-place
bounds-route-place c = ahead (goal.at.bounds-route-place c).Else-place-route

pub bounds-known-cell : goal.bounds-known-cell
bounds-known-cell c = omega (arith, c.requires.1 c.loop-place.place 0 (ahead (goal.at.bounds-known-cell c).Else-place-route), c.from-cell.ensures)

pub loop-place-preserved : goal.loop-place-preserved
loop-place-preserved c =
    let lt = ahead (goal.at.loop-place-preserved c).Else-place-route in
    (omega (arith, lt), at_open _ _ _ lt (rw c.from-cell.ensures at c.if-known-cell-eq1.false) ∙ c.loop-place.invariant.1)

pub returns-then-place-route : goal.returns-then-place-route
returns-then-place-route c = at_end _ _ _ c.if-place-route.true ∙ c.loop-place.invariant.1

pub returns-then-known-cell-eq1 : goal.returns-then-known-cell-eq1
returns-then-known-cell-eq1 c =
    at_blocked _ _ _ (ahead (goal.at.returns-then-known-cell-eq1 c).Else-place-route) (rw c.from-cell.ensures at c.if-known-cell-eq1.true) ∙ c.loop-place.invariant.1
