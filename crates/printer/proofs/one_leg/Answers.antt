-- The leg is given what the definition's leg is, and each answer is told as the definition tells it.
use Prim.Native.Nat.{◌≤◌}
use mathlib.Core.Path.{refl}
use native.Mathlib.Omega.{arith}
use lib.ListN.{length-take}
use Rattle.floor.proofs.Geometry.{area}
use Rattle.printer.specs.Parts.{said_by}
use Rattle.printer.proofs.Making.{Hosting, hosting, zeros}
use Rattle.printer.proofs.one_leg.Goals.{After-leg_for-hosted, Start}
use Rattle.printer.proofs.one_leg.Goals as goal

-- the maps hold the floor
holds : (c : Start) → c.args.n ≤ 4096
holds c = let due = c.requires.due in omega (arith, due.long, area _ due.sized)

pub slice_bounds-task-end : goal.slice_bounds-task-end
slice_bounds-task-end c = simp length-take (omega (arith, holds (goal.at.slice_bounds-task-end c).Start, c.requires.lent.plan_long))

pub slice_bounds-leg_for-end : goal.slice_bounds-leg_for-end
slice_bounds-leg_for-end c = omega (arith, holds (goal.at.slice_bounds-leg_for-end c).Start, c.requires.lent.known_long)

pub slice_bounds-leg_for-end-2 : goal.slice_bounds-leg_for-end-2
slice_bounds-leg_for-end-2 c = simp length-take (omega (arith, holds (goal.at.slice_bounds-leg_for-end-2 c).Start, c.requires.lent.known_long))

pub slice_bounds-leg_for-end-3 : goal.slice_bounds-leg_for-end-3
slice_bounds-leg_for-end-3 c = omega (arith, holds (goal.at.slice_bounds-leg_for-end-3 c).Start, c.requires.lent.est_long)

pub slice_bounds-leg_for-end-4 : goal.slice_bounds-leg_for-end-4
slice_bounds-leg_for-end-4 c = simp length-take (omega (arith, holds (goal.at.slice_bounds-leg_for-end-4 c).Start, c.requires.lent.est_long))

-- what the leg was given is the definition's request
hosted : (c : After-leg_for-hosted)
    → Hosting c.args.errand c.args.cart c.args.n c.args.plan.now c.args.known.now c.args.est.now c.leg_for-hosted.result c.leg_for-hosted.new.known c.leg_for-hosted.new.est
hosted c =
    hosting c.args.errand c.args.cart c.args.n c.args.plan.now c.args.known.now c.args.est.now c.requires.due
    c.leg_limit-most.result c.leg_limit-most.ensures _ refl _ (zeros 4096)
    c.leg_for-hosted.result c.leg_for-hosted.new.known c.leg_for-hosted.new.est c.leg_for-hosted.new.trail c.leg_for-hosted.ensures

pub returns-in-Ok : goal.returns-in-Ok
unfolding said_by
returns-in-Ok c = (hosted (goal.at.returns-in-Ok c).After-leg_for-hosted).leg _ _ c.in-Ok.is c.leg_made.ensures

pub returns-in-Err : goal.returns-in-Err
returns-in-Err c = (hosted (goal.at.returns-in-Err c).After-leg_for-hosted).refusal _ c.in-Err.is
