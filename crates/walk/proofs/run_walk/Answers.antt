use Prim.Native.Nat.{◌-◌, min}
use mathlib.Core.Path.{◌≡◌, refl}
use Rattle.std.proofs.Common.{rules}
use native.Mathlib.Omega.{arith}
use lib.ListN.{length}
use borrow.Rule.Slice.PartMut.{put_mid}
use Rattle.std.specs.Prelude.{Ok}
use Rattle.floor.specs.declared.MoveLimit.{MoveLimit}
use Rattle.refusals.specs.Given.{given}
use Rattle.leg.specs.Promise.{LegPromise}
use Rattle.walk.proofs.Lending.{lent}
use Rattle.floor.specs.declared.Ending.TheVariants.{CutOff}
use Rattle.walk.specs.declared.WalkDone.{WalkDone}
use Rattle.walk.specs.Counting.{counted}
use Rattle.walk.proofs.Going.{Turned, cart_few, begins, arrived, spent}
use Rattle.walk.proofs.Advancing.{lent_task, accepts, turned}
use Rattle.walk.proofs.Keeping.{promised}
use Rattle.walk.proofs.run_walk.Given.{Over}
use Rattle.walk.proofs.run_walk.Goals.{After-run_leg-leg}
use Rattle.walk.proofs.run_walk.Goals as goal

pub begun-walked-requires : goal.begun-walked-requires
begun-walked-requires g c = cart_few c.args.task _ _ _ _ _ c.requires.accepted

pub loop-cell-init : goal.loop-cell-init
loop-cell-init g c = record { going = rw c.begun-walked.ensures (begins c.args.task _ _ _ _ _ c.requires.accepted); clean = c.requires.clean }

pub run_leg-leg-requires : goal.run_leg-leg-requires
run_leg-leg-requires g c =
    let accepted = accepts c.args.task _ _ _ _ _ c.requires.accepted _ _ _ _ c.loop-cell.invariant.going c.if-cell-task.false c.if-made-allowance.false _ refl in
    rw c.leg_task-now.ensures (omega arith, (accepted, (c.requires.fits, c.loop-cell.invariant.clean)))

-- what the leg has made of the walk, by the count after it
abbrev After : (g : Over) → After-run_leg-leg g → WalkDone → Type 0
After g c t =
    let a = c.args in
    let here = c.loop-cell in
    let l = c.run_leg-leg in
    let trail = put_mid here.walked.moves (length here.trail - here.walked.moves) here.trail l.new.trail in
    Turned a.task a.known.now a.est.now a.cart a.allowance a.trail.now here.walked l.new.known l.new.est trail t l.result.ending

-- how many moves it may make
abbrev left_of : (g : Over) → After-run_leg-leg g → MoveLimit
left_of g c = record { 0 = min c.args.task.setting.limit.0 (c.args.allowance - c.loop-cell.walked.moves) }

leg_made : (g : Over) (c : After-run_leg-leg g) (t : WalkDone) → t ≡ counted c.loop-cell.walked c.run_leg-leg.result → After g c t
leg_made g c t e =
    let l = c.run_leg-leg in
    let promise : LegPromise (given (lent_task c.args.task (left_of g c)) c.loop-cell.known c.loop-cell.est c.loop-cell.walked.cell (lent c.loop-cell.walked.moves c.loop-cell.trail)) (Ok l.result) l.new.known l.new.est l.new.trail =
    rw (← c.leg_task-now.ensures) l.ensures.leg_promise in
    rw e (turned c.args.task _ _ _ _ _ c.requires.accepted _ _ _ _ c.loop-cell.invariant.going c.if-cell-task.false c.if-made-allowance.false (left_of g c) refl _ _ _ _ promise)

pub counted-walked-requires : goal.counted-walked-requires
counted-walked-requires g c = (leg_made g (goal.at.counted-walked-requires g c).After-run_leg-leg _ refl).totals

pub loop-cell-smaller : goal.loop-cell-smaller
loop-cell-smaller g c =
    let on : c.run_leg-leg.result.ending ≡ CutOff → ⊥ = search rules in
    ((leg_made g (goal.at.loop-cell-smaller g c).After-run_leg-leg _ c.counted-walked.ensures).going on).0

pub loop-cell-preserved : goal.loop-cell-preserved
loop-cell-preserved g c =
    let on : c.run_leg-leg.result.ending ≡ CutOff → ⊥ = search rules in
    record {
      going = ((leg_made g (goal.at.loop-cell-preserved g c).After-run_leg-leg _ c.counted-walked.ensures).going on).1;
      clean = c.run_leg-leg.ensures.clean;
    }

pub returns-then-cell-task-clause-walk_promise : goal.returns-then-cell-task-clause-walk_promise
returns-then-cell-task-clause-walk_promise g c =
    let ok = c.requires.accepted in
    promised c.args.task _ _ _ _ _ ok _ _ _ _ _ (arrived c.args.task _ _ _ _ _ ok _ _ _ _ c.loop-cell.invariant.going c.if-cell-task.true)

pub returns-then-made-allowance-clause-walk_promise : goal.returns-then-made-allowance-clause-walk_promise
returns-then-made-allowance-clause-walk_promise g c =
    let ok = c.requires.accepted in
    promised c.args.task _ _ _ _ _ ok _ _ _ _ _ (spent c.args.task _ _ _ _ _ ok _ _ _ _ c.loop-cell.invariant.going c.if-cell-task.false c.if-made-allowance.true)

pub returns-then-eq-clause-walk_promise : goal.returns-then-eq-clause-walk_promise
returns-then-eq-clause-walk_promise g c =
    let cut : c.run_leg-leg.result.ending ≡ CutOff = search rules in
    promised c.args.task _ _ _ _ _ c.requires.accepted _ _ _ _ _ ((leg_made g (goal.at.returns-then-eq-clause-walk_promise g c).After-run_leg-leg _ c.counted-walked.ensures).cut cut)
