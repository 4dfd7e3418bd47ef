-- What is refused is told; what is admitted is run in a room that is empty.
use native.Mathlib.Omega.{arith}
use Rattle.std.proofs.lemmas.Result.{err_from_is_err_and}
use Rattle.floor.proofs.Geometry.{area}
use Rattle.rules.specs.Request.{leg_refusal}
use Rattle.refusals.specs.Given.{given}
use Rattle.leg.proofs.Running.{tested, refuses}
use Rattle.leg.proofs.leg.Goals as goal

pub returns-in_err-admit : goal.returns-in_err-admit
unfolding leg_refusal given
returns-in_err-admit c =
    let h = c.in_err-admit.ensures.refuses in
    let p = err_from_is_err_and c.from_residual.result c.from_residual.ensures.1 in
    rw (p.1, p.2) (refuses c.args.task _ _ _ _ _ h.0 h.1)

pub run_leg-requires : goal.run_leg-requires
unfolding leg_refusal given
run_leg-requires c =
    let ok = c.in_ok-admit.ensures.accepts in
    (omega arith, (ok, (omega (arith, area _ (tested c.args.task _ _ _ _ ok).sized), c.new-room.ensures)))
