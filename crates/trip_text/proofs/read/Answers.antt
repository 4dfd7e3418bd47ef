-- What is heard is answered, and only a trip is laid out.
use Rattle.std.proofs.Common.{◌∙◌, sym}
use Rattle.trip_text.specs.Heard.{told, laid}
use Rattle.trip_text.proofs.Laying.{aims, plan_laid, known_laid, est_laid, nothing_laid, tabled_still}
use Rattle.trip_text.proofs.read.Goals as goal

pub returns-in_err-errand : goal.returns-in_err-errand
returns-in_err-errand c =
    let heard = c.in_err-errand.ensures in
    record { read_promise = nothing_laid _ _ _ _ _ _ c.from_residual.ensures heard.0; tabled = tabled_still _ _ c.from_residual.ensures heard.1 }

pub lay-requires-clause-goal : goal.lay-requires-clause-goal
lay-requires-clause-goal c = let trip = c.in_ok-errand.ensures in aims _ _ trip.0

pub returns-clause-read_promise : goal.returns-clause-read_promise
unfolding told laid
returns-clause-read_promise c =
    let trip = c.in_ok-errand.ensures in
    record {
      answers = sym trip.0;
      draws = c.lay.ensures.plan ∙ plan_laid _ _ trip.0 _ _ trip.2;
      opens = c.lay.ensures.known ∙ known_laid _ _ trip.0 _;
      prepares = c.lay.ensures.est ∙ est_laid _ _ trip.0 _;
    }
