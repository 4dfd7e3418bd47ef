-- The entry's promise, told.
use Rattle.std.proofs.Common.{rules, ◌≡◌, ◌∙◌, ap, [], ◌∷◌}
use Rattle.std.specs.Prelude.{MatchResult}
use Rattle.planner.specs.Interface.{values}
use Rattle.planner.proofs.Telling.{values_told}
use Rattle.planner.proofs.wexlund_record_read.Goals as goal

pub returns : goal.returns
returns c =
    let p = c.read-answer.ensures in
    let m : MatchResult c.read-answer.result (λ t. c.map_or.result ≡ values t) (λ r. c.map_or.result ≡ 0 ∷ 0 ∷ 0 ∷ 0 ∷ 0 ∷ 0 ∷ 0 ∷ 0 ∷ 0 ∷ 0 ∷ []) = search rules in
    record { answers = c.refused.ensures ∙ p.answers; tells = values_told c.read-answer.result c.map_or.result m ∙ ap values p.values }
