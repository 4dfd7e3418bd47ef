-- The code's tests are the definition's, one after another; but that it tests in one that ending and place say the same.
use Rattle.std.proofs.Common.{◌≡◌, Bool, true, false, not, ◌&&◌, ◌||◌, ◌∙◌, refl}
use mathlib.Core.Bool.{beq}
use Rattle.rules.specs.Record.{values_ok}
use Rattle.records.proofs.Ranges.{in_range}
use Rattle.records.proofs.values_hold.Goals as goal

both_ways : (others arrived at_goal : Bool) → (others && beq arrived at_goal) ≡ (others && (not arrived || at_goal) && (not at_goal || arrived))
both_ways false arrived at_goal = refl
both_ways true true true = refl
both_ways true true false = refl
both_ways true false true = refl
both_ways true false false = refl

pub returns : goal.returns
unfolding values_ok
returns c =
    let ending = c.contains.ensures.value ∙ in_range c.new.result 3 _ c.new.ensures.start c.new.ensures.end c.new.ensures.exhausted in
    let look = c.contains-2.ensures.value ∙ in_range c.new-2.result 4096 _ c.new-2.ensures.start c.new-2.ensures.end c.new-2.ensures.exhausted in
    let limit = c.contains-3.ensures.value ∙ in_range c.new-3.result 4096 _ c.new-3.ensures.start c.new-3.ensures.end c.new-3.ensures.exhausted in
    rw (ending, look, limit, both_ways) refl
