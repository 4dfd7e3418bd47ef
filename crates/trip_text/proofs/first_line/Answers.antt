-- Word by word: the next one is a number in its place, and after seven there is none.
use Rattle.std.proofs.Common.{◌∙◌, refl, sym, arith, rules}
use borrow.Author.Tests.{tests}
use Rattle.trip_text.specs.Heard.{errand_at}
use Rattle.trip_text.specs.Parts.{in_place}
use Rattle.trip_text.proofs.Splitting.{all_left}
use Rattle.trip_text.proofs.FirstLines.{none_read, none_next, next_number, one_too_many, by_allowance, too_far, lawful}
use Rattle.trip_text.proofs.first_line.Goals.{then-is_some-via-then-is_some, then-is_some-via-else-is_some+then-allowance-gt-MOST_MOVES}
use Rattle.trip_text.proofs.first_line.Goals as goal

pub returns-in_err-width : goal.returns-in_err-width
unfolding in_place
returns-in_err-width c =
    let r0 = none_read c.args.line.now _ (all_left 32 _ _ _ c.split-words.ensures.done c.split-words.ensures.rest) in
    c.from_residual.ensures ∙ none_next c.args.line.now 0 _ _ _ _ r0 c.next.ensures.steps (λ x u q k. search (rules, tests)) (omega arith) (sym c.in_err-width.was ∙ c.number.ensures)

pub returns-in_err-height : goal.returns-in_err-height
unfolding in_place
returns-in_err-height c =
    let r0 = none_read c.args.line.now _ (all_left 32 _ _ _ c.split-words.ensures.done c.split-words.ensures.rest) in
    let r1 = next_number c.args.line.now 0 _ _ _ _ r0 c.next.ensures.steps (λ x u q k. search (rules, tests)) _ (sym c.in_ok-width.was ∙ c.number.ensures) in
    c.from_residual-in_err-height.ensures ∙ none_next c.args.line.now 1 _ _ _ _ r1.0 c.next-2.ensures.steps (λ x u q k. search (rules, tests)) (omega arith) (sym c.in_err-height.was ∙ c.number-2.ensures)

pub returns-in_err-start : goal.returns-in_err-start
unfolding in_place
returns-in_err-start c =
    let r0 = none_read c.args.line.now _ (all_left 32 _ _ _ c.split-words.ensures.done c.split-words.ensures.rest) in
    let r1 = next_number c.args.line.now 0 _ _ _ _ r0 c.next.ensures.steps (λ x u q k. search (rules, tests)) _ (sym c.in_ok-width.was ∙ c.number.ensures) in
    let r2 = next_number c.args.line.now 1 _ _ _ _ r1.0 c.next-2.ensures.steps (λ x u q k. search (rules, tests)) _ (sym c.in_ok-height.was ∙ c.number-2.ensures) in
    c.from_residual-in_err-start.ensures ∙ none_next c.args.line.now 2 _ _ _ _ r2.0 c.next-3.ensures.steps (λ x u q k. search (rules, tests)) (omega arith) (sym c.in_err-start.was ∙ c.number-3.ensures)

pub returns-in_err-goal : goal.returns-in_err-goal
unfolding in_place
returns-in_err-goal c =
    let r0 = none_read c.args.line.now _ (all_left 32 _ _ _ c.split-words.ensures.done c.split-words.ensures.rest) in
    let r1 = next_number c.args.line.now 0 _ _ _ _ r0 c.next.ensures.steps (λ x u q k. search (rules, tests)) _ (sym c.in_ok-width.was ∙ c.number.ensures) in
    let r2 = next_number c.args.line.now 1 _ _ _ _ r1.0 c.next-2.ensures.steps (λ x u q k. search (rules, tests)) _ (sym c.in_ok-height.was ∙ c.number-2.ensures) in
    let r3 = next_number c.args.line.now 2 _ _ _ _ r2.0 c.next-3.ensures.steps (λ x u q k. search (rules, tests)) _ (sym c.in_ok-start.was ∙ c.number-3.ensures) in
    c.from_residual-in_err-goal.ensures ∙ none_next c.args.line.now 3 _ _ _ _ r3.0 c.next-4.ensures.steps (λ x u q k. search (rules, tests)) (omega arith) (sym c.in_err-goal.was ∙ c.number-4.ensures)

pub returns-in_err-look : goal.returns-in_err-look
unfolding in_place
returns-in_err-look c =
    let r0 = none_read c.args.line.now _ (all_left 32 _ _ _ c.split-words.ensures.done c.split-words.ensures.rest) in
    let r1 = next_number c.args.line.now 0 _ _ _ _ r0 c.next.ensures.steps (λ x u q k. search (rules, tests)) _ (sym c.in_ok-width.was ∙ c.number.ensures) in
    let r2 = next_number c.args.line.now 1 _ _ _ _ r1.0 c.next-2.ensures.steps (λ x u q k. search (rules, tests)) _ (sym c.in_ok-height.was ∙ c.number-2.ensures) in
    let r3 = next_number c.args.line.now 2 _ _ _ _ r2.0 c.next-3.ensures.steps (λ x u q k. search (rules, tests)) _ (sym c.in_ok-start.was ∙ c.number-3.ensures) in
    let r4 = next_number c.args.line.now 3 _ _ _ _ r3.0 c.next-4.ensures.steps (λ x u q k. search (rules, tests)) _ (sym c.in_ok-goal.was ∙ c.number-4.ensures) in
    c.from_residual-in_err-look.ensures ∙ none_next c.args.line.now 4 _ _ _ _ r4.0 c.next-5.ensures.steps (λ x u q k. search (rules, tests)) (omega arith) (sym c.in_err-look.was ∙ c.number-5.ensures)

pub returns-in_err-limit : goal.returns-in_err-limit
unfolding in_place
returns-in_err-limit c =
    let r0 = none_read c.args.line.now _ (all_left 32 _ _ _ c.split-words.ensures.done c.split-words.ensures.rest) in
    let r1 = next_number c.args.line.now 0 _ _ _ _ r0 c.next.ensures.steps (λ x u q k. search (rules, tests)) _ (sym c.in_ok-width.was ∙ c.number.ensures) in
    let r2 = next_number c.args.line.now 1 _ _ _ _ r1.0 c.next-2.ensures.steps (λ x u q k. search (rules, tests)) _ (sym c.in_ok-height.was ∙ c.number-2.ensures) in
    let r3 = next_number c.args.line.now 2 _ _ _ _ r2.0 c.next-3.ensures.steps (λ x u q k. search (rules, tests)) _ (sym c.in_ok-start.was ∙ c.number-3.ensures) in
    let r4 = next_number c.args.line.now 3 _ _ _ _ r3.0 c.next-4.ensures.steps (λ x u q k. search (rules, tests)) _ (sym c.in_ok-goal.was ∙ c.number-4.ensures) in
    let r5 = next_number c.args.line.now 4 _ _ _ _ r4.0 c.next-5.ensures.steps (λ x u q k. search (rules, tests)) _ (sym c.in_ok-look.was ∙ c.number-5.ensures) in
    c.from_residual-in_err-limit.ensures ∙ none_next c.args.line.now 5 _ _ _ _ r5.0 c.next-6.ensures.steps (λ x u q k. search (rules, tests)) (omega arith) (sym c.in_err-limit.was ∙ c.limit.ensures)

pub returns-in_err-allowance : goal.returns-in_err-allowance
unfolding in_place
returns-in_err-allowance c =
    let r0 = none_read c.args.line.now _ (all_left 32 _ _ _ c.split-words.ensures.done c.split-words.ensures.rest) in
    let r1 = next_number c.args.line.now 0 _ _ _ _ r0 c.next.ensures.steps (λ x u q k. search (rules, tests)) _ (sym c.in_ok-width.was ∙ c.number.ensures) in
    let r2 = next_number c.args.line.now 1 _ _ _ _ r1.0 c.next-2.ensures.steps (λ x u q k. search (rules, tests)) _ (sym c.in_ok-height.was ∙ c.number-2.ensures) in
    let r3 = next_number c.args.line.now 2 _ _ _ _ r2.0 c.next-3.ensures.steps (λ x u q k. search (rules, tests)) _ (sym c.in_ok-start.was ∙ c.number-3.ensures) in
    let r4 = next_number c.args.line.now 3 _ _ _ _ r3.0 c.next-4.ensures.steps (λ x u q k. search (rules, tests)) _ (sym c.in_ok-goal.was ∙ c.number-4.ensures) in
    let r5 = next_number c.args.line.now 4 _ _ _ _ r4.0 c.next-5.ensures.steps (λ x u q k. search (rules, tests)) _ (sym c.in_ok-look.was ∙ c.number-5.ensures) in
    let r6 = next_number c.args.line.now 5 _ _ _ _ r5.0 c.next-6.ensures.steps (λ x u q k. search (rules, tests)) _ (sym c.in_ok-limit.was ∙ c.limit.ensures) in
    c.from_residual-in_err-allowance.ensures ∙ none_next c.args.line.now 6 _ _ _ _ r6.0 c.next-7.ensures.steps (λ x u q k. search (rules, tests)) (omega arith) (sym c.in_err-allowance.was ∙ c.number-6.ensures)

pub returns-then-is_some : goal.returns-then-is_some
unfolding in_place
returns-then-is_some c =
    let r0 = none_read c.args.line.now _ (all_left 32 _ _ _ c.split-words.ensures.done c.split-words.ensures.rest) in
    let r1 = next_number c.args.line.now 0 _ _ _ _ r0 c.next.ensures.steps (λ x u q k. search (rules, tests)) _ (sym c.in_ok-width.was ∙ c.number.ensures) in
    let r2 = next_number c.args.line.now 1 _ _ _ _ r1.0 c.next-2.ensures.steps (λ x u q k. search (rules, tests)) _ (sym c.in_ok-height.was ∙ c.number-2.ensures) in
    let r3 = next_number c.args.line.now 2 _ _ _ _ r2.0 c.next-3.ensures.steps (λ x u q k. search (rules, tests)) _ (sym c.in_ok-start.was ∙ c.number-3.ensures) in
    let r4 = next_number c.args.line.now 3 _ _ _ _ r3.0 c.next-4.ensures.steps (λ x u q k. search (rules, tests)) _ (sym c.in_ok-goal.was ∙ c.number-4.ensures) in
    let r5 = next_number c.args.line.now 4 _ _ _ _ r4.0 c.next-5.ensures.steps (λ x u q k. search (rules, tests)) _ (sym c.in_ok-look.was ∙ c.number-5.ensures) in
    let r6 = next_number c.args.line.now 5 _ _ _ _ r5.0 c.next-6.ensures.steps (λ x u q k. search (rules, tests)) _ (sym c.in_ok-limit.was ∙ c.limit.ensures) in
    let r7 = next_number c.args.line.now 6 _ _ _ _ r6.0 c.next-7.ensures.steps (λ x u q k. search (rules, tests)) _ (sym c.in_ok-allowance.was ∙ c.number-6.ensures) in
    elim c.then-is_some.branch [
      | then-is_some-via-then-is_some w ↦ one_too_many c.args.line.now 7 _ _ _ _ r7.0 c.next-8.ensures.steps (λ x u q k. search (rules, tests)) (omega arith) (sym c.is_some.ensures ∙ w.if-is_some.true)
      | then-is_some-via-else-is_some+then-allowance-gt-MOST_MOVES w ↦
          too_far c.args.line.now (rw r7.1 at w.if-allowance-gt-MOST_MOVES.true) (by_allowance c.args.line.now 7 _ _ _ _ r7.0 c.next-8.ensures.steps (λ x u q k. search (rules, tests)) refl (sym c.is_some.ensures ∙ w.if-is_some.false))
    ]

pub returns : goal.returns
unfolding in_place errand_at
returns c =
    let r0 = none_read c.args.line.now _ (all_left 32 _ _ _ c.split-words.ensures.done c.split-words.ensures.rest) in
    let r1 = next_number c.args.line.now 0 _ _ _ _ r0 c.next.ensures.steps (λ x u q k. search (rules, tests)) _ (sym c.in_ok-width.was ∙ c.number.ensures) in
    let r2 = next_number c.args.line.now 1 _ _ _ _ r1.0 c.next-2.ensures.steps (λ x u q k. search (rules, tests)) _ (sym c.in_ok-height.was ∙ c.number-2.ensures) in
    let r3 = next_number c.args.line.now 2 _ _ _ _ r2.0 c.next-3.ensures.steps (λ x u q k. search (rules, tests)) _ (sym c.in_ok-start.was ∙ c.number-3.ensures) in
    let r4 = next_number c.args.line.now 3 _ _ _ _ r3.0 c.next-4.ensures.steps (λ x u q k. search (rules, tests)) _ (sym c.in_ok-goal.was ∙ c.number-4.ensures) in
    let r5 = next_number c.args.line.now 4 _ _ _ _ r4.0 c.next-5.ensures.steps (λ x u q k. search (rules, tests)) _ (sym c.in_ok-look.was ∙ c.number-5.ensures) in
    let r6 = next_number c.args.line.now 5 _ _ _ _ r5.0 c.next-6.ensures.steps (λ x u q k. search (rules, tests)) _ (sym c.in_ok-limit.was ∙ c.limit.ensures) in
    let r7 = next_number c.args.line.now 6 _ _ _ _ r6.0 c.next-7.ensures.steps (λ x u q k. search (rules, tests)) _ (sym c.in_ok-allowance.was ∙ c.number-6.ensures) in
    let form = by_allowance c.args.line.now 7 _ _ _ _ r7.0 c.next-8.ensures.steps (λ x u q k. search (rules, tests)) refl (sym c.is_some.ensures ∙ c.if-is_some.false) in
    rw (r1.1, r2.1, r3.1, r4.1, r5.1, r6.1, r7.1) (lawful c.args.line.now (rw r7.1 at c.if-allowance-gt-MOST_MOVES.false) form)
