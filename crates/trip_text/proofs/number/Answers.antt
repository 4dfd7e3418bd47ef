use Rattle.std.proofs.Common.{◌∙◌, sym, arith}
use mathlib.Core.Logic.{inl, inr}
use borrow.Author.Tests.{eqb-true}
use Rattle.trip_text.proofs.Words.{empty, too_long, all_read, too_low, too_high, fits, one_more}
use Rattle.trip_text.proofs.number.Goals.{then-is_empty-via-then-is_empty, then-is_empty-via-else-is_empty+then-word-gt9}
use Rattle.trip_text.proofs.number.Goals as goal

pub returns-then-is_empty : goal.returns-then-is_empty
returns-then-is_empty c = rw c.in_ok-word.was (elim c.then-is_empty.branch [
  | then-is_empty-via-then-is_empty w ↦ empty _ (eqb-true _ _ (sym c.is_empty.ensures ∙ w.if-is_empty.true))
  | then-is_empty-via-else-is_empty+then-word-gt9 w ↦ too_long _ (omega arith)
])

pub returns-then-not-is_ascii_digit : goal.returns-then-not-is_ascii_digit
returns-then-not-is_ascii_digit c = rw c.in_ok-word.was (elim c.if-not-is_ascii_digit.ensures.cases [
  | inl low ↦ too_low _ _ _ c.loop-digit.invariant c.loop-digit-test.true low
  | inr high ↦ too_high _ _ _ c.loop-digit.invariant c.loop-digit-test.true high
])

pub overflow_mul-value : goal.overflow_mul-value
overflow_mul-value c = omega (arith, fits _ _ _ c.loop-digit.invariant c.loop-digit-test.true)

pub overflow_add-value : goal.overflow_add-value
overflow_add-value c = let d = c.if-not-is_ascii_digit.ensures.cases in omega (arith, fits _ _ _ c.loop-digit.invariant c.loop-digit-test.true, c.from.ensures)

pub loop-digit-preserved : goal.loop-digit-preserved
loop-digit-preserved c =
    let d = c.if-not-is_ascii_digit.ensures.cases in
    rw c.from.ensures (one_more _ _ _ c.loop-digit.invariant c.loop-digit-test.true d.0 d.1)

pub returns : goal.returns
returns c = rw c.in_ok-word.was (all_read _ _ _ c.loop-digit.invariant c.loop-digit-test.false)
