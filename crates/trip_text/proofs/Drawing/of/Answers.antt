-- The rows are taken one by one, and nothing is left behind the last.
use Rattle.std.proofs.Common.{◌≡◌, ◌∙◌, sym, arith}
use Rattle.trip_text.proofs.Rows.{none_taken, unfed, misdrawn, one_taken, all_taken}
use Rattle.trip_text.proofs.Drawing.of.Goals as goal

pub loop-init : goal.loop-init
loop-init c = (omega arith, none_taken _ _ _)

pub returns-in_err-line : goal.returns-in_err-line
returns-in_err-line c = let k = c.in_err-line.ensures in rw c.from_residual.ensures (unfed _ _ _ _ _ c.loop.invariant.1 c.loop-test.true k)

pub returns-then-not-is_row : goal.returns-then-not-is_row
returns-then-not-is_row c =
    let parts = c.in_ok-line.ensures in
    misdrawn _ _ _ _ _ c.loop.invariant.1 c.loop-test.true _ parts.1 (sym c.is_row.ensures ∙ c.if-not-is_row.true)

pub loop-preserved : goal.loop-preserved
loop-preserved c =
    let parts = c.in_ok-line.ensures in
    (omega (arith, c.loop-test.true), one_taken _ _ _ _ _ c.loop.invariant.1 c.loop-test.true _ parts.1 parts.0 (sym c.is_row.ensures ∙ c.if-not-is_row.false) _ parts.2)

pub returns-then-not-is_empty : goal.returns-then-not-is_empty
returns-then-not-is_empty c =
    let all : c.loop.counter ≡ c.args.grid.floor.height = omega (arith, c.loop.invariant.0, c.loop-test.false) in
    sym (all_taken _ _ _ _ _ c.loop.invariant.1 all) ∙ sym c.is_empty.ensures ∙ c.if-not-is_empty.true

pub invariant_of-result : goal.invariant_of-result
invariant_of-result c =
    let all : c.loop.counter ≡ c.args.grid.floor.height = omega (arith, c.loop.invariant.0, c.loop-test.false) in
    record { lawful = sym (all_taken _ _ _ _ _ c.loop.invariant.1 all) ∙ sym c.is_empty.ensures ∙ c.if-not-is_empty.false }
