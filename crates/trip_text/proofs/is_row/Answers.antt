-- A line is a row by its length and its cells.
use Rattle.std.proofs.Common.{◌≡◌, ◌∙◌, rules, eqb, true, false, ◌||◌}
use borrow.Author.Tests.{tests, ne_eqb}
use Rattle.std.proofs.lemmas.Iterator.{YieldsList-from_slice, cases_from_all}
use Rattle.trip_text.proofs.Rows.{no_row, a_row}
use Rattle.trip_text.proofs.is_row.Goals as goal

pub returns-then-line-width : goal.returns-then-line-width
returns-then-line-width c = a_row c.args.line.now c.args.width c.if-line-width.true c.all.result (cases_from_all _ _ _ (λ x. (eqb x 46 || eqb x 35) ≡ true) (λ x. (eqb x 46 || eqb x 35) ≡ false) c.all.ensures.ran (YieldsList-from_slice c.args.line.now c.iter.ensures.rest) (λ x q k. search (rules, tests)) (λ x q k. search (rules, tests)))

pub returns-else-line-width : goal.returns-else-line-width
returns-else-line-width c = ne_eqb _ _ c.if-line-width.false ∙ no_row _ _ c.if-line-width.false
