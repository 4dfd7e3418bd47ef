-- A dash stands for 1, and any other word is read as a number.
use Rattle.std.proofs.Common.{◌∙◌, sym}
use Rattle.trip_text.proofs.Words.{limit_dash, limit_other}
use Rattle.trip_text.proofs.limit.Goals as goal

pub returns-then-eq : goal.returns-then-eq
returns-then-eq c = limit_dash c.args.word c.as_slice.result c.as_slice.ensures (sym c.eq.ensures ∙ c.if-eq.true)

pub returns-else-eq : goal.returns-else-eq
returns-else-eq c = c.number.ensures ∙ limit_other c.args.word c.as_slice.result c.as_slice.ensures (sym c.eq.ensures ∙ c.if-eq.false)
