-- What `read` promises: a refusal of the file, a number past its end, or the record's values.
use Rattle.std.proofs.Common.{◌≡◌, ℕ, ◌/◌, ◌<◌, List, [], length, None, Some, sym, ap, ◌∙◌, arith}
use Rattle.std.proofs.lemmas.Result.{err_from_is_err_and}
use Rattle.floor.specs.Floor.{refused}
use Rattle.floor.specs.declared.Refusal.TheVariants.{RecordValues}
use Rattle.rules.specs.Record.{trip_at}
use Rattle.records.proofs.Places.{same_trip}
use Rattle.records.proofs.Answering.{file_refused, past_the_end, read_done}
use Rattle.records.proofs.read.Goals as goal

pub returns-in_err-check : goal.returns-in_err-check
unfolding refused
returns-in_err-check c =
    let p = err_from_is_err_and c.from_residual.result c.from_residual.ensures.1 in
    rw (p.1, p.2) (file_refused _ _ _ c.in_err-check.ensures)

pub returns-in_err-record : goal.returns-in_err-record
unfolding refused
returns-in_err-record c =
    let p = err_from_is_err_and c.from_residual-in_err-record.result c.from_residual-in_err-record.ensures.1 in
    let none : c.get.result ≡ None = rw c.in_err-record.was at c.ok_or.ensures.ok_part in
    let past = (rw none at c.get.ensures.lookup).3 in
    let given = rw (c.in_err-record.was, none) at c.ok_or.ensures.value in
    let values : c.in_err-record.field-0.0 ≡ RecordValues = cc in
    rw (p.1, p.2, values) (past_the_end _ _ (sym c.in_ok-check.ensures) (omega (arith, past, c.as_chunks.ensures.front_len)))

pub returns : goal.returns
unfolding refused
returns c =
    let some : c.get.result ≡ Some c.in_ok-record.record = rw c.in_ok-record.was at c.ok_or.ensures.ok_part in
    let there = (rw some at c.get.ensures.lookup).3 in
    let within : c.args.number < length c.args.bytes.now / 24 = omega (arith, there.0, c.as_chunks.ensures.front_len) in
    let values = c.from.ensures ∙ ap (λ (l : List ℕ). trip_at l 0) (there.1 []) ∙ same_trip _ _ c.as_chunks.ensures.front _ within in
    rw values (read_done _ _ (sym c.in_ok-check.ensures) within)
