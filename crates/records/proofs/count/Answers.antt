-- What `count` promises: a refusal of the file, or the number of its records.
use Rattle.std.proofs.Common.{sym}
use Rattle.std.proofs.lemmas.Result.{err_from_is_err_and}
use Rattle.floor.specs.Floor.{refused}
use Rattle.records.proofs.Answering.{count_refused, count_done}
use Rattle.records.proofs.count.Goals as goal

pub returns-in_err-check : goal.returns-in_err-check
unfolding refused
returns-in_err-check c =
    let p = err_from_is_err_and c.from_residual.result c.from_residual.ensures.1 in
    rw (p.1, p.2) (count_refused _ _ c.in_err-check.ensures)

pub returns : goal.returns
unfolding refused
returns c = count_done _ (sym c.in_ok-check.ensures)
