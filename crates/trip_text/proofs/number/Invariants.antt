-- The value is that of the digits so far.
use Rattle.trip_text.proofs.Words.{Read}
use Rattle.trip_text.proofs.number.Given as goal

abbrev pub invariant-loop-digit : goal.invariant-loop-digit
invariant-loop-digit l = Read l.word l.value l.digit-index
