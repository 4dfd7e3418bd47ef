-- What the tests of the records from here on come to is what the whole file comes to, and the serial that is due is known.
use Rattle.std.proofs.Common.{◌≡◌, ◌/◌, length}
use Rattle.rules.specs.Record.{count_refusal}
use Rattle.records.proofs.Testing.{rest, due}
use Rattle.records.proofs.check.Given as goal

abbrev pub invariant-loop-record : goal.invariant-loop-record
invariant-loop-record l = record {
  tested : count_refusal l.bytes ≡ rest l.bytes (length l.bytes / 24) l.record-index;
  due : l.due ≡ due l.bytes l.record-index;
}
