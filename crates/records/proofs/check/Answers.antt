use Rattle.std.proofs.Common.{◌≡◌, ◌*◌, ◌/◌, ◌<◌, true, length, sym, ◌∙◌, ap, refl, arith, eq-eqb, ne_eqb, Some, unwrap_or, add-one}
use Rattle.floor.specs.Floor.{refused}
use Rattle.rules.specs.Record.{got, record_ok, next_serial}
use Rattle.records.proofs.Testing.{due, follows_due, no_length, all_records, none_left, broken, out_of_step, kept}
use Rattle.records.proofs.Places.{same_record, same_serial}
use Rattle.records.proofs.check.Goals.{After-holds, After-unwrap_or}
use Rattle.records.proofs.check.Goals as goal

pub returns-then-not-is_empty : goal.returns-then-not-is_empty
unfolding refused
returns-then-not-is_empty c = no_length _ (rw c.as_chunks.ensures.back_len at (sym c.is_empty.ensures ∙ c.if-not-is_empty.true))

pub loop-record-init : goal.loop-record-init
unfolding due
loop-record-init c = record {
  tested = all_records _ (rw c.as_chunks.ensures.back_len at (sym c.is_empty.ensures ∙ c.if-not-is_empty.false));
  due = refl;
}

-- the number of the record is within the file
within : (c : After-holds) → c.loop-record.record-index < length c.args.bytes.now / 24
within c = omega (arith, c.as_chunks.ensures.front_len)

holds : (c : After-holds) → c.holds.result ≡ record_ok c.args.bytes.now (c.loop-record.record-index * 24)
holds c = c.holds.ensures ∙ same_record _ _ c.as_chunks.ensures.front _ (within c)

pub returns-then-not-holds : goal.returns-then-not-holds
unfolding refused
returns-then-not-holds c =
    let at = (goal.at.returns-then-not-holds c).After-holds in
    sym (c.loop-record.invariant.tested ∙ broken _ _ _ (within at) (sym (holds at) ∙ c.if-not-holds.true))

kept_rules : (c : After-unwrap_or) → record_ok c.args.bytes.now (c.loop-record.record-index * 24) ≡ true
kept_rules c = sym (holds (goal.at.After-unwrap_or c).After-holds) ∙ c.if-not-holds.false

serial : (c : After-unwrap_or) → c.u16_at-serial.result ≡ got c.args.bytes.now (c.loop-record.record-index * 24) 2
serial c = c.u16_at-serial.ensures ∙ same_serial _ _ c.as_chunks.ensures.front _ (within (goal.at.After-unwrap_or c).After-holds)

due_serial : (c : After-unwrap_or)
    → c.unwrap_or.result ≡ unwrap_or (due c.args.bytes.now c.loop-record.record-index) (got c.args.bytes.now (c.loop-record.record-index * 24) 2)
due_serial c = c.unwrap_or.ensures ∙ rw (c.loop-record.invariant.due, serial c) refl

pub returns-then-serial-unwrap_or : goal.returns-then-serial-unwrap_or
unfolding refused
returns-then-serial-unwrap_or c =
    let at = (goal.at.returns-then-serial-unwrap_or c).After-unwrap_or in
    let strays = follows_due _ _ ∙ ne_eqb _ _ (λ e. c.if-serial-unwrap_or.true (serial at ∙ e ∙ sym (due_serial at))) in
    sym (c.loop-record.invariant.tested ∙ out_of_step _ _ _ (within (goal.at.After-unwrap_or at).After-holds) (kept_rules at) strays)

pub loop-record-preserved : goal.loop-record-preserved
unfolding due
loop-record-preserved c =
    let at = (goal.at.loop-record-preserved c).After-unwrap_or in
    let runs = follows_due _ _ ∙ eq-eqb _ _ (sym (serial at) ∙ c.if-serial-unwrap_or.false ∙ due_serial at) in
    record {
      tested = c.loop-record.invariant.tested ∙ kept _ _ _ (within (goal.at.After-unwrap_or at).After-holds) (kept_rules at) runs;
      due = rw add-one (ap Some (c.next_serial.ensures ∙ ap next_serial (serial at)));
    }

pub returns : goal.returns
unfolding refused
returns c = sym (c.loop-record.invariant.tested ∙ none_left _ _ _ (omega (arith, c.as_chunks.ensures.front_len)))
