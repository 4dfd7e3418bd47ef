-- Each value is got from its offset, so the record is the rules' `trip_at`.
use Rattle.records.proofs.Fields.{taken}
use Rattle.records.proofs.TripFromRecord.from.Goals as goal

pub returns : goal.returns
returns c =
    rw (
      c.u16_at-8.ensures,
      c.u16_at-7.ensures,
      c.u16_at-6.ensures,
      c.u32_at.ensures,
      c.u16_at-5.ensures,
      c.u16_at-4.ensures,
      c.u16_at-3.ensures,
      c.u16_at-2.ensures,
      c.u16_at.ensures,
    ) (taken _ _)
