-- Each value's bytes, by the laws of `Fields`.
use Rattle.std.proofs.Common.{rules}
use Rattle.records.proofs.Fields.{laid}
use Rattle.records.proofs.RecordFromTrip.from.Goals as goal

pub returns : goal.returns
returns c =
    rw (
      c.copy_from_slice.ensures.after,
      c.to_le_bytes.ensures,
      c.copy_from_slice-2.ensures.after,
      c.to_le_bytes-2.ensures,
      c.copy_from_slice-3.ensures.after,
      c.to_le_bytes-3.ensures,
      c.copy_from_slice-4.ensures.after,
      c.to_le_bytes-4.ensures,
      c.copy_from_slice-5.ensures.after,
      c.to_le_bytes-5.ensures,
      c.copy_from_slice-6.ensures.after,
      c.to_le_bytes-6.ensures,
      c.copy_from_slice-7.ensures.after,
      c.to_le_bytes-7.ensures,
      c.copy_from_slice-8.ensures.after,
      c.to_le_bytes-8.ensures,
      c.copy_from_slice-9.ensures.after,
      c.to_le_bytes-9.ensures,
    ) (laid c.args.trip (search rules))
