-- The values' rules and the two zeros, as the rules have them.
use Rattle.std.proofs.Common.{refl}
use Rattle.rules.specs.Record.{record_ok}
use Rattle.records.proofs.Numbers.{got_one}
use Rattle.records.proofs.Record.holds.Goals as goal

pub returns : goal.returns
unfolding record_ok
returns c = rw (c.u16_at.ensures, c.values_hold.ensures, c.from.ensures, got_one c.args.self.now.0 9) refl
