-- Four bytes make the number that is got.
use Rattle.std.proofs.Common.{arith}
use Rattle.records.proofs.Numbers.{got_four}
use Rattle.records.proofs.Record.u32_at.Goals as goal

pub returns : goal.returns
returns c = omega (arith, got_four c.args.self.now.0 c.args.at)
