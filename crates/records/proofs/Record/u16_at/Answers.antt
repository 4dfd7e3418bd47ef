-- Two bytes make the number that is got.
use Rattle.std.proofs.Common.{arith}
use Rattle.records.proofs.Numbers.{got_two}
use Rattle.records.proofs.Record.u16_at.Goals as goal

pub returns : goal.returns
returns c = omega (arith, got_two c.args.self.now.0 c.args.at)
