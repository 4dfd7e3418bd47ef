-- All estimates are pushed behind the word, and the line's end behind them.
use Rattle.std.proofs.Common.{◌^◌, ◌<◌, get_or, ℕ, arith}
use Rattle.rules.specs.Printer.{ascii}
use Rattle.trip_lines.proofs.Spelling.{estimates_shown}
use Rattle.trip_lines.proofs.push_estimates.Goals as goal

pub returns : goal.returns
unfolding ascii
returns g c =
    let fit : (k : ℕ) → get_or c.args.estimates.now k 0 < 2 ^ 64 = λ k. omega (arith, c.type_inv.estimates k) in
    rw (c.push_str-2.ensures.bytes, c.loop-estimate.invariant.0, c.push_str.ensures.bytes, c.requires.empty)
    (estimates_shown c.args.estimates.now c.loop-estimate.estimate-index c.loop-estimate-test.false fit)
