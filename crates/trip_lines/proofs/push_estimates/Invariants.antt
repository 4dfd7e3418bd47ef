-- Behind the word each estimate so far is pushed, with at most six bytes for each.
use Rattle.std.proofs.Common.{◌≡◌, ◌+◌, ◌*◌, ◌≤◌, length, take, flat_map, ◌++◌}
use Rattle.trip_lines.proofs.Spelling.{shown}
use Rattle.trip_lines.proofs.push_estimates.Given as goal

abbrev pub invariant-loop-estimate : goal.invariant-loop-estimate
invariant-loop-estimate g l =
    (l.text.bytes ≡ l.initial.text.bytes ++ flat_map shown (take l.estimate-index l.estimates))
    × (length l.text.bytes ≤ length l.initial.text.bytes + 6 * l.estimate-index)
