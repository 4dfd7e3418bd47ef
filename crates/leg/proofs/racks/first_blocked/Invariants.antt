-- What is found from `place` on is what is found from the start on. The measure is the cells still ahead.
use Prim.Native.Nat.{◌-◌, ◌≤◌}
use mathlib.Core.Path.{◌≡◌}
use lib.ListN.{length, drop}
use Rattle.floor.specs.Floor.{blocked}
use Rattle.leg.specs.Moving.{first_blocked}
use Rattle.leg.proofs.racks.first_blocked.Given as goal

abbrev pub invariant-loop-place : goal.invariant-loop-place
invariant-loop-place l = (l.place ≤ length l.route) × (first_blocked (blocked l.known) l.place (drop l.place l.route) ≡ first_blocked (blocked l.known) 0 l.route)

abbrev pub decreases-loop-place : goal.decreases-loop-place
decreases-loop-place l = length l.route - l.place
