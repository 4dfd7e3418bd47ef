-- The rows so far are lawful, and what is left begins with the next one. The measure is the rows still to read.
use Prim.Native.Nat.{◌-◌, ◌≤◌}
use Rattle.trip_text.proofs.Rows.{Left}
use Rattle.trip_text.proofs.Drawing.of.Given as goal

abbrev pub invariant-loop : goal.invariant-loop
invariant-loop l = (l.counter ≤ l.grid.floor.height) × Left l.text l.grid.floor.width l.grid.floor.height l.counter l.rest

abbrev pub decreases-loop : goal.decreases-loop
decreases-loop l = l.grid.floor.height - l.counter
