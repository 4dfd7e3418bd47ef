-- The record's part of the bytes is read as the bytes are from its offset on.
use Rattle.std.proofs.Common.{◌≡◌, ℕ, List, take, drop, arith, ap, ◌∙◌}
use Rattle.rules.specs.Record.{trip_at}
use Rattle.records.proofs.Places.{trip_part}
use Rattle.records.proofs.trip_at.Goals as goal

-- as the code cuts it, from a start to an end
trip_of : (b : List ℕ) (o n : ℕ) → n ≡ 24 → trip_at (take n (drop o b)) 0 ≡ trip_at b o
trip_of b o n e = rw e (trip_part b o)

pub returns : goal.returns
returns c =
    let cut = (rw c.unwrap-record.ensures at c.try_into.ensures).1.same in
    c.from.ensures ∙ ap (λ (l : List ℕ). trip_at l 0) cut ∙ trip_of c.args.bytes.now c.args.at _ (omega arith)
