-- A record that keeps the rules is the layout of its values: what was read is written again byte for byte.
use Rattle.std.proofs.Common.{◌≡◌, ℕ, zero, suc, ◌+◌, ◌*◌, ◌/◌, ◌%◌, ◌<◌, ◌≤◌, true, ◌&&◌, eqb, List, ◌++◌, length, get_or, take, drop, sym, refl, ap, ◌∙◌, arith, drop-cons, drop-drop, take-add, ltb-true, eqb-true, Result, Ok}
use Rattle.floor.specs.Floor.{if_accepted, refused}
use Rattle.floor.specs.declared.Refusal.{Refusal}
use Rattle.floor.proofs.Refusing.{passed, accepted_left}
use Rattle.floor.proofs.Tools.{and_1, and_2}
use Rattle.rules.specs.declared.Trip.{Trip}
use Rattle.rules.specs.Record.{put, got, layout, trip_at, values_ok, record_ok, next_serial, count_refusal, read_refusal, read_trip}
use Rattle.records.specs.Promise.{WritePromise, ReadPromise}
use Rattle.records.proofs.Answering.{write_done}
use Rattle.records.proofs.Unique.{write_unique}
use Rattle.records.proofs.Lawful.{accepted}

-- the rules of a record, one by one
pub each_rule : (b : List ℕ) (o : ℕ) → record_ok b o ≡ true → (values_ok (trip_at b o) ≡ true) × (got b (o + 9) 1 ≡ 0) × (got b (o + 22) 2 ≡ 0)
unfolding record_ok
each_rule b o ok =
    let values = values_ok (trip_at b o) in
    let nine = eqb (got b (o + 9) 1) 0 in
    let end = eqb (got b (o + 22) 2) 0 in
    let both = and_1 (values && nine) end ok in
    (and_1 values nine both, eqb-true _ _ (and_2 values nine both), eqb-true _ _ (and_2 (values && nine) end ok))

module _ (b : List ℕ) (bytes : (x : ℕ) → x < length b → get_or b x 0 < 256) where
  put_got : (w o : ℕ) → o + w ≤ length b → put w (got b o w) ≡ take w (drop o b)
  unfolding put got
  put_got zero o le = refl
  put_got (suc w) o le =
      let x = get_or b o 0 in
      let small = bytes o (omega arith) in
      let low : (x + 256 * got b (suc o) w) % 256 ≡ x = omega (arith, small) in
      let high : (x + 256 * got b (suc o) w) / 256 ≡ got b (suc o) w = omega (arith, small) in
      rw (low, high, put_got w (suc o) (omega arith), drop-cons b o 0 (omega arith)) refl

  join : (o n m : ℕ) → take n (drop o b) ++ take m (drop (o + n) b) ≡ take (n + m) (drop o b)
  join o n m = sym (take-add n m (drop o b) ∙ ap (λ (l : List ℕ). take n (drop o b) ++ take m l) (drop-drop n o b))

  pub laid_again : (o : ℕ) → o + 24 ≤ length b → record_ok b o ≡ true → layout (trip_at b o) ≡ take 24 (drop o b)
  unfolding layout trip_at
  laid_again o le ok =
      let rules = each_rule b o ok in
      let start : o + 0 ≡ o = omega arith in
      let nine : put 1 0 ≡ take 1 (drop (o + 9) b) = ap (put 1) (sym rules.1) ∙ put_got 1 (o + 9) (omega arith) in
      let end : put 2 0 ≡ take 2 (drop (o + 22) b) = ap (put 2) (sym rules.2) ∙ put_got 2 (o + 22) (omega arith) in
      rw (
        nine,
        end,
        put_got 2 (o + 0) (omega arith),
        put_got 2 (o + 2) (omega arith),
        put_got 2 (o + 4) (omega arith),
        put_got 2 (o + 6) (omega arith),
        put_got 1 (o + 8) (omega arith),
        put_got 2 (o + 10) (omega arith),
        put_got 4 (o + 12) (omega arith),
        put_got 2 (o + 16) (omega arith),
        put_got 2 (o + 18) (omega arith),
        put_got 2 (o + 20) (omega arith),
        start,
        join o 2 2,
        join o 4 2,
        join o 6 2,
        join o 8 1,
        join o 9 1,
        join o 10 2,
        join o 12 4,
        join o 16 2,
        join o 18 2,
        join o 20 2,
        join o 22 2,
      ) refl

-- what the reader does, where it gives a record
record Gave (file : List ℕ) (i : ℕ) (t : Trip) : Type 0 where
  pub accepted : count_refusal file ≡ 0
  pub within : i < length file / 24
  pub there : t ≡ trip_at file (i * 24)

both_pass : (n m : ℕ) → if_accepted n m n ≡ 0 → (n ≡ 0) × (m ≡ 0)
unfolding if_accepted
both_pass zero m e = (refl, e)
both_pass (suc n) m e = absurd (omega arith)

gave : {file : List ℕ} {i : ℕ} {t : Trip} → ReadPromise file i (Ok t) → Gave file i t
unfolding refused read_refusal read_trip
gave {file} {i} p =
    let none : read_refusal file i ≡ 0 = sym p.answers in
    let tests = both_pass (count_refusal file) _ none in
    record {
      accepted = tests.0;
      within = ltb-true _ _ (passed _ _ _ tests.1).0;
      there = p.values ∙ accepted_left none _ _;
    }

pub written_again : {file : List ℕ} {number : ℕ} {t : Trip} {room bytes : List ℕ} {answer : Result ℕ Refusal}
    → ((x : ℕ) → x < length file → get_or file x 0 < 256) → ReadPromise file number (Ok t) → length room ≡ 24 → WritePromise t room answer bytes
    → (answer ≡ Ok (next_serial t.serial)) × (bytes ≡ take 24 (drop (number * 24) file))
written_again {file} {number} {t} {room} small p long w =
    let g = gave p in
    let ok = (accepted file g.accepted).keeps number g.within in
    let values : values_ok t ≡ true = rw g.there (each_rule file (number * 24) ok).0 in
    let same = write_unique w (write_done t room long values) in
    (same.0, same.1 ∙ rw g.there (laid_again file small (number * 24) (omega (arith, g.within)) ok))
