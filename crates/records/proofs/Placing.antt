-- What the writer wrote, at its place in a file.
use Rattle.std.proofs.Common.{◌≡◌, ℕ, zero, suc, ◌+◌, ◌*◌, ◌≤◌, true, List, ◌++◌, length, refl, sym, ap, ◌∙◌, arith, eq-eqb, Ok}
use lib.ListN.{get_or-append}
use Rattle.floor.specs.Floor.{refused}
use Rattle.floor.proofs.Refusing.{passed, accepted_left}
use Rattle.rules.specs.declared.Trip.{Trip}
use Rattle.rules.specs.Record.{got, layout, trip_at, values_ok, record_ok, next_serial, write_refusal, written, follows}
use Rattle.records.specs.Promise.{WritePromise}
use Rattle.records.specs.Files.{InWidth}
use Rattle.records.proofs.Fields.{length-layout}
use Rattle.records.proofs.Places.{trip_part, record_part, put_between, trip_back, record_back}

-- what the writer did, where it wrote
pub record Wrote (t : Trip) (next : ℕ) (bytes : List ℕ) : Type 0 where
  pub keeps : values_ok t ≡ true
  pub goes_on : next ≡ next_serial t.serial
  pub puts : bytes ≡ layout t

pub did : {t : Trip} {room bytes : List ℕ} {next : ℕ} → WritePromise t room (Ok next) bytes → Wrote t next bytes
unfolding refused written write_refusal
did {t} {room} p =
    let none : write_refusal t room ≡ 0 = sym p.answers in
    record {
      keeps = (passed _ _ _ (passed _ _ _ none).1).0;
      goes_on = p.serial ∙ accepted_left none _ _;
      puts = p.writes ∙ accepted_left none _ _;
    }

-- what stands before the seam of two parts is read from the first
got_first : (xs ys : List ℕ) (w k : ℕ) → k + w ≤ length xs → got (xs ++ ys) k w ≡ got xs k w
unfolding got
got_first xs ys zero k le = refl
got_first xs ys (suc w) k le = rw (get_or-append xs ys 0 k (omega arith), got_first xs ys w (suc k) (omega arith)) refl

-- a record that was written, at its place
module _ (xs : List ℕ) {t : Trip} {bytes : List ℕ} {next : ℕ} (ys : List ℕ) (width : InWidth t) (w : Wrote t next bytes) where
  pub long : length bytes ≡ 24
  long = rw w.puts (length-layout t)

  pub trip_placed : trip_at (xs ++ (bytes ++ ys)) (length xs) ≡ t
  trip_placed = sym (trip_part _ _) ∙ rw (put_between xs bytes ys long, w.puts) (trip_back t width w.keeps)

  pub record_placed : record_ok (xs ++ (bytes ++ ys)) (length xs) ≡ true
  record_placed = sym (record_part _ _) ∙ rw (put_between xs bytes ys long, w.puts) (record_back t width w.keeps)

  pub serial_placed : got (xs ++ (bytes ++ ys)) (length xs) 2 ≡ t.serial
  unfolding trip_at
  serial_placed =
      let start : length xs ≡ length xs + 0 = omega arith in
      ap (λ (o : ℕ). got (xs ++ (bytes ++ ys)) o 2) start ∙ ap (λ (u : Trip). u.serial) trip_placed

  -- it follows the record before, if its serial is the one that is due
  pub in_step : (i : ℕ) → length xs ≡ i * 24 → ((j : ℕ) → i ≡ suc j → next_serial (got xs (j * 24) 2) ≡ t.serial) → follows (xs ++ (bytes ++ ys)) i ≡ true
  unfolding follows
  in_step zero e h = refl
  in_step (suc j) e h =
      let here = ap (λ (o : ℕ). got (xs ++ (bytes ++ ys)) o 2) (sym e) ∙ serial_placed in
      let past = ap next_serial (got_first xs (bytes ++ ys) 2 (j * 24) (omega arith)) in
      eq-eqb _ _ (here ∙ sym (past ∙ h j refl))
