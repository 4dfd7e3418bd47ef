-- What each answer of an entry promises, under the tests that lead to it.
use Rattle.std.proofs.Common.{◌≡◌, ℕ, ◌*◌, ◌/◌, ◌<◌, ◌≤◌, true, false, List, length, Ok, Err, sym, refl, le-ltb, lt-ltb, eq-eqb, ne_eqb}
use Rattle.floor.specs.Floor.{refusal, if_accepted, refused, number}
use Rattle.floor.specs.declared.Refusal.{Refusal}
use Rattle.floor.specs.declared.Refusal.TheVariants.{RecordSize, RecordValues}
use Rattle.floor.proofs.Refusing.{refused_left, accepted_left}
use Rattle.floor.proofs.Unique.{some_number}
use Rattle.rules.specs.declared.Trip.{Trip}
use Rattle.rules.specs.Record.{layout, trip_at, values_ok, next_serial, write_refusal, written, count_refusal, counted, read_refusal, read_trip}
use Rattle.records.specs.Promise.{WritePromise, CountPromise, ReadPromise}

module _ (b : List ℕ) where
  pub count_refused : (r : Refusal) → number r ≡ count_refusal b → CountPromise b (Err r)
  unfolding refused counted
  count_refused r e = record { answers = e; number = rw (sym e) (sym (refused_left (some_number r) _ _)) }

  pub count_done : count_refusal b ≡ 0 → CountPromise b (Ok (length b / 24))
  unfolding refused counted
  count_done e = record { answers = sym e; number = sym (accepted_left e _ _) }

  module _ (i : ℕ) where
    read_refused : (r : Refusal) → number r ≡ read_refusal b i → ReadPromise b i (Err r)
    unfolding refused read_trip
    read_refused r e = record { answers = e; values = rw (sym e) (sym (refused_left (some_number r) _ _)) }

    pub file_refused : (r : Refusal) → number r ≡ count_refusal b → ReadPromise b i (Err r)
    unfolding read_refusal
    file_refused r e = read_refused r (rw (sym e) (sym (refused_left (some_number r) _ _)))

    pub past_the_end : count_refusal b ≡ 0 → length b / 24 ≤ i → ReadPromise b i (Err RecordValues)
    unfolding read_refusal refusal
    past_the_end e le = read_refused RecordValues (rw (e, le-ltb _ _ le) (sym (accepted_left refl _ _)))

    pub read_done : count_refusal b ≡ 0 → i < length b / 24 → ReadPromise b i (Ok (trip_at b (i * 24)))
    unfolding refused read_trip read_refusal refusal if_accepted
    read_done e lt = record { answers = rw (e, lt-ltb _ _ lt) refl; values = rw (e, lt-ltb _ _ lt) refl }

module _ (t : Trip) (room : List ℕ) where
  write_refused : (r : Refusal) → number r ≡ write_refusal t room → WritePromise t room (Err r) room
  unfolding refused written
  write_refused r e = record {
    answers = e;
    serial = rw (sym e) (sym (refused_left (some_number r) _ _));
    writes = rw (sym e) (sym (refused_left (some_number r) _ _));
  }

  pub no_room : (length room ≡ 24 → ⊥) → WritePromise t room (Err RecordSize) room
  unfolding write_refusal refusal
  no_room ne = write_refused RecordSize (rw (ne_eqb _ _ ne) refl)

  pub no_values : length room ≡ 24 → values_ok t ≡ false → WritePromise t room (Err RecordValues) room
  unfolding write_refusal refusal
  no_values e v = write_refused RecordValues (rw (eq-eqb _ _ e, v) refl)

  pub write_done : length room ≡ 24 → values_ok t ≡ true → WritePromise t room (Ok (next_serial t.serial)) (layout t)
  unfolding refused written write_refusal refusal if_accepted
  write_done e v = record { answers = rw (eq-eqb _ _ e, v) refl; serial = rw (eq-eqb _ _ e, v) refl; writes = rw (eq-eqb _ _ e, v) refl }
