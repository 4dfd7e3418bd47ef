-- What is written reads back: a file of records that the writer gave one after another is counted in full, and each is read as it was.
use Rattle.std.proofs.Common.{◌≡◌, ℕ, suc, ◌*◌, ◌/◌, ◌%◌, ◌<◌, List, [], ◌∷◌, ◌++◌, length, sym, refl, ap, ◌∙◌, subst, append_assoc, append-nil, arith, length-append, eq-eqb, Result, Ok}
use Rattle.floor.specs.Floor.{refusal, refused}
use Rattle.floor.specs.declared.Refusal.{Refusal}
use Rattle.floor.proofs.Refusing.{passes, passes_all}
use Rattle.rules.specs.declared.Trip.{Trip}
use Rattle.rules.specs.Record.{got, trip_at, record_ok, next_serial, record_tests, count_refusal}
use Rattle.records.specs.Promise.{WritePromise, CountPromise, ReadPromise}
use Rattle.records.specs.Files.{InWidth, File, end, trip, RecordsKeep}
use Rattle.records.proofs.Fields.{length-layout}
use Rattle.records.proofs.Answering.{count_done, read_done}
use Rattle.records.proofs.Unique.{count_unique, read_unique}
use Rattle.records.proofs.Placing.{Wrote, did, long, trip_placed, record_placed, serial_placed, in_step}
use Rattle.records.proofs.Lawful.{accepts, accepted}
use Rattle.records.proofs.Again.{written_again}

length-file : {serial : ℕ} {ts : List Trip} {file : List ℕ} → File serial ts file → length file ≡ length ts * 24
length-file end = refl
length-file (trip {bytes = bytes} {file = file} width p rest) =
    length-append bytes file ∙ rw ((did p).puts, length-layout) (omega (arith, length-file rest))

-- the tests of a file, after records of which the last has the serial before
tested : (xs : List ℕ) (i : ℕ) {serial : ℕ} {ts : List Trip} {file : List ℕ} → length xs ≡ i * 24 → File serial ts file
    → ((j : ℕ) → i ≡ suc j → next_serial (got xs (j * 24) 2) ≡ serial) → refusal (record_tests (xs ++ file) i (length ts)) ≡ 0
unfolding record_tests
tested xs i e end h = passes_all
tested xs i e (trip {next = next} {t = t} {ts = ts} {bytes = bytes} {file = file} width p rest) h =
    let w = did p in
    passes _ _ _ (ap (record_ok (xs ++ (bytes ++ file))) (sym e) ∙ record_placed xs file width w)
    (passes _ _ _ (in_step xs file width w i e h)
    (subst (λ (l : List ℕ). refusal (record_tests l (suc i) (length ts)) ≡ 0) (append_assoc xs bytes file)
    (tested (xs ++ bytes) (suc i) longer rest serial_next)))
  where
    longer : length (xs ++ bytes) ≡ suc i * 24
    longer = length-append xs bytes ∙ omega (arith, long xs {bytes = bytes} [] width (did p), e)

    serial_next : (j : ℕ) → suc i ≡ suc j → next_serial (got (xs ++ bytes) (j * 24) 2) ≡ next
    serial_next j same =
        let there : j * 24 ≡ length xs = omega (arith, e, same) in
        ap next_serial (rw (there, sym (append-nil bytes)) (serial_placed xs [] width (did p))) ∙ sym (did p).goes_on

-- a file that was written is accepted, with as many records as trips
module _ {serial : ℕ} {ts : List Trip} {file : List ℕ} (f : File serial ts file) where
  whole_records : length file % 24 ≡ 0
  whole_records = omega (arith, length-file f)

  number : length file / 24 ≡ length ts
  number = omega (arith, length-file f)

  written_accepted : count_refusal file ≡ 0
  unfolding count_refusal
  written_accepted =
      passes _ _ _ (eq-eqb _ _ whole_records) (rw number (tested [] 0 refl f (λ j z. absurd (omega arith))))

-- the place of a trip in a file
record Part (t : Trip) (us : List Trip) (file : List ℕ) : Type 0 where
  pub next : ℕ
  pub front : List ℕ
  pub bytes : List ℕ
  pub rear : List ℕ
  pub parts : file ≡ front ++ (bytes ++ rear)
  pub placed : length front ≡ length us * 24
  pub width : InWidth t
  pub wrote : Wrote t next bytes

part : {serial : ℕ} (us : List Trip) (t : Trip) (ts : List Trip) {file : List ℕ} → File serial (us ++ (t ∷ ts)) file → Part t us file
part [] t ts (trip {next = next} {bytes = bytes} {file = file} width p rest) =
    record { next = next; front = []; bytes = bytes; rear = file; parts = refl; placed = refl; width = width; wrote = did p }
part (u ∷ us) t ts (trip {bytes = bytes} {file = file} width p rest) =
    let q = part us t ts rest in
    let seam = append_assoc bytes q.front (q.bytes ++ q.rear) in
    let far : length (bytes ++ q.front) ≡ length (u ∷ us) * 24 =
    length-append bytes q.front ∙ rw ((did p).puts, length-layout u) (omega (arith, q.placed)) in
    record {
      next = q.next;
      front = bytes ++ q.front;
      bytes = q.bytes;
      rear = q.rear;
      parts = ap (λ (l : List ℕ). bytes ++ l) q.parts ∙ sym seam;
      placed = far;
      width = q.width;
      wrote = q.wrote;
    }

-- and it is read from there
module _ {serial : ℕ} (us : List Trip) (t : Trip) (ts : List Trip) {file : List ℕ} (f : File serial (us ++ (t ∷ ts)) file) where
  trip_read : trip_at file (length us * 24) ≡ t
  trip_read =
      let q = part us t ts f in
      rw (q.parts, sym q.placed) (trip_placed q.front q.rear q.width q.wrote)

  pub read_written : {answer : Result Trip Refusal} → ReadPromise file (length us) answer → answer ≡ Ok t
  read_written p =
      let within : length us < length file / 24 = rw (number f, length-append us (t ∷ ts)) (omega arith) in
      read_unique p (read_done file (length us) (written_accepted f) within) ∙ ap Ok trip_read

none_refused : {bytes : List ℕ} {n : ℕ} → CountPromise bytes (Ok n) → count_refusal bytes ≡ 0
unfolding refused
none_refused p = sym p.answers

alone : {t : Trip} {room bytes : List ℕ} {next : ℕ} {answer : Result Trip Refusal} → WritePromise t room (Ok next) bytes → InWidth t
    → ReadPromise bytes 0 answer → answer ≡ Ok t
alone {t} {bytes = bytes} {answer = answer} w width p =
    read_written [] t [] (trip width w end) (subst (λ (l : List ℕ). ReadPromise l 0 answer) (sym (append-nil bytes)) p)

pub records_keep : RecordsKeep
records_keep = record {
  counts_lawful = λ p l. count_unique p (count_done _ (accepts _ l));
  counts_only_lawful = λ p. accepted _ (none_refused p);
  counts_in_full = λ f p. count_unique p (count_done _ (written_accepted f)) ∙ ap Ok (number f);
  reads_back = λ us t ts f p. read_written us t ts f p;
  written_reads = alone;
  writes_again = written_again;
}
