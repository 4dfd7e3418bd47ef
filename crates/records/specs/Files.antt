-- What the entries keep together: what is written reads back, and a file is counted exactly when each of its records keeps the rules.
use Rattle.std.specs.Prelude.{◌≡◌, ℕ, ◌*◌, ◌/◌, ◌%◌, ◌<◌, true, List, [], ◌∷◌, ◌++◌, length, take, drop, slice_index, Result, Ok}
use Rattle.floor.specs.declared.Refusal.{Refusal}
use Rattle.rules.specs.declared.Trip.{Trip}
use Rattle.rules.specs.Record.{record_ok, next_serial, follows}
use Rattle.records.specs.Promise.{WritePromise, CountPromise, ReadPromise}

-- whole records, each of which keeps the rules and follows the one before
pub record Lawful (bytes : List ℕ) : Type 0 where
  pub whole : length bytes % 24 ≡ 0
  pub keeps : (i : ℕ) → i < length bytes / 24 → record_ok bytes (i * 24) ≡ true
  pub runs : (i : ℕ) → i < length bytes / 24 → follows bytes i ≡ true

-- serial and cart number are in their widths, as in the code they are: of them the writer tests nothing
pub record InWidth (t : Trip) : Type 0 where
  pub serial : t.serial < 65536
  pub cart : t.cart < 65536

-- a file of trips as the writer gave them, one after another, each with the serial that was answered for the next
pub data File : ℕ → List Trip → List ℕ → Type 0 where
  end : {serial : ℕ} → File serial [] []
  trip : {next : ℕ} {t : Trip} {ts : List Trip} {room bytes file : List ℕ} → InWidth t → WritePromise t room (Ok next) bytes
      → File next ts file → File t.serial (t ∷ ts) (bytes ++ file)

pub record RecordsKeep : Type 0 where
  -- a number is answered exactly when every record keeps every rule, and it is the number of records
  pub counts_lawful : {bytes : List ℕ} {answer : Result ℕ Refusal} → CountPromise bytes answer → Lawful bytes → answer ≡ Ok (length bytes / 24)
  pub counts_only_lawful : {bytes : List ℕ} {n : ℕ} → CountPromise bytes (Ok n) → Lawful bytes
  -- records written with running serials are counted in full, over any step from 65,535 to 0
  pub counts_in_full : {serial : ℕ} {ts : List Trip} {file : List ℕ} {answer : Result ℕ Refusal} → File serial ts file → CountPromise file answer
      → answer ≡ Ok (length ts)
  -- and each is read back, field by field, by its number
  pub reads_back : {serial : ℕ} (us : List Trip) (t : Trip) (ts : List Trip) {file : List ℕ} {answer : Result Trip Refusal}
      → File serial (us ++ (t ∷ ts)) file → ReadPromise file (length us) answer → answer ≡ Ok t
  -- what the writer accepts, the reader gives back
  pub written_reads : {t : Trip} {room bytes : List ℕ} {next : ℕ} {answer : Result Trip Refusal} → WritePromise t room (Ok next) bytes → InWidth t
      → ReadPromise bytes 0 answer → answer ≡ Ok t
  -- and what the reader gives, the writer accepts: the record is written again as it stands in the file, byte for byte
  pub writes_again : {file : List ℕ} {number : ℕ} {t : Trip} {room bytes : List ℕ} {answer : Result ℕ Refusal}
      → ((x : ℕ) → x < length file → slice_index file x < 256) → ReadPromise file number (Ok t) → length room ≡ 24 → WritePromise t room answer bytes
      → (answer ≡ Ok (next_serial t.serial)) × (bytes ≡ take 24 (drop (number * 24) file))
