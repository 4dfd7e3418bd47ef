-- What the entries promise allows one answer alone, and one content of the room.
use Rattle.std.proofs.Common.{◌≡◌, ℕ, List, Result, Ok, Err, IfOk, sym, ◌∙◌}
use Rattle.std.specs.Result.{result_unwrap_or}
use Rattle.floor.specs.Floor.{refused}
use Rattle.floor.specs.declared.Refusal.{Refusal}
use Rattle.floor.proofs.Unique.{same_answer}
use Rattle.rules.specs.declared.Trip.{Trip}
use Rattle.records.specs.Promise.{WritePromise, CountPromise, ReadPromise}

module _ {A : Type 0} (none value : A) where
  given : (a : Result A Refusal) → result_unwrap_or a none ≡ value → IfOk a (λ x. x ≡ value)
  given (Ok x) e = e
  given (Err r) e = tt

  -- answers with one refusal or 0 and one value are the same
  same : (a b : Result A Refusal) {n : ℕ} → refused a ≡ n → refused b ≡ n → result_unwrap_or a none ≡ value → result_unwrap_or b none ≡ value → a ≡ b
  same a b m n v w = same_answer value a b (m ∙ sym n) (given a v) (given b w)

pub write_unique : {trip : Trip} {room : List ℕ} {a b : Result ℕ Refusal} {l m : List ℕ} → WritePromise trip room a l → WritePromise trip room b m
    → (a ≡ b) × (l ≡ m)
write_unique {a = a} {b = b} p q = (same _ _ a b p.answers q.answers p.serial q.serial, p.writes ∙ sym q.writes)

pub count_unique : {bytes : List ℕ} {a b : Result ℕ Refusal} → CountPromise bytes a → CountPromise bytes b → a ≡ b
count_unique {a = a} {b = b} p q = same _ _ a b p.answers q.answers p.number q.number

pub read_unique : {bytes : List ℕ} {number : ℕ} {a b : Result Trip Refusal} → ReadPromise bytes number a → ReadPromise bytes number b → a ≡ b
read_unique {a = a} {b = b} p q = same _ _ a b p.answers q.answers p.values q.values
