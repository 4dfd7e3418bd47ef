-- Answers with the same numbers are the same, where results are.
use Rattle.std.specs.Prelude.{ℕ, ◌≡◌, List, [], ◌∷◌, Result, Ok, Err}
use mathlib.Core.Path.{sym, ap}
use Rattle.floor.proofs.Unique.{same_refusal, some_number}
use Rattle.refusals.specs.declared.Refused.{Refused}
use Rattle.refusals.specs.Answers.{refused_by, told}

-- the number in the second place
second : List ℕ → ℕ
second [] = 0
second (x ∷ []) = 0
second (x ∷ y ∷ l) = y

pub told_same : {D : Type 0} (numbers : D → List ℕ) (after : ℕ) → ((d e : D) → numbers d ≡ numbers e → d ≡ e)
    → (a b : Result D Refused) → refused_by a ≡ refused_by b → told numbers after a ≡ told numbers after b → a ≡ b
unfolding refused_by told second
told_same numbers after same (Ok d) (Ok e) r n = ap Ok (same d e n)
told_same numbers after same (Ok d) (Err s) r n = absurd (some_number s.refusal (sym r))
told_same numbers after same (Err s) (Ok e) r n = absurd (some_number s.refusal r)
told_same numbers after same (Err s) (Err t) r n = λ i. Err (record { refusal = same_refusal s.refusal t.refusal r i; cart = ap second n i })
