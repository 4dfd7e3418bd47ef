-- What an entry answers where it may refuse, as the numbers of document 01.
use Rattle.std.specs.Prelude.{ℕ, List, ◌∷◌, replicate, Result, Ok, Err}
use Rattle.floor.specs.Floor.{number}
use Rattle.refusals.specs.declared.Refused.{Refused}

-- an answer's refusal, or 0
unfoldable pub refused_by : {D : Type 0} → Result D Refused → ℕ
refused_by (Ok done) = 0
refused_by (Err r) = number r.refusal

-- an answer's numbers: a result's own, or of a refusal the cart as given in the second place, with 0 before it and so many after it
unfoldable pub told : {D : Type 0} → (D → List ℕ) → ℕ → Result D Refused → List ℕ
told numbers after (Ok done) = numbers done
told numbers after (Err r) = 0 ∷ r.cart ∷ replicate after 0
