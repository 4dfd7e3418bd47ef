-- Laws of refusals: tests in order are passed exactly where each holds, and what is left where a test refuses and where none does.
use Prim.Native.Nat.{ℕ, zero, suc}
use mathlib.Core.Path.{◌≡◌, refl}
use mathlib.Core.Bool.{Bool, true, false}
use mathlib.Core.List.{List, [], ◌∷◌}
use native.Mathlib.Omega.{arith}
use Rattle.floor.specs.Floor.{refusal, if_accepted}
use Rattle.floor.proofs.Tools.{clash}

pub passed : (n : ℕ) (t : Bool) (l : List (ℕ × Bool)) → refusal ((suc n, t) ∷ l) ≡ 0 → (t ≡ true) × (refusal l ≡ 0)
unfolding refusal
passed n true l e = (refl, e)
passed n false l e = absurd (omega arith)

pub passes : (n : ℕ) (t : Bool) (l : List (ℕ × Bool)) → t ≡ true → refusal l ≡ 0 → refusal ((n, t) ∷ l) ≡ 0
unfolding refusal
passes n true l e h = h
passes n false l e h = clash e refl

pub passes_all : refusal [] ≡ 0
unfolding refusal
passes_all = refl

pub refused_left : {A : Type 0} {n : ℕ} → (n ≡ 0 → ⊥) → (done kept : A) → if_accepted n done kept ≡ kept
unfolding if_accepted
refused_left {n = zero} some done kept = absurd (some refl)
refused_left {n = suc n} some done kept = refl

pub accepted_left : {A : Type 0} {n : ℕ} → n ≡ 0 → (done kept : A) → if_accepted n done kept ≡ done
unfolding if_accepted
accepted_left e done kept = rw e refl
