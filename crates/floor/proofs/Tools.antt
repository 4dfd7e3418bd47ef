-- Case analysis on Boolean tests.
use Prim.Native.Nat.{ℕ, suc, ◌≤◌, ◌<◌}
use mathlib.Core.Path.{◌≡◌, ◌∙◌, refl, sym, subst}
use mathlib.Core.Logic.{◌⊎◌, inl, inr}
use mathlib.Core.Bool.{Bool, true, false, not, ◌&&◌, ◌||◌, true≢false}
use native.Mathlib.Omega.{arith}
use lib.Dec.{ltb}
use borrow.Author.Tests.{ltb-true, ltb-false}

-- `elim (both t) [ inl e ↦ .. | inr e ↦ .. ]` splits on the test t and keeps the equation
pub both : (t : Bool) → (t ≡ true) ⊎ (t ≡ false)
both true = inl refl
both false = inr refl

pub clash : {A : Type 0} {t : Bool} → t ≡ true → t ≡ false → A
clash p q = absurd (true≢false (sym p ∙ q))

pub and_1 : (a b : Bool) → (a && b) ≡ true → a ≡ true
and_1 true b e = refl
and_1 false b e = e

pub and_2 : (a b : Bool) → (a && b) ≡ true → b ≡ true
and_2 true b e = e
and_2 false b e = absurd (true≢false (sym e))

pub and_i : {a b : Bool} → a ≡ true → b ≡ true → (a && b) ≡ true
and_i {a} {b} p q = rw (p, q)

pub and_f : (a b : Bool) → (a && b) ≡ false → a ≡ true → b ≡ false
and_f true b e p = e
and_f false b e p = absurd (true≢false (sym p))

pub or_cases : (a b : Bool) → (a || b) ≡ true → (a ≡ true) ⊎ (b ≡ true)
or_cases true b e = inl refl
or_cases false b e = inr e

pub or_1 : (a b : Bool) → a ≡ true → (a || b) ≡ true
or_1 a b p = rw p

pub or_2 : (a b : Bool) → b ≡ true → (a || b) ≡ true
or_2 true b p = refl
or_2 false b p = p

pub or_f1 : (a b : Bool) → (a || b) ≡ false → a ≡ false
or_f1 true b e = e
or_f1 false b e = refl

pub or_f2 : (a b : Bool) → (a || b) ≡ false → b ≡ false
or_f2 true b e = absurd (true≢false e)
or_f2 false b e = e

pub not_t : (a : Bool) → not a ≡ true → a ≡ false
not_t true e = sym e
not_t false e = refl

-- a fact of every number below n, and of n
pub below_suc : (P : ℕ → Type 0) (n : ℕ) → ((y : ℕ) → y < n → P y) → P n → (y : ℕ) → y < suc n → P y
below_suc P n old new y lt = elim (both (ltb y n)) [
  | inl e ↦ old y (ltb-true y n e)
  | inr e ↦ subst P (same (ltb-false y n e)) new
]
  where
    same : n ≤ y → n ≡ y
    same h = omega arith

pub refute : (t : Bool) → (t ≡ true → ⊥) → t ≡ false
refute true h = absurd (h refl)
refute false h = refl

-- two tests that hold together are the same
pub same_test : (a b : Bool) → (a ≡ true → b ≡ true) → (b ≡ true → a ≡ true) → a ≡ b
same_test true b h k = sym (h refl)
same_test false true h k = k refl
same_test false false h k = refl
