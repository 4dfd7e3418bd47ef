-- Where there is an open route, there is one of fewer moves than the floor has cells: what comes before the last visit to its first cell is left out,
-- the cell is taken off the floor, and so on.
use Prim.Native.Nat.{ℕ, zero, suc, ◌+◌, ◌≤◌, ◌<◌}
use mathlib.Core.Path.{◌≡◌, ◌∙◌, refl, sym, subst}
use mathlib.Core.Logic.{◌⊎◌, inl, inr}
use mathlib.Core.Bool.{Bool, true, false, ◌||◌}
use native.Mathlib.Omega.{arith}
use lib.Dec.{eqb}
use borrow.Author.Tests.{eqb-true, eqb-false, eq-eqb, ne_eqb}
use Rattle.floor.specs.declared.Floor.{Floor}
use Rattle.floor.specs.Floor.{cells, beside}
use Rattle.rules.specs.Sound.{Route, here, step}
use Rattle.floor.proofs.Tools.{both, clash, or_1, or_f2}
use Rattle.floor.proofs.Geometry.{beside-right}
use Rattle.theory.proofs.Routes.{route_open}

-- the plan with a blocked as well
block : ℕ → (ℕ → Bool) → ℕ → Bool
block a plan x = eqb x a || plan x

block_at : (a : ℕ) (plan : ℕ → Bool) → block a plan a ≡ true
unfolding block
block_at a plan = or_1 (eqb a a) (plan a) (eq-eqb a a refl)

block_off : (a : ℕ) (plan : ℕ → Bool) (x : ℕ) → (x ≡ a → ⊥) → block a plan x ≡ plan x
unfolding block
block_off a plan x n = rw (ne_eqb x a n)

block_open : (a : ℕ) (plan : ℕ → Bool) (x : ℕ) → block a plan x ≡ false → plan x ≡ false
unfolding block
block_open a plan x e = or_f2 (eqb x a) (plan x) e

-- how many cells below n are open
one : Bool → ℕ
one true = 0
one false = 1

free : (ℕ → Bool) → ℕ → ℕ
free plan zero = 0
free plan (suc n) = one (plan n) + free plan n

one_le : (t : Bool) → one t ≤ 1
unfolding one
one_le true = omega arith
one_le false = omega arith

free_le : (plan : ℕ → Bool) (n : ℕ) → free plan n ≤ n
unfolding free
free_le plan zero = omega arith
free_le plan (suc n) = omega (arith, free_le plan n, one_le (plan n))

-- the same where no cell below n is a
free_same : (a : ℕ) (plan : ℕ → Bool) (n : ℕ) → n ≤ a → free (block a plan) n ≡ free plan n
unfolding free
free_same a plan zero le = refl
free_same a plan (suc n) le = rw (block_off a plan n (other le), free_same a plan n (omega arith))
  where
    other : suc n ≤ a → n ≡ a → ⊥
    other le e = omega arith

free_block : (a : ℕ) (plan : ℕ → Bool) → plan a ≡ false → (n : ℕ) → a < n → free plan n ≡ suc (free (block a plan) n)
unfolding free one
free_block a plan o zero lt = absurd (omega arith)
free_block a plan o (suc n) lt = elim (both (eqb n a)) [
  | inl e ↦ at n (eqb-true n a e)
  | inr e ↦ rw (block_off a plan n (eqb-false n a e), free_block a plan o n (less (eqb-false n a e))) (omega arith)
]
  where
    at : (k : ℕ) → k ≡ a → one (plan k) + free plan k ≡ suc (one (block a plan k) + free (block a plan) k)
    at k e = rw (e, o, block_at a plan, free_same a plan a (omega arith)) (omega arith)

    less : (n ≡ a → ⊥) → a < n
    less d = omega arith

-- a route from x that never comes by a
abbrev Avoids : Floor → ℕ → (ℕ → Bool) → ℕ → ℕ → Type 0
Avoids f goal plan a x = (k : ℕ) × Route f (block a plan) goal x k

module _ {f : Floor} {goal : ℕ} where
  unblocked : {plan : ℕ → Bool} (a : ℕ) {x n : ℕ} → Route f (block a plan) goal x n → Route f plan goal x n
  unblocked {plan} a (here o) = here (block_open a plan goal o)
  unblocked {plan} a (step {a = x} o b r) = step (block_open a plan x o) b (unblocked a r)

  -- a route that never comes by a, or what follows on its last visit there
  leaves : {plan : ℕ → Bool} (a : ℕ) {x n : ℕ} → Route f plan goal x n
      → (Avoids f goal plan a x) ⊎ ((a ≡ goal) ⊎ ((b : ℕ) × (beside f a b ≡ true) × Avoids f goal plan a b))
  leaves {plan} a (here o) = elim (both (eqb goal a)) [
    | inl e ↦ inr (inl (sym (eqb-true goal a e)))
    | inr e ↦ inl (0, here (block_off a plan goal (eqb-false goal a e) ∙ o))
  ]
  leaves {plan} a (step {a = x} {b = y} o b r) = elim (leaves a r) [
    | inl q ↦ elim (both (eqb x a)) [
      | inl e ↦ inr (inr (y, rw (eqb-true x a e) at b, q))
      | inr e ↦ inl (suc q.0, step (block_off a plan x (eqb-false x a e) ∙ o) b q.1)
    ]
    | inr q ↦ inr q
  ]

  shorter : (m : ℕ) (plan : ℕ → Bool) → free plan (cells f) ≤ m → (a : ℕ) → a < cells f → {n : ℕ} → Route f plan goal a n
      → (k : ℕ) × Route f plan goal a k × (k < m)
  shorter zero plan le a lt r = absurd (omega (arith, free_block a plan (route_open r) (cells f) lt))
  shorter (suc m) plan le a lt r = elim (leaves a r) [
    | inl q ↦ clash (block_at a plan) (route_open q.1)
    | inr q ↦ elim q [
      | inl e ↦ (0, subst (λ (x : ℕ). Route f plan goal x 0) (sym e) (here (rw e at (route_open r))), omega arith)
      | inr d ↦
          let (k, p, small) = shorter m (block a plan) (omega (arith, free_block a plan (route_open r) (cells f) lt)) d.0 (beside-right f a d.0 d.1) d.2.1 in
          (suc k, step (route_open r) d.1 (unblocked a p), omega arith)
    ]
  ]

pub short : {f : Floor} {goal : ℕ} (plan : ℕ → Bool) (a : ℕ) → a < cells f → {n : ℕ} → Route f plan goal a n
    → (k : ℕ) × Route f plan goal a k × (k < cells f)
short {f} plan a lt r = shorter (cells f) plan (free_le plan (cells f)) a lt r
