-- What the facts about one leg ask of sensing: it only adds, it adds only what the plan has, and after it the cells that adjoin the cart are right.
-- Sensing the neighbours is such.
use Prim.Native.Nat.{ℕ}
use mathlib.Core.Path.{◌≡◌}
use mathlib.Core.Logic.{inl, inr}
use mathlib.Core.Bool.{Bool, true, false, ◌&&◌, ◌||◌}
use Rattle.floor.specs.declared.Floor.{Floor}
use Rattle.floor.specs.Floor.{beside}
use Rattle.rules.specs.Leg.{sense}
use Rattle.theory.proofs.Soundness.{Within}
use Rattle.floor.proofs.Tools.{clash, refute, and_2, and_f, or_cases, or_f1, or_f2}

-- the cell a has been sensed from: what adjoins it and is not known blocked is open
abbrev pub Sensed : Floor → (ℕ → Bool) → ℕ → (ℕ → Bool) → Type 0
Sensed f plan a known = (x : ℕ) → beside f a x ≡ true → known x ≡ false → plan x ≡ false

-- `sees c known` is the known map after sensing from c
pub record Senses (f : Floor) (plan : ℕ → Bool) (sees : ℕ → (ℕ → Bool) → ℕ → Bool) : Type 0 where
  pub grows : (c : ℕ) (known : ℕ → Bool) (x : ℕ) → sees c known x ≡ false → known x ≡ false
  pub within : (c : ℕ) (known : ℕ → Bool) → Within f known plan → Within f (sees c known) plan
  pub sensed : (c : ℕ) (known : ℕ → Bool) → Sensed f plan c (sees c known)

-- marking what a test picks out and the plan has: the test has to pick out the neighbours
marks : (f : Floor) (plan : ℕ → Bool) (test : ℕ → ℕ → Bool) → ((c x : ℕ) → beside f c x ≡ true → test c x ≡ true)
    → Senses f plan (λ c known x. known x || (test c x && plan x))
unfolding Within
marks f plan test near = record {
  grows = λ c known x e. or_f1 (known x) (test c x && plan x) e;
  within = λ c known w x lt o. refute _ λ e. elim (or_cases (known x) (test c x && plan x) e) [
    | inl k ↦ clash k (w x lt o)
    | inr k ↦ clash (and_2 (test c x) (plan x) k) o
  ];
  sensed = λ c known x b e. and_f (test c x) (plan x) (or_f2 (known x) (test c x && plan x) e) (near c x b);
}

pub sense_senses : (f : Floor) (plan : ℕ → Bool) → Senses f plan (sense f plan)
unfolding sense
sense_senses f plan = marks f plan (beside f) (λ c x b. b)
