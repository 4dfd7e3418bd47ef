-- Raising the estimates after a search whose target is t at g: none falls, and sound estimates stay sound.
use Prim.Native.Nat.{ℕ, zero, suc, ◌+◌, ◌-◌, ◌≤◌, ◌<◌}
use mathlib.Core.Path.{◌≡◌, ◌∙◌}
use mathlib.Core.Logic.{inl, inr}
use mathlib.Core.Bool.{Bool, true, false}
use native.Mathlib.Omega.{arith}
use Rattle.floor.specs.declared.Floor.{Floor}
use Rattle.floor.specs.Floor.{cells, beside}
use Rattle.theory.proofs.Soundness.{Sound}
use Rattle.rules.specs.Search.{Search}
use Rattle.rules.specs.Leg.{lifted, raise}
use Rattle.floor.proofs.Tools.{both, clash}
use Rattle.theory.proofs.Picks.{Least}
use Rattle.theory.proofs.Seeks.{Sought}
use Rattle.theory.proofs.Lifted.{ancestor, Lifts, hangs, hangs_opened}
use Rattle.floor.specs.declared.Distance.{TheVariants.Reached}

module _ (F : ℕ) (s : Search) (est : ℕ → ℕ) (x : ℕ) where
  pub raise_yes : (h : ℕ) → s.opened x ≡ true → s.dist x ≡ Reached h → raise F s est x ≡ F - h
  unfolding raise lifted
  raise_yes h o d = rw (o, d, lifted)

  pub raise_no : s.opened x ≡ false → raise F s est x ≡ est x
  unfolding raise lifted
  raise_no o = rw (o, lifted)

module _ (f : Floor) (known : ℕ → Bool) (est : ℕ → ℕ) (goal cart : ℕ) (s : Search) (t g : ℕ)
    (sound : Sound f known est goal) (sought : Sought f known est goal cart s) (least : Least est s (cells f) t g) where
  -- the sum of an opened cell is at most F, and its new estimate is what is left of F
  pub fits : (x h : ℕ) → s.opened x ≡ true → s.dist x ≡ Reached h → h + est x ≤ g + est t
  fits x h o d = sought.inv.order x h t g o d least.waiting least.reached

  pub raised : (x h : ℕ) → s.opened x ≡ true → s.dist x ≡ Reached h → raise (g + est t) s est x + h ≡ g + est t
  raised x h o d = omega (arith, fits x h o d, raise_yes (g + est t) s est x h o d)

  pub no_fall : (x : ℕ) → est x ≤ raise (g + est t) s est x
  no_fall x = elim (both (s.opened x)) [
    | inl o ↦ let (h, d) = sought.inv.done_has x o in omega (arith, raised x h o d, fits x h o d)
    | inr o ↦ omega (arith, raise_no (g + est t) s est x o)
  ]

  -- the estimate of a cell that is not opened but beside an opened one
  rim : (x y h k : ℕ) → s.dist x ≡ Reached h → s.opened y ≡ false → s.dist y ≡ Reached k → g + est t ≤ k + est y
  rim x y h k d n e = elim (sought.inv.one_of y k e) [
    | inl w ↦ least.least y (sought.inv.wait_in y w) k w e
    | inr o ↦ clash o n
  ]

  raised_near : (x y : ℕ) → beside f x y ≡ true → known x ≡ false → known y ≡ false
      → raise (g + est t) s est x ≤ raise (g + est t) s est y + 1
  raised_near x y b kx ky = elim (both (s.opened x)) [
    | inl o ↦
        let (h, d) = sought.inv.done_has x o in
        let (k, e, le) = sought.inv.closed x h y o d b ky in
        elim (both (s.opened y)) [
          | inl p ↦ omega (arith, raised x h o d, raised y k p e)
          | inr p ↦ omega (arith, raised x h o d, raise_no (g + est t) s est y p, rim x y h k d p e)
        ]
    | inr o ↦ omega (arith, raise_no (g + est t) s est x o, sound.near x y b kx ky, no_fall y)
  ]

  pub raised_sound : g + est t < cells f → Sound f known (raise (g + est t) s est) goal
  raised_sound small = record {
    at_goal = raise_no (g + est t) s est goal sought.unmet ∙ sound.at_goal;
    low = λ x lt. elim (both (s.opened x)) [
      | inl o ↦ let (h, d) = sought.inv.done_has x o in omega (arith, raised x h o d)
      | inr o ↦ omega (arith, raise_no (g + est t) s est x o, sound.low x lt)
    ];
    near = raised_near;
  }

  raised_drops : (k h : ℕ) → k + h ≡ g → raise (g + est t) s est (ancestor s.parent k t) + h ≡ g + est t
  unfolding ancestor
  raised_drops zero h e = omega (arith, raise_no (g + est t) s est t (sought.inv.not_both t least.waiting))
  raised_drops (suc k) h e = raised (ancestor s.parent (suc k) t) h
      (hangs_opened f known est goal cart s t g sought least k h e) (hangs f known est goal cart s t g sought least (suc k) h e)

pub raise_lifts : (f : Floor) → Lifts f raise
raise_lifts f known est goal cart s t g sound sought least lt small = record {
  rises = no_fall f known est goal cart s t g sound sought least;
  sound = raised_sound f known est goal cart s t g sound sought least small;
  drops = raised_drops f known est goal cart s t g sound sought least;
}
