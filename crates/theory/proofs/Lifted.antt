-- What the facts about one leg ask of the new estimates, whatever the update that gives them.
use Prim.Native.Nat.{ℕ, zero, suc, ◌+◌, ◌≤◌, ◌<◌}
use mathlib.Core.Path.{◌≡◌, ◌∙◌, ap}
use mathlib.Core.Bool.{Bool, true}
use native.Mathlib.Omega.{arith}
use Rattle.floor.specs.declared.Floor.{Floor}
use Rattle.floor.specs.Floor.{cells}
use Rattle.theory.proofs.Soundness.{Sound}
use Rattle.rules.specs.Search.{Search}
use Rattle.theory.proofs.Picks.{Least}
use Rattle.theory.proofs.Seeks.{Sought}
use Rattle.floor.specs.declared.Distance.{TheVariants.Reached}

-- k steps back from t along the parents
unfoldable pub ancestor : (ℕ → ℕ) → ℕ → ℕ → ℕ
ancestor parent zero t = t
ancestor parent (suc k) t = parent (ancestor parent k t)

-- new estimates after a search in the state s, with the target t at g
pub record Lifted (f : Floor) (known : ℕ → Bool) (est : ℕ → ℕ) (goal : ℕ) (s : Search) (t g : ℕ) (new : ℕ → ℕ) : Type 0 where
  -- no estimate falls
  pub rises : (x : ℕ) → est x ≤ new x
  -- sound stays sound
  pub sound : Sound f known new goal
  -- along the parents' route they drop by one a move, from F at the cart
  pub drops : (k h : ℕ) → k + h ≡ g → new (ancestor s.parent k t) + h ≡ g + est t

-- an update that gives such estimates after any search, where F is at most N-1
abbrev pub Lifts : Floor → (ℕ → Search → (ℕ → ℕ) → ℕ → ℕ) → Type 0
Lifts f update = (known : ℕ → Bool) (est : ℕ → ℕ) (goal cart : ℕ) (s : Search) (t g : ℕ)
    → Sound f known est goal → Sought f known est goal cart s → Least est s (cells f) t g → cart < cells f → g + est t < cells f
    → Lifted f known est goal s t g (update (g + est t) s est)

-- ---- the cells of the parents' route

module _ (f : Floor) (known : ℕ → Bool) (est : ℕ → ℕ) (goal cart : ℕ) (s : Search) (t g : ℕ)
    (sought : Sought f known est goal cart s) (least : Least est s (cells f) t g) where
  pub hangs : (k h : ℕ) → k + h ≡ g → s.dist (ancestor s.parent k t) ≡ Reached h
  unfolding ancestor
  hangs zero h e = least.reached ∙ ap Reached (omega arith)
  hangs (suc k) h e = (sought.inv.linked (ancestor s.parent k t) h (hangs k (suc h) (omega arith))).2

  pub hangs_opened : (k h : ℕ) → suc k + h ≡ g → s.opened (ancestor s.parent (suc k) t) ≡ true
  unfolding ancestor
  hangs_opened k h e = (sought.inv.linked (ancestor s.parent k t) h (hangs k (suc h) (omega arith))).0
