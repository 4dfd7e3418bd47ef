-- The parents' route from the cart to the target: each cell beside the one before, not known blocked, and one lower by the new estimates.
use Prim.Native.Nat.{ℕ, zero, suc, ◌+◌, ◌<◌}
use mathlib.Core.Path.{◌≡◌, ◌∙◌, refl, ap, subst}
use mathlib.Core.Bool.{Bool, false, not}
use mathlib.Core.List.{List, [], ◌∷◌}
use native.Mathlib.Omega.{arith}
use lib.Dec.{ltb}
use lib.ListN.{length}
use borrow.Author.Tests.{lt-ltb}
use Rattle.floor.specs.declared.Floor.{Floor}
use Rattle.floor.specs.Floor.{cells}
use Rattle.rules.specs.Search.{Search}
use Rattle.rules.specs.Leg.{route, barred}
use Rattle.floor.proofs.Tools.{clash}
use Rattle.floor.proofs.Geometry.{beside-right}
use Rattle.theory.proofs.Picks.{Least}
use Rattle.theory.proofs.Seeks.{Sought}
use Rattle.theory.proofs.Lifted.{ancestor, Lifted, hangs}
use Rattle.theory.proofs.Drives.{Line, end, on}
use Rattle.floor.specs.declared.Distance.{TheVariants.Reached}

pub length-route : (parent : ℕ → ℕ) (k x : ℕ) (ahead : List ℕ) → length (route parent k x ahead) ≡ k + length ahead
unfolding route
length-route parent zero x ahead = omega arith
length-route parent (suc k) x ahead = omega (arith, length-route parent k (parent x) (x ∷ ahead))

module _ (f : Floor) (known : ℕ → Bool) (est : ℕ → ℕ) (goal cart : ℕ) (s : Search) (t g : ℕ)
    (sought : Sought f known est goal cart s) (least : Least est s (cells f) t g) where
  module _ (new : ℕ → ℕ) (lifted : Lifted f known est goal s t g new) where
    back : (j k : ℕ) (ahead : List ℕ) → j + k ≡ g → Line f new (ancestor s.parent j t) ahead
        → Line f new cart (route s.parent k (ancestor s.parent j t) ahead)
    unfolding route ancestor
    back j zero ahead e l =
        subst (λ (y : ℕ). Line f new y ahead) (sought.inv.root _ (hangs f known est goal cart s t g sought least j 0 e)) l
    back j (suc k) ahead e l =
        let (o, b, q) = sought.inv.linked _ k (hangs f known est goal cart s t g sought least j (suc k) e) in
        back (suc j) k (ancestor s.parent j t ∷ ahead) (omega arith)
        (on b (omega (arith, lifted.drops j (suc k) e, lifted.drops (suc j) k (omega arith))) l)

    pub line : Line f new cart (route s.parent g t [])
    unfolding ancestor
    line = back 0 g [] (omega arith) end

  -- its cells are reached by at least one move: what is so of no such cell is so of none on the route
  avoids : (p : ℕ → Bool) → ((x k : ℕ) → s.dist x ≡ Reached (suc k) → p x ≡ false) → (k x : ℕ) (ahead : List ℕ) → s.dist x ≡ Reached k
      → barred p ahead ≡ false → barred p (route s.parent k x ahead) ≡ false
  unfolding route barred
  avoids p h zero x ahead d n = n
  avoids p h (suc k) x ahead d n = avoids p h k (s.parent x) (x ∷ ahead) (sought.inv.linked x k d).2 (rw (h x k d) n)

  pub unbarred : barred known (route s.parent g t []) ≡ false
  unfolding barred
  unbarred = avoids known (λ x k. sought.inv.clear x (suc k)) g t [] least.reached refl

  pub on_floor : barred (λ x. not (ltb x (cells f))) (route s.parent g t []) ≡ false
  unfolding barred
  on_floor = avoids (λ x. not (ltb x (cells f)))
      (λ x k d. rw (lt-ltb x (cells f) (beside-right f (s.parent x) x (sought.inv.linked x k d).1))) g t [] least.reached refl

  -- the target is not the cart's cell, which is opened
  pub away : 0 < g
  away =
      let n : (g ≡ 0 → ⊥) = λ e. stay (sought.inv.root t (least.reached ∙ ap Reached e)) in
      omega arith
    where
      stay : t ≡ cart → ⊥
      stay e = clash sought.begun (rw e at (sought.inv.not_both t least.waiting))

  pub some_way : 0 < length (route s.parent g t [])
  some_way = omega (arith, away, length-route s.parent g t [])
