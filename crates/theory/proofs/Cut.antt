-- A search that is cut off shows that there is no open route: any open route leaves the opened cells by a frontier cell.
use Rattle.std.specs.Prelude.{None}
use Prim.Native.Nat.{ℕ, ◌+◌, ◌≤◌, ◌<◌}
use mathlib.Core.Path.{◌≡◌}
use mathlib.Core.Logic.{inl, inr}
use mathlib.Core.Bool.{Bool, true}
use native.Mathlib.Omega.{arith}
use Rattle.floor.specs.declared.Floor.{Floor}
use Rattle.floor.specs.Floor.{cells}
use Rattle.theory.proofs.Soundness.{Sound, Within}
use Rattle.rules.specs.Sound.{Route, here, step}
use Rattle.rules.specs.Search.{Search}
use Rattle.floor.proofs.Tools.{clash}
use Rattle.floor.proofs.Geometry.{beside-right}
use Rattle.theory.proofs.Picks.{Least, Best}
use Rattle.theory.proofs.Seeks.{Sought}
use Rattle.theory.proofs.Routes.{route_open, admissible}
use Rattle.theory.proofs.Short.{short}
use Rattle.floor.specs.declared.Distance.{TheVariants.Reached}

module _ (f : Floor) (plan known : ℕ → Bool) (est : ℕ → ℕ) (goal cart : ℕ) (s : Search)
    (sound : Sound f known est goal) (w : Within f known plan) (sought : Sought f known est goal cart s) where
  crossing : {a n : ℕ} (g : ℕ) → s.opened a ≡ true → s.dist a ≡ Reached g → Route f plan goal a n
      → (y h : ℕ) × (s.front y ≡ true) × (s.dist y ≡ Reached h) × (h + est y ≤ g + n)
  unfolding Within
  crossing g o d (here q) = clash o sought.unmet
  crossing g o d (step {a} {b} q e r) =
      let (h, db, le) = sought.inv.closed a g b o d e (w b (beside-right f a b e) (route_open r)) in
      elim (sought.inv.one_of b h db) [
        | inl fb ↦ (b, h, fb, db, omega (arith, admissible sound w r))
        | inr ob ↦
            let (y, k, fy, dy, small) = crossing h ob db r in
            (y, k, fy, dy, omega arith)
      ]

  pub empty_cut : Best est s (cells f) None → {n : ℕ} → Route f plan goal cart n → ⊥
  empty_cut none r =
      let (y, h, fy, dy, le) = crossing 0 sought.begun sought.inv.origin r in
      none y (sought.inv.wait_in y fy) h fy dy

  pub far_cut : (t g : ℕ) → Least est s (cells f) t g → cart < cells f → cells f ≤ g + est t → {n : ℕ} → Route f plan goal cart n → ⊥
  far_cut t g least lt far r =
      let (k, q, small) = short plan cart lt r in
      let (y, h, fy, dy, le) = crossing 0 sought.begun sought.inv.origin q in
      omega (arith, least.least y (sought.inv.wait_in y fy) h fy dy)
