-- The moves of a leg: they are an open route, each of them takes one off the new estimate under the cart, and the known map stays within the plan.
use Prim.Native.Nat.{ℕ, zero, suc, ◌+◌, ◌≤◌, ◌<◌}
use mathlib.Core.Path.{◌≡◌, refl}
use mathlib.Core.Bool.{Bool, true, false}
use mathlib.Core.List.{List, [], ◌∷◌}
use native.Mathlib.Omega.{arith}
use lib.ListN.{length}
use Rattle.floor.specs.declared.Floor.{Floor}
use Rattle.floor.specs.Floor.{beside}
use Rattle.theory.proofs.Soundness.{Within}
use Rattle.rules.specs.Sound.{Route, here, step}
use Rattle.rules.specs.Leg.{barred, Drive, parked, moved, drive, last}
use Rattle.floor.proofs.Tools.{or_f1}
use Rattle.theory.proofs.Senses.{Sensed, Senses}

-- ---- the cells ahead: each beside the one before, and one nearer by its estimate

pub data Line (f : Floor) (est : ℕ → ℕ) : ℕ → List ℕ → Type 0 where
  end : {a : ℕ} → Line f est a []
  on : {a c : ℕ} {l : List ℕ} → beside f a c ≡ true → est c + 1 ≡ est a → Line f est c l → Line f est a (c ∷ l)

-- what driving from a over the known map comes to
pub record Drove (f : Floor) (plan : ℕ → Bool) (est : ℕ → ℕ) (known : ℕ → Bool) (a : ℕ) (d : Drive) : Type 0 where
  pub way : Route f plan (last a d.made) a (length d.made)
  pub sinks : est (last a d.made) + length d.made ≡ est a
  pub grows : (x : ℕ) → d.seen x ≡ false → known x ≡ false
  pub within : Within f d.seen plan

module _ (sees : ℕ → (ℕ → Bool) → ℕ → Bool) (f : Floor) (plan : ℕ → Bool) (est : ℕ → ℕ) (senses : Senses f plan sees) where
  parks : (known : ℕ → Bool) (a : ℕ) → plan a ≡ false → Within f known plan → Drove f plan est known a (parked known)
  unfolding parked last
  parks known a o w = record { way = here o; sinks = omega arith; grows = λ x e. e; within = w }

  moves : (known : ℕ → Bool) (a c : ℕ) (d : Drive) → plan a ≡ false → beside f a c ≡ true → est c + 1 ≡ est a
      → Drove f plan est (sees c known) c d → Drove f plan est known a (moved c d)
  unfolding moved last
  moves known a c d o b e r = record {
    way = step o b r.way;
    sinks = omega (arith, r.sinks);
    grows = λ x q. senses.grows c known x (r.grows x q);
    within = r.within;
  }

  pub drove : (limit : ℕ) (known : ℕ → Bool) (a : ℕ) (ahead : List ℕ) → plan a ≡ false → Within f known plan → Sensed f plan a known
      → barred known ahead ≡ false → Line f est a ahead → Drove f plan est known a (drive sees limit known ahead)
  unfolding drive barred
  drove zero known a ahead o w h n l = parks known a o w
  drove (suc limit) known a [] o w h n end = parks known a o w
  drove (suc limit) known a (c ∷ ahead) o w h n (on b e l) =
      moves known a c _ o b e
      (further (λ q. drove limit (sees c known) c ahead oc (senses.within c known w) (senses.sensed c known) q l)
      (barred (sees c known) ahead) refl)
    where
      seen : ℕ → Bool
      seen = sees c known

      oc : plan c ≡ false
      oc = h c b (or_f1 (known c) (barred known ahead) n)

      further : (barred seen ahead ≡ false → Drove f plan est seen c (drive sees limit seen ahead))
          → (t : Bool) → barred seen ahead ≡ t
          → Drove f plan est seen c (elim t [ true ↦ parked seen | false ↦ drive sees limit seen ahead ])
      further go true q = parks seen c oc (senses.within c known w)
      further go false q = go q

pub drives_on : (sees : ℕ → (ℕ → Bool) → ℕ → Bool) (limit : ℕ) (known : ℕ → Bool) (ahead : List ℕ) → 0 < limit → 0 < length ahead
    → 0 < length (drive sees limit known ahead).made
unfolding drive moved
drives_on sees zero known ahead p q = absurd (omega arith)
drives_on sees (suc limit) known [] p q = absurd (omega arith)
drives_on sees (suc limit) known (c ∷ ahead) p q = omega arith

-- no more moves than the limit
pub drives_short : (sees : ℕ → (ℕ → Bool) → ℕ → Bool) (limit : ℕ) (known : ℕ → Bool) (ahead : List ℕ)
    → length (drive sees limit known ahead).made ≤ limit
unfolding drive moved parked
drives_short sees zero known ahead = omega arith
drives_short sees (suc limit) known [] = omega arith
drives_short sees (suc limit) known (c ∷ ahead) =
    omega (arith, further (drives_short sees limit (sees c known) ahead) (barred (sees c known) ahead))
  where
    further : length (drive sees limit (sees c known) ahead).made ≤ limit → (t : Bool)
        → length (elim t as (λ b. Drive) [ true ↦ parked (sees c known) | false ↦ drive sees limit (sees c known) ahead ]).made ≤ limit
    further h true = omega arith
    further h false = h
