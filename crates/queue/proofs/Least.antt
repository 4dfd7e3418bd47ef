-- What `pick` takes: the frontier cell of the least sum, and among those the least key.
use Rattle.std.specs.Prelude.{Option, Some, None}
use Prim.Native.Nat.{ℕ, zero, suc, ◌+◌, ◌≤◌, ◌<◌}
use mathlib.Core.Path.{◌≡◌, refl, subst}
use mathlib.Core.Bool.{Bool, true, false}
use native.Mathlib.Omega.{arith}
use native.Mathlib.Decide.{ℕ_discrete, dec_lt}
use lib.Dec.{eqb}
use borrow.Author.Tests.{lt-ltb, le-ltb, eq-eqb, ne_eqb}
use Rattle.rules.specs.Search.{Search, beats, better, pick}
use Rattle.queue.specs.Queue.{key}
use Rattle.floor.specs.declared.Distance.{Distance, TheVariants.Reached, TheVariants.Unreached}

-- the frontier is empty
pub none_is : (s : Search) (est : ℕ → ℕ) (n : ℕ) → ((x g : ℕ) → s.front x ≡ true → s.dist x ≡ Reached g → ⊥) → None ≡ pick est s n
unfolding pick better
none_is s est zero h = refl
none_is s est (suc n) h = go (pick est s n) (none_is s est n h) (s.front n) refl (s.dist n) refl
  where
    go : (b : Option (ℕ × ℕ)) → None ≡ b → (t : Bool) → s.front n ≡ t → (d : Distance) → s.dist n ≡ d → None ≡ better est b t d n
    go b e false p d q = e
    go b e true p Unreached q = e
    go b e true p (Reached g) q = absurd (h n g p q)

-- c, at g, comes before y, at h
pub record Before (est : ℕ → ℕ) (c g y h : ℕ) : Type 0 where
  pub sums : g + est c ≤ h + est y
  pub keys : g + est c ≡ h + est y → key est c ≤ key est y

module _ (s : Search) (est : ℕ → ℕ) (c g : ℕ) where
  -- what is taken below c: nothing, or a cell that c replaces
  abbrev Worse : Option (ℕ × ℕ) → Type 0
  Worse None = Unit {0}
  Worse (Some (y, h)) = (y < c) × Before est c g y h

  takes : (b : Option (ℕ × ℕ)) → Worse b → Some (c, g) ≡ better est b true (Reached g) c
  unfolding better beats
  takes None w = refl
  takes (Some (y, h)) w = elim (dec_lt (g + est c) (h + est y)) as (λ _. Some (c, g) ≡ better est (Some (y, h)) true (Reached g) c) [
    | yes p ↦ rw (lt-ltb (g + est c) (h + est y) p, better)
    | no p ↦ rw (le-ltb (g + est c) (h + est y) (omega arith), eq-eqb (g + est c) (h + est y) (omega (arith, w.1.sums)), lt-ltb h g (omega (arith, w.0, w.1.sums, w.1.keys (omega (arith, w.1.sums)))), better)
  ]

  -- c stays where a later cell comes
  stays : (y h : ℕ) → y < 65536 → c < y → Before est c g y h → Some (c, g) ≡ better est (Some (c, g)) true (Reached h) y
  unfolding better beats
  stays y h l k w = elim (ℕ_discrete (h + est y) (g + est c)) as (λ _. Some (c, g) ≡ better est (Some (c, g)) true (Reached h) y) [
    | yes p ↦ rw (le-ltb (h + est y) (g + est c) (omega (arith, w.sums)), eq-eqb (h + est y) (g + est c) p, le-ltb g h (omega (arith, w.keys (omega arith))), better)
    | no p ↦ rw (le-ltb (h + est y) (g + est c) (omega (arith, w.sums)), other p, better)
  ]
    where
      other : (h + est y ≡ g + est c → ⊥) → eqb (h + est y) (g + est c) ≡ false
      other p = ne_eqb (h + est y) (g + est c) p

  worse_two : (b : Option (ℕ × ℕ)) (y h : ℕ) → Worse b → Worse (Some (y, h)) → Worse (better est b true (Reached h) y)
  unfolding better
  worse_two None y h w v = v
  worse_two (Some (d, k)) y h w v = either (beats est y h d k)
    where
      either : (t : Bool) → Worse (elim t [ true ↦ Some (y, h) | false ↦ Some (d, k) ])
      either true = v
      either false = w

  module _ (n : ℕ) (small : n ≤ 65536) (waits : s.front c ≡ true) (reached : s.dist c ≡ Reached g) (below : c < n) (first : (y h : ℕ) → s.front y ≡ true → s.dist y ≡ Reached h → Before est c g y h) where
    early : (m : ℕ) → m ≤ c → Worse (pick est s m)
    unfolding pick better
    early zero l = tt
    early (suc m) l = go (pick est s m) (early m (omega arith)) (s.front m) refl (s.dist m) refl
      where
        go : (b : Option (ℕ × ℕ)) → Worse b → (t : Bool) → s.front m ≡ t → (d : Distance) → s.dist m ≡ d → Worse (better est b t d m)
        go b w false p d q = w
        go b w true p Unreached q = w
        go b w true p (Reached h) q = worse_two b m h w (omega arith, first m h p q)

    late : (m : ℕ) → c < m → m ≤ n → Some (c, g) ≡ pick est s m
    unfolding pick better
    late zero k l = absurd (omega arith)
    late (suc m) k l = elim (ℕ_discrete m c) as (λ _. Some (c, g) ≡ pick est s (suc m)) [
      | yes e ↦ rw (e, waits, reached) (takes (pick est s c) (early c (omega arith)))
      | no e ↦ go (pick est s m) (late m (omega arith) (omega arith)) (omega arith) (s.front m) refl (s.dist m) refl
    ]
      where
        go : (b : Option (ℕ × ℕ)) → Some (c, g) ≡ b → c < m → (t : Bool) → s.front m ≡ t → (d : Distance) → s.dist m ≡ d → Some (c, g) ≡ better est b t d m
        go b e o false p d q = e
        go b e o true p Unreached q = e
        go b e o true p (Reached h) q = subst (λ (b : Option (ℕ × ℕ)). Some (c, g) ≡ better est b true (Reached h) m) e (stays m h (omega arith) o (first m h p q))

    -- a frontier cell that comes before all others is the one taken
    pub best_is : Some (c, g) ≡ pick est s n
    best_is = late n below (omega arith)
