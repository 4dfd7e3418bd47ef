-- The cell that the search takes is a frontier cell of least g + estimate, and it takes none only where there is none.
use Rattle.std.specs.Prelude.{Option, Some, None}
use Prim.Native.Nat.{ℕ, zero, suc, ◌+◌, ◌≤◌, ◌<◌}
use mathlib.Core.Path.{◌≡◌, refl}
use mathlib.Core.Logic.{inl, inr}
use mathlib.Core.Bool.{Bool, true, false, ◌&&◌}
use native.Mathlib.Omega.{arith}
use lib.Dec.{ltb, eqb}
use borrow.Author.Tests.{ltb-true, ltb-false, eqb-true}
use Rattle.rules.specs.Search.{Search, beats, better, pick}
use Rattle.floor.proofs.Tools.{clash, or_cases, or_f1, and_1, below_suc}
use Rattle.floor.specs.declared.Distance.{Distance, TheVariants.Reached, TheVariants.Unreached}

-- c at g is in the frontier of s below n, and its g + estimate is least there
pub record Least (est : ℕ → ℕ) (s : Search) (n c g : ℕ) : Type 0 where
  pub inside : c < n
  pub waiting : s.front c ≡ true
  pub reached : s.dist c ≡ Reached g
  pub least : (y : ℕ) → y < n → (h : ℕ) → s.front y ≡ true → s.dist y ≡ Reached h → g + est c ≤ h + est y

abbrev pub Best : (ℕ → ℕ) → Search → ℕ → Option (ℕ × ℕ) → Type 0
Best est s n None = (y : ℕ) → y < n → (h : ℕ) → s.front y ≡ true → s.dist y ≡ Reached h → ⊥
Best est s n (Some (c, g)) = Least est s n c g

beats_true : (est : ℕ → ℕ) (d h c g : ℕ) → beats est d h c g ≡ true → h + est d ≤ g + est c
unfolding beats
beats_true est d h c g e = elim (or_cases (ltb (h + est d) (g + est c)) (eqb (h + est d) (g + est c) && ltb g h) e) [
  | inl p ↦ omega (arith, ltb-true)
  | inr p ↦ omega (arith, eqb-true (h + est d) (g + est c) (and_1 _ (ltb g h) p))
]

beats_false : (est : ℕ → ℕ) (d h c g : ℕ) → beats est d h c g ≡ false → g + est c ≤ h + est d
unfolding beats
beats_false est d h c g e = ltb-false (h + est d) (g + est c) (or_f1 _ (eqb (h + est d) (g + est c) && ltb g h) e)

pub same : {x : Distance} (g h : ℕ) → x ≡ Reached g → x ≡ Reached h → g ≡ h
same g h p q = cc

pub apart : {x : Distance} {g : ℕ} → x ≡ Reached g → x ≡ Unreached → ⊥
apart p q = let z : ◌≡◌ {A = ℕ} 0 1 = cc in omega arith

module _ (est : ℕ → ℕ) (s : Search) (n : ℕ) where
  grown : (c g : ℕ) → Least est s n c g → ((k : ℕ) → s.front n ≡ true → s.dist n ≡ Reached k → g + est c ≤ k + est n)
      → Least est s (suc n) c g
  grown c g l new = record {
    inside = omega (arith, l.inside);
    waiting = l.waiting;
    reached = l.reached;
    least = below_suc _ n l.least new;
  }

  weighed : (c g h : ℕ) (t : Bool) → beats est n h c g ≡ t → Least est s n c g → s.front n ≡ true → s.dist n ≡ Reached h
      → Best est s (suc n) (elim t [ true ↦ Some (n, h) | false ↦ Some (c, g) ])
  weighed c g h true e l fr d = record {
    inside = omega arith;
    waiting = fr;
    reached = d;
    least = below_suc _ n (λ y lt k fy dy. omega (arith, l.least y lt k fy dy, beats_true est n h c g e)) (λ k fy dy. omega (arith, same h k d dy));
  }
  weighed c g h false e l fr d = grown c g l (λ k fy dy. omega (arith, same h k d dy, beats_false est n h c g e))

  met : (p : Option (ℕ × ℕ)) → Best est s n p → (b : Bool) → s.front n ≡ b → (d : Distance) → s.dist n ≡ d
      → Best est s (suc n) (better est p b d n)
  unfolding better
  met None l false e d q = below_suc _ n l (λ k fy dy. clash fy e)
  met None l true e Unreached q = below_suc _ n l (λ k fy dy. apart dy q)
  met None l true e (Reached h) q = record {
    inside = omega arith;
    waiting = e;
    reached = q;
    least = below_suc _ n (λ y lt k fy dy. absurd (l y lt k fy dy)) (λ k fy dy. omega (arith, same h k q dy));
  }
  met (Some (c, g)) l false e d q = grown c g l (λ k fy dy. clash fy e)
  met (Some (c, g)) l true e Unreached q = grown c g l (λ k fy dy. absurd (apart dy q))
  met (Some (c, g)) l true e (Reached h) q = weighed c g h (beats est n h c g) refl l e q

-- what `pick` gives is the best
pub pick_best : (est : ℕ → ℕ) (s : Search) (n : ℕ) → Best est s n (pick est s n)
unfolding pick
pick_best est s zero = λ y lt. omega arith
pick_best est s (suc n) = met est s n (pick est s n) (pick_best est s n) (s.front n) refl (s.dist n) refl
