-- The sum of all estimates but the one under the cart.
use Prim.Native.Nat.{ℕ, zero, suc, ◌+◌, ◌-◌, ◌*◌, ◌≤◌, ◌<◌}
use mathlib.Core.Path.{◌≡◌, refl, ap}
use mathlib.Core.Logic.{inl, inr}
use mathlib.Core.Bool.{true, false}
use native.Mathlib.Omega.{arith}
use lib.Dec.{eqb}
use borrow.Author.Tests.{eqb-true, eqb-false, eq-eqb, ne_eqb}
use Rattle.theory.specs.Promise.{others}
use Rattle.floor.proofs.Tools.{both}

-- the sum of the estimates below n
unfoldable pub total : (ℕ → ℕ) → ℕ → ℕ
total est zero = 0
total est (suc n) = est n + total est n

others_at : (est : ℕ → ℕ) (c n : ℕ) → n ≡ c → others est c (suc n) ≡ others est c n
unfolding others
others_at est c n e = rw (eq-eqb n c e, others) (omega arith)

others_off : (est : ℕ → ℕ) (c n : ℕ) → (n ≡ c → ⊥) → others est c (suc n) ≡ est n + others est c n
unfolding others
others_off est c n e = rw (ne_eqb n c e, others)

-- splits at the last number: c is n, or is below it
split : {P : Type 0} (c n : ℕ) → (n ≡ c → P) → ((n ≡ c → ⊥) → P) → P
split c n yes-at no-at = elim (both (eqb n c)) [ inl e ↦ yes-at (eqb-true n c e) | inr e ↦ no-at (eqb-false n c e) ]

past : (est : ℕ → ℕ) (c n : ℕ) → n ≤ c → others est c n ≡ total est n
unfolding total others
past est c zero le = refl
past est c (suc n) le =
    let d : (n ≡ c → ⊥) = omega arith in
    omega (arith, others_off est c n d, past est c n (omega arith))

pub whole : (est : ℕ → ℕ) (c n : ℕ) → c < n → others est c n + est c ≡ total est n
unfolding total
whole est c zero lt = absurd (omega arith)
whole est c (suc n) lt = split c n
    (λ e. omega (arith, others_at est c n e, past est c n (omega arith), ap est e))
    (λ d. omega (arith, others_off est c n d, whole est c n (omega arith)))

rise : (est new : ℕ → ℕ) → ((x : ℕ) → est x ≤ new x) → (n : ℕ) → total est n ≤ total new n
unfolding total
rise est new up zero = omega arith
rise est new up (suc n) = omega (arith, up n, rise est new up n)

rise_at : (est new : ℕ → ℕ) → ((x : ℕ) → est x ≤ new x) → (a n : ℕ) → a < n → total est n + new a ≤ total new n + est a
unfolding total
rise_at est new up a zero lt = absurd (omega arith)
rise_at est new up a (suc n) lt = split a n
    (λ e. omega (arith, rise est new up n, ap est e, ap new e))
    (λ d. omega (arith, up n, rise_at est new up a n (omega arith)))

-- a cart that goes from a to b, k lower by the new estimates, has the sum of the others rise by k at least
pub climbs : (est new : ℕ → ℕ) → ((x : ℕ) → est x ≤ new x) → (n a b k : ℕ) → a < n → b < n → new b + k ≡ new a
    → others est a n + k ≤ others new b n
climbs est new up n a b k la lb e = omega (arith, whole est a n la, whole new b n lb, rise_at est new up a n la)

total_le : (est : ℕ → ℕ) (m n : ℕ) → ((x : ℕ) → x < n → est x ≤ m) → total est n ≤ n * m
unfolding total
total_le est m zero le = omega arith
total_le est m (suc n) le = omega (arith, le n (omega arith), total_le est m n (λ x lt. le x (omega arith)))

others_le : (est : ℕ → ℕ) (c m n : ℕ) → ((x : ℕ) → x < n → est x ≤ m) → c < n → others est c n + m ≤ n * m
others_le est c m zero le lt = absurd (omega arith)
others_le est c m (suc n) le lt = split c n
    (λ e. omega (arith, others_at est c n e, past est c n (omega arith), total_le est m n (λ x lt. le x (omega arith))))
    (λ d. omega (arith, others_off est c n d, le n (omega arith), others_le est c m n (λ x lt. le x (omega arith)) (omega arith)))

-- with estimates at most n-1 the sum is at most (n-1) squared
pub others_small : (est : ℕ → ℕ) (c n : ℕ) → ((x : ℕ) → x < n → est x < n) → c < n → others est c n ≤ (n - 1) * (n - 1)
others_small est c zero low lt = absurd (omega arith)
others_small est c (suc n) low lt =
    let h : others est c (suc n) + n ≤ suc n * n = others_le est c n (suc n) (λ x l. omega (arith, low x l)) lt in
    simp pred_suc (omega arith)
  where
    pred_suc : suc n - 1 ≡ n
    pred_suc = omega arith

-- a cart that is off the goal, whose estimate is 0, leaves n-1 of that unused
raised_at : (ℕ → ℕ) → ℕ → ℕ → ℕ → ℕ
raised_at est g v x = elim (eqb x g) [ true ↦ v | false ↦ est x ]

raised_here : (est : ℕ → ℕ) (g v x : ℕ) → x ≡ g → raised_at est g v x ≡ v
unfolding raised_at
raised_here est g v x e = rw (eq-eqb x g e, raised_at)

raised_off : (est : ℕ → ℕ) (g v x : ℕ) → (x ≡ g → ⊥) → raised_at est g v x ≡ est x
unfolding raised_at
raised_off est g v x e = rw (ne_eqb x g e, raised_at)

pub others_off_goal : (est : ℕ → ℕ) (c g n : ℕ) → ((x : ℕ) → x < n → est x < n) → c < n → g < n → (c ≡ g → ⊥) → est g ≡ 0
    → others est c n + (n - 1) ≤ (n - 1) * (n - 1)
others_off_goal est c g n low lc lg off zero-at = omega (
  arith,
  whole est c n lc,
  whole new c n lc,
  rise_at est new (λ x. split g x (λ e. omega (arith, ap est e)) (λ d. omega (arith, raised_off est g (n - 1) x d))) g n lg,
  raised_here est g (n - 1) g refl,
  raised_off est g (n - 1) c off,
  others_small new c n (λ x lt. split g x (λ e. omega (arith, raised_here est g (n - 1) x e)) (λ d. omega (arith, raised_off est g (n - 1) x d, low x lt))) lc,
)
  where
    new : ℕ → ℕ
    new = raised_at est g (n - 1)

pub others_same : (est est' : ℕ → ℕ) (c n : ℕ) → ((x : ℕ) → x < n → est' x ≡ est x) → others est' c n ≡ others est c n
unfolding others
others_same est est' c zero same = refl
others_same est est' c (suc n) same = split c n
    (λ e. omega (arith, others_at est c n e, others_at est' c n e, others_same est est' c n (λ x lt. same x (omega arith))))
    (λ d. omega (arith, others_off est c n d, others_off est' c n d, same n (omega arith), others_same est est' c n (λ x lt. same x (omega arith))))
