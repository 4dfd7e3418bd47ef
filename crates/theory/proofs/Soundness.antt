-- The tests of the rules as facts, both ways: a test at every number, a known map within the plan, and sound estimates. Prepared
-- estimates are sound over any known map.
use Prim.Native.Nat.{ℕ, zero, suc, ◌+◌, ◌-◌, ◌/◌, ◌%◌, ◌≤◌, ◌<◌}
use mathlib.Core.Path.{◌≡◌, refl}
use mathlib.Core.Bool.{Bool, true, false, not, ◌||◌}
use native.Mathlib.Omega.{arith}
use lib.Dec.{leb}
use borrow.Author.Tests.{leb-true, eqb-true, le-leb, eq-eqb}
use Rattle.floor.specs.declared.Floor.{Floor}
use Rattle.floor.specs.Floor.{cells, manhattan, beside, value_at, prepared}
use Rattle.floor.proofs.Tools.{and_1, and_2, and_i, not_t, below_suc}
use Rattle.floor.proofs.Boards.{value_tabulate}
use Rattle.floor.proofs.Geometry.{gap-self, gap-via, manhattan-lt, beside-left, beside-right, one_step}
use Rattle.rules.specs.Sound.{Route, every, within, near_ok, sound}

pub every_at : (n : ℕ) (p : ℕ → Bool) → every n p ≡ true → (x : ℕ) → x < n → p x ≡ true
unfolding every
every_at zero p e = λ x lt. absurd (omega arith)
every_at (suc n) p e = below_suc (λ x. p x ≡ true) n (every_at n p (and_2 (p n) (every n p) e)) (and_1 (p n) (every n p) e)

pub every_i : (n : ℕ) (p : ℕ → Bool) → ((x : ℕ) → x < n → p x ≡ true) → every n p ≡ true
unfolding every
every_i zero p h = refl
every_i (suc n) p h = and_i (h n (omega arith)) (every_i n p (λ x lt. h x (omega arith)))

-- there is no open route from the cart to the goal
abbrev pub NoRoute : Floor → (ℕ → Bool) → ℕ → ℕ → Type 0
NoRoute f plan goal cart = (n : ℕ) → Route f plan goal cart n → ⊥

-- blocked in the known map only where blocked in the plan
unfoldable pub Within : Floor → (ℕ → Bool) → (ℕ → Bool) → Type 0
Within f known plan = (x : ℕ) → x < cells f → plan x ≡ false → known x ≡ false

pub record Sound (f : Floor) (known : ℕ → Bool) (est : ℕ → ℕ) (goal : ℕ) : Type 0 where
  pub at_goal : est goal ≡ 0
  pub low : (x : ℕ) → x < cells f → est x < cells f
  pub near : (x y : ℕ) → beside f x y ≡ true → known x ≡ false → known y ≡ false → est x ≤ est y + 1

module _ (f : Floor) (known plan : ℕ → Bool) where
  pub within_facts : within f known plan ≡ true → Within f known plan
  unfolding within Within
  within_facts e x lt o = not_t (known x) (rw o at (every_at (cells f) (λ x. plan x || not (known x)) e x lt))

  pub within_test : Within f known plan → within f known plan ≡ true
  unfolding within Within
  within_test h = every_i (cells f) _ (λ x lt. at (plan x) (known x) (h x lt))
    where
      at : (p k : Bool) → (p ≡ false → k ≡ false) → (p || not k) ≡ true
      at true k h = refl
      at false k h = rw (h refl)

module _ (f : Floor) (known : ℕ → Bool) (est : ℕ → ℕ) (goal : ℕ) where
  near_facts : (x y : ℕ) → near_ok f known est x y ≡ true → beside f x y ≡ true → known x ≡ false → known y ≡ false → est x ≤ est y + 1
  unfolding near_ok
  near_facts x y e b kx ky = leb-true (est x) (est y + 1) (rw (b, kx, ky) at e)

  near_test : Sound f known est goal → (x y : ℕ) → near_ok f known est x y ≡ true
  unfolding near_ok
  near_test s x y = at (beside f x y) (known x) (known y) refl refl refl
    where
      at : (b k l : Bool) → beside f x y ≡ b → known x ≡ k → known y ≡ l → (not b || k || l || leb (est x) (est y + 1)) ≡ true
      at false k l eb ek el = refl
      at true true l eb ek el = refl
      at true false true eb ek el = refl
      at true false false eb ek el = le-leb (est x) (est y + 1) (s.near x y eb ek el)

  pub sound_facts : sound f known est goal ≡ true → Sound f known est goal
  unfolding sound
  sound_facts e = record {
    at_goal = eqb-true (est goal) 0 (search (and_1, and_2));
    low = λ x lt. omega (arith, leb-true (est x) (cells f - 1) (every_at (cells f) (λ x. leb (est x) (cells f - 1)) (search (and_1, and_2)) x lt));
    near = λ x y b. near_facts x y
        (every_at (cells f) (near_ok f known est x)
        (every_at (cells f) (λ x. every (cells f) (near_ok f known est x)) (search (and_1, and_2)) x (beside-left f x y b)) y (beside-right f x y b)) b;
  }

  pub sound_test : Sound f known est goal → sound f known est goal ≡ true
  unfolding sound
  sound_test s = and_i (and_i
      (eq-eqb (est goal) 0 s.at_goal)
      (every_i (cells f) (λ x. leb (est x) (cells f - 1)) (λ x lt. le-leb (est x) (cells f - 1) (omega (arith, s.low x lt)))))
      (every_i (cells f) (λ x. every (cells f) (near_ok f known est x)) (λ x lt. every_i (cells f) (near_ok f known est x) (λ y l. near_test s x y)))

-- the same where the pictures agree on the floor
pub sound_same : {f : Floor} {known known' : ℕ → Bool} {est est' : ℕ → ℕ} {goal : ℕ} → goal < cells f
    → ((x : ℕ) → x < cells f → known' x ≡ false → known x ≡ false) → ((x : ℕ) → x < cells f → est' x ≡ est x)
    → Sound f known est goal → Sound f known' est' goal
sound_same {f} {goal = goal} aim sk se s = record {
  at_goal = rw (se goal aim) s.at_goal;
  low = λ x lt. rw (se x lt) (s.low x lt);
  near = λ x y b kx ky. rw (se x (beside-left f x y b), se y (beside-right f x y b))
      (s.near x y b (sk x (beside-left f x y b) kx) (sk y (beside-right f x y b) ky));
}

-- the Manhattan distances to the goal
distances : (f : Floor) (known : ℕ → Bool) (goal : ℕ) → 0 < f.width → goal < cells f → Sound f known (λ x. manhattan f x goal) goal
unfolding manhattan
distances f known goal pos lg = record {
  at_goal = omega (arith, gap-self (goal / f.width), gap-self (goal % f.width));
  low = λ x lx. manhattan-lt f x goal pos lx lg;
  near = λ x y b kx ky. omega (
    arith,
    one_step f x y b,
    gap-via (x / f.width) (y / f.width) (goal / f.width),
    gap-via (x % f.width) (y % f.width) (goal % f.width),
  );
}

pub prepared_sound : (f : Floor) (known : ℕ → Bool) (goal : ℕ) → 0 < f.width → goal < cells f → Sound f known (value_at (prepared f goal)) goal
unfolding prepared
prepared_sound f known goal pos lg =
    sound_same lg (λ x lt e. e) (value_tabulate (cells f) (λ x. manhattan f x goal)) (distances f known goal pos lg)
