-- Two cells adjoin exactly where they follow each other in one row or are one width apart. So the two passes over such pairs test what
-- soundness asks of adjoining cells.
use Prim.Native.Nat.{ℕ, ◌+◌, ◌-◌, ◌*◌, ◌/◌, ◌%◌, ◌≤◌, ◌<◌}
use Rattle.std.specs.Prelude.{Some}
use mathlib.Core.Path.{◌≡◌, ◌∙◌, refl, sym}
use mathlib.Core.Logic.{inl, inr}
use mathlib.Core.Bool.{Bool, true, false, ◌&&◌, ◌||◌}
use native.Mathlib.Omega.{arith}
use native.Mathlib.Nat.{zero-add, mod-lt, div-add-mod', mul-le-mul_right, div-lt_iff_lt-mul}
use lib.Dec.{ltb, leb, eqb}
use lib.Arith.{digits_mod}
use borrow.Author.Tests.{ltb-true, ltb-false, eqb-true, eqb-false}
use Rattle.floor.specs.declared.{Floor.Floor, Heading.Heading}
use Rattle.floor.specs.declared.Heading.TheVariants.{North, West, East, South}
use Rattle.floor.specs.Floor.{sizes_ok, cells, beside, neighbour}
use Rattle.floor.proofs.Tools.{both, and_1, and_2, and_i, same_test}
use Rattle.floor.proofs.Geometry.{sides, beside-left, beside-right, beside-sym}
use Rattle.floor.proofs.Headings.{north_off, north_on, west_off, west_on, east_off, east_on, south_on, south_off, leads, led}
use Rattle.rules.specs.Sound.{every, near_ok, sound}
use Rattle.theory.proofs.Soundness.{every_at, every_i}
use Rattle.refusals.specs.Pairs.{pair_ok, pairs_ok}

-- a row is on the floor to its end
pub row_fits : (f : Floor) (q : ℕ) → q < f.height → q * f.width + f.width ≤ cells f
unfolding cells
row_fits f q lt = let m : (q + 1) * f.width ≤ f.height * f.width = mul-le-mul_right f.width (omega arith) in omega arith

pub first_row : (f : Floor) → sizes_ok f ≡ true → f.width ≤ cells f
first_row f s = omega (arith, row_fits f 0 (sides f s).some_height)

-- a row of one cell has no pair
pub rows_alone : (height w : ℕ) (known : ℕ → Bool) (est : ℕ → ℕ) → w ≡ 1 → true ≡ every height (λ q. pairs_ok known est (q * w) (w - 1) 1)
unfolding pairs_ok
rows_alone height w known est one = sym (every_i height _ (λ q lq. every_i (w - 1) _ (λ i lt. absurd (omega arith))))

module _ (f : Floor) (known : ℕ → Bool) (est : ℕ → ℕ) where
  -- of two cells that adjoin a pair's test is the rule's, both ways
  pair_near : (x y : ℕ) → beside f x y ≡ true → pair_ok known est x y ≡ (near_ok f known est x y && near_ok f known est y x)
  unfolding pair_ok near_ok
  pair_near x y b = rw (b, beside-sym f x y b) (at (known x) (known y) (leb (est x) (est y + 1)) (leb (est y) (est x + 1)))
    where
      at : (k l a b : Bool) → (k || l || (a && b)) ≡ ((k || l || a) && (l || k || b))
      at true true a b = refl
      at true false a b = refl
      at false true a b = refl
      at false false a b = refl

  -- the rule at every two cells, and the code's two passes
  abbrev adjoining : Bool
  adjoining = every (cells f) (λ x. every (cells f) (near_ok f known est x))

  abbrev rows : Bool
  rows = every f.height (λ q. pairs_ok known est (q * f.width) (f.width - 1) 1)

  abbrev columns : Bool
  columns = pairs_ok known est 0 (cells f - f.width) f.width

  pair_of : adjoining ≡ true → (x y : ℕ) → beside f x y ≡ true → pair_ok known est x y ≡ true
  pair_of e x y b = rw (pair_near x y b) (and_i (near x y b) (near y x (beside-sym f x y b)))
    where
      near : (x y : ℕ) → beside f x y ≡ true → near_ok f known est x y ≡ true
      near x y b = every_at (cells f) (near_ok f known est x)
          (every_at (cells f) (λ x. every (cells f) (near_ok f known est x)) e x (beside-left f x y b)) y (beside-right f x y b)

  module _ (pos : 0 < f.width) where
    rows_pass : adjoining ≡ true → rows ≡ true
    unfolding pairs_ok
    rows_pass e = every_i f.height _ (λ q lq. every_i (f.width - 1) _ (λ c lc. pair_of e _ _ (next q c lq lc)))
      where
        next : (q c : ℕ) → q < f.height → c < f.width - 1 → beside f (q * f.width + c) (q * f.width + c + 1) ≡ true
        next q c lq lc =
            let m : (q * f.width + c) % f.width ≡ c = digits_mod q (omega arith) in
            leads f _ _ pos East (omega (arith, row_fits f q lq)) (east_on f _ (λ l. absurd (omega arith)))

    columns_pass : adjoining ≡ true → columns ≡ true
    unfolding pairs_ok
    columns_pass e = every_i (cells f - f.width) _ (λ x lt. pair_of e _ _ (leads f _ _ pos South (omega arith) (south_on f _ (omega arith))))

    -- a cell and the one below it, and a cell and the next one in its row
    down : columns ≡ true → (x y : ℕ) → y < cells f → x + f.width ≡ y → pair_ok known est x y ≡ true
    unfolding pairs_ok
    down e x y lt s = rw (sym s) (simp zero-add at (every_at (cells f - f.width) _ e x (omega arith)))

    along : rows ≡ true → (q c x y : ℕ) → q < f.height → c < f.width - 1 → q * f.width + c ≡ x → x + 1 ≡ y
        → pair_ok known est x y ≡ true
    unfolding pairs_ok
    along e q c x y lq lc s t = rw (sym t, sym s) (every_at (f.width - 1) _ (every_at f.height _ e q lq) c lc)

    module _ (rs : rows ≡ true) (cs : columns ≡ true) (x y : ℕ) (b : beside f x y ≡ true) where
      from_x : pair_ok known est x y ≡ true → near_ok f known est x y ≡ true
      from_x p = and_1 _ (near_ok f known est y x) (sym (pair_near x y b) ∙ p)

      from_y : pair_ok known est y x ≡ true → near_ok f known est x y ≡ true
      from_y p = and_2 (near_ok f known est y x) _ (sym (pair_near y x (beside-sym f x y b)) ∙ p)

      abbrev row : ℕ
      row = x / f.width

      abbrev column : ℕ
      column = x % f.width

      row_on : row < f.height
      unfolding cells
      row_on = (div-lt_iff_lt-mul pos).1 (omega (arith, beside-left f x y b))

      headed : (h : Heading) → neighbour f x h ≡ Some y → near_ok f known est x y ≡ true
      headed North e = elim (both (ltb x f.width)) [
        | inl t ↦ cc (north_off f x (ltb-true _ _ t))
        | inr t ↦
            let l = ltb-false x f.width t in
            let s : x - f.width ≡ y = cc (north_on f x l) in
            from_y (down cs y x (beside-left f x y b) (omega arith))
      ]
      headed West e = elim (both (eqb column 0)) [
        | inl t ↦ cc (west_off f x (eqb-true _ _ t))
        | inr t ↦
            let n = eqb-false column 0 t in
            let s : x - 1 ≡ y = cc (west_on f x n) in
            let d = div-add-mod' x f.width in
            from_y (along rs row (column - 1) y x row_on (omega (arith, mod-lt x pos)) (omega arith) (omega arith))
      ]
      headed East e = elim (both (eqb (column + 1) f.width)) [
        | inl t ↦ cc (east_off f x (eqb-true _ _ t))
        | inr t ↦
            let n = eqb-false (column + 1) f.width t in
            from_x (along rs row column x y row_on (omega (arith, mod-lt x pos)) (div-add-mod' x f.width) (cc (east_on f x n)))
      ]
      headed South e = elim (both (ltb (x + f.width) (cells f))) [
        | inl t ↦ from_x (down cs x y (beside-right f x y b) (cc (south_on f x (ltb-true _ _ t))))
        | inr t ↦ cc (south_off f x (ltb-false _ _ t))
      ]

    adjoining_pass : rows ≡ true → columns ≡ true → adjoining ≡ true
    unfolding near_ok
    adjoining_pass rs cs = every_i (cells f) _ (λ x lx. every_i (cells f) _ (λ y ly. elim (both (beside f x y)) [
      | inl b ↦ let l = led f x y pos b in headed rs cs x y b l.0 l.1
      | inr b ↦ rw b
    ]))

    passes : (rows && columns) ≡ adjoining
    passes = same_test (rows && columns) adjoining
        (λ e. adjoining_pass (and_1 rows columns e) (and_2 rows columns e))
        (λ e. and_i (rows_pass e) (columns_pass e))

    -- the goal's test, the bound's and the two passes are the rule
    pub sound_passes : (goal : ℕ) (low rs cs : Bool) → low ≡ every (cells f) (λ x. leb (est x) (cells f - 1)) → rs ≡ rows → cs ≡ columns
        → (eqb (est goal) 0 && low && (rs && cs)) ≡ sound f known est goal
    unfolding sound
    sound_passes goal low rs cs l r c = rw (l, r, c, passes)
