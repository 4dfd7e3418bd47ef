-- The floor: what its sizes give, that to share a side goes both ways, and bounds on the Manhattan distance.
use Prim.Native.Nat.{ℕ, zero, suc, ◌+◌, ◌*◌, ◌≤◌, ◌<◌}
use mathlib.Core.Path.{◌≡◌, ap₂}
use mathlib.Core.Bool.{true, ◌&&◌}
use native.Mathlib.Omega.{arith}
use native.Mathlib.Nat.{mod-lt, mul-le-mul, div-lt_iff_lt-mul}
use lib.Dec.{ltb, leb, eqb}
use borrow.Author.Tests.{ltb-true, leb-true, eqb-true, lt-ltb, le-leb}
use Rattle.floor.specs.Floor.{Floor, up_to, sizes_ok, cells, gap, manhattan, beside}
use Rattle.floor.proofs.Tools.{and_1, and_2}

-- what it gives that the sizes hold
pub record Sides (f : Floor) : Type 0 where
  pub some_width : 0 < f.width
  pub width_most : f.width ≤ 64
  pub some_height : 0 < f.height
  pub height_most : f.height ≤ 64

pub up_some : (m x : ℕ) → up_to m x ≡ true → 0 < x
unfolding up_to
up_some m x e = ltb-true 0 x (and_1 _ (leb x m) e)

pub up_most : (m x : ℕ) → up_to m x ≡ true → x ≤ m
unfolding up_to
up_most m x e = leb-true x m (and_2 (ltb 0 x) _ e)

pub within_up_to : (m x : ℕ) → 0 < x → x ≤ m → up_to m x ≡ true
unfolding up_to
within_up_to m x some most = rw (lt-ltb 0 x some, le-leb x m most)

pub sides : (f : Floor) → sizes_ok f ≡ true → Sides f
unfolding sizes_ok
sides f e =
    let w : up_to 64 f.width ≡ true = and_1 _ (up_to 64 f.height) e in
    let h : up_to 64 f.height ≡ true = and_2 (up_to 64 f.width) _ e in
    record {
      some_width = up_some 64 f.width w;
      width_most = up_most 64 f.width w;
      some_height = up_some 64 f.height h;
      height_most = up_most 64 f.height h;
    }

pub area : (f : Floor) → sizes_ok f ≡ true → cells f ≤ 4096
unfolding cells
area f e = let s = sides f e in mul-le-mul s.width_most s.height_most

pub gap-sym : (a b : ℕ) → gap a b ≡ gap b a
unfolding gap
gap-sym a b = omega arith

pub gap-self : (a : ℕ) → gap a a ≡ 0
unfolding gap
gap-self a = omega arith

pub gap-via : (a b c : ℕ) → gap a c ≤ gap a b + gap b c
unfolding gap
gap-via a b c = omega arith

pub gap-lt : (a b n : ℕ) → a < n → b < n → gap a b < n
unfolding gap
gap-lt a b n la lb = omega arith

pub manhattan-sym : (f : Floor) (a b : ℕ) → manhattan f a b ≡ manhattan f b a
unfolding manhattan
manhattan-sym f a b = ap₂ ◌+◌ (gap-sym _ _) (gap-sym _ _)

pub corner : (w h r c : ℕ) → r < h → c < w → r + c < w * h
corner zero h r c lr lc = absurd (omega arith)
corner (suc w) zero r c lr lc = absurd (omega arith)
corner (suc w) (suc h) r c lr lc = omega arith

-- two cells of the floor are less apart than the floor has cells
pub manhattan-lt : (f : Floor) (a b : ℕ) → 0 < f.width → a < cells f → b < cells f → manhattan f a b < cells f
unfolding manhattan cells
manhattan-lt f a b pos la lb = corner f.width f.height _ _
    (gap-lt _ _ _ ((div-lt_iff_lt-mul pos).1 (omega arith)) ((div-lt_iff_lt-mul pos).1 (omega arith)))
    (gap-lt _ _ _ (mod-lt a pos) (mod-lt b pos))

module _ (f : Floor) (a b : ℕ) (e : beside f a b ≡ true) where
  pub beside-left : a < cells f
  unfolding beside
  beside-left = ltb-true a (cells f) (search (and_1, and_2))

  pub beside-right : b < cells f
  unfolding beside
  beside-right = ltb-true b (cells f) (and_2 (ltb a (cells f)) _ (and_1 _ (eqb (manhattan f a b) 1) e))

  pub one_step : manhattan f a b ≡ 1
  unfolding beside
  one_step = eqb-true (manhattan f a b) 1 (and_2 (ltb a (cells f) && ltb b (cells f)) (eqb (manhattan f a b) 1) e)

  pub beside-sym : beside f b a ≡ true
  unfolding beside
  beside-sym = rw (lt-ltb b (cells f) beside-right, lt-ltb a (cells f) beside-left, manhattan-sym f b a)
      (and_2 (ltb a (cells f) && ltb b (cells f)) _ e)
