-- Where the headings lead. Two cells of the floor share a side exactly where one of the four leads from the one to the other.
use Prim.Native.Nat.{ℕ, zero, suc, ◌+◌, ◌-◌, ◌*◌, ◌/◌, ◌%◌, ◌≤◌, ◌<◌}
use mathlib.Core.Path.{◌≡◌, ◌∙◌, refl, sym, ap, subst, fun_ext}
use mathlib.Core.Logic.{inl, inr}
use mathlib.Core.Bool.{Bool, true, ◌||◌}
use native.Mathlib.Omega.{arith}
use native.Mathlib.Nat.{div-add-mod', mod-lt, div-lt_iff_lt-mul}
use lib.Dec.{ltb, eqb}
use lib.Arith.{digits_div, digits_mod, digits_lt}
use borrow.Author.Tests.{ltb-true, ltb-false, eqb-true, eqb-false, lt-ltb, le-ltb, eq-eqb, ne_eqb}
use Rattle.std.specs.Prelude.{Option, Some, None, SomeIff}
use Rattle.floor.specs.Floor.{Floor, sizes_ok, cells, gap, manhattan, beside, Heading, North, West, East, South, neighbour, leads_to}
use Rattle.floor.proofs.Tools.{both, clash, or_cases, or_1, or_2, same_test}
use Rattle.floor.proofs.Geometry.{sides, beside-right, one_step}

-- each heading by its test
module _ (f : Floor) (c : ℕ) where
  pub north_off : c < f.width → neighbour f c North ≡ None
  unfolding neighbour
  north_off h = rw (lt-ltb _ _ h, neighbour)

  pub north_on : f.width ≤ c → neighbour f c North ≡ Some (c - f.width)
  unfolding neighbour
  north_on h = rw (le-ltb _ _ h, neighbour)

  pub north_is : (to : Option ℕ) → SomeIff to (f.width ≤ c) (c - f.width) → to ≡ neighbour f c North
  north_is None h = sym (north_off (omega (arith, h)))
  north_is (Some x) h = ap Some h.1 ∙ sym (north_on h.0)

  pub west_off : c % f.width ≡ 0 → neighbour f c West ≡ None
  unfolding neighbour
  west_off h = rw (eq-eqb _ _ h, neighbour)

  pub west_on : (c % f.width ≡ 0 → ⊥) → neighbour f c West ≡ Some (c - 1)
  unfolding neighbour
  west_on h = rw (ne_eqb _ _ h, neighbour)

  pub east_off : c % f.width + 1 ≡ f.width → neighbour f c East ≡ None
  unfolding neighbour
  east_off h = rw (eq-eqb _ _ h, neighbour)

  pub east_on : (c % f.width + 1 ≡ f.width → ⊥) → neighbour f c East ≡ Some (c + 1)
  unfolding neighbour
  east_on h = rw (ne_eqb _ _ h, neighbour)

  pub south_on : c + f.width < cells f → neighbour f c South ≡ Some (c + f.width)
  unfolding neighbour
  south_on h = rw (lt-ltb _ _ h, neighbour)

  pub south_off : cells f ≤ c + f.width → neighbour f c South ≡ None
  unfolding neighbour
  south_off h = rw (le-ltb _ _ h, neighbour)

-- the four ways in which row and column can be 1 apart in all
data Way (q r q' r' : ℕ) : Type 0 where
  up : q ≡ q' + 1 → r ≡ r' → Way q r q' r'
  down : q' ≡ q + 1 → r ≡ r' → Way q r q' r'
  back : q ≡ q' → r ≡ r' + 1 → Way q r q' r'
  on : q ≡ q' → r' ≡ r + 1 → Way q r q' r'

ways : (q r q' r' : ℕ) → gap q q' + gap r r' ≡ 1 → Way q r q' r'
unfolding gap
ways q r q' r' e = elim (both (ltb q' q)) [
  | inl t ↦ let h = ltb-true q' q t in up (omega arith) (omega arith)
  | inr t ↦ elim (both (ltb q q')) [
    | inl u ↦ let h = ltb-true q q' u in down (omega arith) (omega arith)
    | inr u ↦ let h = ltb-false q' q t in let k = ltb-false q q' u in elim (both (ltb r' r)) [
      | inl v ↦ let l = ltb-true r' r v in back (omega arith) (omega arith)
      | inr v ↦ let l = ltb-false r' r v in on (omega arith) (omega arith)
    ]
  ]
]

one_apart : (q r q' r' : ℕ) → Way q r q' r' → gap q q' + gap r r' ≡ 1
unfolding gap
one_apart q r q' r' (up a b) = omega arith
one_apart q r q' r' (down a b) = omega arith
one_apart q r q' r' (back a b) = omega arith
one_apart q r q' r' (on a b) = omega arith

-- a cell from its row and column
row : (w q r : ℕ) (x : ℕ) → r < w → q * w + r ≡ x → x / w ≡ q
row w q r x lt e = subst (λ (y : ℕ). y / w ≡ q) e (digits_div q lt)

column : (w q r : ℕ) (x : ℕ) → r < w → q * w + r ≡ x → x % w ≡ r
column w q r x lt e = subst (λ (y : ℕ). y % w ≡ r) e (digits_mod q lt)

module _ (f : Floor) (a b : ℕ) (pos : 0 < f.width) where
  is_beside : a < cells f → b < cells f → Way (a / f.width) (a % f.width) (b / f.width) (b % f.width) → beside f a b ≡ true
  unfolding beside manhattan
  is_beside la lb w = rw (lt-ltb a (cells f) la, lt-ltb b (cells f) lb) (eq-eqb _ 1 (one_apart _ _ _ _ w))

  -- the four headings, by what their tests say
  north : a < cells f → (q : ℕ) → a / f.width ≡ q → f.width ≤ a → a - f.width ≡ b → beside f a b ≡ true
  north la zero q le e = absurd (omega (arith, rw q at (div-add-mod' a f.width), mod-lt a pos))
  north la (suc q) h le e =
      let s : q * f.width + a % f.width ≡ b = omega (arith, rw h at (div-add-mod' a f.width)) in
      is_beside la (omega arith) (up
      (h ∙ sym (omega (arith, row f.width q (a % f.width) b (mod-lt a pos) s)))
      (sym (column f.width q (a % f.width) b (mod-lt a pos) s)))

  south : a < cells f → a + f.width < cells f → a + f.width ≡ b → beside f a b ≡ true
  south la lt e =
      let s : (a / f.width + 1) * f.width + a % f.width ≡ b = omega (arith, div-add-mod' a f.width) in
      is_beside la (omega arith) (down
      (row f.width (a / f.width + 1) (a % f.width) b (mod-lt a pos) s)
      (sym (column f.width (a / f.width + 1) (a % f.width) b (mod-lt a pos) s)))

  west : a < cells f → (a % f.width ≡ 0 → ⊥) → a - 1 ≡ b → beside f a b ≡ true
  west la n e =
      let l : a % f.width - 1 < f.width = omega (arith, mod-lt a pos) in
      let s : a / f.width * f.width + (a % f.width - 1) ≡ b = omega (arith, div-add-mod' a f.width) in
      is_beside la (omega arith) (back
      (sym (row f.width (a / f.width) (a % f.width - 1) b l s))
      (omega (arith, column f.width (a / f.width) (a % f.width - 1) b l s)))

  east : a < cells f → (a % f.width + 1 ≡ f.width → ⊥) → a + 1 ≡ b → beside f a b ≡ true
  unfolding cells
  east la n e =
      let l : a % f.width + 1 < f.width = omega (arith, mod-lt a pos) in
      let s : a / f.width * f.width + (a % f.width + 1) ≡ b = omega (arith, div-add-mod' a f.width) in
      let q : a / f.width < f.height = (div-lt_iff_lt-mul pos).1 (omega arith) in
      is_beside la (omega (arith, digits_lt {c = f.width} q l)) (on
      (sym (row f.width (a / f.width) (a % f.width + 1) b l s))
      (column f.width (a / f.width) (a % f.width + 1) b l s))

  -- a heading leads to a cell that shares a side
  pub leads : (h : Heading) → a < cells f → neighbour f a h ≡ Some b → beside f a b ≡ true
  leads North la e = elim (both (ltb a f.width)) [
    | inl t ↦ cc (north_off f a (ltb-true _ _ t))
    | inr t ↦ let l = ltb-false a f.width t in north la (a / f.width) refl l (cc (north_on f a l))
  ]
  leads West la e = elim (both (eqb (a % f.width) 0)) [
    | inl t ↦ cc (west_off f a (eqb-true _ _ t))
    | inr t ↦ let n = eqb-false (a % f.width) 0 t in west la n (cc (west_on f a n))
  ]
  leads East la e = elim (both (eqb (a % f.width + 1) f.width)) [
    | inl t ↦ cc (east_off f a (eqb-true _ _ t))
    | inr t ↦ let n = eqb-false (a % f.width + 1) f.width t in east la n (cc (east_on f a n))
  ]
  leads South la e = elim (both (ltb (a + f.width) (cells f))) [
    | inl t ↦ let l = ltb-true (a + f.width) (cells f) t in south la l (cc (south_on f a l))
    | inr t ↦ cc (south_off f a (ltb-false _ _ t))
  ]

  heads : b < cells f → Way (a / f.width) (a % f.width) (b / f.width) (b % f.width) → (h : Heading) × (neighbour f a h ≡ Some b)
  heads lb (up q r) =
      let s : a ≡ b + f.width = omega (arith, rw q at (div-add-mod' a f.width), div-add-mod' b f.width) in
      (North, north_on f a (omega arith) ∙ ap Some (omega arith))
  heads lb (down q r) =
      let s : b ≡ a + f.width = omega (arith, rw q at (div-add-mod' b f.width), div-add-mod' a f.width) in
      (South, south_on f a (omega arith) ∙ ap Some (omega arith))
  heads lb (back q r) =
      let s : a ≡ b + 1 = omega (arith, rw q at (div-add-mod' a f.width), div-add-mod' b f.width) in
      (West, west_on f a (omega arith) ∙ ap Some (omega arith))
  heads lb (on q r) =
      let s : b ≡ a + 1 = omega (arith, rw q at (div-add-mod' a f.width), div-add-mod' b f.width) in
      (East, east_on f a (omega (arith, mod-lt b pos)) ∙ ap Some (omega arith))

  -- and to each such cell one leads
  pub led : beside f a b ≡ true → (h : Heading) × (neighbour f a h ≡ Some b)
  unfolding manhattan
  led e = heads (beside-right f a b e) (ways _ _ _ _ (one_step f a b e))

-- a heading that leads anywhere leads to a cell of the floor
pub to_cell : (f : Floor) (c : ℕ) (h : Heading) (st : Option ℕ) → st ≡ neighbour f c h → (y : ℕ) → sizes_ok f ≡ true → c < cells f → st ≡ Some y → y < cells f
to_cell f c h st is y s lt e = beside-right f c y (leads f c y (sides f s).some_width h lt (sym is ∙ e))

-- ---- all four at once

leads_is : (st : Option ℕ) (x : ℕ) → leads_to st x ≡ true → st ≡ Some x
unfolding leads_to
leads_is (Some y) x e = ap Some (sym (eqb-true x y e))
leads_is None x e = clash e refl

is_leads : (st : Option ℕ) (x : ℕ) → st ≡ Some x → leads_to st x ≡ true
unfolding leads_to
is_leads st x e = rw e (eq-eqb x x refl)

-- a test of some heading
abbrev pub some : (Heading → Bool) → Bool
some t = ((t North || t West) || t East) || t South

some_i : (t : Heading → Bool) (h : Heading) → t h ≡ true → some t ≡ true
some_i t North e = or_1 ((t North || t West) || t East) _ (or_1 (t North || t West) _ (or_1 (t North) _ e))
some_i t West e = or_1 ((t North || t West) || t East) _ (or_1 (t North || t West) _ (or_2 (t North) _ e))
some_i t East e = or_1 ((t North || t West) || t East) _ (or_2 (t North || t West) _ e)
some_i t South e = or_2 ((t North || t West) || t East) _ e

some_e : (t : Heading → Bool) → some t ≡ true → (h : Heading) × (t h ≡ true)
some_e t e = elim (or_cases ((t North || t West) || t East) (t South) e) [
  | inl d ↦ elim (or_cases (t North || t West) (t East) d) [
    | inl b ↦ elim (or_cases (t North) (t West) b) [ inl a ↦ (North, a) | inr a ↦ (West, a) ]
    | inr b ↦ (East, b)
  ]
  | inr d ↦ (South, d)
]

-- the cells to which the four lead are the cells that share a side
pub around : (f : Floor) (c : ℕ) → 0 < f.width → c < cells f → (λ x. some (λ h. leads_to (neighbour f c h) x)) ≡ beside f c
around f c pos lt = fun_ext (λ x. same_test _ _
    (λ e. let (h, l) = some_e (λ h. leads_to (neighbour f c h) x) e in leads f c x pos h lt (leads_is (neighbour f c h) x l))
    (λ e. let (h, l) = led f c x pos e in some_i (λ h. leads_to (neighbour f c h) x) h (is_leads (neighbour f c h) x l)))
