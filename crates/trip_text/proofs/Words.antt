-- A word read digit by digit: the value so far, with the digits still to come, is the word's number; a byte that is no digit ends it.
use Prim.Native.Nat.{ℕ, ◌+◌, ◌-◌, ◌*◌, ◌^◌, ◌≤◌, ◌<◌}
use mathlib.Core.Path.{◌≡◌, ◌∙◌, refl, sym, ap}
use mathlib.Core.Logic.{inl, inr}
use mathlib.Core.Bool.{Bool, true, false, ◌&&◌, true≢false}
use mathlib.Core.List.{List, [], ◌∷◌}
use native.Mathlib.Omega.{arith}
use native.Mathlib.Nat.{pow-zero, pow-suc, pow-le-pow_right}
use native.Mathlib.Numerals.{add-one}
use lib.Dec.{ltb, leb, eqb}
use lib.ListN.{length, get_or, drop, drop_of_length-le}
use lib.Seq.{drop-cons}
use borrow.Author.Tests.{leb-true, lt-ltb, le-leb, lt-leb, eq-eqb, ltb-true, eqb-true}
use Rattle.floor.specs.Floor.{up_to}
use Rattle.floor.proofs.Tools.{both, clash, and_1, and_2, and_i, refute, below_suc}
use Rattle.rules.specs.Sound.{every}
use Rattle.rules.specs.Printer.{ascii, is_number, value_of}
use Rattle.theory.proofs.Soundness.{every_at, every_i}
use Rattle.std.specs.Prelude.{Option, Some, None}
use Rattle.std.specs.Borrow.{Bor}
use Rattle.std.specs.Option.{option_eq}
use lib.Pointwise.{pointwise}
use Rattle.trip_text.specs.Parts.{number_in, in_place, said}

pub no_number : (w : List ℕ) → is_number w ≡ false → None ≡ number_in w
unfolding number_in
no_number w e = rw (e, number_in)

pub a_number : (w : List ℕ) → is_number w ≡ true → Some (value_of 0 w) ≡ number_in w
unfolding number_in
a_number w e = rw (e, number_in)

-- and back: what was said tells of the word
pub fault_said : (w : List ℕ) → None ≡ number_in w → is_number w ≡ false
fault_said w e = refute (is_number w) (λ t. let some = a_number w t in cc)

pub number_said : (w : List ℕ) (n : ℕ) → Some n ≡ number_in w → (is_number w ≡ true) × (n ≡ value_of 0 w)
number_said w n e = elim (both (is_number w)) [
  | inl t ↦ let some = a_number w t in (t, cc)
  | inr f ↦ let none = no_number w f in absurd (cc)
]

-- a byte is a digit
unfoldable pub digit : ℕ → Bool
digit b = leb 48 b && leb b 57

-- the value of the first i digits of the word w
pub record Read (w : List ℕ) (value i : ℕ) : Type 0 where
  pub within : i ≤ length w
  pub some : 0 < length w
  pub short : length w ≤ 9
  pub so_far : value_of value (drop i w) ≡ value_of 0 w
  pub digits : (x : ℕ) → x < i → digit (get_or w x 0) ≡ true
  pub low : value < 10 ^ i

module _ (w : List ℕ) where
  sized : is_number w ≡ true → up_to 9 (length w) ≡ true
  unfolding is_number
  sized e = and_1 _ _ e

  pub some_digits : is_number w ≡ true → 0 < length w
  unfolding up_to
  some_digits e = ltb-true 0 (length w) (and_1 _ _ (sized e))

  pub few_digits : is_number w ≡ true → length w ≤ 9
  unfolding up_to
  few_digits e = leb-true (length w) 9 (and_2 (ltb 0 (length w)) _ (sized e))

  each_digit : is_number w ≡ true → (x : ℕ) → x < length w → digit (get_or w x 0) ≡ true
  unfolding is_number digit
  each_digit e = every_at (length w) _ (and_2 (up_to 9 (length w)) _ e)

  pub empty : length w ≡ 0 → None ≡ number_in w
  empty e = no_number w (refute _ (λ t. omega (arith, some_digits t)))

  pub too_long : 9 < length w → None ≡ number_in w
  too_long lt = no_number w (refute _ (λ t. omega (arith, few_digits t)))

  pub none_read : (length w ≡ 0 → ⊥) → length w ≤ 9 → Read w 0 0
  none_read some short = record {
    within = omega arith;
    some = omega arith;
    short = short;
    so_far = refl;
    digits = λ x lt. absurd (omega arith);
    low = rw (pow-zero 10) (omega arith);
  }

  module _ (value i : ℕ) (r : Read w value i) where
    pub all_read : length w ≤ i → Some value ≡ number_in w
    unfolding is_number up_to digit value_of
    all_read le =
        let whole : Some value ≡ Some (value_of 0 w) = ap Some (rw (drop_of_length-le w {i = i} le) at r.so_far) in
        whole ∙ a_number w (and_i (and_i (lt-ltb 0 (length w) r.some) (le-leb (length w) 9 r.short)) (every_i (length w) _ (λ x lt. r.digits x (omega arith))))

    module _ (lt : i < length w) where
      no_digit : digit (get_or w i 0) ≡ false → None ≡ number_in w
      no_digit e = no_number w (refute _ (λ t. clash (each_digit t i lt) e))

      pub too_low : get_or w i 0 < 48 → None ≡ number_in w
      unfolding digit
      too_low h = no_digit (rw (lt-leb 48 (get_or w i 0) h))

      pub too_high : 57 < get_or w i 0 → None ≡ number_in w
      unfolding digit
      too_high h = no_digit (rw (le-leb 48 (get_or w i 0) (omega arith), lt-leb (get_or w i 0) 57 h))

      -- one digit more fits 32 bits
      pub fits : value < 100000000
      fits = let e : i ≤ 8 = omega (arith, r.short) in omega (arith, r.low, pow-le-pow_right {n = 10} (omega arith) e)

      pub one_more : 48 ≤ get_or w i 0 → get_or w i 0 ≤ 57 → Read w (value * 10 + (get_or w i 0 - 48)) (i + 1)
      unfolding digit value_of
      one_more lo hi = record {
        within = omega arith;
        some = r.some;
        short = r.short;
        so_far = rw (add-one i) (rw (drop-cons w i 0 lt) at r.so_far);
        digits = rw (add-one i) (below_suc (λ x. digit (get_or w x 0) ≡ true) i r.digits (and_i (le-leb 48 _ lo) (le-leb _ 57 hi)));
        low = rw (add-one i, pow-suc 10 i) (omega (arith, r.low));
      }

-- a dash as limit stands for 1, and any other word for itself
dashed : ℕ → List ℕ → Bool
dashed place w = eqb place 5 && eqb (length w) 1 && eqb (get_or w 0 0) 45

stands_for_1 : (place : ℕ) (w : List ℕ) → dashed place w ≡ true → in_place place w ≡ ascii "1"
unfolding dashed in_place
stands_for_1 place w e = rw (e, in_place)

stands_as_is : (place : ℕ) (w : List ℕ) → dashed place w ≡ false → in_place place w ≡ w
unfolding dashed in_place
stands_as_is place w e = rw (e, in_place)

pub dash : (place : ℕ) (w : List ℕ) → place ≡ 5 → length w ≡ 1 → get_or w 0 0 ≡ 45 → Some 1 ≡ number_in (in_place place w)
unfolding dashed number_in is_number up_to every value_of ascii
dash place w e f g = ap number_in (sym (stands_for_1 place w (and_i (and_i (eq-eqb place 5 e) (eq-eqb (length w) 1 f)) (eq-eqb (get_or w 0 0) 45 g))))

pub no_dash : (place : ℕ) (w : List ℕ) {r : Option ℕ} → r ≡ number_in w → ((place ≡ 5) × (length w ≡ 1) × (get_or w 0 0 ≡ 45) → ⊥) → r ≡ number_in (in_place place w)
unfolding dashed
no_dash place w e h = e ∙ ap number_in (sym (stands_as_is place w (refute (dashed place w) (λ t. h (eqb-true place 5 (search (and_1, and_2)), eqb-true (length w) 1 (search (and_1, and_2)), eqb-true (get_or w 0 0) 45 (search and_2))))))

-- a lawful word has at most nine bytes
pub placed_long : (place : ℕ) (w : List ℕ) → is_number (in_place place w) ≡ true → length w ≤ 9
unfolding dashed
placed_long place w e = elim (both (dashed place w)) [
  | inl t ↦ omega (arith, eqb-true (length w) 1 (and_2 (eqb place 5) _ (and_1 _ _ t)))
  | inr t ↦ few_digits w (rw (stands_as_is place w t) at e)
]

-- the library's test of a word for the dash
lone_dash : (w : List ℕ) → pointwise eqb w (45 ∷ []) ≡ true → (length w ≡ 1) × (get_or w 0 0 ≡ 45)
lone_dash [] e = absurd (true≢false (sym e))
lone_dash (x ∷ []) e = (refl, eqb-true x 45 (and_1 (eqb x 45) true e))
lone_dash (x ∷ (y ∷ w)) e = absurd (true≢false (sym (and_2 (eqb x 45) false e)))

dash_alone : (w : List ℕ) → length w ≡ 1 → get_or w 0 0 ≡ 45 → pointwise eqb w (45 ∷ []) ≡ true
dash_alone [] l e = absurd (omega arith)
dash_alone (x ∷ []) l e = and_i (eq-eqb x 45 e) refl
dash_alone (x ∷ (y ∷ w)) l e = absurd (omega arith)

pub limit_dash : (word : Option (Bor (List ℕ))) (d : Bor (List ℕ)) → d.now ≡ 45 ∷ [] → option_eq (λ x y. pointwise eqb x.now y.now) word (Some d) ≡ true
    → Some 1 ≡ said (λ w. number_in (in_place 5 w)) word
limit_dash None d is e = absurd (true≢false (sym e))
limit_dash (Some w) d is e = let alone = lone_dash w.now (rw is at e) in dash 5 w.now refl alone.0 alone.1

pub limit_other : (word : Option (Bor (List ℕ))) (d : Bor (List ℕ)) → d.now ≡ 45 ∷ [] → option_eq (λ x y. pointwise eqb x.now y.now) word (Some d) ≡ false
    → said number_in word ≡ said (λ w. number_in (in_place 5 w)) word
limit_other None d is e = refl
limit_other (Some w) d is e = no_dash 5 w.now refl (λ h. clash (dash_alone w.now h.1 h.2) (rw is at e))
