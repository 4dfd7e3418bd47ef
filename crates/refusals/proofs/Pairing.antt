-- What is tested of each pair in two parts of a list, or in one row of it, is the test of the pairs of cells there.
use Rattle.std.specs.Prelude.{fold}
use Rattle.std.specs.List.{zip}
use Rattle.std.proofs.Common.{◌≡◌, ◌∙◌, ℕ, ◌+◌, ◌-◌, ◌<◌, ◌≤◌, Bool, true, ◌&&◌, ◌||◌, List, length, get_or, leb, eqb, ap, arith, take, drop}
use Rattle.std.proofs.lemmas.List.{get_or-take, get_or-drop, length-take-le}
use Rattle.std.proofs.Math.ListN.{length-drop}
use Rattle.floor.specs.Floor.{value_at, blocked}
use Rattle.refusals.specs.Pairs.{pair_ok, pairs_ok}
use Rattle.refusals.proofs.Folds.{every_same, all_of_four}

-- the test of two cells, whose bytes are k and l and whose estimates are d and e
abbrev pub pair_test : ℕ → ℕ → ℕ → ℕ → Bool
pair_test k l d e = eqb k 1 || eqb l 1 || (leb d (e + 1) && leb e (d + 1))

-- a part of a list, from a place on
abbrev part : ℕ → ℕ → List ℕ → List ℕ
part from n l = take n (drop from l)

part_at : (l : List ℕ) (from n i x : ℕ) → i < n → from + i ≡ x → value_at (part from n l) i ≡ value_at l x
unfolding value_at
part_at l from n i x lt e = get_or-take n (drop from l) i 0 lt ∙ get_or-drop from l i 0 ∙ ap (λ j. get_or l j 0) e

front_at : (l : List ℕ) (n i x : ℕ) → i < n → i ≡ x → value_at (take n l) i ≡ value_at l x
unfolding value_at
front_at l n i x lt e = get_or-take n l i 0 lt ∙ ap (λ j. get_or l j 0) e

part_long : (l : List ℕ) (from n : ℕ) → from + n ≤ length l → length (part from n l) ≡ n
part_long l from n le = length-take-le n (drop from l) (omega (arith, length-drop from l))

-- the pairs of cells so many numbers apart
pub pairs_of : (known est : List ℕ) (apart : ℕ) → apart ≤ length known → length known ≡ length est
    → let n = length known - apart in
    fold (λ ok p. pair_test p.0.0 p.0.1 p.1.0 p.1.1 && ok) true (zip (zip (take n known) (part apart n known)) (zip (take n est) (part apart n est)))
    ≡ pairs_ok (blocked known) (value_at est) 0 n apart
unfolding pairs_ok pair_ok blocked
pairs_of known est apart le e =
    let n = length known - apart in
    all_of_four pair_test n _ _ _ _ (length-take-le n known (omega arith)) (part_long known apart n (omega arith))
    (length-take-le n est (omega arith)) (part_long est apart n (omega arith))
    ∙ every_same n _ _ (λ i lt. rw (
      front_at known n i (0 + i) lt (omega arith),
      part_at known apart n i (0 + i + apart) lt (omega arith),
      front_at est n i (0 + i) lt (omega arith),
      part_at est apart n i (0 + i + apart) lt (omega arith),
    ))

-- a row's own pairs are the floor's there
pub pairs_in_row : (known est k e : List ℕ) (from w : ℕ) → k ≡ part from w known → e ≡ part from w est → length k ≡ w
    → pairs_ok (blocked k) (value_at e) 0 (length k - 1) 1 ≡ pairs_ok (blocked known) (value_at est) from (w - 1) 1
unfolding pairs_ok pair_ok blocked
pairs_in_row known est k e from w ek ee long = rw (long, ek, ee) (every_same (w - 1) _ _ (λ i lt. rw (
  part_at known from w (0 + i) (from + i) (omega arith) (omega arith),
  part_at known from w (0 + i + 1) (from + i + 1) (omega arith) (omega arith),
  part_at est from w (0 + i) (from + i) (omega arith) (omega arith),
  part_at est from w (0 + i + 1) (from + i + 1) (omega arith) (omega arith),
)))
