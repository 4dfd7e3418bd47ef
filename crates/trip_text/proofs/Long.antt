-- No lawful text has more than 4,230 bytes, so a longer one is decided by its front.
use Prim.Native.Nat.{ℕ, zero, suc, ◌+◌, ◌*◌, ◌≤◌, ◌<◌}
use mathlib.Core.Path.{◌≡◌, ◌∙◌, refl, sym, ap}
use mathlib.Core.Logic.{inl, inr}
use mathlib.Core.Bool.{Bool, true, false, not, ◌&&◌, ◌||◌}
use mathlib.Core.List.{List, [], ◌∷◌, ◌++◌}
use native.Mathlib.Omega.{arith}
use native.Mathlib.Nat.{mul-le-mul}
use lib.Dec.{ltb, eqb}
use lib.ListN.{length, get_or, take, length-drop}
use lib.Seq.{take_all, take-take, length-take-le}
use borrow.Author.Tests.{ltb-true, ltb-false, eqb-true}
use Rattle.trip_text.specs.Scan.{slice, index_after, index_of}
use Rattle.floor.specs.Floor.{sizes_ok}
use Rattle.floor.proofs.Tools.{both, and_1, and_2, refute}
use Rattle.floor.proofs.Geometry.{sides}
use Rattle.rules.specs.Printer.{ascii, joined, split, is_number, word, field, first_line_ok, rows_ok, decimal, printed}
use Rattle.theory.proofs.Soundness.{every_at}
use Rattle.trip_text.specs.Parts.{in_place, line_ok}
use Rattle.trip_text.specs.Heard.{errand_at, errand_in, LongTexts}
use Rattle.trip_text.proofs.Forms.{f, refuses, printed_as, printed_is}
use Rattle.trip_text.proofs.Words.{placed_long}
use Rattle.trip_text.proofs.Pieces.{from_front, split_some}
use Rattle.trip_text.proofs.Rows.{rows_long}
use Rattle.trip_text.proofs.Asking.{sizes_refused, feeds, line_is, first_is, rows_are}

-- pieces with the byte after each
sum_of : List (List ℕ) → ℕ
sum_of [] = 0
sum_of (w ∷ ws) = suc (length w) + sum_of ws

joined_sum : (x : ℕ) (ws : List (List ℕ)) → 0 < length ws → sum_of (joined x ws) ≡ suc (sum_of ws)
unfolding sum_of joined
joined_sum x [] some = absurd (omega arith)
joined_sum x (w ∷ ws) some = omega arith

-- they are as long as the list and one byte
split_sum : (b : ℕ) (l : List ℕ) → sum_of (split b l) ≡ suc (length l)
unfolding sum_of split
split_sum b [] = omega arith
split_sum b (x ∷ l) = at (eqb x b) (split_sum b l)
  where
    cut : Bool → List (List ℕ)
    cut t = elim t [ true ↦ [] ∷ split b l | false ↦ joined x (split b l) ]

    at : (t : Bool) → sum_of (split b l) ≡ suc (length l) → sum_of (cut t) ≡ suc (suc (length l))
    at true e = omega (arith, e)
    at false e = joined_sum x (split b l) (split_some b l) ∙ ap suc e

short_sum : (ws : List (List ℕ)) → ((i : ℕ) → i < length ws → length (get_or ws i []) ≤ 9) → sum_of ws ≤ length ws * 10
unfolding sum_of
short_sum [] h = omega arith
short_sum (w ∷ ws) h = omega (arith, h 0 (omega arith), short_sum ws (λ i lt. h (suc i) (omega arith)))

-- a lawful first line has at most 69 bytes
line_short : (line : List ℕ) → line_ok line ≡ true → length line ≤ 69
unfolding line_ok in_place word
line_short line ok =
    let ws = split 32 line in
    let seven : length ws ≡ 7 = eqb-true (length ws) 7 (and_1 _ _ (and_1 _ _ ok)) in
    let number : (i : ℕ) → i < 7 → is_number (word line i) ≡ true = every_at 7 _ (and_2 (eqb (length ws) 7) _ (and_1 _ _ ok)) in
    let short = short_sum ws (λ i lt. placed_long i (get_or ws i []) (number i (omega (arith, seven)))) in
    omega (arith, split_sum 32 line, short, seven)

-- the first b of a list is the first b of a front that reaches past it, and a front before it has none
index_front : (b k : ℕ) (l : List ℕ) → index_of b l < k → index_of b (take k l) ≡ index_of b l
unfolding index_of index_after
index_front b zero l lt = absurd (omega arith)
index_front b (suc k) [] lt = refl
index_front b (suc k) (x ∷ l) lt = at (eqb x b) (index_front b k l) lt
  where
    at : (t : Bool) → (index_of b l < k → index_of b (take k l) ≡ index_of b l) → index_after t (index_of b l) < suc k
        → index_after t (index_of b (take k l)) ≡ index_after t (index_of b l)
    at true rest lt = refl
    at false rest lt = ap suc (rest (omega arith))

index_past : (b k : ℕ) (l : List ℕ) → k ≤ index_of b l → length (take k l) ≤ index_of b (take k l)
unfolding index_of index_after
index_past b zero l le = omega arith
index_past b (suc k) [] le = omega arith
index_past b (suc k) (x ∷ l) le = at (eqb x b) (index_past b k l) le
  where
    at : (t : Bool) → (k ≤ index_of b l → length (take k l) ≤ index_of b (take k l)) → suc k ≤ index_after t (index_of b l)
        → suc (length (take k l)) ≤ index_after t (index_of b (take k l))
    at true rest le = absurd (omega arith)
    at false rest le = omega (arith, rest (omega arith))

-- what is printed of a text that is too long for any rows
answer : Bool → List ℕ
answer t = elim t [ true ↦ ascii "refused " ++ decimal 1 ++ ascii "\n" | false ↦ ascii "bad input\n" ]

module _ (text : List ℕ) where
  abbrev end : ℕ
  end = index_of 10 text

  found : end ≡ 0 + index_of 10 (slice 0 (length text) text)
  found = from_front 10 text

  small_line : (ok : first_line_ok text ≡ true) → end ≤ 69
  small_line ok =
      let inside = feeds text ok in
      omega (arith, line_short (take end text) (sym (first_is text end found inside) ∙ ok), length-take-le end text (omega (arith, inside)))

  -- the first line is lawful and its sizes are refused
  small : Bool
  small = first_line_ok text && not (sizes_ok (f text))

  too_long : 4230 < length text → first_line_ok text ≡ true → sizes_ok (f text) ≡ true → rows_ok text (f text).width (f text).height ≡ false
  too_long lt ok s = refute _ (λ t.
      let inside = feeds text ok in
      let long = rows_long _ _ _ (sym (rows_are text end found inside (f text).width (f text).height) ∙ t) in
      let e = sides (f text) s in
      let wide : (f text).width + 1 ≤ 65 = omega (arith, e.width_most) in
      let most : (f text).height * ((f text).width + 1) ≤ 64 * 65 = mul-le-mul e.height_most wide in
      omega (arith, lt, inside, small_line ok, length-drop (end + 1) text, long, most))

  over : 4230 < length text → printed text ≡ answer small
  unfolding printed_as small answer
  over lt = printed_is text ∙ elim (both (first_line_ok text)) [
    | inl ok ↦ elim (both (sizes_ok (f text))) [
      | inl s ↦
          (λ i. printed_as text (ok i && (not (s i) || too_long lt ok s i)) (refuses text)) ∙ sym (λ i. answer (ok i && not (s i)))
      | inr s ↦ (λ i. printed_as text (ok i && (not (s i) || rows_ok text (f text).width (f text).height)) (sizes_refused text s i)) ∙ sym (λ i. answer (ok i && not (s i)))
    ]
    | inr bad ↦ (λ i. printed_as text (bad i && (not (sizes_ok (f text)) || rows_ok text (f text).width (f text).height)) (refuses text)) ∙ sym (λ i. answer (bad i && not (sizes_ok (f text))))
  ]

-- the front tells as much as the whole
module _ (text : List ℕ) (k : ℕ) (lt : 4230 < k) (cut : k < length text) where
  abbrev front : List ℕ
  front = take k text

  kept : length front ≡ k
  kept = length-take-le k text (omega (arith, cut))

  -- the first line ends within the front
  module _ (near : end text < k) where
    same_end : end front ≡ end text
    same_end = index_front 10 k text near

    abbrev inside : end text < length text
    inside = omega (arith, near, cut)

    abbrev inside_front : end front < length front
    inside_front = omega (arith, near, kept, same_end)

    same_line : take (end front) front ≡ take (end text) text
    same_line = rw same_end (take-take (end text) k text (omega (arith, near)))

    same_first : first_line_ok front ≡ first_line_ok text
    same_first = first_is front (end front) (found front) inside_front ∙ ap line_ok same_line ∙ sym (first_is text (end text) (found text) inside)

    same_sizes : sizes_ok (f front) ≡ sizes_ok (f text)
    unfolding errand_at errand_in
    same_sizes = ap (λ (l : List ℕ). sizes_ok (record { width = field l 0; height = field l 1 }))
        (line_is front (end front) (found front) inside_front ∙ same_line ∙ sym (line_is text (end text) (found text) inside))

  -- or both first lines are too long
  module _ (far : k ≤ end text) where
    none_in_front : first_line_ok front ≡ false
    none_in_front = refute _ (λ ok. omega (arith, feeds front ok, index_past 10 k text far))

    none_at_all : first_line_ok text ≡ false
    none_at_all = refute _ (λ ok. omega (arith, small_line text ok, lt, far))

  front_small : small front ≡ small text
  unfolding small
  front_small = elim (both (ltb (end text) k)) [
    | inl t ↦ let near = ltb-true (end text) k t in λ i. same_first near i && not (same_sizes near i)
    | inr t ↦
        let far = ltb-false (end text) k t in
        (λ i. none_in_front far i && not (sizes_ok (f front))) ∙ sym (λ i. none_at_all far i && not (sizes_ok (f text)))
  ]

  decided : printed (take k text) ≡ printed text
  decided = over front (omega (arith, lt, kept)) ∙ ap answer front_small ∙ sym (over text (omega arith))

pub long_texts : LongTexts
long_texts = record {
  decided = λ text k lt. elim (both (ltb k (length text))) [
    | inl t ↦ decided text k lt (ltb-true k (length text) t)
    | inr t ↦ ap printed (take_all k text (ltb-false k (length text) t))
  ];
}
