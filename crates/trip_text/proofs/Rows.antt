-- The rows of a text: what follows the first line is rows exactly where each line up to the last line feed is one, and a cell's place
-- among them.
use Prim.Native.Nat.{ℕ, zero, suc, ◌+◌, ◌-◌, ◌*◌, ◌/◌, ◌%◌, ◌≤◌, ◌<◌}
use mathlib.Core.Path.{◌≡◌, ◌∙◌, refl, sym, ap}
use mathlib.Core.Logic.{inl, inr}
use mathlib.Core.Bool.{Bool, true, false, ◌&&◌, ◌||◌}
use mathlib.Core.List.{List, []}
use native.Mathlib.Omega.{arith}
use native.Mathlib.Nat.{mod-lt, div-add-mod', div-lt_iff_lt-mul}
use native.Mathlib.Numerals.{add-one}
use lib.Dec.{eqb}
use lib.ListN.{length, get_or, take, drop, length-drop, drop_of_length-le}
use lib.Seq.{drop-drop, length-take-le, take-length, get_or-take, get_or-drop}
use borrow.Author.Tests.{eqb-true, eqb-false, eq-eqb, ne_eqb}
use mir.Val.{bool_byte}
use Rattle.std.specs.Bool.{MatchBool}
use Rattle.std.specs.List.{AllWithin, HoldsAt}
use Rattle.trip_text.specs.Scan.{slice, index_of}
use Rattle.rules.specs.Sound.{every}
use Rattle.rules.specs.Printer.{split, row_ok}
use Rattle.floor.specs.Floor.{byte}
use Rattle.floor.proofs.Tools.{both, clash, and_1, and_2, and_i, refute, below_suc, same_test}
use Rattle.theory.proofs.Soundness.{every_at, every_i}
use Rattle.trip_text.specs.Parts.{rest_ok, mark}
use Rattle.trip_text.proofs.Pieces.{Cut, uncut, all_cut, end_within, the_piece, cut_on, one_more}

-- a test as a number
as_byte : (t : Bool) → bool_byte t ≡ byte t
unfolding byte
as_byte true = refl
as_byte false = refl

-- a row by its length and its cells
module _ (row : List ℕ) (width : ℕ) where
  pub no_row : (length row ≡ width → ⊥) → false ≡ row_ok width row
  unfolding row_ok
  no_row h = rw (ne_eqb (length row) width h)

  pub a_row : length row ≡ width → (ok : Bool)
      → MatchBool ok (AllWithin (λ x. (eqb x 46 || eqb x 35) ≡ true) row 0 (length row)) ((k : ℕ) × (k < length row) × HoldsAt (λ x. (eqb x 46 || eqb x 35) ≡ false) row k)
      → ok ≡ row_ok width row
  unfolding row_ok
  a_row e true all = sym (and_i (eq-eqb (length row) width e) (every_i width _ (λ x lt. all x 0 (omega arith) (omega (arith, e)))))
  a_row e false bad = sym (refute _ (λ t. clash (every_at width _ (and_2 (eqb (length row) width) _ t) bad.0 (omega (arith, e, bad.1))) (bad.2 0)))

-- rows read one by one
module _ (rows : List ℕ) (w h : ℕ) where
  abbrev row : ℕ → List ℕ
  row r = get_or (split 10 rows) r []

  pub record Rowing (i at : ℕ) : Type 0 where
    pub cut : Cut 10 rows i at
    pub over : at ≤ length rows
    pub held : (j : ℕ) → j < i → row_ok w (row j) ≡ true

  pub none_read : Rowing 0 0
  none_read = record { cut = uncut 10 rows; over = omega arith; held = λ j lt. absurd (omega arith) }

  lines : rest_ok rows w h ≡ true → length (split 10 rows) ≡ h + 1
  unfolding rest_ok
  lines e = eqb-true _ _ (and_1 _ _ (and_1 _ _ e))

  each : rest_ok rows w h ≡ true → (j : ℕ) → j < h → row_ok w (row j) ≡ true
  unfolding rest_ok
  each e = every_at h _ (and_2 (eqb (length (split 10 rows)) (h + 1)) _ (and_1 _ _ e))

  closed : rest_ok rows w h ≡ true → length (row h) ≡ 0
  unfolding rest_ok
  closed e = eqb-true (length (row h)) 0 (and_2 (eqb (length (split 10 rows)) (h + 1) && every h (λ r. row_ok w (row r))) _ e)

  fault : (rest_ok rows w h ≡ true → ⊥) → false ≡ rest_ok rows w h
  fault k = sym (refute _ k)

  module _ (i at : ℕ) (r : Rowing i at) where
    module _ (stop : ℕ) (found : stop ≡ at + index_of 10 (slice at (length rows) rows)) (inside : stop ≤ length rows) where
      abbrev piece : row i ≡ take (stop - at) (drop at rows)
      piece = the_piece 10 rows i at stop r.cut r.over found inside

      pub no_feed : i < h → stop ≡ length rows → false ≡ rest_ok rows w h
      no_feed lt end = fault (λ e. omega (arith, lines e, end, all_cut 10 rows (i + 1) (stop + 1) (cut_on 10 rows i at stop r.cut r.over found inside) (omega (arith, end))))

      pub bad_row : i < h → row_ok w (take (stop - at) (drop at rows)) ≡ false → false ≡ rest_ok rows w h
      bad_row lt bad = fault (λ e. clash (each e i lt) (ap (row_ok w) piece ∙ bad))

      pub good_row : (stop ≡ length rows → ⊥) → row_ok w (take (stop - at) (drop at rows)) ≡ true → Rowing (i + 1) (stop + 1)
      good_row short ok = record {
        cut = cut_on 10 rows i at stop r.cut r.over found inside;
        over = omega arith;
        held = rw (add-one i) (below_suc (λ j. row_ok w (row j) ≡ true) i r.held (ap (row_ok w) piece ∙ ok));
      }

    -- where the next row ends
    abbrev end : ℕ
    end = at + index_of 10 (slice at (length rows) rows)

    next : row i ≡ take (end - at) (drop at rows)
    next = piece end refl (end_within 10 rows at r.over)

    next_long : length (row i) ≡ end - at
    next_long = ap length next ∙ length-take-le (end - at) (drop at rows) (rw (length-drop at rows) (omega (arith, end_within 10 rows at r.over)))

    on : Cut 10 rows (i + 1) (end + 1)
    on = cut_on 10 rows i at end r.cut r.over refl (end_within 10 rows at r.over)

    -- after the last row nothing is left exactly where the text ends
    module _ (all : i ≡ h) where
      ended : at ≡ length rows → rest_ok rows w h ≡ true
      unfolding rest_ok slice index_of
      ended e =
          let none : drop at (take (length rows) rows) ≡ [] = ap (drop at) (take-length rows) ∙ drop_of_length-le rows {i = at} (omega arith) in
          let here : end ≡ at + 0 = ap (λ (l : List ℕ). at + index_of 10 l) none in
          let count : length (split 10 rows) ≡ h + 1 = all_cut 10 rows (i + 1) (end + 1) on (omega (arith, here, e)) ∙ ap (λ n. n + 1) all in
          let nothing : end - at ≡ 0 = omega (arith, here) in
          let empty : length (row h) ≡ 0 = rw all at (next_long ∙ nothing) in
          and_i (and_i (eq-eqb _ _ count) (every_i h _ (λ j lt. r.held j (omega (arith, all))))) (eq-eqb _ _ empty)

      unended : at < length rows → rest_ok rows w h ≡ true → ⊥
      unended lt e =
          let empty : end - at ≡ 0 = sym next_long ∙ rw (sym all) at (closed e) in
          omega (arith, lines e, all, one_more 10 rows (i + 1) (end + 1) on (omega (arith, empty, lt)))

      pub at_end : eqb at (length rows) ≡ rest_ok rows w h
      at_end = same_test _ _ (λ t. ended (eqb-true at (length rows) t)) (λ t. elim (both (eqb at (length rows))) [
        | inl e ↦ e
        | inr e ↦ absurd (unended (let ne = eqb-false at (length rows) e in omega (arith, r.over, ne)) t)
      ])

  -- what is left of the rows after the first i
  pub record Left (i : ℕ) (rest : List ℕ) : Type 0 where
    pub at : ℕ
    pub rowing : Rowing i at
    pub is : rest ≡ drop at rows

  pub none_taken : Left 0 rows
  none_taken = record { at = 0; rowing = none_read; is = refl }

  module _ (i : ℕ) (rest : List ℕ) (l : Left i rest) where
    -- where the next row ends
    abbrev stop : ℕ
    stop = l.at + index_of 10 rest

    found : stop ≡ l.at + index_of 10 (slice l.at (length rows) rows)
    unfolding slice
    found = rw (take-length rows, ← l.is) refl

    inside : stop ≤ length rows
    inside = rw found (end_within 10 rows l.at l.rowing.over)

    left_long : l.at + length rest ≡ length rows
    left_long = let n = ap length l.is in omega (arith, n, length-drop l.at rows, l.rowing.over)

    module _ (lt : i < h) where
      pub unfed : length rest ≤ index_of 10 rest → rest_ok rows w h ≡ false
      unfed le = sym (no_feed i l.at l.rowing stop found inside lt (omega (arith, inside, left_long, le)))

      module _ (line : List ℕ) (is : line ≡ take (index_of 10 rest) rest) where
        is_piece : line ≡ take (stop - l.at) (drop l.at rows)
        is_piece = let wide : stop - l.at ≡ index_of 10 rest = omega arith in rw (wide, ← l.is) is

        pub misdrawn : row_ok w line ≡ false → rest_ok rows w h ≡ false
        misdrawn bad = sym (bad_row i l.at l.rowing stop found inside lt (ap (row_ok w) (sym is_piece) ∙ bad))

        pub one_taken : index_of 10 rest < length rest → row_ok w line ≡ true → (after : List ℕ) → after ≡ drop (index_of 10 rest + 1) rest → Left (i + 1) after
        one_taken some ok after next =
            let short : stop ≡ length rows → ⊥ = λ e. omega (arith, left_long, some, e) in
            let on : l.at + (index_of 10 rest + 1) ≡ stop + 1 = omega arith in
            record {
              at = stop + 1;
              rowing = good_row i l.at l.rowing stop found inside short (ap (row_ok w) (sym is_piece) ∙ ok);
              is = next ∙ ap (drop (index_of 10 rest + 1)) l.is ∙ rw on at (drop-drop (index_of 10 rest + 1) l.at rows);
            }

    pub all_taken : i ≡ h → eqb (length rest) 0 ≡ rest_ok rows w h
    all_taken all = same_test _ _
        (λ t. sym (at_end i l.at l.rowing all) ∙ eq-eqb l.at (length rows) (omega (arith, left_long, eqb-true (length rest) 0 t)))
        (λ t. eq-eqb (length rest) 0 (omega (arith, left_long, eqb-true l.at (length rows) (at_end i l.at l.rowing all ∙ t))))

  -- of lawful rows, each stands w + 1 bytes after the one before
  module _ (ok : rest_ok rows w h ≡ true) where
    row_long : (j : ℕ) → j < h → length (row j) ≡ w
    unfolding row_ok
    row_long j lt = eqb-true _ _ (and_1 _ _ (each ok j lt))

    at_row : (r : ℕ) → r ≤ h → Rowing r (r * (w + 1))
    at_row zero le = let z : 0 * (w + 1) ≡ 0 = omega arith in rw z none_read
    at_row (suc r) le =
        let before = at_row r (omega arith) in
        let p = r * (w + 1) in
        let stop = end r p before in
        let inside = end_within 10 rows p before.over in
        let wide : w ≡ stop - p = sym (row_long r (omega arith)) ∙ next_long r p before in
        let fed : stop ≡ length rows → ⊥ = λ e. clash ok (sym (no_feed r p before stop refl inside (omega arith) e)) in
        let there : stop + 1 ≡ suc r * (w + 1) = omega (arith, wide) in
        rw (there, add-one r) at (good_row r p before stop refl inside fed (ap (row_ok w) (sym (next r p before)) ∙ each ok r (omega arith)))

    -- and they are as long as they have to be
    pub rows_long : length rows ≡ h * (w + 1)
    rows_long = sym (eqb-true (h * (w + 1)) (length rows) (at_end h (h * (w + 1)) (at_row h (omega arith)) refl ∙ ok))

    module _ (x : ℕ) (some : 0 < w) (lt : x < w * h) where
      pub below : x / w < h
      below = (div-lt_iff_lt-mul some).1 (omega (arith, lt))

      place : x / w * (w + 1) + x % w ≡ x + x / w
      place = omega (arith, div-add-mod' x w)

      abbrev p : ℕ
      p = x / w * (w + 1)

      abbrev there : Rowing (x / w) p
      there = at_row (x / w) (omega (arith, below))

      wide : end (x / w) p there ≡ p + w
      wide = omega (arith, row_long (x / w) below, next_long (x / w) p there)

      pub cell_within : x + x / w < length rows
      cell_within = omega (arith, place, mod-lt x some, wide, end_within 10 rows p there.over)

      pub cell_at : get_or rows (x + x / w) 0 ≡ get_or (row (x / w)) (x % w) 0
      cell_at =
          ap (λ (i : ℕ). get_or rows i 0) (sym place) ∙ sym (get_or-drop p rows (x % w) 0)
          ∙ sym (ap (λ (l : List ℕ). get_or l (x % w) 0) (next (x / w) p there) ∙ get_or-take (end (x / w) p there - p) (drop p rows) (x % w) 0 (omega (arith, wide, mod-lt x some)))

      -- the plan's byte of the cell
      pub marks : bool_byte (eqb (get_or rows (x + x / w) 0) 35) ≡ byte (mark rows w x)
      unfolding mark byte
      marks = rw cell_at (as_byte (eqb (get_or (row (x / w)) (x % w) 0) 35))
