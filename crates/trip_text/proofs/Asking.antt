-- A text by its first line and what follows it: what the rules make of the text is what the code makes of these two parts.
use Prim.Native.Nat.{ℕ, zero, suc, ◌+◌, ◌-◌, ◌/◌, ◌%◌, ◌≤◌, ◌<◌}
use mathlib.Core.Path.{◌≡◌, ◌∙◌, refl, sym, ap, ap₂}
use mathlib.Core.Logic.{inl, inr}
use mathlib.Core.Bool.{Bool, true, false, not, ◌&&◌, ◌||◌, true≢false}
use mathlib.Core.List.{List, [], ◌∷◌}
use native.Mathlib.Omega.{arith}
use lib.Dec.{ltb, leb, eqb}
use lib.ListN.{length, get_or, take, drop, length-drop}
use lib.Seq.{take_all, take-length}
use borrow.Author.Tests.{ltb-true, ltb-false, lt-ltb, le-ltb, eqb-true, eq-eqb, le-leb}
use Rattle.trip_text.specs.Scan.{slice, index_of}
use Rattle.floor.specs.declared.Floor.{Floor}
use Rattle.floor.specs.Floor.{sizes_ok, cells, tabulate, byte, blocked, value_at, prepared, refusal}
use Rattle.floor.proofs.Tools.{both, clash, and_1, and_2, and_i, or_cases, not_t, same_test}
use Rattle.floor.proofs.Boards.{length-tabulate, value_tabulate, blocked_tabulate}
use Rattle.floor.proofs.Geometry.{sides}
use Rattle.rules.specs.Sound.{every, within, sound}
use Rattle.rules.specs.Request.{Request, setting_ok, walk_refusal}
use Rattle.rules.specs.Printer.{split, field, line_at, first_line_ok, asked, row_ok, rows_ok}
use Rattle.theory.proofs.Soundness.{every_i, Within, within_test, sound_test, prepared_sound}
use Rattle.theory.proofs.Accepts.{Accepted, accepted}
use Rattle.trip_text.specs.declared.{Errand.Errand}
use Rattle.trip_text.specs.Parts.{line_ok, rest_ok, mark, errand_refusal, judged}
use Rattle.trip_text.specs.Heard.{Heard, BadInput, Refused, Asked, errand_at, errand_in, heard_in}
use Rattle.trip_text.proofs.Forms.{test, refuses, heard_as, heard}
use Rattle.trip_text.proofs.Judging.{bad_sizes, bad_rows}
use Rattle.trip_text.proofs.Pieces.{first_piece, last_piece, split_some}

-- the part from a place to the end
pub rest_whole : (a : ℕ) (l : List ℕ) → take (length l - a) (drop a l) ≡ drop a l
rest_whole a l = take_all (length l - a) (drop a l) (simp length-drop (omega arith))

-- with sizes that hold, a fresh trip passes every test but 3, 4 and 8
byte_low : (t : Bool) → byte t ≤ 1
unfolding byte
byte_low true = omega arith
byte_low false = omega arith

fewer_tests : (a b c c' t : Bool) → (a ≡ true → c ≡ c') → (a ≡ true → t ≡ true)
    → refusal ((1, true) ∷ (2, true) ∷ (3, a) ∷ (4, b) ∷ (5, true) ∷ (6, true) ∷ (7, true) ∷ (8, not c) ∷ (9, t) ∷ [])
    ≡ refusal ((3, a) ∷ (4, b) ∷ (8, not c') ∷ [])
unfolding refusal
fewer_tests false b c c' t same sound = refl
fewer_tests true false c c' t same sound = refl
fewer_tests true true true c' t same sound = rw (← same refl)
fewer_tests true true false c' t same sound = rw (← same refl, sound refl)

first_fails : (t : Bool) (l : List (ℕ × Bool)) → t ≡ false → refusal ((1, t) ∷ l) ≡ 1
unfolding refusal
first_fails t l e = rw e

module _ (text : List ℕ) where
  abbrev r : Request
  r = asked text

  abbrev f : Floor
  f = (errand_in text).floor

  pub sizes_refused : sizes_ok f ≡ false → refuses text ≡ 1
  unfolding errand_at errand_in asked walk_refusal
  sizes_refused s = first_fails (sizes_ok f) _ s

  no_first_line : first_line_ok text ≡ false → BadInput ≡ heard_in text
  unfolding heard_in
  no_first_line e = rw (e, heard_in)

  -- a lawful first line ends with a line feed
  pub feeds : first_line_ok text ≡ true → index_of 10 text < length text
  unfolding first_line_ok
  feeds ok =
      let lines = ltb-true 1 (length (split 10 text)) (and_1 _ _ (and_1 _ _ (and_1 _ _ ok))) in
      elim (both (ltb (index_of 10 text) (length text))) [
        | inl t ↦ ltb-true (index_of 10 text) (length text) t
        | inr t ↦ absurd (let one = ap length (last_piece 10 text (ltb-false (index_of 10 text) (length text) t)) in omega (arith, lines, one))
      ]

  -- where the first line ends, as the code finds it
  module _ (end : ℕ) (found : end ≡ 0 + index_of 10 (slice 0 (length text) text)) where
    place : index_of 10 text ≡ end
    unfolding slice
    place = let f : end ≡ 0 + index_of 10 text = rw (take-length text) at found in omega (arith, f)

    pub endless : end ≡ length text → BadInput ≡ heard_in text
    unfolding first_line_ok
    endless e =
        let one : length (split 10 text) ≡ 1 = ap length (last_piece 10 text (omega (arith, place, e))) in
        no_first_line (rw (le-ltb 1 (length (split 10 text)) (omega (arith, one)), first_line_ok))

    -- the text has a first line, and rows after it
    module _ (inside : end < length text) where
      abbrev line : List ℕ
      line = take end text

      abbrev rows : List ℕ
      rows = drop (end + 1) text

      parts : split 10 text ≡ line ∷ split 10 rows
      parts = let e : suc end ≡ end + 1 = omega arith in rw (← e, ← place) (first_piece 10 text (omega (arith, place, inside)))

      pub line_is : line_at text 0 ≡ line
      unfolding line_at
      line_is = ap (λ (l : List (List ℕ)). get_or l 0 []) parts

      row_is : (r : ℕ) → line_at text (1 + r) ≡ get_or (split 10 rows) r []
      unfolding line_at
      row_is r = let e : 1 + r ≡ suc r = omega arith in rw e (ap (λ (l : List (List ℕ)). get_or l (suc r) []) parts)

      some : ltb 1 (length (split 10 text)) ≡ true
      some = lt-ltb 1 (length (split 10 text)) (rw parts (omega (arith, split_some 10 rows)))

      pub first_is : first_line_ok text ≡ line_ok line
      unfolding first_line_ok line_ok
      first_is = rw (some, line_is)

      errand_is : errand_at line ≡ errand_in text
      unfolding errand_in
      errand_is = ap errand_at (sym line_is)

      pub rows_are : (w h : ℕ) → rows_ok text w h ≡ rest_ok rows w h
      unfolding rows_ok rest_ok
      rows_are w h =
          let count : length (split 10 text) ≡ suc (length (split 10 rows)) = ap length parts in
          let counts : eqb (length (split 10 text)) (h + 2) ≡ eqb (length (split 10 rows)) (h + 1) = same_test _ _
          (λ t. eq-eqb (length (split 10 rows)) (h + 1) (omega (arith, count, eqb-true (length (split 10 text)) (h + 2) t)))
          (λ t. eq-eqb (length (split 10 text)) (h + 2) (omega (arith, count, eqb-true (length (split 10 rows)) (h + 1) t))) in
          let last : line_at text (h + 1) ≡ get_or (split 10 rows) h [] = let e : 1 + h ≡ h + 1 = omega arith in rw e at (row_is h) in
          λ i. counts i && every h (λ r. row_ok w (row_is r i)) && eqb (length (last i)) 0

      marks : (w x : ℕ) → eqb (get_or (line_at text (1 + x / w)) (x % w) 0) 35 ≡ mark rows w x
      unfolding mark
      marks w x = ap (λ (l : List ℕ). eqb (get_or l (x % w) 0) 35) (row_is (x / w))

      walk_refusal_is : sizes_ok f ≡ true → refuses text ≡ errand_refusal rows (errand_in text)
      unfolding errand_at errand_in asked walk_refusal errand_refusal prepared blocked Within
      walk_refusal_is s =
          let n = cells f in
          let e = errand_in text in
          let plan : ℕ → Bool = λ x. eqb (get_or (line_at text (1 + x / f.width)) (x % f.width) 0) 35 in
          let on : Bool = ltb e.start n && ltb e.goal n in
          let long : (eqb (length r.plan) n && eqb (length r.stand.known) n && eqb (length r.stand.est) n) ≡ true =
          and_i (and_i (eq-eqb _ _ (length-tabulate n _)) (eq-eqb _ _ (length-tabulate n _))) (eq-eqb _ _ (length-tabulate n _)) in
          let room : leb e.allowance (length r.trail) ≡ true = le-leb e.allowance (length r.trail) (omega (arith, length-tabulate e.allowance (λ x. 0))) in
          let bytes : every n (λ x. leb (value_at r.plan x) 1 && leb (value_at r.stand.known x) 1) ≡ true = every_i n _ (λ x lt.
          and_i (le-leb (value_at r.plan x) 1 (rw (value_tabulate n (λ y. byte (plan y)) x lt) (byte_low (plan x))))
          (le-leb (value_at r.stand.known x) 1 (rw (value_tabulate n (λ y. 0) x lt) (omega arith)))) in
          let fresh : (x : ℕ) → x < n → blocked r.stand.known x ≡ false = λ x lt. ap (λ v. eqb v 1) (value_tabulate n (λ y. 0) x lt) in
          let unknown : within f (blocked r.stand.known) (blocked r.plan) ≡ true = within_test f _ _ (λ x lt free. fresh x lt) in
          (λ i. refusal ((1, s i) ∷ (2, long i) ∷ (3, on) ∷ (4, setting_ok r.setting) ∷ (5, room i) ∷ (6, bytes i) ∷ (7, unknown i) ∷ (8, not (blocked r.plan e.start)) ∷ (9, sound f (blocked r.stand.known) (value_at r.stand.est) e.goal) ∷ []))
          ∙ fewer_tests on _ _ _ _
          (λ a. blocked_tabulate n plan e.start (ltb-true e.start n (and_1 _ _ a)) ∙ marks f.width e.start)
          (λ a. sound_test f _ _ e.goal (prepared_sound f _ e.goal (sides f s).some_width (ltb-true e.goal n (and_2 (ltb e.start n) _ a))))

      lawful : sizes_ok f ≡ true → rest_ok rows f.width f.height ≡ true → heard_as text true (errand_refusal rows (errand_in text)) ≡ judged rows (errand_in text)
      unfolding heard_as judged
      lawful s l = rw (s, l, judged)

      heard_is : first_line_ok text ≡ true → heard_in text ≡ judged rows (errand_in text)
      unfolding heard_as
      heard_is first = heard text ∙ elim (both (sizes_ok f)) [
        | inl s ↦
            let by : test text ≡ rest_ok rows f.width f.height =
            (λ i. first i && (not (s i) || rows_are f.width f.height i)) in
            elim (both (rest_ok rows f.width f.height)) [
              | inl l ↦ ap₂ (heard_as text) (by ∙ l) (walk_refusal_is s) ∙ lawful s l
              | inr l ↦ ap (λ (t : Bool). heard_as text t (refuses text)) (by ∙ l) ∙ bad_rows rows (errand_in text) s l
            ]
        | inr s ↦
            let by : test text ≡ true = (λ i. first i && (not (s i) || rows_ok text f.width f.height)) in
            ap₂ (heard_as text) by (sizes_refused s) ∙ bad_sizes rows (errand_in text) s
      ]

      -- a first line that is lawful or not, as the code tests it
      pub no_line : false ≡ line_ok line → BadInput ≡ heard_in text
      no_line e = no_first_line (first_is ∙ sym e)

      pub heard_by : true ≡ line_ok line → judged rows (errand_at line) ≡ heard_in text
      heard_by e = ap (judged rows) errand_is ∙ sym (heard_is (first_is ∙ sym e))

  -- a text that asks for a trip
  module _ (e : Errand) (asks : heard_in text ≡ Asked e) where
    trip : Heard → Bool
    trip BadInput = false
    trip (Refused n) = false
    trip (Asked e) = true

    errand_or : Heard → Errand
    errand_or BadInput = e
    errand_or (Refused n) = e
    errand_or (Asked e) = e

    passed : test text ≡ true
    unfolding heard_as trip
    passed = elim (both (test text)) [ inl t ↦ t | inr t ↦ absurd (true≢false (ap trip (sym asks ∙ heard text ∙ ap (λ (t : Bool). heard_as text t (refuses text)) t))) ]

    accepted_as : (n : ℕ) → heard_as text true n ≡ Asked e → n ≡ 0
    unfolding heard_as trip
    accepted_as zero h = refl
    accepted_as (suc n) h = absurd (true≢false (sym (ap trip h)))

    told : heard_as text true (refuses text) ≡ Asked e
    told = ap (λ (t : Bool). heard_as text t (refuses text)) (sym passed) ∙ sym (heard text) ∙ asks

    refuses_none : refuses text ≡ 0
    refuses_none = accepted_as (refuses text) told

    pub errand : errand_in text ≡ e
    unfolding heard_as errand_or
    errand = ap errand_or (ap (heard_as text true) (sym refuses_none) ∙ told)

    abbrev tests : Accepted (field (line_at text 0) 6) r
    tests = accepted _ r refuses_none

    pub sized : sizes_ok f ≡ true
    unfolding errand_at errand_in asked
    sized = tests.sized

    pub aimed : (errand_in text).goal < cells f
    unfolding errand_at errand_in asked
    aimed = tests.aim

    rowed : rows_ok text f.width f.height ≡ true
    rowed = elim (or_cases (not (sizes_ok f)) _ (and_2 (first_line_ok text) _ passed)) [ inl n ↦ clash sized (not_t _ n) | inr t ↦ t ]

    module _ (end : ℕ) (found : end ≡ 0 + index_of 10 (slice 0 (length text) text)) where
      pub fed : end < length text
      fed = omega (arith, feeds (and_1 _ _ passed), place end found)

      pub rowed_on : rest_ok (drop (end + 1) text) f.width f.height ≡ true
      rowed_on = sym (rows_are end found fed f.width f.height) ∙ rowed

      pub plan_is : tabulate (cells f) (λ x. byte (mark (drop (end + 1) text) f.width x)) ≡ r.plan
      unfolding errand_at errand_in asked
      plan_is = λ i. tabulate (cells f) (λ x. byte (sym (marks end found fed f.width x) i))
