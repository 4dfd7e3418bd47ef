-- A list cut at each byte b, piece by piece: after i pieces, those that are left are the pieces of what is left of the list.
use Prim.Native.Nat.{ℕ, suc, ◌+◌, ◌-◌, ◌≤◌, ◌<◌}
use mathlib.Core.Path.{◌≡◌, ◌∙◌, refl, sym, ap, ap₂}
use mathlib.Core.Logic.{inl, inr}
use mathlib.Core.Bool.{Bool, true, false}
use mathlib.Core.List.{List, [], ◌∷◌}
use native.Mathlib.Omega.{arith}
use lib.Dec.{leb, ltb, eqb}
use lib.ListN.{length, get_or, take, drop, length-drop}
use lib.Seq.{take_all, take-length, drop-drop, get_or-drop}
use borrow.Author.Tests.{ltb-true, ltb-false, le-leb, lt-leb}
use Rattle.trip_text.specs.Scan.{slice, index_after, index_of}
use Rattle.floor.proofs.Tools.{both}
use Rattle.rules.specs.Printer.{joined, split}

-- an element that what is left of a list begins with
module _ {A : Type 0} (l : List A) (i : ℕ) (x : A) (r : List A) (e : drop i l ≡ x ∷ r) where
  pub some_left : i < length l
  some_left = let n : length l - i ≡ suc (length r) = sym (length-drop i l) ∙ ap length e in omega arith

  pub next_left : drop (i + 1) l ≡ r
  next_left = sym (drop-drop 1 i l) ∙ ap (drop 1) e

  pub here : (d : A) → get_or l i d ≡ x
  here d = let z : i + 0 ≡ i = omega arith in rw z at (sym (get_or-drop i l 0 d) ∙ ap (λ (m : List A). get_or m 0 d) e)

module _ (b : ℕ) where
  cut : Bool → ℕ → List ℕ → List (List ℕ)
  cut t x l = elim t [ true ↦ [] ∷ split b l | false ↦ joined x (split b l) ]

  abbrev First : ℕ → List (List ℕ) → List ℕ → Type 0
  First k pieces l = k < length l → pieces ≡ take k l ∷ split b (drop (suc k) l)

  pub first_piece : (l : List ℕ) → First (index_of b l) (split b l) l
  unfolding cut split joined index_of index_after
  first_piece [] lt = absurd (omega arith)
  first_piece (x ∷ l) lt = at (eqb x b) (first_piece l) lt
    where
      at : (t : Bool) → First (index_of b l) (split b l) l → First (index_after t (index_of b l)) (cut t x l) (x ∷ l)
      at true rest lt = refl
      at false rest lt = ap (joined x) (rest (omega arith))

  abbrev Last : ℕ → List (List ℕ) → List ℕ → Type 0
  Last k pieces l = length l ≤ k → pieces ≡ l ∷ []

  pub last_piece : (l : List ℕ) → Last (index_of b l) (split b l) l
  unfolding cut split joined index_of index_after
  last_piece [] le = refl
  last_piece (x ∷ l) le = at (eqb x b) (last_piece l) le
    where
      at : (t : Bool) → Last (index_of b l) (split b l) l → Last (index_after t (index_of b l)) (cut t x l) (x ∷ l)
      at true rest le = absurd (omega arith)
      at false rest le = ap (joined x) (rest (omega arith))

  pub split_some : (l : List ℕ) → 0 < length (split b l)
  split_some l = elim (both (ltb (index_of b l) (length l))) [
    | inl t ↦ rw (first_piece l (ltb-true (index_of b l) (length l) t)) (omega arith)
    | inr t ↦ rw (last_piece l (ltb-false (index_of b l) (length l) t)) (omega arith)
  ]

  -- looked for from the front of a list
  pub from_front : (l : List ℕ) → index_of b l ≡ 0 + index_of b (slice 0 (length l) l)
  unfolding slice
  from_front l = rw (take-length l) (omega arith)

  pub index_within : (l : List ℕ) → index_of b l ≤ length l
  unfolding index_of index_after
  index_within [] = omega arith
  index_within (x ∷ l) = at (eqb x b) (index_within l)
    where
      at : (t : Bool) → index_of b l ≤ length l → index_after t (index_of b l) ≤ suc (length l)
      at true le = omega arith
      at false le = omega arith

  module _ (l : List ℕ) where
    -- the pieces from a place on; past the end there is none
    pub unread : ℕ → List (List ℕ)
    unread at = elim (leb at (length l)) [ true ↦ split b (drop at l) | false ↦ [] ]

    unread_some : (at : ℕ) → at ≤ length l → unread at ≡ split b (drop at l)
    unfolding unread
    unread_some at le = rw (le-leb at (length l) le, unread)

    unread_none : (at : ℕ) → length l < at → unread at ≡ []
    unfolding unread
    unread_none at lt = rw (lt-leb at (length l) lt, unread)

    -- after i pieces, at a place
    pub record Cut (i at : ℕ) : Type 0 where
      pub left : drop i (split b l) ≡ unread at
      pub within : at ≤ suc (length l)
      pub counted : i ≤ length (split b l)

    pub uncut : Cut 0 0
    uncut = record { left = sym (unread_some 0 (omega arith)); within = omega arith; counted = omega arith }

    pub all_cut : (i at : ℕ) → Cut i at → length l < at → length (split b l) ≡ i
    all_cut i at c lt =
        let none : length (split b l) - i ≡ 0 = sym (length-drop i (split b l)) ∙ ap length (c.left ∙ unread_none at lt) in
        omega (arith, c.counted)

    -- where the next piece ends is within the list
    pub end_within : (at : ℕ) → at ≤ length l → at + index_of b (slice at (length l) l) ≤ length l
    unfolding slice
    end_within at le = rw (take-length l) (omega (arith, index_within (drop at l), length-drop at l, le))

    -- the next piece ends at `stop`
    module _ (i at stop : ℕ) (c : Cut i at) (le : at ≤ length l) (found : stop ≡ at + index_of b (slice at (length l) l)) (inside : stop ≤ length l) where
      abbrev k : ℕ
      k = index_of b (drop at l)

      place : stop ≡ at + k
      unfolding slice
      place = rw (take-length l) at found

      piece : unread at ≡ take (stop - at) (drop at l) ∷ unread (stop + 1)
      piece =
          let width : stop - at ≡ k = omega (arith, place) in
          let len : length (drop at l) ≡ length l - at = length-drop at l in
          elim (both (ltb k (length (drop at l)))) [
            | inl t ↦
                let lt = ltb-true k (length (drop at l)) t in
                let on : at + suc k ≡ stop + 1 = omega (arith, place) in
                unread_some at le ∙ first_piece (drop at l) lt
                ∙ ap₂ (λ (n : ℕ) (r : List (List ℕ)). take n (drop at l) ∷ r) (sym width)
                (ap (split b) (rw on at (drop-drop (suc k) at l)) ∙ sym (unread_some (stop + 1) (omega (arith, place, lt, len))))
            | inr t ↦
                let ge = ltb-false k (length (drop at l)) t in
                unread_some at le ∙ last_piece (drop at l) ge
                ∙ ap₂ (λ (w : List ℕ) (r : List (List ℕ)). w ∷ r) (sym (take_all (stop - at) (drop at l) (omega (arith, width, ge))))
                (sym (unread_none (stop + 1) (omega (arith, place, ge, len))))
          ]

      begins : drop i (split b l) ≡ take (stop - at) (drop at l) ∷ unread (stop + 1)
      begins = c.left ∙ piece

      pub more : i < length (split b l)
      more = some_left (split b l) i _ _ begins

      pub the_piece : get_or (split b l) i [] ≡ take (stop - at) (drop at l)
      the_piece = here (split b l) i _ _ begins []

      pub cut_on : Cut (i + 1) (stop + 1)
      cut_on = record { left = next_left (split b l) i _ _ begins; within = omega (arith, inside); counted = omega (arith, more) }

    -- before the end there is one more piece, though nothing looks for where it ends
    pub one_more : (i at : ℕ) → Cut i at → at ≤ length l → i < length (split b l)
    one_more i at c le = more i at _ c le refl (end_within at le)
