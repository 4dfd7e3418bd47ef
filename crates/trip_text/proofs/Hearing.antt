-- What is heard from a text, by its two parts: the first line, and what follows its line feed.
use Rattle.std.proofs.Common.{◌≡◌, ◌∙◌, ℕ, ◌+◌, ◌<◌, ◌≤◌, List, length, take, drop, true, false, Option, Some, None, Result, Ok, Err, refl, sym, ap, arith}
use mathlib.Core.Logic.{inl, inr}
use Rattle.std.specs.Option.{ok_or}
use Rattle.std.specs.Result.{IsErr, IsErrAnd, MatchResult}
use Rattle.floor.specs.{declared.Refusal.Refusal, Floor.sizes_ok, Floor.number}
use Rattle.floor.proofs.Tools.{both}
use Rattle.trip_text.specs.declared.{Errand.Errand}
use Rattle.trip_text.specs.Scan.{index_of}
use Rattle.trip_text.specs.Heard.{BadInput, Refused, Asked, InTable, errand_at, heard_in}
use Rattle.trip_text.specs.Parts.{line_ok, errand_of, rest_ok, errand_refusal, judged}
use Rattle.trip_text.proofs.Pieces.{from_front, index_within}
use Rattle.trip_text.proofs.Judging as judging
use Rattle.trip_text.proofs.Asking.{endless, no_line, heard_by}

-- ---- answers

pub not_ok : {A E : Type 0} (o : Option A) (e u : E) → ok_or o e ≡ Err u → (o ≡ None) × (u ≡ e)
not_ok None e u is = (refl, cc)
not_ok (Some a) e u is = absurd (cc)

pub by_err : {A E : Type 0} (Q : A → Type 0) (P R : E → Type 0) (r : Result A E) → IsErr r × IsErrAnd r P → ((e : E) → P e → R e) → MatchResult r Q R
by_err Q P R (Ok a) h k = absurd (cc)
by_err Q P R (Err e) h k = k e h.1

pub in_table : (refusal : Refusal) → InTable (number refusal)
in_table refusal = record { refusal = refusal; is = refl }

-- ---- texts

module _ (text : List ℕ) where
  pub unfed : length text ≤ index_of 10 text → BadInput ≡ heard_in text
  unfed le = endless text _ (from_front 10 text) (omega (arith, index_within 10 text, le))

  module _ (line rest : List ℕ) (inside : index_of 10 text < length text) (line_is : line ≡ take (index_of 10 text) text) (rest_is : rest ≡ drop (index_of 10 text + 1) text) where
    pub no_errand : errand_of line ≡ None → BadInput ≡ heard_in text
    unfolding errand_of
    no_errand e = elim (both (line_ok line)) [
      | inl ok ↦ absurd (let some : errand_of line ≡ Some (errand_at line) = rw (ok, errand_of) in cc)
      | inr bad ↦ no_line text _ (from_front 10 text) inside (sym bad ∙ ap line_ok line_is)
    ]

    module _ (e : Errand) (is : errand_of line ≡ Some e) where
      by_parts : judged rest e ≡ heard_in text
      unfolding errand_of
      by_parts = elim (both (line_ok line)) [
        | inl ok ↦
            let some : errand_of line ≡ Some (errand_at line) = rw (ok, errand_of) in
            let same : errand_at line ≡ e = cc in
            rw (rest_is, ← same, line_is) (heard_by text _ (from_front 10 text) inside (sym ok ∙ ap line_ok line_is))
        | inr bad ↦ absurd (let none : errand_of line ≡ None = rw (bad, errand_of) in cc)
      ]

      pub bad_sizes : sizes_ok e.floor ≡ false → Refused 1 ≡ heard_in text
      bad_sizes s = judging.bad_sizes rest e s ∙ by_parts

      module _ (s : sizes_ok e.floor ≡ true) where
        pub bad_rows : rest_ok rest e.floor.width e.floor.height ≡ false → BadInput ≡ heard_in text
        bad_rows l = judging.bad_rows rest e s l ∙ by_parts

        pub refused : rest_ok rest e.floor.width e.floor.height ≡ true → (n : ℕ) → n ≡ errand_refusal rest e → (n ≡ 0 → ⊥) → Refused n ≡ heard_in text
        refused l n r some = judging.refused rest e s l n r some ∙ by_parts

        pub taken : rest_ok rest e.floor.width e.floor.height ≡ true → 0 ≡ errand_refusal rest e → Asked e ≡ heard_in text
        taken l r = judging.taken rest e s l r ∙ by_parts
