-- Row after row, two lists side by side: what is left of each begins with the next row, and the flag is the test of the rows before it.
use Rattle.std.proofs.Common.{◌≡◌, ◌∙◌, ℕ, ◌+◌, ◌-◌, ◌*◌, ◌<◌, ◌≤◌, Bool, true, ◌&&◌, List, ◌++◌, length, refl, sym, ap, arith, take, drop}
use Rattle.std.proofs.lemmas.List.{drop-drop, length-append}
use Rattle.std.proofs.Math.ListN.{length-drop}
use Rattle.std.proofs.Math.Nat.{mul-le-mul_right, lt_of_mul-lt-mul_right}
use Rattle.std.proofs.Math.Seq.{take-append_seam, drop-append_seam}
use lib.Dec.{ltb}
use mathlib.Core.Logic.{◌⊎◌, inl, inr}
use borrow.Author.Tests.{ltb-true, ltb-false}
use Rattle.floor.specs.Floor.{value_at, blocked}
use Rattle.floor.proofs.Tools.{both}
use Rattle.rules.specs.Sound.{every}
use Rattle.refusals.specs.Pairs.{pairs_ok}
use Rattle.refusals.proofs.Folds.{every_more}
use Rattle.refusals.proofs.Pairing.{pairs_in_row}

module _ (w height : ℕ) (known est : List ℕ) where
  -- the test of the row q
  abbrev row : ℕ → Bool
  row q = pairs_ok (blocked known) (value_at est) (q * w) (w - 1) 1

  -- n rows are done, and the lists left are cut into rows
  pub record Rows (n : ℕ) (ok : Bool) (size size' : ℕ) (left left' : List ℕ) : Type 0 where
    pub known_size : size ≡ w
    pub est_size : size' ≡ w
    pub known_left : left ≡ drop (n * w) known
    pub est_left : left' ≡ drop (n * w) est
    pub on_floor : n ≤ height
    pub so_far : ok ≡ every n row

  pub rows_none : (size size' : ℕ) (left left' : List ℕ) → size ≡ w → size' ≡ w → left ≡ known → left' ≡ est → Rows 0 true size size' left left'
  unfolding every
  rows_none size size' left left' a b c d = record {
    known_size = a;
    est_size = b;
    known_left = c ∙ whole known;
    est_left = d ∙ whole est;
    on_floor = omega arith;
    so_far = refl;
  }
    where
      whole : (l : List ℕ) → l ≡ drop (0 * w) l
      whole l = let e : 0 ≡ 0 * w = omega arith in ap (λ n. drop n l) e

  -- a row, and what is left after it
  next_row : (l k t : List ℕ) (n : ℕ) → drop (n * w) l ≡ k ++ t → length k ≡ w → (k ≡ take w (drop (n * w) l)) × (t ≡ drop ((n + 1) * w) l)
  next_row l k t n e long = (
    rw (e, ← long) (sym (take-append_seam k t)),
    sym (drop-append_seam k t) ∙ rw (long, ← e) (drop-drop w (n * w) l ∙ ap (λ j. drop j l) (after n)),
  )
    where
      after : (n : ℕ) → n * w + w ≡ (n + 1) * w
      after n = omega arith

  module _ (known_long : length known ≡ height * w) (est_long : length est ≡ height * w) (some : 0 < w) where
    below : (m n : ℕ) → m < n → m + 1 ≤ n
    below m n lt = omega arith

    pub rows_more : (n : ℕ) (ok ok' : Bool) (size size' : ℕ) (k e t t' left left' : List ℕ) → Rows n ok size size' left left'
        → left ≡ k ++ t → length k ≡ size → left' ≡ e ++ t' → length e ≡ size'
        → ok' ≡ pairs_ok (blocked k) (value_at e) 0 (length k - 1) 1
        → Rows (n + 1) (ok' && ok) size size' t t'
    rows_more n ok ok' size size' k e t t' left left' r el lk el' le row_ok =
        let a = next_row known k t n (sym r.known_left ∙ el) (lk ∙ r.known_size) in
        let b = next_row est e t' n (sym r.est_left ∙ el') (le ∙ r.est_size) in
        record {
          known_size = r.known_size;
          est_size = r.est_size;
          known_left = a.1;
          est_left = b.1;
          on_floor = below _ _ (lt_of_mul-lt-mul_right w (omega (arith, length-drop (n * w) known, length-append k t, ap length r.known_left, ap length el)));
          so_far = every_more row n ok' ok (row_ok ∙ pairs_in_row known est k e (n * w) w a.0 b.0 (lk ∙ r.known_size)) r.so_far;
        }

    ends : (l : List ℕ) (n : ℕ) → length l ≡ height * w → n ≤ height → length (drop (n * w) l) < w → n ≡ height
    ends l n long le short = elim (both (ltb n height)) [
      | inl e ↦
          let more : (n + 1) * w ≤ height * w = mul-le-mul_right w (omega (arith, ltb-true n height e)) in
          absurd (omega (arith, length-drop (n * w) l))
      | inr e ↦ omega (arith, ltb-false n height e)
    ]

    pub rows_all : (n : ℕ) (ok : Bool) (size size' : ℕ) (left left' : List ℕ) → Rows n ok size size' left left'
        → (length left < size) ⊎ (length left' < size') → ok ≡ every height row
    rows_all n ok size size' left left' r (inl short) =
        r.so_far ∙ ap (λ m. every m row) (ends known n known_long r.on_floor (omega (arith, ap length r.known_left, r.known_size)))
    rows_all n ok size size' left left' r (inr short) =
        r.so_far ∙ ap (λ m. every m row) (ends est n est_long r.on_floor (omega (arith, ap length r.est_left, r.est_size)))
