-- A file is not refused exactly where each of its records keeps the rules and follows the one before.
use Rattle.std.proofs.Common.{◌≡◌, ℕ, zero, suc, ◌+◌, ◌*◌, ◌/◌, ◌<◌, ◌≤◌, true, eqb, List, length, subst, inl, inr, arith, eq-eqb, eqb-true}
use Rattle.floor.proofs.Tools.{both}
use borrow.Author.Tests.{eqb-false}
use Rattle.floor.specs.Floor.{refusal}
use Rattle.floor.proofs.Refusing.{passed, passes, passes_all}
use Rattle.rules.specs.Record.{record_ok, follows, record_tests, count_refusal}
use Rattle.records.specs.Files.{Lawful}

module _ (b : List ℕ) where
  -- the i-th record keeps the rules and follows the one before
  abbrev Good : ℕ → Type 0
  Good i = (record_ok b (i * 24) ≡ true) × (follows b i ≡ true)

  -- n records from the i-th on
  pub pass : (i n : ℕ) → ((j : ℕ) → i ≤ j → j < i + n → Good j) → refusal (record_tests b i n) ≡ 0
  unfolding record_tests
  pass i zero good = passes_all
  pass i (suc n) good =
      let here = good i (omega arith) (omega arith) in
      passes _ _ _ here.0 (passes _ _ _ here.1 (pass (suc i) n (λ j le lt. good j (omega arith) (omega arith))))

  each : (n i j : ℕ) → refusal (record_tests b i n) ≡ 0 → i ≤ j → j < i + n → Good j
  unfolding record_tests
  each zero i j e le lt = absurd (omega arith)
  each (suc n) i j e le lt =
      let kept = passed _ _ _ e in
      let followed = passed _ _ _ kept.1 in
      elim (both (eqb i j)) [
        | inl same ↦ subst Good (eqb-true i j same) (kept.0, followed.0)
        | inr other ↦ each n (suc i) j followed.1 (later (eqb-false i j other)) (omega arith)
      ]
    where
      later : (i ≡ j → ⊥) → suc i ≤ j
      later ne = omega arith

  pub accepts : Lawful b → count_refusal b ≡ 0
  unfolding count_refusal
  accepts l = passes _ _ _ (eq-eqb _ _ l.whole) (pass 0 (length b / 24) (λ j le lt. (l.keeps j (omega arith), l.runs j (omega arith))))

  pub accepted : count_refusal b ≡ 0 → Lawful b
  unfolding count_refusal
  accepted e =
      let p = passed _ _ _ e in
      record {
        whole = eqb-true _ _ p.0;
        keeps = λ i lt. (each _ 0 i p.1 (omega arith) (omega arith)).0;
        runs = λ i lt. (each _ 0 i p.1 (omega arith) (omega arith)).1;
      }
