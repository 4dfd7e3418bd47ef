-- The tests of a file, record by record: what those from the i-th record on come to, at a record that breaks a rule, at one that does
-- not, and past the last.
use Rattle.std.proofs.Common.{◌≡◌, ℕ, zero, suc, ◌+◌, ◌-◌, ◌*◌, ◌/◌, ◌%◌, ◌<◌, ◌≤◌, true, false, eqb, List, length, refl, arith, eq-eqb, sym, Option, Some, None, unwrap_or}
use Rattle.floor.specs.Floor.{refusal}
use Rattle.rules.specs.Record.{got, record_ok, next_serial, follows, record_tests, count_refusal}

-- the refusal of the n - i records from the i-th on
unfoldable pub rest : List ℕ → ℕ → ℕ → ℕ
rest b n i = refusal (record_tests b i (n - i))

-- the serial that the i-th record has to have
unfoldable pub due : List ℕ → ℕ → Option ℕ
due b zero = None
due b (suc i) = Some (next_serial (got b (i * 24) 2))

-- the first record may have any
pub follows_due : (b : List ℕ) (i : ℕ) → follows b i ≡ eqb (got b (i * 24) 2) (unwrap_or (due b i) (got b (i * 24) 2))
unfolding follows due
follows_due b zero = sym (eq-eqb _ _ refl)
follows_due b (suc i) = refl

module _ (b : List ℕ) where
  pub no_length : eqb (length b % 24) 0 ≡ false → 10 ≡ count_refusal b
  unfolding count_refusal refusal
  no_length e = rw e

  -- the refusal of the whole file is what its records come to
  pub all_records : eqb (length b % 24) 0 ≡ true → count_refusal b ≡ rest b (length b / 24) 0
  unfolding count_refusal refusal rest
  all_records e = let z : length b / 24 - 0 ≡ length b / 24 = omega arith in rw (e, z)

  module _ (n i : ℕ) where
    pub none_left : n ≤ i → rest b n i ≡ 0
    unfolding rest record_tests refusal
    none_left le = let z : n - i ≡ 0 = omega arith in rw z

    one_more : i < n → n - i ≡ suc (n - (i + 1))
    one_more lt = omega arith

    pub broken : i < n → record_ok b (i * 24) ≡ false → rest b n i ≡ 11
    unfolding rest record_tests refusal
    broken lt e = rw (one_more lt, e)

    pub out_of_step : i < n → record_ok b (i * 24) ≡ true → follows b i ≡ false → rest b n i ≡ 12
    unfolding rest record_tests refusal
    out_of_step lt e f = rw (one_more lt, e, f)

    pub kept : i < n → record_ok b (i * 24) ≡ true → follows b i ≡ true → rest b n i ≡ rest b n (i + 1)
    unfolding rest record_tests refusal
    kept lt e f = let s : i + 1 ≡ suc i = omega arith in rw (one_more lt, e, f, s)
