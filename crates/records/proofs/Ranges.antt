-- What a range's `contains` answers, in the rules' terms.
use Rattle.std.proofs.Common.{◌≡◌, ℕ, false, leb, Some, refl, arith}
use Rattle.std.specs.Ordering.{nat_cmp, is_le}
use Rattle.std.specs.declared.ops.RangeInclusive.{RangeInclusive}
use Rattle.std.specs.Range.{range_inclusive_start, range_inclusive_end, range_inclusive_exhausted, range_inclusive_contains}
use Rattle.std.proofs.lemmas.Bool.Decides.{nat_tests}
use Rattle.floor.specs.Floor.{up_to}

is_le-nat_cmp : (x y : ℕ) → is_le (nat_cmp x y) ≡ leb x y
is_le-nat_cmp x y = grind (arith, nat_tests)

pub in_range : (r : RangeInclusive ℕ) (most x : ℕ) → range_inclusive_start r ≡ 1 → range_inclusive_end r ≡ most → range_inclusive_exhausted r ≡ false
    → range_inclusive_contains (λ a b. Some (nat_cmp a b)) r x ≡ up_to most x
unfolding up_to
in_range r most x first last fresh = rw (first, last, fresh, is_le-nat_cmp 1 x, is_le-nat_cmp x most) refl
