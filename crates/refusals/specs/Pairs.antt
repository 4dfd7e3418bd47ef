-- Sound estimates as the code tests them, pair by pair. No promise rests on these names: what they come to is `sound`, and that is proved.
use Rattle.std.specs.Prelude.{ℕ, ◌+◌, Bool, ◌&&◌, ◌||◌, leb}
use Rattle.rules.specs.Sound.{every}

-- of two cells both not blocked in the known map, neither is more than 1 above the other
unfoldable pub pair_ok : (ℕ → Bool) → (ℕ → ℕ) → ℕ → ℕ → Bool
pair_ok known est x y = known x || known y || (leb (est x) (est y + 1) && leb (est y) (est x + 1))

-- so for each of `count` cells from the cell `from` on, and the cell `apart` numbers after it
unfoldable pub pairs_ok : (ℕ → Bool) → (ℕ → ℕ) → ℕ → ℕ → ℕ → Bool
pairs_ok known est from count apart = every count (λ i. pair_ok known est (from + i) (from + i + apart))
