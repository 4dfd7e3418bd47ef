-- Document 01, "The floor": open routes, a known map within the plan, and sound estimates.
use Rattle.std.specs.Prelude.{ℕ, zero, suc, ◌+◌, ◌-◌, leb, eqb}
use mathlib.Core.{Path.◌≡◌, Bool.Bool, Bool.true, Bool.false, Bool.not, Bool.◌&&◌, Bool.◌||◌}
use Rattle.floor.specs.{declared.Floor.Floor, Floor.cells, Floor.beside}

-- a route from a cell to the goal between open cells that share a side, with its length, the number of moves
pub data Route (f : Floor) (plan : ℕ → Bool) (goal : ℕ) : ℕ → ℕ → Type 0 where
  here : plan goal ≡ false → Route f plan goal goal 0
  step : {a b n : ℕ} → plan a ≡ false → beside f a b ≡ true → Route f plan goal b n → Route f plan goal a (suc n)

-- a test that holds at each number below n
unfoldable pub every : ℕ → (ℕ → Bool) → Bool
every zero p = true
every (suc n) p = p n && every n p

-- blocked only where the plan is blocked
unfoldable pub within : Floor → (ℕ → Bool) → (ℕ → Bool) → Bool
within f known plan = every (cells f) (λ x. plan x || not (known x))

-- of two adjoining cells both not blocked in the known map, the first is at most 1 above the second
unfoldable pub near_ok : Floor → (ℕ → Bool) → (ℕ → ℕ) → ℕ → ℕ → Bool
near_ok f known est x y = not (beside f x y) || known x || known y || leb (est x) (est y + 1)

-- sound: the goal's is 0, each is at most N-1, and two adjoining cells both not blocked differ by at most 1
unfoldable pub sound : Floor → (ℕ → Bool) → (ℕ → ℕ) → ℕ → Bool
sound f known est goal =
    eqb (est goal) 0
    && every (cells f) (λ x. leb (est x) (cells f - 1))
    && every (cells f) (λ x. every (cells f) (near_ok f known est x))
