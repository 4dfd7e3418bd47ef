-- Document 01, "One leg", step c: the search from the cart over cells not blocked in the known map, with its tie rule.
use Rattle.std.specs.Prelude.{ℕ, zero, suc, ◌+◌, Bool, true, false, not, ◌&&◌, ◌||◌, ltb, eqb, Option, Some, None}
use Rattle.floor.specs.{declared.Floor.Floor, Floor.cells, Floor.beside}
pub use Rattle.floor.specs.declared.Distance.{Distance, TheVariants.Reached, TheVariants.Unreached}

-- each cell's distance from the cart, its parent, whether it is in the frontier, and whether it was opened
pub record Search : Type 0 where
  pub dist : ℕ → Distance
  pub parent : ℕ → ℕ
  pub front : ℕ → Bool
  pub opened : ℕ → Bool

-- the cart's distance g is 0, a cell with no way to it yet has none, and the frontier starts as the cart's cell
unfoldable pub start : ℕ → Search
start cart =
    record { dist = λ x. elim (eqb x cart) [ true ↦ Reached 0 | false ↦ Unreached ]; parent = λ x. 0; front = λ x. eqb x cart; opened = λ x. false }

-- a way of g moves is the first to a cell, or strictly shorter than the one it had
unfoldable pub falls : Distance → ℕ → Bool
falls Unreached g = true
falls (Reached h) g = ltb g h

-- x joins the frontier when c, at g, is opened: a neighbour not blocked in the known map whose g falls
unfoldable pub joins : Floor → (ℕ → Bool) → ℕ → ℕ → Search → ℕ → Bool
joins f known c g s x = beside f c x && not (known x) && falls (s.dist x) (g + 1)

-- open c, whose distance is g: it leaves the frontier, and its neighbours join
unfoldable pub opening : Floor → (ℕ → Bool) → ℕ → ℕ → Search → Search
opening f known c g s = record {
  dist = λ x. elim (joins f known c g s x) [ true ↦ Reached (g + 1) | false ↦ s.dist x ];
  parent = λ x. elim (joins f known c g s x) [ true ↦ c | false ↦ s.parent x ];
  front = λ x. joins f known c g s x || (s.front x && not (eqb x c));
  opened = λ x. eqb x c || s.opened x;
}

-- d at h is taken before c at g, where c has the lower number: the least g + estimate, and among equals the larger g
unfoldable pub beats : (ℕ → ℕ) → ℕ → ℕ → ℕ → ℕ → Bool
beats est d h c g = ltb (h + est d) (g + est c) || (eqb (h + est d) (g + est c) && ltb g h)

-- the better of the best so far and the next cell x, which is passed over if it isn't in the frontier or has no distance
unfoldable pub better : (ℕ → ℕ) → Option (ℕ × ℕ) → Bool → Distance → ℕ → Option (ℕ × ℕ)
better est best false d x = best
better est best true Unreached x = best
better est None true (Reached h) x = Some (x, h)
better est (Some (c, g)) true (Reached h) x = elim (beats est x h c g) [ true ↦ Some (x, h) | false ↦ Some (c, g) ]

-- the frontier cell below n to take; a cell replaces one of lower number only where it beats it, so the lower number wins
unfoldable pub pick : (ℕ → ℕ) → Search → ℕ → Option (ℕ × ℕ)
pick est s zero = None
pick est s (suc n) = better est (pick est s n) (s.front n) (s.dist n) n

-- what a search comes to: its last state, the target if there is one, and the number of cells opened
pub record Found : Type 0 where
  pub state : Search
  pub target : Option (ℕ × ℕ)
  pub count : ℕ

-- with n cells opened and this cell taken: none, and there is no target; the goal, and it is the target; else open it
unfoldable pub taken : ℕ → Search → ℕ → Option (ℕ × ℕ) → (ℕ → ℕ → Found) → Found
taken goal s n None next = record { state = s; target = None; count = n }
taken goal s n (Some (c, g)) next = elim (eqb c goal) [ true ↦ record { state = s; target = Some (c, g); count = n } | false ↦ next c g ]

-- the search with `left` openings left, after n: with none left the cell taken is the target, and it isn't opened
unfoldable pub seek : Floor → (ℕ → Bool) → (ℕ → ℕ) → ℕ → ℕ → ℕ → Search → Found
seek f known est goal zero n s = record { state = s; target = pick est s (cells f); count = n }
seek f known est goal (suc left) n s =
    taken goal s n (pick est s (cells f)) (λ c g. seek f known est goal left (suc n) (opening f known c g s))
