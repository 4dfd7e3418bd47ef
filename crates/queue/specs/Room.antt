-- The search that the working room shows.
use Rattle.std.specs.Prelude.{ℕ, zero, suc, ◌-◌}
use mathlib.Core.{Bool.Bool, Bool.true, Bool.false, Bool.not, Bool.◌&&◌, Bool.◌||◌, List.List}
use lib.{Dec.eqb, Dec.ltb}
use Rattle.floor.specs.Floor.{value_at}
use Rattle.floor.specs.declared.Distance.{Distance, TheVariants.Reached, TheVariants.Unreached}
use Rattle.rules.specs.Search.{Search}
pub use Rattle.room.specs.declared.{Way.Way, Room.Room}
pub use Rattle.room.specs.Layout.{way_at, nearness_at, parent_at, route_in, Holds}
unfoldable pub use Rattle.room.specs.Layout.{Clean}

-- the distance and the parent that a way stands for
unfoldable pub distance_of : ℕ → Distance
distance_of zero = Unreached
distance_of (suc v) = Reached (65535 - suc v)

unfoldable pub parent_of : ℕ → ℕ → ℕ
parent_of zero p = 0
parent_of (suc v) p = p

-- whether x is among the first m of a list's cells
unfoldable pub among : (ℕ → ℕ) → ℕ → ℕ → Bool
among list zero x = false
among list (suc m) x = eqb x (list m) || among list m x

-- the i-th cell opened on a floor of n cells: the first stands at the last place of the stack's list, the others before it
unfoldable pub opened_at : ℕ → List ℕ → ℕ → ℕ
opened_at n stack i = value_at stack (n - 1 - i)

-- the search that the room shows on a floor of n cells, m of them opened: a cell that has a way and isn't opened is in the frontier
unfoldable pub shown : {N : ℕ} → ℕ → Room N → ℕ → Search
shown n room m = record {
  dist = λ x. distance_of (nearness_at room.ways x);
  parent = λ x. parent_of (nearness_at room.ways x) (parent_at room.ways x);
  front = λ x. ltb 0 (nearness_at room.ways x) && not (among (opened_at n room.stack) m x);
  opened = among (opened_at n room.stack) m;
}

-- c leaves the frontier, opened
unfoldable pub leaving : ℕ → Search → Search
leaving c s = record {
  dist = s.dist;
  parent = s.parent;
  front = λ x. s.front x && not (eqb x c);
  opened = λ x. eqb x c || s.opened x;
}

-- y joins the frontier, at distance g, with c as parent
unfoldable pub joined : ℕ → ℕ → ℕ → Search → Search
joined c g y s = record {
  dist = λ x. elim (eqb x y) [ true ↦ Reached g | false ↦ s.dist x ];
  parent = λ x. elim (eqb x y) [ true ↦ c | false ↦ s.parent x ];
  front = λ x. eqb x y || s.front x;
  opened = s.opened;
}
