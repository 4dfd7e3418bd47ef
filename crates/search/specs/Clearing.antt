-- The ways in the working room, and how they are taken from the cells of the lists.
use Rattle.std.specs.Prelude.{ℕ, ◌+◌, ◌-◌, ◌≤◌, ◌<◌, length, take, drop}
use mathlib.Core.{Path.◌≡◌, List.List, Logic.◌⊎◌}
use Rattle.floor.specs.Floor.{value_at}
use Rattle.rules.specs.Leg.{lifted}
use Rattle.queue.specs.Room.{Way, Room, nearness_at, parent_at, distance_of, among, opened_at}
use Rattle.queue.specs.Queue.{Stands, Cells}

-- every cell that has a way is among the m cells opened, on the stack of an or in the rest of rn, and these are cells of the floor
pub record Held {N : ℕ} (n : ℕ) (room : Room N) (m an rn : ℕ) : Type 0 where
  pub opened : Cells n m (opened_at n room.stack)
  pub stack : Cells n an (value_at room.stack)
  pub rest : Cells n rn (value_at room.rest)
  pub fits : m + an ≤ n
  pub short : rn ≤ n
  pub all : (x : ℕ) → (nearness_at room.ways x ≡ 0 → ⊥) → Stands (opened_at n room.stack) m x ⊎ (Stands (value_at room.stack) an x ⊎ Stands (value_at room.rest) rn x)

-- the ways of the first m cells of p are gone, no cell got one, and no parent changed
pub record Wiped (p : ℕ → ℕ) (m : ℕ) (ways ways₀ : List Way) : Type 0 where
  pub stays : (x : ℕ) → parent_at ways x ≡ parent_at ways₀ x
  pub fades : (x : ℕ) → nearness_at ways₀ x ≡ 0 → nearness_at ways x ≡ 0
  pub goes : (i : ℕ) → i < m → nearness_at ways (p i) ≡ 0

-- each of the first m cells of p has its estimate raised from its way
unfoldable pub updated : ℕ → (ℕ → ℕ) → ℕ → List Way → (ℕ → ℕ) → ℕ → ℕ
updated f p m ways est x = lifted f (among p m x) (distance_of (nearness_at ways x)) (est x)

-- the cells opened stand at the last places of the floor's list
abbrev pub last_places : ℕ → List ℕ → ℕ → List ℕ
last_places n stack m = let front : List ℕ = take n stack in take (length front - (n - m)) (drop (n - m) front)
