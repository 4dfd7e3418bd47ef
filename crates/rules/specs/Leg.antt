-- Document 01, "One leg": steps a to g, first over pictures of the floor, then over the lists that are lent.
use Rattle.std.specs.Prelude.{ℕ, zero, suc, ◌+◌, ◌-◌, ltb, eqb, Option, Some, None}
use mathlib.Core.{Bool.Bool, Bool.true, Bool.false, Bool.◌&&◌, Bool.◌||◌, List.List, List.[], List.◌∷◌}
use Rattle.floor.specs.{declared.Floor.Floor, Floor.cells, Floor.beside, Floor.tabulate, Floor.byte, Floor.blocked, Floor.value_at}
pub use Rattle.floor.specs.declared.Ending.{Ending, TheVariants.Arrived, TheVariants.CutOff, TheVariants.Spent, TheVariants.UnderWay}
use Rattle.rules.specs.{Search.Search, Search.start, Search.Found, Search.seek}
use Rattle.floor.specs.declared.Distance.{Distance, TheVariants.Reached, TheVariants.Unreached}

-- b: each adjoining cell blocked in the plan becomes blocked in the known map
unfoldable pub sense : Floor → (ℕ → Bool) → ℕ → (ℕ → Bool) → ℕ → Bool
sense f plan cart known x = known x || (beside f cart x && plan x)

-- e: each opened cell's estimate becomes F minus its g; no other changes
unfoldable pub lifted : ℕ → Bool → Distance → ℕ → ℕ
lifted F false d e = e
lifted F true Unreached e = e
lifted F true (Reached g) e = F - g

unfoldable pub raise : ℕ → Search → (ℕ → ℕ) → ℕ → ℕ
raise F s est x = lifted F (s.opened x) (s.dist x) (est x)

-- the manner of a leg: how the cart senses, and what the estimates become, from F, the search and the old ones
pub record Manner : Type 0 where
  pub sensing : Floor → (ℕ → Bool) → ℕ → (ℕ → Bool) → ℕ → Bool
  pub update : Floor → ℕ → Search → (ℕ → ℕ) → ℕ → ℕ

unfoldable pub ours : Manner
ours = record { sensing = sense; update = λ f. raise }

-- f: the parents' route, the cells after the cart up to t, which is k moves away
unfoldable pub route : (ℕ → ℕ) → ℕ → ℕ → List ℕ → List ℕ
route parent zero t ahead = ahead
route parent (suc k) t ahead = route parent k (parent t) (t ∷ ahead)

-- some cell ahead is known to be blocked
unfoldable pub barred : (ℕ → Bool) → List ℕ → Bool
barred known [] = false
barred known (c ∷ ahead) = known c || barred known ahead

-- the moves made, cell by cell, and the known map after them
pub record Drive : Type 0 where
  pub made : List ℕ
  pub seen : ℕ → Bool

unfoldable pub parked : (ℕ → Bool) → Drive
parked known = record { made = []; seen = known }

unfoldable pub moved : ℕ → Drive → Drive
moved c d = record { made = c ∷ d.made; seen = d.seen }

-- move and sense (`sees c known` is what is known after sensing from c); stop at the target, the limit, or a cell ahead known blocked
unfoldable pub drive : (ℕ → (ℕ → Bool) → ℕ → Bool) → ℕ → (ℕ → Bool) → List ℕ → Drive
drive sees zero known ahead = parked known
drive sees (suc limit) known [] = parked known
drive sees (suc limit) known (c ∷ ahead) =
    let seen = sees c known in
    moved c (elim (barred seen ahead) [ true ↦ parked seen | false ↦ drive sees limit seen ahead ])

unfoldable pub last : ℕ → List ℕ → ℕ
last c [] = c
last c (d ∷ l) = last d l

-- a leg's result; the trail is the cells moved to, and its length is the number of moves
pub record Leg : Type 0 where
  pub ending : Ending
  pub cell : ℕ
  pub trail : List ℕ
  pub opened : ℕ
  pub known : ℕ → Bool
  pub est : ℕ → ℕ

-- g: arrived if the cart is on the goal, else under way
unfoldable pub ended : ℕ → ℕ → Ending
ended cell goal = elim (eqb cell goal) [ true ↦ Arrived | false ↦ UnderWay ]

unfoldable pub stayed : Ending → ℕ → ℕ → (ℕ → Bool) → (ℕ → ℕ) → Leg
stayed e cart n known est = record { ending = e; cell = cart; trail = []; opened = n; known = known; est = est }

unfoldable pub driven : ℕ → ℕ → ℕ → (ℕ → ℕ) → Drive → Leg
driven cart goal n est d =
    let c = last cart d.made in
    record { ending = ended c goal; cell = c; trail = d.made; opened = n; known = d.seen; est = est }

-- d: no target, or F greater than N-1: cut off; otherwise e and f
unfoldable pub followed : Manner → Floor → (ℕ → Bool) → (ℕ → Bool) → (ℕ → ℕ) → ℕ → ℕ → ℕ → Found → Option (ℕ × ℕ) → Leg
followed m f plan known est cart goal limit r None = stayed CutOff cart r.count known est
followed m f plan known est cart goal limit r (Some (t, g)) =
    let F = g + est t in
    elim (ltb (cells f - 1) F) [
      | true ↦ stayed CutOff cart r.count known est
      | false ↦
          driven cart goal r.count (m.update f F r.state est)
          (drive (m.sensing f plan) limit known (route r.state.parent g t []))
    ]

-- a: a cart on the goal has arrived; else b, c, and what follows
unfoldable pub leg : Manner → Floor → (ℕ → Bool) → (ℕ → Bool) → (ℕ → ℕ) → ℕ → ℕ → ℕ → ℕ → Leg
leg m f plan known est cart goal look limit = elim (eqb cart goal) [
  | true ↦ stayed Arrived cart 0 known est
  | false ↦
      let seen = m.sensing f plan cart known in
      let r = seek f seen est goal look 0 (start cart) in
      followed m f plan seen est cart goal limit r r.target
]

-- what a leg starts from, and leaves
pub record Stand : Type 0 where
  pub known : List ℕ
  pub est : List ℕ
  pub cell : ℕ

pub record Setting : Type 0 where
  pub look : ℕ
  pub limit : ℕ

unfoldable pub leg_from : Floor → (ℕ → Bool) → ℕ → Setting → Stand → Leg
leg_from f plan goal k s = leg ours f plan (blocked s.known) (value_at s.est) s.cell goal k.look k.limit

unfoldable pub left : Floor → Leg → Stand
left f l = record { known = tabulate (cells f) (λ x. byte (l.known x)); est = tabulate (cells f) l.est; cell = l.cell }
