-- Document 01, "One walk": legs, each from what the last one left, until one ends it or the allowance is used up.
use Rattle.std.specs.Prelude.{ℕ, zero, suc, ◌+◌, ◌-◌, min}
use mathlib.Core.{Bool.Bool, Bool.true, Bool.false, List.List, List.[], List.◌∷◌, List.◌++◌}
use lib.{Dec.eqb, ListN.length}
use Rattle.floor.specs.declared.Floor.{Floor}
use Rattle.rules.specs.Leg.{Ending, Arrived, CutOff, Spent, UnderWay, Leg, Stand, Setting, leg_from, left}

-- the legs are those that searched, a cut-off one too
pub record Walk : Type 0 where
  pub ending : Ending
  pub stand : Stand
  pub legs : List Leg

-- the cells moved to in all, and the cells opened in all
unfoldable pub trail_of : List Leg → List ℕ
trail_of [] = []
trail_of (l ∷ ls) = l.trail ++ trail_of ls

unfoldable pub opened_in : List Leg → ℕ
opened_in [] = 0
opened_in (l ∷ ls) = l.opened + opened_in ls

unfoldable pub standing : Ending → Stand → Walk
standing e s = record { ending = e; stand = s; legs = [] }

unfoldable pub onward : Leg → Walk → Walk
onward l w = record { ending = w.ending; stand = w.stand; legs = l ∷ w.legs }

-- after the leg l, which ended in e, the walk ends, or goes on from what the leg left
unfoldable pub after_leg : Floor → Leg → Ending → (Stand → Walk) → Walk
after_leg f l Arrived next = onward l (standing Arrived (left f l))
after_leg f l CutOff next = onward l (standing CutOff (left f l))
after_leg f l Spent next = onward l (standing Spent (left f l))
after_leg f l UnderWay next = onward l (next (left f l))

-- the smaller of the move limit and the moves left
unfoldable pub capped : Setting → ℕ → Setting
capped k room = record { look = k.look; limit = min k.limit room }

-- with `room` moves left; each leg under way makes a move, so that `depth`, one more than the room, is never used up
unfoldable pub walking : Floor → (ℕ → Bool) → ℕ → Setting → ℕ → ℕ → Stand → Walk
walking f plan goal k zero room s = standing Spent s
walking f plan goal k (suc depth) room s = elim (eqb s.cell goal) [
  | true ↦ standing Arrived s
  | false ↦ elim (eqb room 0) [
    | true ↦ standing Spent s
    | false ↦
        let l = leg_from f plan goal (capped k room) s in
        after_leg f l l.ending (walking f plan goal k depth (room - length l.trail))
  ]
]

unfoldable pub walk : Floor → (ℕ → Bool) → ℕ → Setting → ℕ → Stand → Walk
walk f plan goal k allowance s = walking f plan goal k (suc allowance) allowance s
