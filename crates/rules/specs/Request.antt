-- Document 01, "Endings and refusals": what a leg and a walk are given, when they refuse, what they answer and what they leave.
use Rattle.std.specs.Prelude.{ℕ, zero, suc}
use mathlib.Core.{Bool.Bool, Bool.not, Bool.◌&&◌, List.List, List.[], List.◌∷◌, List.◌++◌, List.map}
use lib.{Dec.ltb, Dec.leb, Dec.eqb, ListN.length, ListN.drop}
use Rattle.floor.specs.{declared.Floor.Floor, Floor.up_to, Floor.sizes_ok, Floor.cells, Floor.blocked, Floor.value_at, Floor.refusal}
use Rattle.rules.specs.{Sound.every, Sound.within, Sound.sound, Leg.Ending, Leg.Arrived, Leg.CutOff, Leg.Spent, Leg.UnderWay, Leg.Leg, Leg.Stand, Leg.Setting, Leg.leg_from, Leg.left, Walk.Walk, Walk.trail_of, Walk.opened_in, Walk.walk}

-- sizes, plan, known map, estimates, cart cell, goal, lookahead, move limit, trail
pub record Request : Type 0 where
  pub floor : Floor
  pub plan : List ℕ
  pub stand : Stand
  pub goal : ℕ
  pub setting : Setting
  pub trail : List ℕ

-- lookahead and move limit are in 1 to 4,096
unfoldable pub setting_ok : Setting → Bool
setting_ok k = up_to 4096 k.look && up_to 4096 k.limit

-- the refusals 1 to 9 of a walk, whose trail has to hold the allowance, and of a leg, whose trail has to hold the move limit
unfoldable pub walk_refusal : ℕ → Request → ℕ
walk_refusal allowance r =
    let n = cells r.floor in
    refusal (
    (1, sizes_ok r.floor)
    ∷ (2, eqb (length r.plan) n && eqb (length r.stand.known) n && eqb (length r.stand.est) n)
    ∷ (3, ltb r.stand.cell n && ltb r.goal n)
    ∷ (4, setting_ok r.setting)
    ∷ (5, leb allowance (length r.trail))
    ∷ (6, every n (λ x. leb (value_at r.plan x) 1 && leb (value_at r.stand.known x) 1))
    ∷ (7, within r.floor (blocked r.stand.known) (blocked r.plan))
    ∷ (8, not (blocked r.plan r.stand.cell))
    ∷ (9, sound r.floor (blocked r.stand.known) (value_at r.stand.est) r.goal)
    ∷ [])

unfoldable pub leg_refusal : Request → ℕ
leg_refusal r = walk_refusal r.setting.limit r

unfoldable pub number_of : Ending → ℕ
number_of e = elim e [ Arrived ↦ 1 | CutOff ↦ 2 | Spent ↦ 3 | UnderWay ↦ 4 ]

-- what an entry answers, the refusal or 0 and its numbers, and the lent lists afterwards
abbrev pub Outcome : Type 0
Outcome = record { refused : ℕ; numbers : List ℕ; known : List ℕ; est : List ℕ; trail : List ℕ }

-- later trail entries stay; a refusal returns its number, the cart as given, 0 for every other number, and no lent memory changes
unfoldable pub outcome : Request → ℕ → List ℕ → Stand → List ℕ → Outcome
outcome r zero answer s made =
    record { refused = 0; numbers = answer; known = s.known; est = s.est; trail = made ++ drop (length made) r.trail }
outcome r (suc n) answer s made =
    let numbers : List ℕ = 0 ∷ r.stand.cell ∷ map (λ x. 0) (drop 2 answer) in
    record { refused = suc n; numbers = numbers; known = r.stand.known; est = r.stand.est; trail = r.trail }

-- a leg's numbers: ending, cell, moves, opened
unfoldable pub leg_of : Request → Leg
leg_of r = leg_from r.floor (blocked r.plan) r.goal r.setting r.stand

unfoldable pub leg_outcome : Request → Outcome
leg_outcome r =
    let l = leg_of r in
    let answer = number_of l.ending ∷ l.cell ∷ length l.trail ∷ l.opened ∷ [] in
    outcome r (leg_refusal r) answer (left r.floor l) l.trail

-- a walk's numbers: ending, cell, moves, legs, opened
unfoldable pub walk_of : ℕ → Request → Walk
walk_of allowance r = walk r.floor (blocked r.plan) r.goal r.setting allowance r.stand

unfoldable pub walk_outcome : ℕ → Request → Outcome
walk_outcome allowance r =
    let w = walk_of allowance r in
    let made = trail_of w.legs in
    let answer = number_of w.ending ∷ w.stand.cell ∷ length made ∷ length w.legs ∷ opened_in w.legs ∷ [] in
    outcome r (walk_refusal allowance r) answer w.stand made
