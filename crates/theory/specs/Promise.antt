-- Demand 3: what holds over accepted legs on one unchanging floor to one goal, each from what the last one left, and of walks.
use Rattle.std.specs.Prelude.{ℕ, zero, suc, ◌+◌, ◌-◌, ◌*◌, ◌≤◌, ◌<◌}
use mathlib.Core.{Path.◌≡◌, Logic.◌↔◌, Bool.Bool, Bool.true, Bool.false, Bool.◌||◌, List.List, List.[]}
use lib.{Dec.eqb, ListN.length}
use Rattle.floor.specs.{declared.Floor.Floor, declared.Ending.Ending, declared.Ending.TheVariants.Arrived, declared.Ending.TheVariants.CutOff, declared.Ending.TheVariants.Spent, declared.Ending.TheVariants.UnderWay, Floor.sizes_ok, Floor.cells, Floor.tabulate, Floor.byte, Floor.blocked, Floor.value_at, Floor.prepared}
use Rattle.rules.specs.{Sound.Route, Sound.within, Sound.sound, Leg.Leg, Leg.Stand, Leg.Setting, Leg.left, Walk.trail_of, Request.Request, Request.setting_ok, Request.leg_refusal, Request.walk_refusal, Request.leg_of, Request.walk_of}

-- before each leg the known map may gain cells, as from another cart
unfoldable pub gained : Floor → (ℕ → Bool) → Stand → Stand
gained f gain s =
    record { known = tabulate (cells f) (λ x. byte (blocked s.known x || gain x)); est = s.est; cell = s.cell }

-- the sum of the estimates below n, all but the one at c
unfoldable pub others : (ℕ → ℕ) → ℕ → ℕ → ℕ
others est c zero = 0
others est c (suc n) = elim (eqb n c) [ true ↦ 0 | false ↦ est n ] + others est c n

-- of one request: (N-1) squared, the sum of all estimates but the one under the cart, and its open routes
module _ (r : Request) where
  abbrev pub square : ℕ
  square = (cells r.floor - 1) * (cells r.floor - 1)

  abbrev pub sum_at : Stand → ℕ
  sum_at s = others (value_at s.est) s.cell (cells r.floor)

  abbrev pub RouteFrom : ℕ → ℕ → Type 0
  RouteFrom x n = Route r.floor (blocked r.plan) r.goal x n

  abbrev pub HasRoute : Type 0
  HasRoute = (n : ℕ) × RouteFrom r.stand.cell n

  -- the request again, from another stand
  unfoldable pub again : Stand → Setting → List ℕ → Request
  again s k trail = record { floor = r.floor; plan = r.plan; stand = s; goal = r.goal; setting = k; trail = trail }

  module _ (gain : ℕ → ℕ → Bool) (setting : ℕ → Setting) where
    -- the settings of leg i, counted from 0, are allowed, and the plan has what the known map gains before it
    abbrev pub Lawful : ℕ → Type 0
    Lawful i = (setting_ok (setting i) ≡ true) × (within r.floor (gain i) (blocked r.plan) ≡ true)

    -- where leg i starts: the first from the request's stand, each later one from what the last one left
    unfoldable pub stand_at : ℕ → Stand
    stand_at zero = gained r.floor (gain 0) r.stand
    stand_at (suc i) = gained r.floor (gain (suc i)) (left r.floor (leg_of (again (stand_at i) (setting i) [])))

    abbrev pub leg_at : ℕ → Leg
    leg_at i = leg_of (again (stand_at i) (setting i) [])

    abbrev pub Ends : ℕ → Type 0
    Ends i = (leg_at i).ending ≡ UnderWay → ⊥

    -- the moves made before leg i
    unfoldable pub moves_to : ℕ → ℕ
    moves_to zero = 0
    moves_to (suc i) = moves_to i + length (leg_at i).trail

    pub record LegsKeep : Type 0 where
      pub accepted_again : (i : ℕ) (trail : List ℕ) → (setting i).limit ≤ length trail → leg_refusal (again (stand_at i) (setting i) trail) ≡ 0
      pub no_estimate_falls : (i x : ℕ) → x < cells r.floor → value_at (stand_at i).est x ≤ value_at (stand_at (suc i)).est x
      pub none_passes_a_route : (i x n : ℕ) → RouteFrom x n → value_at (stand_at i).est x ≤ n
      pub moves_raise_the_sum : (i : ℕ) → sum_at r.stand + moves_to i ≤ sum_at (stand_at i)
      pub moves_bounded : (i : ℕ) → moves_to i ≤ square
      pub each_moves : (i : ℕ) → (leg_at i).ending ≡ UnderWay → 0 < length (leg_at i).trail
      pub one_ends : (i : ℕ) × (i ≤ square) × Ends i
      pub arrives : (i : ℕ) → Ends i → ((leg_at i).ending ≡ Arrived) ↔ HasRoute
      pub is_cut_off : (i : ℕ) → Ends i → ((leg_at i).ending ≡ CutOff) ↔ (HasRoute → ⊥)

  -- of a walk with an allowance, by its ending, its moves and what it leaves
  pub record WalkKeeps (allowance : ℕ) (ending : Ending) (moves : ℕ) (s : Stand) : Type 0 where
    pub no_estimate_falls : (x : ℕ) → x < cells r.floor → value_at r.stand.est x ≤ value_at s.est x
    pub none_passes_a_route : (x n : ℕ) → RouteFrom x n → value_at s.est x ≤ n
    pub moves_raise_the_sum : sum_at r.stand + moves ≤ sum_at s
    pub moves_bounded : (moves ≤ allowance) × (moves ≤ square)
    pub never_spent : square ≤ allowance → ending ≡ Spent → ⊥
    pub arrives : square ≤ allowance → (ending ≡ Arrived) ↔ HasRoute
    pub is_cut_off : square ≤ allowance → (ending ≡ CutOff) ↔ (HasRoute → ⊥)

pub record Demand3 : Type 0 where
  pub legs : (r : Request) → leg_refusal r ≡ 0 → (gain : ℕ → ℕ → Bool) (setting : ℕ → Setting)
      → ((i : ℕ) → Lawful r gain setting i) → LegsKeep r gain setting
  pub walks : (r : Request) (allowance : ℕ) → walk_refusal allowance r ≡ 0
      → let w = walk_of allowance r in WalkKeeps r allowance w.ending (length (trail_of w.legs)) w.stand
  pub prepared_are_sound : (f : Floor) (known : ℕ → Bool) (goal : ℕ) → sizes_ok f ≡ true → goal < cells f
      → sound f known (value_at (prepared f goal)) goal ≡ true
