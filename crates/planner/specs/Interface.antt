-- What a call of each function of the C interface promises, by document 01's definitions: the answer, 0 or the refusal's number, and what
-- each list that was lent to be written holds afterwards.
use Rattle.std.specs.Prelude.{ℕ, length}
use mathlib.Core.{Path.◌≡◌, List.List, List.[], List.◌∷◌}
use Rattle.floor.specs.{declared.Floor.Floor, Floor.manhattan, Floor.value_at, Floor.if_accepted, Floor.prepare_refusal, Floor.prepared, Floor.required_refusal}
use Rattle.rules.specs.declared.Trip.{Trip}
use Rattle.rules.specs.Request.{Request, leg_refusal, Outcome, leg_of, leg_outcome, walk_outcome}
use Rattle.rules.specs.Record.{write_refusal, written, count_refusal, counted, read_refusal, read_trip}
use Rattle.host.specs.{declared.Cart.Cart, Host.capped, Host.searched}

-- the floor of a width and a height
abbrev pub sized : ℕ → ℕ → Floor
sized width height = record { width = width; height = height }

-- what a leg or a walk is given
abbrev pub asked : Floor → List ℕ → List ℕ → List ℕ → ℕ → ℕ → ℕ → ℕ → List ℕ → Request
asked floor plan known est cart goal lookahead limit trail =
    record {
      floor = floor;
      plan = plan;
      stand = record { known = known; est = est; cell = cart };
      goal = goal;
      setting = record { look = lookahead; limit = limit };
      trail = trail;
    }

-- wexlund_prepare
pub record PrepareCall (f : Floor) (goal : ℕ) (est : List ℕ) (answer : ℕ) (est' : List ℕ) : Type 0 where
  pub answers : answer ≡ prepare_refusal f goal est
  pub writes : est' ≡ if_accepted (prepare_refusal f goal est) (prepared f goal) est

-- wexlund_leg; the result: ending, cell, moves, opened
pub record LegCall (r : Request) (answer : ℕ) (result known est trail : List ℕ) : Type 0 where
  pub gives : ◌≡◌ {A = Outcome} (record { refused = answer; numbers = result; known = known; est = est; trail = trail }) (leg_outcome r)

-- wexlund_walk; the result: ending, cell, moves, legs, opened
pub record WalkCall (allowance : ℕ) (r : Request) (answer : ℕ) (result known est trail : List ℕ) : Type 0 where
  pub gives : ◌≡◌ {A = Outcome} (record { refused = answer; numbers = result; known = known; est = est; trail = trail }) (walk_outcome allowance r)

-- the record that the host lends, as four numbers: cell, moves, opened, legs
unfoldable pub four_of : Cart → List ℕ
four_of cart = cart.cell ∷ cart.moves ∷ cart.opened ∷ cart.legs ∷ []

-- these four after a leg: the new cell, and the running totals with the leg's moves, its cells opened and itself where it searched. A
-- refusal leaves them as they were
unfoldable pub booked : List ℕ → Request → List ℕ
booked cart r =
    let l = leg_of r in
    let total : ℕ → ℕ → ℕ = λ i more. capped (value_at cart i) more in
    let searching = searched r.stand.cell r.goal in
    if_accepted (leg_refusal r) (l.cell ∷ total 1 (length l.trail) ∷ total 2 l.opened ∷ total 3 searching ∷ []) cart

-- wexlund_host_leg, as a leg from the record's cell
pub record HostLegCall (cart : List ℕ) (r : Request) (answer : ℕ) (result known est trail cart' : List ℕ) : Type 0 where
  pub leg : LegCall r answer result known est trail
  pub books : cart' ≡ booked cart r

-- wexlund_required
pub record RequiredCall (f : Floor) (start goal answer : ℕ) (result : List ℕ) : Type 0 where
  pub answers : answer ≡ required_refusal f start goal
  pub tells : result ≡ if_accepted (required_refusal f start goal) (manhattan f start goal) 0 ∷ []

-- wexlund_record_write
pub record WriteCall (trip : Trip) (room : List ℕ) (answer : ℕ) (room' : List ℕ) : Type 0 where
  pub answers : answer ≡ write_refusal trip room
  pub writes : room' ≡ written trip room

-- wexlund_record_count
pub record CountCall (bytes : List ℕ) (answer : ℕ) (result : List ℕ) : Type 0 where
  pub answers : answer ≡ count_refusal bytes
  pub tells : result ≡ counted bytes ∷ []

-- a record's values, in the layout's order
unfoldable pub values : Trip → List ℕ
values t =
    t.serial ∷ t.cart ∷ t.start ∷ t.goal ∷ t.ending ∷ t.last ∷ t.moves ∷ t.required ∷ t.look ∷ t.limit ∷ []

-- wexlund_record_read; with a refusal every value is 0
pub record ReadCall (bytes : List ℕ) (number answer : ℕ) (result : List ℕ) : Type 0 where
  pub answers : answer ≡ read_refusal bytes number
  pub tells : result ≡ values (read_trip bytes number)
