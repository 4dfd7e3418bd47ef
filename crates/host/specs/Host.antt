-- Document 01, "One leg": the cart record that the host lends, and the running totals in it.
use Rattle.std.specs.Prelude.{ℕ, ◌+◌, min, eqb, Result, Ok, Err}
use mathlib.Core.{Path.◌≡◌, Bool.true, Bool.false, List.List}
use Rattle.rules.specs.Request.{Request}
use Rattle.refusals.specs.declared.Refused.{Refused}
use Rattle.leg.specs.declared.LegDone.{LegDone}
use Rattle.leg.specs.Promise.{LegPromise}
use Rattle.host.specs.declared.{Cart.Cart, Hosted.Hosted}

-- running totals that would pass 4,294,967,295 stay there
unfoldable pub capped : ℕ → ℕ → ℕ
capped total more = min (total + more) 4294967295

-- what a leg adds to the legs that searched: on the goal it does not search
unfoldable pub searched : ℕ → ℕ → ℕ
searched cell goal = elim (eqb cell goal) [ true ↦ 0 | false ↦ 1 ]

-- the record after a leg: the new cell, and the totals with the leg's moves, its cells opened and itself, a cut-off leg too. A refusal
-- leaves the record as it was
unfoldable pub booked : Cart → ℕ → Result LegDone Refused → Cart
booked cart goal (Ok leg) = record {
  cell = leg.cell;
  moves = capped cart.moves leg.moves;
  opened = capped cart.opened leg.opened;
  legs = capped cart.legs (searched cart.cell goal);
}
booked cart goal (Err r) = cart

-- the host entry promises what a leg does, and the record after it
pub record HostPromise (cart : Cart) (r : Request) (h : Hosted) (known est trail : List ℕ) : Type 0 where
  pub leg : LegPromise r h.answer known est trail
  pub books : h.cart ≡ booked cart r.goal h.answer
