-- What the host's leg makes of a turn: each answer that its promise allows is what the definition of a turn says.
use Prim.Native.Nat.{ℕ, zero, suc, ◌-◌, min}
use mathlib.Core.Path.{◌≡◌, ◌∙◌, refl, sym, ap}
use mathlib.Core.List.{List, ◌++◌, ◌∷◌}
use native.Mathlib.Omega.{arith}
use lib.ListN.{length, take, drop, replicate, take-append-drop}
use borrow.Author.Tests.{ne_eqb}
use Rattle.floor.specs.declared.MoveLimit.{MoveLimit}
use Rattle.floor.specs.declared.Ending.{Ending, TheVariants.Arrived, TheVariants.CutOff, TheVariants.Spent, TheVariants.UnderWay}
use Rattle.floor.specs.Floor.{tabulate}
use Rattle.floor.proofs.Boards.{length-tabulate}
use Rattle.rules.specs.Leg.{Leg, left}
use Rattle.rules.specs.Request.{Request, outcome, leg_refusal, leg_of, leg_outcome}
use Rattle.theory.proofs.Outcomes.{alike}
use Rattle.refusals.specs.Given.{given}
use Rattle.leg.specs.declared.LegDone.{LegDone}
use Rattle.std.specs.Borrow.{Bor}
use Rattle.std.specs.Result.{IsErr, IsErrAnd}
use Rattle.std.specs.Prelude.{Result, Ok, Err}
use Rattle.floor.specs.Floor.{number}
use Rattle.refusals.specs.declared.{Refused.Refused, Task.Task}
use Rattle.refusals.specs.Answers.{refused_by, told}
use Rattle.leg.specs.Promise.{numbers, LegPromise}
use Rattle.leg.proofs.Telling.{result_of}
use Rattle.leg.proofs.Unique.{leg_unique}
use Rattle.host.specs.declared.{Cart.Cart, Hosted.Hosted}
use Rattle.host.specs.Host.{searched, booked, HostPromise}
use Rattle.trip_text.specs.declared.Errand.{Errand}
use Rattle.trip_text.specs.Heard.{fronted}
use Rattle.printer.specs.declared.Next.{Next}
use Rattle.printer.specs.declared.Turn.TheVariants.{Onward}
use Rattle.printer.specs.Turns.{Turned, leg_asked, counted, after_leg, refused, leg_made, onward}
use Rattle.printer.specs.Parts.{with_maps, told_of, said_by, LegDue}
use Rattle.printer.proofs.Cases.{leg_turn, a_leg}

-- a trail of zeros
pub zeros : (n : ℕ) → replicate n 0 ≡ tabulate n (λ x. 0)
unfolding tabulate
zeros zero = refl
zeros (suc n) = ap (λ (l : List ℕ). 0 ∷ l) (zeros n)

-- ---- what an answer is

-- an answer that a `?` gives back
pub is_err : {A E : Type 0} (r : Result A E) (u : E) → IsErr r × IsErrAnd r (λ v. v ≡ u) → r ≡ Err u
is_err (Ok a) u h = absurd (cc)
is_err (Err e) u h = ap Err h.1

-- accepted: the rules' leg, and what it leaves
accepted_is : (r : Request) → leg_refusal r ≡ 0
    → let l = leg_of r in LegPromise r (Ok (result_of l)) (left r.floor l).known (left r.floor l).est (l.trail ++ drop (length l.trail) r.trail)
unfolding leg_outcome outcome refused_by told numbers result_of
accepted_is r ok = record { gives = rw ok }

-- refused: the refusal's number, and the maps as they were
refused_is : (r : Request) (n : ℕ) → leg_refusal r ≡ suc n
    → let o = leg_outcome r in (o.refused ≡ suc n) × (o.known ≡ r.stand.known) × (o.est ≡ r.stand.est)
unfolding leg_outcome outcome
refused_is r n not = (rw not refl, rw not refl, rw not refl)

-- ---- what a turn makes of it

-- with the maps put back, the line that tells a result, or a refusal, is the definition's
pub record Hosting (e : Errand) (cart : Cart) (n : ℕ) (plan known est : List ℕ) (h : Hosted) (ys zs : List ℕ) : Type 0 where
  pub leg : (d : LegDone) (next : Next) → h.answer ≡ Ok d → next ≡ told_of e h.cart d
      → with_maps next (ys ++ drop n known) (zs ++ drop n est) ≡ onward e cart plan known est
  pub refusal : (r : Refused) → h.answer ≡ Err r → with_maps (said_by (Err r.refusal)) (ys ++ drop n known) (zs ++ drop n est) ≡ onward e cart plan known est

module _ (e : Errand) (cart : Cart) (n : ℕ) (plan known est : List ℕ) (due : LegDue e cart n) where
  abbrev asked : Request
  asked = leg_asked e cart plan known est

  -- what is made of the host's answer, with the maps put back
  made : Result LegDone Refused → List ℕ → List ℕ → Turned
  made (Ok d) ys zs = with_maps (told_of e (booked cart e.goal (Ok d)) d) (ys ++ drop n known) (zs ++ drop n est)
  made (Err r) ys zs = refused (number r.refusal) (ys ++ drop n known) (zs ++ drop n est)

  -- off the goal a leg searches
  counts : (l : Leg) → booked cart e.goal (Ok (result_of l)) ≡ counted cart l
  unfolding booked counted result_of searched
  counts l = let one : searched cart.cell e.goal ≡ 1 = rw (ne_eqb _ _ due.off, searched) in rw one

  made_is : (k : ℕ) → leg_refusal asked ≡ k → (a : Result LegDone Refused) (ys zs ts : List ℕ) → LegPromise asked a ys zs ts → made a ys zs ≡ leg_turn e cart plan known est k
  unfolding made leg_turn leg_made told_of fronted result_of leg_asked left refused_by
  made_is zero ok a ys zs ts p =
      let same = leg_unique p (accepted_is asked ok) in
      rw (same.0, same.1, same.2, counts (leg_of asked), due.long, length-tabulate, length-tabulate)
  made_is (suc k) not (Ok d) ys zs ts p = absurd (let s = (alike p.gives).refused ∙ (refused_is asked k not).0 in omega (arith, s))
  made_is (suc k) not (Err r) ys zs ts p =
      let s = alike p.gives in
      let o = refused_is asked k not in
      rw (s.refused ∙ o.0, s.known ∙ o.1, s.est ∙ o.2, ← due.long, take-append-drop, take-append-drop)

  module _ (most : MoveLimit) (least : most.0 ≡ min e.setting.limit.0 (e.allowance - cart.moves)) (lent : Bor (List ℕ)) (front : lent.now ≡ take n plan)
      (trail : List ℕ) (empty : trail ≡ tabulate 4096 (λ x. 0)) (h : Hosted) (ys zs ts : List ℕ) where
    abbrev task : Task
    task = record { floor = e.floor; plan = lent; goal = e.goal; setting = record { look = e.setting.look; limit = most } }

    asked_is : given task (take n known) (take n est) cart.cell trail ≡ asked
    unfolding given leg_asked
    asked_is = rw (least, empty, front, due.long)

    module _ (p : HostPromise cart (given task (take n known) (take n est) cart.cell trail) h ys zs ts) where
      hosted : made h.answer ys zs ≡ onward e cart plan known est
      hosted = made_is (leg_refusal asked) refl h.answer ys zs ts (rw asked_is at p.leg) ∙ sym (a_leg e cart plan known est due.off due.some)

      pub hosting : Hosting e cart n plan known est h ys zs
      unfolding made given said_by refused
      hosting = record {
        leg = λ d next is says. rw (says, p.books, is) (rw is at hosted);
        refusal = λ r is. rw is at hosted;
      }

-- ---- what a leg's line is

-- after a leg that was not cut off comes the next
pub not_cut : (e : Errand) (after : Cart) (ending : Ending) → (ending ≡ CutOff → ⊥) → after_leg e after ending ≡ Onward e after
unfolding after_leg
not_cut e after Arrived other = refl
not_cut e after CutOff other = absurd (other refl)
not_cut e after Spent other = refl
not_cut e after UnderWay other = refl
