-- The host's record as four numbers: what a leg makes of the four.
use Prim.Native.Nat.{ℕ, zero, suc}
use mathlib.Core.Path.{◌≡◌, ◌∙◌, refl, sym, ap}
use mathlib.Core.List.{List, [], ◌∷◌}
use native.Mathlib.Omega.{arith}
use lib.ListN.{length, get_or}
use Rattle.floor.specs.declared.Ending.{Ending, TheVariants.Arrived, TheVariants.CutOff, TheVariants.Spent, TheVariants.UnderWay}
use Rattle.floor.specs.Floor.{value_at}
use Rattle.floor.proofs.Refusing.{refused_left, accepted_left}
use Rattle.rules.specs.Leg.{Stand}
use Rattle.rules.specs.Request.{Request, number_of, leg_refusal, outcome, leg_of, leg_outcome}
use Rattle.theory.proofs.Outcomes.{alike}
use Rattle.std.specs.Prelude.{Result, Ok, Err}
use Rattle.refusals.specs.{declared.Refused.Refused, Answers.refused_by, Answers.told}
use Rattle.leg.specs.declared.LegDone.{LegDone}
use Rattle.leg.specs.Promise.{numbers}
use Rattle.host.specs.declared.{Cart.Cart, Hosted.Hosted}
use Rattle.host.specs.Host as host
use Rattle.planner.specs.Interface.{four_of, booked, HostLegCall}

-- 0 is no ending's number
numbered : (e : Ending) → number_of e ≡ 0 → ⊥
unfolding number_of
numbered Arrived z = omega arith
numbered CutOff z = omega arith
numbered Spent z = omega arith
numbered UnderWay z = omega arith

-- what a leg answers is its refusal or 0, and where it is 0 the leg's numbers
outcome_refused : (r : Request) (n : ℕ) (answer : List ℕ) (s : Stand) (made : List ℕ) → (outcome r n answer s made).refused ≡ n
unfolding outcome
outcome_refused r zero answer s made = refl
outcome_refused r (suc n) answer s made = refl

refusal_told : (r : Request) → (leg_outcome r).refused ≡ leg_refusal r
unfolding leg_outcome
refusal_told r = outcome_refused r (leg_refusal r) _ _ _

leg_told : (r : Request) → leg_refusal r ≡ 0
    → (leg_outcome r).numbers ≡ number_of (leg_of r).ending ∷ (leg_of r).cell ∷ length (leg_of r).trail ∷ (leg_of r).opened ∷ []
unfolding leg_outcome outcome
leg_told r e = rw e refl

-- the record that the entry makes is, in four numbers, the one that the leg's request makes
four_booked : (cart : Cart) (r : Request) (a : Result LegDone Refused) → r.stand.cell ≡ cart.cell → refused_by a ≡ (leg_outcome r).refused → told numbers 2 a ≡ (leg_outcome r).numbers
    → four_of (host.booked cart r.goal a) ≡ booked (four_of cart) r
unfolding four_of host.booked booked refused_by told numbers value_at
four_booked cart r (Ok d) at refused same_numbers =
    let accepted : leg_refusal r ≡ 0 = sym (refused ∙ refusal_told r) in
    let same = same_numbers ∙ leg_told r accepted in
    let cell : d.cell ≡ (leg_of r).cell = cc in
    let moves : d.moves ≡ length (leg_of r).trail = cc in
    let opened : d.opened ≡ (leg_of r).opened = cc in
    rw (accepted_left accepted _ _, cell, moves, opened, at) refl
four_booked cart r (Err e) at refused same_numbers =
    let some : leg_refusal r ≡ 0 → ⊥ = λ z. let same = same_numbers ∙ leg_told r z in numbered (leg_of r).ending (cc) in
    sym (refused_left some _ _)

pub host_told : (cart : Cart) (r : Request) (h : Hosted) {known est trail : List ℕ} → r.stand.cell ≡ cart.cell → host.HostPromise cart r h known est trail
    → HostLegCall (four_of cart) r (refused_by h.answer) (told numbers 2 h.answer) known est trail (four_of h.cart)
host_told cart r h at p =
    let same = alike p.leg.gives in
    record {
      leg = record { gives = p.leg.gives };
      books = ap four_of p.books ∙ four_booked cart r h.answer at same.refused same.numbers;
    }
