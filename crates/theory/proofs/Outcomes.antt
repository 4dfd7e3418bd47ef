-- What entries answer: a refusal's outcome, and that an outcome, and the number of an ending, are told apart by their parts.
use Prim.Native.Nat.{ℕ, zero, suc}
use mathlib.Core.Path.{◌≡◌, refl, ap}
use mathlib.Core.List.{List, ◌∷◌, map}
use lib.ListN.{drop}
use Rattle.floor.specs.declared.Ending.{Ending, TheVariants.Arrived, TheVariants.CutOff, TheVariants.Spent, TheVariants.UnderWay}
use Rattle.rules.specs.Leg.{Stand}
use Rattle.rules.specs.Request.{Request, number_of, Outcome, outcome}

-- a refusal returns its number, the cart as given and 0 for every other number, and changes nothing
pub refused_outcome : (r : Request) (n : ℕ) → (n ≡ 0 → ⊥) → (answer : List ℕ) (s : Stand) (made : List ℕ)
    → ◌≡◌ {A = Outcome} (record {
      refused = n;
      numbers = 0 ∷ r.stand.cell ∷ map (λ x. 0) (drop 2 answer);
      known = r.stand.known;
      est = r.stand.est;
      trail = r.trail;
    }) (outcome r n answer s made)
unfolding outcome
refused_outcome r zero some answer s made = absurd (some refl)
refused_outcome r (suc n) some answer s made = refl

-- the parts of outcomes that are equal
pub record Alike (o p : Outcome) : Type 0 where
  pub refused : o.refused ≡ p.refused
  pub numbers : o.numbers ≡ p.numbers
  pub known : o.known ≡ p.known
  pub est : o.est ≡ p.est
  pub trail : o.trail ≡ p.trail

pub alike : {o p : Outcome} → o ≡ p → Alike o p
alike e = record {
  refused = ap (λ (o : Outcome). o.refused) e;
  numbers = ap (λ (o : Outcome). o.numbers) e;
  known = ap (λ (o : Outcome). o.known) e;
  est = ap (λ (o : Outcome). o.est) e;
  trail = ap (λ (o : Outcome). o.trail) e;
}

-- what the first number of an answer stands for: a refusal, where it is 0, or the result with the ending that it is the number of
unfoldable pub stands_for : {A : Type 0} → A → (Ending → A) → ℕ → A
stands_for refused done zero = refused
stands_for refused done (suc zero) = done Arrived
stands_for refused done (suc (suc zero)) = done CutOff
stands_for refused done (suc (suc (suc zero))) = done Spent
stands_for refused done (suc (suc (suc (suc n)))) = done UnderWay

pub stands_for_ending : {A : Type 0} (refused : A) (done : Ending → A) (e : Ending) → stands_for refused done (number_of e) ≡ done e
unfolding stands_for number_of
stands_for_ending refused done Arrived = refl
stands_for_ending refused done CutOff = refl
stands_for_ending refused done Spent = refl
stands_for_ending refused done UnderWay = refl
