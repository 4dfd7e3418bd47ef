-- Demand 3 for legs in a row from an accepted request, with any allowed settings and lawful gains of the known map between them.
use Prim.Native.Nat.{ℕ, zero, suc, ◌+◌, ◌≤◌, ◌<◌}
use mathlib.Core.Path.{◌≡◌, refl, subst}
use mathlib.Core.Logic.{◌⊎◌, inl, inr, ◌↔◌}
use mathlib.Core.Bool.{Bool, true}
use mathlib.Core.List.{List}
use native.Mathlib.Omega.{arith}
use native.Mathlib.Nat.{add-zero}
use lib.ListN.{length}
use Rattle.floor.specs.declared.Floor.{Floor}
use Rattle.floor.specs.Floor.{blocked, value_at}
use Rattle.floor.proofs.Tools.{below_suc}
use Rattle.rules.specs.Sound.{Route}
use Rattle.rules.specs.Leg.{Leg, Stand, Setting}
use Rattle.floor.specs.declared.Ending.{Ending}
use Rattle.floor.specs.declared.Ending.TheVariants.{Arrived, CutOff, Spent, UnderWay}
use Rattle.rules.specs.Request.{Request, setting_ok, leg_refusal, leg_of}
use Rattle.theory.specs.Promise.{square, again, Lawful, stand_at, leg_at, Ends, moves_to, LegsKeep}
use Rattle.theory.proofs.Soundness.{Within, within_facts}
use Rattle.theory.proofs.Routes.{joined, turned, admissible}
use Rattle.theory.proofs.Legs.{Ended, Fair}
use Rattle.theory.proofs.Accepts.{Accepted, not_refused}
use Rattle.theory.proofs.Courses.{Set, allowed, Course, fair, by_leg, by_gain, both_runs, bounded, Formed, left_formed, gained_formed}

pub start_ready : (moves : ℕ) (r : Request) → Accepted moves r → Set r.floor (blocked r.plan) r.goal r.stand
start_ready moves r a = record { inside = a.inside; aim = a.aim; free = a.free; within = a.within; sound = a.sound }

-- after an accepted request, a leg is accepted from any stand that is ready and well formed, with allowed settings and a trail for them
pub accepted_still : (moves : ℕ) (r : Request) → Accepted moves r → (s : Stand) → Set r.floor (blocked r.plan) r.goal s → Formed r.floor s
    → (k : Setting) → setting_ok k ≡ true → (trail : List ℕ) → k.limit ≤ length trail → leg_refusal (again r s k trail) ≡ 0
unfolding leg_refusal again
accepted_still moves r a s h m k ok trail room = not_refused k.limit (again r s k trail) (record {
  sized = a.sized;
  plan_long = a.plan_long;
  known_long = m.known_long;
  est_long = m.est_long;
  inside = h.inside;
  aim = h.aim;
  setting = ok;
  room = room;
  plan_bytes = a.plan_bytes;
  known_bytes = m.bytes;
  within = h.within;
  free = h.free;
  sound = h.sound;
})

-- ---- what an ending says of open routes

-- arrived and there is an open route, or cut off and there is none
abbrev pub Settled : Floor → (ℕ → Bool) → ℕ → ℕ → Ending → Type 0
Settled f plan goal cart e =
    ((e ≡ Arrived) × ((n : ℕ) × Route f plan goal cart n)) ⊎ ((e ≡ CutOff) × ((n : ℕ) × Route f plan goal cart n → ⊥))

two_ends : {e : Ending} → e ≡ Arrived → e ≡ CutOff → ⊥
two_ends p q = let z : ◌≡◌ {A = ℕ} 0 1 = cc in omega arith

module _ {f : Floor} {plan : ℕ → Bool} {goal cart : ℕ} {e : Ending} where
  pub settled_arrives : Settled f plan goal cart e → (e ≡ Arrived) ↔ ((n : ℕ) × Route f plan goal cart n)
  settled_arrives (inl q) = (λ p. q.1, λ w. q.0)
  settled_arrives (inr q) = (λ p. absurd (two_ends p q.0), λ w. absurd (q.1 w))

  pub settled_cut : Settled f plan goal cart e → (e ≡ CutOff) ↔ ((n : ℕ) × Route f plan goal cart n → ⊥)
  settled_cut (inl q) = (λ p. absurd (two_ends q.0 p), λ n. absurd (n q.1))
  settled_cut (inr q) = (λ p. q.1, λ n. q.0)

-- a leg that ends something, after a way from `first` to the cart, settles whether there is an open route from `first`
settles : {f : Floor} {plan : ℕ → Bool} {goal first cart cell m : ℕ} → Route f plan cart first m → (k : ℕ) → Route f plan cell cart k
    → (e : Ending) → Ended f plan goal cart cell k e → (e ≡ UnderWay → ⊥) → Settled f plan goal first e
settles {f} {plan} {goal} {first} {m = m} w k v Arrived h n =
    inl (refl, (m + k, subst (λ (x : ℕ). Route f plan x first (m + k)) h (joined w v)))
settles w k v CutOff h n = inr (refl, λ q. h _ (joined (turned w) q.1))
settles w k v Spent h n = absurd h
settles w k v UnderWay h n = absurd (n refl)

pub under_way : (e : Ending) → (e ≡ UnderWay) ⊎ (e ≡ UnderWay → ⊥)
under_way Arrived = inr (λ e. let z : ◌≡◌ {A = ℕ} 0 1 = cc in omega arith)
under_way CutOff = inr (λ e. let z : ◌≡◌ {A = ℕ} 0 1 = cc in omega arith)
under_way Spent = inr (λ e. let z : ◌≡◌ {A = ℕ} 0 1 = cc in omega arith)
under_way UnderWay = inl refl

-- ---- the sequence

module _ (r : Request) (gain : ℕ → ℕ → Bool) (setting : ℕ → Setting) where
  open r use {floor as f, goal}

  abbrev plan : ℕ → Bool
  plan = blocked r.plan

  abbrev at : ℕ → Stand
  at = stand_at r gain setting

  abbrev leg : ℕ → Leg
  leg = leg_at r gain setting

  abbrev made : ℕ → ℕ
  made = moves_to r gain setting

  module _ (a : Accepted r.setting.limit r) (lawful : (i : ℕ) → Lawful r gain setting i) where
    may_gain : (i : ℕ) → Within f (gain i) plan
    may_gain i = within_facts f (gain i) plan (lawful i).1

    leg_fair_at : (i : ℕ) → Set f plan goal (at i)
        → let s = at i in Fair f plan goal (blocked s.known) (value_at s.est) s.cell (leg i)
    unfolding leg_of again
    leg_fair_at i h = fair f plan goal (setting i) (at i) h (allowed (setting i) (lawful i).0)

    turn : (i : ℕ) → Set f plan goal (at i)
        → Course f plan goal (at i) (at (suc i)) (length (leg i).trail)
    unfolding stand_at
    turn i h =
        let c = by_leg f plan goal (at i) (leg i) (leg_fair_at i h) in
        rw add-zero at (both_runs f plan goal c (by_gain f plan goal (gain (suc i)) _ (may_gain (suc i)) c.ready))

    run : (i : ℕ) → Course f plan goal r.stand (at i) (made i)
    unfolding stand_at moves_to
    run zero = by_gain f plan goal (gain 0) r.stand (may_gain 0) (start_ready r.setting.limit r a)
    run (suc i) = let c = run i in both_runs f plan goal c (turn i c.ready)

    formed : (i : ℕ) → Formed f (at i)
    unfolding stand_at
    formed zero = gained_formed f (gain 0) r.stand a.est_long
    formed (suc i) = gained_formed f (gain (suc i)) _ (left_formed f (leg i)).est_long

    accepts : (i : ℕ) (trail : List ℕ) → (setting i).limit ≤ length trail → leg_refusal (again r (at i) (setting i) trail) ≡ 0
    accepts i trail room = accepted_still r.setting.limit r a (at i) (run i).ready (formed i) (setting i) (lawful i).0 trail room

    moves : (i : ℕ) → (leg i).ending ≡ UnderWay → 0 < length (leg i).trail
    moves i e = subst (Ended _ _ _ _ _ _) e (leg_fair_at i (run i).ready).ends

    settled : (i : ℕ) → Ends r gain setting i → Settled f plan goal r.stand.cell (leg i).ending
    settled i n = let h = leg_fair_at i (run i).ready in settles (run i).way _ h.way _ h.ends n

    -- as long as every leg is under way there are as many moves as legs, so some leg ends it
    many : (k : ℕ) → ((i : ℕ) → i < k → (leg i).ending ≡ UnderWay) → k ≤ made k
    unfolding moves_to
    many zero u = omega arith
    many (suc k) u = omega (arith, many k (λ i lt. u i (omega arith)), moves k (u k (omega arith)))

    ends_by : (k : ℕ) → ((i : ℕ) × (i < k) × Ends r gain setting i) ⊎ ((i : ℕ) → i < k → (leg i).ending ≡ UnderWay)
    ends_by zero = inr (λ i lt. absurd (omega arith))
    ends_by (suc k) = elim (ends_by k) [
      | inl q ↦ inl (q.0, omega (arith, q.1), q.2)
      | inr all ↦ elim (under_way (leg k).ending) [
        | inl u ↦ inr (below_suc (λ i. (leg i).ending ≡ UnderWay) k all u)
        | inr n ↦ inl (k, omega arith, n)
      ]
    ]

    one_ends : (i : ℕ) × (i ≤ square r) × Ends r gain setting i
    one_ends = elim (ends_by (suc (square r))) [
      | inl q ↦ (q.0, omega (arith, q.1), q.2)
      | inr all ↦ absurd (omega (arith, many (suc (square r)) all, bounded f plan goal (run (suc (square r)))))
    ]

    pub legs_keep : LegsKeep r gain setting
    legs_keep = record {
      accepted_again = accepts;
      no_estimate_falls = λ i. (turn i (run i).ready).rises;
      none_passes_a_route = λ i x n w. let h = (run i).ready in admissible h.sound h.within w;
      moves_raise_the_sum = λ i. (run i).climb;
      moves_bounded = λ i. bounded f plan goal (run i);
      each_moves = moves;
      one_ends = one_ends;
      arrives = λ i n. settled_arrives (settled i n);
      is_cut_off = λ i n. settled_cut (settled i n);
    }
