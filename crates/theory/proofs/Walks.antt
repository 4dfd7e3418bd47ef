-- A walk: its legs are a course, it keeps to its allowance, and its ending is right; with (N-1) squared moves it is never spent.
use Prim.Native.Nat.{ℕ, zero, suc, ◌+◌, ◌-◌, ◌*◌, min, ◌≤◌, ◌<◌}
use mathlib.Core.Path.{◌≡◌, refl, sym, subst}
use mathlib.Core.Logic.{inl, inr}
use mathlib.Core.Bool.{Bool, true, false}
use native.Mathlib.Omega.{arith}
use lib.Dec.{eqb}
use lib.ListN.{length, length-append}
use borrow.Author.Tests.{eqb-true, eqb-false}
use Rattle.floor.specs.declared.Floor.{Floor}
use Rattle.floor.specs.Floor.{up_to, cells, blocked, value_at}
use Rattle.floor.proofs.Tools.{and_1, and_2}
use Rattle.floor.proofs.Geometry.{up_most, within_up_to}
use Rattle.rules.specs.Sound.{Route}
use Rattle.rules.specs.Leg.{ours, Leg, Stand, Setting, leg_from, left}
use Rattle.floor.specs.declared.Ending.{Ending}
use Rattle.floor.specs.declared.Ending.TheVariants.{Arrived, CutOff, Spent, UnderWay}
use Rattle.rules.specs.Walk.{Walk, trail_of, opened_in, standing, onward, after_leg, capped, walking, walk}
use Rattle.rules.specs.Request.{Request, setting_ok, walk_of}
use Rattle.theory.specs.Promise.{square, WalkKeeps}
use Rattle.theory.proofs.Soundness.{NoRoute}
use Rattle.theory.proofs.Routes.{joined, turned, admissible}
use Rattle.theory.proofs.Sums.{others_off_goal}
use Rattle.theory.proofs.Legs.{Ended, Fair, leg_short, leg_opened}
use Rattle.theory.proofs.Accepts.{Accepted}
use Rattle.theory.proofs.Courses.{Set, Some, allowed, Course, fair, at_rest, by_leg, both_runs, bounded}
use Rattle.theory.proofs.Sequences.{start_ready, Settled, settled_arrives, settled_cut}

-- what an ending says of a walk that had `room` moves
abbrev pub Over : Floor → (ℕ → Bool) → ℕ → ℕ → ℕ → ℕ → ℕ → Ending → Type 0
Over f plan goal cart room cell moves Arrived = cell ≡ goal
Over f plan goal cart room cell moves CutOff = NoRoute f plan goal cart
Over f plan goal cart room cell moves Spent = (moves ≡ room) × (cell ≡ goal → ⊥)
Over f plan goal cart room cell moves UnderWay = ⊥

pub record Strolled (look : ℕ) (f : Floor) (plan : ℕ → Bool) (goal : ℕ) (s : Stand) (room : ℕ) (w : Walk) : Type 0 where
  pub run : Course f plan goal s w.stand (length (trail_of w.legs))
  pub keeps : length (trail_of w.legs) ≤ room
  pub over : Over f plan goal s.cell room w.stand.cell (length (trail_of w.legs)) w.ending
  -- so the totals fit their widths
  pub few : length w.legs ≤ length (trail_of w.legs) + 1
  pub scant : opened_in w.legs ≤ length w.legs * look

module _ (k : Setting) (f : Floor) (plan : ℕ → Bool) (goal : ℕ) where
  rests : (e : Ending) (s : Stand) (room : ℕ) → Set f plan goal s → Over f plan goal s.cell room s.cell 0 e
      → Strolled k.look f plan goal s room (standing e s)
  unfolding standing trail_of opened_in
  rests e s room r o = record { run = at_rest f plan goal s r; keeps = omega arith; over = o; few = omega arith; scant = omega arith }

  -- what is over after a leg is over from its start
  carried : (s : Stand) (room : ℕ) (l : Leg) (w : Walk) → Route f plan l.cell s.cell (length l.trail) → length l.trail ≤ room
      → (e : Ending) → Over f plan goal l.cell (room - length l.trail) w.stand.cell (length (trail_of w.legs)) e
      → Over f plan goal s.cell room w.stand.cell (length l.trail + length (trail_of w.legs)) e
  carried s room l w v le Arrived o = o
  carried s room l w v le CutOff o = λ n q. o _ (joined (turned v) q)
  carried s room l w v le Spent o = (omega (arith, o.0), o.1)
  carried s room l w v le UnderWay o = o

  goes_on : (s : Stand) (room : ℕ) (l : Leg) (w : Walk) → Fair f plan goal (blocked s.known) (value_at s.est) s.cell l
      → length l.trail ≤ room → l.opened ≤ k.look → Strolled k.look f plan goal (left f l) (room - length l.trail) w
      → length w.legs ≤ length l.trail + length (trail_of w.legs) → Strolled k.look f plan goal s room (onward l w)
  unfolding onward left trail_of opened_in
  goes_on s room l w h le op r few = record {
    run = rw length-append (both_runs f plan goal (by_leg f plan goal s l h) r.run);
    keeps = rw length-append (omega (arith, r.keeps));
    over = rw length-append (carried s room l w h.way le w.ending r.over);
    few = rw length-append (omega arith);
    scant = omega (arith, r.scant);
  }

  after : (s : Stand) (room : ℕ) (l : Leg) (next : Stand → Walk) → Fair f plan goal (blocked s.known) (value_at s.est) s.cell l
      → length l.trail ≤ room → l.opened ≤ k.look
      → (0 < length l.trail → Strolled k.look f plan goal (left f l) (room - length l.trail) (next (left f l)))
      → (e : Ending) → Ended f plan goal s.cell l.cell (length l.trail) e → Strolled k.look f plan goal s room (after_leg f l e next)
  unfolding after_leg left standing
  after s room l next h le op go Arrived e = goes_on s room l _ h le op (rests Arrived (left f l) _ (by_leg f plan goal s l h).ready e) (omega arith)
  after s room l next h le op go CutOff e = goes_on s room l _ h le op
      (rests CutOff (left f l) _ (by_leg f plan goal s l h).ready (λ n q. e _ (joined h.way q))) (omega arith)
  after s room l next h le op go Spent e = absurd e
  after s room l next h le op go UnderWay e = goes_on s room l (next (left f l)) h le op (go e) (omega (arith, (go e).few))

  turn : (s : Stand) (room : ℕ) (w : Walk) → Set f plan goal s → (0 < room → Strolled k.look f plan goal s room w)
      → (t u : Bool) → eqb s.cell goal ≡ t → eqb room 0 ≡ u
      → Strolled k.look f plan goal s room (elim t [ true ↦ standing Arrived s | false ↦ elim u [ true ↦ standing Spent s | false ↦ w ] ])
  turn s room w r go true u e z = rests Arrived s room r (eqb-true s.cell goal e)
  turn s room w r go false true e z = rests Spent s room r (sym (eqb-true room 0 z), eqb-false s.cell goal e)
  turn s room w r go false false e z = let n : (room ≡ 0 → ⊥) = eqb-false room 0 z in go (omega arith)

  pub cap : (room : ℕ) → Some k → 0 < room → Some (capped k room)
  unfolding capped
  cap room a some = (a.0, omega arith)

  -- so a leg's setting is allowed as the walk's is
  pub cap_ok : (room : ℕ) → setting_ok k ≡ true → 0 < room → setting_ok (capped k room) ≡ true
  unfolding setting_ok capped
  cap_ok room e some =
      let most : k.limit ≤ 4096 = up_most 4096 k.limit (and_2 (up_to 4096 k.look) _ e) in
      rw (and_1 (up_to 4096 k.look) (up_to 4096 k.limit) e, within_up_to 4096 (min k.limit room) (cap room (allowed k e) some).1 (omega arith))

  pub brief : (room : ℕ) (s : Stand) → length (leg_from f plan goal (capped k room) s).trail ≤ room
  unfolding leg_from capped
  brief room s = omega (arith, leg_short ours f plan goal (blocked s.known) (value_at s.est) s.cell k.look (min k.limit room))

  pub few_opened : (room : ℕ) (s : Stand) → (leg_from f plan goal (capped k room) s).opened ≤ k.look
  unfolding leg_from capped
  few_opened room s = leg_opened ours f plan goal (blocked s.known) (value_at s.est) s.cell k.look (min k.limit room)

  walking_fair : Some k → (depth room : ℕ) (s : Stand) → room < depth → Set f plan goal s
      → Strolled k.look f plan goal s room (walking f plan goal k depth room s)
  unfolding walking
  walking_fair a zero room s lt r = absurd (omega arith)
  walking_fair a (suc depth) room s lt r = turn s room _ r
      (λ some.
      let l = leg_from f plan goal (capped k room) s in
      let h = fair f plan goal (capped k room) s r (cap room a some) in
      after s room l _ h (brief room s) (few_opened room s)
      (λ moved. walking_fair a depth _ _ (omega arith) (by_leg f plan goal s l h).ready)
      _ h.ends)
      (eqb s.cell goal) (eqb room 0) refl refl

  pub walk_fair : Some k → (allowance : ℕ) (s : Stand) → Set f plan goal s → Strolled k.look f plan goal s allowance (walk f plan goal k allowance s)
  unfolding walk
  walk_fair a allowance s r = walking_fair a (suc allowance) allowance s (omega arith) r

-- ---- demand 3 for a walk from an accepted request

module _ (r : Request) (allowance : ℕ) where
  open r use {floor as f, goal}

  abbrev plan : ℕ → Bool
  plan = blocked r.plan

  abbrev w : Walk
  w = walk_of allowance r

  abbrev made : ℕ
  made = length (trail_of w.legs)

  module _ (a : Accepted allowance r) where
    strolled : Strolled r.setting.look f plan goal r.stand allowance w
    unfolding walk_of
    strolled = walk_fair r.setting f plan goal (allowed r.setting a.setting) allowance r.stand (start_ready allowance r a)

    -- off the goal the sum is below (N-1) squared, so not all of these moves are made
    unspent : square r ≤ allowance → Over f plan goal r.stand.cell allowance w.stand.cell made Spent → ⊥
    unspent big o =
        let c = strolled.run in
        let t = w.stand in
        omega (
          arith,
          o.0,
          c.climb,
          apart t.cell goal (cells f) c.ready.inside c.ready.aim o.1,
          others_off_goal (value_at t.est) t.cell goal (cells f) c.ready.sound.low c.ready.inside c.ready.aim o.1 c.ready.sound.at_goal,
        )
      where
        apart : (x y n : ℕ) → x < n → y < n → (x ≡ y → ⊥) → 1 < n
        apart x y n lx ly d = omega arith

    settled : square r ≤ allowance → Settled f plan goal r.stand.cell w.ending
    settled big = at w.ending strolled.over
      where
        at : (e : Ending) → Over f plan goal r.stand.cell allowance w.stand.cell made e
            → Settled f plan goal r.stand.cell e
        at Arrived o = inl (refl, (made, subst (λ (x : ℕ). Route f plan x r.stand.cell made) o strolled.run.way))
        at CutOff o = inr (refl, λ q. o q.0 q.1)
        at Spent o = absurd (unspent big o)
        at UnderWay o = absurd o

    pub walk_keeps : WalkKeeps r allowance w.ending made w.stand
    walk_keeps = record {
      no_estimate_falls = strolled.run.rises;
      none_passes_a_route = λ x n v. let h = strolled.run.ready in admissible h.sound h.within v;
      moves_raise_the_sum = strolled.run.climb;
      moves_bounded = (strolled.keeps, bounded f plan goal strolled.run);
      never_spent = λ big e. unspent big (subst (Over _ _ _ _ _ _ _) e strolled.over);
      arrives = λ big. settled_arrives (settled big);
      is_cut_off = λ big. settled_cut (settled big);
    }
