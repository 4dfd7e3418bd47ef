-- A request is not refused exactly where each of the nine tests holds, here as facts.
use Prim.Native.Nat.{ℕ, ◌≤◌, ◌<◌}
use mathlib.Core.Path.{◌≡◌}
use mathlib.Core.Bool.{Bool, true, false, ◌&&◌}
use lib.Dec.{ltb, leb, eqb}
use lib.ListN.{length}
use borrow.Author.Tests.{ltb-true, leb-true, eqb-true, lt-ltb, le-leb, eq-eqb}
use Rattle.floor.specs.Floor.{sizes_ok, cells, blocked, value_at}
use Rattle.floor.proofs.Tools.{and_1, and_2, not_t}
use Rattle.floor.proofs.Refusing.{passed, passes, passes_all}
use Rattle.rules.specs.Request.{Request, setting_ok, walk_refusal}
use Rattle.theory.proofs.Soundness.{every_at, every_i, Within, within_facts, within_test, Sound, sound_facts, sound_test}

-- accepted with a trail that holds so many moves
pub record Accepted (moves : ℕ) (r : Request) : Type 0 where
  pub sized : sizes_ok r.floor ≡ true
  pub plan_long : length r.plan ≡ cells r.floor
  pub known_long : length r.stand.known ≡ cells r.floor
  pub est_long : length r.stand.est ≡ cells r.floor
  pub inside : r.stand.cell < cells r.floor
  pub aim : r.goal < cells r.floor
  pub setting : setting_ok r.setting ≡ true
  pub room : moves ≤ length r.trail
  pub plan_bytes : (x : ℕ) → x < cells r.floor → value_at r.plan x ≤ 1
  pub known_bytes : (x : ℕ) → x < cells r.floor → value_at r.stand.known x ≤ 1
  pub within : Within r.floor (blocked r.stand.known) (blocked r.plan)
  pub free : blocked r.plan r.stand.cell ≡ false
  pub sound : Sound r.floor (blocked r.stand.known) (value_at r.stand.est) r.goal

module _ (moves : ℕ) (r : Request) where
  abbrev n : ℕ
  n = cells r.floor

  bytes : ℕ → Bool
  bytes x = leb (value_at r.plan x) 1 && leb (value_at r.stand.known x) 1

  pub accepted : walk_refusal moves r ≡ 0 → Accepted moves r
  unfolding walk_refusal bytes
  accepted e =
      let p1 = passed 0 _ _ e in
      let p2 = passed 1 _ _ p1.1 in
      let p3 = passed 2 _ _ p2.1 in
      let p4 = passed 3 _ _ p3.1 in
      let p5 = passed 4 _ _ p4.1 in
      let p6 = passed 5 _ _ p5.1 in
      let p7 = passed 6 _ _ p6.1 in
      let p8 = passed 7 _ _ p7.1 in
      let p9 = passed 8 _ _ p8.1 in
      let long : (eqb (length r.plan) n && eqb (length r.stand.known) n && eqb (length r.stand.est) n) ≡ true = p2.0 in
      let places : (ltb r.stand.cell n && ltb r.goal n) ≡ true = p3.0 in
      record {
        sized = p1.0;
        plan_long = eqb-true (length r.plan) n (search (and_1, and_2));
        known_long = eqb-true (length r.stand.known) n (search (and_1, and_2));
        est_long = eqb-true (length r.stand.est) n (search (and_1, and_2));
        inside = ltb-true r.stand.cell n (search and_1);
        aim = ltb-true r.goal n (search and_2);
        setting = p4.0;
        room = leb-true moves (length r.trail) p5.0;
        plan_bytes = λ x lt. leb-true (value_at r.plan x) 1 (and_1 _ (leb (value_at r.stand.known x) 1) (every_at n bytes p6.0 x lt));
        known_bytes = λ x lt. leb-true (value_at r.stand.known x) 1 (and_2 (leb (value_at r.plan x) 1) _ (every_at n bytes p6.0 x lt));
        within = within_facts r.floor (blocked r.stand.known) (blocked r.plan) p7.0;
        free = not_t (blocked r.plan r.stand.cell) p8.0;
        sound = sound_facts r.floor (blocked r.stand.known) (value_at r.stand.est) r.goal p9.0;
      }

  pub not_refused : Accepted moves r → walk_refusal moves r ≡ 0
  unfolding walk_refusal
  not_refused a =
      passes 1 _ _ a.sized
      (passes 2 _ _ (rw (eq-eqb _ _ a.plan_long, eq-eqb _ _ a.known_long, eq-eqb _ _ a.est_long))
      (passes 3 _ _ (rw (lt-ltb _ _ a.inside, lt-ltb _ _ a.aim))
      (passes 4 _ _ a.setting
      (passes 5 _ _ (le-leb moves (length r.trail) a.room)
      (passes 6 _ _ (every_i n _ (λ x lt. rw (le-leb _ 1 (a.plan_bytes x lt), le-leb _ 1 (a.known_bytes x lt))))
      (passes 7 _ _ (within_test r.floor (blocked r.stand.known) (blocked r.plan) a.within)
      (passes 8 _ _ (rw a.free)
      (passes 9 _ _ (sound_test r.floor (blocked r.stand.known) (value_at r.stand.est) r.goal a.sound) passes_all))))))))
