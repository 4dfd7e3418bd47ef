-- Legs and gains in a row: what they come to composes, and what starts ready and well formed stays so.
use Prim.Native.Nat.{ℕ, ◌+◌, ◌-◌, ◌*◌, ◌≤◌, ◌<◌}
use mathlib.Core.Path.{◌≡◌, ◌∙◌, refl, sym, ap, fun_ext}
use mathlib.Core.Bool.{Bool, true, false, ◌||◌}
use native.Mathlib.Omega.{arith}
use lib.ListN.{length}
use Rattle.floor.specs.declared.Floor.{Floor}
use Rattle.floor.specs.Floor.{up_to, cells, tabulate, byte, blocked, value_at}
use Rattle.floor.proofs.Tools.{and_1, and_2, or_f1}
use Rattle.floor.proofs.Boards.{length-tabulate, value_tabulate, blocked_tabulate, own_bytes}
use Rattle.floor.proofs.Geometry.{up_some}
use Rattle.rules.specs.Sound.{Route, here}
use Rattle.rules.specs.Leg.{ours, Leg, Stand, Setting, leg_from, left}
use Rattle.rules.specs.Request.{setting_ok}
use Rattle.theory.specs.Promise.{gained, others}
use Rattle.theory.proofs.Soundness.{Within}
use Rattle.theory.proofs.Routes.{joined}
use Rattle.theory.proofs.Sums.{others_small, others_same}
use Rattle.theory.proofs.Senses.{sense_senses}
use Rattle.theory.proofs.Raise.{raise_lifts}
use Rattle.theory.proofs.Legs.{Fit, Ready, ready_same, Fair, leg_fair}

-- a stand from which a leg can start
abbrev pub Set : Floor → (ℕ → Bool) → ℕ → Stand → Type 0
Set f plan goal s = Ready f plan goal (blocked s.known) (value_at s.est) s.cell

pub fits : (f : Floor) (plan : ℕ → Bool) → Fit f plan ours
unfolding ours
fits f plan = record { senses = sense_senses f plan; lifts = raise_lifts f }

-- settings of at least 1, which is all that the facts ask of them
abbrev pub Some : Setting → Type 0
Some k = (0 < k.look) × (0 < k.limit)

pub allowed : (k : Setting) → setting_ok k ≡ true → Some k
unfolding setting_ok
allowed k e = (up_some 4096 k.look (and_1 _ (up_to 4096 k.limit) e), up_some 4096 k.limit (and_2 (up_to 4096 k.look) _ e))

-- what legs and gains from s to t with so many moves come to
pub record Course (f : Floor) (plan : ℕ → Bool) (goal : ℕ) (s t : Stand) (moves : ℕ) : Type 0 where
  pub ready : Set f plan goal t
  pub rises : (x : ℕ) → x < cells f → value_at s.est x ≤ value_at t.est x
  pub way : Route f plan t.cell s.cell moves
  pub climb : others (value_at s.est) s.cell (cells f) + moves ≤ others (value_at t.est) t.cell (cells f)

module _ (f : Floor) (plan : ℕ → Bool) (goal : ℕ) where
  pub fair : (k : Setting) (s : Stand) → Set f plan goal s → Some k
      → Fair f plan goal (blocked s.known) (value_at s.est) s.cell (leg_from f plan goal k s)
  unfolding leg_from
  fair k s r a = leg_fair ours f plan (fits f plan) goal (blocked s.known) (value_at s.est) s.cell k.look k.limit r a.0 a.1

  pub at_rest : (s : Stand) → Set f plan goal s → Course f plan goal s s 0
  at_rest s r = record { ready = r; rises = λ x lt. omega arith; way = here r.free; climb = omega arith }

  pub by_leg : (s : Stand) (l : Leg) → Fair f plan goal (blocked s.known) (value_at s.est) s.cell l
      → Course f plan goal s (left f l) (length l.trail)
  unfolding left Within
  by_leg s l h = record {
    ready = ready_same (λ x lt o. known_is x lt ∙ h.ready.within x lt o) (λ x lt e. sym (known_is x lt) ∙ e) est_is h.ready;
    rises = λ x lt. omega (arith, h.rises x, est_is x lt);
    way = h.way;
    climb = omega (arith, h.climb, others_same l.est (value_at (left f l).est) l.cell (cells f) est_is);
  }
    where
      known_is : (x : ℕ) → x < cells f → blocked (left f l).known x ≡ l.known x
      known_is = blocked_tabulate (cells f) l.known

      est_is : (x : ℕ) → x < cells f → value_at (left f l).est x ≡ l.est x
      est_is = value_tabulate (cells f) l.est

  pub by_gain : (gain : ℕ → Bool) (s : Stand) → Within f gain plan → Set f plan goal s → Course f plan goal s (gained f gain s) 0
  unfolding gained Within
  by_gain gain s w r = record {
    ready = ready_same (λ x lt o. known_is x lt ∙ rw (r.within x lt o, w x lt o))
        (λ x lt e. or_f1 (blocked s.known x) (gain x) (sym (known_is x lt) ∙ e)) (λ x lt. refl) r;
    rises = λ x lt. omega arith;
    way = here r.free;
    climb = omega arith;
  }
    where
      known_is : (x : ℕ) → x < cells f → blocked (gained f gain s).known x ≡ (blocked s.known x || gain x)
      known_is = blocked_tabulate (cells f) (λ y. blocked s.known y || gain y)

  pub both_runs : {s t u : Stand} {m n : ℕ} → Course f plan goal s t m → Course f plan goal t u n → Course f plan goal s u (m + n)
  both_runs a b = record {
    ready = b.ready;
    rises = λ x lt. omega (arith, a.rises x lt, b.rises x lt);
    way = joined a.way b.way;
    climb = omega (arith, a.climb, b.climb);
  }

  -- the moves of a course are at most (N-1) squared
  pub bounded : {s t : Stand} {m : ℕ} → Course f plan goal s t m → m ≤ (cells f - 1) * (cells f - 1)
  bounded {t = t} c =
      omega (arith, c.climb, others_small (value_at t.est) t.cell (cells f) c.ready.sound.low c.ready.inside)

-- ---- a stand's lists have the form that refusals 2 and 6 ask for

pub record Formed (f : Floor) (s : Stand) : Type 0 where
  pub known_long : length s.known ≡ cells f
  pub est_long : length s.est ≡ cells f
  pub bytes : (x : ℕ) → x < cells f → value_at s.known x ≤ 1

byte_small : (b : Bool) → byte b ≤ 1
unfolding byte
byte_small true = omega arith
byte_small false = omega arith

pub left_formed : (f : Floor) (l : Leg) → Formed f (left f l)
unfolding left
left_formed f l = record {
  known_long = length-tabulate (cells f) (λ x. byte (l.known x));
  est_long = length-tabulate (cells f) l.est;
  bytes = λ x lt. rw (value_tabulate (cells f) (λ y. byte (l.known y)) x lt) (byte_small (l.known x));
}

pub gained_formed : (f : Floor) (gain : ℕ → Bool) (s : Stand) → length s.est ≡ cells f → Formed f (gained f gain s)
unfolding gained
gained_formed f gain s long = record {
  known_long = length-tabulate (cells f) _;
  est_long = long;
  bytes = λ x lt. rw (value_tabulate (cells f) (λ y. byte (blocked s.known y || gain y)) x lt) (byte_small _);
}

-- a gain that marks nothing leaves such a stand as it is
or_false : (b : Bool) → b ≡ (b || false)
or_false true = refl
or_false false = refl

pub nothing_gained : (f : Floor) (s : Stand) → Formed f s → gained f (λ x. false) s ≡ s
unfolding gained
nothing_gained f s m =
    let e : s.known ≡ tabulate (cells f) (λ x. byte (blocked s.known x || false)) =
    own_bytes (cells f) s.known m.known_long m.bytes
    ∙ ap (tabulate (cells f)) (fun_ext (λ x. ap byte (or_false (blocked s.known x)))) in
    λ t. record { known = sym e t; est = s.est; cell = s.cell }
