-- One leg: demand 3 for a single accepted leg, whatever its manner, as long as sensing and update are fit for it.
use Rattle.std.specs.Prelude.{Option, Some, None}
use Prim.Native.Nat.{ℕ, zero, suc, ◌+◌, ◌-◌, ◌≤◌, ◌<◌}
use mathlib.Core.Path.{◌≡◌, refl, subst}
use mathlib.Core.Bool.{Bool, true, false}
use mathlib.Core.List.{List, []}
use native.Mathlib.Omega.{arith}
use lib.Dec.{eqb, ltb}
use lib.ListN.{length}
use borrow.Author.Tests.{ltb-true, ltb-false, eqb-true, eqb-false}
use Rattle.floor.specs.declared.Floor.{Floor}
use Rattle.floor.specs.Floor.{cells}
use Rattle.floor.proofs.Geometry.{beside-right}
use Rattle.rules.specs.Sound.{Route, here, step}
use Rattle.rules.specs.Search.{Search, start, pick, Found, seek}
use Rattle.rules.specs.Leg.{Manner, route, Drive, drive, last, Leg, ended, stayed, driven, followed, leg}
use Rattle.floor.specs.declared.Ending.{Ending}
use Rattle.floor.specs.declared.Ending.TheVariants.{Arrived, CutOff, Spent, UnderWay}
use Rattle.theory.specs.Promise.{others}
use Rattle.theory.proofs.Soundness.{Sound, Within, NoRoute, sound_same}
use Rattle.theory.proofs.Picks.{Least, Best, pick_best}
use Rattle.theory.proofs.Seeks.{Sought, sought, seek_count}
use Rattle.theory.proofs.Lifted.{Lifted, Lifts}
use Rattle.theory.proofs.Senses.{Sensed, Senses}
use Rattle.theory.proofs.Cut.{empty_cut, far_cut}
use Rattle.theory.proofs.Drives.{Drove, drove, drives_on, drives_short}
use Rattle.theory.proofs.Ahead.{line, unbarred, some_way}
use Rattle.theory.proofs.Sums.{climbs}

-- a manner whose sensing and update are as the facts below ask; they ask nothing else of it
pub record Fit (f : Floor) (plan : ℕ → Bool) (m : Manner) : Type 0 where
  pub senses : Senses f plan (m.sensing f plan)
  pub lifts : Lifts f (m.update f)

-- what a leg is accepted with, besides its settings
pub record Ready (f : Floor) (plan : ℕ → Bool) (goal : ℕ) (known : ℕ → Bool) (est : ℕ → ℕ) (cart : ℕ) : Type 0 where
  pub inside : cart < cells f
  pub aim : goal < cells f
  pub free : plan cart ≡ false
  pub within : Within f known plan
  pub sound : Sound f known est goal

-- the same over a known map that lost no cell on the floor, and estimates that agree there
pub ready_same : {f : Floor} {plan : ℕ → Bool} {goal : ℕ} {known known' : ℕ → Bool} {est est' : ℕ → ℕ} {cart : ℕ}
    → Within f known' plan → ((x : ℕ) → x < cells f → known' x ≡ false → known x ≡ false) → ((x : ℕ) → x < cells f → est' x ≡ est x)
    → Ready f plan goal known est cart → Ready f plan goal known' est' cart
ready_same w sk se r =
    record { inside = r.inside; aim = r.aim; free = r.free; within = w; sound = sound_same r.aim sk se r.sound }

-- what an ending says of the leg
abbrev pub Ended : Floor → (ℕ → Bool) → ℕ → ℕ → ℕ → ℕ → Ending → Type 0
Ended f plan goal cart cell moves Arrived = cell ≡ goal
Ended f plan goal cart cell moves CutOff = NoRoute f plan goal cart
Ended f plan goal cart cell moves Spent = ⊥
Ended f plan goal cart cell moves UnderWay = 0 < moves

-- what an accepted leg l comes to
pub record Fair (f : Floor) (plan : ℕ → Bool) (goal : ℕ) (known : ℕ → Bool) (est : ℕ → ℕ) (cart : ℕ) (l : Leg) : Type 0 where
  pub ready : Ready f plan goal l.known l.est l.cell
  pub grows : (x : ℕ) → l.known x ≡ false → known x ≡ false
  pub rises : (x : ℕ) → est x ≤ l.est x
  pub way : Route f plan l.cell cart (length l.trail)
  pub climb : others est cart (cells f) + length l.trail ≤ others l.est l.cell (cells f)
  pub ends : Ended f plan goal cart l.cell (length l.trail) l.ending

route_inside : {f : Floor} {plan : ℕ → Bool} {goal a n : ℕ} → Route f plan goal a n → a < cells f → goal < cells f
route_inside (here o) lt = lt
route_inside {f} (step {a} {b} o e r) lt = route_inside r (beside-right f a b e)

route_free : {f : Floor} {plan : ℕ → Bool} {goal a n : ℕ} → Route f plan goal a n → plan goal ≡ false
route_free (here o) = o
route_free (step o e r) = route_free r

module _ (f : Floor) (plan : ℕ → Bool) (goal : ℕ) (known : ℕ → Bool) (est : ℕ → ℕ) (cart : ℕ) where
  -- a leg that makes no move
  stays : (e : Ending) (n : ℕ) → Ready f plan goal known est cart → Ended f plan goal cart cart 0 e
      → Fair f plan goal known est cart (stayed e cart n known est)
  unfolding stayed
  stays e n r a =
      record { ready = r; grows = λ x e. e; rises = λ x. omega arith; way = here r.free; climb = omega arith; ends = a }

  on_or_off : (cell moves : ℕ) → 0 < moves → Ended f plan goal cart cell moves (ended cell goal)
  unfolding ended
  on_or_off cell moves some = at (eqb cell goal) refl
    where
      at : (t : Bool) → eqb cell goal ≡ t → Ended f plan goal cart cell moves (elim t [ true ↦ Arrived | false ↦ UnderWay ])
      at true t = eqb-true cell goal t
      at false t = some

  -- a leg that moves over the estimates new
  goes : (n : ℕ) (new : ℕ → ℕ) (d : Drive) → Ready f plan goal known est cart → (s : Search) (t g : ℕ) → Lifted f known est goal s t g new
      → Drove f plan new known cart d → 0 < length d.made → Fair f plan goal known est cart (driven cart goal n new d)
  unfolding driven
  goes n new d r s t g up w some = record {
    ready = record {
      inside = route_inside w.way r.inside;
      aim = r.aim;
      free = route_free w.way;
      within = w.within;
      sound = sound_same r.aim (λ x lt. w.grows x) (λ x lt. refl) up.sound;
    };
    grows = w.grows;
    rises = up.rises;
    way = w.way;
    climb = climbs est new up.rises (cells f) cart (last cart d.made) (length d.made) r.inside (route_inside w.way r.inside) w.sinks;
    ends = on_or_off (last cart d.made) (length d.made) some;
  }

-- a leg over more of the known map, such as what was sensed first, is one over what was known before
wider : {f : Floor} {plan : ℕ → Bool} {goal : ℕ} {known more : ℕ → Bool} {est : ℕ → ℕ} {cart : ℕ} {l : Leg}
    → ((x : ℕ) → more x ≡ false → known x ≡ false) → Fair f plan goal more est cart l → Fair f plan goal known est cart l
wider up r =
    record { ready = r.ready; grows = λ x e. up x (r.grows x e); rises = r.rises; way = r.way; climb = r.climb; ends = r.ends }

-- steps d, e, f after a search over a known map that has been sensed from the cart
module _ (m : Manner) (f : Floor) (plan : ℕ → Bool) (fit : Fit f plan m) (goal : ℕ) (known : ℕ → Bool) (est : ℕ → ℕ) (cart limit : ℕ)
    (r : Ready f plan goal known est cart) (h : Sensed f plan cart known) (some : 0 < limit) where
  followed_fair : (s : Found) → Sought f known est goal cart s.state → (p : Option (ℕ × ℕ)) → pick est s.state (cells f) ≡ p
      → Fair f plan goal known est cart (followed m f plan known est cart goal limit s p)
  unfolding followed
  followed_fair s q None e = stays f plan goal known est cart CutOff s.count r
      (λ n w. empty_cut f plan known est goal cart s.state r.sound r.within q (subst (Best est s.state (cells f)) e (pick_best _ _ _)) w)
  followed_fair s q (Some (t, g)) e = at (ltb (cells f - 1) F) refl
    where
      F : ℕ
      F = g + est t

      new : ℕ → ℕ
      new = m.update f F s.state est

      ahead : List ℕ
      ahead = route s.state.parent g t []

      least : Least est s.state (cells f) t g
      least = subst (Best est s.state (cells f)) e (pick_best est s.state (cells f))

      at : (b : Bool) → ltb (cells f - 1) F ≡ b → Fair f plan goal known est cart (elim b [
        | true ↦ stayed CutOff cart s.count known est
        | false ↦ driven cart goal s.count new (drive (m.sensing f plan) limit known ahead)
      ])
      at true b = stays f plan goal known est cart CutOff s.count r (λ n w.
          far_cut f plan known est goal cart s.state r.sound r.within q t g least r.inside (omega (arith, ltb-true (cells f - 1) F b)) w)
      at false b =
          let low : F < cells f = omega (arith, ltb-false (cells f - 1) F b, r.inside) in
          let up = fit.lifts known est goal cart s.state t g r.sound q least r.inside low in
          let free = unbarred f known est goal cart s.state t g q least in
          let way = line f known est goal cart s.state t g q least new up in
          goes f plan goal known est cart s.count new _ r s.state t g up
          (drove (m.sensing f plan) f plan new fit.senses limit known cart ahead r.free r.within h free way)
          (drives_on (m.sensing f plan) limit known ahead some (some_way f known est goal cart s.state t g q least))

  searched_fair : (look : ℕ) → 0 < look → (cart ≡ goal → ⊥)
      → let s = seek f known est goal look 0 (start cart) in Fair f plan goal known est cart (followed m f plan known est cart goal limit s s.target)
  unfolding Within
  searched_fair zero lt off = absurd (omega arith)
  searched_fair (suc left) lt off =
      let e = sought f known est goal cart r.sound r.inside (r.within cart r.inside r.free) off left in
      followed_fair (seek f known est goal (suc left) 0 (start cart)) e.0 _ e.1

-- demand 3, for one accepted leg
pub leg_fair : (m : Manner) (f : Floor) (plan : ℕ → Bool) → Fit f plan m → (goal : ℕ) (known : ℕ → Bool) (est : ℕ → ℕ) (cart look limit : ℕ)
    → Ready f plan goal known est cart → 0 < look → 0 < limit → Fair f plan goal known est cart (leg m f plan known est cart goal look limit)
unfolding leg
leg_fair m f plan fit goal known est cart look limit r l some = at (eqb cart goal) refl
  where
    seen : ℕ → Bool
    seen = m.sensing f plan cart known

    at : (t : Bool) → eqb cart goal ≡ t → Fair f plan goal known est cart (elim t [
      | true ↦ stayed Arrived cart 0 known est
      | false ↦ let s = seek f seen est goal look 0 (start cart) in followed m f plan seen est cart goal limit s s.target
    ])
    at true e = stays f plan goal known est cart Arrived 0 r (eqb-true cart goal e)
    at false e = wider (fit.senses.grows cart known)
        (searched_fair m f plan fit goal seen est cart limit
        (ready_same (fit.senses.within cart known r.within) (λ x lt. fit.senses.grows cart known x) (λ x lt. refl) r)
        (fit.senses.sensed cart known) some look l (eqb-false cart goal e))

-- ---- bounds: no more moves than the limit, and no more cells opened than the lookahead

-- what holds of a leg that stays and of one that drives holds of any leg
leg_either : (P : Leg → Type 0) (m : Manner) (f : Floor) (plan : ℕ → Bool) (goal : ℕ) (known : ℕ → Bool) (est : ℕ → ℕ) (cart look limit : ℕ)
    → ((e : Ending) (n : ℕ) (k : ℕ → Bool) → n ≤ look → P (stayed e cart n k est))
    → ((n : ℕ) (k : ℕ → Bool) (new : ℕ → ℕ) (ahead : List ℕ) → n ≤ look → P (driven cart goal n new (drive (m.sensing f plan) limit k ahead)))
    → P (leg m f plan known est cart goal look limit)
unfolding leg followed
leg_either P m f plan goal known est cart look limit stay go = at (eqb cart goal)
  where
    seen : ℕ → Bool
    seen = m.sensing f plan cart known

    far : (r : Found) (t g : ℕ) → r.count ≤ look → (b : Bool) → P (elim b [
      | true ↦ stayed CutOff cart r.count seen est
      | false ↦ driven cart goal r.count (m.update f (g + est t) r.state est) (drive (m.sensing f plan) limit seen (route r.state.parent g t []))
    ])
    far r t g h true = stay CutOff r.count seen h
    far r t g h false = go r.count seen (m.update f (g + est t) r.state est) (route r.state.parent g t []) h

    then : (r : Found) (p : Option (ℕ × ℕ)) → r.count ≤ look → P (followed m f plan seen est cart goal limit r p)
    then r None h = stay CutOff r.count seen h
    then r (Some (t, g)) h = far r t g h (ltb (cells f - 1) (g + est t))

    at : (b : Bool) → P (elim b [
      | true ↦ stayed Arrived cart 0 known est
      | false ↦ let s = seek f seen est goal look 0 (start cart) in followed m f plan seen est cart goal limit s s.target
    ])
    at true = stay Arrived 0 known (omega arith)
    at false = let s = seek f seen est goal look 0 (start cart) in then s s.target (omega (arith, seek_count f seen est goal look 0 (start cart)))

module _ (m : Manner) (f : Floor) (plan : ℕ → Bool) (goal : ℕ) (known : ℕ → Bool) (est : ℕ → ℕ) (cart look limit : ℕ) where
  pub leg_short : length (leg m f plan known est cart goal look limit).trail ≤ limit
  unfolding stayed driven
  leg_short = leg_either (λ l. length l.trail ≤ limit) m f plan goal known est cart look limit
      (λ e n k h. omega arith) (λ n k new ahead h. drives_short (m.sensing f plan) limit k ahead)

  pub leg_opened : (leg m f plan known est cart goal look limit).opened ≤ look
  unfolding stayed driven
  leg_opened = leg_either (λ l. l.opened ≤ look) m f plan goal known est cart look limit (λ e n k h. h) (λ n k new ahead h. h)
