-- An accepted trip, turn by turn: from where the cart has come to, the turns say what is left of the rules' walk.
use Prim.Native.Nat.{ℕ, zero, suc, ◌+◌, ◌-◌, ◌*◌, ◌≤◌, ◌<◌}
use mathlib.Core.Path.{◌≡◌, ◌∙◌, refl, sym, ap, subst}
use mathlib.Core.Logic.{◌⊎◌, inl, inr}
use mathlib.Core.Bool.{Bool, true, false}
use mathlib.Core.List.{List, ◌++◌}
use native.Mathlib.Omega.{arith}
use lib.Dec.{eqb, leb}
use lib.ListN.{length, take, drop}
use lib.Seq.{take_at}
use borrow.Author.Tests.{eqb-true, eqb-false, leb-true, leb-false}
use Rattle.floor.specs.declared.Ending.{Ending, TheVariants.Arrived, TheVariants.CutOff, TheVariants.Spent, TheVariants.UnderWay}
use Rattle.floor.specs.Floor.{up_to, cells, tabulate, blocked, value_at}
use Rattle.floor.proofs.Tools.{and_1, and_2}
use Rattle.floor.proofs.Boards.{length-tabulate}
use Rattle.floor.proofs.Geometry.{up_most}
use Rattle.rules.specs.Leg.{Leg, Stand, leg_from, left}
use Rattle.rules.specs.Walk.{Walk, standing, onward, capped, walking, walk}
use Rattle.rules.specs.Printer.{leg_line, trip}
use Rattle.rules.specs.Request.{Request, setting_ok, walk_refusal, leg_refusal, leg_of, walk_of}
use Rattle.theory.specs.Promise.{again}
use Rattle.theory.proofs.Legs.{Fair}
use Rattle.theory.proofs.Accepts.{Accepted, accepted}
use Rattle.theory.proofs.Courses.{Set, allowed, fair, by_leg, Formed, left_formed}
use Rattle.theory.proofs.Sequences.{start_ready, accepted_still}
use Rattle.theory.proofs.Walks.{cap, cap_ok, brief, few_opened}
use Rattle.std.specs.Prelude.{Some}
use Rattle.host.specs.declared.Cart.{Cart}
use Rattle.host.specs.Host as host
use Rattle.walk.proofs.Turning.{on_goal, used_up, cut_off, moves, goes_on}
use Rattle.trip_text.specs.declared.Errand.{Errand}
use Rattle.trip_lines.specs.Lines.{text_of}
use Rattle.trip_text.specs.Heard.{fronted}
use Rattle.printer.specs.declared.Turn.TheVariants.{Onward, End}
use Rattle.printer.specs.Turns.{leg_asked, counted, after_leg, ended, leg_made, turned}
use Rattle.printer.specs.Promise.{line_text, said}
use Rattle.printer.proofs.Cases.{leg_turn, a_leg, on_floor, arrived, spent}
use Rattle.printer.proofs.Making.{not_cut}
use Rattle.printer.proofs.Saying.{says, closing, end_says, rest, rest_standing, rest_onward, whole_trip}

-- a total below its cap
uncapped : (total more : ℕ) → total + more ≤ 4294967295 → host.capped total more ≡ total + more
unfolding host.capped
uncapped total more low = omega arith

-- a map that was put in front
pub in_front : (map lent : List ℕ) {n : ℕ} → length map ≡ n → take n (fronted map lent) ≡ map
unfolding fronted
in_front map lent {n} long = take_at map (drop (length map) lent) n long

cut_or_not : (e : Ending) → (e ≡ CutOff) ⊎ (e ≡ CutOff → ⊥)
cut_or_not Arrived = inr (λ e. let z : ◌≡◌ {A = ℕ} 0 1 = cc in omega arith)
cut_or_not CutOff = inl refl
cut_or_not Spent = inr (λ e. let z : ◌≡◌ {A = ℕ} 0 1 = cc in omega arith)
cut_or_not UnderWay = inr (λ e. let z : ◌≡◌ {A = ℕ} 0 1 = cc in omega arith)

-- the errand that asks for a walk
abbrev pub errand_of : ℕ → Request → Errand
errand_of allowance r = record {
  floor = r.floor;
  start = r.stand.cell;
  goal = r.goal;
  setting = record { look = record { 0 = r.setting.look }; limit = record { 0 = r.setting.limit } };
  allowance = allowance;
}

module _ (allowance : ℕ) (r : Request) (ok : walk_refusal allowance r ≡ 0) (most : allowance ≤ 16384) (plan : List ℕ)
    (drawn : take (cells r.floor) plan ≡ r.plan) where
  open r use {floor as f, goal, setting as k}

  abbrev e : Errand
  e = errand_of allowance r

  abbrev truth : ℕ → Bool
  truth = blocked r.plan

  a : Accepted allowance r
  a = accepted allowance r ok

  -- where the cart stands, by the front of the lent maps
  abbrev stand_of : Cart → List ℕ → List ℕ → Stand
  stand_of cart known est = record { known = take (cells f) known; est = take (cells f) est; cell = cart.cell }

  abbrev room : Cart → ℕ
  room cart = allowance - cart.moves

  -- what is left of the walk
  abbrev ahead : ℕ → Cart → List ℕ → List ℕ → Walk
  ahead depth cart known est = walking f truth goal k depth (room cart) (stand_of cart known est)

  pub record Along (cart : Cart) (known est : List ℕ) : Type 0 where
    pub ready : Set f truth goal (stand_of cart known est)
    pub formed : Formed f (stand_of cart known est)
    pub within : cart.moves ≤ allowance
    pub few : cart.legs ≤ cart.moves
    pub scant : cart.opened ≤ cart.legs * 4096

  -- as many turns as there are moves left, and two, say what is left
  abbrev Spoken : ℕ → Type 0
  Spoken depth = (cart : Cart) (known est : List ℕ) → Along cart known est → room cart < depth → (count : ℕ) → room cart + 2 ≤ count
      → said count (Some (Onward e cart)) plan known est ≡ rest cart (ahead depth cart known est)

  -- ---- off the goal, with moves left, a leg is made
  module _ (depth : ℕ) (next : Spoken depth) (cart : Cart) (known est : List ℕ) (g : Along cart known est) (deep : room cart < suc depth)
      (off : cart.cell ≡ goal → ⊥) (some : cart.moves < allowance) where
    abbrev s : Stand
    s = stand_of cart known est

    abbrev l : Leg
    l = leg_from f truth goal (capped k (room cart)) s

    some_room : 0 < room cart
    some_room = omega arith

    asked_is : leg_asked e cart plan known est ≡ again r s (capped k (room cart)) (tabulate 4096 (λ x. 0))
    unfolding leg_asked again capped
    asked_is = rw drawn

    limit_fits : (capped k (room cart)).limit ≤ length (tabulate 4096 (λ x. 0))
    unfolding capped setting_ok
    limit_fits = rw (length-tabulate 4096 (λ x. 0)) (omega (arith, up_most 4096 k.limit (and_2 (up_to 4096 k.look) _ a.setting)))

    accepts : leg_refusal (leg_asked e cart plan known est) ≡ 0
    accepts = rw asked_is
        (accepted_still allowance r a s g.ready g.formed (capped k (room cart)) (cap_ok k f truth goal (room cart) a.setting some_room)
        (tabulate 4096 (λ x. 0)) limit_fits)

    -- so the turn is the leg's
    turn_is : turned (Some (Onward e cart)) plan known est ≡ leg_made e cart known est l
    unfolding leg_turn leg_of again
    turn_is = on_floor e cart plan known est a.sized ∙ a_leg e cart plan known est off some ∙ rw (accepts, asked_is)

    fair_leg : Fair f truth goal (blocked s.known) (value_at s.est) cart.cell l
    fair_leg = fair f truth goal (capped k (room cart)) s g.ready (cap k f truth goal (room cart) (allowed k a.setting) some_room)

    abbrev made : ℕ
    made = length l.trail

    -- no total comes near its cap
    short : made ≤ room cart
    short = brief k f truth goal (room cart) s

    few_cells : l.opened ≤ 4096
    unfolding setting_ok
    few_cells = omega (arith, few_opened k f truth goal (room cart) s, up_most 4096 k.look (and_1 _ (up_to 4096 k.limit) a.setting))

    abbrev after : Cart
    after = counted cart l

    moves_are : after.moves ≡ cart.moves + made
    unfolding counted
    moves_are = uncapped cart.moves made (omega (arith, short, g.within))

    legs_are : after.legs ≡ cart.legs + 1
    unfolding counted
    legs_are = uncapped cart.legs 1 (omega (arith, g.few, g.within))

    opened_are : after.opened ≡ cart.opened + l.opened
    unfolding counted
    opened_are = uncapped cart.opened l.opened (omega (arith, few_cells, g.scant, g.few, g.within))

    abbrev known' : List ℕ
    known' = fronted (left f l).known known

    abbrev est' : List ℕ
    est' = fronted (left f l).est est

    -- the maps' front is what the leg leaves
    stand_is : stand_of after known' est' ≡ left f l
    unfolding counted left
    stand_is =
        let m = left_formed f l in
        λ i. record { known = in_front (left f l).known known m.known_long i; est = in_front (left f l).est est m.est_long i; cell = l.cell }

    -- the leg's line, and what comes after it
    line_said : (count : ℕ) → said (suc count) (Some (Onward e cart)) plan known est
        ≡ leg_line after.legs l.opened made l.cell ++ said count (Some (after_leg e after l.ending)) plan known' est'
    unfolding leg_made line_text text_of
    line_said count = says count (Some (Onward e cart)) plan known est (leg_made e cart known est l) turn_is

    abbrev Rest : Walk → ℕ → Type 0
    Rest w count = said count (Some (after_leg e after l.ending)) plan known' est' ≡ rest after w

    -- where the walk is the leg and then w, and the next turns say what is left of w
    with_leg : (w : Walk) (count : ℕ) → ahead (suc depth) cart known est ≡ onward l w → Rest w count
        → said (suc count) (Some (Onward e cart)) plan known est ≡ rest cart (ahead (suc depth) cart known est)
    with_leg w count is more =
        line_said count
        ∙ ap (λ (t : List ℕ). leg_line after.legs l.opened made l.cell ++ t) more
        ∙ sym (rest_onward cart after l w moves_are legs_are opened_are)
        ∙ ap (rest cart) (sym is)

    cut_rest : (count : ℕ) → room cart + 1 ≤ count → l.ending ≡ CutOff → Rest (standing CutOff (left f l)) count
    unfolding after_leg turned
    cut_rest count enough cut =
        ap (λ (q : Ending). said count (Some (after_leg e after q)) plan known' est') cut
        ∙ end_says count (omega arith) (Some (End CutOff after (cells f))) plan known' est' CutOff after (cells f) refl
        ∙ ap (λ (q : Stand). closing CutOff after.moves after.legs after.opened q.est) stand_is
        ∙ sym (rest_standing after CutOff (left f l))

    module _ (on : l.ending ≡ CutOff → ⊥) where
      moved : 0 < made
      moved = moves f truth goal k (suc depth) (room cart) s deep off some_room fair_leg.way fair_leg.ends on

      along : Along after known' est'
      along = record {
        ready = subst (Set f truth goal) (sym stand_is) (by_leg f truth goal s l fair_leg).ready;
        formed = subst (Formed f) (sym stand_is) (left_formed f l);
        within = omega (arith, moves_are, short, g.within);
        few = omega (arith, moves_are, legs_are, moved, g.few);
        scant = omega (arith, legs_are, opened_are, few_cells, g.scant);
      }

      room_left : room cart - made ≡ room after
      room_left = omega (arith, moves_are)

      walk_is : ahead (suc depth) cart known est ≡ onward l (ahead depth after known' est')
      walk_is =
          let less : suc depth - 1 ≡ depth = omega arith in
          goes_on f truth goal k (suc depth) (room cart) s deep off some_room moved fair_leg.ends on ∙ rw (less, room_left, stand_is)

      on_rest : (count : ℕ) → room cart + 1 ≤ count → Rest (ahead depth after known' est') count
      on_rest count enough =
          rw (not_cut e after l.ending on)
          (next after known' est' along (omega (arith, room_left, moved, some_room)) count (omega (arith, room_left, moved, some_room)))

    leg_spoken : (count : ℕ) → room cart + 2 ≤ count → said count (Some (Onward e cart)) plan known est ≡ rest cart (ahead (suc depth) cart known est)
    leg_spoken zero enough = absurd (omega arith)
    leg_spoken (suc count) enough = elim (cut_or_not l.ending) [
      | inl cut ↦ with_leg _ count (cut_off f truth goal k (suc depth) (room cart) s deep off some_room cut) (cut_rest count (omega arith) cut)
      | inr on ↦ with_leg _ count (walk_is on) (on_rest on count (omega arith))
    ]

  spoken : (depth : ℕ) → Spoken depth
  spoken zero cart known est g deep count enough = absurd (omega arith)
  spoken (suc depth) cart known est g deep count enough = at (spoken depth) (eqb cart.cell goal) refl (leb allowance cart.moves) refl
    where
      over : (e' : Ending) → turned (Some (Onward e cart)) plan known est ≡ ended e' cart (cells f) known est
          → ahead (suc depth) cart known est ≡ standing e' (stand_of cart known est)
          → said count (Some (Onward e cart)) plan known est ≡ rest cart (ahead (suc depth) cart known est)
      over e' turn walk =
          end_says count (omega arith) (Some (Onward e cart)) plan known est e' cart (cells f) turn
          ∙ sym (rest_standing cart e' (stand_of cart known est))
          ∙ ap (rest cart) (sym walk)

      at : Spoken depth → (there : Bool) → eqb cart.cell goal ≡ there → (none : Bool) → leb allowance cart.moves ≡ none
          → said count (Some (Onward e cart)) plan known est ≡ rest cart (ahead (suc depth) cart known est)
      at next true t none z =
          let there : cart.cell ≡ goal = eqb-true cart.cell goal t in
          over Arrived (arrived e cart plan known est a.sized there)
          (on_goal f truth goal k (suc depth) (room cart) (stand_of cart known est) deep there)
      at next false t true z =
          let off = eqb-false cart.cell goal t in
          let none = leb-true allowance cart.moves z in
          over Spent (spent e cart plan known est a.sized off none)
          (used_up f truth goal k (suc depth) (room cart) (stand_of cart known est) deep off (omega arith))
      at next false t false z =
          leg_spoken depth next cart known est g deep (eqb-false cart.cell goal t) (leb-false allowance cart.moves z) count enough

  -- from the request's own stand: all of the trip
  abbrev first : Cart
  first = record { cell = r.stand.cell; moves = 0; opened = 0; legs = 0 }

  module _ (known est : List ℕ) (known_is : take (cells f) known ≡ r.stand.known) (est_is : take (cells f) est ≡ r.stand.est) where
    stood : stand_of first known est ≡ r.stand
    stood = λ i. record { known = known_is i; est = est_is i; cell = r.stand.cell }

    starts : Along first known est
    starts = record {
      ready = subst (Set f truth goal) (sym stood) (start_ready allowance r a);
      formed = subst (Formed f) (sym stood) (record { known_long = a.known_long; est_long = a.est_long; bytes = a.known_bytes });
      within = omega arith;
      few = omega arith;
      scant = omega arith;
    }

    pub trip_said : (count : ℕ) → allowance + 2 ≤ count → said count (Some (Onward e first)) plan known est ≡ trip (walk_of allowance r)
    unfolding walk_of walk
    trip_said count enough =
        let all : allowance - 0 ≡ allowance = omega arith in
        spoken (suc allowance) first known est starts (omega arith) count (omega arith) ∙ rw (all, stood) (whole_trip r.stand.cell (walk_of allowance r))
