-- What the room shows after stores: into the lists nothing new, and at a cell that gets a way that it joined.
use Rattle.floor.specs.declared.Distance.{TheVariants.Reached, TheVariants.Unreached}
use Prim.Native.Nat.{ℕ, zero, suc, ◌+◌, ◌-◌, ◌≤◌, ◌<◌}
use mathlib.Core.Path.{◌≡◌, ◌∙◌, refl, sym, ap, ap₂, subst, fun_ext}
use mathlib.Core.Logic.{inl, inr}
use mathlib.Core.Bool.{Bool, true, false, not, ◌&&◌, ◌||◌}
use mathlib.Core.List.{List}
use native.Mathlib.Omega.{arith}
use native.Mathlib.Numerals.{add-one}
use lib.Dec.{eqb, ltb}
use lib.ListN.{length, set}
use lib.Seq.{get_or-set_same, get_or-set_other}
use borrow.Author.Tests.{eqb-true, eqb-false, eq-eqb, ne_eqb, lt-ltb}
use Rattle.floor.specs.Floor.{value_at}
use Rattle.floor.proofs.Tools.{both, clash, or_cases, or_1, or_2, and_2, not_t}
use Rattle.rules.specs.Search.{Search}
use Rattle.queue.specs.Room.{Way, Room, way_at, nearness_at, parent_at, distance_of, parent_of, among, opened_at, shown, leaving, joined}
use Rattle.queue.specs.Queue.{Sum, Front, Stands}
use Rattle.queue.proofs.Growing.{Joined}

-- ---- whether a cell is listed

pub among_same : (l k : ℕ → ℕ) (m x : ℕ) → ((i : ℕ) → i < m → l i ≡ k i) → among l m x ≡ among k m x
unfolding among
among_same l k zero x h = refl
among_same l k (suc m) x h = rw (h m (omega arith), among_same l k m x (λ i lt. h i (omega arith)))

pub among_stands : (l : ℕ → ℕ) (m x : ℕ) → among l m x ≡ true → Stands l m x
unfolding among
among_stands l zero x e = clash e refl
among_stands l (suc m) x e = elim (or_cases (eqb x (l m)) (among l m x) e) [
  | inl q ↦ record { k = m; below = omega arith; is = sym (eqb-true x (l m) q) }
  | inr q ↦ let s = among_stands l m x q in record { k = s.k; below = omega (arith, s.below); is = s.is }
]

pub stands_among : (l : ℕ → ℕ) (m x k : ℕ) → k < m → l k ≡ x → among l m x ≡ true
unfolding among
stands_among l zero x k lt e = absurd (omega arith)
stands_among l (suc m) x k lt e = elim (both (eqb k m)) [
  | inl q ↦ or_1 (eqb x (l m)) (among l m x) (eq-eqb x (l m) (sym e ∙ ap l (eqb-true k m q)))
  | inr q ↦ or_2 (eqb x (l m)) (among l m x) (stands_among l m x k (omega (arith, eqb-false k m q)) e)
]

-- ---- what a cell's way says

pub no_way : (v : ℕ) → v ≡ 0 → Unreached ≡ distance_of v
unfolding distance_of
no_way v e = rw e

pub some_way : (v : ℕ) → (v ≡ 0 → ⊥) → Reached (65535 - v) ≡ distance_of v
unfolding distance_of
some_way zero n = absurd (n refl)
some_way (suc v) n = refl

pub way_of : (g : ℕ) → g < 65535 → distance_of (65535 - g) ≡ Reached g
unfolding distance_of
way_of g lt = at (65535 - g) refl (omega arith)
  where
    at : (v : ℕ) → 65535 - g ≡ v → 0 < v → distance_of v ≡ Reached g
    at zero e lt = absurd (omega arith)
    at (suc v) e lt = ap Reached (omega arith)

pub parent_of_way : (v p : ℕ) → 0 < v → parent_of v p ≡ p
unfolding parent_of
parent_of_way zero p lt = absurd (omega arith)
parent_of_way (suc v) p lt = refl

pub some : (v g : ℕ) → distance_of v ≡ Reached g → 0 < v
unfolding distance_of
some zero g e = let z : ◌≡◌ {A = ℕ} 0 1 = cc in omega arith
some (suc v) g e = omega arith

pub low_way : (v g : ℕ) → distance_of v ≡ Reached g → g ≤ 65535
unfolding distance_of
low_way zero g e = let z : ◌≡◌ {A = ℕ} 0 1 = cc in omega arith
low_way (suc v) g e = let z : 65535 - suc v ≡ g = cc in omega arith

pub reach : (v : ℕ) → (v ≡ 0 → ⊥) → (g : ℕ) × (distance_of v ≡ Reached g)
unfolding distance_of
reach zero ne = absurd (ne refl)
reach (suc v) ne = (65535 - suc v, refl)

-- a way that is more is shorter
pub shorter : (v g h : ℕ) → v < 65535 - g → distance_of v ≡ Reached h → g < h
unfolding distance_of
shorter zero g h lt e = let z : ◌≡◌ {A = ℕ} 0 1 = cc in absurd (omega arith)
shorter (suc v) g h lt e = let z : 65535 - suc v ≡ h = cc in omega arith

module _ {N : ℕ} (n : ℕ) (room : Room N) (m : ℕ) where
  -- a cell with a way that is not opened is in the frontier
  pub waits : {est : ℕ → ℕ} {x f : ℕ} → Sum (shown n room m) est x f → (shown n room m).opened x ≡ false → Front (shown n room m) est x f
  unfolding shown
  waits {est} {x} {f} p o = record { waits = rw (lt-ltb 0 ((nearness_at room.ways x)) (some ((nearness_at room.ways x)) p.g p.reached), o); sum = p }

  pub shut : (x : ℕ) → (shown n room m).front x ≡ true → (shown n room m).opened x ≡ false
  unfolding shown
  shut x w = not_t (among (opened_at n room.stack) m x) (and_2 (ltb 0 ((nearness_at room.ways x))) (not (among (opened_at n room.stack) m x)) w)

  -- a room with the same ways and cells opened shows the same
  pub shown_same : (stack rest : List ℕ) → ((i : ℕ) → i < m → opened_at n stack i ≡ opened_at n room.stack i)
      → shown n (record room { stack = stack; rest = rest }) m ≡ shown n room m
  unfolding shown
  shown_same stack rest o = λ t. record {
    dist = λ x. distance_of (nearness_at room.ways x);
    parent = λ x. parent_of (nearness_at room.ways x) (parent_at room.ways x);
    front = fun_ext (λ x. ap (λ (b : Bool). ltb 0 (nearness_at room.ways x) && not b) (among_same (opened_at n stack) (opened_at n room.stack) m x o)) t;
    opened = fun_ext (λ x. among_same (opened_at n stack) (opened_at n room.stack) m x o) t;
  }

-- a store into the stack leaves the cells opened
pub opened_kept : (n : ℕ) (stack : List ℕ) (m k v i : ℕ) → m + k < n → i < m → opened_at n (set stack k v) i ≡ opened_at n stack i
unfolding opened_at value_at
opened_kept n stack m k v i fits lt = get_or-set_other stack k (n - 1 - i) v 0 (omega arith)

pub stack_aside : {N : ℕ} (n : ℕ) (room : Room N) (m k v : ℕ) (rest : List ℕ) → m + k < n → shown n (record room { stack = set room.stack k v; rest = rest }) m ≡ shown n room m
stack_aside n room m k v rest fits = shown_same n room m (set room.stack k v) rest (λ i lt. opened_kept n room.stack m k v i fits lt)

pub rest_aside : {N : ℕ} (n : ℕ) (room : Room N) (m : ℕ) (rest : List ℕ) → shown n (record room { rest = rest }) m ≡ shown n room m
unfolding shown
rest_aside n room m rest = refl

-- ---- two states that agree at each cell

record Agree (s t : Search) (x : ℕ) : Type 0 where
  pub dist : s.dist x ≡ t.dist x
  pub parent : s.parent x ≡ t.parent x
  pub front : s.front x ≡ t.front x
  pub opened : s.opened x ≡ t.opened x

by_cell : (s t : Search) (y : ℕ) → Agree s t y → ((x : ℕ) → (x ≡ y → ⊥) → Agree s t x) → s ≡ t
by_cell s t y here off = λ i. record {
  dist = fun_ext (λ x. (all x).dist) i;
  parent = fun_ext (λ x. (all x).parent) i;
  front = fun_ext (λ x. (all x).front) i;
  opened = fun_ext (λ x. (all x).opened) i;
}
  where
    all : (x : ℕ) → Agree s t x
    all x = elim (both (eqb x y)) [
      | inl e ↦ subst (Agree s t) (sym (eqb-true x y e)) here
      | inr e ↦ off x (eqb-false x y e)
    ]

-- ---- a way stored at a cell

module _ (ways : List Way) (y : ℕ) (way : Way) where
  pub way_off : (x : ℕ) → (x ≡ y → ⊥) → way_at (set ways y way) x ≡ way_at ways x
  way_off x ne = get_or-set_other ways y x way (record { nearness = 0; parent = 0 }) ne

  pub way_here : y < length ways → way_at (set ways y way) y ≡ way
  way_here lt = get_or-set_same ways y way (record { nearness = 0; parent = 0 }) lt

-- ---- the cell y joins, with c as parent

module _ (s : Search) (c g y : ℕ) where
  pub joined_here : ((joined c g y s).dist y ≡ Reached g) × ((joined c g y s).parent y ≡ c) × ((joined c g y s).front y ≡ true)
  unfolding joined
  joined_here = rw (eq-eqb y y refl, joined) (refl, refl, refl)

  pub joined_else : (x : ℕ) → (x ≡ y → ⊥) → ((joined c g y s).dist x ≡ s.dist x) × ((joined c g y s).parent x ≡ s.parent x) × ((joined c g y s).front x ≡ s.front x)
  unfolding joined
  joined_else x ne = rw (ne_eqb x y ne, joined) (refl, refl, refl)

  pub joined_opened : (x : ℕ) → (joined c g y s).opened x ≡ s.opened x
  unfolding joined
  joined_opened x = refl

module _ {N : ℕ} (n : ℕ) (room : Room N) (m c g y : ℕ) (lt : y < length room.ways) (few : g < 65535) (o : (shown n room m).opened y ≡ false) where
  abbrev pub wayed : List Way
  wayed = set room.ways y (record { nearness = 65535 - g; parent = c })

  here : way_at wayed y ≡ record { nearness = 65535 - g; parent = c }
  here = way_here room.ways y (record { nearness = 65535 - g; parent = c }) lt

  off : (x : ℕ) → (x ≡ y → ⊥) → way_at wayed x ≡ way_at room.ways x
  off = way_off room.ways y (record { nearness = 65535 - g; parent = c })

  pub joins : shown n (record room { ways = wayed }) m ≡ joined c g y (shown n room m)
  unfolding shown
  joins = by_cell (shown n (record room { ways = wayed }) m) (joined c g y (shown n room m)) y
      (let (d, p, f) = joined_here (shown n room m) c g y in record {
        dist = ap (λ (way : Way). distance_of way.nearness) here ∙ way_of g few ∙ sym d;
        parent = ap (λ (way : Way). parent_of way.nearness way.parent) here ∙ parent_of_way (65535 - g) c (omega arith) ∙ sym p;
        front = ap (λ (way : Way). ltb 0 way.nearness && not (among (opened_at n room.stack) m y)) here ∙ rw (o, lt-ltb 0 (65535 - g) (omega arith)) (sym f);
        opened = sym (joined_opened (shown n room m) c g y y);
      })
      (λ x ne. let (d, p, f) = joined_else (shown n room m) c g y x ne in record {
        dist = ap (λ (way : Way). distance_of way.nearness) (off x ne) ∙ sym d;
        parent = ap (λ (way : Way). parent_of way.nearness way.parent) (off x ne) ∙ sym p;
        front = ap (λ (way : Way). ltb 0 way.nearness && not (among (opened_at n room.stack) m x)) (off x ne) ∙ sym f;
        opened = sym (joined_opened (shown n room m) c g y x);
      })

  pub joined_of : (s' : Search) → s' ≡ joined c g y (shown n room m) → nearness_at room.ways y < 65535 - g → Joined (shown n room m) s' y g
  unfolding shown
  joined_of s' e less = rw e (record {
    here = (joined_here (shown n room m) c g y).0;
    waits = (joined_here (shown n room m) c g y).2;
    dist_off = λ x ne. (joined_else (shown n room m) c g y x ne).0;
    front_off = λ x ne. (joined_else (shown n room m) c g y x ne).2;
    opened = λ x. joined_opened (shown n room m) c g y x;
    shut = o;
    falls = λ h d. shorter (nearness_at room.ways y) g h less d;
  })

-- ---- a cell is listed as opened

module _ (n : ℕ) (stack : List ℕ) (m c : ℕ) (fits : m < n) (long : n - 1 - m < length stack) where
  abbrev pub listed : List ℕ
  listed = set stack (n - 1 - m) c

  pub opened_last : opened_at n listed m ≡ c
  unfolding opened_at value_at
  opened_last = get_or-set_same stack (n - 1 - m) c 0 long

  pub opened_before : (i : ℕ) → i < m → opened_at n listed i ≡ opened_at n stack i
  unfolding opened_at value_at
  opened_before i lt = get_or-set_other stack (n - 1 - m) (n - 1 - i) c 0 (omega arith)

  pub opened_more : (x : ℕ) → among (opened_at n listed) (m + 1) x ≡ (eqb x c || among (opened_at n stack) m x)
  unfolding among
  opened_more x = rw (add-one m) (ap₂ (λ (a b : Bool). a || b) (ap (eqb x) opened_last) (among_same (opened_at n listed) (opened_at n stack) m x opened_before))

-- ---- the top of the stack is listed as opened, and leaves

pub leaves : {N : ℕ} (n : ℕ) (room : Room N) (m c : ℕ) → m < n → n - 1 - m < length room.stack
    → shown n (record room { stack = set room.stack (n - 1 - m) c }) (m + 1) ≡ leaving c (shown n room m)
unfolding shown leaving
leaves n room m c fits long = λ t. record {
  dist = λ x. distance_of (nearness_at room.ways x);
  parent = λ x. parent_of (nearness_at room.ways x) (parent_at room.ways x);
  front = fun_ext (λ x. ap (λ (b : Bool). ltb 0 (nearness_at room.ways x) && not b) (one_more x) ∙ either (ltb 0 (nearness_at room.ways x)) (eqb x c) (among (opened_at n room.stack) m x)) t;
  opened = fun_ext one_more t;
}
  where
    one_more : (x : ℕ) → among (opened_at n (set room.stack (n - 1 - m) c)) (m + 1) x ≡ (eqb x c || among (opened_at n room.stack) m x)
    one_more x = opened_more n room.stack m c fits long x

    either : (v e o : Bool) → (v && not (e || o)) ≡ ((v && not o) && not e)
    either true true true = refl
    either true true false = refl
    either true false true = refl
    either true false false = refl
    either false true o = refl
    either false false o = refl
