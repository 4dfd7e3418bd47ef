-- The invariant of the search over sound estimates, kept by opening the cell that the search takes.
use Prim.Native.Nat.{ℕ, suc, ◌+◌, ◌≤◌, ◌<◌}
use mathlib.Core.Path.{◌≡◌, ◌∙◌, refl, sym, ap, subst}
use mathlib.Core.Logic.{◌⊎◌, inl, inr}
use mathlib.Core.Bool.{Bool, true, false, not, ◌&&◌}
use native.Mathlib.Omega.{arith}
use lib.Dec.{eqb}
use borrow.Author.Tests.{ltb-true, ltb-false, eqb-true, eqb-false, eq-eqb, ne_eqb}
use Rattle.floor.specs.declared.Floor.{Floor}
use Rattle.floor.specs.Floor.{cells, beside}
use Rattle.theory.proofs.Soundness.{Sound}
use Rattle.rules.specs.Search.{Search, falls, joins, opening}
use Rattle.floor.proofs.Tools.{both, clash, and_1, and_2, or_cases, or_1, or_2, not_t, refute}
use Rattle.floor.proofs.Geometry.{beside-right}
use Rattle.theory.proofs.Picks.{Least, same}
use Rattle.floor.specs.declared.Distance.{Distance, TheVariants.Reached, TheVariants.Unreached}

pub record Inv (f : Floor) (known : ℕ → Bool) (est : ℕ → ℕ) (cart : ℕ) (s : Search) : Type 0 where
  -- opened and frontier cells are reached, are not both, and are all the reached cells
  pub done_has : (x : ℕ) → s.opened x ≡ true → (g : ℕ) × (s.dist x ≡ Reached g)
  pub wait_has : (x : ℕ) → s.front x ≡ true → (g : ℕ) × (s.dist x ≡ Reached g)
  pub wait_in : (x : ℕ) → s.front x ≡ true → x < cells f
  pub not_both : (x : ℕ) → s.front x ≡ true → s.opened x ≡ false
  pub one_of : (x g : ℕ) → s.dist x ≡ Reached g → (s.front x ≡ true) ⊎ (s.opened x ≡ true)
  -- no opened cell's sum is above a frontier cell's
  pub order : (x g y h : ℕ) → s.opened x ≡ true → s.dist x ≡ Reached g → s.front y ≡ true → s.dist y ≡ Reached h
      → g + est x ≤ h + est y
  -- the neighbours of an opened cell are reached, at most one further
  pub closed : (x g y : ℕ) → s.opened x ≡ true → s.dist x ≡ Reached g → beside f x y ≡ true → known y ≡ false
      → (h : ℕ) × (s.dist y ≡ Reached h) × (h ≤ g + 1)
  -- reached cells are not known blocked, and hang by their parents on the cart
  pub clear : (x g : ℕ) → s.dist x ≡ Reached g → known x ≡ false
  pub origin : s.dist cart ≡ Reached 0
  pub root : (x : ℕ) → s.dist x ≡ Reached 0 → x ≡ cart
  pub linked : (x g : ℕ) → s.dist x ≡ Reached (suc g)
      → (s.opened (s.parent x) ≡ true) × (beside f (s.parent x) x ≡ true) × (s.dist (s.parent x) ≡ Reached g)

-- ---- what opening c, at g, changes

module _ (f : Floor) (known : ℕ → Bool) (c g : ℕ) (s : Search) where
  abbrev pub new : Search
  new = opening f known c g s

  abbrev pub joining : ℕ → Bool
  joining = joins f known c g s

  pub dist_yes : (x : ℕ) → joining x ≡ true → new.dist x ≡ Reached (g + 1)
  unfolding opening
  dist_yes x e = rw (e, opening)

  pub dist_no : (x : ℕ) → joining x ≡ false → new.dist x ≡ s.dist x
  unfolding opening
  dist_no x e = rw (e, opening)

  pub parent_yes : (x : ℕ) → joining x ≡ true → new.parent x ≡ c
  unfolding opening
  parent_yes x e = rw (e, opening)

  pub parent_no : (x : ℕ) → joining x ≡ false → new.parent x ≡ s.parent x
  unfolding opening
  parent_no x e = rw (e, opening)

  pub dist_cases : (x h : ℕ) → new.dist x ≡ Reached h
      → ((joining x ≡ true) × (h ≡ g + 1)) ⊎ ((joining x ≡ false) × (s.dist x ≡ Reached h))
  dist_cases x h e = elim (both (joining x)) [
    | inl j ↦ inl (j, same h (g + 1) e (dist_yes x j))
    | inr j ↦ inr (j, sym (dist_no x j) ∙ e)
  ]

  pub front_cases : (x : ℕ) → new.front x ≡ true
      → (joining x ≡ true) ⊎ ((joining x ≡ false) × (s.front x ≡ true) × (x ≡ c → ⊥))
  unfolding opening
  front_cases x e = elim (both (joining x)) [
    | inl j ↦ inl j
    | inr j ↦ inr (j, and_1 (s.front x) (not (eqb x c)) (rest j), eqb-false x c (not_t (eqb x c) (and_2 (s.front x) _ (rest j))))
  ]
    where
      rest : joining x ≡ false → (s.front x && not (eqb x c)) ≡ true
      rest j = rw j at e

  pub opened_cases : (x : ℕ) → new.opened x ≡ true → (x ≡ c) ⊎ (s.opened x ≡ true)
  unfolding opening
  opened_cases x e = elim (or_cases (eqb x c) (s.opened x) e) [ inl p ↦ inl (eqb-true x c p) | inr p ↦ inr p ]

  pub opened_new : new.opened c ≡ true
  unfolding opening
  opened_new = or_1 (eqb c c) (s.opened c) (eq-eqb c c refl)

  pub opened_old : (x : ℕ) → s.opened x ≡ true → new.opened x ≡ true
  unfolding opening
  opened_old x e = or_2 (eqb x c) (s.opened x) e

  pub front_new : (x : ℕ) → joining x ≡ true → new.front x ≡ true
  unfolding opening
  front_new x e = or_1 (joining x) _ e

  pub front_old : (x : ℕ) → s.front x ≡ true → (x ≡ c → ⊥) → new.front x ≡ true
  unfolding opening
  front_old x e n = or_2 (joining x) _ (rw (e, ne_eqb x c n))

  pub joins_beside : (x : ℕ) → joining x ≡ true → beside f c x ≡ true
  unfolding joins
  joins_beside x e = search (and_1, and_2)

  pub joins_clear : (x : ℕ) → joining x ≡ true → known x ≡ false
  unfolding joins
  joins_clear x e = not_t (known x) (search (and_1, and_2))

  pub joins_falls : (x : ℕ) → joining x ≡ true → falls (s.dist x) (g + 1) ≡ true
  unfolding joins
  joins_falls x e = search (and_1, and_2)

  pub joins_less : (x h : ℕ) → joining x ≡ true → s.dist x ≡ Reached h → g + 1 < h
  unfolding falls
  joins_less x h e d = ltb-true (g + 1) h (subst (λ (k : Distance). falls k (g + 1) ≡ true) d (joins_falls x e))

  -- a neighbour that does not join has a way that is as short
  pub joins_not : (x : ℕ) → joining x ≡ false → beside f c x ≡ true → known x ≡ false
      → (h : ℕ) × (s.dist x ≡ Reached h) × (h ≤ g + 1)
  unfolding joins falls
  joins_not x e b k = held (s.dist x) refl (rw (b, k) at e)
    where
      held : (d : Distance) → s.dist x ≡ d → falls (s.dist x) (g + 1) ≡ false → (h : ℕ) × (s.dist x ≡ Reached h) × (h ≤ g + 1)
      held Unreached q z = clash (rw q refl) z
      held (Reached h) q z = (h, q, ltb-false (g + 1) h (subst (λ (k : Distance). falls k (g + 1) ≡ false) q z))

  -- ---- the invariant is kept

  module _ (est : ℕ → ℕ) (goal cart : ℕ)
      (sound : Sound f known est goal) (inv : Inv f known est cart s) (least : Least est s (cells f) c g) where
    -- the cell taken does not join again, and no opened cell does
    self : joining c ≡ false
    self = refute _ λ j. omega (arith, joins_less c g j least.reached)

    late : (x : ℕ) → s.opened x ≡ true → joining x ≡ false
    late x o = refute _ λ j.
        let b = joins_beside x j in
        let (h, d) = inv.done_has x o in
        omega (
          arith,
          joins_less x h j d,
          inv.order x h c g o d least.waiting least.reached,
          sound.near c x b (inv.clear c g least.reached) (inv.clear x h d),
        )

    -- so opened cells keep their distance
    kept : (x : ℕ) → new.opened x ≡ true → new.dist x ≡ s.dist x
    kept x o = elim (opened_cases x o) [
      | inl e ↦ dist_no x (rw e self)
      | inr p ↦ dist_no x (late x p)
    ]

    under : (x a : ℕ) → new.opened x ≡ true → new.dist x ≡ Reached a → a + est x ≤ g + est c
    under x a o d = elim (opened_cases x o) [
      | inl e ↦ rw e (omega (arith, same a g (sym (kept x o) ∙ d) (ap s.dist e ∙ least.reached)))
      | inr p ↦ inv.order x a c g p (sym (kept x o) ∙ d) least.waiting least.reached
    ]

    over : (y b : ℕ) → new.front y ≡ true → new.dist y ≡ Reached b → g + est c ≤ b + est y
    over y b w d = elim (front_cases y w) [
      | inl j ↦ omega (
        arith,
        same b (g + 1) d (dist_yes y j),
        sound.near c y (joins_beside y j) (inv.clear c g least.reached) (joins_clear y j),
      )
      | inr q ↦ least.least y (inv.wait_in y q.1) b q.1 (sym (dist_no y q.0) ∙ d)
    ]

    -- a distance at most m stays so
    near : (y m : ℕ) → (h : ℕ) × (s.dist y ≡ Reached h) × (h ≤ m) → (h : ℕ) × (new.dist y ≡ Reached h) × (h ≤ m)
    near y m (h, d, le) = elim (both (joining y)) [
      | inl j ↦ (g + 1, dist_yes y j, omega (arith, joins_less y h j d))
      | inr j ↦ (h, dist_no y j ∙ d, le)
    ]

    reach : (y : ℕ) → beside f c y ≡ true → known y ≡ false → (h : ℕ) × (new.dist y ≡ Reached h) × (h ≤ g + 1)
    reach y b k = elim (both (joining y)) [
      | inl j ↦ (g + 1, dist_yes y j, omega arith)
      | inr j ↦ near y (g + 1) (joins_not y j b k)
    ]

    hang : (x p a : ℕ) → new.parent x ≡ p → new.opened p ≡ true → beside f p x ≡ true → s.dist p ≡ Reached a
        → (new.opened (new.parent x) ≡ true) × (beside f (new.parent x) x ≡ true) × (new.dist (new.parent x) ≡ Reached a)
    hang x p a e o b d = rw e (o, b, kept p o ∙ d)

    pub inv_opening : Inv f known est cart new
    inv_opening = record {
      done_has = λ x o. elim (opened_cases x o) [
        | inl e ↦ (g, kept x o ∙ ap s.dist e ∙ least.reached)
        | inr p ↦ ((inv.done_has x p).0, kept x o ∙ (inv.done_has x p).1)
      ];
      wait_has = λ x w. elim (front_cases x w) [
        | inl j ↦ (g + 1, dist_yes x j)
        | inr q ↦ ((inv.wait_has x q.1).0, dist_no x q.0 ∙ (inv.wait_has x q.1).1)
      ];
      wait_in = λ x w. elim (front_cases x w) [
        | inl j ↦ beside-right f c x (joins_beside x j)
        | inr q ↦ inv.wait_in x q.1
      ];
      not_both = λ x w. refute _ λ o. elim (front_cases x w) [
        | inl j ↦ elim (opened_cases x o) [ inl e ↦ clash (rw e at j) self | inr p ↦ clash j (late x p) ]
        | inr q ↦ elim (opened_cases x o) [ inl e ↦ q.2 e | inr p ↦ clash p (inv.not_both x q.1) ]
      ];
      one_of = λ x h d. elim (dist_cases x h d) [
        | inl q ↦ inl (front_new x q.0)
        | inr q ↦ elim (inv.one_of x h q.1) [
          | inl w ↦ elim (both (eqb x c)) [
            | inl e ↦ inr (rw (eqb-true x c e) opened_new)
            | inr e ↦ inl (front_old x w (eqb-false x c e))
          ]
          | inr o ↦ inr (opened_old x o)
        ]
      ];
      order = λ x a y b o d w e. omega (arith, under x a o d, over y b w e);
      closed = λ x a y o d b k. elim (opened_cases x o) [
        | inl e ↦ rw (same a g (sym (kept x o) ∙ d) (ap s.dist e ∙ least.reached)) (reach y (rw e at b) k)
        | inr p ↦ near y (a + 1) (inv.closed x a y p (sym (kept x o) ∙ d) b k)
      ];
      clear = λ x a d. elim (dist_cases x a d) [
        | inl q ↦ joins_clear x q.0
        | inr q ↦ inv.clear x a q.1
      ];
      origin = dist_no cart (refute _ λ j. omega (arith, joins_less cart 0 j inv.origin)) ∙ inv.origin;
      root = λ x d. elim (dist_cases x 0 d) [
        | inl q ↦ absurd (none g q.1)
        | inr q ↦ inv.root x q.1
      ];
      linked = λ x a d. elim (dist_cases x (suc a) d) [
        | inl q ↦ hang x c a (parent_yes x q.0) opened_new (joins_beside x q.0)
            (least.reached ∙ ap Reached (pred_eq a g q.1))
        | inr q ↦ let l = inv.linked x a q.1 in
            hang x (s.parent x) a (parent_no x q.0) (opened_old (s.parent x) l.0) l.1 l.2
      ];
    }
      where
        none : (g : ℕ) → 0 ≡ g + 1 → ⊥
        none g e = omega arith

        pred_eq : (a g : ℕ) → suc a ≡ g + 1 → g ≡ a
        pred_eq a g e = omega arith
