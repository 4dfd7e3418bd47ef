-- The library's `split` at a byte: each call of `next` takes the first of the pieces that are left.
use Rattle.std.proofs.Common.{◌≡◌, ◌∙◌, ℕ, Bool, true, false, cond, eqb, List, [], ◌∷◌, ◌++◌, length, get_or, Bor, Option, Some, None, refl, ap, sym, subst, arith}
use Rattle.std.proofs.lemmas.Fn.{always_returns_same}
use Rattle.std.proofs.lemmas.Grind.{common_steps}
use Rattle.std.proofs.lemmas.List.Splits.{slice_split_none, slice_split_at}
use Rattle.std.specs.Bool.{MatchBool}
use Rattle.std.specs.Fn.{CalledAt, ComputesKey}
use Rattle.std.specs.List.{All, onto_first, slice_split, IsFirstMatchOrLen}
use Rattle.std.specs.Option.{MatchOption}
use Rattle.std.specs.Slice.Iter as slice
use denote.Param.Members.{Mut}
use Rattle.rules.specs.Printer.{joined, split}

-- the library cuts a list as document 01 does
module _ (b : ℕ) where
  cut : Bool → ℕ → List ℕ → List (List ℕ)
  cut t x l = elim t [ true ↦ [] ∷ split b l | false ↦ joined x (split b l) ]

  onto : (x : ℕ) (ps : List (List ℕ)) → onto_first x ps ≡ joined x ps
  unfolding joined
  onto x [] = refl
  onto x (w ∷ ws) = refl

  pub same_pieces : (l : List ℕ) → slice_split (λ x. eqb x b) l ≡ split b l
  unfolding split cut
  same_pieces [] = refl
  same_pieces (x ∷ l) = at (eqb x b) (same_pieces l)
    where
      at : (t : Bool) → slice_split (λ y. eqb y b) l ≡ split b l → cond t ([] ∷ slice_split (λ y. eqb y b) l) (onto_first x (slice_split (λ y. eqb y b) l)) ≡ cut t x l
      at true e = ap (λ (ps : List (List ℕ)). [] ∷ ps) e
      at false e = ap (onto_first x) e ∙ onto x (split b l)

  part : (xs x rest : List ℕ) (done : Bool) → MatchBool done (xs ≡ x) ((y : ℕ) × (xs ≡ x ++ (y ∷ rest))) → IsFirstMatchOrLen (λ y. eqb y b) xs (length x)
      → slice_split (λ y. eqb y b) xs ≡ x ∷ cond done [] (slice_split (λ y. eqb y b) rest)
  part xs x rest true e h = ap (slice_split (λ y. eqb y b)) e ∙ slice_split_none (λ y. eqb y b) x (λ k d l. subst (λ ys. eqb (get_or ys k d) b ≡ false) e (h.0 k d (omega arith) l))
  part xs x rest false e h =
      let front : All (λ z. eqb z b ≡ false) x = λ k d l. let a = h.0 k d (omega arith) l in let b = e.1 in grind (arith, common_steps) in
      let hit : eqb e.0 b ≡ true = let a = e.1 in let c = h.1 (grind (arith, common_steps)) e.0 in grind (arith, common_steps) in
      ap (slice_split (λ y. eqb y b)) e.1 ∙ slice_split_at (λ y. eqb y b) x e.0 rest front hit

  -- the pieces that are left of a list; of one that is done, none
  pub left : Bool → List ℕ → List (List ℕ)
  left done rest = cond done [] (split b rest)

  pub all_left : (done : Bool) (rest l : List ℕ) → done ≡ false → rest ≡ l → left done rest ≡ split b l
  unfolding left
  all_left done rest l d e = rw (d, e) refl

  pub next_piece : {F : Type 0} (s t : _) (g : Mut F (Bor ℕ × Unit {0}) Bool) (r : Option (Bor (List ℕ))) → slice.split_steps g s r t
      → ((x : ℕ) (u : Bool) (q : F) → CalledAt g (slice.split_callee s) x u q → (q ≡ slice.split_callee s) × (u ≡ eqb x b))
      → MatchOption r (left (slice.split_done s) (slice.split_rest s) ≡ []) (λ w. left (slice.split_done s) (slice.split_rest s) ≡ w.now ∷ left (slice.split_done t) (slice.split_rest t))
  unfolding left
  next_piece s t g None k tests = rw k.0 refl
  next_piece s t g (Some x) k tests =
      let key : ComputesKey g (λ y. eqb y b) (slice.split_callee s) =
      always_returns_same g (λ a r. r ≡ eqb a.0.now b) (slice.split_callee s) (λ a r q k. let m = tests a.0.now r q (record { shown = a.0; shows = refl; called = k }) in (m.1, m.0)) in
      let cuts = part (slice.split_rest s) x.now (slice.split_rest t) (slice.split_done t) k.1 (k.2 (λ y. eqb y b) key).1 in
      rw k.0 (sym (same_pieces (slice.split_rest s)) ∙ cuts ∙ ap (λ (ps : List (List ℕ)). x.now ∷ cond (slice.split_done t) [] ps) (same_pieces (slice.split_rest t)))
