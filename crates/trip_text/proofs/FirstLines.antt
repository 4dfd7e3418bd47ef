-- A first line read word by word: a word that is no number, or a word too few or too many, is a fault.
use Rattle.std.proofs.Common.{Bool, ◌≡◌, ◌∙◌, ℕ, ◌+◌, ◌-◌, ◌≤◌, ◌<◌, List, [], ◌∷◌, true, false, length, drop, length-drop, Option, Some, None, Bor, refl, sym, ap, arith}
use native.Mathlib.Numerals.{add-one}
use lib.Dec.{leb, eqb}
use borrow.Author.Tests.{le-leb, lt-leb, eq-eqb, ne_eqb}
use denote.Param.Members.{Mut}
use Rattle.std.specs.Fn.{CalledAt}
use Rattle.std.specs.Slice.Iter.{split_rest, split_done, split_callee, split_steps}
use Rattle.std.specs.Option.{MatchOption, IsSome, is_some}
use Rattle.floor.proofs.Tools.{clash, and_1, and_2, refute, below_suc}
use Rattle.rules.specs.Sound.{every}
use Rattle.rules.specs.Printer.{split, is_number, value_of, word, field}
use Rattle.theory.proofs.Soundness.{every_at, every_i}
use Rattle.trip_text.specs.Heard.{errand_at}
use Rattle.trip_text.specs.Parts.{number_in, in_place, said, line_ok, errand_of}
use Rattle.trip_text.proofs.Words.{number_said, fault_said}
use Rattle.trip_text.proofs.Splitting.{left, next_piece}
use Rattle.trip_text.proofs.Pieces.{some_left, next_left, here}

module _ (line : List ℕ) where
  -- the first i words are numbers, and such pieces are left behind them
  pub record Reading (i : ℕ) (pieces : List (List ℕ)) : Type 0 where
    pub rest : drop i (split 32 line) ≡ pieces
    pub counted : i ≤ length (split 32 line)
    pub numbers : (j : ℕ) → j < i → is_number (word line j) ≡ true

  pub none_read : (pieces : List (List ℕ)) → pieces ≡ split 32 line → Reading 0 pieces
  none_read pieces e = record { rest = sym e; counted = omega arith; numbers = λ j lt. absurd (omega arith) }

  pub faulty : line_ok line ≡ false → None ≡ errand_of line
  unfolding errand_of
  faulty e = rw (e, errand_of)

  not_seven : (length (split 32 line) ≡ 7 → ⊥) → line_ok line ≡ false
  unfolding line_ok
  not_seven h = rw (ne_eqb (length (split 32 line)) 7 h, line_ok)

  no_number_at : (i : ℕ) → i < 7 → is_number (word line i) ≡ false → line_ok line ≡ false
  unfolding line_ok
  no_number_at i lt e = refute (line_ok line) (λ t. clash (every_at 7 _ (and_2 (eqb (length (split 32 line)) 7) _ (and_1 _ _ t)) i lt) e)

  module _ (i : ℕ) (pieces rest : List (List ℕ)) (r : Reading i pieces) where
    all_read : pieces ≡ [] → length (split 32 line) ≡ i
    all_read e =
        let none : length (split 32 line) - i ≡ 0 = sym (length-drop i (split 32 line)) ∙ ap length (r.rest ∙ e) in
        omega (arith, r.counted)

    pub too_few : i < 7 → pieces ≡ [] → line_ok line ≡ false
    too_few lt e = not_seven (λ s. omega (arith, all_read e))

    module _ (w : List ℕ) (next : pieces ≡ w ∷ rest) where
      is_word : word line i ≡ in_place i w
      unfolding word in_place
      is_word = ap (in_place i) (here (split 32 line) i w rest (r.rest ∙ next) [])

      some : i < length (split 32 line)
      some = some_left (split 32 line) i w rest (r.rest ∙ next)

      pub too_many : 7 ≤ i → line_ok line ≡ false
      too_many le = not_seven (λ s. omega (arith, some))

      pub bad_word : i < 7 → None ≡ number_in (in_place i w) → line_ok line ≡ false
      bad_word lt e = no_number_at i lt (ap is_number is_word ∙ fault_said _ e)

      pub good_word : (n : ℕ) → Some n ≡ number_in (in_place i w) → Reading (i + 1) rest × (n ≡ field line i)
      unfolding field
      good_word n e =
          let say = number_said _ n e in (
            record {
              rest = next_left (split 32 line) i w rest (r.rest ∙ next);
              counted = omega (arith, some);
              numbers = rw (add-one i) (below_suc (λ j. is_number (word line j) ≡ true) i r.numbers (ap is_number is_word ∙ say.0));
            },
            say.1 ∙ ap (value_of 0) (sym is_word),
          )

    module _ (all : i ≡ 7) where
      pub judged_by : pieces ≡ [] → leb (field line 6) 16384 ≡ line_ok line
      unfolding line_ok
      judged_by e =
          let seven : eqb (length (split 32 line)) 7 ≡ true = eq-eqb (length (split 32 line)) 7 (all_read e ∙ all) in
          let each : every 7 (λ j. is_number (word line j)) ≡ true = every_i 7 _ (λ j lt. r.numbers j (omega (arith, all))) in
          rw (seven, each, line_ok) refl

  -- the next word, where there is one
  module _ (i : ℕ) (pieces rest : List (List ℕ)) (r : Reading i pieces) where
    unsaid : i < 7 → (word : Option (Bor (List ℕ))) → MatchOption word (pieces ≡ []) (λ w. pieces ≡ w.now ∷ rest)
        → None ≡ said (λ w. number_in (in_place i w)) word → None ≡ errand_of line
    unsaid lt None e says = faulty (too_few i pieces rest r lt e)
    unsaid lt (Some w) e says = faulty (bad_word i pieces rest r w.now e lt says)

    heard : (word : Option (Bor (List ℕ))) → MatchOption word (pieces ≡ []) (λ w. pieces ≡ w.now ∷ rest)
        → (n : ℕ) → Some n ≡ said (λ w. number_in (in_place i w)) word → Reading (i + 1) rest × (n ≡ field line i)
    heard None e n says = absurd (cc)
    heard (Some w) e n says = good_word i pieces rest r w.now e n says

    one_more : 7 ≤ i → (word : Option (Bor (List ℕ))) → MatchOption word (pieces ≡ []) (λ w. pieces ≡ w.now ∷ rest) → IsSome word → None ≡ errand_of line
    one_more le None e s = absurd (cc)
    one_more le (Some w) e s = faulty (too_many i pieces rest r w.now e le)

    -- after all seven, by the allowance
    no_more : i ≡ 7 → (word : Option (Bor (List ℕ))) → MatchOption word (pieces ≡ []) (λ w. pieces ≡ w.now ∷ rest) → is_some word ≡ false
        → leb (field line 6) 16384 ≡ line_ok line
    no_more all None e s = judged_by i pieces rest r all e
    no_more all (Some w) e s = absurd (cc)

  -- ---- the same of the library's iterator over the words, whose next call took it from s to t

  module _ {F : Type 0} (i : ℕ) (s t : _) (g : Mut F (Bor ℕ × Unit {0}) Bool) (word : Option (Bor (List ℕ))) (r : Reading i (left 32 (split_done s) (split_rest s)))
      (step : split_steps g s word t) (tests : (x : ℕ) (u : Bool) (q : F) → CalledAt g (split_callee s) x u q → (q ≡ split_callee s) × (u ≡ eqb x 32)) where
    pub none_next : i < 7 → None ≡ said (λ w. number_in (in_place i w)) word → None ≡ errand_of line
    none_next lt says = unsaid i _ _ r lt word (next_piece 32 s t g word step tests) says

    pub next_number : (n : ℕ) → Some n ≡ said (λ w. number_in (in_place i w)) word → Reading (i + 1) (left 32 (split_done t) (split_rest t)) × (n ≡ field line i)
    next_number n says = heard i _ _ r word (next_piece 32 s t g word step tests) n says

    pub one_too_many : 7 ≤ i → IsSome word → None ≡ errand_of line
    one_too_many le some = one_more i _ _ r le word (next_piece 32 s t g word step tests) some

    pub by_allowance : i ≡ 7 → is_some word ≡ false → leb (field line 6) 16384 ≡ line_ok line
    by_allowance all none = no_more i _ _ r all word (next_piece 32 s t g word step tests) none

  pub too_far : 16384 < field line 6 → leb (field line 6) 16384 ≡ line_ok line → None ≡ errand_of line
  too_far lt is = faulty (sym is ∙ lt-leb (field line 6) 16384 lt)

  pub lawful : field line 6 ≤ 16384 → leb (field line 6) 16384 ≡ line_ok line → Some (errand_at line) ≡ errand_of line
  unfolding errand_of
  lawful le is = let ok : line_ok line ≡ true = sym is ∙ le-leb (field line 6) 16384 le in rw (ok, errand_of)
