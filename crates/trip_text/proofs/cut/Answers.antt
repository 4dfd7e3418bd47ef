-- The line feed stands where the library finds it.
use Rattle.std.proofs.Common.{◌≡◌, ℕ, ◌+◌, ◌<◌, List, [], ◌∷◌, length, arith, rules, refl}
use borrow.Author.Tests.{tests, eq-eqb, ne_eqb}
use Rattle.std.proofs.lemmas.Iterator.{YieldsList-from_slice, IsFirst-from_position, index_from_first}
use Rattle.std.specs.List.{AllWithin, HoldsAt}
use Rattle.std.specs.Option.{MatchOption, unwrap_or}
use Rattle.trip_text.specs.Scan.{index_of, index_after}
use Rattle.trip_text.proofs.Asking.{rest_whole}
use Rattle.trip_text.proofs.cut.Goals.{After-position}
use Rattle.trip_text.proofs.cut.Goals as goal

hit : (x : ℕ) (xs : List ℕ) → x ≡ 10 → index_of 10 (x ∷ xs) ≡ 0
unfolding index_of index_after
hit x xs e = rw (eq-eqb x 10 e) refl

miss : (x : ℕ) (xs : List ℕ) → (x ≡ 10 → ⊥) → index_of 10 (x ∷ xs) ≡ index_of 10 xs + 1
unfolding index_of index_after
miss x xs h = rw (ne_eqb x 10 h) (omega arith)

none : index_of 10 [] ≡ 0
unfolding index_of
none = refl

-- the first line feed
first : (c : After-position) → MatchOption c.position.result (AllWithin (λ x. x ≡ 10 → ⊥) c.args.text.now 0 (length c.args.text.now))
    (λ i. (i < length c.args.text.now) × HoldsAt (λ x. x ≡ 10) c.args.text.now i × AllWithin (λ x. x ≡ 10 → ⊥) c.args.text.now 0 i)
first c = IsFirst-from_position _ _ _ (λ x. x ≡ 10) (λ x. x ≡ 10 → ⊥) c.position.ensures.ran (YieldsList-from_slice c.args.text.now c.iter.ensures.rest) (λ x q k. search (rules, tests)) (λ x q k. search (rules, tests))

place : (c : After-position) → index_of 10 c.args.text.now ≡ unwrap_or c.position.result (length c.args.text.now)
place c = index_from_first (index_of 10) (λ x. x ≡ 10) (λ x. x ≡ 10 → ⊥) none hit miss c.args.text.now c.position.result (first c)

pub returns-in_err-end : goal.returns-in_err-end
returns-in_err-end c =
    let at = rw c.in_err-end.was at (place (goal.at.returns-in_err-end c).After-position) in
    rw c.from_residual.ensures (omega (arith, at))

pub returns : goal.returns
returns c =
    let at = rw c.in_ok-end.was at (place (goal.at.returns c).After-position) in
    let within = rw c.in_ok-end.was at (first (goal.at.returns c).After-position) in
    rw at (within.0, refl, rest_whole (c.in_ok-end.end + 1) c.args.text.now)
