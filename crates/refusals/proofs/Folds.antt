-- What a chain joins, with one test an item, is the test at every number: the item's place in the list that the chain goes over, or in
-- each of the lists that it goes over side by side.
use Rattle.std.specs.Prelude.{fold, min}
use Rattle.std.specs.List.{zip}
use Rattle.std.proofs.Common.{◌≡◌, ◌∙◌, ℕ, zero, suc, ◌+◌, ◌<◌, Bool, true, false, ◌&&◌, List, [], ◌∷◌, length, get_or, refl, sym, ap, arith, add-one}
use Rattle.std.proofs.lemmas.Slice.Zip.{get_or-zip, length-zip}
use Rattle.floor.specs.Floor.{value_at}
use Rattle.rules.specs.Sound.{every}

and-assoc : (a b c : Bool) → (a && (b && c)) ≡ ((a && b) && c)
and-assoc true b c = refl
and-assoc false b c = refl

-- a test that is joined to no other
and_true : (b : Bool) → (b && true) ≡ b
and_true true = refl
and_true false = refl

-- a test of every number below n + 1, from the front
every_front : (n : ℕ) (p : ℕ → Bool) → every (suc n) p ≡ (every n (λ i. p (suc i)) && p 0)
unfolding every
every_front zero p = and_true (p 0)
every_front (suc n) p = rw (every_front n p) (and-assoc (p (suc n)) (every n (λ i. p (suc i))) (p 0))

-- one number more
pub every_more : (p : ℕ → Bool) (i : ℕ) (t ok : Bool) → t ≡ p i → ok ≡ every i p → (t && ok) ≡ every (i + 1) p
unfolding every
every_more p i t ok e h = rw (add-one i, e, h)

-- the same test of every number
pub every_same : (n : ℕ) (p q : ℕ → Bool) → ((i : ℕ) → i < n → p i ≡ q i) → every n p ≡ every n q
unfolding every
every_same zero p q h = refl
every_same (suc n) p q h = rw (h n (omega arith), every_same n p q (λ i lt. h i (omega arith)))

folded : {A : Type 0} (t : A → Bool) (d : A) (xs : List A) (b : Bool) → fold (λ ok x. t x && ok) b xs ≡ (every (length xs) (λ i. t (get_or xs i d)) && b)
unfolding every
folded t d [] b = refl
folded t d (x ∷ xs) b =
    folded t d xs (t x && b)
    ∙ and-assoc (every (length xs) (λ i. t (get_or xs i d))) (t x) b
    ∙ ap (λ a. a && b) (sym (every_front (length xs) (λ i. t (get_or (x ∷ xs) i d))))

pub all_of : (t : ℕ → Bool) (n : ℕ) (xs : List ℕ) → length xs ≡ n → fold (λ ok x. t x && ok) true xs ≡ every n (λ i. t (value_at xs i))
unfolding value_at
all_of t n xs e = folded t 0 xs true ∙ and_true _ ∙ rw e

min_same : (n : ℕ) → min n n ≡ n
min_same n = omega arith

-- two lists side by side
pub all_of_both : (t : ℕ → ℕ → Bool) (n : ℕ) (xs ys : List ℕ) → length xs ≡ n → length ys ≡ n
    → fold (λ ok p. t p.0 p.1 && ok) true (zip xs ys) ≡ every n (λ i. t (value_at xs i) (value_at ys i))
unfolding value_at
all_of_both t n xs ys e f =
    folded (λ (p : ℕ × ℕ). t p.0 p.1) (0, 0) (zip xs ys) true ∙ and_true _
    ∙ rw (length-zip xs ys, e, f, min_same n) (every_same n _ _ (λ i lt.
    let a : i < length xs = omega arith in
    let b : i < length ys = omega arith in
    rw (get_or-zip xs ys i (0, 0))))

-- two pairs of lists side by side
pub all_of_four : (t : ℕ → ℕ → ℕ → ℕ → Bool) (n : ℕ) (xs ys us vs : List ℕ) → length xs ≡ n → length ys ≡ n → length us ≡ n → length vs ≡ n
    → fold (λ ok p. t p.0.0 p.0.1 p.1.0 p.1.1 && ok) true (zip (zip xs ys) (zip us vs))
    ≡ every n (λ i. t (value_at xs i) (value_at ys i) (value_at us i) (value_at vs i))
unfolding value_at
all_of_four t n xs ys us vs e f g h =
    let a : length (zip xs ys) ≡ n = length-zip xs ys ∙ rw (e, f) (min_same n) in
    let b : length (zip us vs) ≡ n = length-zip us vs ∙ rw (g, h) (min_same n) in
    folded (λ (p : (ℕ × ℕ) × (ℕ × ℕ)). t p.0.0 p.0.1 p.1.0 p.1.1) ((0, 0), (0, 0)) (zip (zip xs ys) (zip us vs)) true ∙ and_true _
    ∙ rw (length-zip (zip xs ys) (zip us vs), a, b, min_same n) (every_same n _ _ (λ i lt.
    let ax : i < length (zip xs ys) = omega arith in
    let bx : i < length (zip us vs) = omega arith in
    let lx : i < length xs = omega arith in
    let ly : i < length ys = omega arith in
    let lu : i < length us = omega arith in
    let lv : i < length vs = omega arith in
    rw (get_or-zip (zip xs ys) (zip us vs) i ((0, 0), (0, 0)), get_or-zip xs ys i (0, 0), get_or-zip us vs i (0, 0))))
