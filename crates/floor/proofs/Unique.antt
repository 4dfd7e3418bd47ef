-- What the two entries promise allows one outcome alone, and a refusal is known by its number.
use Rattle.std.specs.Prelude.{ℕ, ◌≡◌, List, [], ◌∷◌, get_or, Result, Ok, Err, IfOk}
use native.Mathlib.Omega.{arith}
use mathlib.Core.Path.{◌∙◌, refl, sym, ap}
use Rattle.floor.specs.declared.Refusal.TheVariants.{Sizes, Lengths, Cells, Settings, Trail, Bytes, KnownMap, Blocked, Estimates, RecordSize, RecordValues, Serial}
use Rattle.floor.specs.Floor.{Floor, Refusal, number, refused, PreparePromise, RequiredPromise}

-- the refusals in the order of their numbers, from 0 on
in_order : List Refusal
in_order = Sizes ∷ Sizes ∷ Lengths ∷ Cells ∷ Settings ∷ Trail ∷ Bytes ∷ KnownMap ∷ Blocked ∷ Estimates ∷ RecordSize ∷ RecordValues ∷ Serial ∷ []

named : (r : Refusal) → get_or in_order (number r) Sizes ≡ r
unfolding in_order
named Sizes = refl
named Lengths = refl
named Cells = refl
named Settings = refl
named Trail = refl
named Bytes = refl
named KnownMap = refl
named Blocked = refl
named Estimates = refl
named RecordSize = refl
named RecordValues = refl
named Serial = refl

pub same_refusal : (r s : Refusal) → number r ≡ number s → r ≡ s
same_refusal r s e = sym (named r) ∙ ap (λ n. get_or in_order n Sizes) e ∙ named s

pub some_number : (r : Refusal) → number r ≡ 0 → ⊥
some_number Sizes e = absurd (omega arith)
some_number Lengths e = absurd (omega arith)
some_number Cells e = absurd (omega arith)
some_number Settings e = absurd (omega arith)
some_number Trail e = absurd (omega arith)
some_number Bytes e = absurd (omega arith)
some_number KnownMap e = absurd (omega arith)
some_number Blocked e = absurd (omega arith)
some_number Estimates e = absurd (omega arith)
some_number RecordSize e = absurd (omega arith)
some_number RecordValues e = absurd (omega arith)
some_number Serial e = absurd (omega arith)

-- two answers with one number, whose values are the same where there are any
pub same_answer : {A : Type 0} (v : A) (a b : Result A Refusal) → refused a ≡ refused b → IfOk a (λ x. x ≡ v) → IfOk b (λ x. x ≡ v) → a ≡ b
unfolding refused
same_answer v (Ok x) (Ok y) e p q = ap Ok (p ∙ sym q)
same_answer v (Ok x) (Err s) e p q = absurd (some_number s (sym e))
same_answer v (Err r) (Ok y) e p q = absurd (some_number r e)
same_answer v (Err r) (Err s) e p q = ap Err (same_refusal r s e)

-- an answer that has no value is known by its number
pub same_test : (a b : Result (Unit {0}) Refusal) → refused a ≡ refused b → a ≡ b
same_test a b e = same_answer tt a b e (valueless a) (valueless b)
  where
    valueless : (a : Result (Unit {0}) Refusal) → IfOk a (λ x. x ≡ tt)
    valueless (Ok x) = refl
    valueless (Err r) = tt

pub prepare_unique : {f : Floor} {goal : ℕ} {est : List ℕ} {a b : Result (Unit {0}) Refusal} {l m : List ℕ}
    → PreparePromise f goal est a l → PreparePromise f goal est b m → (a ≡ b) × (l ≡ m)
prepare_unique {a = a} {b = b} p q = (same_test a b (p.answers ∙ sym q.answers), p.writes ∙ sym q.writes)

pub required_unique : {f : Floor} {start goal : ℕ} {a b : Result ℕ Refusal}
    → RequiredPromise f start goal a → RequiredPromise f start goal b → a ≡ b
required_unique {a = a} {b = b} p q = same_answer _ a b (p.answers ∙ sym q.answers) p.figure q.figure
