-- What an entry promises of its answer, told in the C interface's numbers.
use Rattle.std.specs.Prelude.{◌≡◌, ℕ, List, [], ◌∷◌, Result, Ok, Err, MatchResult}
use Rattle.std.specs.Result.{result_unwrap_or}
use mathlib.Core.Path.{◌∙◌, refl, sym, ap}
use Rattle.floor.specs.Floor.{number, refused, if_accepted, manhattan, required_refusal, RequiredPromise}
use Rattle.floor.specs.declared.{Floor.Floor, Refusal.Refusal}
use Rattle.floor.proofs.Refusing.{refused_left, accepted_left}
use Rattle.floor.proofs.Unique.{some_number}
use Rattle.rules.specs.declared.Trip.{Trip}
use Rattle.rules.specs.Record.{got, trip_at}
use Rattle.planner.specs.Interface.{RequiredCall, values}

pub required_told : (f : Floor) (start goal : ℕ) (a : Result ℕ Refusal) → RequiredPromise f start goal a
    → RequiredCall f start goal (refused a) (result_unwrap_or a 0 ∷ [])
unfolding refused
required_told f start goal (Ok m) p =
    record { answers = p.answers; tells = ap (λ n. n ∷ []) (p.figure ∙ sym (accepted_left (sym p.answers) (manhattan f start goal) 0)) }
required_told f start goal (Err r) p =
    record { answers = p.answers; tells = ap (λ n. n ∷ []) (sym (refused_left (λ z. some_number r (p.answers ∙ z)) (manhattan f start goal) 0)) }

-- in no bytes at all every value is 0
no_values : 0 ∷ 0 ∷ 0 ∷ 0 ∷ 0 ∷ 0 ∷ 0 ∷ 0 ∷ 0 ∷ 0 ∷ [] ≡ values (trip_at [] 0)
unfolding values trip_at got
no_values = refl

pub values_told : (a : Result Trip Refusal) (l : List ℕ)
    → MatchResult a (λ t. l ≡ values t) (λ r. l ≡ 0 ∷ 0 ∷ 0 ∷ 0 ∷ 0 ∷ 0 ∷ 0 ∷ 0 ∷ 0 ∷ 0 ∷ [])
    → l ≡ values (result_unwrap_or a (trip_at [] 0))
values_told (Ok t) l m = m
values_told (Err r) l m = m ∙ no_values
