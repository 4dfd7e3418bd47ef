-- The trip that a text asks for, laid out at the front of what was lent.
use Prim.Native.Nat.{ℕ, ◌+◌, ◌<◌}
use mathlib.Core.Path.{◌≡◌, ◌∙◌, refl, sym, ap, subst}
use mathlib.Core.Bool.{true}
use mathlib.Core.List.{List, ◌++◌}
use lib.ListN.{length, take, drop}
use Rattle.trip_text.specs.Scan.{index_of}
use borrow.Author.Tests.{eq-eqb, lt-ltb}
use Rattle.std.specs.Prelude.{Result, Ok, Err}
use Rattle.std.specs.Result.{IsErr, IsErrAnd, IfErr}
use Rattle.floor.specs.declared.{Floor.Floor, Refusal.Refusal}
use Rattle.floor.specs.Floor.{sizes_ok, cells, tabulate, byte, prepare_refusal, prepared, PreparePromise}
use Rattle.floor.proofs.Boards.{length-tabulate}
use Rattle.floor.proofs.Refusing.{passes, passes_all, accepted_left}
use Rattle.rules.specs.Printer.{asked}
use Rattle.trip_text.specs.declared.{Errand.Errand, Unheard.Unheard}
use Rattle.trip_text.specs.declared.Unheard.TheVariants as unheard
use Rattle.trip_text.specs.Parts.{mark}
use Rattle.trip_text.specs.Heard.{Asked, errand_at, errand_in, heard_in, Tabled, fronted, told, laid, ReadPromise}
use Rattle.trip_text.proofs.Pieces.{from_front}
use Rattle.trip_text.proofs.Asking.{errand, aimed, plan_is}

-- a map that takes the front of what was lent
pub onto : (map laid lent : List ℕ) (n : ℕ) → map ≡ laid → n ≡ length laid → map ++ drop n lent ≡ fronted laid lent
unfolding fronted
onto map laid lent n e long = rw (e, long) refl

-- prepared estimates at the front of what was lent
pub prepared_front : (f : Floor) (goal : ℕ) (lent map : List ℕ) (n : ℕ) (answer : Result (Unit {0}) Refusal) → sizes_ok f ≡ true → goal < cells f → n ≡ cells f → n ≡ length (take n lent)
    → PreparePromise f goal (take n lent) answer map → map ++ drop n lent ≡ fronted (prepared f goal) lent
unfolding prepared prepare_refusal
prepared_front f goal lent map n answer sized aim is long p =
    let fine : prepare_refusal f goal (take n lent) ≡ 0 =
    passes 1 _ _ sized (passes 2 _ _ (eq-eqb (length (take n lent)) (cells f) (sym long ∙ is)) (passes 3 _ _ (lt-ltb goal (cells f) aim) passes_all)) in
    onto map (prepared f goal) lent n (p.writes ∙ accepted_left fine (prepared f goal) (take n lent)) (is ∙ sym (length-tabulate (cells f) _))

module _ (text : List ℕ) (e : Errand) (asks : heard_in text ≡ Asked e) where
  pub aims : e.goal < cells e.floor
  aims = subst (λ (d : Errand). d.goal < cells d.floor) (errand text e asks) (aimed text e asks)

  pub known_laid : (lent : List ℕ) → fronted (tabulate (cells e.floor) (λ x. 0)) lent ≡ fronted (asked text).stand.known lent
  unfolding errand_at errand_in asked
  known_laid lent = ap (λ (d : Errand). fronted (tabulate (cells d.floor) (λ x. 0)) lent) (sym (errand text e asks))

  pub est_laid : (lent : List ℕ) → fronted (prepared e.floor e.goal) lent ≡ fronted (asked text).stand.est lent
  unfolding errand_at errand_in asked
  est_laid lent = ap (λ (d : Errand). fronted (prepared d.floor d.goal) lent) (sym (errand text e asks))

  pub plan_laid : (rows lent : List ℕ) → rows ≡ drop (index_of 10 text + 1) text
      → fronted (tabulate (cells e.floor) (λ x. byte (mark rows e.floor.width x))) lent ≡ fronted (asked text).plan lent
  plan_laid rows lent is =
      rw is (ap (λ (d : Errand). fronted (tabulate (cells d.floor) (λ x. byte (mark (drop (index_of 10 text + 1) text) d.floor.width x))) lent) (sym (errand text e asks))
      ∙ ap (λ (l : List ℕ). fronted l lent) (plan_is text e asks (index_of 10 text) (from_front 10 text)))

-- where no trip is asked for, nothing is laid out
pub nothing_laid : (text plan known est : List ℕ) (answer : Result Errand Unheard) (u : Unheard) → IsErr answer × IsErrAnd answer (λ v. v ≡ u) → told (Err u) ≡ heard_in text
    → ReadPromise text plan known est answer plan known est
unfolding told laid
nothing_laid text plan known est (Ok e) u h is = absurd (cc)
nothing_laid text plan known est (Err unheard.BadInput) u h is = record { answers = ap (λ (v : Unheard). told (Err v)) h.1 ∙ is; draws = refl; opens = refl; prepares = refl }
nothing_laid text plan known est (Err (unheard.Refused r)) u h is = record { answers = ap (λ (v : Unheard). told (Err v)) h.1 ∙ is; draws = refl; opens = refl; prepares = refl }

pub tabled_still : (answer : Result Errand Unheard) (u : Unheard) → IsErr answer × IsErrAnd answer (λ v. v ≡ u) → Tabled u → IfErr answer Tabled
tabled_still (Ok e) u h t = tt
tabled_still (Err v) u h t = subst Tabled (sym h.1) t
