-- What is heard from a text, by document 01's definitions, and what is then written.
use Rattle.std.specs.Prelude.{ℕ, zero, suc, ◌<◌, length, take, drop, Result, Ok, Err, ⊤}
use mathlib.Core.{Path.◌≡◌, Bool.true, Bool.false, Bool.not, Bool.◌&&◌, Bool.◌||◌, List.List, List.◌++◌}
use Rattle.floor.specs.{declared.Refusal.Refusal, Floor.sizes_ok, Floor.number}
use Rattle.rules.specs.{Request.walk_refusal, Printer.field, Printer.line_at, Printer.first_line_ok, Printer.rows_ok, Printer.asked, Printer.printed}
use Rattle.trip_text.specs.declared.{Errand.Errand, Unheard.Unheard}
use Rattle.trip_text.specs.declared.Unheard.TheVariants as unheard

-- what a text comes to: no lawful text, a refusal by its number, or a trip
pub data Heard : Type 0 where
  BadInput : Heard
  Refused : ℕ → Heard
  Asked : Errand → Heard

-- an answer, with a refusal by its number
unfoldable pub told : Result Errand Unheard → Heard
told (Ok errand) = Asked errand
told (Err unheard.BadInput) = BadInput
told (Err (unheard.Refused n)) = Refused n

-- a number of the table of refusals
pub record InTable (n : ℕ) : Type 0 where
  pub refusal : Refusal
  pub is : n ≡ number refusal

-- where a text is refused, it is by such a number
unfoldable pub Tabled : Unheard → Type 0
Tabled unheard.BadInput = ⊤
Tabled (unheard.Refused n) = InTable n

-- what a first line asks for
unfoldable pub errand_at : List ℕ → Errand
errand_at line =
    let at = field line in
    record {
      floor = record { width = at 0; height = at 1 };
      start = at 2;
      goal = at 3;
      setting = record { look = record { 0 = at 4 }; limit = record { 0 = at 5 } };
      allowance = at 6;
    }

unfoldable pub errand_in : List ℕ → Errand
errand_in text = errand_at (line_at text 0)

-- in this order: the first line's text, refusal 1, the rows' text, the other refusals; else the trip
unfoldable pub heard_in : List ℕ → Heard
heard_in text =
    let r = asked text in
    elim (first_line_ok text && (not (sizes_ok r.floor) || rows_ok text r.floor.width r.floor.height)) [
      | false ↦ BadInput
      | true ↦ elim (walk_refusal (field (line_at text 0) 6) r) [ zero ↦ Asked (errand_in text) | suc n ↦ Refused (suc n) ]
    ]

-- a trip's map is put at the front of what was lent; where there is no trip, nothing is written
unfoldable pub fronted : List ℕ → List ℕ → List ℕ
fronted map lent = map ++ drop (length map) lent

unfoldable pub laid : Heard → List ℕ → List ℕ → List ℕ
laid BadInput map lent = lent
laid (Refused n) map lent = lent
laid (Asked e) map lent = fronted map lent

pub record ReadPromise (text plan known est : List ℕ) (answer : Result Errand Unheard) (plan' known' est' : List ℕ) : Type 0 where
  pub answers : told answer ≡ heard_in text
  pub draws : plan' ≡ laid (told answer) (asked text).plan plan
  pub opens : known' ≡ laid (told answer) (asked text).stand.known known
  pub prepares : est' ≡ laid (told answer) (asked text).stand.est est

-- no lawful text has more than 4,230 bytes: of a longer one the first 4,231 decide what is printed
pub record LongTexts : Type 0 where
  pub decided : (text : List ℕ) (k : ℕ) → 4230 < k → printed (take k text) ≡ printed text
