-- A text as the code reads it, part by part. No promise rests on these names: what they come to is `heard_in`, and that is proved.
use Rattle.std.specs.Prelude.{ℕ, zero, suc, ◌+◌, ◌/◌, ◌%◌, Option, Some, None}
use Rattle.std.specs.Borrow.{Bor}
use mathlib.Core.{Bool.Bool, Bool.true, Bool.false, Bool.not, Bool.◌&&◌, List.List, List.[], List.◌∷◌}
use lib.{Dec.ltb, Dec.leb, Dec.eqb, ListN.length, ListN.get_or}
use Rattle.floor.specs.Floor.{sizes_ok, cells, refusal}
use Rattle.rules.specs.{Sound.every, Request.setting_ok, Printer.ascii, Printer.split, Printer.is_number, Printer.value_of, Printer.word, Printer.field, Printer.row_ok}
use Rattle.trip_text.specs.declared.{Errand.Errand}
use Rattle.trip_text.specs.Heard.{Heard, BadInput, Refused, Asked, errand_at}

-- what a word says
unfoldable pub number_in : List ℕ → Option ℕ
number_in w = elim (is_number w) [ true ↦ Some (value_of 0 w) | false ↦ None ]

-- the word as it counts in its place: `-` as limit stands for 1
unfoldable pub in_place : ℕ → List ℕ → List ℕ
in_place i w = elim (eqb i 5 && eqb (length w) 1 && eqb (get_or w 0 0) 45) [ true ↦ ascii "1" | false ↦ w ]

-- what the next word says, where there is one
abbrev pub said : (List ℕ → Option ℕ) → Option (Bor (List ℕ)) → Option ℕ
said says None = None
said says (Some w) = says w.now

-- a first line without its line feed
unfoldable pub line_ok : List ℕ → Bool
line_ok line = eqb (length (split 32 line)) 7 && every 7 (λ i. is_number (word line i)) && leb (field line 6) 16384

unfoldable pub errand_of : List ℕ → Option Errand
errand_of line = elim (line_ok line) [ true ↦ Some (errand_at line) | false ↦ None ]

-- what follows the first line
unfoldable pub rest_ok : List ℕ → ℕ → ℕ → Bool
rest_ok rows width height =
    let at : ℕ → List ℕ = λ r. get_or (split 10 rows) r [] in
    eqb (length (split 10 rows)) (height + 1) && every height (λ r. row_ok width (at r)) && eqb (length (at height)) 0

-- the cell x is blocked in the rows
unfoldable pub mark : List ℕ → ℕ → ℕ → Bool
mark rows width x = eqb (get_or (get_or (split 10 rows) (x / width) []) (x % width) 0) 35

-- the refusals that a fresh trip may meet once its sizes hold
unfoldable pub errand_refusal : List ℕ → Errand → ℕ
errand_refusal rows e =
    refusal (
    (3, ltb e.start (cells e.floor) && ltb e.goal (cells e.floor))
    ∷ (4, setting_ok (record { look = e.setting.look.0; limit = e.setting.limit.0 }))
    ∷ (8, not (mark rows e.floor.width e.start))
    ∷ [])

unfoldable pub judged : List ℕ → Errand → Heard
judged rows e = elim (sizes_ok e.floor) [
  | false ↦ Refused 1
  | true ↦ elim (rest_ok rows e.floor.width e.floor.height) [
    | false ↦ BadInput
    | true ↦ elim (errand_refusal rows e) [ zero ↦ Asked e | suc n ↦ Refused (suc n) ]
  ]
]
