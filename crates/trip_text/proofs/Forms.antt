-- What is heard and what is printed, by the form of the text and the refusal.
use Prim.Native.Nat.{ℕ, zero, suc}
use mathlib.Core.Path.{◌≡◌, refl}
use mathlib.Core.Bool.{Bool, true, false, not, ◌&&◌, ◌||◌}
use mathlib.Core.List.{List, ◌++◌}
use Rattle.floor.specs.declared.Floor.{Floor}
use Rattle.floor.specs.Floor.{sizes_ok}
use Rattle.rules.specs.Request.{Request, walk_refusal, walk_of}
use Rattle.rules.specs.Printer.{ascii, field, line_at, first_line_ok, asked, rows_ok, decimal, trip, printed}
use Rattle.trip_text.specs.Heard.{Heard, BadInput, Refused, Asked, errand_at, errand_in, heard_in}

module _ (text : List ℕ) where
  abbrev pub r : Request
  r = asked text

  abbrev pub f : Floor
  f = (errand_in text).floor

  abbrev pub allowance : ℕ
  allowance = field (line_at text 0) 6

  -- the text's form, where its sizes are not refused
  abbrev pub test : Bool
  test = first_line_ok text && (not (sizes_ok f) || rows_ok text f.width f.height)

  abbrev pub refuses : ℕ
  refuses = walk_refusal allowance r

  unfoldable pub heard_as : Bool → ℕ → Heard
  heard_as t n = elim t [ false ↦ BadInput | true ↦ elim n [ zero ↦ Asked (errand_in text) | suc n ↦ Refused (suc n) ] ]

  pub heard : heard_in text ≡ heard_as test refuses
  unfolding heard_as heard_in errand_at errand_in asked
  heard = refl

  unfoldable pub printed_as : Bool → ℕ → List ℕ
  printed_as t n = elim t [
    | false ↦ ascii "bad input\n"
    | true ↦ elim n [ zero ↦ trip (walk_of allowance r) | suc n ↦ ascii "refused " ++ decimal (suc n) ++ ascii "\n" ]
  ]

  pub printed_is : printed text ≡ printed_as test refuses
  unfolding printed_as printed errand_at errand_in asked
  printed_is = refl
