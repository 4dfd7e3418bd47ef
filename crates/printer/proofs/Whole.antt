-- The turns' lines, one after another, are all that document 01 has printed.
use Prim.Native.Nat.{ℕ, zero, suc, ◌≤◌}
use mathlib.Core.Path.{◌≡◌, ◌∙◌, refl, sym, ap}
use mathlib.Core.Bool.{Bool, true, false, ◌&&◌}
use mathlib.Core.List.{List}
use native.Mathlib.Omega.{arith}
use lib.Dec.{ltb, eqb}
use lib.ListN.{length, take}
use borrow.Author.Tests.{leb-true}
use Rattle.floor.specs.Floor.{cells}
use Rattle.floor.proofs.Tools.{and_1, and_2}
use Rattle.rules.specs.Sound.{every}
use Rattle.rules.specs.Request.{walk_of}
use Rattle.rules.specs.Printer.{split, is_number, word, line_at, first_line_ok, asked, trip, printed}
use Rattle.theory.proofs.Accepts.{Accepted, accepted}
use Rattle.std.specs.Prelude.{Result}
use Rattle.trip_text.specs.declared.{Errand.Errand, Unheard.Unheard}
use Rattle.trip_text.specs.Heard.{Heard, Asked, told, fronted, errand_at, errand_in, laid, ReadPromise}
use Rattle.trip_text.proofs.Forms.{r, allowance, test, refuses, heard_as, heard, printed_as, printed_is}
use Rattle.trip_lines.specs.declared.Line.TheVariants as line
use Rattle.trip_lines.specs.Lines.{text_of}
use Rattle.printer.specs.Turns.{first_turn}
use Rattle.printer.specs.Promise.{said, TripsPrint}
use Rattle.printer.proofs.Saying.{last_says}
use Rattle.printer.proofs.Tripping.{in_front, trip_said}

module _ (text : List ℕ) where
  few_moves : test text ≡ true → allowance text ≤ 16384
  unfolding first_line_ok
  few_moves form =
      let first = line_at text 0 in
      let numbers = ltb 1 (length (split 10 text)) && eqb (length (split 32 first)) 7 && every 7 (λ i. is_number (word first i)) in
      leb-true (allowance text) 16384 (and_2 numbers _ (and_1 (first_line_ok text) _ form))

  module _ (plan known est : List ℕ) (answer : Result Errand Unheard) (plan' known' est' : List ℕ) (p : ReadPromise text plan known est answer plan' known' est')
      (count : ℕ) (enough : 16386 ≤ count) where
    module _ (form : test text ≡ true) (ok : refuses text ≡ 0) (is : told answer ≡ Asked (errand_in text)) where
      a : Accepted (allowance text) (r text)
      a = accepted (allowance text) (r text) ok

      laid_front : (map lent : List ℕ) → length map ≡ cells (r text).floor → take (cells (r text).floor) (laid (told answer) map lent) ≡ map
      unfolding laid fronted
      laid_front map lent long = rw is (in_front map lent long)

      trip_printed : said count (first_turn (Asked (errand_in text))) plan' known' est' ≡ trip (walk_of (allowance text) (r text))
      unfolding first_turn errand_at errand_in asked
      trip_printed =
          trip_said (allowance text) (r text) ok (few_moves form) plan' (rw p.draws (laid_front (r text).plan plan a.plan_long))
          known' est' (rw p.opens (laid_front (r text).stand.known known a.known_long))
          (rw p.prepares (laid_front (r text).stand.est est a.est_long))
          count (omega (arith, few_moves form))

    by_form : (form : Bool) → test text ≡ form → (refused : ℕ) → refuses text ≡ refused → told answer ≡ heard_as text form refused
        → said count (first_turn (heard_as text form refused)) plan' known' est' ≡ printed_as text form refused
    unfolding heard_as printed_as first_turn text_of
    by_form false f refused z is = last_says count (omega arith) line.BadInput plan' known' est'
    by_form true f zero z is = trip_printed f z is
    by_form true f (suc n) z is = last_says count (omega arith) (line.Refused (suc n)) plan' known' est'

    abbrev answer_is : told answer ≡ heard_as text (test text) (refuses text)
    answer_is = p.answers ∙ heard text

    all_said : said count (first_turn (told answer)) plan' known' est' ≡ printed text
    all_said =
        ap (λ (h : Heard). said count (first_turn h) plan' known' est') answer_is
        ∙ by_form (test text) refl (refuses text) refl answer_is ∙ sym (printed_is text)

pub trips_print : TripsPrint
trips_print = record { whole = λ p count enough. all_said _ _ _ _ _ _ _ _ p count enough }
