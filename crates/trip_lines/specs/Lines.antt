-- What each line of a trip says, by document 01's definitions, and how it stands in what was lent.
use Rattle.std.specs.Prelude.{ℕ, length, take, drop, Option, None, Some}
use mathlib.Core.{Path.◌≡◌, List.List, List.[], List.◌++◌}
use Rattle.rules.specs.{Leg.Ending, Leg.Arrived, Leg.CutOff, Leg.Spent, Leg.UnderWay}
use Rattle.rules.specs.Printer.{ascii, decimal, leg_line, end_line, spaced}
use Rattle.trip_lines.specs.declared.Line.{Line, TheVariants.BadInput, TheVariants.Refused, TheVariants.Leg, TheVariants.End, TheVariants.Estimates}

unfoldable pub text_of : Line → List ℕ → List ℕ
text_of BadInput est = ascii "bad input\n"
text_of (Refused n) est = ascii "refused " ++ decimal n ++ ascii "\n"
text_of (Leg number opened moves cell) est = leg_line number opened moves cell
text_of (End ending moves legs opened) est = end_line ending moves legs opened
text_of (Estimates n) est = ascii "estimates" ++ spaced (take n est)

-- a line's text has at most so many bytes: an end line's 66, or "estimates", its end and six for each of 4,096 estimates
unfoldable pub most : Line → ℕ
most (Estimates n) = 24586
most line = 66

-- an end line's first words
unfoldable pub ended : Ending → List ℕ
ended Arrived = ascii "end arrived"
ended CutOff = ascii "end cut off"
ended Spent = ascii "end spent"
ended UnderWay = ascii "end under way"

-- the bytes of a line that there may be
unfoldable pub said_of : Option Line → List ℕ → List ℕ
said_of None est = []
said_of (Some line) est = text_of line est

-- the line stands at the front of the buffer, the rest of which is as it was
pub record LinePromise (line : Option Line) (est out : List ℕ) (end : ℕ) (out' : List ℕ) : Type 0 where
  pub ends : end ≡ length (said_of line est)
  pub puts : out' ≡ said_of line est ++ drop end out
