-- What a turn promises, and that the turns' lines, one after another, are all that document 01 has printed.
use Rattle.std.specs.Prelude.{ℕ, zero, suc, ◌≤◌, Option, Some, None, Result}
use mathlib.Core.{Path.◌≡◌, List.List, List.[], List.◌++◌}
use Rattle.rules.specs.Printer.{printed}
use Rattle.trip_text.specs.{declared.Errand.Errand, declared.Unheard.Unheard, Heard.told, Heard.ReadPromise}
use Rattle.trip_lines.specs.declared.Line.{Line}
use Rattle.trip_lines.specs.Lines.{text_of}
use Rattle.printer.specs.declared.{Turn.Turn, Next.Next}
use Rattle.printer.specs.Turns.{Turned, first_turn, turned}

pub record TurnPromise (turn : Option Turn) (plan known est : List ℕ) (next : Next) (known' est' : List ℕ) : Type 0 where
  pub gives : ◌≡◌ {A = Turned} (record { line = next.line; turn = next.turn; known = known'; est = est' }) (turned turn plan known est)

-- what a line says, if there is one
unfoldable pub line_text : Option Line → List ℕ → List ℕ
line_text None est = []
line_text (Some line) est = text_of line est

-- what so many turns say, one after another
unfoldable pub said : ℕ → Option Turn → List ℕ → List ℕ → List ℕ → List ℕ
said zero turn plan known est = []
said (suc count) turn plan known est =
    let t = turned turn plan known est in line_text t.line t.est ++ said count t.turn plan t.known t.est

-- whatever the text, and whatever the lent maps held: 16,386 turns say all that is printed, and further turns say nothing
pub record TripsPrint : Type 0 where
  pub whole : {text plan known est plan' known' est' : List ℕ} {heard : Result Errand Unheard} → ReadPromise text plan known est heard plan' known' est'
      → (count : ℕ) → 16386 ≤ count → said count (first_turn (told heard)) plan' known' est' ≡ printed text
