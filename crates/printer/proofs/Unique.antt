-- What a turn promises allows one answer, one known map and one list of estimates alone.
use Prim.Native.Nat.{ℕ}
use mathlib.Core.Path.{◌≡◌, ◌∙◌, sym, ap}
use mathlib.Core.List.{List}
use Rattle.std.specs.Prelude.{Option}
use Rattle.printer.specs.declared.{Turn.Turn, Next.Next}
use Rattle.printer.specs.Turns.{Turned}
use Rattle.printer.specs.Promise.{TurnPromise}

pub turn_unique : {turn : Option Turn} {plan known est : List ℕ} {a b : Next} {k e l f : List ℕ} → TurnPromise turn plan known est a k e
    → TurnPromise turn plan known est b l f → (a ≡ b) × (k ≡ l) × (e ≡ f)
turn_unique p q =
    let same = p.gives ∙ sym q.gives in
    (ap (λ (t : Turned). record { line = t.line; turn = t.turn }) same, ap (λ (t : Turned). t.known) same, ap (λ (t : Turned). t.est) same)
