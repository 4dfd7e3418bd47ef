-- Each kind of turn by its definition.
use mathlib.Core.Path.{◌≡◌, refl}
use Rattle.std.specs.Prelude.{Result, Ok, Err}
use Rattle.std.specs.Result.{MatchResult}
use Rattle.floor.specs.declared.Refusal.{Refusal}
use Rattle.printer.specs.declared.Next.{Next}
use Rattle.printer.specs.Parts.{said_by}
use Rattle.printer.specs.Turns.{turned}
use Rattle.printer.proofs.take_turn.Goals as goal

or_said : (r : Result Next Refusal) (n : Next) → MatchResult r (λ x. n ≡ x) (λ e. n ≡ said_by (Err e)) → n ≡ said_by r
unfolding said_by
or_said (Ok x) n h = h
or_said (Err e) n h = h

pub returns-in-Some-Onward : goal.returns-in-Some-Onward
returns-in-Some-Onward c =
    let field = rw c.in-Some-Onward.is at c.in-Some-Onward.field-0-is in
    let said = or_said c.onward.result c.unwrap_or_else.result c.unwrap_or_else.ensures in
    rw (c.in-Some-Onward.is, field, said) record { gives = c.onward.ensures }

pub returns-in-Some-End : goal.returns-in-Some-End
unfolding turned
returns-in-Some-End c = let field = rw c.in-Some-End.is at c.in-Some-End.field-0-is in rw (c.in-Some-End.is, field) record { gives = c.ended.ensures _ _ }

pub returns-in-Some-Last : goal.returns-in-Some-Last
unfolding turned
returns-in-Some-Last c = let field = rw c.in-Some-Last.is at c.in-Some-Last.field-0-is in rw (c.in-Some-Last.is, field) record { gives = refl }

pub returns-in-None : goal.returns-in-None
unfolding turned
returns-in-None c = rw c.in-None.is record { gives = refl }
