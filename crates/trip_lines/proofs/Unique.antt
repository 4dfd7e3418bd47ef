-- A line's promise decides where it ends and every byte of what was lent: any two results that it allows are equal.
use Rattle.std.proofs.Common.{◌≡◌, ◌∙◌, sym, ap, ℕ, List, ◌++◌, drop, Option}
use Rattle.trip_lines.specs.declared.Line.{Line}
use Rattle.trip_lines.specs.Lines.{said_of, LinePromise}

pub line_unique : {line : Option Line} {est out o o' : List ℕ} {end end' : ℕ} → LinePromise line est out end o → LinePromise line est out end' o'
    → (end ≡ end') × (o ≡ o')
line_unique {line} {est} {out} p q =
    let same = p.ends ∙ sym q.ends in (same, p.puts ∙ ap (λ (k : ℕ). said_of line est ++ drop k out) same ∙ sym q.puts)
