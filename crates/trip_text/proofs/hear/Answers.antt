-- The document's order: the first line's text, refusal 1, the rows' text, the other refusals.
use Rattle.std.proofs.Common.{◌∙◌, sym}
use Rattle.floor.specs.declared.Refusal.TheVariants.{Sizes}
use Rattle.floor.specs.Floor.{refused}
use Rattle.floor.proofs.Unique.{some_number}
use Rattle.trip_text.specs.Heard.{told, Tabled}
use Rattle.trip_text.specs.declared.Unheard.TheVariants.{BadInput}
use Rattle.trip_text.proofs.Hearing as hearing
use Rattle.trip_text.proofs.Hearing.{not_ok, by_err, in_table, unfed, no_errand, bad_sizes}
use Rattle.trip_text.proofs.hear.Goals as goal

pub returns-in_err-line : goal.returns-in_err-line
unfolding told Tabled
returns-in_err-line c =
    let no = not_ok c.cut.result BadInput _ (sym c.ok_or.ensures.value ∙ c.in_err-line.was) in
    let far = rw no.0 at c.cut.ensures in
    by_err _ _ _ _ c.from_residual.ensures (λ u is. rw (is, no.1) (unfed _ far, tt))

pub returns-in_err-errand : goal.returns-in_err-errand
unfolding told Tabled
returns-in_err-errand c =
    let parts = rw c.in_ok-line.ensures.ok_part at c.cut.ensures in
    let no = not_ok c.first_line.result BadInput _ (sym c.ok_or-2.ensures.value ∙ c.in_err-errand.was) in
    by_err _ _ _ _ c.from_residual-in_err-errand.ensures (λ u is. rw (is, no.1) (no_errand _ _ _ parts.0 parts.1 parts.2 (sym c.first_line.ensures ∙ no.0), tt))

pub returns-in_err-grid : goal.returns-in_err-grid
unfolding told Tabled
returns-in_err-grid c =
    let parts = rw c.in_ok-line.ensures.ok_part at c.cut.ensures in
    by_err _ _ _ _ c.from_residual-in_err-grid.ensures (λ u is. rw (is, c.in_err-grid.ensures.refuses.0) (bad_sizes _ _ _ parts.0 parts.1 parts.2 _ (sym c.first_line.ensures ∙ c.in_ok-errand.ensures.ok_part) c.in_err-grid.ensures.refuses.1, in_table Sizes))

pub returns-in_err-drawing : goal.returns-in_err-drawing
unfolding told Tabled
returns-in_err-drawing c =
    let parts = rw c.in_ok-line.ensures.ok_part at c.cut.ensures in
    let no = not_ok c.of.result BadInput _ (sym c.ok_or-3.ensures.value ∙ c.in_err-drawing.was) in
    let same = c.in_ok-grid.ensures.same in
    let bad = rw no.0 at c.of.ensures in
    by_err _ _ _ _ c.from_residual-in_err-drawing.ensures (λ u is. rw (is, no.1) (hearing.bad_rows _ _ _ parts.0 parts.1 parts.2 _ (sym c.first_line.ensures ∙ c.in_ok-errand.ensures.ok_part) (rw same at c.in_ok-grid.grid.sized) (rw same at bad), tt))

pub returns-in_err-check : goal.returns-in_err-check
unfolding told Tabled refused
returns-in_err-check c =
    let parts = rw c.in_ok-line.ensures.ok_part at c.cut.ensures in
    let drawn = rw c.in_ok-drawing.ensures.ok_part at c.of.ensures in
    let same = drawn.1 ∙ c.in_ok-grid.ensures.same in
    by_err _ _ _ _ c.from_residual-in_err-check.ensures (λ u is.
    rw is (
      hearing.refused _ _ _ parts.0 parts.1 parts.2 _ (sym c.first_line.ensures ∙ c.in_ok-errand.ensures.ok_part) (rw same at c.in_ok-drawing.drawing.grid.sized)
          (rw (drawn.0, same) at c.in_ok-drawing.drawing.lawful) _ (rw drawn.0 at c.in_err-check.ensures) (some_number _),
      in_table _,
    ))

pub returns : goal.returns
unfolding refused
returns c =
    let parts = rw c.in_ok-line.ensures.ok_part at c.cut.ensures in
    let drawn = rw c.in_ok-drawing.ensures.ok_part at c.of.ensures in
    let same = drawn.1 ∙ c.in_ok-grid.ensures.same in (
      sym (hearing.taken _ _ _ parts.0 parts.1 parts.2 _ (sym c.first_line.ensures ∙ c.in_ok-errand.ensures.ok_part) (rw same at c.in_ok-drawing.drawing.grid.sized)
          (rw (drawn.0, same) at c.in_ok-drawing.drawing.lawful) (rw drawn.0 at c.in_ok-check.ensures)),
      same,
      drawn.0 ∙ parts.2,
    )
