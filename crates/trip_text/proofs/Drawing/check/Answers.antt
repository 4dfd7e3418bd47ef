-- The tests of an errand, in their order.
use mathlib.Core.Path.{◌≡◌, ◌∙◌, sym}
use mathlib.Core.Bool.{true}
use Rattle.floor.specs.Floor.{refused}
use Rattle.trip_text.proofs.Judging.{blocked_byte, open_byte, ends_on_floor, allowed, off_floor, not_allowed, on_rack, none}
use Rattle.trip_text.proofs.Drawing.check.Goals.{Else-not-cells_hold, Else-not-settings_hold}
use Rattle.trip_text.proofs.Drawing.check.Goals as goal

-- what the tests that passed say
on : (c : Else-not-cells_hold) → ends_on_floor c.args.self.text.now c.args.errand ≡ true
on c = rw (c.requires, ← c.cells.ensures) (sym c.cells_hold.ensures ∙ c.if-not-cells_hold.false)

allows : (c : Else-not-settings_hold) → allowed c.args.self.text.now c.args.errand ≡ true
allows c = sym c.settings_hold.ensures ∙ c.if-not-settings_hold.false

pub returns-then-not-cells_hold : goal.returns-then-not-cells_hold
unfolding refused
returns-then-not-cells_hold c = off_floor _ _ (rw (c.requires, ← c.cells.ensures) (sym c.cells_hold.ensures ∙ c.if-not-cells_hold.true))

pub returns-then-not-settings_hold : goal.returns-then-not-settings_hold
unfolding refused
returns-then-not-settings_hold c = not_allowed _ _ (on (goal.at.returns-then-not-settings_hold c).Else-not-cells_hold) (sym c.settings_hold.ensures ∙ c.if-not-settings_hold.true)

pub returns-then-cell_byte-eq1 : goal.returns-then-cell_byte-eq1
unfolding refused
returns-then-cell_byte-eq1 c = on_rack _ _ (on (goal.at.returns-then-cell_byte-eq1 c).Else-not-cells_hold) (allows (goal.at.returns-then-cell_byte-eq1 c).Else-not-settings_hold) (rw c.requires (blocked_byte _ (sym c.cell_byte.ensures ∙ c.if-cell_byte-eq1.true)))

pub returns : goal.returns
unfolding refused
returns c = none _ _ (on (goal.at.returns c).Else-not-cells_hold) (allows (goal.at.returns c).Else-not-settings_hold) (rw c.requires (open_byte _ (λ e. c.if-cell_byte-eq1.false (c.cell_byte.ensures ∙ e))))
