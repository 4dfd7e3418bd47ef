-- The tests are the definition's, and after them comes the leg.
use mathlib.Core.Path.{◌≡◌, ◌∙◌, sym}
use mathlib.Core.Bool.{true}
use Rattle.floor.specs.Floor.{sizes_ok, cells}
use Rattle.printer.specs.Parts.{said_by}
use Rattle.printer.specs.Turns.{refused}
use Rattle.printer.proofs.Making.{is_err}
use Rattle.printer.proofs.Cases.{bad_sizes, on_floor, arrived, spent}
use Rattle.printer.proofs.onward.Goals.{After-cells-n}
use Rattle.printer.proofs.onward.Goals as goal

pub returns-in_err-grid : goal.returns-in_err-grid
unfolding said_by refused
returns-in_err-grid c =
    let is = is_err _ _ c.from_residual.ensures in
    rw (is, c.in_err-grid.ensures.refuses.0) (sym (bad_sizes _ _ _ _ _ c.in_err-grid.ensures.refuses.1))

sized : (c : After-cells-n) → sizes_ok c.args.errand.floor ≡ true
sized c = rw c.in_ok-grid.ensures.same at c.in_ok-grid.field-0.sized

long : (c : After-cells-n) → c.cells-n.result ≡ cells c.args.errand.floor
long c = rw c.in_ok-grid.ensures.same at c.cells-n.ensures

pub returns-then-cart-errand : goal.returns-then-cart-errand
unfolding said_by
returns-then-cart-errand c =
    let at = (goal.at.returns-then-cart-errand c).After-cells-n in
    c.ended.ensures _ _ ∙ rw (long at) (sym (arrived c.args.errand c.args.cart c.args.plan.now c.args.known.now c.args.est.now (sized at) c.if-cart-errand.true))

pub returns-then-errand-cart : goal.returns-then-errand-cart
unfolding said_by
returns-then-errand-cart c =
    let at = (goal.at.returns-then-errand-cart c).After-cells-n in
    c.ended-then-errand-cart.ensures _ _
    ∙ rw (long at) (sym (spent c.args.errand c.args.cart c.args.plan.now c.args.known.now c.args.est.now (sized at) c.if-cart-errand.false c.if-errand-cart.true))

pub returns : goal.returns
returns c = c.one_leg.ensures ∙ sym (on_floor _ _ _ _ _ (sized (goal.at.returns c).After-cells-n))
