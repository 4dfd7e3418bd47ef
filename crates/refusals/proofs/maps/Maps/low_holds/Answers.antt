-- N-1 is a 16-bit number, since no side is 0 and N is at most 4,096.
use Rattle.std.proofs.Common.{rules, ◌&&◌, ◌∙◌, ◌-◌, leb, arith}
use Rattle.std.proofs.lemmas.Iterator.{YieldsList-from_slice}
use Rattle.std.proofs.lemmas.Iterator.Consumers.{fold_from_yields_List}
use Rattle.floor.specs.Floor.{cells}
use Rattle.floor.proofs.Geometry.{sides, area}
use Rattle.refusals.proofs.Adjoining.{first_row}
use Rattle.refusals.proofs.Folds.{all_of}
use Rattle.refusals.proofs.maps.Maps.low_holds.Goals as goal

pub overflow_sub-most : goal.overflow_sub-most
overflow_sub-most c = let g = c.args.self.now.grid in omega (arith, first_row _ g.sized, sides _ g.sized)

pub overflow_cast-most : goal.overflow_cast-most
overflow_cast-most c = omega (arith, area _ c.args.self.now.grid.sized)

pub returns : goal.returns
returns c =
    let m = c.args.self.now in
    let t = λ (e : _). leb e (cells m.grid.floor - 1) in
    fold_from_yields_List _ (λ ok e. t e && ok) _ _ c.fold.ensures.ran (YieldsList-from_slice m.est.now cc) (λ a x b q k. search rules)
    ∙ all_of t _ _ m.est_long
