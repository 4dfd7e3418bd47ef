use Rattle.std.proofs.Common.{rules, ◌&&◌, ◌∙◌, leb}
use Rattle.std.proofs.lemmas.Iterator.{YieldsList-from_slice, YieldsList-from_zip}
use Rattle.std.proofs.lemmas.Iterator.Consumers.{fold_from_yields_List}
use Rattle.refusals.proofs.Folds.{all_of_both}
use Rattle.refusals.proofs.maps.Maps.bytes_hold.Goals as goal

pub returns : goal.returns
returns c =
    let m = c.args.self.now in
    let t = λ (p k : _). leb p 1 && leb k 1 in
    fold_from_yields_List _ (λ ok p. t p.0 p.1 && ok) _ _ c.fold.ensures.ran (YieldsList-from_zip (YieldsList-from_slice m.plan.now cc) (YieldsList-from_slice m.known.now cc)) (λ a x b q k. search rules)
    ∙ all_of_both t _ _ _ m.plan_long m.known_long
