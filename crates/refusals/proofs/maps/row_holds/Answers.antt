use Rattle.std.proofs.Common.{rules, ◌&&◌, ◌∙◌, ◌-◌, take, drop, length, arith}
use Rattle.std.proofs.lemmas.Grind.{common_steps}
use Rattle.std.proofs.lemmas.Iterator.{YieldsList-from_slice, YieldsList-from_zip}
use Rattle.std.proofs.lemmas.Iterator.Consumers.{fold_from_yields_List}
use Rattle.refusals.proofs.Pairing.{pair_test, pairs_of}
use Rattle.refusals.proofs.maps.row_holds.Goals as goal

pub returns : goal.returns
returns c =
    let a = c.args in
    let n = length a.known.now - 1 in
    fold_from_yields_List _ (λ ok p. pair_test p.0.0 p.0.1 p.1.0 p.1.1 && ok) _ _ c.fold.ensures.ran
    (YieldsList-from_zip
    (YieldsList-from_zip (YieldsList-from_slice (take n a.known.now) cc) (YieldsList-from_slice (take n (drop 1 a.known.now)) (grind (arith, common_steps))))
    (YieldsList-from_zip (YieldsList-from_slice (take n a.est.now) (search rules)) (YieldsList-from_slice (take n (drop 1 a.est.now)) (search rules))))
    (λ _ x _ q k. search rules)
    ∙ pairs_of a.known.now a.est.now 1 c.requires.0 c.requires.1
