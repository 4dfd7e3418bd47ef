use Rattle.std.proofs.Common.{rules, ◌≡◌, ◌∙◌, arith, sym, inl, inr, length-append}
use Rattle.std.specs.Iterator.Adapters.{zip_first, zip_second}
use Rattle.std.specs.Slice.Iter.{chunks_exact_size}
use Rattle.floor.specs.Floor.{cells}
use Rattle.floor.proofs.Geometry.{sides}
use Rattle.refusals.proofs.Adjoining.{rows_alone}
use Rattle.refusals.proofs.Rowing.{rows_none, rows_more, rows_all}
use Rattle.refusals.proofs.maps.Maps.rows_hold.Goals as goal

pub returns-then-w-eq1 : goal.returns-then-w-eq1
returns-then-w-eq1 c = rows_alone _ _ _ _ c.if-w-eq1.true

pub chunks_exact-requires : goal.chunks_exact-requires
chunks_exact-requires c = (sides _ c.args.self.now.grid.sized).some_width

pub chunks_exact-requires-2 : goal.chunks_exact-requires-2
chunks_exact-requires-2 c = (sides _ c.args.self.now.grid.sized).some_width

pub loop-k-init-derived : goal.loop-k-init-derived
loop-k-init-derived c =
    let s = c.into_iter-k-iterator.result in
    let w = c.args.self.now.grid.floor.width in
    let some = (sides _ c.args.self.now.grid.sized).some_width in
    let k : chunks_exact_size (zip_first s) ≡ w = search rules in
    let e : chunks_exact_size (zip_second s) ≡ w = search rules in
    ((rw k some, rw e some), tt)

pub loop-k-init : goal.loop-k-init
loop-k-init c = rows_none _ _ _ _ _ _ _ _ (search rules) (search rules) (search rules) (search rules)

pub row_holds-ok-requires : goal.row_holds-ok-requires
row_holds-ok-requires c =
    let s = c.in-Some.ensures.steps in
    let i = c.loop-k.invariant in
    (omega (arith, s.0.1.1, i.known_size, (sides _ c.args.self.now.grid.sized).some_width), s.0.1.1 ∙ i.known_size ∙ sym i.est_size ∙ sym s.1.1.1)

pub loop-k-preserved : goal.loop-k-preserved
unfolding cells
loop-k-preserved c =
    let s = c.in-Some.ensures.steps in
    let m = c.args.self.now in
    rw (length-append, s.0.0, s.1.0)
    (rows_more _ _ _ _ (omega (arith, m.known_long)) (omega (arith, m.est_long)) (sides _ m.grid.sized).some_width
    _ _ _ _ _ _ _ _ _ _ _ c.loop-k.invariant s.0.1.0 s.0.1.1 s.1.1.0 s.1.1.1 c.row_holds-ok.ensures)

pub returns : goal.returns
unfolding cells
returns c =
    let s = c.in-None.ensures.steps in
    let m = c.args.self.now in
    rows_all _ _ _ _ (omega (arith, m.known_long)) (omega (arith, m.est_long)) (sides _ m.grid.sized).some_width
    _ _ _ _ _ _ c.loop-k.invariant (elim s [ inl e ↦ inl e.1.1.0 | inr e ↦ inr e.1.1.0 ])
