-- The flag is the test of each row so far, and what the two iterators have left begins with the next row.
use Rattle.std.proofs.Common.{length}
use Rattle.std.specs.Iterator.Adapters.{zip_first, zip_second}
use Rattle.std.specs.Slice.Iter.{chunks_exact_rest, chunks_exact_size}
use Rattle.refusals.proofs.Rowing.{Rows}
use Rattle.refusals.proofs.maps.Maps.rows_hold.Given as goal

abbrev pub invariant-loop-k : goal.invariant-loop-k
invariant-loop-k l =
    let m = l.self in
    let k = zip_first l.k-iterator in
    let e = zip_second l.k-iterator in
    Rows m.grid.floor.width m.grid.floor.height m.known.now m.est.now (length l.yielded) l.ok
    (chunks_exact_size k) (chunks_exact_size e) (chunks_exact_rest k) (chunks_exact_rest e)
