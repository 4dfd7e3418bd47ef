-- Numbers in bytes, the low byte first: as the code makes the bytes, and as it makes a number of them.
use Rattle.std.proofs.Common.{◌≡◌, ℕ, suc, ◌+◌, ◌*◌, ◌/◌, ◌%◌, List, [], ◌∷◌, get_or, refl, arith, w8, w16, w32, Fits}
use Rattle.std.specs.Int.{to_le_bytes}
use Rattle.rules.specs.Record.{put, got}

pub put_one : (x : ℕ) → Fits w8 x → put 1 x ≡ x ∷ []
unfolding put
put_one x f = let e : x % 256 ≡ x = omega arith in rw e

pub put_two : (x : ℕ) → put 2 x ≡ to_le_bytes w16 x
unfolding put
put_two x = refl

pub put_four : (x : ℕ) → put 4 x ≡ to_le_bytes w32 x
unfolding put
put_four x =
    let two : x / 256 / 256 ≡ x / 65536 = omega arith in
    let three : x / 65536 / 256 ≡ x / 16777216 = omega arith in
    rw (two, three) refl

pub got_one : (b : List ℕ) (o : ℕ) → got b o 1 ≡ get_or b o 0
unfolding got
got_one b o = omega arith

pub got_two : (b : List ℕ) (o : ℕ) → got b o 2 ≡ get_or b o 0 + 256 * get_or b (o + 1) 0
unfolding got
got_two b o = let e : o + 1 ≡ suc o = omega arith in rw e (omega arith)

pub got_four : (b : List ℕ) (o : ℕ) → got b o 4 ≡ get_or b o 0 + 256 * get_or b (o + 1) 0 + 65536 * get_or b (o + 2) 0 + 16777216 * get_or b (o + 3) 0
unfolding got
got_four b o =
    let one : o + 1 ≡ suc o = omega arith in
    let two : o + 2 ≡ suc (suc o) = omega arith in
    let three : o + 3 ≡ suc (suc (suc o)) = omega arith in
    rw (one, two, three) (omega arith)
