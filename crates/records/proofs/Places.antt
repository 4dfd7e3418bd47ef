-- A record at its place in a file is the record alone; and a record that was laid out reads as it was.
use Rattle.std.proofs.Common.{◌≡◌, ℕ, zero, suc, ◌+◌, ◌*◌, ◌/◌, ◌%◌, ◌^◌, ◌<◌, ◌≤◌, true, List, [], ◌∷◌, ◌++◌, length, get_or, take, drop, refl, ap, ◌∙◌, arith}
use Rattle.std.proofs.lemmas.List.{get_or-take, get_or-drop, drop-drop, take_at, drop_at}
use Rattle.std.specs.Simd.{first_chunks}
use Prim.Native.Nat.pow
use Rattle.rules.specs.declared.Trip.{Trip}
use Rattle.records.specs.Files.{InWidth}
use Rattle.records.proofs.Fields.{Bounded, bounded}
use Rattle.rules.specs.Record.{put, got, layout, trip_at, values_ok, record_ok}

-- the 24 bytes from the offset o on
pub got_part : (b : List ℕ) (o w k : ℕ) → k + w ≤ 24 → got (take 24 (drop o b)) k w ≡ got b (o + k) w
unfolding got
got_part b o zero k le = refl
got_part b o (suc w) k le =
    let here : get_or (take 24 (drop o b)) k 0 ≡ get_or b (o + k) 0 = get_or-take 24 (drop o b) k 0 (omega arith) ∙ get_or-drop o b k 0 in
    let next : o + suc k ≡ suc (o + k) = omega arith in
    rw (here, got_part b o w (suc k) (omega arith), next) refl

module _ (b : List ℕ) (o : ℕ) where
  part : (w k : ℕ) → k + w ≤ 24 → got (take 24 (drop o b)) (0 + k) w ≡ got b (o + k) w
  part w k le = ap (λ (p : ℕ). got (take 24 (drop o b)) p w) (omega arith) ∙ got_part b o w k le

  pub trip_part : trip_at (take 24 (drop o b)) 0 ≡ trip_at b o
  unfolding trip_at
  trip_part =
      rw (
        part 2 0 (omega arith),
        part 2 2 (omega arith),
        part 2 4 (omega arith),
        part 2 6 (omega arith),
        part 1 8 (omega arith),
        part 2 10 (omega arith),
        part 4 12 (omega arith),
        part 2 16 (omega arith),
        part 2 18 (omega arith),
        part 2 20 (omega arith),
      ) refl

  pub record_part : record_ok (take 24 (drop o b)) 0 ≡ record_ok b o
  unfolding record_ok
  record_part = rw (trip_part, part 1 9 (omega arith), part 2 22 (omega arith)) refl

-- what was put between two parts of a file is the part from its offset on
pub put_between : (xs l ys : List ℕ) → length l ≡ 24 → take 24 (drop (length xs) (xs ++ (l ++ ys))) ≡ l
put_between xs l ys long = ap (take 24) (drop_at xs (l ++ ys) _ refl) ∙ take_at l ys 24 long

-- a file cut into its records
chunk_at : (n i : ℕ) (b : List ℕ) → i < n → get_or (first_chunks 24 n b) i [] ≡ take 24 (drop (i * 24) b)
chunk_at zero i b lt = absurd (omega arith)
chunk_at (suc n) zero b lt = refl
chunk_at (suc n) (suc i) b lt =
    let further : 24 + i * 24 ≡ suc i * 24 = omega arith in
    chunk_at n i (drop 24 b) (omega arith) ∙ ap (take 24) (drop-drop (i * 24) 24 b ∙ ap (λ (o : ℕ). drop o b) further)

module _ (b : List ℕ) (records : List (List ℕ)) (cut : records ≡ first_chunks 24 (length b / 24) b) (i : ℕ) (lt : i < length b / 24) where
  chunk : get_or records i [] ≡ take 24 (drop (i * 24) b)
  chunk = ap (λ l. get_or l i []) cut ∙ chunk_at (length b / 24) i b lt

  pub same_trip : trip_at (get_or records i []) 0 ≡ trip_at b (i * 24)
  same_trip = ap (λ l. trip_at l 0) chunk ∙ trip_part b (i * 24)

  pub same_record : record_ok (get_or records i []) 0 ≡ record_ok b (i * 24)
  same_record = ap (λ l. record_ok l 0) chunk ∙ record_part b (i * 24)

  pub same_serial : got (get_or records i []) 0 2 ≡ got b (i * 24) 2
  same_serial =
      let start : i * 24 + 0 ≡ i * 24 = omega arith in
      ap (λ l. got l 0 2) chunk ∙ got_part b (i * 24) 2 0 (omega arith) ∙ ap (λ (o : ℕ). got b o 2) start

-- a number reads back from the bytes that it was put in
got_tail : (a : ℕ) (l : List ℕ) (w o : ℕ) → got (a ∷ l) (suc o) w ≡ got l o w
unfolding got
got_tail a l zero o = refl
got_tail a l (suc w) o = rw (got_tail a l w (suc o)) refl

got_put : (w x : ℕ) → x < 256 ^ w → got (put w x) 0 w ≡ x
unfolding got put
got_put zero x lt = omega arith
got_put (suc w) x lt =
    let less : x / 256 < 256 ^ w = omega (arith, pow.suc 256 w) in
    rw (got_tail (x % 256) (put w (x / 256)) w 0, got_put w (x / 256) less) (omega arith)

-- its zeros are zero
nine : (t : Trip) → got (layout t) (0 + 9) 1 ≡ 0
unfolding layout put got
nine t = refl

twenty_two : (t : Trip) → got (layout t) (0 + 22) 2 ≡ 0
unfolding layout put got
twenty_two t = refl

-- a record that was laid out reads as it was
module _ (t : Trip) (width : InWidth t) (ok : values_ok t ≡ true) where
  b : Bounded t
  b = bounded t ok

  pub trip_back : trip_at (layout t) 0 ≡ t
  unfolding trip_at layout put got
  trip_back =
      rw (
        got_put 2 _ width.serial,
        got_put 2 _ width.cart,
        got_put 2 t.start (omega (arith, b.start)),
        got_put 2 t.goal (omega (arith, b.goal)),
        got_put 1 t.ending (omega (arith, b.ending)),
        got_put 2 t.last (omega (arith, b.last)),
        got_put 4 t.moves (omega (arith, b.moves)),
        got_put 2 t.required (omega (arith, b.required)),
        got_put 2 t.look (omega (arith, b.look)),
        got_put 2 t.limit (omega (arith, b.limit)),
      ) refl

  pub record_back : record_ok (layout t) 0 ≡ true
  unfolding record_ok
  record_back = rw (trip_back, ok, nine t, twenty_two t) refl
