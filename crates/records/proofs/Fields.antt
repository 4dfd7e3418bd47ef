-- A record field by field: as the code lays it out, as it reads it, and how large each value can be.
use Rattle.std.proofs.Common.{◌≡◌, ℕ, ◌+◌, ◌<◌, ◌≤◌, true, not, ◌&&◌, ◌||◌, eqb, ltb, leb, List, [], ◌∷◌, length, get_or, refl, arith, ◌++◌, w8, w16, w32, Fits, ltb-true, leb-true}
use Rattle.std.specs.Int.{to_le_bytes}
use Rattle.floor.specs.Floor.{up_to}
use Rattle.floor.proofs.Tools.{and_1, and_2}
use Rattle.rules.specs.declared.Trip.{Trip}
use Rattle.rules.specs.Record.{put, got, layout, trip_at, values_ok}
use Rattle.records.proofs.Numbers.{put_one, put_two, put_four, got_one}

pub length-layout : (t : Trip) → length (layout t) ≡ 24
unfolding layout put
length-layout t = refl

zero_one : put 1 0 ≡ 0 ∷ []
unfolding put
zero_one = refl

zero_two : put 2 0 ≡ 0 ∷ 0 ∷ []
unfolding put
zero_two = refl

pub laid : (t : Trip) → Fits w8 t.ending
    → to_le_bytes w16 t.serial ++ to_le_bytes w16 t.cart ++ to_le_bytes w16 t.start ++ to_le_bytes w16 t.goal ++ t.ending ∷ 0 ∷ []
    ++ to_le_bytes w16 t.last ++ to_le_bytes w32 t.moves ++ to_le_bytes w16 t.required ++ to_le_bytes w16 t.look ++ to_le_bytes w16 t.limit
    ++ 0 ∷ 0 ∷ [] ≡ layout t
unfolding layout
laid t e =
    rw (
      put_two t.serial,
      put_two t.cart,
      put_two t.start,
      put_two t.goal,
      put_one t.ending e,
      put_two t.last,
      put_four t.moves,
      put_two t.required,
      put_two t.look,
      put_two t.limit,
      zero_one,
      zero_two,
    ) refl

pub taken : (b : List ℕ) (o : ℕ)
    → ◌≡◌ {A = Trip} (record {
      serial = got b o 2;
      cart = got b (o + 2) 2;
      start = got b (o + 4) 2;
      goal = got b (o + 6) 2;
      ending = get_or b (o + 8) 0;
      last = got b (o + 10) 2;
      moves = got b (o + 12) 4;
      required = got b (o + 16) 2;
      look = got b (o + 18) 2;
      limit = got b (o + 20) 2;
    }) (trip_at b o)
unfolding trip_at
taken b o = let e : o + 0 ≡ o = omega arith in rw (e, got_one b (o + 8)) refl

-- what the rules say of a record's values, each of which is in its width
pub record Bounded (t : Trip) : Type 0 where
  pub ending : t.ending ≤ 3
  pub start : t.start < 4096
  pub goal : t.goal < 4096
  pub last : t.last < 4096
  pub moves : t.moves ≤ 16769025
  pub required : t.required ≤ 126
  pub look : t.look ≤ 4096
  pub limit : t.limit ≤ 4096

pub bounded : (t : Trip) → values_ok t ≡ true → Bounded t
unfolding values_ok up_to
bounded t ok =
    let start = up_to 3 t.ending && ltb t.start 4096 in
    let goal = start && ltb t.goal 4096 in
    let last = goal && ltb t.last 4096 in
    let arrived = last && (not (eqb t.ending 1) || eqb t.last t.goal) in
    let only_so = arrived && (not (eqb t.last t.goal) || eqb t.ending 1) in
    let moves = only_so && leb t.moves 16769025 in
    let required = moves && leb t.required 126 in
    let look = required && up_to 4096 t.look in
    let to-look = and_1 look (up_to 4096 t.limit) ok in
    let to-required = and_1 required (up_to 4096 t.look) to-look in
    let to-moves = and_1 moves (leb t.required 126) to-required in
    let to_last = and_1 last _ (and_1 arrived _ (and_1 only_so (leb t.moves 16769025) to-moves)) in
    let to-goal = and_1 goal (ltb t.last 4096) to_last in
    let to_start = and_1 start (ltb t.goal 4096) to-goal in
    record {
      ending = leb-true _ _ (and_2 (ltb 0 t.ending) (leb t.ending 3) (and_1 (up_to 3 t.ending) (ltb t.start 4096) to_start));
      start = ltb-true _ _ (and_2 (up_to 3 t.ending) (ltb t.start 4096) to_start);
      goal = ltb-true _ _ (and_2 start (ltb t.goal 4096) to-goal);
      last = ltb-true _ _ (and_2 goal (ltb t.last 4096) to_last);
      moves = leb-true _ _ (and_2 only_so (leb t.moves 16769025) to-moves);
      required = leb-true _ _ (and_2 moves (leb t.required 126) to-required);
      look = leb-true _ _ (and_2 (ltb 0 t.look) (leb t.look 4096) (and_2 required (up_to 4096 t.look) to-look));
      limit = leb-true _ _ (and_2 (ltb 0 t.limit) (leb t.limit 4096) (and_2 look (up_to 4096 t.limit) ok));
    }
