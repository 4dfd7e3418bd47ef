-- Document 01, "Trip records": the layout, the rules, the writer, and the reader's count and reading by number.
use Rattle.std.specs.Prelude.{ℕ, zero, suc, ◌+◌, ◌*◌, ◌/◌, ◌%◌}
use mathlib.Core.{Bool.Bool, Bool.true, Bool.not, Bool.◌&&◌, Bool.◌||◌, List.List, List.[], List.◌∷◌, List.◌++◌}
use lib.{Dec.ltb, Dec.leb, Dec.eqb, ListN.length, ListN.get_or}
use Rattle.floor.specs.{Floor.up_to, Floor.refusal, Floor.if_accepted}
pub use Rattle.rules.specs.declared.Trip.{Trip}

-- x in w bytes, low byte first; and the number that stands in w bytes from the offset o on
unfoldable pub put : ℕ → ℕ → List ℕ
put zero x = []
put (suc w) x = x % 256 ∷ put w (x / 256)

unfoldable pub got : List ℕ → ℕ → ℕ → ℕ
got b o zero = 0
got b o (suc w) = get_or b o 0 + 256 * got b (suc o) w

-- the 24 bytes of a record: at 0, 2, 4, 6, 8, 9, 10, 12, 16, 18, 20, 22
unfoldable pub layout : Trip → List ℕ
layout t =
    put 2 t.serial ++ put 2 t.cart ++ put 2 t.start ++ put 2 t.goal ++ put 1 t.ending ++ put 1 0
    ++ put 2 t.last ++ put 4 t.moves ++ put 2 t.required ++ put 2 t.look ++ put 2 t.limit ++ put 2 0

-- the values of the record that starts at the offset o
unfoldable pub trip_at : List ℕ → ℕ → Trip
trip_at b o =
    let at : ℕ → ℕ → ℕ = λ k w. got b (o + k) w in
    record { serial = at 0 2; cart = at 2 2; start = at 4 2; goal = at 6 2; ending = at 8 1; last = at 10 2; moves = at 12 4; required = at 16 2; look = at 18 2; limit = at 20 2 }

-- the rules of a record's values; ending 1 exactly when last cell equals goal
unfoldable pub values_ok : Trip → Bool
values_ok t =
    up_to 3 t.ending && ltb t.start 4096 && ltb t.goal 4096 && ltb t.last 4096
    && (not (eqb t.ending 1) || eqb t.last t.goal) && (not (eqb t.last t.goal) || eqb t.ending 1)
    && leb t.moves 16769025 && leb t.required 126 && up_to 4096 t.look && up_to 4096 t.limit

-- the rules of the record that starts at the offset o: zeros are zero
unfoldable pub record_ok : List ℕ → ℕ → Bool
record_ok b o = values_ok (trip_at b o) && eqb (got b (o + 9) 1) 0 && eqb (got b (o + 22) 2) 0

-- the writer, of one record: 10 and 11; it fills the room
unfoldable pub write_refusal : Trip → List ℕ → ℕ
write_refusal t room = refusal ((10, eqb (length room) 24) ∷ (11, values_ok t) ∷ [])

unfoldable pub written : Trip → List ℕ → List ℕ
written t room = if_accepted (write_refusal t room) (layout t) room

-- serials run by one, and the serial after 65,535 is 0
abbrev pub next_serial : ℕ → ℕ
next_serial s = (s + 1) % 65536

-- the i-th record's serial is the one after the serial before; the first may be any
unfoldable pub follows : List ℕ → ℕ → Bool
follows b zero = true
follows b (suc i) = eqb (got b (suc i * 24) 2) (next_serial (got b (i * 24) 2))

-- record by record, n of them from the i-th on, 11 before 12 in each
unfoldable pub record_tests : List ℕ → ℕ → ℕ → List (ℕ × Bool)
record_tests b i zero = []
record_tests b i (suc n) = (11, record_ok b (i * 24)) ∷ (12, follows b i) ∷ record_tests b (suc i) n

-- the reader answers the number of records
unfoldable pub count_refusal : List ℕ → ℕ
count_refusal b = refusal ((10, eqb (length b % 24) 0) ∷ record_tests b 0 (length b / 24))

unfoldable pub counted : List ℕ → ℕ
counted b = if_accepted (count_refusal b) (length b / 24) 0

-- fields are read by record number, the whole file being tested first, and a number past the end is refused with 11
unfoldable pub read_refusal : List ℕ → ℕ → ℕ
read_refusal b i = if_accepted (count_refusal b) (refusal ((11, ltb i (length b / 24)) ∷ [])) (count_refusal b)

-- with a refusal every number is 0, as in no bytes at all
unfoldable pub read_trip : List ℕ → ℕ → Trip
read_trip b i = if_accepted (read_refusal b i) (trip_at b (i * 24)) (trip_at [] 0)
