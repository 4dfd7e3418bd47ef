-- Document 01, "Ten small floors": what the definitions give, beside what is expected, as one table
use Rattle.std.specs.Prelude.{ℕ, ◌-◌, length, drop, replicate}
use Prim.Native.String.{String}
use mathlib.Core.{Path.◌≡◌, Path.refl, List.List, List.[], List.◌∷◌, List.◌++◌, List.map}
use Rattle.floor.specs.Floor.{up_to, sizes_ok, cells, gap, manhattan, beside, tabulate, byte, blocked, value_at, refusal, if_accepted, prepared}
use Rattle.rules.specs.{Request.Request, Request.Outcome, Record.Trip, Sound.every, Sound.within, Sound.near_ok, Sound.sound, Search.start, Search.falls, Search.joins, Search.opening, Search.beats, Search.better, Search.pick, Search.taken, Search.seek, Leg.sense, Leg.lifted, Leg.raise, Leg.ours, Leg.route, Leg.barred, Leg.parked, Leg.moved, Leg.drive, Leg.last, Leg.ended, Leg.stayed, Leg.driven, Leg.followed, Leg.leg, Leg.leg_from, Leg.left, Walk.trail_of, Walk.opened_in, Walk.standing, Walk.onward, Walk.after_leg, Walk.capped, Walk.walking, Walk.walk, Request.setting_ok, Request.walk_refusal, Request.leg_refusal, Request.number_of, Request.outcome, Request.leg_of, Request.leg_outcome, Request.walk_of, Request.walk_outcome, Record.put, Record.got, Record.layout, Record.trip_at, Record.values_ok, Record.record_ok, Record.write_refusal, Record.written, Record.follows, Record.record_tests, Record.count_refusal, Record.counted, Record.read_refusal, Record.read_trip, Printer.ascii, Printer.joined, Printer.split, Printer.is_number, Printer.value_of, Printer.word, Printer.field, Printer.line_at, Printer.first_line_ok, Printer.asked, Printer.row_ok, Printer.rows_ok, Printer.digits, Printer.decimal, Printer.leg_line, Printer.leg_lines, Printer.end_line, Printer.spaced, Printer.trip, Printer.printed}

-- numbers of one digit each
d : String → List ℕ
d s = map (λ x. x - 48) (ascii s)

-- a request: sizes, plan, known map, estimates, cart, goal, lookahead, move limit, and the length of the trail
ask : ℕ → ℕ → List ℕ → List ℕ → List ℕ → ℕ → ℕ → ℕ → ℕ → ℕ → Request
ask w h plan known est cart goal look limit n =
    record { floor = record { width = w; height = h }; plan = plan; stand = record { known = known; est = est; cell = cart }; goal = goal; setting = record { look = look; limit = limit }; trail = replicate n 9999 }

-- the same with a fresh known map and estimates
fresh : ℕ → ℕ → List ℕ → ℕ → ℕ → ℕ → ℕ → ℕ → Request
fresh w h plan cart goal = ask w h plan (replicate (length plan) 0) (prepared (record { width = w; height = h }) goal) cart goal

-- what an entry answers and leaves, in one list
flat : Outcome → List ℕ
flat o = o.refused ∷ o.numbers ++ o.known ++ o.est ++ o.trail

-- a walk, whose allowance is the trail's length, gives: ending, cell, moves, legs, opened; known map; estimates; trail
walks : Request → List ℕ → List ℕ → List ℕ → List ℕ → List ℕ × List ℕ
walks r numbers known est made =
    (flat (walk_outcome (length r.trail) r), 0 ∷ numbers ++ known ++ est ++ made ++ drop (length made) r.trail)

-- a leg is refused, with the cart as given, and nothing changes
refuses : ℕ → Request → List ℕ × List ℕ
refuses n r = (flat (leg_outcome r), n ∷ 0 ∷ r.stand.cell ∷ 0 ∷ 0 ∷ r.stand.known ++ r.stand.est ++ r.trail)

trip_j : Trip
trip_j = record { serial = 65535; cart = 7; start = 0; goal = 2; ending = 1; last = 2; moves = 4; required = 2; look = 1; limit = 1 }

bytes_j : List ℕ
bytes_j = 0xff ∷ 0xff ∷ 7 ∷ 0 ∷ 0 ∷ 0 ∷ 2 ∷ 0 ∷ 1 ∷ 0 ∷ 2 ∷ 0 ∷ 4 ∷ 0 ∷ 0 ∷ 0 ∷ 2 ∷ 0 ∷ 1 ∷ 0 ∷ 1 ∷ 0 ∷ 0 ∷ 0 ∷ []

printed_f : String
printed_f =
    "leg 1 opened 1 moves 1 cell 3\nleg 2 opened 1 moves 1 cell 4\nleg 3 opened 1 moves 1 cell 5\nleg 4 opened 1 moves 1 cell 2\nend arrived moves 4 legs 4 opened 4\nestimates 4 1 0 3 2 1\n"

-- cases A to J, the printed floor, cases of our own, and a request for each refusal
pub table : List (List ℕ × List ℕ)
table =
    walks (fresh 1 1 (d "0") 0 0 1 1 100) (d "10000") (d "0") (d "0") []  -- A
    ∷ walks (fresh 4 1 (d "0000") 0 3 1 1 100) (d "13333") (d "0000") (d "3210") (d "123")  -- B
    ∷ walks (fresh 4 1 (d "0000") 0 3 2 4096 100) (d "13323") (d "0000") (d "3210") (d "123")  -- C
    ∷ walks (fresh 2 2 (d "0000") 0 3 1 1 100) (d "13222") (d "0000") (d "2110") (d "13")  -- D
    ∷ walks (fresh 2 2 (d "0000") 0 3 2 4096 100) (d "13212") (d "0000") (d "2110") (d "13")  -- E
    ∷ walks (fresh 3 2 (d "010000") 0 2 1 1 100) (d "12444") (d "010000") (d "410321") (d "3452")  -- F
    ∷ walks (fresh 3 1 (d "001") 0 2 2 4096 100) (d "21124") (d "001") (d "210") (d "1")  -- G
    ∷ walks (fresh 5 1 (d "00010") 1 4 1 1 100) (d "21233") (d "00010") (d "43410") (d "21")  -- H
    ∷ walks (fresh 4 1 (d "0000") 0 3 1 1 2) (d "32222") (d "0000") (d "3210") (d "12")  -- I
    ∷ (written trip_j (replicate 24 9), bytes_j)  -- J
    ∷ (layout (read_trip bytes_j 0), bytes_j)  -- J read
    ∷ (counted (bytes_j ++ 0 ∷ 0 ∷ drop 2 bytes_j) ∷ [], d "2")  -- J, and the serial after 65,535
    ∷ (printed (ascii "3 2 0 2 1 1 100\n.#.\n...\n"), ascii printed_f)  -- F printed
    ∷ walks (ask 2 2 (d "0000") (d "0000") (d "0000") 0 3 9 4096 100) (d "13213") (d "0000") (d "2110") (d "13")  -- the goal waits in the frontier while another cell is opened
    ∷ walks (fresh 4 1 (d "0000") 0 3 3 4096 2) (d "32213") (d "0000") (d "3210") (d "12")  -- a move limit above the moves left
    ∷ walks (fresh 4 2 (d "00000111") 0 3 9 4096 3) (d "13313") (d "00000111") (d "32104321") (d "123")  -- what lies beside the route and the goal is sensed
    ∷ walks (fresh 3 1 (d "010") 0 2 9 9 9) (d "20011") (d "010") (d "210") []  -- cut off at once, what was sensed stays
    ∷ refuses 1 (ask 65 1 [] [] [] 9 9 0 9 1)
    ∷ refuses 2 (ask 3 1 (d "000") (d "00") (d "101") 3 1 0 9 1)
    ∷ refuses 3 (ask 3 1 (d "000") (d "000") (d "101") 0 3 0 9 1)
    ∷ refuses 4 (ask 3 1 (d "000") (d "000") (d "101") 0 1 0 9 1)
    ∷ refuses 5 (ask 3 1 (d "002") (d "000") (d "101") 0 1 1 2 1)
    ∷ refuses 6 (ask 3 1 (d "002") (d "100") (d "101") 0 1 1 1 1)
    ∷ refuses 7 (ask 3 1 (d "100") (d "001") (d "101") 0 1 1 1 1)
    ∷ refuses 8 (ask 3 1 (d "100") (d "000") (d "111") 0 1 1 1 1)
    ∷ refuses 9 (ask 3 1 (d "000") (d "000") (d "201") 0 1 1 1 1)
    ∷ (write_refusal trip_j [] ∷ count_refusal (d "7") ∷ count_refusal (replicate 24 1) ∷ read_refusal bytes_j 1 ∷ count_refusal (bytes_j ++ bytes_j) ∷ [], 10 ∷ 10 ∷ 11 ∷ 11 ∷ 12 ∷ [])  -- 10, 11 and 12 of records
    ∷ []

pub all_hold : map (λ row. row.0) table ≡ map (λ row. row.1) table
unfolding table d ask fresh flat walks refuses trip_j bytes_j printed_f up_to sizes_ok cells gap manhattan beside tabulate byte blocked value_at refusal if_accepted prepared every within near_ok sound start falls joins opening beats better pick taken seek sense lifted raise ours route barred parked moved drive last ended stayed driven followed leg leg_from left trail_of opened_in standing onward after_leg capped walking walk setting_ok walk_refusal leg_refusal number_of outcome leg_of leg_outcome walk_of walk_outcome put got layout trip_at values_ok record_ok write_refusal written follows record_tests count_refusal counted read_refusal read_trip ascii joined split is_number value_of word field line_at first_line_ok asked row_ok rows_ok digits decimal leg_line leg_lines end_line spaced trip printed
all_hold = refl
