-- Document 01, "The trip printer": what is printed, as a function of the bytes of standard input.
use Rattle.std.specs.Prelude.{ℕ, zero, suc, ◌+◌, ◌-◌, ◌*◌, ◌/◌, ◌%◌}
use Prim.Native.String.{String}
use Prim.Native.Char.{code}
use mathlib.Core.{Bool.Bool, Bool.true, Bool.false, Bool.not, Bool.◌&&◌, Bool.◌||◌, List.List, List.[], List.◌∷◌, List.◌++◌}
use lib.{Dec.ltb, Dec.leb, Dec.eqb, ListN.length, ListN.get_or}
use Rattle.floor.specs.{declared.Floor.Floor, Floor.up_to, Floor.sizes_ok, Floor.cells, Floor.tabulate, Floor.byte, Floor.prepared}
use Rattle.rules.specs.{Sound.every, Leg.Ending, Leg.Arrived, Leg.CutOff, Leg.Spent, Leg.UnderWay, Leg.Leg, Walk.Walk, Walk.trail_of, Walk.opened_in, Request.Request, Request.walk_refusal, Request.walk_of}

-- the bytes of a text
unfoldable pub ascii : String → List ℕ
ascii String.[] = []
ascii (String.◌∷◌ c s) = code c ∷ ascii s

-- the pieces between the bytes b, at least one: words between spaces (32), lines between line feeds (10)
unfoldable pub joined : ℕ → List (List ℕ) → List (List ℕ)
joined x [] = (x ∷ []) ∷ []
joined x (w ∷ ws) = (x ∷ w) ∷ ws

unfoldable pub split : ℕ → List ℕ → List (List ℕ)
split b [] = [] ∷ []
split b (x ∷ l) = elim (eqb x b) [ true ↦ [] ∷ split b l | false ↦ joined x (split b l) ]

-- a number: one to nine digits, leading zeros allowed; and its value, after what was read before it
unfoldable pub is_number : List ℕ → Bool
is_number w = up_to 9 (length w) && every (length w) (λ i. leb 48 (get_or w i 0) && leb (get_or w i 0) 57)

unfoldable pub value_of : ℕ → List ℕ → ℕ
value_of n [] = n
value_of n (x ∷ w) = value_of (n * 10 + (x - 48)) w

-- the i-th word of the first line: width height start goal lookahead limit allowance; `-` as limit stands for 1
unfoldable pub word : List ℕ → ℕ → List ℕ
word line i =
    let w = get_or (split 32 line) i [] in
    elim (eqb i 5 && eqb (length w) 1 && eqb (get_or w 0 0) 45) [ true ↦ ascii "1" | false ↦ w ]

unfoldable pub field : List ℕ → ℕ → ℕ
field line i = value_of 0 (word line i)

-- the text's lines: the first, then the rows; what follows the last line feed is one more, and empty
unfoldable pub line_at : List ℕ → ℕ → List ℕ
line_at text i = get_or (split 10 text) i []

unfoldable pub first_line_ok : List ℕ → Bool
first_line_ok text =
    let first = line_at text 0 in
    ltb 1 (length (split 10 text)) && eqb (length (split 32 first)) 7 && every 7 (λ i. is_number (word first i)) && leb (field first 6) 16384

-- the request: known map all open, estimates prepared
unfoldable pub asked : List ℕ → Request
asked text =
    let at = field (line_at text 0) in
    let f : Floor = record { width = at 0; height = at 1 } in
    record {
      floor = f;
      plan = tabulate (cells f) (λ x. byte (eqb (get_or (line_at text (1 + x / at 0)) (x % at 0) 0) 35));
      stand = record { known = tabulate (cells f) (λ x. 0); est = prepared f (at 3); cell = at 2 };
      goal = at 3;
      setting = record { look = at 4; limit = at 5 };
      trail = tabulate (at 6) (λ x. 0);
    }

-- height rows of `.` and `#`, each as long as the floor is wide, and no byte after the last line feed
unfoldable pub row_ok : ℕ → List ℕ → Bool
row_ok width row = eqb (length row) width && every width (λ i. eqb (get_or row i 0) 46 || eqb (get_or row i 0) 35)

unfoldable pub rows_ok : List ℕ → ℕ → ℕ → Bool
rows_ok text width height =
    eqb (length (split 10 text)) (height + 2) && every height (λ r. row_ok width (line_at text (1 + r))) && eqb (length (line_at text (height + 1))) 0

-- a number in decimal, in front of what follows
unfoldable pub digits : ℕ → ℕ → List ℕ → List ℕ
digits zero n rest = rest
digits (suc depth) n rest = elim (ltb n 10) [ true ↦ (n + 48) ∷ rest | false ↦ digits depth (n / 10) ((n % 10 + 48) ∷ rest) ]

unfoldable pub decimal : ℕ → List ℕ
decimal n = digits (suc n) n []

-- a leg's line: leg number, opened in it, moves in it, cell after it; and the lines from the leg number i on
unfoldable pub leg_line : ℕ → ℕ → ℕ → ℕ → List ℕ
leg_line i opened moves cell =
    ascii "leg " ++ decimal i ++ ascii " opened " ++ decimal opened ++ ascii " moves " ++ decimal moves ++ ascii " cell " ++ decimal cell ++ ascii "\n"

unfoldable pub leg_lines : ℕ → List Leg → List ℕ
leg_lines i [] = []
leg_lines i (l ∷ ls) = leg_line i l.opened (length l.trail) l.cell ++ leg_lines (suc i) ls

unfoldable pub end_line : Ending → ℕ → ℕ → ℕ → List ℕ
end_line e moves legs opened =  -- ending and totals
    ascii (elim e [ Arrived ↦ "end arrived" | CutOff ↦ "end cut off" | Spent ↦ "end spent" | UnderWay ↦ "end under way" ])
    ++ ascii " moves " ++ decimal moves ++ ascii " legs " ++ decimal legs ++ ascii " opened " ++ decimal opened ++ ascii "\n"

unfoldable pub spaced : List ℕ → List ℕ
spaced [] = ascii "\n"
spaced (e ∷ es) = ascii " " ++ decimal e ++ spaced es

unfoldable pub trip : Walk → List ℕ
trip w =
    leg_lines 1 w.legs ++ end_line w.ending (length (trail_of w.legs)) (length w.legs) (opened_in w.legs)
    ++ ascii "estimates" ++ spaced w.stand.est

-- in this order: the first line's text, refusal 1, the rows' text, the other refusals; else the walk
unfoldable pub printed : List ℕ → List ℕ
printed text =
    let r = asked text in
    let allowance = field (line_at text 0) 6 in
    elim (first_line_ok text && (not (sizes_ok r.floor) || rows_ok text r.floor.width r.floor.height)) [
      | false ↦ ascii "bad input\n"
      | true ↦ elim (walk_refusal allowance r) [ zero ↦ trip (walk_of allowance r) | suc n ↦ ascii "refused " ++ decimal (suc n) ++ ascii "\n" ]
    ]
