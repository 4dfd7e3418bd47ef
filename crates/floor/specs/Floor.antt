-- Document 01, "The floor", with lists read as pictures, how refusals are numbered, preparing, and the required figure
use Rattle.std.specs.Prelude.{ℕ, zero, suc, ◌+◌, ◌-◌, ◌*◌, ◌/◌, ◌%◌, Option, Some, None, Result, Ok, Err, IfOk}
use mathlib.Core.{Path.◌≡◌, Bool.Bool, Bool.true, Bool.false, Bool.◌&&◌, List.List, List.[], List.◌∷◌}
use lib.{Dec.ltb, Dec.leb, Dec.eqb, ListN.length, ListN.get_or}
pub use Rattle.floor.specs.declared.{Floor.Floor, Heading.Heading, Refusal.Refusal}
pub use Rattle.floor.specs.declared.Heading.TheVariants.{North, West, East, South}
use Rattle.floor.specs.declared.Refusal.TheVariants.{Sizes, Lengths, Cells, Settings, Trail, Bytes, KnownMap, Blocked, Estimates, RecordSize, RecordValues, Serial}

-- x is in 1 to m
unfoldable pub up_to : ℕ → ℕ → Bool
up_to m x = ltb 0 x && leb x m

-- width and height are 1 to 64 each
unfoldable pub sizes_ok : Floor → Bool
sizes_ok f = up_to 64 f.width && up_to 64 f.height

-- N: the number of cells, which are numbered row by row from 0
unfoldable pub cells : Floor → ℕ
cells f = f.width * f.height

-- how far two numbers are apart
unfoldable pub gap : ℕ → ℕ → ℕ
gap a b = (a - b) + (b - a)

-- the Manhattan distance: rows apart and columns apart
unfoldable pub manhattan : Floor → ℕ → ℕ → ℕ
manhattan f a b = gap (a / f.width) (b / f.width) + gap (a % f.width) (b % f.width)

-- two cells of the floor that share a side
unfoldable pub beside : Floor → ℕ → ℕ → Bool
beside f a b = ltb a (cells f) && ltb b (cells f) && eqb (manhattan f a b) 1

-- where a heading leads from the cell c
unfoldable pub neighbour : Floor → ℕ → Heading → Option ℕ
neighbour f c North = elim (ltb c f.width) [ true ↦ None | false ↦ Some (c - f.width) ]
neighbour f c West = elim (eqb (c % f.width) 0) [ true ↦ None | false ↦ Some (c - 1) ]
neighbour f c East = elim (eqb (c % f.width + 1) f.width) [ true ↦ None | false ↦ Some (c + 1) ]
neighbour f c South = elim (ltb (c + f.width) (cells f)) [ true ↦ Some (c + f.width) | false ↦ None ]

-- a step leads to the cell x
unfoldable pub leads_to : Option ℕ → ℕ → Bool
leads_to (Some y) x = eqb x y
leads_to None x = false

-- what a caller lends is lists: a list is read as a picture, a function of the cell number, and a picture is written cell by cell
unfoldable pub tabulate : ℕ → (ℕ → ℕ) → List ℕ
tabulate zero p = []
tabulate (suc n) p = p 0 ∷ tabulate n (λ x. p (suc x))

unfoldable pub value_at : List ℕ → ℕ → ℕ
value_at l x = get_or l x 0

unfoldable pub blocked : List ℕ → ℕ → Bool
blocked l x = eqb (value_at l x) 1

unfoldable pub byte : Bool → ℕ
byte b = elim b [ false ↦ 0 | true ↦ 1 ]

-- tests in the table's order, each with its refusal: the number of the first that does not hold, or 0, accepted
unfoldable pub refusal : List (ℕ × Bool) → ℕ
refusal [] = 0
refusal ((n, true) ∷ tests) = refusal tests
refusal ((n, false) ∷ tests) = n

-- what an accepted request leaves, or what a refused one leaves
unfoldable pub if_accepted : {A : Type 0} → ℕ → A → A → A
if_accepted zero done kept = done
if_accepted (suc n) done kept = kept

-- preparing uses 1, 2 (estimates only) and 3 (goal only)
unfoldable pub prepare_refusal : Floor → ℕ → List ℕ → ℕ
prepare_refusal f goal est = refusal ((1, sizes_ok f) ∷ (2, eqb (length est) (cells f)) ∷ (3, ltb goal (cells f)) ∷ [])

-- each cell's Manhattan distance to the goal, blocked cells too
unfoldable pub prepared : Floor → ℕ → List ℕ
prepared f goal = tabulate (cells f) (λ x. manhattan f x goal)

-- a refusal's number in the table, and an answer's: 0 where it is no refusal
abbrev pub number : Refusal → ℕ
number r = elim r [ Sizes ↦ 1 | Lengths ↦ 2 | Cells ↦ 3 | Settings ↦ 4 | Trail ↦ 5 | Bytes ↦ 6 | KnownMap ↦ 7 | Blocked ↦ 8 | Estimates ↦ 9 | RecordSize ↦ 10 | RecordValues ↦ 11 | Serial ↦ 12 ]

unfoldable pub refused : {A : Type 0} → Result A Refusal → ℕ
refused (Ok done) = 0
refused (Err r) = number r

pub record PreparePromise (f : Floor) (goal : ℕ) (est : List ℕ) (answer : Result (Unit {0}) Refusal) (est' : List ℕ) : Type 0 where
  pub answers : refused answer ≡ prepare_refusal f goal est
  pub writes : est' ≡ if_accepted (prepare_refusal f goal est) (prepared f goal) est

-- the required figure uses 1 and 3 (start or goal)
unfoldable pub required_refusal : Floor → ℕ → ℕ → ℕ
required_refusal f start goal = refusal ((1, sizes_ok f) ∷ (3, ltb start (cells f) && ltb goal (cells f)) ∷ [])

pub record RequiredPromise (f : Floor) (start goal : ℕ) (answer : Result ℕ Refusal) : Type 0 where
  pub answers : refused answer ≡ required_refusal f start goal
  pub figure : IfOk answer (λ moves. moves ≡ manhattan f start goal)
