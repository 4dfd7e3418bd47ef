-- A picture written back and read again is the picture, on the floor. The laws of a loop that writes a picture cell by cell.
use Prim.Native.Nat.{ℕ, zero, suc, ◌+◌, ◌≤◌, ◌<◌}
use mathlib.Core.Path.{◌≡◌, ◌∙◌, refl, sym, ap}
use mathlib.Core.Bool.{Bool, true, false}
use mathlib.Core.List.{List, [], ◌∷◌}
use native.Mathlib.Omega.{arith}
use lib.Dec.{eqb}
use lib.ListN.{length, get_or, set}
use lib.Seq.{ext_get_or, get_or-set_same, get_or-set_other}
use borrow.Author.Count.{below_none, below_more}
use Rattle.floor.specs.Floor.{tabulate, byte, blocked, value_at}

pub length-tabulate : (n : ℕ) (p : ℕ → ℕ) → length (tabulate n p) ≡ n
unfolding tabulate
length-tabulate zero p = refl
length-tabulate (suc n) p = ap suc (length-tabulate n (λ x. p (suc x)))

pub value_tabulate : (n : ℕ) (p : ℕ → ℕ) (x : ℕ) → x < n → value_at (tabulate n p) x ≡ p x
unfolding tabulate value_at
value_tabulate zero p x lt = absurd (omega arith)
value_tabulate (suc n) p zero lt = refl
value_tabulate (suc n) p (suc x) lt = value_tabulate n (λ y. p (suc y)) x (omega arith)

byte_is : (b : Bool) → eqb (byte b) 1 ≡ b
unfolding byte
byte_is true = refl
byte_is false = refl

pub blocked_tabulate : (n : ℕ) (p : ℕ → Bool) (x : ℕ) → x < n → blocked (tabulate n (λ y. byte (p y))) x ≡ p x
unfolding blocked
blocked_tabulate n p x lt = rw (value_tabulate n (λ y. byte (p y)) x lt) (byte_is (p x))

-- the list l shows the picture p at every cell below i
unfoldable pub Filled : (ℕ → ℕ) → ℕ → List ℕ → Type 0
Filled p i l = (x : ℕ) → x < i → value_at l x ≡ p x

pub filled_none : (p : ℕ → ℕ) (l : List ℕ) → Filled p 0 l
unfolding Filled
filled_none p l = below_none (λ x. value_at l x ≡ p x)

pub filled_more : (p : ℕ → ℕ) (i v : ℕ) (l : List ℕ) → i < length l → v ≡ p i → Filled p i l → Filled p (i + 1) (set l i v)
unfolding Filled value_at
filled_more p i v l lt e h = below_more (λ x. get_or (set l i v) x 0 ≡ p x) i
    (λ x b. get_or-set_other l i x v 0 (omega arith) ∙ h x b)
    (get_or-set_same l i v 0 lt ∙ e)

-- a list that shows the picture at each of its cells is the picture written back
pub filled_all : (p : ℕ → ℕ) (n i : ℕ) (l : List ℕ) → length l ≡ n → n ≤ i → Filled p i l → l ≡ tabulate n p
unfolding Filled value_at
filled_all p n i l e le h = ext_get_or 0 l (tabulate n p) (e ∙ sym (length-tabulate n p))
    (λ x lt. h x (omega arith) ∙ sym (value_tabulate n p x (omega arith)))

-- a list is its own picture, and so is a map without bytes above 1
pub own_values : (n : ℕ) (l : List ℕ) → length l ≡ n → l ≡ tabulate n (value_at l)
unfolding Filled
own_values n l e = filled_all (value_at l) n n l e (omega arith) (λ x lt. refl)

byte_back : (v : ℕ) → v ≤ 1 → v ≡ byte (eqb v 1)
unfolding byte
byte_back zero le = refl
byte_back (suc zero) le = refl
byte_back (suc (suc v)) le = absurd (omega arith)

pub own_bytes : (n : ℕ) (l : List ℕ) → length l ≡ n → ((x : ℕ) → x < n → value_at l x ≤ 1) → l ≡ tabulate n (λ x. byte (blocked l x))
unfolding Filled blocked
own_bytes n l e h = filled_all _ n n l e (omega arith) (λ x lt. byte_back (value_at l x) (h x lt))

-- past its end a list reads 0
pub value_past : (l : List ℕ) (i : ℕ) → length l ≤ i → value_at l i ≡ 0
unfolding value_at
value_past [] i le = refl
value_past (a ∷ l) zero le = absurd (omega arith)
value_past (a ∷ l) (suc i) le = value_past l i (omega arith)
