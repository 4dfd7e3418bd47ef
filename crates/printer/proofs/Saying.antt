-- What turns say, one after another: a last line, the end, and what is left of a trip before and after a leg.
use Prim.Native.Nat.{ℕ, zero, suc, ◌+◌, ◌<◌}
use mathlib.Core.Path.{◌≡◌, ◌∙◌, refl, ap}
use mathlib.Core.List.{List, [], ◌++◌, append_assoc, append-nil}
use native.Mathlib.Omega.{arith}
use native.Mathlib.Nat.{add-zero, zero-add}
use lib.ListN.{length, take, length-append}
use Rattle.rules.specs.Leg.{Ending, Leg, Stand}
use Rattle.rules.specs.Walk.{Walk, trail_of, opened_in, standing, onward}
use Rattle.rules.specs.Printer.{ascii, leg_line, leg_lines, end_line, spaced, trip}
use Rattle.host.specs.declared.Cart.{Cart}
use Rattle.trip_lines.specs.declared.Line.{Line, TheVariants.Estimates}
use Rattle.trip_lines.specs.Lines.{text_of}
use Rattle.std.specs.Prelude.{Option, Some, None}
use Rattle.printer.specs.declared.Turn.{Turn, TheVariants.Last}
use Rattle.printer.specs.Turns.{Turned, ended, turned}
use Rattle.printer.specs.Promise.{line_text, said}

pub says : (count : ℕ) (turn : Option Turn) (plan known est : List ℕ) (t : Turned) → turned turn plan known est ≡ t
    → said (suc count) turn plan known est ≡ line_text t.line t.est ++ said count t.turn plan t.known t.est
unfolding said
says count turn plan known est t is =
    ap (λ (t : Turned). line_text t.line t.est ++ said count t.turn plan t.known t.est) is

over_says : (count : ℕ) (plan known est : List ℕ) → said count None plan known est ≡ []
unfolding said turned line_text
over_says zero plan known est = refl
over_says (suc count) plan known est = over_says count plan known est

pub last_says : (count : ℕ) → 0 < count → (l : Line) (plan known est : List ℕ) → said count (Some (Last l)) plan known est ≡ text_of l est
unfolding said turned line_text
last_says zero some l plan known est = absurd (omega arith)
last_says (suc count) some l plan known est =
    ap (λ (t : List ℕ). text_of l est ++ t) (over_says count plan known est) ∙ append-nil (text_of l est)

-- the end's line and the estimates
unfoldable pub closing : Ending → ℕ → ℕ → ℕ → List ℕ → List ℕ
closing e moves legs opened est = end_line e moves legs opened ++ (ascii "estimates" ++ spaced est)

pub end_says : (count : ℕ) → 1 < count → (turn : Option Turn) (plan known est : List ℕ) (e : Ending) (cart : Cart) (n : ℕ)
    → turned turn plan known est ≡ ended e cart n known est
    → said count turn plan known est ≡ closing e cart.moves cart.legs cart.opened (take n est)
unfolding ended line_text text_of closing
end_says zero some turn plan known est e cart n is = absurd (omega arith)
end_says (suc count) some turn plan known est e cart n is =
    says count turn plan known est (ended e cart n known est) is
    ∙ ap (λ (t : List ℕ). end_line e cart.moves cart.legs cart.opened ++ t) (last_says count (omega arith) (Estimates n) plan known est)

-- what is left of a trip's text where the walk w is left, after the cart's totals
unfoldable pub rest : Cart → Walk → List ℕ
rest cart w =
    leg_lines (suc cart.legs) w.legs
    ++ closing w.ending (cart.moves + length (trail_of w.legs)) (cart.legs + length w.legs) (cart.opened + opened_in w.legs) w.stand.est

pub rest_standing : (cart : Cart) (e : Ending) (s : Stand) → rest cart (standing e s) ≡ closing e cart.moves cart.legs cart.opened s.est
unfolding rest standing leg_lines trail_of opened_in
rest_standing cart e s = simp add-zero

pub rest_onward : (cart after : Cart) (l : Leg) (w : Walk) → after.moves ≡ cart.moves + length l.trail → after.legs ≡ cart.legs + 1
    → after.opened ≡ cart.opened + l.opened
    → rest cart (onward l w) ≡ leg_line after.legs l.opened (length l.trail) l.cell ++ rest after w
unfolding rest onward leg_lines trail_of opened_in
rest_onward cart after l w moves legs opened =
    let m : cart.moves + (length l.trail + length (trail_of w.legs)) ≡ after.moves + length (trail_of w.legs) = omega arith in
    let g : cart.legs + suc (length w.legs) ≡ after.legs + length w.legs = omega arith in
    let o : cart.opened + (l.opened + opened_in w.legs) ≡ after.opened + opened_in w.legs = omega arith in
    let i : suc cart.legs ≡ after.legs = omega arith in
    rw (length-append, m, g, o, i, append_assoc)

-- before the first leg all of it is left
pub whole_trip : (cell : ℕ) (w : Walk) → rest (record { cell = cell; moves = 0; opened = 0; legs = 0 }) w ≡ trip w
unfolding rest closing trip
whole_trip cell w = simp (zero-add, append_assoc)
