-- A number as the library spells it is document 01's decimal, and the estimates one by one are the rest of their line.
use Rattle.std.proofs.Common.{take_all, ◌≡◌, ◌∙◌, ℕ, suc, ◌^◌, ◌<◌, ◌≤◌, List, [], ◌∷◌, ◌++◌, length, get_or, take, flat_map, refl, ap, sym, rules, arith, append_assoc, append-nil}
use Rattle.std.proofs.lemmas.Fmt.{PrependsLastDigit, decimal_from_prepends, length-decimal-le_succ}
use Rattle.std.specs.Fmt as fmt
use Rattle.rules.specs.{Leg.Ending, Printer.ascii, Printer.digits, Printer.decimal, Printer.leg_line, Printer.end_line, Printer.spaced}
use Rattle.rules.specs.{Leg.Arrived, Leg.CutOff, Leg.Spent, Leg.UnderWay}
use Rattle.trip_lines.specs.Lines.{ended}

own : PrependsLastDigit digits
unfolding digits
own = search rules

pub decimal_is : (n : ℕ) → n < 2 ^ 64 → fmt.decimal n ≡ decimal n
unfolding decimal
decimal_is n h =
    let short : length (fmt.decimal n) ≤ suc n = omega (arith, length-decimal-le_succ n h) in
    sym (decimal_from_prepends digits own (suc n) n [] h short ∙ append-nil (fmt.decimal n))

pub refused_shown : (number : ℕ) → number < 2 ^ 64 → ([] ++ (ascii "refused " ++ fmt.decimal number)) ++ ascii "\n" ≡ ascii "refused " ++ decimal number ++ ascii "\n"
refused_shown number a = rw (decimal_is number a) (simp append_assoc)

pub leg_shown : (number opened moves cell : ℕ) → number < 2 ^ 64 → opened < 2 ^ 64 → moves < 2 ^ 64 → cell < 2 ^ 64
    → (((([] ++ (ascii "leg " ++ fmt.decimal number)) ++ (ascii " opened " ++ fmt.decimal opened)) ++ (ascii " moves " ++ fmt.decimal moves)) ++ (ascii " cell " ++ fmt.decimal cell)) ++ ascii "\n"
    ≡ leg_line number opened moves cell
unfolding leg_line
leg_shown number opened moves cell a b c d = rw (decimal_is number a, decimal_is opened b, decimal_is moves c, decimal_is cell d) (simp append_assoc)

-- an estimate as it is shown
abbrev pub shown : ℕ → List ℕ
shown e = 32 ∷ fmt.decimal e

spaced_out : (es : List ℕ) → ((k : ℕ) → get_or es k 0 < 2 ^ 64) → flat_map shown es ++ 10 ∷ [] ≡ spaced es
unfolding spaced ascii
spaced_out [] fit = refl
spaced_out (e ∷ es) fit =
    rw (append_assoc (shown e) (flat_map shown es) (10 ∷ []), decimal_is e (fit 0), spaced_out es (λ k. fit (suc k))) refl

pub estimates_shown : (es : List ℕ) (i : ℕ) → length es ≤ i → ((k : ℕ) → get_or es k 0 < 2 ^ 64)
    → (ascii "estimates" ++ flat_map shown (take i es)) ++ ascii "\n" ≡ ascii "estimates" ++ spaced es
unfolding ascii
estimates_shown es i past fit = append_assoc (ascii "estimates") (flat_map shown (take i es)) (10 ∷ []) ∙ ap (λ (l : List ℕ). ascii "estimates" ++ l) (rw take_all (spaced_out es fit))

front : (ending : Ending) (moves legs opened : ℕ)
    → end_line ending moves legs opened ≡ ended ending ++ ascii " moves " ++ decimal moves ++ ascii " legs " ++ decimal legs ++ ascii " opened " ++ decimal opened ++ ascii "\n"
unfolding end_line ended
front Arrived moves legs opened = refl
front CutOff moves legs opened = refl
front Spent moves legs opened = refl
front UnderWay moves legs opened = refl

pub end_shown : (ending : Ending) (moves legs opened : ℕ) → moves < 2 ^ 64 → legs < 2 ^ 64 → opened < 2 ^ 64
    → (((([] ++ ended ending) ++ (ascii " moves " ++ fmt.decimal moves)) ++ (ascii " legs " ++ fmt.decimal legs)) ++ (ascii " opened " ++ fmt.decimal opened)) ++ ascii "\n"
    ≡ end_line ending moves legs opened
end_shown ending moves legs opened a b c = rw (decimal_is moves a, decimal_is legs b, decimal_is opened c, front) (simp append_assoc)
