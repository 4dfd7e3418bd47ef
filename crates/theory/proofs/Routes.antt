-- Open routes: a sound estimate is at most the length of any; they join and turn round; and where there is one, there is one of fewer than N moves.
use Prim.Native.Nat.{ℕ, ◌+◌, ◌≤◌}
use mathlib.Core.Path.{◌≡◌}
use mathlib.Core.Bool.{Bool, false}
use native.Mathlib.Omega.{arith}
use native.Mathlib.Nat.{zero-add, suc-add}
use native.Mathlib.Numerals.{add-one}
use Rattle.floor.specs.declared.Floor.{Floor}
use Rattle.theory.proofs.Soundness.{Sound, Within}
use Rattle.rules.specs.Sound.{Route, here, step}
use Rattle.floor.proofs.Geometry.{beside-left, beside-right, beside-sym}

module _ {f : Floor} {plan : ℕ → Bool} where
  pub route_open : {goal a n : ℕ} → Route f plan goal a n → plan a ≡ false
  route_open (here o) = o
  route_open (step o b r) = o

  pub joined : {b a c n m : ℕ} → Route f plan b a n → Route f plan c b m → Route f plan c a (n + m)
  joined (here o) r = rw zero-add r
  joined (step o b q) r = rw suc-add (step o b (joined q r))

  pub turned : {b a n : ℕ} → Route f plan b a n → Route f plan a b n
  turned (here o) = here o
  turned {a = a} (step {b = c} {n = k} o b q) = rw (← add-one k) (joined (turned q) (step (route_open q) (beside-sym f a c b) (here o)))

pub admissible : {f : Floor} {known plan : ℕ → Bool} {est : ℕ → ℕ} {goal a n : ℕ}
    → Sound f known est goal → Within f known plan → Route f plan goal a n → est a ≤ n
unfolding Within
admissible sound w (here o) = omega (arith, sound.at_goal)
admissible {f} sound w (step {a} {b} o e r) =
    omega (arith, sound.near a b e (w a (beside-left f a b e) o) (w b (beside-right f a b e) (route_open r)), admissible sound w r)
