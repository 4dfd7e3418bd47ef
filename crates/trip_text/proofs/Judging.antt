-- The refusals that a fresh trip may meet, and what an errand and its rows come to, case by case.
use Prim.Native.Nat.{ℕ, zero, suc}
use mathlib.Core.Path.{◌≡◌, refl}
use mathlib.Core.Bool.{Bool, true, false, ◌&&◌}
use mathlib.Core.List.{List}
use native.Mathlib.Omega.{arith}
use lib.Dec.{ltb}
use Rattle.floor.specs.Floor.{sizes_ok, cells, byte, refusal}
use Rattle.rules.specs.Request.{setting_ok}
use Rattle.trip_text.specs.declared.{Errand.Errand}
use Rattle.trip_text.specs.Heard.{BadInput, Refused, Asked}
use Rattle.trip_text.specs.Parts.{rest_ok, mark, errand_refusal, judged}

pub blocked_byte : (t : Bool) → byte t ≡ 1 → t ≡ true
unfolding byte
blocked_byte true e = refl
blocked_byte false e = absurd (omega arith)

pub open_byte : (t : Bool) → (byte t ≡ 1 → ⊥) → t ≡ false
unfolding byte
open_byte true h = absurd (h refl)
open_byte false h = refl

module _ (rows : List ℕ) (e : Errand) where
  abbrev pub ends_on_floor : Bool
  ends_on_floor = ltb e.start (cells e.floor) && ltb e.goal (cells e.floor)

  abbrev pub allowed : Bool
  allowed = setting_ok (record { look = e.setting.look.0; limit = e.setting.limit.0 })

  abbrev stuck : Bool
  stuck = mark rows e.floor.width e.start

  pub off_floor : ends_on_floor ≡ false → 3 ≡ errand_refusal rows e
  unfolding errand_refusal refusal
  off_floor a = rw (a, errand_refusal)

  module _ (a : ends_on_floor ≡ true) where
    pub not_allowed : allowed ≡ false → 4 ≡ errand_refusal rows e
    unfolding errand_refusal refusal
    not_allowed b = rw (a, b, errand_refusal)

    pub on_rack : allowed ≡ true → stuck ≡ true → 8 ≡ errand_refusal rows e
    unfolding errand_refusal refusal
    on_rack b c = rw (a, b, c, errand_refusal)

    pub none : allowed ≡ true → stuck ≡ false → 0 ≡ errand_refusal rows e
    unfolding errand_refusal refusal
    none b c = rw (a, b, c, errand_refusal)

  abbrev lawful : Bool
  lawful = rest_ok rows e.floor.width e.floor.height

  pub bad_sizes : sizes_ok e.floor ≡ false → Refused 1 ≡ judged rows e
  unfolding judged
  bad_sizes s = rw (s, judged)

  module _ (s : sizes_ok e.floor ≡ true) where
    pub bad_rows : lawful ≡ false → BadInput ≡ judged rows e
    unfolding judged
    bad_rows l = rw (s, l, judged)

    pub refused : lawful ≡ true → (n : ℕ) → n ≡ errand_refusal rows e → (n ≡ 0 → ⊥) → Refused n ≡ judged rows e
    unfolding judged
    refused l zero r some = absurd (some refl)
    refused l (suc n) r some = rw (s, l, ← r, judged)

    pub taken : lawful ≡ true → 0 ≡ errand_refusal rows e → Asked e ≡ judged rows e
    unfolding judged
    taken l r = rw (s, l, ← r, judged)
