-- Demand 3 holds; and it holds of legs alone, with no gain of the known map between them.
use Prim.Native.Nat.{ℕ}
use mathlib.Core.Path.{◌≡◌, refl}
use mathlib.Core.Bool.{true, false}
use Rattle.floor.specs.Floor.{blocked, value_at, prepared}
use Rattle.floor.proofs.Geometry.{sides}
use Rattle.rules.specs.Leg.{Setting}
use Rattle.rules.specs.Request.{Request, setting_ok, leg_refusal}
use Rattle.theory.specs.Promise.{LegsKeep, Demand3}
use Rattle.theory.proofs.Soundness.{Within, within_test, sound_test, prepared_sound}
use Rattle.theory.proofs.Accepts.{accepted}
use Rattle.theory.proofs.Sequences.{legs_keep}
use Rattle.theory.proofs.Walks.{walk_keeps}

pub demand3 : Demand3
unfolding leg_refusal
demand3 = record {
  legs = λ r e gain setting. legs_keep r gain setting (accepted r.setting.limit r e);
  walks = λ r allowance e. walk_keeps r allowance (accepted allowance r e);
  prepared_are_sound = λ f known goal e lt. sound_test f known (value_at (prepared f goal)) goal (prepared_sound f known goal (sides f e).some_width lt);
}

-- legs alone, with no gain between them, are such a sequence
pub legs_alone : (r : Request) → leg_refusal r ≡ 0 → (setting : ℕ → Setting) → ((i : ℕ) → setting_ok (setting i) ≡ true) → LegsKeep r (λ i x. false) setting
unfolding Within
legs_alone r e setting ok =
    demand3.legs r e (λ i x. false) setting (λ i. (ok i, within_test r.floor (λ x. false) (blocked r.plan) (λ x lt o. refl)))
