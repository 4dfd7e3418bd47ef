-- The reader's promise decides the answer and all lent memory: any two results that it allows are equal.
use mathlib.Core.Path.{◌≡◌, ◌∙◌, refl, sym, ap}
use mathlib.Core.List.{List}
use Prim.Native.Nat.{ℕ}
use Rattle.rules.specs.Printer.{asked}
use Rattle.std.specs.Prelude.{Result, Ok, Err}
use Rattle.trip_text.specs.declared.{Errand.Errand, Unheard.Unheard}
use Rattle.trip_text.specs.declared.Unheard.TheVariants as unheard
use Rattle.trip_text.specs.Heard.{Heard, told, laid, ReadPromise}

-- an answer is known by what it tells
told_unique : (g h : Result Errand Unheard) → told g ≡ told h → g ≡ h
unfolding told
told_unique (Ok e) (Ok f) s = cc
told_unique (Ok e) (Err unheard.BadInput) s = absurd (cc)
told_unique (Ok e) (Err (unheard.Refused r)) s = absurd (cc)
told_unique (Err unheard.BadInput) (Ok f) s = absurd (cc)
told_unique (Err unheard.BadInput) (Err unheard.BadInput) s = refl
told_unique (Err unheard.BadInput) (Err (unheard.Refused r)) s = absurd (cc)
told_unique (Err (unheard.Refused q)) (Ok f) s = absurd (cc)
told_unique (Err (unheard.Refused q)) (Err unheard.BadInput) s = absurd (cc)
told_unique (Err (unheard.Refused q)) (Err (unheard.Refused r)) s = cc

pub read_unique : {text plan known est : List ℕ} {g h : Result Errand Unheard} {p k e q l f : List ℕ} → ReadPromise text plan known est g p k e
    → ReadPromise text plan known est h q l f → (g ≡ h) × (p ≡ q) × (k ≡ l) × (e ≡ f)
read_unique {text} {plan} {known} {est} {g} {h} a b =
    let same = a.answers ∙ sym b.answers in (
      told_unique g h same,
      a.draws ∙ ap (λ (h : Heard). laid h (asked text).plan plan) same ∙ sym b.draws,
      a.opens ∙ ap (λ (h : Heard). laid h (asked text).stand.known known) same ∙ sym b.opens,
      a.prepares ∙ ap (λ (h : Heard). laid h (asked text).stand.est est) same ∙ sym b.prepares,
    )
