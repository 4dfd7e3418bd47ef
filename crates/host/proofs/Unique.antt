-- What the host entry promises allows one outcome alone, since what a leg promises does.
use Prim.Native.Nat.{ℕ}
use mathlib.Core.Path.{◌≡◌, ◌∙◌, sym, ap}
use mathlib.Core.List.{List}
use Rattle.rules.specs.Request.{Request}
use Rattle.leg.proofs.Unique.{leg_unique}
use Rattle.host.specs.declared.{Cart.Cart, Hosted.Hosted}
use Rattle.host.specs.Host.{booked, HostPromise}

-- one answer leaves one record
one_record : {cart : Cart} {r : Request} {h j : Hosted} {k e t l f u : List ℕ}
    → HostPromise cart r h k e t → HostPromise cart r j l f u → h.answer ≡ j.answer → h ≡ j
one_record {cart = cart} {r = r} p q a =
    let c = p.books ∙ ap (booked cart r.goal) a ∙ sym q.books in λ i. record { cart = c i; answer = a i }

pub host_unique : {cart : Cart} {r : Request} {h j : Hosted} {k e t l f u : List ℕ}
    → HostPromise cart r h k e t → HostPromise cart r j l f u → (h ≡ j) × (k ≡ l) × (e ≡ f) × (t ≡ u)
host_unique p q = let same = leg_unique p.leg q.leg in (one_record p q same.0, same.1, same.2, same.3)
