-- What each function of the C interface promises allows one answer alone, and one content of each list that is lent.
use Prim.Native.Nat.{ℕ}
use mathlib.Core.Path.{◌≡◌, ◌∙◌, sym}
use mathlib.Core.List.{List}
use Rattle.floor.specs.declared.Floor.{Floor}
use Rattle.rules.specs.declared.Trip.{Trip}
use Rattle.rules.specs.Request.{Request, Outcome}
use Rattle.theory.proofs.Outcomes.{alike}
use Rattle.planner.specs.Interface.{PrepareCall, LegCall, WalkCall, HostLegCall, RequiredCall, WriteCall, CountCall, ReadCall}

-- outcomes that are the same one are the same part by part
module _ {a b : ℕ} {n k e t m l f u : List ℕ} where
  parts : {o : Outcome} → ◌≡◌ {A = Outcome} (record { refused = a; numbers = n; known = k; est = e; trail = t }) o
      → ◌≡◌ {A = Outcome} (record { refused = b; numbers = m; known = l; est = f; trail = u }) o → (a ≡ b) × (n ≡ m) × (k ≡ l) × (e ≡ f) × (t ≡ u)
  parts p q = let same = alike (p ∙ sym q) in (same.refused, same.numbers, same.known, same.est, same.trail)

  pub leg_unique : {r : Request} → LegCall r a n k e t → LegCall r b m l f u → (a ≡ b) × (n ≡ m) × (k ≡ l) × (e ≡ f) × (t ≡ u)
  leg_unique p q = parts p.gives q.gives

  pub walk_unique : {allowance : ℕ} {r : Request} → WalkCall allowance r a n k e t → WalkCall allowance r b m l f u
      → (a ≡ b) × (n ≡ m) × (k ≡ l) × (e ≡ f) × (t ≡ u)
  walk_unique p q = parts p.gives q.gives

  pub host_leg_unique : {cart c d : List ℕ} {r : Request} → HostLegCall cart r a n k e t c → HostLegCall cart r b m l f u d
      → ((a ≡ b) × (n ≡ m) × (k ≡ l) × (e ≡ f) × (t ≡ u)) × (c ≡ d)
  host_leg_unique p q = (leg_unique p.leg q.leg, p.books ∙ sym q.books)

module _ {a b : ℕ} {l m : List ℕ} where
  pub prepare_unique : {f : Floor} {goal : ℕ} {est : List ℕ} → PrepareCall f goal est a l → PrepareCall f goal est b m → (a ≡ b) × (l ≡ m)
  prepare_unique p q = (cc, cc)

  pub required_unique : {f : Floor} {start goal : ℕ} → RequiredCall f start goal a l → RequiredCall f start goal b m → (a ≡ b) × (l ≡ m)
  required_unique p q = (cc, cc)

  pub write_unique : {trip : Trip} {room : List ℕ} → WriteCall trip room a l → WriteCall trip room b m → (a ≡ b) × (l ≡ m)
  write_unique p q = (cc, cc)

  pub count_unique : {bytes : List ℕ} → CountCall bytes a l → CountCall bytes b m → (a ≡ b) × (l ≡ m)
  count_unique p q = (cc, cc)

  pub read_unique : {bytes : List ℕ} {number : ℕ} → ReadCall bytes number a l → ReadCall bytes number b m → (a ≡ b) × (l ≡ m)
  read_unique p q = (cc, cc)
