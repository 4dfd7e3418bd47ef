-- Where a byte first stands in a part of a text.
use Rattle.std.specs.Prelude.{ℕ, suc}
use mathlib.Core.{Bool.Bool, Bool.true, Bool.false, List.List, List.[], List.◌∷◌}
use lib.{Dec.eqb, ListN.take, ListN.drop}

-- the elements from index a up to index b
unfoldable pub slice : ℕ → ℕ → List ℕ → List ℕ
slice a b l = drop a (take b l)

-- 0 at an element that is the byte, else one more than where it stands in those after
unfoldable pub index_after : Bool → ℕ → ℕ
index_after true k = 0
index_after false k = suc k

-- where the byte first stands in a list; the length where it stands nowhere
unfoldable pub index_of : ℕ → List ℕ → ℕ
index_of b [] = 0
index_of b (x ∷ l) = index_after (eqb x b) (index_of b l)
