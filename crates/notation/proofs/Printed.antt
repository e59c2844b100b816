-- (35) to (37): what the paper prints of the two domains of a vertex, and of the vertex after a direction. Assumes
-- nothing.
use mathlib.Core.Path.{◌≡◌, ◌∙◌, refl, ap}
use mathlib.Core.List.{List, [], ◌∷◌, ◌++◌}
use Prim.Native.Nat.{ℕ, zero, suc}
use Rattle.net.specs.Division.{kept, middle}
use Rattle.net.proofs.Spread.{middle_turned}
use Rattle.notation.specs.Domains.{c1}
use Rattle.notation.specs.Vertices.{Pair, base_pair, next_pair, pair_by}

-- V2(Σ(0)) = V3(Σ(1)), V3(Σ(0)) = V2(Σ(1)): the two share their edge 1
pub record Shares (x : Pair) : Type 0 where
  pub base : x.zeroth.a2 ≡ x.first.a3
  pub other : x.zeroth.a3 ≡ x.first.a2

-- and its centre
pub centre : {x : Pair} → Shares x → c1 x.zeroth ≡ c1 x.first
centre {x} h = (λ i. middle (h.base i) (h.other i)) ∙ middle_turned x.first.a3 x.first.a2

base_shares : (a p : ℕ) → Shares (base_pair a p)
base_shares a zero = record { base = refl; other = refl }
base_shares a (suc p) = record { base = refl; other = refl }

next_shares : (s : ℕ) (x : Pair) → Shares x → Shares (next_pair s x)
next_shares zero x h = record { base = ap kept h.base; other = centre h }
next_shares (suc zero) x h = record { base = centre h; other = ap kept h.other }
next_shares (suc (suc zero)) x h = record { base = refl; other = refl }
next_shares (suc (suc (suc s))) x h = record { base = refl; other = refl }

by_shares : (ss : List ℕ) (x : Pair) → Shares x → Shares (pair_by ss x)
unfolding pair_by
by_shares [] x h = h
by_shares (s ∷ ss) x h = by_shares ss (next_pair s x) (next_shares s x h)

pub shares : (a p : ℕ) (ss : List ℕ) → Shares (pair_by ss (base_pair a p))
shares a p ss = by_shares ss (base_pair a p) (base_shares a p)

-- the pair of Ts, by that of T
pub pair_after : (s : ℕ) (ss : List ℕ) (x : Pair) → pair_by (ss ++ (s ∷ [])) x ≡ next_pair s (pair_by ss x)
unfolding pair_by
pair_after s [] x = refl
pair_after s (r ∷ ss) x = pair_after s ss (next_pair r x)
