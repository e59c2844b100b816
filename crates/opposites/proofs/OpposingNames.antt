-- The opposite of a corner's name: there is one and no other; twice it is the name. Assumes nothing.
use mathlib.Core.Path.{◌≡◌, ◌∙◌, sym, ap, subst}
use Prim.Native.Nat.{ℕ}
use Rattle.words.specs.Words.{corner_number, degree_of}
use Rattle.words.specs.Refusals.{IsCode}
use Rattle.words.specs.declared.CornerName.{CornerName}
use Rattle.words.specs.declared.TriangleCode.{TriangleCode}
use Rattle.net.specs.Corners.{code_inside, corner, named}
use Rattle.net.specs.Division.{Weights}
use Rattle.net.specs.Names.{IsName}
use Rattle.net.specs.Sides.{OneToThree}
use Rattle.net.proofs.Canonical.{name_means}
use Rattle.net.proofs.Demand3.{there_and_back}
use Rattle.net.proofs.Names.{one_name}
use Rattle.filing.specs.Coordinates.{exact, negated}
use Rattle.net.specs.Refusals.{check_name}
use Rattle.filing.proofs.OnePoint.{same_place}
use Rattle.grid.proofs.Nearest.{nearest}
use Rattle.opposites.specs.Opposites.{exchanged, IsOpposite, IsOppositeName}
use Rattle.opposites.proofs.Opposing.{negated_twice}

-- a name of the exchanged corner of the opposite triangle
pub opposing_by : {n : ℕ} {q r : CornerName} {u : TriangleCode} → IsName n (named q) q → IsOpposite n (code_inside q) u
    → IsName n (corner u (exchanged (corner_number q.0))) r → IsOppositeName n q r
opposing_by {n} {q} {r} x o y = record {
  canonical = (there_and_back n _ r y).1;
  negates = ap exact y.there ∙ o.negates (corner_number q.0) x.number;
}

-- there is one
pub name_some : {q : CornerName} → check_name q ≡ 0 → (r : CornerName) × IsOppositeName (degree_of q.0) q r
name_some {q} z =
    let x = nearest.name_some q z in
    let y = ((name_means x.0).0 x.1).1 in
    (x.0, record { canonical = subst (λ (n : ℕ). IsName n (named x.0) x.0) x.2 y; negates = x.3 })

-- a canonical name of a place is the name of the corner that a triangle has there
pub name_there : {n : ℕ} {r : CornerName} {u : TriangleCode} → IsName n (named r) r → IsCode n u → (j : ℕ)
    → OneToThree j → exact (named r) ≡ exact (corner u j) → IsName n (corner u j) r
name_there {n} {r} x c j l e =
    subst (λ (p : Weights). IsName n p r) ((same_place x.code c (corner_number r.0) j x.number l).0 e) x

-- two canonical names of one place are one
same_name : {n : ℕ} {r s : CornerName} → IsName n (named r) r → IsName n (named s) s
    → exact (named r) ≡ exact (named s) → r ≡ s
same_name {s = s} x y e = one_name (name_there x y.code (corner_number s.0) y.number e) y

-- so there is no other
pub name_only : {n : ℕ} {q r s : CornerName} → IsOppositeName n q r → IsOppositeName n q s → r ≡ s
name_only a b = same_name a.canonical b.canonical (a.negates ∙ sym b.negates)

-- "Opposite twice is the identity"
pub name_twice : {n : ℕ} {q r s : CornerName} → IsName n (named q) q → IsOppositeName n q r → IsOppositeName n r s
    → s ≡ q
name_twice {q = q} x a b =
    same_name b.canonical x (b.negates ∙ ap negated a.negates ∙ negated_twice (exact (named q)))
