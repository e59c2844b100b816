-- What the calls for coordinates answer, from the calls below them. Assumes nothing.
use mathlib.Core.Path.{◌≡◌, ◌∙◌, refl, sym, ap, subst}
use mathlib.Core.List.{List, ◌++◌, append-nil}
use Prim.Native.Nat.{ℕ, ◌≤◌}
use native.Mathlib.Omega.{arith}
use lib.ListN.{length, drop}
use lib.Seq.{drop-length}
use Rattle.frame.specs.Answers.{over, Answer, Lent}
use Rattle.frame.proofs.Lengths.{never_nine}
use Rattle.frame.proofs.Answering.{answering, number_is}
use Rattle.words.specs.Words.{degree_of}
use Rattle.words.specs.declared.TriangleCode.{TriangleCode}
use Rattle.words.specs.declared.CornerName.{CornerName}
use Rattle.words.proofs.Codes.{code_degree, is_code, name_code}
use Rattle.net.specs.Corners.{corner, named}
use Rattle.net.specs.Refusals.{check_name}
use Rattle.corners.specs.Refusals.{refuse_numbered, refuse_weights, refuse_name_weights}
use Rattle.corners.specs.Answers.{Put}
use Rattle.points.specs.Answers.{Placed, Ticked, Pointed, no_coordinates, no_ticks, no_point}
use Rattle.net.proofs.Canonical.{name_means}
use Rattle.corners.proofs.Refused.{numbered_passes, weights_then, name_weights_then}
use Rattle.filing.specs.Coordinates.{exact}
use Rattle.filing.specs.Means.Places.{Twelve, Small}
use Rattle.filing.specs.declared.Coordinates.{Coordinates}
use Rattle.points.specs.Answers.{CoordinatesAnswer}
use Rattle.filing.specs.declared.Ticks.{Ticks}
use Rattle.filing.specs.declared.Point.{Point}
use Rattle.filing.specs.Drawing.{AreTicks, IsPoint}
use Rattle.points.proofs.DrawnBits.{pointed}
use Rattle.filing.proofs.Weighted.{corner_twelve, exact_small}

-- ---- where nothing is refused

module _ (t : TriangleCode) (i : ℕ) (z : refuse_numbered t i ≡ 0) where
  pub numbered_twelve : Twelve (corner t i)
  numbered_twelve = corner_twelve (is_code t ((numbered_passes t i).0 z).0) i

  pub numbered_small : Small (exact (corner t i))
  numbered_small = exact_small numbered_twelve

  pub numbered_degree : degree_of t.0 ≤ 24
  numbered_degree = code_degree (is_code t ((numbered_passes t i).0 z).0)

module _ (q : CornerName) (z : check_name q ≡ 0) where
  pub name_twelve : Twelve (named q)
  name_twelve = corner_twelve (name_code q ((name_means q).0 z).0) _

  pub name_small : Small (exact (named q))
  name_small = exact_small name_twelve

  pub name_degree : degree_of q.0 ≤ 24
  name_degree = code_degree (name_code q ((name_means q).0 z).0)

-- ---- the weights, in a list of twelve places: it is never too short, and all of it is written

-- f is the refusal of a call for coordinates, and g that of the call for the weights p
pub record Serves (f g : ℕ) (p out : List ℕ) : Type 0 where
  pub same : g ≡ f
  pub twelve : f ≡ 0 → Twelve p
  pub room : length out ≡ 12

pub numbered_serves : (t : TriangleCode) (i : ℕ) (out : List ℕ) → length out ≡ 12
    → Serves (refuse_numbered t i) (refuse_weights t i out) (corner t i) out
numbered_serves t i out l = record {
  same = never_nine (weights_then t i out) (omega (arith, l));
  twelve = numbered_twelve t i;
  room = l;
}

pub name_serves : (q : CornerName) (out : List ℕ) → length out ≡ 12
    → Serves (check_name q) (refuse_name_weights q out) (named q) out
name_serves q out l = record {
  same = never_nine (name_weights_then q out) (omega (arith, l));
  twelve = name_twelve q;
  room = l;
}

over_all : (xs out : List ℕ) → length xs ≡ length out → over xs out ≡ xs
over_all xs out e =
    ap (λ (n : ℕ). xs ++ drop n out) e ∙ ap (λ (l : List ℕ). xs ++ l) (drop-length out) ∙ append-nil xs

module _ {f g : ℕ} {p out : List ℕ} (s : Serves f g p out) {k : ℕ} {new : List ℕ}
    (w : Lent g (Put p out) (λ m. m) out k new) where
  pub number_found : k ≡ f
  number_found = number_is (λ (x : ℕ × List ℕ). x.0) refl (λ x put. put.0) w ∙ s.same

  written : f ≡ 0 → new ≡ p
  written z = (w.answered (s.same ∙ z)).1 ∙ over_all p out ((s.twelve z).places ∙ sym s.room)

  pub weights_twelve : k ≡ 0 → Twelve new
  weights_twelve e = let z : f ≡ 0 = sym number_found ∙ e in subst Twelve (sym (written z)) (s.twelve z)

  pub place_answers : {c : Coordinates} → k ≡ 0 → c ≡ exact new
      → Answer f (Placed (exact p)) no_coordinates (record { refusal = 0; at = c })
  place_answers e g = let z : f ≡ 0 = sym number_found ∙ e in
      answering z (record { number = refl; is = g ∙ ap exact (written z) })

-- ---- t and drawn points, from the coordinates

pub refusal_is : {f : ℕ} {e : Coordinates} {c : CoordinatesAnswer} → Answer f (Placed e) no_coordinates c
    → c.refusal ≡ f
refusal_is a = number_is (λ r. r.refusal) refl (λ r g. g.number) a

module _ {f : ℕ} {e c : Coordinates} (a : Answer f (Placed e) no_coordinates (record { refusal = 0; at = c })) where
  pub none : f ≡ 0
  none = sym (refusal_is a)

  pub place_is : c ≡ e
  place_is = (a.answered none).is

  pub place_small : (f ≡ 0 → Small e) → Small c
  place_small t = subst Small (sym place_is) (t none)

  pub ticks_answers : {t : Ticks} → AreTicks c t → Answer f (Ticked e) no_ticks (record { refusal = 0; at = t })
  ticks_answers {t} g = answering none (record { number = refl; are = subst (λ (k : Coordinates). AreTicks k t) place_is g })

  pub point_answers : {m n : ℕ} {p : Point} → m ≡ n → n ≤ 24 → Small c → IsPoint m c p
      → Answer f (Pointed n e) no_point (record { refusal = 0; at = p })
  point_answers {m} {n} {p} d low small g =
      answering none (subst (λ (k : Coordinates). Pointed n k (record { refusal = 0; at = p })) place_is
      (pointed _ low small refl (subst (λ (k : ℕ). IsPoint k c p) d g)))
