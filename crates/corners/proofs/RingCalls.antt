-- The answer of `ring` from its parts. Assumes nothing.
use mathlib.Core.Path.{◌≡◌, ◌∙◌, sym, ap}
use mathlib.Core.List.{List}
use Prim.Native.Nat.{ℕ, ◌≤◌}
use lib.ListN.{length}
use Rattle.frame.specs.Answers.{over}
use Rattle.frame.proofs.Answering.{answering}
use Rattle.words.proofs.Codes.{code_side, is_code, name_code}
use Rattle.words.specs.Refusals.{check_code}
use Rattle.words.specs.Words.{corner_number, side_of}
use Rattle.words.specs.declared.CornerName.{CornerName}
use Rattle.net.specs.Corners.{code_inside, named}
use Rattle.net.specs.Division.{Weights}
use Rattle.net.specs.Means.States.{point_of, state_of}
use Rattle.net.specs.Means.Walks.{place_at, ring_words}
use Rattle.net.specs.Refusals.{check_name}
use Rattle.net.specs.Sides.{OneToThree}
use Rattle.net.specs.Steps.{non_zeros, ring_size}
use Rattle.net.specs.declared.Point.{Point}
use Rattle.net.proofs.Canonical.{name_means}
use Rattle.net.proofs.CodePlaces.{corner_at, digits_in}
use Rattle.net.proofs.RingCodes.{ring_is, ring_length}
use Rattle.net.proofs.RingLists.{count_of, count_is}
use Rattle.corners.specs.Answers.{RingAnswer, count_answer}
use Rattle.corners.proofs.Refused.{ring_then}

module _ (r : CornerName) (z : check_name r ≡ 0) where
  abbrev i : ℕ
  i = corner_number r.0

  -- the code inside a name that passes, and its corner number
  pub code_passes : check_code (code_inside r) ≡ 0
  code_passes = (name_code r ((name_means r).0 z).0).passes

  pub name_number : OneToThree i
  name_number = ((name_means r).0 z).1.number

  pub ring_answers : (out new : List ℕ) (p : Point) (m : ℕ) → 6 ≤ length out
      → p ≡ point_of i (state_of (digits_in (code_inside r)))
      → m ≡ count_of p → new ≡ over (ring_words m (place_at r.0)) out → RingAnswer r out (count_answer 0 m) new
  ring_answers out new p m l f e put =
      let t = code_inside r in
      let size : m ≡ ring_size (non_zeros (named r)) =
      e ∙ ap count_of f
      ∙ sym (count_is (side_of t.0) (digits_in t) i (code_side (is_code t code_passes)))
      ∙ ap (λ (P : Weights). ring_size (non_zeros P)) (sym (corner_at t i)) in
      answering ((ring_then r out).passes.1 (z, l)) (record {
        list = ring_words (ring_size (non_zeros (named r))) (place_at r.0);
        good = ring_is r ((name_means r).0 z).1.code name_number;
        count = ap (count_answer 0) (size ∙ sym (ring_length _ _));
        put = put ∙ (λ j. over (ring_words (size j) (place_at r.0)) out);
      })
