-- Each exported call over that of document 01. Assumes nothing.
use mathlib.Core.Path.{◌≡◌, ◌∙◌, refl, sym, ap}
use mathlib.Core.List.{List, [], ◌∷◌, ◌++◌}
use Prim.Native.Nat.{ℕ, ◌≤◌}
use native.Mathlib.Omega.{arith}
use lib.ListN.{length, take, drop, length-append}
use lib.Seq.{take_at}
use Rattle.frame.specs.Refusals.{order}
use Rattle.frame.specs.Answers.{Listed}
use Rattle.frame.proofs.Lengths.{ThenNine, then_nine, never_nine}
use Rattle.octets.specs.Bytes.{bytes}
use Rattle.words.specs.Refusals.{degree_rows, code_rows}
use Rattle.words.specs.Family.{CodeAnswer}
use Rattle.words.specs.declared.TriangleCode.{TriangleCode}
use Rattle.net.specs.Refusals.{one_to_three_rows}
use Rattle.net.specs.Means.Walks.{edge_there, step_from}
use Rattle.net.specs.declared.Edge.{Edge}
use Rattle.net.proofs.Crossing.{across_is}
use Rattle.filing.specs.Filing.{AreHolders}
use Rattle.filing.specs.Refusals.{direction_rows}
use Rattle.filing.specs.declared.Direction.{Direction}
use Rattle.corners.specs.Refusals.{refuse_numbered}
use Rattle.corners.specs.Answers.{CrossAnswer, count_answer}
use Rattle.corners.specs.Answers.{StepAnswer}
use Rattle.corners.specs.Answers.{CountAnswer}
use Rattle.corners.proofs.Refused.{numbered}
use Rattle.directions.specs.Refusals as directions
use Rattle.directions.specs.Answers.{FileAnswer, ListAnswer}
use Rattle.directions.proofs.Refused.{list_then}
use Rattle.grid.proofs.Demands.{demand_1}
use Rattle.exports.specs.Refusals.{refuse_cross, refuse_file, refuse_list}
use Rattle.exports.specs.Answers.{CodeAndEdge, FiledCode, CountAndCodes}
use Rattle.exports.proofs.Exporting.{Returns, returned}

-- ---- refusals: those of document 01's call, and then 9

pub cross_nine : (t : TriangleCode) (k : ℕ) (out : List ℕ)
    → ThenNine (refuse_numbered t k) (refuse_cross t k out) 16 (length out)
unfolding refuse_numbered refuse_cross
cross_nine t k out = then_nine order order (code_rows t ++ one_to_three_rows k) 16 out tt tt

pub file_nine : (n : ℕ) (d : Direction) (out : List ℕ)
    → ThenNine (directions.refuse_file n d) (refuse_file n d out) 8 (length out)
unfolding directions.refuse_file refuse_file
file_nine n d out = then_nine order order (degree_rows n ++ direction_rows d) 8 out tt tt

pub list_nine : (n : ℕ) (d : Direction) (out : List ℕ)
    → ThenNine (directions.refuse_file n d) (refuse_list n d out) 56 (length out)
unfolding directions.refuse_file refuse_list
list_nine n d out = then_nine order order (degree_rows n ++ direction_rows d) 56 out tt tt

-- ---- the refusal and the numbers of document 01's call, and what is returned over it

module _ (t : TriangleCode) (k : ℕ) (out : List ℕ) {a : StepAnswer} (p : CrossAnswer t k a) where
  pub cross_number : a.refusal ≡ refuse_numbered t k
  cross_number = (demand_1.cross t k).exactly a p

  pub cross_numbers : refuse_numbered t k ≡ 0 → CodeAndEdge t k (a.code.0 ∷ a.edge ∷ [])
  cross_numbers z = record { code = a.code.0; edge = a.edge; are = refl; across = (p.answered z).across }

  pub cross_returns : Returns (bytes 8) a.refusal (refuse_cross t k out) 16 (CodeAndEdge t k)
      (a.code.0 ∷ a.edge ∷ []) out
  cross_returns = returned (bytes 8) (CodeAndEdge t k) out (cross_nine t k out) _ cross_number cross_numbers

-- the same from the step alone, where it is not asked how the corners turned
pub step_returns : (t : TriangleCode) (k : ℕ) (out : List ℕ) {f : ℕ} {r : Edge} → f ≡ refuse_numbered t k
    → r ≡ edge_there (step_from (record { code = t; number = k }))
    → Returns (bytes 8) f (refuse_cross t k out) 16 (CodeAndEdge t k) (r.code.0 ∷ r.number ∷ []) out
step_returns t k out {r = r} number e =
    returned (bytes 8) (CodeAndEdge t k) out (cross_nine t k out) _ number (λ z.
    let c = numbered t k z in
    record { code = r.code.0; edge = r.number; are = refl; across = rw e (across_is c.0 k c.1) })

module _ (n : ℕ) (d : Direction) (out : List ℕ) {a : CodeAnswer} (p : FileAnswer n d a) where
  pub file_number : a.refusal ≡ directions.refuse_file n d
  file_number = (demand_1.file n d).exactly a p

  pub file_numbers : directions.refuse_file n d ≡ 0 → FiledCode n d (a.code.0 ∷ [])
  file_numbers z = record { code = a.code.0; are = refl; filed = (p.answered z).is }

  pub file_returns : Returns (bytes 8) a.refusal (refuse_file n d out) 8 (FiledCode n d) (a.code.0 ∷ []) out
  file_returns = returned (bytes 8) (FiledCode n d) out (file_nine n d out) _ file_number file_numbers

-- listing, into at least six places, which come as `places` and are left as `left`
module _ (n : ℕ) (d : Direction) (out places left : List ℕ) {a : CountAnswer} (six : 6 ≤ length places)
    (p : ListAnswer n d places a left) where
  long : directions.refuse_list n d places ≡ directions.refuse_file n d
  long = never_nine (list_then n d places) six

  pub list_number : a.refusal ≡ directions.refuse_file n d
  list_number = (demand_1.list n d places).exactly (a, left) p ∙ long

  module _ (z : directions.refuse_file n d ≡ 0) where
    listed : Listed (AreHolders n d) (count_answer 0) places a left
    listed = p.answered (long ∙ z)

    count : a.count ≡ length listed.list
    count = ap (λ (r : CountAnswer). r.count) listed.count

    front : take a.count left ≡ listed.list
    front = ap (take a.count) listed.put
        ∙ take_at listed.list (drop (length listed.list) places) a.count (sym count)

    pub list_numbers : CountAndCodes n d (a.count ∷ take a.count left)
    list_numbers = record { list = listed.list; are = λ i. count i ∷ front i; holders = listed.good }

  -- the codes have their places
  pub count_most : a.refusal ≡ 0 → a.count ≤ length left
  count_most e =
      let z = sym list_number ∙ e in
      let l = listed z in
      omega (arith, count z, ap length l.put, length-append l.list (drop (length l.list) places))

  pub list_returns : Returns (bytes 8) a.refusal (refuse_list n d out) 56 (CountAndCodes n d)
      (a.count ∷ take a.count left) out
  list_returns = returned (bytes 8) (CountAndCodes n d) out (list_nine n d out) _ list_number list_numbers
