-- The promises of specs/Promises.antt. Assumes nothing.
use mathlib.Core.Path.{◌≡◌, ◌∙◌, refl, sym, ap, subst}
use mathlib.Core.Logic.{⊎_elim}
use mathlib.Core.List.{List, [], ◌∷◌}
use Prim.Native.Nat.{ℕ, zero, suc, ◌^◌, ◌≤◌, ◌<◌}
use native.Mathlib.Omega.{arith}
use lib.ListN.{length, get_or, take, replicate}
use Rattle.frame.proofs.Answering.{keeps_is}
use Rattle.octets.specs.Bytes.{bytes}
use Rattle.octets.proofs.Laying.{bytes_of_long, each_byte, number_back}
use Rattle.words.specs.Family.{code_of}
use Rattle.words.specs.Refusals.{check_code}
use Rattle.words.specs.Family.{CodeAnswer}
use Rattle.words.specs.declared.TriangleCode.{TriangleCode}
use Rattle.words.proofs.Codes.{code_below}
use Rattle.net.specs.Refusals.{check_name}
use Rattle.net.proofs.Crossing.{across_only}
use Rattle.filing.specs.declared.Direction.{Direction}
use Rattle.filing.proofs.AllHolders.{one_list}
use Rattle.filing.proofs.LeastCode.{filed_once}
use Rattle.corners.specs.Refusals.{refuse_numbered}
use Rattle.corners.specs.Answers.{CrossAnswer}
use Rattle.corners.specs.Answers.{CountAnswer}
use Rattle.corners.specs.Answers.{StepAnswer}
use Rattle.corners.proofs.OneAnswer.{cross_some}
use Rattle.corners.proofs.Refused.{numbered}
use Rattle.directions.specs.Refusals as directions
use Rattle.directions.specs.Answers.{FileAnswer, ListAnswer}
use Rattle.directions.proofs.OneFiling.{file_some, list_some, how_many_lem}
use Rattle.exports.specs.Answers.{CodeAndEdge, FiledCode, CountAndCodes, CrossBytes, FileBytes, ListBytes}
use Rattle.exports.specs.Promises.{OneAnswer, EightBytes, Hosted, AsTheGrid}
use Rattle.exports.proofs.Calls.{cross_nine, file_nine, list_nine, cross_number, file_number, list_number}
use Rattle.exports.proofs.Calls.{cross_numbers, file_numbers, list_numbers}
use Rattle.exports.proofs.Exporting.{Fitting, exported_keeps, delivered, hosted}

pub eight_bytes : EightBytes
eight_bytes = record { eight = bytes_of_long 8; are_bytes = each_byte 8; back = number_back 8 }

-- ---- the numbers of an answer are one list, and fit in their bytes

module _ (t : TriangleCode) (k : ℕ) (z : refuse_numbered t k ≡ 0) where
  pub cross_same : (ms ns : List ℕ) → CodeAndEdge t k ms → CodeAndEdge t k ns → ms ≡ ns
  cross_same ms ns x y =
      let c = numbered t k z in
      let a = across_only c.0 k c.1 (code_of x.code) x.edge x.across in
      let b = across_only c.0 k c.1 (code_of y.code) y.edge y.across in
      x.are ∙ (λ i. ((a.0 ∙ sym b.0) i).0 ∷ (a.1 ∙ sym b.1) i ∷ []) ∙ sym y.are

  cross_fits : {ms : List ℕ} → CodeAndEdge t k ms → Fitting 16 ms
  cross_fits x = subst (Fitting 16) (sym x.are) (omega arith, at)
    where
      at : (i : ℕ) → i < 2 → get_or (x.code ∷ x.edge ∷ []) i 0 < 2 ^ 64
      at zero l = code_below x.across.code
      at (suc zero) l = let e = x.across.edge.1 in omega (arith, e)
      at (suc (suc i)) l = absurd (omega arith)

module _ (n : ℕ) (d : Direction) where
  pub file_same : (ms ns : List ℕ) → FiledCode n d ms → FiledCode n d ns → ms ≡ ns
  file_same ms ns x y = x.are ∙ (λ i. (filed_once x.filed y.filed i).0 ∷ []) ∙ sym y.are

  file_fits : {ms : List ℕ} → FiledCode n d ms → Fitting 8 ms
  file_fits x = subst (Fitting 8) (sym x.are) (omega arith, at)
    where
      at : (i : ℕ) → i < 1 → get_or (x.code ∷ []) i 0 < 2 ^ 64
      at zero l = code_below x.filed.code
      at (suc i) l = absurd (omega arith)

  pub list_same : (ms ns : List ℕ) → CountAndCodes n d ms → CountAndCodes n d ns → ms ≡ ns
  list_same ms ns x y =
      x.are ∙ ap (λ (l : List ℕ). length l ∷ l) (one_list x.holders y.holders) ∙ sym y.are

  list_fits : directions.refuse_file n d ≡ 0 → {ms : List ℕ} → CountAndCodes n d ms → Fitting 56 ms
  list_fits z x = subst (Fitting 56) (sym x.are) (omega (arith, six), at)
    where
      six : length x.list ≤ 6
      six = ⊎_elim (λ e. omega (arith, e)) (⊎_elim (λ e. omega (arith, e)) (λ e. omega (arith, e)))
          (how_many_lem n d x.list z x.holders)

      at : (i : ℕ) → i < suc (length x.list) → get_or (length x.list ∷ x.list) i 0 < 2 ^ 64
      at zero l = omega (arith, six)
      at (suc i) l = code_below (x.holders.codes i (omega arith))

-- ---- exactly one answer

pub one_answer : OneAnswer
one_answer = record {
  check_triangle = λ t. keeps_is (check_code t) refl (λ some. refl);
  check_names = λ q. keeps_is (check_name q) refl (λ some. refl);
  cross = λ t k out.
      exported_keeps (bytes 8) (CodeAndEdge t k) out (cross_nine t k out) (cross_same t k)
      (λ z. (_, cross_numbers t k out (cross_some t k).1 z));
  file = λ n d out.
      exported_keeps (bytes 8) (FiledCode n d) out (file_nine n d out) (λ z. file_same n d)
      (λ z. (_, file_numbers n d out (file_some n d).1 z));
  list = λ n d out.
      exported_keeps (bytes 8) (CountAndCodes n d) out (list_nine n d out) (λ z. list_same n d)
      (λ z.
      let places : List ℕ = replicate 6 0 in
      let x = list_some n d places in
      (_, list_numbers n d out places x.0.1 (omega arith) x.1 z));
}

-- ---- as document 01's calls

crossed : (t : TriangleCode) (k : ℕ) (a : StepAnswer) (out : List ℕ) (r : ℕ) (new : List ℕ)
    → CrossAnswer t k a → CrossBytes t k out r new
    → Hosted a.refusal (a.code.0 ∷ a.edge ∷ []) 16 out r new
crossed t k a out r new p q =
    let good = cross_numbers t k out p in
    hosted (delivered (bytes 8) (CodeAndEdge t k) out (cross_nine t k out) (cross_same t k) _ (cross_number t k out p)
    good q) (λ z. let z' = sym (cross_number t k out p) ∙ z in cross_fits t k z' (good z'))

filed : (n : ℕ) (d : Direction) (a : CodeAnswer) (out : List ℕ) (r : ℕ) (new : List ℕ) → FileAnswer n d a
    → FileBytes n d out r new → Hosted a.refusal (a.code.0 ∷ []) 8 out r new
filed n d a out r new p q =
    let good = file_numbers n d out p in
    hosted (delivered (bytes 8) (FiledCode n d) out (file_nine n d out) (λ z. file_same n d) _ (file_number n d out p)
    good q) (λ z. file_fits n d (good (sym (file_number n d out p) ∙ z)))

listed : (n : ℕ) (d : Direction) (places left : List ℕ) (a : CountAnswer) (out : List ℕ) (r : ℕ)
    (new : List ℕ) → 6 ≤ length places → ListAnswer n d places a left → ListBytes n d out r new
    → Hosted a.refusal (a.count ∷ take a.count left) 56 out r new
listed n d places left a out r new six p q =
    let own = list_number n d out places left six p in
    let good = list_numbers n d out places left six p in
    hosted (delivered (bytes 8) (CountAndCodes n d) out (list_nine n d out) (λ z. list_same n d) _ own good q)
    (λ z. let z' = sym own ∙ z in list_fits n d z' (good z'))

pub as_the_grid : AsTheGrid
as_the_grid = record { cross = crossed; file = filed; list = listed }
