-- The promises of specs/Promises.antt. Assumes nothing.
use mathlib.Core.Path.{◌≡◌, ◌∙◌, refl, sym, ap}
use mathlib.Core.List.{List, [], ◌∷◌, ◌++◌}
use Prim.Native.Nat.{ℕ, ◌^◌, ◌<◌}
use native.Mathlib.Omega.{arith}
use lib.ListN.{drop, take}
use Rattle.frame.proofs.Answering.{keeps_is}
use Rattle.octets.specs.Bytes.{bytes, number_of}
use Rattle.octets.proofs.Laying.{number_at_lem, number_back}
use Rattle.words.specs.Family.{CodeAnswer}
use Rattle.words.specs.declared.TriangleCode.{TriangleCode}
use Rattle.filing.specs.declared.Direction.{Direction}
use Rattle.exports.proofs.Exporting.{exported_keeps, delivered, delivered_passed}
use Rattle.harbour.specs.Small.{large_of, small_of}
use Rattle.harbour.specs.Refusals.{check_small, refuse_small_cross, refuse_small_file}
use Rattle.harbour.specs.Answers.{ReadAnswer, WriteAnswer, SmallCrossAnswer, SmallFileAnswer}
use Rattle.harbour.specs.Answers.{SmallAnswer}
use Rattle.harbour.specs.declared.SmallCode.{SmallCode}
use Rattle.harbour.specs.Answers.{SmallStepAnswer}
use Rattle.words.proofs.Codes.{code_below}
use Rattle.harbour.proofs.SmallWords.{large_code, small_fits}
use Rattle.harbour.proofs.LargeCalls.{cross_code, neighbour_small, file_degree, filed_small}
use Rattle.harbour.proofs.Promises.{formed_one, crossed_one, filed_one}
use Rattle.harbour.proofs.Promises as harbour
use Rattle.host_harbour.specs.Answers.{four_and_eight, SmallAndEdge, FiledSmall}
use Rattle.host_harbour.specs.Answers.{LargeBytes, SmallBytes, CrossSmallBytes, FileSmallBytes}
use Rattle.host_harbour.specs.Promises.{OneAnswer, AsTheHarbour, HostReads}
use Rattle.host_harbour.proofs.HarbourCalls.{small_nine, large_nine, cross_nine, file_nine}
use Rattle.host_harbour.proofs.HarbourCalls.{small_number, large_number, cross_number, file_number}
use Rattle.host_harbour.proofs.HarbourCalls.{small_numbers, large_numbers, cross_numbers, file_numbers}

-- ---- the numbers of an answer are one list

known_same : {x : List ℕ} (ms ns : List ℕ) → ms ≡ x → ns ≡ x → ms ≡ ns
known_same ms ns p q = p ∙ sym q

pub cross_same : (s : SmallCode) (k : ℕ) → refuse_small_cross s k ≡ 0 → (ms ns : List ℕ) → SmallAndEdge s k ms
    → SmallAndEdge s k ns → ms ≡ ns
cross_same s k z ms ns x y =
    let e = formed_one (crossed_one s k z) x.crossed y.crossed in
    x.are ∙ ap (λ (a : SmallStepAnswer). a.code.0 ∷ a.edge ∷ []) e ∙ sym y.are

pub file_same : (n : ℕ) (d : Direction) → refuse_small_file n d ≡ 0 → (ms ns : List ℕ) → FiledSmall n d ms
    → FiledSmall n d ns → ms ≡ ns
file_same n d z ms ns x y =
    let e = formed_one (filed_one n d z) x.filed y.filed in
    x.are ∙ ap (λ (a : SmallAnswer). a.code.0 ∷ []) e ∙ sym y.are

-- ---- exactly one answer

pub one_answer : OneAnswer
one_answer = record {
  small = λ t out. exported_keeps (bytes 4) (λ ms. ms ≡ (small_of t).0 ∷ []) out (small_nine t out) (λ z. known_same)
      (λ z. ((small_of t).0 ∷ [], refl));
  large = λ s out. exported_keeps (bytes 8) (λ ms. ms ≡ (large_of s).0 ∷ []) out (large_nine s out) (λ z. known_same)
      (λ z. ((large_of s).0 ∷ [], refl));
  check_smalls = λ s. keeps_is (check_small s) refl (λ some. refl);
  cross_small = λ s k out.
      let a = ((harbour.one_answer).cross s k).one in
      exported_keeps four_and_eight (SmallAndEdge s k) out (cross_nine s k out) (cross_same s k)
      (λ z. (_, cross_numbers s k out a.1.meets z));
  file_small = λ n d out.
      let a = ((harbour.one_answer).file n d).one in
      exported_keeps (bytes 4) (FiledSmall n d) out (file_nine n d out) (file_same n d)
      (λ z. (_, file_numbers n d out a.1.meets z));
}

-- ---- as the harbour's calls

pub as_the_harbour : AsTheHarbour
as_the_harbour = record {
  small = λ t a out r new p q.
      delivered (bytes 4) (λ ms. ms ≡ (small_of t).0 ∷ []) out (small_nine t out) (λ z. known_same) _
      (small_number t out p) (small_numbers t out p) q;
  large = λ s a out r new p q.
      delivered (bytes 8) (λ ms. ms ≡ (large_of s).0 ∷ []) out (large_nine s out) (λ z. known_same) _
      (large_number s out p) (large_numbers s out p) q;
  cross_small = λ s k a out r new p q.
      delivered four_and_eight (SmallAndEdge s k) out (cross_nine s k out) (cross_same s k) _ (cross_number s k out p)
      (cross_numbers s k out p) q;
  file_small = λ n d a out r new p q.
      delivered (bytes 4) (FiledSmall n d) out (file_nine n d out) (file_same n d) _ (file_number n d out p)
      (file_numbers n d out p) q;
}

-- ---- what a host reads

four : (w : ℕ) (rest : List ℕ) → w < 2 ^ 32 → number_of (take 4 (bytes 4 (w ∷ []) ++ rest)) ≡ w
four w rest h = number_at_lem 4 (w ∷ []) rest 0 (omega arith) h

eight : (w : ℕ) (rest : List ℕ) → w < 2 ^ 64 → number_of (take 8 (bytes 8 (w ∷ []) ++ rest)) ≡ w
eight w rest h = number_at_lem 8 (w ∷ []) rest 0 (omega arith) h

module _ (out : List ℕ) (r : ℕ) (new : List ℕ) (e : r ≡ 0) where
  reads_small : (t : TriangleCode) (a : SmallAnswer) → WriteAnswer t a → SmallBytes t out r new
      → number_of (take 4 new) ≡ a.code.0
  reads_small t a p q =
      let d = as_the_harbour.small t a out r new p q in
      let z = sym (small_number t out p) ∙ delivered_passed d e in
      let is : a.code.0 ≡ (small_of t).0 = ap (λ (x : SmallAnswer). x.code.0) (p.answered z) in
      ap (λ (x : List ℕ). number_of (take 4 x)) (d.written e) ∙ four a.code.0 _ (omega (arith, is, small_fits t z))

  reads_large : (s : SmallCode) (a : CodeAnswer) → ReadAnswer s a → LargeBytes s out r new
      → number_of (take 8 new) ≡ a.code.0
  reads_large s a p q =
      let d = as_the_harbour.large s a out r new p q in
      let z = sym (large_number s out p) ∙ delivered_passed d e in
      let is : a.code.0 ≡ (large_of s).0 = ap (λ (x : CodeAnswer). x.code.0) (p.answered z) in
      ap (λ (x : List ℕ). number_of (take 8 x)) (d.written e)
      ∙ eight a.code.0 _ (omega (arith, is, code_below (large_code s z)))

  reads_step : (s : SmallCode) (k : ℕ) (a : SmallStepAnswer) → SmallCrossAnswer s k a → CrossSmallBytes s k out r new
      → (number_of (take 4 new) ≡ a.code.0) × (number_of (take 8 (drop 4 new)) ≡ a.edge)
  reads_step s k a p q =
      let d = as_the_harbour.cross_small s k a out r new p q in
      let z = sym (cross_number s k out p) ∙ delivered_passed d e in
      let g = p.answered z in
      let c : a.code.0 ≡ (small_of g.answer.code).0 = ap (λ (x : SmallStepAnswer). x.code.0) g.is in
      let n : a.edge ≡ g.answer.edge = ap (λ (x : SmallStepAnswer). x.edge) g.is in
      let f = small_fits g.answer.code (neighbour_small s k (cross_code s k z) g.answer g.large) in
      let three = g.large.across.edge.1 in (
        ap (λ (x : List ℕ). number_of (take 4 x)) (d.written e) ∙ number_back 4 a.code.0 (omega (arith, c, f)),
        ap (λ (x : List ℕ). number_of (take 8 (drop 4 x))) (d.written e)
            ∙ eight a.edge _ (omega (arith, n, three)),
      )

  reads_filed : (n : ℕ) (d : Direction) (a : SmallAnswer) → SmallFileAnswer n d a → FileSmallBytes n d out r new
      → number_of (take 4 new) ≡ a.code.0
  reads_filed n d a p q =
      let b = as_the_harbour.file_small n d a out r new p q in
      let z = sym (file_number n d out p) ∙ delivered_passed b e in
      let g = p.answered z in
      let c : a.code.0 ≡ (small_of g.answer.code).0 = ap (λ (x : SmallAnswer). x.code.0) g.is in
      let f = small_fits g.answer.code (filed_small n d (file_degree n d z) g.answer g.large) in
      ap (λ (x : List ℕ). number_of (take 4 x)) (b.written e) ∙ four a.code.0 _ (omega (arith, c, f))

pub host_reads : HostReads
host_reads = record {
  small = λ t a out r new p q e. reads_small out r new e t a p q;
  large = λ s a out r new p q e. reads_large out r new e s a p q;
  cross_small = λ s k a out r new p q e. reads_step out r new e s k a p q;
  file_small = λ n d a out r new p q e. reads_filed out r new e n d a p q;
}
