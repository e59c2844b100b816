-- Each exported call over that of the harbour. Assumes nothing.
use mathlib.Core.Path.{◌≡◌, refl, ap}
use mathlib.Core.List.{List, [], ◌∷◌, ◌++◌}
use Prim.Native.Nat.{ℕ}
use lib.ListN.{length}
use Rattle.frame.proofs.Lengths.{ThenNine, then_nine}
use Rattle.octets.specs.Bytes.{bytes}
use Rattle.words.specs.Family.{CodeAnswer}
use Rattle.words.specs.declared.TriangleCode.{TriangleCode}
use Rattle.net.specs.Refusals.{one_to_three_rows}
use Rattle.filing.specs.Refusals.{direction_rows}
use Rattle.filing.specs.declared.Direction.{Direction}
use Rattle.exports.proofs.Exporting.{Returns, returned}
use Rattle.harbour.specs.Small.{large_of, small_of}
use Rattle.harbour.specs.Refusals.{harbour_order, depth_rows, small_rows, write_rows, check_small, refuse_write}
use Rattle.harbour.specs.Refusals.{refuse_small_cross, refuse_small_file}
use Rattle.harbour.specs.Answers.{ReadAnswer, WriteAnswer, SmallCrossAnswer, SmallFileAnswer}
use Rattle.harbour.specs.Answers.{SmallAnswer}
use Rattle.harbour.specs.declared.SmallCode.{SmallCode}
use Rattle.harbour.specs.Answers.{SmallStepAnswer}
use Rattle.harbour.proofs.Promises.{one_answer}
use Rattle.host_harbour.specs.Refusals.{refuse_large, refuse_small, refuse_cross, refuse_file}
use Rattle.host_harbour.specs.Answers.{four_and_eight, SmallAndEdge, FiledSmall}

-- ---- refusals: those of the harbour's call, and then 9

pub small_nine : (t : TriangleCode) (out : List ℕ) → ThenNine (refuse_write t) (refuse_small t out) 4 (length out)
unfolding refuse_write refuse_small
small_nine t out = then_nine harbour_order harbour_order (write_rows t) 4 out tt tt

pub large_nine : (s : SmallCode) (out : List ℕ) → ThenNine (check_small s) (refuse_large s out) 8 (length out)
unfolding check_small refuse_large
large_nine s out = then_nine harbour_order harbour_order (small_rows s) 8 out tt tt

pub cross_nine : (s : SmallCode) (k : ℕ) (out : List ℕ)
    → ThenNine (refuse_small_cross s k) (refuse_cross s k out) 12 (length out)
unfolding refuse_small_cross refuse_cross
cross_nine s k out = then_nine harbour_order harbour_order (small_rows s ++ one_to_three_rows k) 12 out tt tt

pub file_nine : (n : ℕ) (d : Direction) (out : List ℕ)
    → ThenNine (refuse_small_file n d) (refuse_file n d out) 4 (length out)
unfolding refuse_small_file refuse_file
file_nine n d out = then_nine harbour_order harbour_order (depth_rows n ++ direction_rows d) 4 out tt tt

-- ---- the refusal and the numbers of the harbour's call, and what is returned over it

module _ (t : TriangleCode) (out : List ℕ) {a : SmallAnswer} (p : WriteAnswer t a) where
  pub small_number : a.refusal ≡ refuse_write t
  small_number = (one_answer.write t).exactly a p

  pub small_numbers : refuse_write t ≡ 0 → a.code.0 ∷ [] ≡ (small_of t).0 ∷ []
  small_numbers z = ap (λ (x : SmallAnswer). x.code.0 ∷ []) (p.answered z)

  pub small_returns : Returns (bytes 4) a.refusal (refuse_small t out) 4 (λ ms. ms ≡ (small_of t).0 ∷ [])
      (a.code.0 ∷ []) out
  small_returns = returned (bytes 4) (λ ms. ms ≡ (small_of t).0 ∷ []) out (small_nine t out) _ small_number small_numbers

module _ (s : SmallCode) (out : List ℕ) {a : CodeAnswer} (p : ReadAnswer s a) where
  pub large_number : a.refusal ≡ check_small s
  large_number = (one_answer.read s).exactly a p

  pub large_numbers : check_small s ≡ 0 → a.code.0 ∷ [] ≡ (large_of s).0 ∷ []
  large_numbers z = ap (λ (x : CodeAnswer). x.code.0 ∷ []) (p.answered z)

  pub large_returns : Returns (bytes 8) a.refusal (refuse_large s out) 8 (λ ms. ms ≡ (large_of s).0 ∷ [])
      (a.code.0 ∷ []) out
  large_returns = returned (bytes 8) (λ ms. ms ≡ (large_of s).0 ∷ []) out (large_nine s out) _ large_number large_numbers

module _ (s : SmallCode) (k : ℕ) (out : List ℕ) {a : SmallStepAnswer} (p : SmallCrossAnswer s k a) where
  pub cross_number : a.refusal ≡ refuse_small_cross s k
  cross_number = (one_answer.cross s k).exactly a p

  pub cross_numbers : refuse_small_cross s k ≡ 0 → SmallAndEdge s k (a.code.0 ∷ a.edge ∷ [])
  cross_numbers z = record { step = a; are = refl; crossed = p.answered z }

  pub cross_returns : Returns four_and_eight a.refusal (refuse_cross s k out) 12 (SmallAndEdge s k)
      (a.code.0 ∷ a.edge ∷ []) out
  cross_returns = returned four_and_eight (SmallAndEdge s k) out (cross_nine s k out) _ cross_number cross_numbers

module _ (n : ℕ) (d : Direction) (out : List ℕ) {a : SmallAnswer} (p : SmallFileAnswer n d a) where
  pub file_number : a.refusal ≡ refuse_small_file n d
  file_number = (one_answer.file n d).exactly a p

  pub file_numbers : refuse_small_file n d ≡ 0 → FiledSmall n d (a.code.0 ∷ [])
  file_numbers z = record { answer = a; are = refl; filed = p.answered z }

  pub file_returns : Returns (bytes 4) a.refusal (refuse_file n d out) 4 (FiledSmall n d) (a.code.0 ∷ []) out
  file_returns = returned (bytes 4) (FiledSmall n d) out (file_nine n d out) _ file_number file_numbers
