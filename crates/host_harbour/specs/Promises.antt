-- Document 02, 2026-11 and 2026-01: what is promised of the exported calls on the small form. Assumes nothing.
use Rattle.std.specs.Prelude.{◌≡◌, List, [], ◌∷◌, ℕ, take, drop}
use Rattle.frame.specs.Promises.{Keeps, KeepsLent}
use Rattle.octets.specs.Bytes.{bytes, number_of}
use Rattle.words.specs.declared.TriangleCode.{TriangleCode}
use Rattle.words.specs.Family.{CodeAnswer}
use Rattle.filing.specs.declared.Direction.{Direction}
use Rattle.exports.specs.Promises.{Delivered}
use Rattle.harbour.specs.Refusals.{check_small}
use Rattle.harbour.specs.Answers.{ReadAnswer, WriteAnswer, SmallCrossAnswer, SmallFileAnswer}
use Rattle.harbour.specs.declared.SmallCode.{SmallCode}
use Rattle.harbour.specs.Answers.{SmallAnswer}
use Rattle.harbour.specs.Answers.{SmallStepAnswer}
use Rattle.host_harbour.specs.Refusals.{refuse_large, refuse_small, refuse_cross, refuse_file}
use Rattle.host_harbour.specs.Answers.{four_and_eight}
use Rattle.host_harbour.specs.Answers.{LargeBytes, SmallBytes, CrossSmallBytes, FileSmallBytes}

-- Demand 1, of the exported calls: exactly one answer for every input.
pub record OneAnswer : Type 0 where
  pub small : (t : TriangleCode) (out : List ℕ)
      → KeepsLent (refuse_small t out) (SmallBytes t out) (λ r. r) (λ f. f) out
  pub large : (s : SmallCode) (out : List ℕ)
      → KeepsLent (refuse_large s out) (LargeBytes s out) (λ r. r) (λ f. f) out
  pub check_smalls : (s : SmallCode) → Keeps (check_small s) (λ r. r ≡ check_small s) (λ r. r) (λ f. f)
  pub cross_small : (s : SmallCode) (k : ℕ) (out : List ℕ)
      → KeepsLent (refuse_cross s k out) (CrossSmallBytes s k out) (λ r. r) (λ f. f) out
  pub file_small : (n : ℕ) (d : Direction) (out : List ℕ)
      → KeepsLent (refuse_file n d out) (FileSmallBytes n d out) (λ r. r) (λ f. f) out

-- Each call that writes is that of the harbour: it refuses by the same number, and then a shorter slice by 9; its
-- answer stands in the first bytes, and all others are as they were.
pub record AsTheHarbour : Type 0 where
  pub small : (t : TriangleCode) (a : SmallAnswer) (out : List ℕ) (r : ℕ) (new : List ℕ)
      → WriteAnswer t a → SmallBytes t out r new
      → Delivered a.refusal (bytes 4 (a.code.0 ∷ [])) 4 out r new
  pub large : (s : SmallCode) (a : CodeAnswer) (out : List ℕ) (r : ℕ) (new : List ℕ)
      → ReadAnswer s a → LargeBytes s out r new
      → Delivered a.refusal (bytes 8 (a.code.0 ∷ [])) 8 out r new
  pub cross_small : (s : SmallCode) (k : ℕ) (a : SmallStepAnswer) (out : List ℕ) (r : ℕ) (new : List ℕ)
      → SmallCrossAnswer s k a → CrossSmallBytes s k out r new
      → Delivered a.refusal (four_and_eight (a.code.0 ∷ a.edge ∷ [])) 12 out r new
  pub file_small : (n : ℕ) (d : Direction) (a : SmallAnswer) (out : List ℕ) (r : ℕ) (new : List ℕ)
      → SmallFileAnswer n d a → FileSmallBytes n d out r new
      → Delivered a.refusal (bytes 4 (a.code.0 ∷ [])) 4 out r new

-- What a host reads in the bytes of a call that is answered: what the harbour's call answers.
pub record HostReads : Type 0 where
  pub small : (t : TriangleCode) (a : SmallAnswer) (out : List ℕ) (r : ℕ) (new : List ℕ)
      → WriteAnswer t a → SmallBytes t out r new → r ≡ 0 → number_of (take 4 new) ≡ a.code.0
  pub large : (s : SmallCode) (a : CodeAnswer) (out : List ℕ) (r : ℕ) (new : List ℕ)
      → ReadAnswer s a → LargeBytes s out r new → r ≡ 0 → number_of (take 8 new) ≡ a.code.0
  pub cross_small : (s : SmallCode) (k : ℕ) (a : SmallStepAnswer) (out : List ℕ) (r : ℕ) (new : List ℕ)
      → SmallCrossAnswer s k a → CrossSmallBytes s k out r new → r ≡ 0
      → (number_of (take 4 new) ≡ a.code.0) × (number_of (take 8 (drop 4 new)) ≡ a.edge)
  pub file_small : (n : ℕ) (d : Direction) (a : SmallAnswer) (out : List ℕ) (r : ℕ) (new : List ℕ)
      → SmallFileAnswer n d a → FileSmallBytes n d out r new → r ≡ 0 → number_of (take 4 new) ≡ a.code.0
