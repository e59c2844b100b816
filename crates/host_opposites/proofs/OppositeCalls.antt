-- Each exported call over that of the crate opposites. Assumes nothing.
use mathlib.Core.Path.{◌≡◌, refl}
use mathlib.Core.List.{List, [], ◌∷◌}
use Prim.Native.Nat.{ℕ}
use lib.ListN.{length}
use Rattle.frame.specs.Refusals.{order}
use Rattle.frame.proofs.Lengths.{ThenNine, then_nine}
use Rattle.octets.specs.Bytes.{bytes}
use Rattle.words.specs.Words.{degree_of}
use Rattle.words.specs.Refusals.{check_code, code_rows}
use Rattle.words.specs.Family.{code_of}
use Rattle.words.specs.Family.{CodeAnswer}
use Rattle.words.specs.declared.CornerName.{CornerName}
use Rattle.words.specs.declared.TriangleCode.{TriangleCode}
use Rattle.net.specs.Corners.{name_of}
use Rattle.net.specs.Refusals.{canonical_rows, check_name}
use Rattle.corners.specs.Answers.{NameAnswer}
use Rattle.exports.specs.Promises.{Delivered}
use Rattle.exports.proofs.Exporting.{from_delivered}
use Rattle.opposites.specs.Opposites.{IsOpposite, IsOppositeName}
use Rattle.opposites.specs.Answers.{OppositeAnswer, OppositeNameAnswer}
use Rattle.opposites.proofs.Promises.{one_answer}
use Rattle.host_opposites.specs.Refusals.{refuse_opposite, refuse_opposite_name}
use Rattle.host_opposites.specs.Answers.{OneWord, OppositeBytes, OppositeNameBytes}

-- ---- refusals: those of checking the word, and then 9

pub code_nine : (t : TriangleCode) (out : List ℕ) → ThenNine (check_code t) (refuse_opposite t out) 8 (length out)
unfolding check_code refuse_opposite
code_nine t out = then_nine order order (code_rows t) 8 out tt tt

pub name_nine : (q : CornerName) (out : List ℕ) → ThenNine (check_name q) (refuse_opposite_name q out) 8 (length out)
unfolding check_name refuse_opposite_name
name_nine q out = then_nine order order (canonical_rows q) 8 out tt tt

-- ---- what the exported call answers

abbrev pub CodeIs : TriangleCode → ℕ → Type 0
CodeIs t w = IsOpposite (degree_of t.0) t (code_of w)

abbrev pub NameIs : CornerName → ℕ → Type 0
NameIs q w = IsOppositeName (degree_of q.0) q (name_of w)

pub one_word : {Is : ℕ → Type 0} {w : ℕ} → Is w → OneWord Is (w ∷ [])
one_word {w = w} is = record { word = w; are = refl; is = is }

module _ (t : TriangleCode) (out : List ℕ) {a : CodeAnswer} (p : OppositeAnswer t a) where
  pub code_number : a.refusal ≡ check_code t
  code_number = (one_answer.opposite t).exactly a p

  pub code_word : check_code t ≡ 0 → OneWord (CodeIs t) (a.code.0 ∷ [])
  code_word z = one_word (p.answered z).is

  pub code_handed : {r : ℕ} {new : List ℕ} → Delivered a.refusal (bytes 8 (a.code.0 ∷ [])) 8 out r new
      → OppositeBytes t out r new
  code_handed = from_delivered (bytes 8) (OneWord (CodeIs t)) (a.code.0 ∷ []) (code_nine t out) code_number code_word

module _ (q : CornerName) (out : List ℕ) {a : NameAnswer} (p : OppositeNameAnswer q a) where
  pub name_number : a.refusal ≡ check_name q
  name_number = (one_answer.opposite_name q).exactly a p

  pub name_word : check_name q ≡ 0 → OneWord (NameIs q) (a.name.0 ∷ [])
  name_word z = one_word (p.answered z).is

  pub name_handed : {r : ℕ} {new : List ℕ} → Delivered a.refusal (bytes 8 (a.name.0 ∷ [])) 8 out r new
      → OppositeNameBytes q out r new
  name_handed = from_delivered (bytes 8) (OneWord (NameIs q)) (a.name.0 ∷ []) (name_nine q out) name_number name_word
