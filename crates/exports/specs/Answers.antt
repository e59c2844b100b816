-- Document 02, 2026-01: the complete answer of each exported call, for every input: what the contracts cite. `out` is
-- the lent bytes as they come, `new` as they are left. (Check has no bytes: its contract is an equation, at the
-- function.) Assumes nothing.
use Rattle.std.specs.Prelude.{◌≡◌, List, [], ◌∷◌, ℕ, length}
use Rattle.frame.specs.Answers.{Lent, over}
use Rattle.octets.specs.Bytes.{bytes}
use Rattle.words.specs.Words.{degree_of}
use Rattle.words.specs.Family.{code_of}
use Rattle.words.specs.declared.TriangleCode.{TriangleCode}
use Rattle.net.specs.Steps.{Across}
use Rattle.filing.specs.Filing.{IsFiled, AreHolders}
use Rattle.filing.specs.declared.Direction.{Direction}
use Rattle.exports.specs.Refusals.{refuse_cross, refuse_file, refuse_list}

-- "Answers go to lent bytes": numbers, laid over the first bytes, and the later ones stay
pub record Sent (laid : List ℕ → List ℕ) (Good : List ℕ → Type 0) (out : List ℕ) (r : ℕ) (new : List ℕ) : Type 0 where
  pub numbers : List ℕ
  pub good : Good numbers
  pub answered : r ≡ 0
  pub put : new ≡ over (laid numbers) out

-- "Each call returns its refusal number."
abbrev pub ExportedAs : (laid : List ℕ → List ℕ) (f : ℕ) (Good : List ℕ → Type 0) (out : List ℕ) (r : ℕ) (new : List ℕ)
    → Type 0
ExportedAs laid f Good out r new = Lent f (Sent laid Good out) (λ k. k) out r new

-- "eight for each number, most significant first"
abbrev pub Exported : (f : ℕ) (Good : List ℕ → Type 0) (out : List ℕ) (r : ℕ) (new : List ℕ) → Type 0
Exported f Good out r new = ExportedAs (bytes 8) f Good out r new

-- "cross writes code and edge number" (2026-06: "the exported call drops" how the corners turned)
pub record CodeAndEdge (t : TriangleCode) (k : ℕ) (numbers : List ℕ) : Type 0 where
  pub code : ℕ
  pub edge : ℕ
  pub are : numbers ≡ code ∷ edge ∷ []
  pub across : Across (degree_of t.0) t k (code_of code) edge

abbrev pub CrossBytes : TriangleCode → ℕ → List ℕ → ℕ → List ℕ → Type 0
CrossBytes t k out r new = Exported (refuse_cross t k out) (CodeAndEdge t k) out r new

-- "file the code"
pub record FiledCode (n : ℕ) (d : Direction) (numbers : List ℕ) : Type 0 where
  pub code : ℕ
  pub are : numbers ≡ code ∷ []
  pub filed : IsFiled n d (code_of code)

abbrev pub FileBytes : ℕ → Direction → List ℕ → ℕ → List ℕ → Type 0
FileBytes n d out r new = Exported (refuse_file n d out) (FiledCode n d) out r new

-- "list the count and then its codes"
pub record CountAndCodes (n : ℕ) (d : Direction) (numbers : List ℕ) : Type 0 where
  pub list : List ℕ
  pub are : numbers ≡ length list ∷ list
  pub holders : AreHolders n d list

abbrev pub ListBytes : ℕ → Direction → List ℕ → ℕ → List ℕ → Type 0
ListBytes n d out r new = Exported (refuse_list n d out) (CountAndCodes n d) out r new
