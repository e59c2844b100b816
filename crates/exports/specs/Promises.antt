-- Document 02, 2026-01: what is promised of the exported calls. Assumes nothing.
use Rattle.std.specs.Prelude.{◌≡◌, List, [], ◌∷◌, ℕ, ◌*◌, ◌^◌, ◌≤◌, ◌<◌, length, get_or, take, drop}
use Rattle.frame.specs.Answers.{over}
use Rattle.frame.specs.Promises.{Keeps, KeepsLent}
use Rattle.octets.specs.Bytes.{bytes_of, number_of, number_at}
use Rattle.words.specs.Refusals.{check_code}
use Rattle.words.specs.declared.TriangleCode.{TriangleCode}
use Rattle.words.specs.declared.CornerName.{CornerName}
use Rattle.words.specs.Family.{CodeAnswer}
use Rattle.net.specs.Refusals.{check_name}
use Rattle.filing.specs.declared.Direction.{Direction}
use Rattle.corners.specs.Answers.{CrossAnswer}
use Rattle.corners.specs.Answers.{StepAnswer}
use Rattle.corners.specs.Answers.{CountAnswer}
use Rattle.directions.specs.Answers.{FileAnswer, ListAnswer}
use Rattle.exports.specs.Refusals.{refuse_cross, refuse_file, refuse_list}
use Rattle.exports.specs.Answers.{CrossBytes, FileBytes, ListBytes}

-- Demand 1, of the exported calls: exactly one answer for every input. "Each call returns its refusal number."
pub record OneAnswer : Type 0 where
  pub check_triangle : (t : TriangleCode) → Keeps (check_code t) (λ r. r ≡ check_code t) (λ r. r) (λ f. f)
  pub check_names : (q : CornerName) → Keeps (check_name q) (λ r. r ≡ check_name q) (λ r. r) (λ f. f)
  pub cross : (t : TriangleCode) (k : ℕ) (out : List ℕ)
      → KeepsLent (refuse_cross t k out) (CrossBytes t k out) (λ r. r) (λ f. f) out
  pub file : (n : ℕ) (d : Direction) (out : List ℕ)
      → KeepsLent (refuse_file n d out) (FileBytes n d out) (λ r. r) (λ f. f) out
  pub list : (n : ℕ) (d : Direction) (out : List ℕ)
      → KeepsLent (refuse_list n d out) (ListBytes n d out) (λ r. r) (λ f. f) out

-- "eight for each number, most significant first": there are eight, each is a byte, and read back they are the number.
pub record EightBytes : Type 0 where
  pub eight : (w : ℕ) → length (bytes_of 8 w) ≡ 8
  pub are_bytes : (w i : ℕ) → get_or (bytes_of 8 w) i 0 < 256
  pub back : (w : ℕ) → w < 2 ^ 64 → number_of (bytes_of 8 w) ≡ w

-- What a host has of a call that refuses f, answers these bytes, and asks for `least` of them.
pub record Delivered (f : ℕ) (bytes : List ℕ) (least : ℕ) (out : List ℕ) (r : ℕ) (new : List ℕ) : Type 0 where
  pub refused : (f ≡ 0 → ⊥) → r ≡ f
  pub short : f ≡ 0 → length out < least → r ≡ 9
  pub answered : f ≡ 0 → least ≤ length out → r ≡ 0
  -- the bytes stand first, and every later one is as it was; a refusal leaves all as they were
  pub written : r ≡ 0 → new ≡ over bytes out
  pub kept : (r ≡ 0 → ⊥) → new ≡ out

-- What a host has of a call that refuses f in document 01, answers these numbers, and asks for `least` bytes.
pub record Hosted (f : ℕ) (numbers : List ℕ) (least : ℕ) (out : List ℕ) (r : ℕ) (new : List ℕ)
    : Type 0 where
  -- "Otherwise document 01 holds": where that call is refused, by the same number
  pub refused : (f ≡ 0 → ⊥) → r ≡ f
  -- "a shorter slice is refusal 9"
  pub short : f ≡ 0 → length out < least → r ≡ 9
  pub answered : f ≡ 0 → least ≤ length out → r ≡ 0
  -- "Answers go to lent bytes, eight for each number": what the host reads there is what that call answers
  pub reads : r ≡ 0 → (i : ℕ) → i < length numbers → number_at 8 new i ≡ get_or numbers i 0
  -- every later byte is as it was, and a refusal leaves all as they were
  pub later : drop (8 * length numbers) new ≡ drop (8 * length numbers) out
  pub kept : (r ≡ 0 → ⊥) → new ≡ out
  pub long : length new ≡ length out

-- "calls exported to a C host": each that writes is document 01's call. (What is promised of check is document 01's
-- own.)
pub record AsTheGrid : Type 0 where
  -- "cross writes code and edge number (16 bytes)"
  pub cross : (t : TriangleCode) (k : ℕ) (a : StepAnswer) (out : List ℕ) (r : ℕ) (new : List ℕ)
      → CrossAnswer t k a → CrossBytes t k out r new
      → Hosted a.refusal (a.code.0 ∷ a.edge ∷ []) 16 out r new
  -- "file the code (8)"
  pub file : (n : ℕ) (d : Direction) (a : CodeAnswer) (out : List ℕ) (r : ℕ) (new : List ℕ)
      → FileAnswer n d a → FileBytes n d out r new → Hosted a.refusal (a.code.0 ∷ []) 8 out r new
  -- "list the count and then its codes (56)": document 01's call has `places` for its list, and leaves `left` there
  pub list : (n : ℕ) (d : Direction) (places left : List ℕ) (a : CountAnswer) (out : List ℕ) (r : ℕ)
      (new : List ℕ) → 6 ≤ length places → ListAnswer n d places a left → ListBytes n d out r new
      → Hosted a.refusal (a.count ∷ take a.count left) 56 out r new
