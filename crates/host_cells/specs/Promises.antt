-- Document 02, 2026-09 and 2026-10: what is promised of the two calls on a cell list over bytes. Assumes nothing.
use Rattle.std.specs.Prelude.{◌≡◌, ◌⊎◌, List, [], ◌∷◌, ℕ, ◌*◌, ◌/◌, ◌%◌, ◌^◌, ◌≤◌, ◌<◌, length, get_or, drop}
use Rattle.frame.specs.Promises.{KeepsLent}
use Rattle.octets.specs.Bytes.{number_at, words_in}
use Rattle.cells.specs.Checking.{checked}
use Rattle.cells.specs.Checking.{Verdict}
use Rattle.mending.specs.Mending.{Change, mended, changes}
use Rattle.mending.specs.Answers.{Lists, words_of, reasons_of}
use Rattle.host_cells.specs.Refusals.{refuse_check, refuse_mend}
use Rattle.host_cells.specs.Answers.{CheckBytes, MendBytes}

-- Demand 1, of the two exported calls: exactly one answer for every input.
pub record OneAnswer : Type 0 where
  pub check_cells : (list out : List ℕ)
      → KeepsLent (refuse_check list out) (CheckBytes list out) (λ r. r) (λ f. f) out
  pub mend_cells : (list : List ℕ) (l : Lists) (out : List ℕ)
      → KeepsLent (refuse_mend list l out) (MendBytes list l out) (λ r. r) (λ f. f) (l, out)

-- What a host has of checking over bytes, where v is the verdict on the words that the bytes are.
pub record HostedCheck (v : Verdict) (list out : List ℕ) (r : ℕ) (new : List ℕ) : Type 0 where
  pub refused : (length list % 8 ≡ 0 → ⊥) ⊎ (length out < 16) → r ≡ 9
  pub answered : length list % 8 ≡ 0 → 16 ≤ length out → r ≡ 0
  -- what the host reads
  pub told : r ≡ 0 → (i : ℕ) → i < 2 → number_at 8 new i ≡ get_or (v.reason ∷ v.place ∷ []) i 0
  -- every later byte is as it was, and a refusal leaves all as they were
  pub later : drop 16 new ≡ drop 16 out
  pub kept : (r ≡ 0 → ⊥) → new ≡ out
  pub long : length new ≡ length out

-- The numbers ws, eight bytes for each, over the front of lent bytes.
pub record Laid (ws old new : List ℕ) : Type 0 where
  pub reads : (i : ℕ) → i < length ws → number_at 8 new i ≡ get_or ws i 0
  pub later : drop (8 * length ws) new ≡ drop (8 * length ws) old
  pub long : length new ≡ length old

-- What a host has of mending over bytes, where ws is the mended list of the words that the bytes are,
-- and cs its changes.
pub record HostedMend (ws : List ℕ) (cs : List Change) (list : List ℕ) (l : Lists) (out : List ℕ) (r : ℕ)
    (new : Lists × List ℕ)
    : Type 0 where
  pub too_long : 4096 < length list / 8 → r ≡ 32
  pub odd : length list / 8 ≤ 4096 → (length list % 8 ≡ 0 → ⊥) → r ≡ 9
  pub short : length list / 8 ≤ 4096 → length l.out < length list → r ≡ 9
  pub short_words : length list / 8 ≤ 4096 → length l.words < length list → r ≡ 9
  pub short_reasons : length list / 8 ≤ 4096 → length l.reasons < length list → r ≡ 9
  pub short_out : length list / 8 ≤ 4096 → length out < 16 → r ≡ 9
  pub answered : length list / 8 ≤ 4096 → length list % 8 ≡ 0 → length list ≤ length l.out
      → length list ≤ length l.words → length list ≤ length l.reasons → 16 ≤ length out → r ≡ 0
  -- what the host reads
  pub codes : r ≡ 0 → Laid ws l.out new.0.out
  pub words : r ≡ 0 → Laid (words_of cs) l.words new.0.words
  pub reasons : r ≡ 0 → Laid (reasons_of cs) l.reasons new.0.reasons
  pub counts : r ≡ 0 → Laid (length ws ∷ length cs ∷ []) out new.1
  -- a refusal leaves all as they were
  pub kept : (r ≡ 0 → ⊥) → new ≡ (l, out)

-- Checking where there are fewer than 2^64 bytes, so that eight have room for a place; mending where each is a byte.
pub record AsTheCells : Type 0 where
  pub check : (list out : List ℕ) (r : ℕ) (new : List ℕ) → length list < 2 ^ 64 → CheckBytes list out r new
      → HostedCheck (checked (words_in list)) list out r new
  pub mend : (list : List ℕ) (l : Lists) (out : List ℕ) (r : ℕ) (new : Lists × List ℕ)
      → ((i : ℕ) → get_or list i 0 < 256) → MendBytes list l out r new
      → HostedMend (mended (words_in list)) (changes (words_in list)) list l out r new
