-- Document 02, 2026-09 and 2026-10: the complete answers of checking and mending a cell list over bytes, for every
-- input: what the contracts cite. `out` and the three lists of `l` are the lent bytes as they come, `new` is what they
-- are left as. Assumes nothing.
use Rattle.std.specs.Prelude.{List, [], ◌∷◌, ℕ, length}
use Rattle.frame.specs.Answers.{Known, over}
use Rattle.octets.specs.Bytes.{bytes, words_in}
use Rattle.cells.specs.Checking.{checked}
use Rattle.mending.specs.Mending.{mended, changes}
use Rattle.mending.specs.Answers.{Lists, lists, words_of, reasons_of}
use Rattle.host_cells.specs.Refusals.{refuse_check, refuse_mend}

-- "The first offending place, from 0, and its reason are answered": in 16 bytes, the reason first; both are 0 where the
-- list is accepted
abbrev pub verdict_in : (list : List ℕ) → List ℕ
verdict_in list = let v = checked (words_in list) in bytes 8 (v.reason ∷ v.place ∷ [])

abbrev pub CheckBytes : (list out : List ℕ) → ℕ → List ℕ → Type 0
CheckBytes list out r new =
    Known {A = ℕ × List ℕ} (refuse_check list out) (0, over (verdict_in list) out) (λ k. (k, out)) (r, new)

-- the mended list, "words in one list and reasons in another": eight bytes for each number; and "Both counts are
-- answered" in 16 bytes
abbrev pub mend_out : (list : List ℕ) → Lists → (out : List ℕ) → Lists × List ℕ
mend_out list l out =
    let ws = mended (words_in list) in
    let cs = changes (words_in list) in (
      lists (over (bytes 8 ws) l.out) (over (bytes 8 (words_of cs)) l.words)
          (over (bytes 8 (reasons_of cs)) l.reasons),
      over (bytes 8 (length ws ∷ length cs ∷ [])) out,
    )

abbrev pub MendBytes : (list : List ℕ) → Lists → (out : List ℕ) → ℕ → Lists × List ℕ → Type 0
MendBytes list l out r new =
    Known {A = ℕ × (Lists × List ℕ)} (refuse_mend list l out) (0, mend_out list l out) (λ k. (k, (l, out))) (r, new)
