-- Document 02, 2026-10: what a stranger would try, and wrong answers. Codes are written apq then digits. Assumes
-- nothing.
use Rattle.std.specs.Prelude.{◌≡◌, List, [], ◌∷◌, ◌++◌, ℕ, suc, length, replicate}
use Rattle.frame.specs.Promises.{◌leaves◌}
use Rattle.words.specs.Writing.{written, words_for}
use Rattle.mending.specs.Mending.{Change, change, mended, changes}
use Rattle.mending.specs.Answers.{Lists, lists, refuse_mend, mend_answer, no_mend, MendResult}

-- a code and its reason
infix 80 ◌for◌
abbrev pub ◌for◌ : (code reason : ℕ) → Change
s for r = change (written s).0 r

-- three lists of so many places, which hold 7, 8 and 9
abbrev pub lent : (out words reasons : ℕ) → Lists
lent n m k = lists (replicate n 7) (replicate m 8) (replicate k 9)

pub record Examples : Type 0 where
  pub empty : mended [] ≡ []
  -- four whole children, in any order
  pub four : mended (words_for (1003 ∷ 1001 ∷ 1000 ∷ 1002 ∷ [])) ≡ words_for (100 ∷ [])
  pub four_changes : changes (words_for (1003 ∷ 1001 ∷ 1000 ∷ 1002 ∷ [])) ≡ 100 for 5 ∷ []
  -- three remain
  pub three : mended (words_for (1003 ∷ 1001 ∷ 1000 ∷ [])) ≡ words_for (1000 ∷ 1001 ∷ 1003 ∷ [])
  -- "as long as any four remain"
  pub twice : mended (words_for (10020 ∷ 10021 ∷ 10022 ∷ 10023 ∷ 1003 ∷ 1001 ∷ 1000 ∷ [])) ≡ words_for (100 ∷ [])
  pub twice_changes : changes (words_for (10020 ∷ 10021 ∷ 10022 ∷ 10023 ∷ 1003 ∷ 1001 ∷ 1000 ∷ []))
      ≡ 1002 for 5 ∷ 100 for 5 ∷ []
  -- "deepest first and rising within one degree": 100 comes first in the list, and last among the merges
  pub deepest : changes (words_for (1000 ∷ 1001 ∷ 1002 ∷ 1003 ∷ 30010 ∷ 30011 ∷ 30012 ∷ 30013 ∷ 20000 ∷ 20001 ∷ 20002
      ∷ 20003 ∷ []))
      ≡ 2000 for 5 ∷ 3001 for 5 ∷ 100 for 5 ∷ []
  -- four in a row that are not of one parent
  pub in_a_row : mended (words_for (1002 ∷ 1003 ∷ 1010 ∷ 1011 ∷ [])) ≡ words_for (1002 ∷ 1003 ∷ 1010 ∷ 1011 ∷ [])
  -- "3 equal to an earlier word, 4 inside another word, the least deciding": a second copy is 3 even inside another
  -- word; the other may come later, and may be dropped itself
  pub dropped : changes (words_for (10011 ∷ 1001 ∷ 10011 ∷ 100 ∷ 100 ∷ []))
      ≡ 10011 for 4 ∷ 1001 for 4 ∷ 10011 for 3 ∷ 100 for 3 ∷ []
  -- an invalid word is 1 each time
  pub invalid : changes (0 ∷ 1 ∷ 0 ∷ []) ≡ change 0 1 ∷ change 1 1 ∷ change 0 1 ∷ []
  -- the twenty sides are children of no triangle
  pub sides : mended (words_for (100 ∷ 101 ∷ 110 ∷ 111 ∷ [])) ≡ words_for (100 ∷ 101 ∷ 110 ∷ 111 ∷ [])
  -- "Both counts are answered; later places stay unchanged."
  pub places : MendResult (words_for (1003 ∷ 1001 ∷ 1000 ∷ 1002 ∷ 1003 ∷ [])) (lent 6 5 7) leaves (
    mend_answer 0 1 2,
    lists (words_for (100 ∷ []) ++ replicate 5 7) (words_for (1003 ∷ 100 ∷ []) ++ replicate 3 8)
        (3 ∷ 5 ∷ replicate 5 9),
  )
  -- 9 for each of the three lists, and nothing is written
  pub short_out : MendResult (replicate 2 0) (lent 1 2 2) leaves (no_mend 9, lent 1 2 2)
  pub short_words : MendResult (replicate 2 0) (lent 2 1 2) leaves (no_mend 9, lent 2 1 2)
  pub short_reasons : MendResult (replicate 2 0) (lent 2 2 1) leaves (no_mend 9, lent 2 2 1)
  -- 32 "checked first": the lists may be too short as well
  pub long : (ws : List ℕ) (l : Lists) → length ws ≡ 4097 → refuse_mend ws l ≡ 32
  pub as_long : (ws : List ℕ) (l : Lists) → length ws ≡ 4096 → length l.out ≡ 4096 → length l.words ≡ 4096
      → length l.reasons ≡ 4096 → refuse_mend ws l ≡ 0

-- Wrong programs, each by an answer of its own.
pub record Mistakes : Type 0 where
  -- merges as a stack does, in the order of the list
  pub stack_order : changes (words_for (1000 ∷ 1001 ∷ 1002 ∷ 1003 ∷ 20000 ∷ 20001 ∷ 20002 ∷ 20003 ∷ []))
      ≡ 100 for 5 ∷ 2000 for 5 ∷ [] → ⊥
  -- merges once and not again
  pub once : mended (words_for (10020 ∷ 10021 ∷ 10022 ∷ 10023 ∷ 1003 ∷ 1001 ∷ 1000 ∷ []))
      ≡ words_for (1000 ∷ 1001 ∷ 1002 ∷ 1003 ∷ []) → ⊥
  -- looks for insides before it looks for copies
  pub inside_first : changes (words_for (100 ∷ 1001 ∷ 1001 ∷ [])) ≡ 1001 for 4 ∷ 1001 for 4 ∷ [] → ⊥
  -- looks for insides among the words before alone
  pub earlier_only : changes (words_for (1001 ∷ 100 ∷ [])) ≡ [] → ⊥
  -- clears the places after the count
  pub clears : MendResult [] (lent 1 0 0) (mend_answer 0 0 0) (lists (0 ∷ []) [] []) → ⊥
  -- does nothing
  pub nothing : MendResult (0 ∷ []) (lent 1 1 1) (mend_answer 0 0 0) (lent 1 1 1) → ⊥
  -- refuses everything
  pub refuses : (k : ℕ) → MendResult [] (lent 0 0 0) (no_mend (suc k)) (lent 0 0 0) → ⊥
  -- refuses a list of 4,096 words
  pub full : (ws : List ℕ) (l : Lists) → length ws ≡ 4096 → refuse_mend ws l ≡ 32 → ⊥
