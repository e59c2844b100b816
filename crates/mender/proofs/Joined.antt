-- What the merges leave and tell by ranks is what mending says of the words; and the change list that is written in two
-- parts. Assumes nothing.
use mathlib.Core.Path.{◌≡◌, ◌∙◌, refl, sym, ap, subst}
use mathlib.Core.Bool.{true, false}
use mathlib.Core.Logic.{◌⊎◌, inl, inr, ⊎_elim}
use mathlib.Core.List.{List, [], ◌∷◌, ◌++◌, map, map-append, append-nil}
use Prim.Native.Nat.{ℕ, zero, suc, ◌+◌, ◌≤◌, ◌<◌}
use native.Mathlib.Omega.{arith}
use lib.Dec.{eqb}
use lib.ListN.{length, get_or, take, drop, take-append-drop, length-map, length-append}
use Rattle.frame.specs.Answers.{over}
use Rattle.cells.specs.Order.{valid}
use Rattle.cells.specs.Means.Ranks.{rank}
use Rattle.cells.proofs.Dictionary.{known}
use Rattle.mending.specs.Mending.{Change, change, judged, dropped, sound, mended, changes, merges_at, replaced}
use Rattle.mending.specs.Mending.{merged_below, merges_below}
use Rattle.mending.specs.Answers.{words_of, reasons_of}
use Rattle.mending.specs.Means.InRows.{in_row, passed, passed_merges}
use Rattle.mending.proofs.Members.{at_mem, append_mem, Valid}
use Rattle.mending.proofs.WordNodes.{up}
use Rattle.mending.proofs.Merging.{Good, merge_mem}
use Rattle.mending.proofs.Dropping.{sound_good}
use Rattle.mending.proofs.Mended.{next_good, mended_all}
use Rattle.mending.proofs.Passes.{pass_is}
use Rattle.judging.proofs.WordKeys.{rank_small}
use Rattle.merging.specs.Means.Joining.{Small, word_at, in_ranks, before, joined_at, joins_at, joined_below, joins_below}
use Rattle.merging.specs.Means.Joining.{fives, dropped_words, dropped_reasons, Added}
use Rattle.merging.proofs.Rows.{Each, joined_map}
use Rattle.merging.proofs.Written.{writing_none, writing_on, writing_all, wrote_over}
use Rattle.mender.proofs.ByRanks.{row_same, row_up, word_of_rank}

-- ---- lists of codes

codes : (ws : List ℕ) → Valid ws → Each (λ w. valid w ≡ true) ws
codes ws v i l = v (get_or ws i 0) (at_mem ws i l)

pub small_ranks : (ws : List ℕ) → Valid ws → Small (map rank ws)
small_ranks [] v i l = absurd (omega (arith, l))
small_ranks (w ∷ ws) v zero l = rank_small w (v w (inl refl))
small_ranks (w ∷ ws) v (suc i) l = small_ranks ws (λ u m. v u (inr m)) i (omega (arith, l))

pub words_back : (ws : List ℕ) → Valid ws → map word_at (map rank ws) ≡ ws
words_back [] v = refl
words_back (w ∷ ws) v = λ i. word_of_rank w (v w (inl refl)) i ∷ words_back ws (λ u m. v u (inr m)) i

-- ---- one degree, and all

ranks_joined : (d : ℕ) → d < 24 → (ws : List ℕ) → Valid ws
    → (joined_at d (map rank ws) ≡ map rank (passed d ws)) × (joins_at d (map rank ws) ≡ map rank (passed_merges d ws))
ranks_joined d l ws v =
    joined_map (λ w. valid w ≡ true) (in_row d) (in_ranks d) up before rank
    (λ a b c e va vb vc ve. row_same d a l va b c e vb vc ve)
    (λ a b c e va vb vc ve h. row_up d a l va b c e vb vc ve h) ws (codes ws v)

pub ranks_below : (d : ℕ) → d ≤ 24 → (ws : List ℕ) → Good d ws
    → (joined_below d (map rank ws) ≡ map rank (merged_below d ws))
    × (joins_below d (map rank ws) ≡ map rank (merges_below d ws))
unfolding joined_below joins_below merged_below merges_below
ranks_below zero h ws g = (refl, refl)
ranks_below (suc d) h ws g =
    let l : d < 24 = omega arith in
    let new = replaced (merges_at d ws) ws in
    let j = ranks_joined d l ws g.codes in
    let p = pass_is d l ws g in
    let e : joined_at d (map rank ws) ≡ map rank new = j.0 ∙ ap (map rank) p.0 in
    let f : joins_at d (map rank ws) ≡ map rank (merges_at d ws) = j.1 ∙ ap (map rank) p.1 in
    let r = ranks_below d (omega arith) new (next_good d l ws g) in (
      ap (joined_below d) e ∙ r.0,
      (λ i. f i ++ joins_below d (e i)) ∙ ap (λ (x : List ℕ). map rank (merges_at d ws) ++ x) r.1
          ∙ sym (map-append rank (merges_at d ws) (merges_below d new)),
    )

-- ---- the dropped words

words_judged : (all es ws : List ℕ) → words_of (judged all es ws) ≡ ws
unfolding judged
words_judged all es [] = refl
words_judged all es (w ∷ ws) = ap (λ (l : List ℕ). w ∷ l) (words_judged all (w ∷ es) ws)

module _ (late : List ℕ) where
  dropped_by : (cs : List Change)
      → (dropped_words (words_of cs) (reasons_of cs ++ late) ≡ words_of (dropped cs))
      × (dropped_reasons (words_of cs) (reasons_of cs ++ late) ≡ reasons_of (dropped cs))
  unfolding dropped_words dropped_reasons dropped
  dropped_by [] = (refl, refl)
  dropped_by (c ∷ cs) = go (dropped_by cs) (known (eqb c.reason 0))
    where
      go : (dropped_words (words_of cs) (reasons_of cs ++ late) ≡ words_of (dropped cs))
          × (dropped_reasons (words_of cs) (reasons_of cs ++ late) ≡ reasons_of (dropped cs))
          → (eqb c.reason 0 ≡ true) ⊎ (eqb c.reason 0 ≡ false)
          → (dropped_words (words_of (c ∷ cs)) (reasons_of (c ∷ cs) ++ late) ≡ words_of (dropped (c ∷ cs)))
          × (dropped_reasons (words_of (c ∷ cs)) (reasons_of (c ∷ cs) ++ late) ≡ reasons_of (dropped (c ∷ cs)))
      go r (inl e) = rw e r
      go r (inr e) =
          rw e (ap (λ (l : List ℕ). c.word ∷ l) r.0, ap (λ (l : List ℕ). c.reason ∷ l) r.1)

module _ (ws why : List ℕ) (e : take (length ws) why ≡ reasons_of (judged ws [] ws)) where
  abbrev cs : List Change
  cs = judged ws [] ws

  why_is : why ≡ reasons_of cs ++ drop (length ws) why
  why_is = sym (take-append-drop (length ws) why) ∙ ap (λ (l : List ℕ). l ++ drop (length ws) why) e

  pub dropped_words_lem : dropped_words ws why ≡ words_of (dropped cs)
  dropped_words_lem =
      (λ i. dropped_words (sym (words_judged ws [] ws) i) (why_is i)) ∙ (dropped_by (drop (length ws) why) cs).0

  pub dropped_reasons_lem : dropped_reasons ws why ≡ reasons_of (dropped cs)
  dropped_reasons_lem =
      (λ i. dropped_reasons (sym (words_judged ws [] ws) i) (why_is i)) ∙ (dropped_by (drop (length ws) why) cs).1

-- ---- the change list

words_fives : (us : List ℕ) → words_of (map (λ u. change u 5) us) ≡ us
words_fives [] = refl
words_fives (u ∷ us) = ap (λ (l : List ℕ). u ∷ l) (words_fives us)

reasons_fives : (us : List ℕ) → reasons_of (map (λ u. change u 5) us) ≡ fives (map rank us)
reasons_fives [] = refl
reasons_fives (u ∷ us) = ap (λ (l : List ℕ). 5 ∷ l) (reasons_fives us)

-- one list in two parts
pub two_writes : (old mid new xs ys : List ℕ) (c c' : ℕ) → length mid ≡ length old → length new ≡ length mid
    → Added old mid 0 c xs → Added mid new c c' ys → (new ≡ over (xs ++ ys) old) × (c' ≡ length (xs ++ ys))
two_writes old mid new xs ys c c' l m w v =
    let a = writing_on (writing_none old 0 (xs ++ ys)) xs ys refl l w in
    let b = writing_on a ys [] (sym (append-nil ys)) m v in
    let r = writing_all b refl in
    (wrote_over r, r.count ∙ omega arith)

merges_valid : (d : ℕ) → d ≤ 24 → (ws : List ℕ) → Good d ws → Valid (merges_below d ws)
unfolding merges_below
merges_valid zero h ws g w m = absurd m
merges_valid (suc d) h ws g w m =
    let l : d < 24 = omega arith in
    ⊎_elim (λ k. (merge_mem d l ws g w k).0)
    (λ k. merges_valid d (omega arith) (replaced (merges_at d ws) ws) (next_good d l ws g) w k)
    (append_mem w (merges_at d ws) (merges_below d (replaced (merges_at d ws) ws)) m)

-- what is done with a list that is judged: `why` are the reasons, `kept` the ranks of what stays
module _ (ws why kept : List ℕ) (by : take (length ws) why ≡ reasons_of (judged ws [] ws))
    (are : kept ≡ map rank (sound ws)) where
  abbrev ms : List ℕ
  ms = merges_below 24 (sound ws)

  abbrev ds : List Change
  ds = dropped (judged ws [] ws)

  merges : (joined_below 24 (map rank (sound ws)) ≡ map rank (merged_below 24 (sound ws)))
      × (joins_below 24 (map rank (sound ws)) ≡ map rank ms)
  merges = ranks_below 24 (omega arith) (sound ws) (sound_good ws)

  pub small_kept : Small kept
  small_kept = subst Small (sym are) (small_ranks (sound ws) (sound_good ws).codes)

  -- what is left is the mended list
  pub left_ranks : joined_below 24 kept ≡ map rank (mended ws)
  unfolding mended
  left_ranks = ap (joined_below 24) are ∙ merges.0

  merge_ranks : joins_below 24 kept ≡ map rank ms
  merge_ranks = ap (joins_below 24) are ∙ merges.1

  merge_words : map word_at (joins_below 24 kept) ≡ ms
  merge_words =
      ap (map word_at) merge_ranks ∙ words_back ms (merges_valid 24 (omega arith) (sound ws) (sound_good ws))

  -- and what was written are the changes
  pub all_words : dropped_words ws why ++ map word_at (joins_below 24 kept) ≡ words_of (changes ws)
  unfolding changes
  all_words =
      (λ i. dropped_words_lem ws why by i ++ merge_words i)
      ∙ ap (λ (l : List ℕ). words_of ds ++ l) (sym (words_fives ms))
      ∙ sym (map-append (λ c. c.word) ds (map (λ u. change u 5) ms))

  pub all_reasons : dropped_reasons ws why ++ fives (joins_below 24 kept) ≡ reasons_of (changes ws)
  unfolding changes
  all_reasons =
      (λ i. dropped_reasons_lem ws why by i ++ fives (merge_ranks i))
      ∙ ap (λ (l : List ℕ). reasons_of ds ++ l) (sym (reasons_fives ms))
      ∙ sym (map-append (λ c. c.reason) ds (map (λ u. change u 5) ms))

  pub all_count : length (dropped_words ws why) + length (joins_below 24 kept) ≡ length (changes ws)
  all_count =
      ap (λ (n : ℕ). length (dropped_words ws why) + n) (sym (length-map (joins_below 24 kept) word_at))
      ∙ sym (length-append (dropped_words ws why) (map word_at (joins_below 24 kept)))
      ∙ ap length all_words ∙ length-map (changes ws) (λ c. c.word)

pub mended_words : (ws : List ℕ) → map word_at (map rank (mended ws)) ≡ mended ws
mended_words ws = words_back (mended ws) (mended_all ws).good.codes

pub mended_small : (ws : List ℕ) → Small (map rank (mended ws))
mended_small ws = small_ranks (mended ws) (mended_all ws).good.codes
