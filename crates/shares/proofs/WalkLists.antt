-- The list of a walk from its parts: the words below the least child, and those below each other child with a share of
-- half. Assumes nothing.
use mathlib.Core.Path.{◌≡◌, refl, sym, ap, subst, ◌∙◌}
use mathlib.Core.Bool.{Bool, true, false, cond}
use mathlib.Core.List.{List, [], ◌∷◌, ◌++◌, append-nil, append_assoc}
use Prim.Native.Nat.{ℕ, zero, suc, ◌+◌, ◌*◌, ◌-◌, ◌/◌, ◌≤◌, ◌<◌}
use native.Mathlib.Omega.{arith}
use lib.Dec.{leb}
use borrow.Author.Tests.{le-leb, lt-leb}
use Rattle.words.specs.Words.{word_of}
use Rattle.net.specs.Division.{each}
use Rattle.filing.specs.Means.Lists.{joined}
use Rattle.filing.proofs.HolderLists.{joined_more, joined_none, each_append}
use Rattle.shares.specs.declared.Floors.{Floors}
use Rattle.shares.specs.declared.walks.Walk.{Walk}
use Rattle.shares.specs.Means.Paths.{in_child, least_path, paths}
use Rattle.shares.specs.Means.WalkWords.{floor_at, walk_words, corner_words, beside_words}
use Rattle.shares.specs.Means.WalkWords.{Single, Fair, IsWalk}
use Rattle.shares.proofs.LeastSteps.{IsLeast}
use Rattle.shares.proofs.AllPaths.{below, others}
use Rattle.shares.proofs.SinglePaths.{single_paths}

each_if : (f : ℕ → ℕ) (b : Bool) (xs : List ℕ) → each f (cond b xs []) ≡ cond b (each f xs) []
each_if f true xs = refl
each_if f false xs = refl

module _ (w : Walk) (F : Floors) (v : ℕ) where
  -- ---- below the other children

  corner_some :
      (n h k : ℕ) → h ≤ floor_at k F → corner_words w n h F v k
      ≡ walk_words w n h (in_child h k F w.gaps) (4 * v + k)
  unfolding corner_words
  corner_some n h k l = rw (le-leb h (floor_at k F) l) refl

  corner_none : (n h k : ℕ) → floor_at k F < h → corner_words w n h F v k ≡ []
  unfolding corner_words
  corner_none n h k l = rw (lt-leb h (floor_at k F) l) refl

  pub no_corners : (n h k : ℕ) → k ≡ 4 → beside_words w n h F v k ≡ []
  unfolding beside_words
  no_corners n h k e = joined_none 4 k (corner_words w n h F v) (omega arith)

  beside_more :
      (n h k : ℕ)
      → k ≤ 4
      → (k ≡ 4 → ⊥)
      → beside_words w n h F v k ≡ corner_words w n h F v k ++ beside_words w n h F v (k + 1)
  unfolding beside_words
  beside_more n h k l f =
      let e : suc k ≡ k + 1 = omega arith in
      joined_more 4 k (corner_words w n h F v) (omega arith)
      ∙ (λ i. corner_words w n h F v k ++ joined (4 - e i) (e i) (corner_words w n h F v))

  pub corner_passed :
      (n h k : ℕ)
      → k ≤ 4
      → (k ≡ 4 → ⊥)
      → floor_at k F < h
      → beside_words w n h F v k ≡ beside_words w n h F v (k + 1)
  corner_passed n h k l f b =
      beside_more n h k l f ∙ ap (λ (xs : List ℕ). xs ++ beside_words w n h F v (k + 1)) (corner_none n h k b)

  pub corner_and_rest :
      (n h k : ℕ) (K : Floors)
      → k ≤ 4
      → (k ≡ 4 → ⊥)
      → h ≤ floor_at k F
      → K ≡ in_child h k F w.gaps
      → beside_words w n h F v k ≡ walk_words w n h K (4 * v + k) ++ beside_words w n h F v (k + 1)
  corner_and_rest n h k K l f a e =
      beside_more n h k l f
      ∙ ap (λ (xs : List ℕ). xs ++ beside_words w n h F v (k + 1)) (corner_some n h k a)
      ∙ (λ i. walk_words w n h (sym e i) (4 * v + k) ++ beside_words w n h F v (k + 1))

  none_beside : (n h : ℕ) → (F.f1 < h) × (F.f2 < h) × (F.f3 < h) → beside_words w n h F v 1 ≡ []
  none_beside n h l =
      corner_passed n h 1 (omega arith) (λ e. absurd (omega arith)) l.0
      ∙ corner_passed n h 2 (omega arith) (λ e. absurd (omega arith)) l.1
      ∙ corner_passed n h 3 (omega arith) (λ e. absurd (omega arith)) l.2
      ∙ no_corners n h 4 refl

  -- ---- below all

  pub this_word : (n p x : ℕ) → n ≡ 0 → x ≡ word_of w.side w.degree v
      → walk_words w n p F v ≡ x ∷ []
  unfolding walk_words paths
  this_word n p x z q = rw (z, q) refl

  -- no fork can come: the word of the least path
  pub one_word :
      (n p u x : ℕ)
      → IsWalk w n p F v
      → Single p F w.gaps
      → u ≡ least_path n p F w.gaps v
      → x ≡ word_of w.side w.degree u
      → walk_words w n p F v ≡ x ∷ []
  unfolding walk_words
  one_word n p u x i s r q =
      let G = w.gaps in
      let e = i.parts in
      let one : paths n p F G v ≡ least_path n p F G v ∷ [] =
      subst (λ (p : ℕ). paths n p F G v ≡ least_path n p F G v ∷ []) (sym e)
      (single_paths n i.rest F G v i.few
      (subst (λ (p : ℕ). Single p F G) e s)
      (subst (λ (p : ℕ). Fair p F G) e i.fair)) in
      ap (each (word_of w.side w.degree)) one
      ∙ (λ t. word_of w.side w.degree (sym r t) ∷ [])
      ∙ (λ t. sym q t ∷ [])

  abbrev word : ℕ → ℕ
  word = word_of w.side w.degree

  abbrev child_paths : (n h k : ℕ) → List ℕ
  child_paths n h k = paths n h (in_child h k F w.gaps) w.gaps (4 * v + k)

  abbrev corners : (n h : ℕ) → List ℕ
  corners n h = others n h F w.gaps v

  of_corners : (n h : ℕ) → each word (corners n h) ≡ beside_words w n h F v 1
  unfolding beside_words corner_words walk_words joined
  of_corners n h =
      let a = below n h 1 F.f1 F w.gaps v in
      let b = below n h 2 F.f2 F w.gaps v in
      let c = below n h 3 F.f3 F w.gaps v in
      let ea = each_if word (leb h F.f1) (child_paths n h 1) in
      let eb = each_if word (leb h F.f2) (child_paths n h 2) in
      let ec = each_if word (leb h F.f3) (child_paths n h 3) in
      each_append word (a ++ b) c
      ∙ ap (λ (xs : List ℕ). xs ++ each word c) (each_append word a b)
      ∙ append_assoc (each word a) (each word b) (each word c)
      ∙ (λ i. ea i ++ (eb i ++ (ec ∙ sym (append-nil _)) i))

  -- where d is the least child's digit, and K has the floors in it
  module _ (n p d : ℕ) (K : Floors) (f : n ≡ 0 → ⊥) (e : IsLeast (p / 2) F w.gaps d K) where
    least_first :
        walk_words w n p F v
        ≡ walk_words w (n - 1) (p / 2) K (4 * v + d) ++ cond (leb d 0) (beside_words w (n - 1) (p / 2) F v 1) []
    unfolding walk_words paths
    least_first =
        let q : n ≡ suc (n - 1) = omega arith in
        let h = p / 2 in
        let m = n - 1 in
        let G = w.gaps in
        let beside = cond (leb d 0) (corners m h) [] in
        ap (λ (k : ℕ). each word (paths k p F G v)) q
        ∙ ap (λ (c : ℕ). each word (child_paths m h c ++ cond (leb c 0) (corners m h) [])) (sym e.0)
        ∙ (λ i. each word (paths m h (sym e.1 i) G (4 * v + d) ++ beside))
        ∙ each_append word (paths m h K G (4 * v + d)) beside
        ∙ ap (λ (xs : List ℕ). each word (paths m h K G (4 * v + d)) ++ xs)
        (each_if word (leb d 0) (corners m h) ∙ ap (λ (xs : List ℕ). cond (leb d 0) xs []) (of_corners m h))

    -- it is not the middle one, or no other has a share of half
    pub least_alone :
        (d ≡ 0 → (F.f1 < p / 2) × (F.f2 < p / 2) × (F.f3 < p / 2))
        → walk_words w n p F v ≡ walk_words w (n - 1) (p / 2) K (4 * v + d)
    least_alone l =
        let this = walk_words w (n - 1) (p / 2) K (4 * v + d) in
        least_first ∙ ap (λ (xs : List ℕ). this ++ xs) (none d refl) ∙ append-nil this
      where
        none : (c : ℕ) → d ≡ c → cond (leb c 0) (beside_words w (n - 1) (p / 2) F v 1) [] ≡ []
        none zero q = none_beside (n - 1) (p / 2) (l q)
        none (suc c) q = rw (lt-leb (suc c) 0 (omega arith)) refl

    pub least_and_beside :
        d ≡ 0
        → walk_words w n p F v ≡ walk_words w (n - 1) (p / 2) K (4 * v + d) ++ beside_words w (n - 1) (p / 2) F v 1
    least_and_beside z =
        let this = walk_words w (n - 1) (p / 2) K (4 * v + d) in
        let beside = beside_words w (n - 1) (p / 2) F v 1 in
        least_first ∙ ap (λ (c : ℕ). this ++ cond (leb c 0) beside []) z
