-- `list_below` and `list_beside` by recursion, the measure 6n + (5 - k) of the second between 6n and 6(n + 1): a
-- triangle of the degree lists itself, one without a fork below it the least below it, and any other those below its
-- least child, and then those below the children beside it. Assumes nothing.
use mathlib.Core.Path.{◌≡◌, ◌∙◌}
use mathlib.Core.List.{List, [], ◌∷◌, ◌++◌}
use Prim.Native.Nat.{ℕ, suc, ◌<◌, ◌+◌, ◌*◌, ◌-◌, ◌/◌, ◌^◌}
use native.Mathlib.Omega.{arith}
use lib.ListN.{length-set}
use Rattle.filing.proofs.HolderLists.{puts_one, room_first, room_rest, puts_both}
use Rattle.shares.specs.declared.Floors.{Floors}
use Rattle.shares.specs.Means.WalkWords.{IsWalk, walk_words, beside_words}
use Rattle.shares.proofs.LeastSteps.{digit_small}
use Rattle.shares.proofs.WalkLists.{this_word, one_word, least_alone, least_and_beside}
use Rattle.shares.proofs.WalkSteps.{walk_short, walk_path, walk_word, walk_least, walk_half, walk_to_least}
use mathlib.Core.List.{List, ◌++◌}
use Prim.Native.Nat.{ℕ, suc, ◌<◌, ◌≤◌, ◌+◌, ◌*◌, ◌^◌}
use Rattle.filing.proofs.HolderLists.{puts_none, room_first, room_rest, puts_both}
use Rattle.shares.specs.Means.WalkWords.{walk_words, beside_words}
use Rattle.shares.proofs.WalkLists.{no_corners, corner_passed, corner_and_rest}
use Rattle.shares.proofs.WalkSteps.{walk_short, walk_to_corner}
use Rattle.shares.proofs.walks.+list_below_list_beside.Goals as goal
use Rattle.shares.proofs.walks.+list_below_list_beside.Lts-list_below as list_below_lts
use Rattle.shares.proofs.walks.list_below.Reads as list_below
use Rattle.shares.proofs.walks.list_beside.Reads as list_beside
use Rattle.shares.proofs.descent.descend_straight.Reads as descend_straight_reads
use Rattle.shares.proofs.descent.least_child.Reads as least_child_reads
use Rattle.shares.proofs.walks.is_single.Reads as is_single_reads
use Rattle.shares.proofs.walks.alone.Reads as alone_reads
use Rattle.words.proofs.word_of.Reads as word_of_reads
use Rattle.shares.proofs.walks.+list_below_list_beside.Lts-list_beside as list_beside_lts
use Rattle.net.proofs.seams.of_three.Reads as of_three_reads
use Rattle.shares.proofs.walks.in_corner.Reads as in_corner_reads

abbrev below_calls : ℕ → list_below_lts.Claims
below_calls t = (
  word_of_reads.Asked,
  word_of_reads.Learnt,
  is_single_reads.Asked,
  is_single_reads.Learnt,
  descend_straight_reads.Asked,
  descend_straight_reads.Learnt,
  least_child_reads.Asked,
  least_child_reads.Learnt,
  alone_reads.Asked,
  alone_reads.Learnt,
  goal.list_below-below t,
  list_below.Post,
  goal.list_beside-below t,
  list_beside.Post,
)

-- ---- where n is 0

pub list_below-word_of-requires : goal.list_below-word_of-requires
list_below-word_of-requires t c =
    let a = c.args in
    walk_word a.w a.n a.p a.f a.v c.requires.0 c.if-n-eq0.true

-- the word, in its place
abbrev This : ℕ → Type 0
This t = list_below_lts.After-word_of (below_calls t) (goal.list_below-at t) list_below.Post (goal.the-clauses-list_below t)

words_this :
    (t : ℕ) (c : This t)
    → let a = c.args in
    walk_words a.w a.n a.p a.f a.v ≡ c.word_of.result ∷ []
words_this t c =
    let a = c.args in
    this_word a.w a.f a.v a.n a.p _
    c.if-n-eq0.true
    c.word_of.ensures

pub list_below-bounds-out-count : goal.list_below-bounds-out-count
list_below-bounds-out-count t c =
    let a = c.args in
    (puts_one a.count c.word_of.result _ a.out.now (words_this t c) c.requires.1).0

pub list_below-shape_of-out-then-n-eq0 : goal.list_below-shape_of-out-then-n-eq0
list_below-shape_of-out-then-n-eq0 t c =
    let a = c.args in length-set a.out.now a.count c.word_of.result

pub list_below-returns-then-n-eq0 : goal.list_below-returns-then-n-eq0
list_below-returns-then-n-eq0 t c =
    let a = c.args in
    (puts_one a.count c.word_of.result _ a.out.now (words_this t c) c.requires.1).1

-- ---- where no fork can come

pub list_below-is_single-requires : goal.list_below-is_single-requires
list_below-is_single-requires t c = tt

pub list_below-descend_straight-u-requires : goal.list_below-descend_straight-u-requires
list_below-descend_straight-u-requires t c =
    let a = c.args in
    let i = c.requires.0 in
    let l = walk_path a.w a.n a.p a.f a.v i in
    (omega (arith, i.above, i.low), i.most, i.shares, i.few, l, (i.rest, i.parts), i.fair)

pub list_below-word_of-requires-then-is_single : goal.list_below-word_of-requires-then-is_single
list_below-word_of-requires-then-is_single t c =
    let a = c.args in
    let F = a.f in
    walk_least a.w a.n a.p F a.v c.requires.0 c.descend_straight-u.result c.descend_straight-u.ensures

-- the word of the least, in its place
abbrev Word : ℕ → Type 0
Word t = list_below_lts.After-word_of2 (below_calls t) (goal.list_below-at t) list_below.Post (goal.the-clauses-list_below t)

words_one :
    (t : ℕ) (c : Word t)
    → let a = c.args in
    walk_words a.w a.n a.p a.f a.v ≡ c.word_of-then-is_single.result ∷ []
words_one t c =
    let a = c.args in
    let F = a.f in
    one_word a.w F a.v a.n a.p c.descend_straight-u.result c.word_of-then-is_single.result
    c.requires.0
    (c.is_single.ensures c.if-is_single.true)
    c.descend_straight-u.ensures
    c.word_of-then-is_single.ensures

pub list_below-bounds-out-count-then-is_single : goal.list_below-bounds-out-count-then-is_single
list_below-bounds-out-count-then-is_single t c =
    let a = c.args in
    (puts_one a.count c.word_of-then-is_single.result _ a.out.now (words_one t c) c.requires.1).0

pub list_below-shape_of-out-then-is_single : goal.list_below-shape_of-out-then-is_single
list_below-shape_of-out-then-is_single t c =
    let a = c.args in
    length-set a.out.now a.count c.word_of-then-is_single.result

pub list_below-returns-then-is_single : goal.list_below-returns-then-is_single
list_below-returns-then-is_single t c =
    let a = c.args in
    (puts_one a.count c.word_of-then-is_single.result _ a.out.now (words_one t c) c.requires.1).1

-- ---- the least child

pub list_below-least_child-c-requires : goal.list_below-least_child-c-requires
list_below-least_child-c-requires t c =
    let i = c.requires.0 in
    (i.shares.0, i.shares.1, i.shares.2, i.few.0, i.few.1, i.few.2)

abbrev Least : ℕ → Type 0
Least t = list_below_lts.After-least_child (below_calls t) (goal.list_below-at t) list_below.Post (goal.the-clauses-list_below t)

abbrev here : (t : ℕ) → Least t → Floors
here t c = let a = c.args in a.f

small_digit : (t : ℕ) (c : Least t) → c.least_child-c.result.digit < 4
small_digit t c =
    let a = c.args in
    rw c.least_child-c.ensures.0 (digit_small (a.p / 2) (here t c) a.w.gaps)

short_least : (t : ℕ) (c : Least t) → c.args.v < 2 ^ 48
short_least t c =
    let a = c.args in
    walk_short a.w a.n a.p (here t c) a.v c.requires.0

pub list_below-overflow_mul-u : goal.list_below-overflow_mul-u
list_below-overflow_mul-u t c = record { fits = omega (arith, short_least t c.before) }

pub list_below-overflow_add-u : goal.list_below-overflow_add-u
list_below-overflow_add-u t c = record { fits = omega (arith, short_least t c.before.before, small_digit t c.before.before) }

pub list_below-alone-requires : goal.list_below-alone-requires
list_below-alone-requires t c = tt

-- the words to list, those below it, and those beside
abbrev all_words : (t : ℕ) → Least t → List ℕ
all_words t c =
    let a = c.args in
    walk_words a.w a.n a.p (here t c) a.v

abbrev least_words : (t : ℕ) → Least t → List ℕ
least_words t c =
    let a = c.args in
    let r = c.least_child-c.result in
    walk_words a.w (a.n - 1) (a.p / 2) r.floors (4 * a.v + r.digit)

abbrev other_words : (t : ℕ) → Least t → List ℕ
other_words t c =
    let a = c.args in
    beside_words a.w (a.n - 1) (a.p / 2) (here t c) a.v 1

abbrev Alone : ℕ → Type 0
Alone t = list_below_lts.Then3 (below_calls t) (goal.list_below-at t) list_below.Post (goal.the-clauses-list_below t)

abbrev Others : ℕ → Type 0
Others t = list_below_lts.Else3 (below_calls t) (goal.list_below-at t) list_below.Post (goal.the-clauses-list_below t)

words_alone :
    (t : ℕ) (c : Alone t) → all_words t c.before.before.before ≡ least_words t c.before.before.before
words_alone t c =
    let a = c.args in
    let r = c.least_child-c.result in
    least_alone a.w (here t c.before.before.before) a.v a.n a.p r.digit r.floors
    c.if-n-eq0.false
    c.least_child-c.ensures
    (c.alone.ensures.0 c.if-alone.true)

words_both :
    (t : ℕ) (c : Others t)
    → all_words t c.before.before.before ≡ least_words t c.before.before.before ++ other_words t c.before.before.before
words_both t c =
    let a = c.args in
    let r = c.least_child-c.result in
    least_and_beside a.w (here t c.before.before.before) a.v a.n a.p r.digit r.floors
    c.if-n-eq0.false
    c.least_child-c.ensures
    (c.alone.ensures.1 c.if-alone.false)

-- the walk goes on in the least child, and beside it
beside_least :
    (t : ℕ) (c : Least t)
    → let a = c.args in
    IsWalk a.w (suc (a.n - 1)) (a.p / 2 + a.p / 2) (here t c) a.v
beside_least t c =
    let a = c.args in
    walk_half a.w a.n a.p (here t c) a.v c.requires.0 c.if-n-eq0.false

in_least :
    (t : ℕ) (c : Least t)
    → let a = c.args in
    let r = c.least_child-c.result in
    IsWalk a.w (a.n - 1) (a.p / 2) r.floors (4 * a.v + r.digit)
in_least t c =
    let a = c.args in
    let r = c.least_child-c.result in
    walk_to_least a.w (a.n - 1) (a.p / 2) (here t c) r.floors a.v r.digit
    (beside_least t c)
    c.least_child-c.ensures

pub list_below-overflow_sub-n : goal.list_below-overflow_sub-n
list_below-overflow_sub-n t c =
    let f = c.if-n-eq0.false in omega arith

pub list_below-list_below-requires : goal.list_below-list_below-requires
list_below-list_below-requires t c =
    let f = c.if-n-eq0.false in
    (omega (arith, c.decreases, f), (in_least t c.before.before.before.before.before, rw (words_alone t c.before.before) at c.requires.1))

pub list_below-shape_of-out-then-alone : goal.list_below-shape_of-out-then-alone
list_below-shape_of-out-then-alone t c = c.list_below.auto.out

pub list_below-returns-then-alone : goal.list_below-returns-then-alone
list_below-returns-then-alone t c =
    rw (words_alone t c.before.before.before.before.before.before) c.list_below.ensures

pub list_below-overflow_sub-n-2 : goal.list_below-overflow_sub-n-2
list_below-overflow_sub-n-2 t c =
    let f = c.if-n-eq0.false in omega arith

pub list_below-list_below-m-requires : goal.list_below-list_below-m-requires
list_below-list_below-m-requires t c =
    let a = c.args in
    let f = c.if-n-eq0.false in
    let xs = least_words t c.before.before.before.before.before in
    let ys = other_words t c.before.before.before.before.before in
    let e = words_both t c.before.before in
    let room = room_first a.count xs ys (all_words t c.before.before.before.before.before) a.out.now e c.requires.1 in
    (omega (arith, c.decreases, f), (in_least t c.before.before.before.before.before, room))

pub list_below-overflow_sub-n-3 : goal.list_below-overflow_sub-n-3
list_below-overflow_sub-n-3 t c =
    let f = c.if-n-eq0.false in omega arith

pub list_below-list_beside-requires : goal.list_below-list_beside-requires
list_below-list_beside-requires t c =
    let a = c.args in
    let f = c.if-n-eq0.false in
    let xs = least_words t c.before.before.before.before.before.before.before.before.before in
    let ys = other_words t c.before.before.before.before.before.before.before.before.before in
    let told = c.list_below-m.ensures in
    let room = room_rest a.count xs ys (all_words t c.before.before.before.before.before.before.before.before.before) a.out.now (words_both t c.before.before.before.before.before.before) c.requires.1 told in
    (omega (arith, c.decreases, f), (beside_least t c.before.before.before.before.before.before.before.before.before, omega arith, omega arith, room))

pub list_below-shape_of-out : goal.list_below-shape_of-out
list_below-shape_of-out t c =
    c.list_beside.auto.out
    ∙ c.list_below-m.auto.out

pub list_below-returns : goal.list_below-returns
list_below-returns t c =
    let a = c.args in
    let xs = least_words t c.before.before.before.before.before.before.before.before.before.before.before.before.before in
    let ys = other_words t c.before.before.before.before.before.before.before.before.before.before.before.before.before in
    puts_both a.count xs ys (all_words t c.before.before.before.before.before.before.before.before.before.before.before.before.before) a.out.now (words_both t c.before.before.before.before.before.before.before.before.before.before) c.requires.1
    c.list_below-m.ensures
    c.list_beside.ensures

-- ---- the children beside it

abbrev beside_calls : ℕ → list_beside_lts.Claims
beside_calls t = (
  of_three_reads.Asked,
  of_three_reads.Learnt,
  goal.list_beside-below t,
  list_beside.Post,
  in_corner_reads.Asked,
  in_corner_reads.Learnt,
  goal.list_below-below t,
  list_below.Post,
)

pub list_beside-returns-then-k-eq4 : goal.list_beside-returns-then-k-eq4
list_beside-returns-then-k-eq4 t c =
    let a = c.args in
    let e = no_corners a.w a.f a.v a.n a.h a.k c.if-k-eq4.true in
    puts_none a.count _ a.out.now e

pub list_beside-overflow_add-k : goal.list_beside-overflow_add-k
list_beside-overflow_add-k t c = let k = c.requires.2 in record { fits = omega arith }

-- those of its children from k on, and from the next on
abbrev Floor : ℕ → Type 0
Floor t = list_beside_lts.After-of_three (beside_calls t) (goal.list_beside-at t) list_beside.Post (goal.the-clauses-list_beside t)

abbrev floors_of : (t : ℕ) → Floor t → Floors
floors_of t c = let a = c.args in a.f

abbrev words_from : (t : ℕ) → Floor t → (k : ℕ) → List ℕ
words_from t c k = let a = c.args in beside_words a.w a.n a.h (floors_of t c) a.v k

short_beside : (t : ℕ) (c : Floor t) → c.args.v < 2 ^ 48
short_beside t c =
    let a = c.args in
    walk_short a.w (suc a.n) (a.h + a.h) (floors_of t c) a.v c.requires.0

words_passed :
    (t : ℕ) (c : list_beside_lts.Then2 (beside_calls t) (goal.list_beside-at t) list_beside.Post (goal.the-clauses-list_beside t))
    → let k = c.args.k in
    words_from t c.before k ≡ words_from t c.before (k + 1)
words_passed t c =
    let a = c.args in
    corner_passed a.w (floors_of t c.before) a.v a.n a.h a.k
    c.requires.2
    c.if-k-eq4.false
    (rw c.of_three.ensures at c.if-of_three-h.true)

pub list_beside-list_beside-requires : goal.list_beside-list_beside-requires
list_beside-list_beside-requires t c =
    let p = c.requires in
    let f = c.if-k-eq4.false in (
      omega (arith, c.decreases, p.2, f),
      (p.0, omega (arith, p.1), omega (arith, p.2, f), rw (words_passed t c.before) at p.3),
    )

pub list_beside-shape_of-out-then-of_three-h : goal.list_beside-shape_of-out-then-of_three-h
list_beside-shape_of-out-then-of_three-h t c = c.list_beside.auto.out

pub list_beside-returns-then-of_three-h : goal.list_beside-returns-then-of_three-h
list_beside-returns-then-of_three-h t c =
    rw (words_passed t c.before.before.before.before.before) c.list_beside.ensures

pub list_beside-in_corner-c-requires : goal.list_beside-in_corner-c-requires
list_beside-in_corner-c-requires t c =
    let p = c.requires in
    let f = c.if-k-eq4.false in
    (p.1, omega (arith, p.2, f), rw c.of_three.ensures at c.if-of_three-h.false)

pub list_beside-overflow_mul-v : goal.list_beside-overflow_mul-v
list_beside-overflow_mul-v t c = record { fits = omega (arith, short_beside t c.before.before.before) }

pub list_beside-overflow_add-v : goal.list_beside-overflow_add-v
list_beside-overflow_add-v t c =
    record { fits = omega (arith, short_beside t c.before.before.before, c.requires.2) }

-- the child k's, and those of the rest
abbrev Corner : ℕ → Type 0
Corner t = list_beside_lts.After-in_corner (beside_calls t) (goal.list_beside-at t) list_beside.Post (goal.the-clauses-list_beside t)

abbrev corner_words : (t : ℕ) → Corner t → List ℕ
corner_words t c =
    let a = c.args in
    walk_words a.w a.n a.h c.in_corner-c.result (4 * a.v + a.k)

words_here :
    (t : ℕ) (c : Corner t)
    → let k = c.args.k in
    words_from t c.before.before k ≡ corner_words t c ++ words_from t c.before.before (k + 1)
words_here t c =
    let a = c.args in
    corner_and_rest a.w (floors_of t c.before.before) a.v a.n a.h a.k c.in_corner-c.result
    c.requires.2
    c.if-k-eq4.false
    (rw c.of_three.ensures at c.if-of_three-h.false)
    (c.in_corner-c.ensures a.w.gaps)

pub list_beside-list_below-m-requires : goal.list_beside-list_below-m-requires
list_beside-list_below-m-requires t c =
    let a = c.args in
    let p = c.requires in
    let f = c.if-k-eq4.false in
    let K = c.in_corner-c.result in
    let e = c.in_corner-c.ensures a.w.gaps in
    let half = rw c.of_three.ensures at c.if-of_three-h.false in
    let last : a.k ≤ 3 = omega (arith, p.2, f) in
    let walk = walk_to_corner a.w a.n a.h (floors_of t c.before.before.before) K a.v a.k p.0 p.1 last half e in
    let xs = corner_words t c.before in
    let ys = words_from t c.before.before.before (a.k + 1) in
    let room = room_first a.count xs ys (words_from t c.before.before.before a.k) a.out.now (words_here t c.before) p.3 in
    (omega (arith, c.decreases, p.2), (walk, room))

pub list_beside-overflow_add-k-2 : goal.list_beside-overflow_add-k-2
list_beside-overflow_add-k-2 t c =
    let k = c.requires.2 in
    record { fits = omega arith }

pub list_beside-list_beside-requires-2 : goal.list_beside-list_beside-requires-2
list_beside-list_beside-requires-2 t c =
    let a = c.args in
    let p = c.requires in
    let f = c.if-k-eq4.false in
    let xs = corner_words t c.before.before.before.before.before in
    let ys = words_from t c.before.before.before.before.before.before.before (a.k + 1) in
    let told = c.list_below-m.ensures in
    let room = room_rest a.count xs ys (words_from t c.before.before.before.before.before.before.before a.k) a.out.now (words_here t c.before.before.before.before.before) p.3 told in
    (omega (arith, c.decreases, p.2, f), (p.0, omega (arith, p.1), omega (arith, p.2, f), room))

pub list_beside-shape_of-out : goal.list_beside-shape_of-out
list_beside-shape_of-out t c =
    c.list_beside-2.auto.out
    ∙ c.list_below-m.auto.out

pub list_beside-returns : goal.list_beside-returns
list_beside-returns t c =
    let a = c.args in
    let xs = corner_words t c.before.before.before.before.before.before.before.before.before in
    let ys = words_from t c.before.before.before.before.before.before.before.before.before.before.before (a.k + 1) in
    puts_both a.count xs ys (words_from t c.before.before.before.before.before.before.before.before.before.before.before a.k) a.out.now (words_here t c.before.before.before.before.before.before.before.before.before) c.requires.3
    c.list_below-m.ensures
    c.list_beside-2.ensures
