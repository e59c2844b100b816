-- The stored counts and sums stay true, and then the calls answer as in 2026-07. Assumes nothing.
use mathlib.Core.Path.{◌≡◌, ◌∙◌, refl, sym, ap, subst}
use mathlib.Core.Bool.{Bool, true, false, not, ◌&&◌}
use mathlib.Core.Logic.{⊎_elim}
use mathlib.Core.List.{List, [], ◌∷◌}
use Prim.Native.Nat.{ℕ, zero, suc, ◌≤◌, ◌<◌}
use native.Mathlib.Nat.{pos_of_ne-zero}
use native.Mathlib.Omega.{arith}
use lib.Dec.{eqb}
use lib.IntN.{ℤ}
use lib.ListN.{length, set, replicate, get_or-replicate}
use lib.Seq.{get_or-set_other}
use Rattle.frame.specs.Refusals.{◌either◌, ◌when◌, first_of}
use Rattle.frame.specs.Answers.{settled}
use Rattle.frame.specs.Lists.{below}
use Rattle.frame.proofs.Answering.{answers_or_not, known_settled}
use Rattle.frame.proofs.Below.{length_below, at_below, below_set, below_replicate}
use Rattle.frame.proofs.Refusing.{in_turn, in_turn_lem, not_given}
use Rattle.words.specs.Refusals.{IsCode}
use Rattle.words.specs.Family.{parent_of, child_of}
use Rattle.words.specs.Counting.{code_at, place_of}
use Rattle.words.specs.declared.TriangleCode.{TriangleCode}
use Rattle.words.proofs.CodeCount.{place_below, at_place, code_at_lem, place_at}
use Rattle.words.proofs.ChildPlaces.{child_code, child_place, up}
use Rattle.net.specs.Division.{sum}
use Rattle.tables.specs.Tables.{places, none, said, number, number_at, fresh}
use Rattle.tables.specs.Owners.{Shared, IsShared, held_at, sounding_after, shared_after}
use Rattle.tables.specs.Refusals.{desk_order, deed_rows, refuse_deed}
use Rattle.tables.specs.Answers.{carried_out, refused_deed, DeedAnswer}
use Rattle.tables.specs.Histories.{Call, asks, does, answers, after, doing, on_table, seen}
use Rattle.tables.specs.declared.Deed.{Deed}
use Rattle.tables.specs.Answers.{TableAnswer}
use Rattle.tables.proofs.Deeds.{Owned, deed_passed}
use Rattle.tables.proofs.Holding.{same_degree, begun}
use Rattle.tables.proofs.Alike.{alike_answers, alike_after, alike_seen}
use Rattle.tables.proofs.SimpleMaps.{turned}
use Rattle.coarse.specs.Sums.{present_in, parents, Coarse, coarse, stored_for, every_parent, true_coarse}
use Rattle.coarse.specs.Sums.{Chart, fresh_chart, kept, coarse_after, chart_after}
use Rattle.coarse.specs.Refusals.{sum_order, length_rows, differs, coarse_rows, refuse_kept}
use Rattle.coarse.specs.Answers.{kept_out, refused_kept, KeptAnswer}
use Rattle.coarse.specs.Histories.{on_chart}
use Rattle.coarse.specs.Promises.{AreTrue, SumsKept, Concerned, AsBefore}
use Rattle.coarse.proofs.Adding.{summing}
use Rattle.coarse.proofs.Children.{same_in}
use Rattle.coarse.proofs.Refused.{Stored, stored, kept_first, kept_then, kept_passed, kept_known}
use Rattle.coarse.proofs.Refused.{wrong_counts, wrong_sums, right_lengths, lengths_first}
use Rattle.coarse.proofs.Refused.{other_count, other_sum, none_kept}
use Rattle.coarse.proofs.Answers.{one_answer, each_kept}

-- ---- the list of what f says of every parent

pub length_parents : (n : ℕ) (f : TriangleCode → ℕ) → length (every_parent n f) ≡ parents n
unfolding every_parent
length_parents zero f = refl
length_parents (suc n) f = length_below (places n) (λ i. f (code_at n i))

stored_parent : (n : ℕ) (f : TriangleCode → ℕ) {q : TriangleCode} → IsCode n q
    → stored_for q (every_parent (suc n) f) ≡ f q
unfolding every_parent
stored_parent n f {q} c =
    at_below (places n) (λ i. f (code_at n i)) 0 (place_of q) (place_below c) ∙ ap f (at_place c)

-- ---- where they are true, 28 and 29 are not given

true_stored : (n : ℕ) (t : TriangleCode) (list : List ℤ) → IsCode n t → n ≤ 6
    → Stored n t list (true_coarse n list)
true_stored n t list c l = record {
  counts_long = length_parents n _;
  sums_long = length_parents n _;
  count = same n c l length;
  total = same n c l sum;
}
  where
    same : (n : ℕ) → IsCode n t → n ≤ 6 → (g : List ℕ → ℕ) → (n ≡ 0 → ⊥)
        → stored_for (parent_of t) (every_parent n (λ p. g (present_in p list))) ≡ g (present_in (parent_of t) list)
    same zero c l g some = absurd (some refl)
    same (suc n) c l g some = stored_parent n (λ p. g (present_in p list)) (up c (omega (arith, l))).code

module _ {n : ℕ} {c : Chart} (is : IsShared n c.shared) where
  -- a call is refused as in 2026-07 where its own parent's count and sum are those of its children
  pub as_deed : (e : Deed) (d m : ℕ) (t : TriangleCode)
      → (IsCode n t → Stored n t c.shared.readings c.coarse)
      → refuse_kept e d m t c ≡ refuse_deed e d m t c.shared
  as_deed e d m t right =
      ⊎_elim (λ z. answered z ∙ sym z) (λ some. sym (kept_first e d m t c refl some))
      (answers_or_not (refuse_deed e d m t c.shared))
    where
      answered : refuse_deed e d m t c.shared ≡ 0 → refuse_kept e d m t c ≡ 0
      answered z =
          let o = deed_passed e d m t c.shared z in
          let q : m ≡ n = same_degree o.is is in
          let code : IsCode n t = rw q at o.passed.code in
          let k : Stored m t c.shared.readings c.coarse =
          subst (λ (j : ℕ). Stored j t c.shared.readings c.coarse) (sym q) (right code) in
          (kept_passed e d m t c).1 (z, (stored m t c.shared.readings c.coarse).1 k)

  module _ (tr : AreTrue n c) where
    pub true_right : {t : TriangleCode} → IsCode n t → Stored n t c.shared.readings c.coarse
    true_right {t} k =
        subst (λ (x : Coarse). Stored n t c.shared.readings x) (sym tr)
        (true_stored n t c.shared.readings k is.table.degree)

    pub true_deed : (e : Deed) (d m : ℕ) (t : TriangleCode)
        → refuse_kept e d m t c ≡ refuse_deed e d m t c.shared
    true_deed e d m t = as_deed e d m t true_right

-- ---- a deed leaves them true

-- the children of another parent are not touched
pub same_children : {n : ℕ} {q t : TriangleCode} (e : Deed) (d : ℕ) (s : Shared) → IsCode n q → IsCode (suc n) t
    → n < 24 → (place_of q ≡ place_of (parent_of t) → ⊥)
    → present_in q (shared_after e d t s).readings ≡ present_in q s.readings
same_children {n} {q} {t} e d s c k l f =
    same_in q (shared_after e d t s).readings s.readings
    (λ j h.
    get_or-set_other s.readings (place_of t) (place_of (child_of q j))
    (number (sounding_after e (said (number_at t s.readings)))) none
    (λ w. f (omega (arith, w, child_place c l j h, (up k l).place, (up k l).small, h))))

kept_true : (g : List ℕ → ℕ) (e : Deed) (d n : ℕ) (t : TriangleCode) (s : Shared) → IsCode n t → n ≤ 6
    → (let list = (shared_after e d t s).readings in
    kept n t (λ p. g (present_in p list)) (every_parent n (λ p. g (present_in p s.readings)))
    ≡ every_parent n (λ p. g (present_in p list)))
unfolding every_parent
kept_true g e d zero t s c l = refl
kept_true g e d (suc n) t s c l =
    let list = (shared_after e d t s).readings in
    let u = up c (omega arith) in
    let old : ℕ → ℕ = λ i. g (present_in (code_at n i) s.readings) in
    let new : ℕ → ℕ = λ i. g (present_in (code_at n i) list) in
    let k = place_of (parent_of t) in
    ap (λ (p : TriangleCode). set (below (places n) old) k (g (present_in p list))) (sym (at_place u.code))
    ∙ below_set (places n) new old k (place_below u.code)
    (λ i j w. sym (ap g (same_children e d s (code_at_lem n i (omega arith) j) c (omega arith)
    (λ q. w (sym (place_at n i (omega arith)) ∙ q)))))

after_true : (e : Deed) (d n : ℕ) (t : TriangleCode) (c : Chart) → IsCode n t → n ≤ 6 → AreTrue n c
    → AreTrue n (chart_after e d n t c)
after_true e d n t c k l tr =
    ap (coarse_after n t (shared_after e d t c.shared).readings) tr
    ∙ (λ i. coarse (kept_true length e d n t c.shared k l i) (kept_true sum e d n t c.shared k l i))

-- ---- one call, beside the same call in 2026-07

-- refused alike, it is answered alike
pub same_turn : (e : Deed) (d m : ℕ) (t : TriangleCode) (c : Chart)
    → refuse_kept e d m t c ≡ refuse_deed e d m t c.shared
    → ((on_chart (does e d m t) c).0 ≡ (on_table (does e d m t) c.shared).0)
    × ((on_chart (does e d m t) c).1.shared ≡ (on_table (does e d m t) c.shared).1)
same_turn e d m t c q = rw q (go (refuse_deed e d m t c.shared))
  where
    go : (f : ℕ) → (let x = doing (settled f (kept_out e d m t c) (refused_kept c)) in
        let y = doing (settled f (carried_out e d t c.shared) (refused_deed c.shared)) in
        (x.0 ≡ y.0) × (x.1.shared ≡ y.1))
    go zero = (refl, refl)
    go (suc f) = (refl, refl)

-- A table whose sums are true, and the same table in 2026-07.
pub record Beside (n : ℕ) (c : Chart) (s : Shared) : Type 0 where
  pub is : IsShared n c.shared
  pub tr : AreTrue n c
  pub same : c.shared ≡ s

left_true : (e : Deed) (d m : ℕ) (t : TriangleCode) {n : ℕ} (c : Chart) → IsShared n c.shared → AreTrue n c
    → AreTrue n (on_chart (does e d m t) c).1
left_true e d m t {n} c is tr = go (refuse_kept e d m t c) (λ z. (kept_known e d m t c z).owned)
  where
    go : (f : ℕ) → (f ≡ 0 → Owned e d m t c.shared)
        → AreTrue n (settled f (kept_out e d m t c) (refused_kept c)).1
    go zero h =
        let o = h refl in
        let q : m ≡ n = same_degree o.is is in
        subst (λ (j : ℕ). AreTrue n (chart_after e d j t c)) (sym q)
        (after_true e d n t c (rw q at o.passed.code) is.table.degree tr)
    go (suc f) h = tr

step : {n : ℕ} (x : Call) (c : Chart) (s : Shared) → Beside n c s
    → ((on_chart x c).0 ≡ (on_table x s).0) × Beside n (on_chart x c).1 (on_table x s).1
step (asks d m t) c s b =
    (ap (λ (y : Shared). (on_table (asks d m t) y).0) b.same, record { is = b.is; tr = b.tr; same = b.same })
step {n} (does e d m t) c s b =
    let w = same_turn e d m t c (true_deed b.is b.tr e d m t) in
    let x = does e d m t in (
      w.0 ∙ ap (λ (y : Shared). (on_table x y).0) b.same,
      record {
        is = rw w.1 (turned b.is x (held_at t c.shared) (λ _. refl)).is;
        tr = left_true e d m t c b.is b.tr;
        same = w.1 ∙ ap (λ (y : Shared). (on_table x y).1) b.same;
      },
    )

-- ---- any calls

module _ {n : ℕ} {c : Chart} (is : IsShared n c.shared) (tr : AreTrue n c) where
  beside : Beside n c c.shared
  beside = record { is = is; tr = tr; same = refl }

  pub after_beside : (cs : List Call) → Beside n (after on_chart cs c) (after on_table cs c.shared)
  after_beside cs = alike_after on_chart on_table (Beside n) step cs c c.shared beside

  pub answers_beside : (cs : List Call) → answers on_chart cs c ≡ answers on_table cs c.shared
  answers_beside cs = alike_answers on_chart on_table (Beside n) step cs c c.shared beside

  seen_beside : (d : ℕ) (t : TriangleCode) (cs : List Call)
      → seen on_chart d t cs c ≡ seen on_table d t cs c.shared
  seen_beside d t cs = alike_seen on_chart on_table (Beside n) step d t cs c c.shared beside

  -- no 28 and no 29
  not_refused : (e : Deed) (d m : ℕ) (t : TriangleCode)
      → (refuse_kept e d m t c ≡ 28 → ⊥) × (refuse_kept e d m t c ≡ 29 → ⊥)
  unfolding refuse_deed
  not_refused e d m t =
      let q = true_deed is tr e d m t in
      let rows = deed_rows e d m t c.shared in (
        λ z. not_given desk_order rows 27 tt (sym q ∙ z),
        λ z. not_given desk_order rows 28 tt (sym q ∙ z),
      )

-- ---- a fresh table

fresh_in : {n : ℕ} {q : TriangleCode} → IsCode n q → n < 24 → present_in q (fresh (suc n)) ≡ []
fresh_in {n} {q} c l =
    same_in q (fresh (suc n)) []
    (λ j h. get_or-replicate (places (suc n)) (place_of (child_of q j)) none none (place_below (child_code c l j h)))

fresh_list : (g : List ℕ → ℕ) → g [] ≡ 0 → (n : ℕ) → n ≤ 6
    → replicate (parents n) 0 ≡ every_parent n (λ p. g (present_in p (fresh n)))
unfolding every_parent
fresh_list g z zero l = refl
fresh_list g z (suc n) l =
    below_replicate (places n) (λ i. g (present_in (code_at n i) (fresh (suc n)))) 0
    (λ i k. ap g (fresh_in (code_at_lem n i (omega arith) k) (omega arith)) ∙ z)

pub fresh_true : (n : ℕ) → n ≤ 6 → AreTrue n (fresh_chart n)
fresh_true n l = λ i. coarse (fresh_list length refl n l i) (fresh_list sum summing.nothing n l i)

-- ---- what is promised

pub sums_kept : SumsKept
sums_kept = record {
  deed = λ e d n t c r new p.
      ap doing (sym (known_settled (refuse_kept e d n t c) (kept_out e d n t c) (refused_kept c) (r, new) p));
  keeps = λ n c is tr cs. let b = after_beside is tr cs in (b.is, b.tr);
  each = λ n c tr p k. (
    ap (λ (x : Coarse). stored_for p x.counts) tr ∙ stored_parent n _ k,
    ap (λ (x : Coarse). stored_for p x.sums) tr ∙ stored_parent n _ k,
  );
  begun = λ n l. (begun n l, fresh_true n l);
  opened = λ n s c new r p z.
      ap (λ (x : TableAnswer × Coarse). x.1)
      (p.answered (sym ((one_answer.work_out n s.readings c).exactly (r, new) p) ∙ z));
  unrefused = λ e d m n t c is tr. not_refused is tr e d m t;
}

-- one call that is neither 28 nor 29 is refused as in 2026-07
module _ (e : Deed) (d n : ℕ) (t : TriangleCode) (c : Chart) where
  kept_only : (f : ℕ) → f ≡ first_of sum_order (coarse_rows n t c.shared.readings c.coarse)
      → (f ≡ 28 → ⊥) → (f ≡ 29 → ⊥) → f ≡ 0
  kept_only f q =
      let x = c.coarse in
      go (not (eqb (length x.counts) (parents n)) either not (eqb (length x.sums) (parents n)))
      (not (eqb n 0) && differs (parent_of t) c.shared.readings x)
      (q ∙ in_turn_lem sum_order (coarse_rows n t c.shared.readings x) tt)
    where
      go : (a b : Bool) → f ≡ in_turn (28 when a ∷ 29 when b ∷ []) → (f ≡ 28 → ⊥) → (f ≡ 29 → ⊥)
          → f ≡ 0
      go true b q k l = absurd (k q)
      go false true q k l = absurd (l q)
      go false false q k l = q

  same_refusal : (refuse_kept e d n t c ≡ 28 → ⊥) → (refuse_kept e d n t c ≡ 29 → ⊥)
      → refuse_kept e d n t c ≡ refuse_deed e d n t c.shared
  same_refusal k l =
      ⊎_elim (λ z. kept_only (refuse_kept e d n t c) (sym (kept_then e d n t c z)) k l ∙ sym z)
      (λ some. sym (kept_first e d n t c refl some)) (answers_or_not (refuse_deed e d n t c.shared))

  called : (r : TableAnswer) (new : Chart) → KeptAnswer e d n t c r new → (r.refusal ≡ 28 → ⊥)
      → (r.refusal ≡ 29 → ⊥) → DeedAnswer e d n t c.shared r new.shared
  called r new p k l =
      let told = (each_kept e d n t c).exactly (r, new) p in
      let same = same_refusal (λ z. k (told ∙ z)) (λ z. l (told ∙ z)) in
      let seen_of : TableAnswer × Chart → TableAnswer × Shared = λ x. (x.0, x.1.shared) in
      record {
        answered = λ z. ap seen_of (p.answered (same ∙ z));
        refused = λ some.
            ap seen_of (p.refused (λ z. some (sym same ∙ z))) ∙ ap (refused_deed c.shared) same;
      }

-- by the lengths and the parent concerned
concerned : (e : Deed) (d n : ℕ) (t : TriangleCode) (c : Chart) → Concerned e d n t c
concerned e d n t c = record {
  before = λ some. sym (kept_first e d n t c refl some);
  counts = λ z k. by_length z (wrong_counts n c.coarse k);
  sums = λ z k. by_length z (wrong_sums n c.coarse k);
  count = λ z l m o k.
      sym (other_count n t list c.coarse (sym (right_lengths n c.coarse l m)) (λ q. omega (arith, o, q)) k
      ∙ kept_then e d n t c z);
  total = λ z l m o k.
      sym (other_sum n t list c.coarse (sym (right_lengths n c.coarse l m)) (λ q. omega (arith, o, q)) k
      ∙ kept_then e d n t c z);
  answered = λ z l m p q.
      sym (none_kept n t list c.coarse (record {
        counts_long = l;
        sums_long = m;
        count = λ some. p (pos_of_ne-zero some);
        total = λ some. q (pos_of_ne-zero some);
      })
      ∙ kept_then e d n t c z);
}
  where
    list : List ℤ
    list = c.shared.readings

    by_length : refuse_deed e d n t c.shared ≡ 0 → 28 ≡ first_of sum_order (length_rows n c.coarse)
        → refuse_kept e d n t c ≡ 28
    by_length z q = sym (lengths_first n t list c.coarse q (λ w. omega (arith, w)) ∙ kept_then e d n t c z)

pub as_before : AsBefore
as_before = record {
  refusal = concerned;
  call = called;
  answered = λ n c is tr cs. answers_beside is tr cs;
  left = λ n c is tr cs. (after_beside is tr cs).same;
  sees = λ n c is tr d t cs. seen_beside is tr d t cs;
}
