-- The refusals 28 and 29, test by test, and what an answered call knows. Assumes nothing.
use mathlib.Core.Path.{◌≡◌, ◌∙◌, refl, sym}
use mathlib.Core.Logic.{◌↔◌}
use mathlib.Core.Bool.{Bool, true, false, not, ◌&&◌}
use mathlib.Core.List.{List, ◌++◌}
use Prim.Native.Nat.{ℕ, ◌≤◌}
use borrow.Author.Tests.{eq-eqb, ne_eqb, eqb-true, eqb-false, not-false}
use lib.Dec.{eqb}
use lib.IntN.{ℤ}
use lib.ListN.{length}
use Rattle.frame.specs.Refusals.{first_of}
use Rattle.frame.proofs.Refusing.{here, refuse_first, refuse_before, refuse_after, refuse_rest}
use Rattle.frame.proofs.Refusing.{NoneSo, none_so, none_after, either_right, either_false}
use Rattle.words.specs.Family.{parent_of}
use Rattle.words.specs.declared.TriangleCode.{TriangleCode}
use Rattle.tables.specs.Tables.{places}
use Rattle.tables.specs.Refusals.{table_order, desk_order, large_rows, table_rows, deed_rows, refuse_deed}
use Rattle.tables.specs.declared.Deed.{Deed}
use Rattle.tables.proofs.Refused.{large, list_good}
use Rattle.tables.proofs.Deeds.{Owned, deed_passed}
use Rattle.coarse.specs.Sums.{count_in, sum_in, parents, Coarse, stored_for, Chart}
use Rattle.coarse.specs.Refusals.{sum_order, length_rows, differs, stored_rows, coarse_rows}
use Rattle.coarse.specs.Refusals.{refuse_kept, refuse_work_out}

-- ---- of the lengths

module _ (n : ℕ) (c : Coarse) where
  pub wrong_counts : (length c.counts ≡ parents n → ⊥) → 28 ≡ first_of sum_order (length_rows n c)
  wrong_counts k =
      refuse_first sum_order (length_rows n c) tt (here (rw (ne_eqb (length c.counts) (parents n) k)))

  pub wrong_sums : (length c.sums ≡ parents n → ⊥) → 28 ≡ first_of sum_order (length_rows n c)
  wrong_sums k =
      refuse_first sum_order (length_rows n c) tt
      (here (either_right (not (eqb (length c.counts) (parents n))) _
      (rw (ne_eqb (length c.sums) (parents n) k))))

  pub lengths_good : NoneSo (length_rows n c)
      ↔ ((length c.counts ≡ parents n) × (length c.sums ≡ parents n))
  lengths_good = (
    λ z.
        let k = (either_false (not (eqb (length c.counts) (parents n))) _).0 z.0 in
        (eqb-true _ _ (not-false _ k.0), eqb-true _ _ (not-false _ k.1)),
    λ g. (rw (eq-eqb (length c.counts) (parents n) g.0, eq-eqb (length c.sums) (parents n) g.1) refl, tt),
  )

  pub right_lengths : length c.counts ≡ parents n → length c.sums ≡ parents n
      → 0 ≡ first_of sum_order (length_rows n c)
  right_lengths e g = sym ((none_so sum_order (length_rows n c) tt).1 (lengths_good.1 (e, g)))

  pub right_long : first_of sum_order (length_rows n c) ≡ 0
      → (length c.counts ≡ parents n) × (length c.sums ≡ parents n)
  right_long z = lengths_good.0 ((none_so sum_order (length_rows n c) tt).0 z)

-- ---- of the parent

-- Lists that are neither 28 nor 29 for t.
pub record Stored (n : ℕ) (t : TriangleCode) (list : List ℤ) (c : Coarse) : Type 0 where
  pub counts_long : length c.counts ≡ parents n
  pub sums_long : length c.sums ≡ parents n
  pub count : (n ≡ 0 → ⊥) → stored_for (parent_of t) c.counts ≡ count_in (parent_of t) list
  pub total : (n ≡ 0 → ⊥) → stored_for (parent_of t) c.sums ≡ sum_in (parent_of t) list

module _ (n : ℕ) (t : TriangleCode) (list : List ℤ) (c : Coarse) where
  pub stored : NoneSo (coarse_rows n t list c) ↔ Stored n t list c
  stored = (
    λ z.
        let g = (lengths_good n c).0 (z.0, tt) in
        let same : (n ≡ 0 → ⊥)
        → (not (eqb (stored_for (parent_of t) c.counts) (count_in (parent_of t) list)) ≡ false)
        × (not (eqb (stored_for (parent_of t) c.sums) (sum_in (parent_of t) list)) ≡ false) =
        λ some. (either_false (not (eqb (stored_for (parent_of t) c.counts) (count_in (parent_of t) list))) _).0
        (rw (ne_eqb n 0 some) at z.1.0) in
        record {
          counts_long = g.0;
          sums_long = g.1;
          count = λ some. eqb-true _ _ (not-false _ (same some).0);
          total = λ some. eqb-true _ _ (not-false _ (same some).1);
        },
    λ s. (((lengths_good n c).1 (s.counts_long, s.sums_long)).0, (row s (eqb n 0) refl, tt)),
  )
    where
      row : Stored n t list c → (b : Bool) → eqb n 0 ≡ b
          → (not (eqb n 0) && differs (parent_of t) list c) ≡ false
      row s true b = rw b refl
      row s false b =
          let some = eqb-false n 0 b in
          rw (
            b,
            eq-eqb (stored_for (parent_of t) c.counts) (count_in (parent_of t) list) (s.count some),
            eq-eqb (stored_for (parent_of t) c.sums) (sum_in (parent_of t) list) (s.total some),
          ) refl

  pub lengths_first : {f : ℕ} → f ≡ first_of sum_order (length_rows n c) → (f ≡ 0 → ⊥)
      → f ≡ first_of sum_order (coarse_rows n t list c)
  lengths_first = refuse_before sum_order sum_order (length_rows n c) (stored_rows n t list c) tt tt

  module _ (z : first_of sum_order (length_rows n c) ≡ 0) where
    module _ (some : n ≡ 0 → ⊥) where
      pub other_count : (stored_for (parent_of t) c.counts ≡ count_in (parent_of t) list → ⊥)
          → 29 ≡ first_of sum_order (coarse_rows n t list c)
      other_count k =
          refuse_after sum_order sum_order (length_rows n c) (stored_rows n t list c) tt tt z
          (here (rw (ne_eqb n 0 some, ne_eqb (stored_for (parent_of t) c.counts) (count_in (parent_of t) list) k)))

      pub other_sum : (stored_for (parent_of t) c.sums ≡ sum_in (parent_of t) list → ⊥)
          → 29 ≡ first_of sum_order (coarse_rows n t list c)
      other_sum k =
          refuse_after sum_order sum_order (length_rows n c) (stored_rows n t list c) tt tt z
          (here (rw (ne_eqb n 0 some)
          (either_right (not (eqb (stored_for (parent_of t) c.counts) (count_in (parent_of t) list))) _
          (rw (ne_eqb (stored_for (parent_of t) c.sums) (sum_in (parent_of t) list) k)))))

  pub none_kept : Stored n t list c → 0 ≡ first_of sum_order (coarse_rows n t list c)
  none_kept s = sym ((none_so sum_order (coarse_rows n t list c) tt).1 (stored.1 s))

-- ---- a call's, after those of 2026-07

module _ (e : Deed) (d n : ℕ) (t : TriangleCode) (c : Chart) where
  pub kept_first : {f : ℕ} → f ≡ refuse_deed e d n t c.shared → (f ≡ 0 → ⊥)
      → f ≡ refuse_kept e d n t c
  unfolding refuse_deed refuse_kept
  kept_first =
      refuse_before desk_order sum_order (deed_rows e d n t c.shared)
      (coarse_rows n t c.shared.readings c.coarse) tt tt

  pub kept_then : refuse_deed e d n t c.shared ≡ 0
      → first_of sum_order (coarse_rows n t c.shared.readings c.coarse) ≡ refuse_kept e d n t c
  unfolding refuse_deed refuse_kept
  kept_then =
      refuse_rest desk_order sum_order sum_order (deed_rows e d n t c.shared)
      (coarse_rows n t c.shared.readings c.coarse) tt tt tt

  pub kept_passed : (refuse_kept e d n t c ≡ 0)
      ↔ ((refuse_deed e d n t c.shared ≡ 0) × NoneSo (coarse_rows n t c.shared.readings c.coarse))
  unfolding refuse_deed refuse_kept
  kept_passed =
      none_after desk_order sum_order (deed_rows e d n t c.shared)
      (coarse_rows n t c.shared.readings c.coarse) tt tt

-- What an answered call that writes knows.
pub record Kept (e : Deed) (d n : ℕ) (t : TriangleCode) (c : Chart) : Type 0 where
  pub owned : Owned e d n t c.shared
  pub lists : Stored n t c.shared.readings c.coarse

pub kept_known : (e : Deed) (d n : ℕ) (t : TriangleCode) (c : Chart) → refuse_kept e d n t c ≡ 0 → Kept e d n t c
kept_known e d n t c z =
    let k = (kept_passed e d n t c).0 z in
    record {
      owned = deed_passed e d n t c.shared k.0;
      lists = (stored n t c.shared.readings c.coarse).0 k.1;
    }

-- ---- of working out afresh

-- What it knows when it is answered.
pub record WorkedOut (n : ℕ) (list : List ℤ) (c : Coarse) : Type 0 where
  pub degree : n ≤ 6
  pub long : length list ≡ places n
  pub counts_long : length c.counts ≡ parents n
  pub sums_long : length c.sums ≡ parents n

module _ (n : ℕ) (list : List ℤ) (c : Coarse) where
  pub degree_first : {f : ℕ} → f ≡ first_of table_order (large_rows n) → (f ≡ 0 → ⊥)
      → f ≡ refuse_work_out n list c
  unfolding refuse_work_out
  degree_first = refuse_before table_order sum_order (large_rows n) (table_rows n list ++ length_rows n c) tt tt

  module _ (z : first_of table_order (large_rows n) ≡ 0) where
    rest : first_of sum_order (table_rows n list ++ length_rows n c) ≡ refuse_work_out n list c
    unfolding refuse_work_out
    rest = refuse_rest table_order sum_order sum_order (large_rows n) (table_rows n list ++ length_rows n c) tt tt tt z

    pub list_first : {f : ℕ} → f ≡ first_of table_order (table_rows n list) → (f ≡ 0 → ⊥)
        → f ≡ refuse_work_out n list c
    list_first e some = refuse_before table_order sum_order (table_rows n list) (length_rows n c) tt tt e some ∙ rest

    pub lengths_last : first_of table_order (table_rows n list) ≡ 0
        → first_of sum_order (length_rows n c) ≡ refuse_work_out n list c
    lengths_last y =
        refuse_rest table_order sum_order sum_order (table_rows n list) (length_rows n c) tt tt tt y ∙ rest

  pub work_out_passed : refuse_work_out n list c ≡ 0 → WorkedOut n list c
  unfolding refuse_work_out
  work_out_passed q =
      let z = (none_after table_order sum_order (large_rows n) (table_rows n list ++ length_rows n c) tt tt).0 q in
      let g = (list_good n list).0 (z.1.0, (z.1.1.0, tt)) in
      let k = (lengths_good n c).0 z.1.1.1 in
      record {
        degree = (large n refl).small z.0;
        long = g.0;
        counts_long = k.0;
        sums_long = k.1;
      }
