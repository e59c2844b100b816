-- What a table's file is refused for: the degree, then the readings, then the owners; and what is not refused. Assumes
-- nothing.
use mathlib.Core.Path.{◌≡◌, ◌∙◌, refl, sym, ap, subst}
use mathlib.Core.Logic.{◌↔◌}
use mathlib.Core.Bool.{true}
use mathlib.Core.List.{◌++◌}
use Prim.Native.Nat.{ℕ}
use borrow.Author.Tests.{ne_eqb}
use Rattle.frame.specs.Refusals.{first_of}
use Rattle.frame.proofs.Refusing.{given_so, refuse_before, refuse_rest, none_after, either_none}
use Rattle.frame.proofs.Scanning.{first_there, none_before}
use Rattle.tables.specs.Tables.{none, is_bad, any_bad, least_bad}
use Rattle.tables.specs.Owners.{Shared, IsShared}
use Rattle.tables.specs.Refusals.{table_order, desk_order, large_rows, table_rows, owner_list_rows}
use Rattle.tables.specs.Answers.{place_for, refused}
use Rattle.tables.specs.Promises.{IsLeastBad}
use Rattle.tables.specs.Answers.{TableAnswer}
use Rattle.tables.proofs.Refused.{large, degree_6, list_good}
use Rattle.tables.proofs.Deeds.{owners_good}
use Rattle.table_files.specs.Refusals.{refuse_table}

-- ---- one after the other

module _ (n : ℕ) (s : Shared) where
  pub degree_first : {f : ℕ} → f ≡ first_of table_order (large_rows n) → (f ≡ 0 → ⊥) → f ≡ refuse_table n s
  unfolding refuse_table
  degree_first =
      refuse_before table_order desk_order (large_rows n) (table_rows n s.readings ++ owner_list_rows n s.owners) tt tt

  module _ (z : first_of table_order (large_rows n) ≡ 0) where
    rest : first_of desk_order (table_rows n s.readings ++ owner_list_rows n s.owners) ≡ refuse_table n s
    unfolding refuse_table
    rest =
        refuse_rest table_order desk_order desk_order (large_rows n)
        (table_rows n s.readings ++ owner_list_rows n s.owners) tt tt tt z

    pub list_first : {f : ℕ} → f ≡ first_of table_order (table_rows n s.readings) → (f ≡ 0 → ⊥)
        → f ≡ refuse_table n s
    list_first e some =
        refuse_before table_order desk_order (table_rows n s.readings) (owner_list_rows n s.owners) tt tt e some
        ∙ rest

    pub owners_last : first_of table_order (table_rows n s.readings) ≡ 0
        → first_of desk_order (owner_list_rows n s.owners) ≡ refuse_table n s
    owners_last y =
        refuse_rest table_order desk_order desk_order (table_rows n s.readings) (owner_list_rows n s.owners)
        tt tt tt y
        ∙ rest

-- ---- what is not refused

module _ (n : ℕ) (s : Shared) where
  pub table_passed : (refuse_table n s ≡ 0) ↔ IsShared n s
  unfolding refuse_table
  table_passed =
      let after = table_rows n s.readings ++ owner_list_rows n s.owners in
      let all = none_after table_order desk_order (large_rows n) after tt tt in (
        λ q.
            let z = all.0 q in
            let g = (list_good n s.readings).0 (z.1.0, (z.1.1.0, tt)) in
            let k = (owners_good n s.owners).0 z.1.1.1 in
            record {
              table = record { degree = (large n refl).small z.0; long = g.0; good = g.1 };
              long = k.0;
              good = k.1;
            },
        λ is.
            let g = (list_good n s.readings).1 (is.table.long, is.table.good) in
            let k = (owners_good n s.owners).1 (is.long, is.good) in
            all.1 (sym (degree_6 n is.table.degree), (g.0, (g.1.0, k))),
      )

-- ---- the place beside a refusal

module _ (n : ℕ) (s : Shared) where
  -- 23 is given where the list of readings holds a bad number
  table_bad : refuse_table n s ≡ 23 → any_bad s.readings ≡ true
  unfolding refuse_table
  table_bad q =
      sym (either_none (any_bad s.readings))
      ∙ given_so desk_order (large_rows n ++ table_rows n s.readings ++ owner_list_rows n s.owners) 22 q

  module _ (r : TableAnswer) (e : r ≡ refused s.readings (refuse_table n s)) where
    told : r.refusal ≡ refuse_table n s
    told = ap (λ (a : TableAnswer). a.refusal) e

    beside : r.place ≡ place_for s.readings (refuse_table n s)
    beside = ap (λ (a : TableAnswer). a.place) e

    least : any_bad s.readings ≡ true → IsLeastBad s.readings (least_bad s.readings)
    least b =
        let h = first_there is_bad none s.readings b in
        record { inside = h.0; bad = h.1; first = none_before is_bad none s.readings }

    pub place_least : r.refusal ≡ 23 → IsLeastBad s.readings r.place
    place_least z =
        let q = sym told ∙ z in
        subst (IsLeastBad s.readings) (sym (beside ∙ ap (place_for s.readings) q)) (least (table_bad q))

    pub place_none : (r.refusal ≡ 23 → ⊥) → r.place ≡ 0
    place_none d = beside ∙ rw (ne_eqb (refuse_table n s) 23 (λ z. d (told ∙ z))) refl
