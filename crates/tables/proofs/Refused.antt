-- The refusals of a table's calls, test by test, and what an answered call knows. Assumes nothing.
use mathlib.Core.Path.{◌≡◌, ◌∙◌, refl, sym, ap}
use mathlib.Core.Logic.{◌↔◌}
use mathlib.Core.Bool.{Bool, true, false, not}
use mathlib.Core.List.{List, [], ◌∷◌}
use Prim.Native.Nat.{ℕ, ◌≤◌, ◌<◌}
use native.Mathlib.Omega.{arith}
use borrow.Author.Tests.{lt-ltb, le-ltb, eq-eqb, ne_eqb, ltb-true, ltb-false, eqb-true, not-false}
use lib.Dec.{ltb, eqb}
use lib.IntN.{ℤ}
use lib.ListN.{length}
use Rattle.frame.specs.Refusals.{◌either◌, ◌when◌, first_of, order}
use Rattle.frame.proofs.Refusing.{◌or◌, alone, in_turn_lem, turn_append, given_so, or_first, or_next, or_zero}
use Rattle.frame.proofs.Refusing.{here, next, nothing, refuse_first, refuse_before, refuse_after, refuse_rest}
use Rattle.frame.proofs.Refusing.{NoneSo, none_so, none_after, either_none, either_false}
use Rattle.words.specs.Words.{degree_of}
use Rattle.words.specs.Refusals.{code_rows, check_code, IsCode}
use Rattle.words.specs.Counting.{place_of}
use Rattle.words.specs.declared.TriangleCode.{TriangleCode}
use Rattle.words.proofs.CodeCount.{place_below}
use Rattle.tables.specs.Tables.{places, any_bad}
use Rattle.tables.specs.Refusals.{table_order, large_rows, triangle_rows, table_rows, call_rows, refuse_call}

-- ---- of the degree

-- What the refusal f of a degree tells of it.
pub record Large (n f : ℕ) : Type 0 where
  pub large : (f ≡ 0 → ⊥) → 6 < n
  pub small : f ≡ 0 → n ≤ 6

module _ (n : ℕ) where
  large_rows_lem : first_of table_order (large_rows n) ≡ alone (1 when ltb 24 n) or alone (20 when ltb 6 n) or 0
  large_rows_lem = in_turn_lem table_order (large_rows n) tt

  pub degree_25 : 24 < n → 1 ≡ first_of table_order (large_rows n)
  degree_25 l = sym (large_rows_lem ∙ rw (lt-ltb 24 n l) refl)

  pub degree_7 : n ≤ 24 → 6 < n → 20 ≡ first_of table_order (large_rows n)
  degree_7 l m = sym (large_rows_lem ∙ rw (le-ltb 24 n l, lt-ltb 6 n m) refl)

  pub degree_6 : n ≤ 6 → 0 ≡ first_of table_order (large_rows n)
  degree_6 l = sym (large_rows_lem ∙ rw (le-ltb 24 n (omega arith), le-ltb 6 n l) refl)

  pub large : {f : ℕ} → f ≡ first_of table_order (large_rows n) → Large n f
  large {f} q = go (ltb 24 n) (ltb 6 n) refl refl
    where
      go : (a b : Bool) → ltb 24 n ≡ a → ltb 6 n ≡ b → Large n f
      go true b u v =
          let l = ltb-true 24 n u in
          let e : f ≡ 1 = q ∙ sym (degree_25 l) in
          record {
            large = λ _. omega (arith, l);
            small = λ z. absurd (omega (arith, z, e));
          }
      go false true u v =
          let l = ltb-false 24 n u in
          let m = ltb-true 6 n v in
          let e : f ≡ 20 = q ∙ sym (degree_7 l m) in
          record {
            large = λ _. m;
            small = λ z. absurd (omega (arith, z, e));
          }
      go false false u v =
          let l = ltb-false 6 n v in
          let e : f ≡ 0 = q ∙ sym (degree_6 l) in
          record {
            large = λ k. absurd (k e);
            small = λ _. l;
          }

-- ---- of the degree and the code

module _ (n : ℕ) (t : TriangleCode) where
  abbrev wrong_degree : Bool
  wrong_degree = ltb 6 n either not (eqb (degree_of t.0) n)

  in_three : first_of table_order (triangle_rows n t)
      ≡ alone (1 when ltb 24 n) or check_code t or alone (20 when wrong_degree) or 0
  unfolding check_code
  in_three =
      in_turn_lem table_order (triangle_rows n t) tt
      ∙ ap (λ (k : ℕ). alone (1 when ltb 24 n) or k)
      (turn_append (code_rows t) (20 when wrong_degree ∷ [])
      ∙ ap (λ (k : ℕ). k or alone (20 when wrong_degree) or 0) (sym (in_turn_lem order (code_rows t) tt)))

  pub too_deep : 24 < n → 1 ≡ first_of table_order (triangle_rows n t)
  too_deep l = refuse_first table_order (triangle_rows n t) tt (here (lt-ltb 24 n l))

  module _ (l : n ≤ 24) where
    in_two : first_of table_order (triangle_rows n t) ≡ check_code t or alone (20 when wrong_degree) or 0
    in_two = in_three ∙ rw (le-ltb 24 n l) refl

    pub no_code : {f : ℕ} → f ≡ check_code t → (f ≡ 0 → ⊥) → f ≡ first_of table_order (triangle_rows n t)
    no_code e some = or_first _ _ e some ∙ sym in_two

    module _ (z : check_code t ≡ 0) where
      last_row : first_of table_order (triangle_rows n t) ≡ alone (20 when wrong_degree) or 0
      last_row = in_two ∙ sym (or_next (check_code t) _ z refl)

      pub too_large : 6 < n → 20 ≡ first_of table_order (triangle_rows n t)
      too_large m = sym (last_row ∙ rw (lt-ltb 6 n m) refl)

      module _ (m : n ≤ 6) where
        pub other_degree : (degree_of t.0 ≡ n → ⊥) → 20 ≡ first_of table_order (triangle_rows n t)
        other_degree d = sym (last_row ∙ rw (le-ltb 6 n m, ne_eqb (degree_of t.0) n d) refl)

        pub in_table : degree_of t.0 ≡ n → 0 ≡ first_of table_order (triangle_rows n t)
        in_table d = sym (last_row ∙ rw (le-ltb 6 n m, eq-eqb (degree_of t.0) n d) refl)

  -- where there is none, the word is a code of the table's degree
  pub triangle_good : first_of table_order (triangle_rows n t) ≡ 0 → (n ≤ 6) × IsCode n t
  triangle_good e =
      let rest = check_code t or alone (20 when wrong_degree) or 0 in
      let z = or_zero (alone (1 when ltb 24 n)) rest (sym in_three ∙ e) in
      let y = or_zero (check_code t) (alone (20 when wrong_degree) or 0) z.1 in
      let d = (either_false (ltb 6 n) (not (eqb (degree_of t.0) n))).0 (none wrong_degree y.1) in
      (ltb-false 6 n d.0, record { passes = y.0; degree_is = eqb-true _ _ (not-false _ d.1) })
    where
      none : (b : Bool) → alone (20 when b) or 0 ≡ 0 → b ≡ false
      none true q = absurd (omega (arith, q))
      none false q = refl

-- ---- of the list

module _ (n : ℕ) (list : List ℤ) where
  pub wrong_length : (length list ≡ places n → ⊥) → 22 ≡ first_of table_order (table_rows n list)
  wrong_length d = refuse_first table_order (table_rows n list) tt (here (rw (ne_eqb (length list) (places n) d) refl))

  module _ (l : length list ≡ places n) where
    long : not (eqb (length list) (places n)) ≡ false
    long = rw (eq-eqb (length list) (places n) l) refl

    pub bad_list : any_bad list ≡ true → 23 ≡ first_of table_order (table_rows n list)
    bad_list b = refuse_first table_order (table_rows n list) tt (next long (here b))

    pub good_list : any_bad list ≡ false → 0 ≡ first_of table_order (table_rows n list)
    good_list b = refuse_first table_order (table_rows n list) tt (next long (next b nothing))

  -- where there is none, the list is as long as it must be and has no bad number
  pub list_good : NoneSo (table_rows n list) ↔ ((length list ≡ places n) × (any_bad list ≡ false))
  list_good = (
    λ z. (eqb-true _ _ (not-false _ z.0), z.1.0),
    λ g. (rw (eq-eqb (length list) (places n) g.0) refl, (g.1, tt)),
  )

-- ---- a call's

-- What an answered call of a table knows.
pub record Passed (n : ℕ) (t : TriangleCode) (list : List ℤ) : Type 0 where
  pub degree : n ≤ 6
  pub code : IsCode n t
  pub long : length list ≡ places n
  pub good : any_bad list ≡ false
  pub in_list : place_of t < length list

module _ (n : ℕ) (t : TriangleCode) (list : List ℤ) where
  passes : first_of table_order (triangle_rows n t) ≡ 0 → (length list ≡ places n) × (any_bad list ≡ false)
      → Passed n t list
  passes z g =
      let c = triangle_good n t z in
      record { degree = c.0; code = c.1; long = g.0; good = g.1; in_list = rw g.0 (place_below c.1) }

  module _ (out : Bool) where
    -- of the triangle
    pub call_first : {f : ℕ} → f ≡ first_of table_order (triangle_rows n t) → (f ≡ 0 → ⊥)
        → f ≡ refuse_call out n t list
    unfolding refuse_call
    call_first = refuse_before table_order table_order (triangle_rows n t) (21 when out ∷ table_rows n list) tt tt

    module _ (z : first_of table_order (triangle_rows n t) ≡ 0) where
      -- of the reading
      pub call_reading : out ≡ true → 21 ≡ refuse_call out n t list
      unfolding refuse_call
      call_reading b =
          refuse_after table_order table_order (triangle_rows n t) (21 when out ∷ table_rows n list) tt tt z (here b)

      -- of the list
      pub call_then : out ≡ false → first_of table_order (table_rows n list) ≡ refuse_call out n t list
      unfolding refuse_call
      call_then b =
          refuse_rest table_order table_order table_order (21 when out ∷ []) (table_rows n list) tt tt tt
          ((none_so table_order (21 when out ∷ []) tt).1 (b, tt))
          ∙ refuse_rest table_order table_order table_order (triangle_rows n t) (21 when out ∷ table_rows n list)
          tt tt tt z

    pub call_passed : refuse_call out n t list ≡ 0 → Passed n t list × (out ≡ false)
    unfolding refuse_call
    call_passed q =
        let z = (none_after table_order table_order (triangle_rows n t) (21 when out ∷ table_rows n list) tt tt).0 q in
        (passes z.0 ((list_good n list).0 z.1.1), z.1.0)

    -- 23 is given where the list holds a bad number
    pub call_bad : refuse_call out n t list ≡ 23 → any_bad list ≡ true
    unfolding refuse_call
    call_bad e = sym (either_none (any_bad list)) ∙ given_so table_order (call_rows out n t list) 22 e
