-- Calls one after the other: a table side by side with a map, by what both have for a call's triangle. Assumes nothing.
use mathlib.Core.Path.{◌≡◌, ◌∙◌, refl, sym, ap}
use mathlib.Core.Bool.{Bool, true, false, not, cond}
use mathlib.Core.Logic.{◌↔◌}
use mathlib.Core.List.{List, ◌∷◌, ◌++◌}
use Prim.Native.Nat.{ℕ, zero, suc, ◌≤◌}
use borrow.Author.Tests.{eqb-true, not-false}
use lib.Dec.{eqb}
use lib.IntN.{ℤ}
use lib.ListN.{get_or-replicate}
use Rattle.frame.specs.Refusals.{◌when◌, ◌either◌, first_of}
use Rattle.frame.specs.Answers.{settled}
use Rattle.frame.proofs.Answering.{known_settled}
use Rattle.frame.proofs.Refusing.{◌or◌, alone, in_turn, refusal_append, none_so, none_after, not_given}
use Rattle.words.specs.Refusals.{IsCode}
use Rattle.words.specs.Counting.{place_of}
use Rattle.words.specs.declared.TriangleCode.{TriangleCode}
use Rattle.words.proofs.CodeCount.{place_below}
use Rattle.tables.specs.Tables.{places, none, IsTable, said}
use Rattle.tables.specs.Owners.{nobody, is_desk, owner_at, Shared, IsShared}
use Rattle.tables.specs.Owners.{Held, held, held_at, held_after}
use Rattle.tables.specs.Refusals.{table_order, triangle_rows, out_of_range, table_rows, refuse_call, refuse_get}
use Rattle.tables.specs.Refusals.{desk_order, desk_rows, owner_list_rows, owner_rows, shared_rows, refuse_deed}
use Rattle.tables.specs.Answers.{sounding_answer, refused_get, found, carried_out, refused_deed}
use Rattle.tables.specs.Histories.{Call, asks, does, got, done, answers, doing, on_table}
use Rattle.tables.specs.Histories.{Map, other_degree_rows, map_rows, refuse_get_on_map, refuse_deed_on_map}
use Rattle.tables.specs.Histories.{on_held, triangle_of, on_map}
use Rattle.tables.specs.Promises.{SimpleMap}
use Rattle.std.specs.Prelude.{None}
use Rattle.tables.specs.declared.Deed.{Deed}
use Rattle.tables.specs.Answers.{TableAnswer}
use Rattle.tables.proofs.Places.{same_places}
use Rattle.tables.proofs.Refused.{triangle_good, list_good}
use Rattle.tables.proofs.Deeds.{owners_good}
use Rattle.tables.proofs.Answering.{no_place}
use Rattle.tables.proofs.Holding.{shared_after_lem, after_at, begun}
use Rattle.tables.proofs.Alike.{alike_answers}

-- ---- the rows of the lists in a table

-- 22 is given as another degree is named, 23 not at all, and 25 only where 22 is
module _ {n : ℕ} {s : Shared} (is : IsShared n s) where
  list_rows : (m : ℕ) → in_turn (table_rows m s.readings) ≡ in_turn (other_degree_rows n m)
  list_rows m = rw (is.table.long, same_places m n, is.table.good) (no_last (cond (not (eqb m n)) 22 0))
    where
      no_last : (k : ℕ) → k or 0 or 0 ≡ k or 0
      no_last zero = refl
      no_last (suc k) = refl

  pub get_by_map : (m : ℕ) (t : TriangleCode) → refuse_get m t s.readings ≡ refuse_get_on_map n m t
  unfolding refuse_call refuse_get_on_map
  get_by_map m t =
      refusal_append table_order table_order (triangle_rows m t) (21 when false ∷ table_rows m s.readings) tt tt
      ∙ ap (λ (k : ℕ). first_of table_order (triangle_rows m t) or k) (list_rows m)
      ∙ sym (refusal_append table_order table_order (triangle_rows m t) (21 when false ∷ other_degree_rows n m) tt tt)

  pub deed_by_map : (e : Deed) (d m : ℕ) (t : TriangleCode)
      → refuse_deed e d m t s ≡ refuse_deed_on_map n e d m t (owner_at t s.owners)
  unfolding refuse_deed refuse_deed_on_map
  deed_by_map e d m t =
      refusal_append table_order desk_order (triangle_rows m t)
      (21 when out_of_range e ∷ (table_rows m s.readings ++ shared_rows e d m t s.owners)) tt tt
      ∙ ap (λ (k : ℕ). first_of table_order (triangle_rows m t) or cond (out_of_range e) 21 0 or k) rest
      ∙ sym (refusal_append table_order desk_order (triangle_rows m t)
      (21 when out_of_range e ∷ (other_degree_rows n m ++ desk_rows d ++ owner_rows e d o)) tt tt)
    where
      o : ℕ
      o = owner_at t s.owners

      go : (b : Bool) (k : ℕ)
          → cond (not b) 22 0 or 0 or alone (24 when not (is_desk d)) or cond (not b either false) 25 0 or k
          ≡ cond (not b) 22 0 or alone (24 when not (is_desk d)) or k
      go true k = refl
      go false k = refl

      rest : in_turn (table_rows m s.readings ++ shared_rows e d m t s.owners)
          ≡ in_turn (other_degree_rows n m ++ desk_rows d ++ owner_rows e d o)
      rest = rw (is.table.long, same_places m n, is.table.good, is.long, same_places m n, is.good)
          (go (eqb m n) (in_turn (owner_rows e d o)))

-- ---- what the map does not refuse

-- no refusal of the map answers a place
get_not_23 : (n m : ℕ) (t : TriangleCode) → refuse_get_on_map n m t ≡ 23 → ⊥
unfolding refuse_get_on_map
get_not_23 n m t = not_given table_order (map_rows n false m t) 22 tt

deed_not_23 : (n : ℕ) (e : Deed) (d m : ℕ) (t : TriangleCode) (o : ℕ)
    → refuse_deed_on_map n e d m t o ≡ 23 → ⊥
unfolding refuse_deed_on_map
deed_not_23 n e d m t o =
    not_given desk_order (map_rows n (out_of_range e) m t ++ desk_rows d ++ owner_rows e d o) 22 tt

-- a code that it does not refuse is one of the table's
rows_good : (n : ℕ) (out : Bool) (m : ℕ) (t : TriangleCode) → first_of table_order (map_rows n out m t) ≡ 0
    → IsCode n t × (out ≡ false)
rows_good n out m t e =
    let z = (none_after table_order table_order (triangle_rows m t) (21 when out ∷ other_degree_rows n m) tt tt).0 e in
    let q : m ≡ n = eqb-true m n (not-false _ z.1.1.0) in
    (rw q at (triangle_good m t z.0).1, z.1.0)

get_good : (n m : ℕ) (t : TriangleCode) → refuse_get_on_map n m t ≡ 0 → IsCode n t
unfolding refuse_get_on_map
get_good n m t e = (rows_good n false m t e).0

-- What an answered deed on the map knows.
record Good (n : ℕ) (e : Deed) (d : ℕ) (t : TriangleCode) : Type 0 where
  code : IsCode n t
  in_range : out_of_range e ≡ false
  desk : is_desk d ≡ true

module _ (n : ℕ) (e : Deed) (d m : ℕ) (t : TriangleCode) where
  in_two : (o : ℕ) → refuse_deed_on_map n e d m t o
      ≡ first_of table_order (map_rows n (out_of_range e) m t) or in_turn (desk_rows d ++ owner_rows e d o)
  unfolding refuse_deed_on_map
  in_two o =
      refusal_append table_order desk_order (map_rows n (out_of_range e) m t) (desk_rows d ++ owner_rows e d o) tt tt

  deed_good : (o : ℕ) → refuse_deed_on_map n e d m t o ≡ 0 → Good n e d t
  unfolding refuse_deed_on_map
  deed_good o q =
      let rows = map_rows n (out_of_range e) m t in
      let z = (none_after table_order desk_order rows (desk_rows d ++ owner_rows e d o) tt tt).0 q in
      let g = rows_good n (out_of_range e) m t z.0 in
      record { code = g.0; in_range = g.1; desk = not-false _ z.1.0 }

  -- the owner counts only where the code is one of the table's
  pub owner_counts : (o p : ℕ) → (IsCode n t → o ≡ p)
      → refuse_deed_on_map n e d m t o ≡ refuse_deed_on_map n e d m t p
  owner_counts o p q =
      in_two o
      ∙ go (first_of table_order (map_rows n (out_of_range e) m t)) (λ z. q (rows_good n (out_of_range e) m t z).0)
      ∙ sym (in_two p)
    where
      go : (f : ℕ) → (f ≡ 0 → o ≡ p)
          → f or in_turn (desk_rows d ++ owner_rows e d o) ≡ f or in_turn (desk_rows d ++ owner_rows e d p)
      go zero h = ap (λ (x : ℕ). in_turn (desk_rows d ++ owner_rows e d x)) (h refl)
      go (suc f) h = refl

-- ---- one call, on a table and on what it has for the call's triangle

-- The answers are the same; what is left is a table, which has for the triangle what is left there, and for every other
-- code what it had.
pub record Turned (n : ℕ) (c : Call) (s : Shared) (h : Held) : Type 0 where
  pub answer : (on_table c s).0 ≡ (on_held n c h).0
  pub is : IsShared n (on_table c s).1
  pub left : (u : TriangleCode) → IsCode n u
      → held_at u (on_table c s).1 ≡ cond (eqb u.0 (triangle_of c).0) (on_held n c h).1 (held_at u s)

module _ {n : ℕ} {s : Shared} (is : IsShared n s) (t : TriangleCode) (h : Held)
    (has : IsCode n t → held_at t s ≡ h)
  where
    -- where nothing is written
    kept : (u : TriangleCode) → IsCode n u → held_at u s ≡ cond (eqb u.0 t.0) h (held_at u s)
    kept u c = go (eqb u.0 t.0) refl
      where
        go : (b : Bool) → eqb u.0 t.0 ≡ b → held_at u s ≡ cond b h (held_at u s)
        go true b =
            let q : u.0 ≡ t.0 = eqb-true u.0 t.0 b in
            let e : u ≡ t = λ i. record { 0 = q i } in
            ap (λ (v : TriangleCode). held_at v s) e ∙ has (rw e at c)
        go false b = refl

    asked : (d m : ℕ) → Turned n (asks d m t) s h
    asked d m = record {
      answer = rw (get_by_map is m t) (go (refuse_get_on_map n m t) (get_not_23 n m t) (get_good n m t));
      is = is;
      left = kept;
    }
      where
        go : (f : ℕ) → (f ≡ 23 → ⊥) → (f ≡ 0 → IsCode n t)
            → got (settled f (found t s.readings) (refused_get s.readings))
            ≡ got (settled f (sounding_answer 0 0 h.sounding) (λ k. sounding_answer k 0 None))
        go zero d c = ap (λ (x : Held). got (sounding_answer 0 0 x.sounding)) (has (c refl))
        go (suc f) d c =
            ap (λ (r : TableAnswer). got (sounding_answer (suc f) r.place None))
            (sym (no_place s.readings (suc f) d))

    did : (e : Deed) (d m : ℕ) → Turned n (does e d m t) s h
    did e d m = go (refuse_deed_on_map n e d m t h.owner) refl
      where
        same : refuse_deed e d m t s ≡ refuse_deed_on_map n e d m t h.owner
        same =
            deed_by_map is e d m t
            ∙ owner_counts n e d m t (owner_at t s.owners) h.owner (λ c. ap (λ (x : Held). x.owner) (has c))

        go : (f : ℕ) → refuse_deed_on_map n e d m t h.owner ≡ f → Turned n (does e d m t) s h
        go zero q =
            let k = deed_good n e d m t h.owner q in
            let z : refuse_deed e d m t s ≡ 0 = same ∙ q in
            record {
              answer = rw (z, q) refl;
              is = rw z (shared_after_lem is e d t k.in_range k.desk);
              left = λ u cu. rw (z, q)
                  (after_at is e d t k.in_range k.desk k.code u cu
                  ∙ ap (λ (x : Held). cond (eqb u.0 t.0) (held_after e d x) (held_at u s)) (has k.code));
            }
        go (suc f) q =
            let z : refuse_deed e d m t s ≡ suc f = same ∙ q in
            record {
              answer = rw (z, q)
                  (ap done (sym (no_place s.readings (suc f) (λ w. deed_not_23 n e d m t h.owner (q ∙ w)))));
              is = rw z is;
              left = λ u cu. rw (z, q) (kept u cu);
            }

pub turned : {n : ℕ} {s : Shared} → IsShared n s → (c : Call) (h : Held)
    → (IsCode n (triangle_of c) → held_at (triangle_of c) s ≡ h) → Turned n c s h
turned is (asks d m t) h has = asked is t h has d m
turned is (does e d m t) h has = did is t h has e d m

-- ---- the table and the map side by side

record Agree (n : ℕ) (s : Shared) (map : Map) : Type 0 where
  is : IsShared n s
  same : (u : TriangleCode) → IsCode n u → held_at u s ≡ map u

turns : {n : ℕ} (c : Call) (s : Shared) (map : Map) → Agree n s map
    → ((on_table c s).0 ≡ (on_map n c map).0) × Agree n (on_table c s).1 (on_map n c map).1
turns {n} c s map a =
    let h = map (triangle_of c) in
    let k = turned a.is c h (a.same (triangle_of c)) in (
      k.answer,
      record {
        is = k.is;
        same = λ u cu. k.left u cu
            ∙ ap (λ (x : Held). cond (eqb u.0 (triangle_of c).0) (on_held n c h).1 x) (a.same u cu);
      },
    )

as_map : {n : ℕ} {s : Shared} {map : Map} → Agree n s map → (cs : List Call)
    → answers on_table cs s ≡ answers (on_map n) cs map
as_map {n} {s} {map} a cs = alike_answers on_table (on_map n) (Agree n) turns cs s map a

-- ---- a table, by its rows

is_table_lem : (n : ℕ) (list : List ℤ) → n ≤ 6 → IsTable n list ↔ (first_of table_order (table_rows n list) ≡ 0)
is_table_lem n list l = (
  λ is. (none_so table_order (table_rows n list) tt).1 ((list_good n list).1 (is.long, is.good)),
  λ e. let g = (list_good n list).0 ((none_so table_order (table_rows n list) tt).0 e) in
      record { degree = l; long = g.0; good = g.1 },
)

is_shared_lem : (n : ℕ) (s : Shared) → n ≤ 6
    → IsShared n s ↔ (first_of desk_order (table_rows n s.readings ++ owner_list_rows n s.owners) ≡ 0)
is_shared_lem n s l =
    let rows = table_rows n s.readings in
    let both = none_after table_order desk_order rows (owner_list_rows n s.owners) tt tt in (
      λ is. both.1 ((is_table_lem n s.readings l).0 is.table, (owners_good n s.owners).1 (is.long, is.good)),
      λ e. let z = both.0 e in
          let g = (owners_good n s.owners).0 z.1 in
          record { table = (is_table_lem n s.readings l).1 z.0; long = g.0; good = g.1 },
    )

pub simple_map : SimpleMap
simple_map = record {
  asked = λ d n t s r p.
      ap (λ x. (got x, s))
      (sym (known_settled (refuse_get n t s.readings) (found t s.readings) (refused_get s.readings) r p));
  deed = λ e d n t s r new p.
      ap doing (sym (known_settled (refuse_deed e d n t s) (carried_out e d t s) (refused_deed s) (r, new) p));
  is_table = is_table_lem;
  is_shared = is_shared_lem;
  opened = λ n s is cs. as_map (record { is = is; same = λ u c. refl }) cs;
  begun = begun;
  from_empty = λ n l cs. as_map (record {
    is = begun n l;
    same = λ u c. λ i. held (get_or-replicate (places n) (place_of u) nobody nobody (place_below c) i)
        (said (get_or-replicate (places n) (place_of u) none none (place_below c) i));
  }) cs;
}
