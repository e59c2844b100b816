-- The refusals of the calls that write, test by test, and what an answered one knows. Assumes nothing.
use mathlib.Core.Path.{◌≡◌, ◌∙◌, refl, sym}
use mathlib.Core.Logic.{◌↔◌}
use mathlib.Core.Bool.{Bool, true, false, not, cond}
use mathlib.Core.List.{List, ◌++◌}
use Prim.Native.Nat.{ℕ, ◌<◌}
use borrow.Author.Tests.{eq-eqb, ne_eqb, eqb-true, not-false}
use lib.Dec.{eqb}
use lib.ListN.{length}
use Rattle.frame.specs.Refusals.{first_of}
use Rattle.frame.proofs.Refusing.{here, next, nothing, given_so, refuse_first, refuse_before, refuse_rest}
use Rattle.frame.proofs.Refusing.{NoneSo, none_so, none_after, either_none, either_right, either_false}
use Rattle.words.specs.Counting.{place_of}
use Rattle.words.specs.declared.TriangleCode.{TriangleCode}
use Rattle.words.proofs.CodeCount.{place_below}
use Rattle.tables.specs.Tables.{places, any_bad}
use Rattle.tables.specs.Owners.{nobody, is_desk, any_other, owner_at, Shared, IsShared, is_taking}
use Rattle.tables.specs.Refusals.{table_order, out_of_range, call_rows, refuse_call}
use Rattle.tables.specs.Refusals.{desk_order, desk_rows, owner_list_rows, owner_rows, shared_rows}
use Rattle.tables.specs.Refusals.{deed_rows, refuse_deed}
use Rattle.tables.specs.declared.Deed.{Deed}
use Rattle.tables.proofs.Refused.{Passed, call_passed}

-- ---- of the triangle's owner

module _ (e : Deed) (d o : ℕ) where
  pub free_taken : o ≡ nobody → is_taking e ≡ true → 0 ≡ first_of desk_order (owner_rows e d o)
  free_taken z k =
      refuse_first desk_order (owner_rows e d o) tt
      (next (rw (eq-eqb o nobody z)) (next (rw (eq-eqb o nobody z, k)) nothing))

  pub free_not_taken : o ≡ nobody → is_taking e ≡ false → 27 ≡ first_of desk_order (owner_rows e d o)
  free_not_taken z k =
      refuse_first desk_order (owner_rows e d o) tt (next (rw (eq-eqb o nobody z)) (here (rw (eq-eqb o nobody z, k))))

  pub free_refused : o ≡ nobody → cond (is_taking e) 0 27 ≡ first_of desk_order (owner_rows e d o)
  free_refused z = go (is_taking e) refl
    where
      go : (b : Bool) → is_taking e ≡ b → cond b 0 27 ≡ first_of desk_order (owner_rows e d o)
      go true k = free_taken z k
      go false k = free_not_taken z k

  module _ (some : o ≡ nobody → ⊥) where
    pub other's : (o ≡ d → ⊥) → 26 ≡ first_of desk_order (owner_rows e d o)
    other's q = refuse_first desk_order (owner_rows e d o) tt (here (rw (ne_eqb o nobody some, ne_eqb o d q)))

    pub one's_own : o ≡ d → 0 ≡ first_of desk_order (owner_rows e d o)
    one's_own q =
        refuse_first desk_order (owner_rows e d o) tt
        (next (rw (ne_eqb o nobody some, eq-eqb o d q)) (next (rw (ne_eqb o nobody some)) nothing))

-- ---- of the desk and the list of owners

-- where it is not 25, the list is as long as it must be and holds owners alone
pub owners_good : (n : ℕ) (owners : List ℕ)
    → NoneSo (owner_list_rows n owners) ↔ ((length owners ≡ places n) × (any_other owners ≡ false))
owners_good n owners = (
  λ z. let k = (either_false (not (eqb (length owners) (places n))) (any_other owners)).0 z.0 in
      (eqb-true _ _ (not-false _ k.0), k.1),
  λ g. (rw (eq-eqb (length owners) (places n) g.0, g.1) refl, tt),
)

module _ (e : Deed) (d n : ℕ) (t : TriangleCode) (owners : List ℕ) where
  pub not_a_desk : is_desk d ≡ false → 24 ≡ first_of desk_order (shared_rows e d n t owners)
  not_a_desk b = refuse_first desk_order (shared_rows e d n t owners) tt (here (rw b))

  module _ (b : is_desk d ≡ true) where
    pub owners_length : (length owners ≡ places n → ⊥) → 25 ≡ first_of desk_order (shared_rows e d n t owners)
    owners_length k =
        refuse_first desk_order (shared_rows e d n t owners) tt
        (next (rw b) (here (rw (ne_eqb (length owners) (places n) k))))

    pub owners_other : any_other owners ≡ true → 25 ≡ first_of desk_order (shared_rows e d n t owners)
    owners_other k =
        refuse_first desk_order (shared_rows e d n t owners) tt
        (next (rw b) (here (either_right (not (eqb (length owners) (places n))) (any_other owners) k)))

    pub owners_then : length owners ≡ places n → any_other owners ≡ false
        → first_of desk_order (owner_rows e d (owner_at t owners)) ≡ first_of desk_order (shared_rows e d n t owners)
    owners_then l k =
        refuse_rest desk_order desk_order desk_order (desk_rows d ++ owner_list_rows n owners)
        (owner_rows e d (owner_at t owners)) tt tt tt
        ((none_so desk_order (desk_rows d ++ owner_list_rows n owners) tt).1 (rw b, (owners_good n owners).1 (l, k)))

-- ---- a call's

-- What an answered call that writes knows.
pub record Owned (e : Deed) (d n : ℕ) (t : TriangleCode) (s : Shared) : Type 0 where
  pub passed : Passed n t s.readings
  pub in_range : out_of_range e ≡ false
  pub desk : is_desk d ≡ true
  pub is : IsShared n s
  pub in_owners : place_of t < length s.owners
  pub mine : NoneSo (owner_rows e d (owner_at t s.owners))

module _ (e : Deed) (d n : ℕ) (t : TriangleCode) (s : Shared) where
  pub deed_first : {f : ℕ} → f ≡ refuse_call (out_of_range e) n t s.readings → (f ≡ 0 → ⊥)
      → f ≡ refuse_deed e d n t s
  unfolding refuse_call refuse_deed
  deed_first =
      refuse_before table_order desk_order (call_rows (out_of_range e) n t s.readings)
      (shared_rows e d n t s.owners) tt tt

  pub deed_then : refuse_call (out_of_range e) n t s.readings ≡ 0
      → first_of desk_order (shared_rows e d n t s.owners) ≡ refuse_deed e d n t s
  unfolding refuse_call refuse_deed
  deed_then =
      refuse_rest table_order desk_order desk_order (call_rows (out_of_range e) n t s.readings)
      (shared_rows e d n t s.owners) tt tt tt

  pub deed_passed : refuse_deed e d n t s ≡ 0 → Owned e d n t s
  unfolding refuse_call refuse_deed
  deed_passed q =
      let rows = call_rows (out_of_range e) n t s.readings in
      let z = (none_after table_order desk_order rows (shared_rows e d n t s.owners) tt tt).0 q in
      let c = call_passed n t s.readings (out_of_range e) z.0 in
      let k = (owners_good n s.owners).0 (z.1.1.0, tt) in
      record {
        passed = c.0;
        in_range = c.1;
        desk = not-false _ z.1.0;
        is = record {
          table = record { degree = c.0.degree; long = c.0.long; good = c.0.good };
          long = k.0;
          good = k.1;
        };
        in_owners = rw k.0 (place_below c.0.code);
        mine = z.1.1.1;
      }

  -- 23 is given where the list of readings holds a bad number
  pub deed_bad : refuse_deed e d n t s ≡ 23 → any_bad s.readings ≡ true
  unfolding refuse_deed
  deed_bad q =
      sym (either_none (any_bad s.readings))
      ∙ given_so desk_order (deed_rows e d n t s) 22 q
