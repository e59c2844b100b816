-- Refusal 25 test by test, of the list of owners by itself and before the triangle's owner. Assumes nothing.
use mathlib.Core.Path.{◌≡◌, ◌∙◌, sym}
use mathlib.Core.Bool.{true, false, not}
use mathlib.Core.List.{List, ◌++◌}
use Prim.Native.Nat.{ℕ}
use borrow.Author.Tests.{ne_eqb}
use lib.Dec.{eqb}
use lib.ListN.{length}
use Rattle.frame.specs.Refusals.{first_of}
use Rattle.frame.proofs.Refusing.{here, refuse_first, refuse_before, refuse_rest, none_so, either_right}
use Rattle.words.specs.declared.TriangleCode.{TriangleCode}
use Rattle.tables.specs.Tables.{places}
use Rattle.tables.specs.Owners.{is_desk, any_other, owner_at}
use Rattle.tables.specs.Refusals.{desk_order, desk_rows, owner_list_rows, owner_rows, shared_rows}
use Rattle.tables.specs.declared.Deed.{Deed}
use Rattle.tables.proofs.Deeds.{owners_good}

module _ (n : ℕ) (owners : List ℕ) where
  pub wrong_length : (length owners ≡ places n → ⊥) → 25 ≡ first_of desk_order (owner_list_rows n owners)
  wrong_length k =
      refuse_first desk_order (owner_list_rows n owners) tt (here (rw (ne_eqb (length owners) (places n) k)))

  pub other_number : any_other owners ≡ true → 25 ≡ first_of desk_order (owner_list_rows n owners)
  other_number k =
      refuse_first desk_order (owner_list_rows n owners) tt
      (here (either_right (not (eqb (length owners) (places n))) (any_other owners) k))

  pub all_owners : length owners ≡ places n → any_other owners ≡ false
      → 0 ≡ first_of desk_order (owner_list_rows n owners)
  all_owners l k = sym ((none_so desk_order (owner_list_rows n owners) tt).1 ((owners_good n owners).1 (l, k)))

  -- where it is not 25, the list is as long as it must be and holds owners alone
  pub owners_passed : first_of desk_order (owner_list_rows n owners) ≡ 0
      → (length owners ≡ places n) × (any_other owners ≡ false)
  owners_passed z = (owners_good n owners).0 ((none_so desk_order (owner_list_rows n owners) tt).0 z)

-- a desk's call is refused so before the triangle's owner is looked at
pub owners_first : (e : Deed) (d n : ℕ) (t : TriangleCode) (owners : List ℕ) {f : ℕ} → is_desk d ≡ true
    → f ≡ first_of desk_order (owner_list_rows n owners) → (f ≡ 0 → ⊥)
    → f ≡ first_of desk_order (shared_rows e d n t owners)
owners_first e d n t owners b q some =
    let others = owner_rows e d (owner_at t owners) in
    refuse_before desk_order desk_order (owner_list_rows n owners) others tt tt q some
    ∙ refuse_rest desk_order desk_order desk_order (desk_rows d) (owner_list_rows n owners ++ others) tt tt tt
    ((none_so desk_order (desk_rows d) tt).1 (rw b, tt))
