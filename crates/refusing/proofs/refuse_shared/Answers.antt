-- The desk, the list of owners, the triangle's owner (tables' Deeds, OwnerLists). Assumes nothing.
use mathlib.Core.Path.{sym, ◌∙◌, ap}
use native.Mathlib.Omega.{arith}
use Prim.Native.Nat.{ℕ, ◌<◌}
use lib.ListN.{length, get_or}
use Rattle.frame.specs.Refusals.{first_of}
use Rattle.frame.proofs.Told.{number_some, told_handed}
use Rattle.words.specs.Counting.{place_of}
use Rattle.words.proofs.CodeCount.{place_below}
use Rattle.tables.specs.Owners.{nobody}
use Rattle.tables.specs.Refusals.{desk_order, owner_rows}
use Rattle.tables.proofs.Deeds.{not_a_desk, owners_then}
use Rattle.refusing.proofs.OwnerLists.{owners_passed, owners_first}
use Rattle.refusing.proofs.refuse_shared.Goals as goal

pub returns-then-not-is_desk : goal.returns-then-not-is_desk
returns-then-not-is_desk c =
    let a = c.args in
    not_a_desk a.deed a.desk a.degree a.t a.owners.now
    (sym c.is_desk.ensures ∙ c.if-not-is_desk.true)

pub returns-in_err-refuse_owners : goal.returns-in_err-refuse_owners
returns-in_err-refuse_owners c =
    let a = c.args in
    told_handed _ _ c.from_residual.ensures
    (owners_first a.deed a.desk a.degree a.t a.owners.now (sym c.is_desk.ensures ∙ c.if-not-is_desk.false)
    c.in_err-refuse_owners.ensures (number_some _))

pub bounds-owners-i : goal.bounds-owners-i
bounds-owners-i c =
    let k = owners_passed _ _ (sym c.in_ok-refuse_owners.ensures) in
    let l : place_of c.args.t < length c.args.owners.now = rw k.0 (place_below c.requires.1) in
    omega (arith, l, c.place_of-i.ensures)

-- an owner is at most 2
pub returns : goal.returns
returns c =
    let a = c.args in
    let owners = a.owners.now in
    let k = owners_passed _ _ (sym c.in_ok-refuse_owners.ensures) in
    c.refuse_owner.ensures
    ∙ ap (λ (i : ℕ). first_of desk_order (owner_rows a.deed a.desk (get_or owners i nobody)))
    c.place_of-i.ensures
    ∙ owners_then a.deed a.desk a.degree a.t owners (sym c.is_desk.ensures ∙ c.if-not-is_desk.false) k.0 k.1
