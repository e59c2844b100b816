-- Who may do what with a triangle, and what an answered call leaves. Assumes nothing.
use mathlib.Core.Path.{◌≡◌, ◌∙◌, refl, sym, ap}
use mathlib.Core.Bool.{Bool, true, false, not, ◌&&◌}
use mathlib.Core.Logic.{◌⊎◌, inl, inr, ⊎_elim}
use mathlib.Core.List.{List, ◌∷◌}
use Prim.Native.Nat.{ℕ, ◌≤◌}
use native.Mathlib.Omega.{arith}
use borrow.Author.Tests.{ne_eqb, eqb-true, not-false}
use lib.Dec.{eqb}
use lib.IntN.{ℤ}
use lib.ListN.{set}
use lib.Seq.{get_or-set_same, set-get_or}
use Rattle.frame.specs.Refusals.{◌when◌, first_of}
use Rattle.frame.proofs.Answering.{answers_or_not}
use Rattle.frame.proofs.Refusing.{none_after}
use Rattle.words.specs.Counting.{place_of}
use Rattle.words.specs.declared.TriangleCode.{TriangleCode}
use Rattle.tables.specs.Tables.{none, said, number, number_at}
use Rattle.tables.specs.Owners.{nobody, owner_at, Shared, shared, held_at, is_taking}
use Rattle.tables.specs.Owners.{owner_after, sounding_after, shared_after}
use Rattle.tables.specs.Refusals.{table_order, triangle_rows, out_of_range, table_rows, refuse_call}
use Rattle.tables.specs.Refusals.{desk_order, owner_rows, refuse_deed}
use Rattle.tables.specs.Answers.{DeedAnswer}
use Rattle.tables.specs.Promises.{Admitted, Owning}
use Rattle.tables.specs.declared.Deed.{Deed}
use Rattle.tables.specs.declared.Deed.TheVariants.{Taking, Setting, Clearing, Giving}
use Rattle.tables.specs.Answers.{TableAnswer}
use Rattle.tables.proofs.Numbers.{number_said, desk_not_nobody}
use Rattle.tables.proofs.Refused.{in_table, list_good}
use Rattle.tables.proofs.Deeds.{free_taken, free_not_taken, other's, one's_own, owners_then}
use Rattle.tables.proofs.Deeds.{deed_then, deed_passed}
use Rattle.tables.proofs.Holding.{after_at}

-- ---- who may

-- a call that is admitted is refused as the triangle's owner has it
by_owner : (e : Deed) (d n : ℕ) (t : TriangleCode) (s : Shared) → Admitted e d n t s
    → first_of desk_order (owner_rows e d (owner_at t s.owners)) ≡ refuse_deed e d n t s
unfolding refuse_call
by_owner e d n t s a =
    let is = a.lists.table in
    let small : n ≤ 6 = is.degree in
    let rows = 21 when out_of_range e ∷ table_rows n s.readings in
    let z : refuse_call (out_of_range e) n t s.readings ≡ 0 =
    (none_after table_order table_order (triangle_rows n t) rows tt tt).1 (
      sym (in_table n t (omega (arith, small)) a.code.passes small a.code.degree_is),
      (a.in_range, (list_good n s.readings).1 (is.long, is.good)),
    ) in
    owners_then e d n t s.owners a.desk a.lists.long a.lists.good ∙ deed_then e d n t s z

module _ (e : Deed) (d o : ℕ) where
  -- what the two rows of the owner leave
  own_or_free : (not (eqb o nobody) && not (eqb o d)) ≡ false → (eqb o nobody && not (is_taking e)) ≡ false
      → (o ≡ d) ⊎ ((is_taking e ≡ true) × (o ≡ nobody))
  own_or_free = go (eqb o nobody) refl
    where
      go : (b : Bool) → eqb o nobody ≡ b → (not b && not (eqb o d)) ≡ false
          → (b && not (is_taking e)) ≡ false → (o ≡ d) ⊎ ((is_taking e ≡ true) × (o ≡ nobody))
      go true b p q = inr (not-false (is_taking e) q, eqb-true o nobody b)
      go false b p q = inl (eqb-true o d (not-false (eqb o d) p))

-- ---- what is left

-- an answered call's lists, and the owner and the reading at its own place
module _ (e : Deed) (d n : ℕ) (t : TriangleCode) (s : Shared) (r : TableAnswer) (new : Shared)
    (p : DeedAnswer e d n t s r new) where
  written : refuse_deed e d n t s ≡ 0 → new ≡ shared_after e d t s
  written z = ap (λ (x : TableAnswer × Shared). x.1) (p.answered z)

  unchanged : (refuse_deed e d n t s ≡ 0 → ⊥) → new ≡ s
  unchanged some = ap (λ (x : TableAnswer × Shared). x.1) (p.refused some)

  -- what holds of the lists as they came and as they are written
  either_way : (P : Shared → Type 0) → P s → (refuse_deed e d n t s ≡ 0 → P (shared_after e d t s)) → P new
  either_way P old new =
      ⊎_elim (λ z. rw (written z) (new z)) (λ some. rw (unchanged some) old) (answers_or_not (refuse_deed e d n t s))

  answered : r.refusal ≡ 0 → refuse_deed e d n t s ≡ 0
  answered z =
      ⊎_elim (λ k. k) (λ some. sym (ap (λ (x : TableAnswer × Shared). x.0.refusal) (p.refused some)) ∙ z)
      (answers_or_not (refuse_deed e d n t s))

same_readings : (t : TriangleCode) (list : List ℤ) → set list (place_of t) (number (said (number_at t list))) ≡ list
same_readings t list =
    ap (λ (x : ℤ). set list (place_of t) x) (number_said (number_at t list)) ∙ set-get_or list (place_of t) none

same_owners : (t : TriangleCode) (owners : List ℕ) → set owners (place_of t) (owner_at t owners) ≡ owners
same_owners t owners = set-get_or owners (place_of t) nobody

took_own : (d : ℕ) (t : TriangleCode) (s : Shared) → owner_at t s.owners ≡ d → shared_after Taking d t s ≡ s
took_own d t s q =
    let k : set s.owners (place_of t) d ≡ s.owners =
    ap (λ (o : ℕ). set s.owners (place_of t) o) (sym q) ∙ same_owners t s.owners in
    λ i. shared (same_readings t s.readings i) (k i)

-- what stands at the triangle's place after an answered call
module _ (e : Deed) (d n : ℕ) (t : TriangleCode) (s : Shared) (z : refuse_deed e d n t s ≡ 0) where
  pub owner_there : owner_at t (shared_after e d t s).owners ≡ owner_after e d (owner_at t s.owners)
  owner_there = get_or-set_same s.owners (place_of t) _ nobody (deed_passed e d n t s z).in_owners

  number_there : number_at t (shared_after e d t s).readings
      ≡ number (sounding_after e (said (number_at t s.readings)))
  number_there = get_or-set_same s.readings (place_of t) _ none (deed_passed e d n t s z).passed.in_list

pub owning : Owning
owning = record {
  takes_free = λ d n t s a z. sym (free_taken Taking d (owner_at t s.owners) z refl ∙ by_owner Taking d n t s a);
  own = λ e d n t s a q.
      sym (one's_own e d (owner_at t s.owners) (λ z. desk_not_nobody d a.desk (sym q ∙ z)) q
      ∙ by_owner e d n t s a);
  only_own = λ e d n t s z.
      let k = (deed_passed e d n t s z).mine in own_or_free e d (owner_at t s.owners) k.0 k.1.0;
  another's = λ e d n t s a b q.
      sym (other's e d (owner_at t s.owners) (desk_not_nobody (owner_at t s.owners) b) q ∙ by_owner e d n t s a);
  free = λ e d n t s a z k. sym (free_not_taken e d (owner_at t s.owners) z k ∙ by_owner e d n t s a);
  taking_own = λ d n t s r new p q. either_way Taking d n t s r new p (λ x. x ≡ s) refl (λ z. took_own d t s q);
  taken = λ d n t s r new p z.
      let f = answered Taking d n t s r new p z in
      rw (written Taking d n t s r new p f) (owner_there Taking d n t s f, same_readings t s.readings);
  given_back = λ d n t s r new p z.
      let f = answered Giving d n t s r new p z in
      rw (written Giving d n t s r new p f) (owner_there Giving d n t s f, number_there Giving d n t s f);
  set = λ d n t x s r new p z.
      let f = answered (Setting x) d n t s r new p z in
      rw (written (Setting x) d n t s r new p f) (number_there (Setting x) d n t s f, same_owners t s.owners);
  cleared = λ d n t s r new p z.
      let f = answered Clearing d n t s r new p z in
      rw (written Clearing d n t s r new p f) (number_there Clearing d n t s f, same_owners t s.owners);
  elsewhere = λ e d n t s r new p u c q.
      either_way e d n t s r new p (λ y. held_at u y ≡ held_at u s) refl (λ z.
      let k = deed_passed e d n t s z in
      after_at k.is e d t k.in_range k.desk k.passed.code u c
      ∙ rw (ne_eqb u.0 t.0 (λ w. q (λ i. record { 0 = w i }))) refl);
}
