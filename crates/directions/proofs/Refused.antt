-- The refusals of filing and listing by their tests, and when there is none. Assumes nothing.
use mathlib.Core.Path.{◌≡◌, refl, sym, ◌∙◌}
use mathlib.Core.Bool.{Bool, true, false, ◌&&◌, true≢false}
use mathlib.Core.List.{List, [], ◌∷◌, ◌++◌}
use Prim.Native.Nat.{ℕ, ◌+◌, ◌≤◌, ◌<◌}
use native.Mathlib.Omega.{arith}
use lib.Dec.{ltb}
use lib.IntN.{nat_abs}
use lib.ListN.{length}
use borrow.Author.Tests.{ltb-false, lt-ltb, le-ltb, eqb-true, eq-eqb}
use Rattle.frame.specs.Refusals.{◌either◌, ◌when◌, order}
use Rattle.frame.proofs.Refusing.{in_turn, in_turn_lem, none_so, either_left, either_right, either_false}
use Rattle.frame.proofs.Lengths.{ThenNine, then_nine}
use Rattle.words.specs.Refusals.{degree_rows}
use Rattle.net.proofs.Canonical.{and_true}
use Rattle.filing.specs.Refusals.{outside, zero?, direction_rows}
use Rattle.directions.specs.Refusals.{refuse_file, refuse_list}
use Rattle.filing.specs.Means.Sides.{IsLevel}
use Rattle.filing.specs.declared.Direction.{Direction}

-- ---- the refusal by its three tests

abbrev pub far : Direction → Bool
far d = outside d.x either outside d.y either outside d.z

abbrev pub none : Direction → Bool
none d = zero? d.x && (zero? d.y && zero? d.z)

pub refuse_by : (n : ℕ) (d : Direction) {a b c : Bool} → ltb 24 n ≡ a → far d ≡ b → none d ≡ c
    → in_turn (1 when a ∷ 8 when b ∷ 7 when c ∷ []) ≡ refuse_file n d
unfolding refuse_file
refuse_by n d p q r = sym (in_turn_lem order (degree_rows n ++ direction_rows d) tt
    ∙ (λ i. in_turn (1 when p i ∷ 8 when q i ∷ 7 when r i ∷ [])))

-- a small number: 0, 1, 8 or 7
pub refuse_small : (n : ℕ) (d : Direction) → refuse_file n d < 12
refuse_small n d = rw (sym (refuse_by n d refl refl refl)) (go (ltb 24 n) (far d) (none d))
  where
    go : (a b c : Bool) → in_turn (1 when a ∷ 8 when b ∷ 7 when c ∷ []) < 12
    go true b c = omega arith
    go false true c = omega arith
    go false false true = omega arith
    go false false false = omega arith

module _ (d : Direction) where
  pub far_x : 1000000000 < nat_abs d.x → far d ≡ true
  far_x l = either_left _ _ (lt-ltb _ _ l)

  pub far_y : 1000000000 < nat_abs d.y → far d ≡ true
  far_y l = either_right (outside d.x) _ (either_left _ _ (lt-ltb _ _ l))

  pub far_z : 1000000000 < nat_abs d.z → far d ≡ true
  far_z l = either_right (outside d.x) _ (either_right (outside d.y) _ (lt-ltb _ _ l))

  pub not_far : nat_abs d.x ≤ 1000000000 → nat_abs d.y ≤ 1000000000 → nat_abs d.z ≤ 1000000000
      → far d ≡ false
  not_far k l m = rw (le-ltb _ _ k, le-ltb _ _ l, le-ltb _ _ m) refl

  pub is_none : nat_abs d.x + nat_abs d.y + nat_abs d.z ≡ 0 → none d ≡ true
  is_none e = rw (
    eq-eqb _ _ (let p : nat_abs d.x ≡ 0 = omega arith in p),
    eq-eqb _ _ (let p : nat_abs d.y ≡ 0 = omega arith in p),
    eq-eqb _ _ (let p : nat_abs d.z ≡ 0 = omega arith in p),
  ) refl

  pub not_none : (nat_abs d.x + nat_abs d.y + nat_abs d.z ≡ 0 → ⊥) → none d ≡ false
  not_none f = go (none d) refl
    where
      go : (b : Bool) → none d ≡ b → b ≡ false
      go false e = refl
      go true e =
          let p = (and_true _ _).0 e in
          let q = (and_true _ _).0 p.1 in
          absurd (f (omega (
            arith,
            eqb-true (nat_abs d.x) 0 p.0,
            eqb-true (nat_abs d.y) 0 q.0,
            eqb-true (nat_abs d.z) 0 q.1,
          )))

-- ---- when nothing is refused

pub record Allowed (n : ℕ) (d : Direction) : Type 0 where
  pub low : n ≤ 24
  pub level : IsLevel d
  pub some : nat_abs d.x + nat_abs d.y + nat_abs d.z ≡ 0 → ⊥

pub allowed : (n : ℕ) (d : Direction) → refuse_file n d ≡ 0 → Allowed n d
unfolding refuse_file
allowed n d e =
    let x = (none_so order (degree_rows n ++ direction_rows d) tt).0 e in
    let y = (either_false _ _).0 x.1.0 in
    let z = (either_false _ _).0 y.1 in
    record {
      low = ltb-false 24 n x.0;
      level = record { x_level = ltb-false _ _ y.0; y_level = ltb-false _ _ z.0; z_level = ltb-false _ _ z.1 };
      some = λ f. true≢false (sym (is_none d f) ∙ x.1.1.0);
    }

-- a list that is too short
pub list_then : (n : ℕ) (d : Direction) (out : List ℕ)
    → ThenNine (refuse_file n d) (refuse_list n d out) 6 (length out)
unfolding refuse_list refuse_file
list_then n d out = then_nine order order (degree_rows n ++ direction_rows d) 6 out tt tt
