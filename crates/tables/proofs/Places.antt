-- A triangle's place in the list. Assumes nothing.
use mathlib.Core.Path.{◌≡◌, ◌∙◌, refl, sym, ap}
use mathlib.Core.Bool.{Bool, true, false, cond}
use mathlib.Core.List.{List}
use Prim.Native.Nat.{ℕ, suc, ◌^◌, ◌≤◌, ◌<◌}
use native.Mathlib.Nat.{pow-le-pow_right, pow-suc}
use native.Mathlib.Omega.{arith}
use borrow.Author.Tests.{eq-eqb, ne_eqb, ltb-true, ltb-false, eqb-true, eqb-false}
use lib.Dec.{ltb, eqb}
use lib.ListN.{length, get_or, set}
use lib.Seq.{get_or-set_same, get_or-set_other}
use Rattle.words.specs.Refusals.{IsCode}
use Rattle.words.specs.Counting.{place_of}
use Rattle.words.specs.declared.TriangleCode.{TriangleCode}
use Rattle.words.proofs.CodeCount.{four_pos, place_below, at_place, one_place, code_at_lem, place_at, places_rise}
use Rattle.tables.specs.Tables.{places}
use Rattle.tables.specs.Promises.{Ordered}

pub ordered : Ordered
ordered = record {
  inside = λ n t c. place_below c;
  place = λ n t c. at_place c;
  code = λ n i h l. (code_at_lem n i h l, place_at n i h);
  rising = λ n t u c d. places_rise c d;
}

-- what stands at any code's place when one has been written
pub at_set : {A : Type 0} {n : ℕ} {t : TriangleCode} (list : List A) (x d : A) → length list ≡ places n → IsCode n t
    → (u : TriangleCode) → IsCode n u
    → get_or (set list (place_of t) x) (place_of u) d ≡ cond (eqb u.0 t.0) x (get_or list (place_of u) d)
at_set {A} {n} {t} list x d l c u cu = go (eqb u.0 t.0) refl
  where
    go : (b : Bool) → eqb u.0 t.0 ≡ b
        → get_or (set list (place_of t) x) (place_of u) d ≡ cond (eqb u.0 t.0) x (get_or list (place_of u) d)
    go true b =
        let q : u.0 ≡ t.0 = eqb-true u.0 t.0 b in
        let e : u ≡ t = λ i. record { 0 = q i } in
        rw b (ap (λ (v : TriangleCode). get_or (set list (place_of t) x) (place_of v) d) e
        ∙ get_or-set_same list (place_of t) x d (rw l (place_below c)))
    go false b =
        rw b (get_or-set_other list (place_of t) (place_of u) x d (λ e. eqb-false u.0 t.0 b (one_place c cu e)))

-- lists of two degrees have different lengths
places_rise_too : (m n : ℕ) → m < n → places m ≡ places n → ⊥
places_rise_too m n l e =
    let h : 4 ^ suc m ≤ 4 ^ n = pow-le-pow_right (omega arith) l in omega (arith, h, e, pow-suc 4 m, four_pos m)

pub same_places : (m n : ℕ) → eqb (places n) (places m) ≡ eqb m n
same_places m n = go (ltb m n) (ltb n m) refl refl
  where
    go : (a b : Bool) → ltb m n ≡ a → ltb n m ≡ b → eqb (places n) (places m) ≡ eqb m n
    go true b e f =
        let l = ltb-true m n e in
        ne_eqb (places n) (places m) (λ q. places_rise_too m n l (sym q))
        ∙ sym (ne_eqb m n (λ q. omega (arith, l, q)))
    go false true e f =
        let l = ltb-true n m f in
        ne_eqb (places n) (places m) (places_rise_too n m l) ∙ sym (ne_eqb m n (λ q. omega (arith, l, q)))
    go false false e f =
        let q : m ≡ n = omega (arith, ltb-false m n e, ltb-false n m f) in
        eq-eqb (places n) (places m) (ap places (sym q)) ∙ sym (eq-eqb m n q)

-- no table has more than that of degree 6
pub places_most : (n : ℕ) → n ≤ 6 → places n ≤ 81920
places_most n l = let h : 4 ^ n ≤ 4 ^ 6 = pow-le-pow_right (omega arith) l in omega (arith, h)
