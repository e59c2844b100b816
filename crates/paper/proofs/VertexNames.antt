-- A vertex's code, read: what `vertex_name` and `from_vertex` answer. Assumes nothing.
use mathlib.Core.Path.{◌≡◌, ◌∙◌, refl, sym, ap, subst}
use mathlib.Core.Bool.{true, false, ◌&&◌}
use mathlib.Core.List.{List, [], ◌∷◌, reverse, reverse-reverse, reverse_aux}
use Prim.Native.Nat.{ℕ, zero, suc, ◌+◌, ◌*◌, ◌-◌, ◌/◌, ◌%◌, ◌^◌, ◌≤◌, ◌<◌}
use native.Mathlib.Omega.{arith}
use lib.Dec.{eqb, leb}
use lib.ListN.{get_or, length}
use lib.Seq.{drop-cons}
use borrow.Author.Tests.{eqb-true, le-leb, leb-true}
use Rattle.frame.proofs.Answering.{answering}
use Rattle.words.specs.Words.{path}
use Rattle.words.proofs.Digits.{AreDigits, none, path_lt}
use Rattle.net.specs.Division.{Weights, corner_of}
use Rattle.net.specs.Means.Paths.{digits_of}
use Rattle.net.proofs.Canonical.{and_true, name_passes_all, not_so}
use Rattle.net.proofs.Paths.{digits_of_lem, four, of_length, of_path, path_of}
use Rattle.corners.specs.Answers.{Named, no_name}
use Rattle.corners.specs.Answers.{NameAnswer}
use Rattle.notation.specs.Domains.{are_digits, is_a, is_bit}
use Rattle.notation.specs.Vertices.{are_zeros, is_vertex}
use Rattle.notation.specs.Same.{SameVertex}
use Rattle.notation.specs.Means.Directions.{parts, turned_parts}
use Rattle.notation.specs.Means.Reading.{taken}
use Rattle.std.specs.Prelude.{Some}
use Rattle.notation.specs.declared.Turned.{Turned}
use Rattle.notation.proofs.Domains.{reverse_digits}
use Rattle.notation.proofs.Directions.{parts_digits, side_turn_low}
use Rattle.notation.proofs.Pairs.{side_by}
use Rattle.notation.proofs.Reading.{reverse_long}
use Rattle.notation.proofs.Spelling.{zero_digits}
use Rattle.notation.proofs.Vertices.{Spelt, ones, ones_digits, pole_spread, pole_side}
use Rattle.notation.proofs.Vertices.{spelt_parts, spelt_pole, spelt_same}
use Rattle.paper.specs.Answers.{FromVertexAnswer}
use Rattle.paper.specs.Refusals.{refuse_from_vertex}
use Rattle.paper.proofs.FromPaper.{PaperRefusal, digits_right, paper_refusal, path_is, refused_wrong}
use Rattle.paper.proofs.FromPaper.{rest, rest_drop, rest_long}

pub vertex_refusal : (xs : List ℕ) → PaperRefusal 26 (length xs) (is_vertex xs) (refuse_from_vertex xs)
unfolding refuse_from_vertex
vertex_refusal xs = paper_refusal 26 (length xs) (is_vertex xs)

spelt_answers : {n : ℕ} {xs : List ℕ} {P : Weights} {r : NameAnswer} → n ≤ 24 → Spelt n xs P → Named n P r
    → FromVertexAnswer xs r
spelt_answers {n} {xs} {r = r} h x y =
    let d = (name_passes_all y.is).1 in
    answering ((vertex_refusal xs).passes.1 (omega (arith, x.degree), x.allowed))
    (record {
      number = y.number;
      same = subst (λ (m : ℕ). SameVertex m xs r.name) (sym d) (spelt_same x y.is);
    })

-- ---- poles

rest_zero : (ds es : List ℕ) → are_zeros (reverse_aux ds es) ≡ true → are_zeros es ≡ true
rest_zero [] es h = h
rest_zero (d ∷ ds) es h = ((and_true (eqb d 0) (are_zeros es)).0 (rest_zero ds (d ∷ es) h)).1

zero_path : (ds es : List ℕ) → are_zeros (reverse_aux ds es) ≡ true → path ds ≡ 0
unfolding path
zero_path [] es h = refl
zero_path (d ∷ ds) es h =
    let e = eqb-true d 0 ((and_true (eqb d 0) (are_zeros es)).0 (rest_zero ds (d ∷ es) h)).0 in
    omega (arith, e, zero_path ds (d ∷ es) h)

ones_path : (n : ℕ) → 3 * path (ones n) + 1 ≡ 2 ^ (2 * n)
unfolding path
ones_path zero = refl
ones_path (suc n) = omega (arith, ones_path n, four n)

module _ (p n v : ℕ) (hp : p ≤ 1) (hn : n ≤ 24) where
  abbrev ss : List ℕ
  ss = reverse (digits_of n v)

  long : length ss ≡ n
  long = reverse_long (digits_of n v) ∙ of_length n v

  pub not_pole : {r : NameAnswer} → v < 2 ^ (2 * n) → (v ≡ 0 → ⊥) → r ≡ no_name 33 → FromVertexAnswer (0 ∷ p ∷ ss) r
  not_pole small some =
      refused_wrong (vertex_refusal (0 ∷ p ∷ ss)) (omega (arith, long))
      (not_so (is_vertex (0 ∷ p ∷ ss)) (λ e.
      some (sym (path_of n v small) ∙ zero_path (digits_of n v) [] ((and_true (is_bit p) (are_zeros ss)).0 e).1)))

  pub a_pole : {x : ℕ} {r : NameAnswer} → v ≡ 0 → x ≡ 2 ^ (2 * n)
      → Named n (corner_of (pole_side p) (digits_of n ((x - 1) / 3)) 1) r → FromVertexAnswer (0 ∷ p ∷ ss) r
  a_pole {x} {r} z e y =
      let o : (x - 1) / 3 ≡ path (ones n) = omega (arith, e, ones_path n) in
      let P = corner_of (pole_side p) (ones n) 1 in
      let f : corner_of (pole_side p) (digits_of n ((x - 1) / 3)) 1 ≡ P =
      ap (λ (y : ℕ). corner_of (pole_side p) (digits_of n y) 1) o
      ∙ ap (λ (ds : List ℕ). corner_of (pole_side p) ds 1) (of_path (ones_digits n)) in
      let zeros : are_zeros ss ≡ true = ap (λ (v : ℕ). are_zeros (reverse (digits_of n v))) z ∙ zero_digits n [] refl in
      let s = subst (λ (m : ℕ). Spelt m (0 ∷ p ∷ ss) (corner_of (pole_side p) (ones m) 1)) long
      (subst (Spelt (length ss) (0 ∷ p ∷ ss)) (sym (pole_spread p (length ss))) (spelt_pole p ss hp zeros)) in
      spelt_answers hn s (subst (λ (w : Weights). Named n w r) f y)

-- ---- the others

module _ (a p n v : ℕ) {d : Turned} (e : d ≡ turned_parts 0 (digits_of n v)) where
  abbrev ts : List ℕ
  ts = digits_of n v

  pub low : d.orientation ≤ 1
  low = rw e (side_turn_low (parts 0 ts) 0 (omega arith))

  pub small : d.path < 2 ^ (2 * n)
  small = rw e (path_lt (parts_digits 0 ts (digits_of_lem n v)))

  pub a_ring : {r : NameAnswer} → 1 ≤ a → a ≤ 5 → p ≤ 1 → n ≤ 24
      → Named n (corner_of (4 * a + 2 * p + (p + d.orientation) % 2) (digits_of n d.path) 2) r
      → FromVertexAnswer (a ∷ p ∷ reverse ts) r
  a_ring {r} la ha hp hn y =
      let f : corner_of (4 * a + 2 * p + (p + d.orientation) % 2) (digits_of n d.path) 2
      ≡ corner_of (side_by a p 0 ts) (parts 0 ts) 2 =
      ap (λ (d : Turned). corner_of (4 * a + 2 * p + (p + d.orientation) % 2) (digits_of n d.path) 2) e
      ∙ ap (λ (ds : List ℕ). corner_of (side_by a p 0 ts) ds 2) (of_path (parts_digits 0 ts (digits_of_lem n v))) in
      spelt_answers hn (spelt_parts n a p ts la ha hp (digits_of_lem n v)) (subst (λ (w : Weights). Named n w r) f y)

-- ---- a list of places

pub few_places : (xs : List ℕ) → length xs < 2 → is_vertex xs ≡ false
few_places [] l = refl
few_places (a ∷ []) l = refl
few_places (a ∷ p ∷ ss) l = absurd (omega arith)

-- zeros are digits
zeros_digits : (ss : List ℕ) → are_zeros ss ≡ true → are_digits ss ≡ true
zeros_digits [] h = refl
zeros_digits (s ∷ ss) h =
    let x = (and_true (eqb s 0) (are_zeros ss)).0 h in
    (and_true _ _).1 (le-leb s 3 (omega (arith, eqb-true s 0 x.0)), zeros_digits ss x.1)

begun : (a p : ℕ) (ss : List ℕ) → is_vertex (a ∷ p ∷ ss) ≡ true → (a ≤ 5) × (p ≤ 1) × (are_digits ss ≡ true)
begun zero p ss h =
    let x = (and_true (is_bit p) (are_zeros ss)).0 h in
    (omega arith, leb-true p 1 x.0, zeros_digits ss x.1)
begun (suc a) p ss h =
    let x = (and_true (is_a (suc a)) (is_bit p && are_digits ss)).0 h in
    let y = (and_true (is_bit p) (are_digits ss)).0 x.1 in
    (leb-true (suc a) 5 ((and_true (leb 1 (suc a)) (leb (suc a) 5)).0 x.0).1, leb-true p 1 y.0, y.1)

module _ (xs : List ℕ) (two : 2 ≤ length xs) where
  opened : xs ≡ get_or xs 0 0 ∷ get_or xs 1 0 ∷ rest 2 xs
  opened =
      drop-cons xs 0 0 (omega arith)
      ∙ ap (λ (ys : List ℕ). get_or xs 0 0 ∷ ys) (drop-cons xs 1 0 (omega arith))
      ∙ ap (λ (ys : List ℕ). get_or xs 0 0 ∷ get_or xs 1 0 ∷ ys) (sym (rest_drop 2 xs))

  pub not_begun : ((get_or xs 0 0 ≤ 5) × (get_or xs 1 0 ≤ 1) × (are_digits (rest 2 xs) ≡ true) → ⊥) → is_vertex xs ≡ false
  not_begun f =
      not_so (is_vertex xs) (λ e. f (begun (get_or xs 0 0) (get_or xs 1 0) (rest 2 xs) (ap is_vertex (sym opened) ∙ e)))

  -- the list of the digits that were read is the list itself
  pub from_read : {v : ℕ} {r : NameAnswer} → Some v ≡ taken 0 (rest 2 xs)
      → FromVertexAnswer (get_or xs 0 0 ∷ get_or xs 1 0 ∷ reverse (digits_of (length xs - 2) v)) r → FromVertexAnswer xs r
  from_read {v} {r} e =
      let rs = rest 2 xs in
      let l : length rs + 0 ≡ length xs - 2 = omega (arith, rest_long 2 xs) in
      let d = subst (λ (m : ℕ). AreDigits m (reverse rs)) l (reverse_digits rs (digits_right rs e) none) in
      let f : reverse (digits_of (length xs - 2) v) ≡ rs =
      ap (λ (v : ℕ). reverse (digits_of (length xs - 2) v)) (path_is rs e) ∙ ap reverse (of_path d)
      ∙ reverse-reverse rs in
      subst (λ (ys : List ℕ). FromVertexAnswer ys r)
      (ap (λ (ys : List ℕ). get_or xs 0 0 ∷ get_or xs 1 0 ∷ ys) f ∙ sym opened)
