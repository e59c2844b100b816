-- What the code of states, of weights and of the way back rests on. Assumes nothing.
use mathlib.Core.Path.{◌≡◌, ◌∙◌, refl, sym, ap}
use mathlib.Core.Logic.{inl, inr, ⊎_elim}
use mathlib.Core.Bool.{Bool, true, false}
use mathlib.Core.List.{List, [], ◌∷◌, ◌++◌}
use Prim.Native.Nat.{ℕ, zero, suc, ◌+◌, ◌-◌, ◌*◌, ◌/◌, ◌%◌, ◌^◌, ◌≤◌, ◌<◌}
use native.Mathlib.Nat.{lt_of_lt_of_le}
use native.Mathlib.Numerals.{add-one}
use native.Mathlib.Omega.{arith}
use lib.Dec.{eqb}
use lib.ListN.{length, get_or, take}
use lib.Pow.{pow_mono}
use lib.Seq.{length-take-le, take-suc, get_or-take, ext_get_or}
use borrow.Author.Tests.{eq-eqb, eqb-false, eqb-true, ne_eqb}
use Rattle.frame.specs.Refusals.{◌either◌}
use Rattle.frame.proofs.Refusing.{either_left, either_right}
use Rattle.words.specs.Words.{degree_of, digits, path}
use Rattle.words.specs.declared.TriangleCode.{TriangleCode}
use Rattle.words.proofs.Digits.{AreDigits, digits_are, more, none, path_lt}
use Rattle.net.specs.Refusals.{is_corner_of, on_one_side, on_side}
use Rattle.net.specs.Division.{corner_of, sum, vertices}
use Rattle.net.specs.Means.Paths.{digits_of, path_up}
use Rattle.net.specs.Means.Spreads.{point_in, spread, weight_at}
use Rattle.net.specs.Means.States.{Low, halves, last_of, parity, point, point_of, state_of, step}
use Rattle.net.specs.Sides.{IsSide, OneToThree, corner_vertex}
use Rattle.net.specs.Steps.{ring_size}
use Rattle.net.specs.declared.Point.{Point}
use Rattle.net.specs.declared.State.{State}
use Rattle.net.specs.declared.State.TheVariants.{Down, Up}
use Rattle.net.proofs.Canonical.{and_true, not_so, or_true, some_below_lem}
use Rattle.net.proofs.CodePlaces.{digits_in}
use Rattle.net.proofs.Flips.{each_length}
use Rattle.net.proofs.Halving.{back, last_step}
use Rattle.net.proofs.Loads.{at_vertex, corner_is, sum_spread, weight, weight_other, weight_own}
use Rattle.net.proofs.Paths.{four, of_length, of_path}
use Rattle.net.proofs.Reach.{reach}
use Rattle.net.proofs.SharedVertices.{HasVertex, has_or_not, vertex_small}
use Rattle.net.proofs.Spread.{same_point}
use Rattle.net.proofs.Table.{either_way, same, three}
use Rattle.net.proofs.Totals.{total, total_is}

-- ---- states

-- no part of a floor is as much as the total
pub low_by : (b : ℕ) (a : State) → total a ≤ b → Low b a
low_by b (Up x y z) h = omega arith
low_by b (Down x y z) h = omega arith

pub low_24 : (n v : ℕ) → n ≤ 24 → Low (2 ^ 24) (state_of (digits_of n v))
low_24 n v h = low_by (2 ^ 24) (state_of (digits_of n v)) (rw (total_is (digits_of n v), of_length n v) (pow_mono h))

-- the path of the digits of a code, and the state that they lead to
module _ (t : TriangleCode) {n v : ℕ} (d : n ≡ degree_of t.0) (e : v ≡ path (digits t.0 n)) where
  pub code_path : v < 2 ^ (2 * n)
  code_path = rw e (path_lt (digits_are t.0 n))

  pub code_state : state_of (digits_of n v) ≡ state_of (digits_in t)
  code_state = ap state_of (ap (digits_of n) e ∙ of_path (digits_are t.0 n) ∙ ap (digits t.0) d)

-- ---- the path up from a state

pub parity_2 : (p q : ℕ) → p ≡ 0 → (q ≡ 0 → ⊥) → 2 ≡ parity p q
parity_2 zero zero e f = absurd (f refl)
parity_2 zero (suc q) e f = refl
parity_2 (suc p) q e f = absurd (omega arith)

pub parity_1 : (p q : ℕ) → (p ≡ 0 → ⊥) → q ≡ 0 → 1 ≡ parity p q
parity_1 zero q e f = absurd (e refl)
parity_1 (suc p) zero e f = refl
parity_1 (suc p) (suc q) e f = absurd (omega arith)

pub parity_0 : (p q : ℕ) → (p ≡ 0 → ⊥) → (q ≡ 0 → ⊥) → 0 ≡ parity p q
parity_0 zero q e f = absurd (e refl)
parity_0 (suc p) zero e f = absurd (f refl)
parity_0 (suc p) (suc q) e f = refl

parity_small : (p q : ℕ) → parity p q ≤ 3
parity_small zero zero = omega arith
parity_small zero (suc q) = omega arith
parity_small (suc p) zero = omega arith
parity_small (suc p) (suc q) = omega arith

pub last_small : (a : State) → last_of a ≤ 3
last_small (Up x y z) = parity_small (x % 2) (y % 2)
last_small (Down x y z) = parity_small (suc x % 2) (suc y % 2)

pub low_half : (b d : ℕ) (a : State) → Low b a → Low b (halves d a)
low_half b zero (Up x y z) h = omega arith
low_half b zero (Down x y z) h = omega arith
low_half b (suc d) (Up x y z) h = omega arith
low_half b (suc d) (Down x y z) h = omega arith

pub half_up : (d x y z : ℕ) → (d ≡ 0 → ⊥) → Up (x / 2) (y / 2) (z / 2) ≡ halves d (Up x y z)
half_up zero x y z f = absurd (f refl)
half_up (suc d) x y z f = refl

pub half_down : (d x y z : ℕ) → (d ≡ 0 → ⊥) → Down (x / 2) (y / 2) (z / 2) ≡ halves d (Down x y z)
half_down zero x y z f = absurd (f refl)
half_down (suc d) x y z f = refl

pub path_none : (n : ℕ) (a : State) → n ≡ 0 → 0 ≡ path_up n a
unfolding path_up
path_none n a e = rw e

pub path_more : (n : ℕ) (a : State) → (n ≡ 0 → ⊥) → 4 * path_up (n - 1) (halves (last_of a) a) + last_of a
    ≡ path_up n a
unfolding path_up
path_more zero a f = absurd (f refl)
path_more (suc n) a f = let e : suc n - 1 ≡ n = omega arith in rw e

pub path_small : (n : ℕ) (a : State) → path_up n a < 2 ^ (2 * n)
unfolding path_up
path_small zero a = omega arith
path_small (suc n) a = omega (arith, path_small n (halves (last_of a) a), last_small a, four n)

pub path_46 : (n : ℕ) (a : State) → n ≤ 23 → path_up n a < 2 ^ 46
path_46 n a h = lt_of_lt_of_le (path_small n a) (pow_mono {i = 2 * n} {j = 46} (omega arith))

-- the digits that lead to a state are those of its path up
path_up_lem : {n : ℕ} {ds : List ℕ} → AreDigits n ds → path_up n (state_of ds) ≡ path ds
unfolding path_up state_of path
path_up_lem none = refl
path_up_lem (more {n = n} {d = d} {ds = ds} h a) =
    ap (λ (k : ℕ). 4 * path_up n (halves k (step d (state_of ds))) + k) (last_step d (state_of ds) h)
    ∙ ap (λ (b : State). 4 * path_up n b + d) (back d (state_of ds))
    ∙ ap (λ (v : ℕ). 4 * v + d) (path_up_lem a)

pub state_back : (n : ℕ) (a : State) → total a ≡ 2 ^ n → state_of (digits_of n (path_up n a)) ≡ a
state_back n a e =
    let r = reach n a e in
    let ds : AreDigits n r.0 = rw r.2 at r.1 in
    let p : path_up n a ≡ path r.0 = ap (path_up n) (sym r.3) ∙ path_up_lem ds in
    ap state_of (ap (digits_of n) p ∙ of_path ds) ∙ r.3

-- the point p is corner i of the state a, and v is its path
pub at_corner : (s n i : ℕ) (a : State) (p : Point) {v : ℕ} → OneToThree i → total a ≡ 2 ^ n
    → point_of i a ≡ p → v ≡ path_up n a
    → (v < 2 ^ (2 * n)) × OneToThree i × (corner_of s (digits_of n v) i ≡ spread s p)
at_corner s n i a p h t e f =
    rw f (
      path_small n a,
      h,
      corner_is s (digits_of n (path_up n a)) i
          ∙ ap (λ (b : State). spread s (point_of i b)) (state_back n a t) ∙ ap (spread s) e,
    )

-- ---- weights

pub ring_rest : (k : ℕ) → (k ≡ 1 → ⊥) → 6 ≡ ring_size k
ring_rest zero f = refl
ring_rest (suc zero) f = absurd (f refl)
ring_rest (suc (suc k)) f = refl

pub spread_length : (s : ℕ) (p : Point) → length (spread s p) ≡ 12
unfolding spread
spread_length s p = each_length (weight_at s p) vertices

-- ---- sums

sum_end : (xs : List ℕ) (x : ℕ) → sum (xs ++ (x ∷ [])) ≡ sum xs + x
unfolding sum
sum_end [] x = omega arith
sum_end (y ∷ ys) x = omega (arith, sum_end ys x)

pub sum_more : (ws : List ℕ) (v : ℕ) → v < length ws → sum (take (v + 1) ws) ≡ sum (take v ws) + get_or ws v 0
sum_more ws v h = rw (add-one, take-suc ws v 0 h) (sum_end (take v ws) (get_or ws v 0))

pub sum_take : (ws : List ℕ) (i j : ℕ) → i ≤ j → sum (take i ws) ≤ sum (take j ws)
unfolding sum
sum_take ws zero j h = omega arith
sum_take ws (suc i) zero h = absurd (omega arith)
sum_take [] (suc i) (suc j) h = omega arith
sum_take (x ∷ ws) (suc i) (suc j) h = omega (arith, sum_take ws i j (omega arith))

pub none_left : (l s t : ℕ) → l + s ≡ t → eqb l 0 ≡ eqb s t
none_left zero s t e = sym (eq-eqb s t (omega arith))
none_left (suc l) s t e = ne_eqb (suc l) 0 (λ f. omega arith) ∙ sym (ne_eqb s t (λ f. omega arith))

-- one list below another, place by place, has no more sum; and where it has as much, it is the other
abbrev Under : List ℕ → List ℕ → Type 0
Under qs ps = (v : ℕ) → v < length ps → get_or qs v 0 ≤ get_or ps v 0

sum_under : (qs ps : List ℕ) → length qs ≡ length ps → Under qs ps → sum qs ≤ sum ps
unfolding sum
sum_under [] [] l u = omega arith
sum_under [] (p ∷ ps) l u = omega arith
sum_under (q ∷ qs) [] l u = absurd (omega arith)
sum_under (q ∷ qs) (p ∷ ps) l u = omega (
  arith,
  u 0 (omega arith),
  sum_under qs ps (omega arith) (λ v h. u (suc v) (omega arith)),
)

same_under : (qs ps : List ℕ) → length qs ≡ length ps → Under qs ps → sum ps ≤ sum qs → qs ≡ ps
unfolding sum
same_under [] [] l u s = refl
same_under [] (p ∷ ps) l u s = absurd (omega arith)
same_under (q ∷ qs) [] l u s = absurd (omega arith)
same_under (q ∷ qs) (p ∷ ps) l u s =
    let h = u 0 (omega arith) in
    let t = sum_under qs ps (omega arith) (λ v k. u (suc v) (omega arith)) in
    let e : q ≡ p = omega arith in
    cc (same_under qs ps (omega arith) (λ v k. u (suc v) (omega arith)) (omega arith))

-- ---- the side of twelve weights

is_corner : (s v : ℕ) → is_corner_of s v ≡ true → HasVertex s v
is_corner s v e =
    ⊎_elim
    (λ a. inl (eqb-true _ _ a))
    (λ r. ⊎_elim (λ b. inr (inl (eqb-true _ _ b))) (λ c. inr (inr (eqb-true _ _ c))) ((or_true _ _).0 r))
    ((or_true _ _).0 e)

corner_test : (s v : ℕ) → HasVertex s v → is_corner_of s v ≡ true
corner_test s v =
    let a = eqb v (corner_vertex s 1) in
    let b = eqb v (corner_vertex s 2) in
    let c = eqb v (corner_vertex s 3) in
    ⊎_elim
    (λ e. either_left a (b either c) (eq-eqb _ _ e))
    (⊎_elim (λ e. either_right a (b either c) (either_left b c (eq-eqb _ _ e)))
    (λ e. either_right a (b either c) (either_right b c (eq-eqb _ _ e))))

-- each place with weight is a corner of the side: the list begins with vertex v
abbrev Lies : (s v : ℕ) → List ℕ → Type 0
Lies s v xs = (i : ℕ) → i < length xs → (get_or xs i 0 ≡ 0 → ⊥) → HasVertex s (v + i)

on_lies : (s v : ℕ) (xs : List ℕ) → on_side s v xs ≡ true → Lies s v xs
on_lies s v [] e i h f = absurd (omega arith)
on_lies s v (x ∷ xs) e zero h f =
    let z : v + 0 ≡ v = omega arith in
    rw z (⊎_elim (λ a. absurd (f (eqb-true x 0 a))) (is_corner s v)
    ((or_true (eqb x 0) (is_corner_of s v)).0 ((and_true _ _).0 e).0))
on_lies s v (x ∷ xs) e (suc i) h f =
    let z : v + suc i ≡ suc v + i = omega arith in
    rw z (on_lies s (suc v) xs ((and_true (eqb x 0 either is_corner_of s v) _).0 e).1 i (omega arith) f)

lies_on : (s v : ℕ) (xs : List ℕ) → Lies s v xs → on_side s v xs ≡ true
lies_on s v [] l = refl
lies_on s v (x ∷ xs) l =
    (and_true _ _).1 (
      ⊎_elim (λ e. either_left _ _ (eq-eqb x 0 e)) (λ f.
          either_right (eqb x 0) (is_corner_of s v) (corner_test s v (at_head f))) (either_way (same x 0)),
      lies_on s (suc v) xs rest,
    )
  where
    at_head : (x ≡ 0 → ⊥) → HasVertex s v
    at_head f = let z : v + 0 ≡ v = omega arith in rw z at (l 0 (omega arith) f)

    rest : Lies s (suc v) xs
    rest i h f = let z : v + suc i ≡ suc v + i = omega arith in rw z at (l (suc i) (omega arith) f)

-- a point's weights lie on each side that has the vertices at which it has weight
pub on_too : (s t : ℕ) (p : Point) → IsSide s
    → ((i : ℕ) → OneToThree i → 1 ≤ weight i p → HasVertex t (corner_vertex s i)) → on_side t 0 (spread s p) ≡ true
on_too s t p h has =
    lies_on t 0 (spread s p) (λ v l f.
    let z : 0 + v ≡ v = omega arith in
    let k : v < 12 = omega (arith, spread_length s p) in
    rw z (⊎_elim (at v k f) (λ g. absurd (f (at_vertex s p v k ∙ weight_other s v p g))) (has_or_not s v)))
  where
    at : (v : ℕ) → v < 12 → (get_or (spread s p) v 0 ≡ 0 → ⊥) → HasVertex s v → HasVertex t v
    at v k f = ⊎_elim (on 1 (omega arith)) (⊎_elim (on 2 (omega arith)) (on 3 (omega arith)))
      where
        on : (i : ℕ) → OneToThree i → v ≡ corner_vertex s i → HasVertex t v
        on i l e =
            let w : get_or (spread s p) v 0 ≡ weight i p =
            at_vertex s p v k ∙ ap (weight_at s p) e ∙ weight_own s p h i l in
            rw e (has i l (omega (arith, w, f)))

-- so on its own
pub on_side_lem : (s : ℕ) (p : Point) → IsSide s → on_side s 0 (spread s p) ≡ true
on_side_lem s p h =
    on_too s s p h (λ i l w.
    three (λ i. HasVertex s (corner_vertex s i)) (inl refl) (inr (inl refl)) (inr (inr refl)) i l)

-- the point that twelve weights are on the side s has their weights at its corners, and elsewhere none
module _ (s : ℕ) (P : List ℕ) (h : IsSide s) where
  own : (i : ℕ) → OneToThree i → weight_at s (point_in s P) (corner_vertex s i) ≡ get_or P (corner_vertex s i) 0
  own i m = weight_own s (point_in s P) h i m ∙ three (λ i. weight i (point_in s P) ≡ get_or P (corner_vertex s i) 0)
      refl refl refl i m

  at_corners : (v : ℕ) → HasVertex s v → weight_at s (point_in s P) v ≡ get_or P v 0
  at_corners v =
      ⊎_elim (λ e. rw e (own 1 (omega arith))) (⊎_elim (λ e. rw e (own 2 (omega arith)))
      (λ e. rw e (own 3 (omega arith))))

  pub spread_of : length P ≡ 12 → on_side s 0 P ≡ true → spread s (point_in s P) ≡ P
  spread_of t o = ext_get_or 0 (spread s (point_in s P)) P (spread_length s _ ∙ sym t)
      (λ v l. at v (omega (arith, spread_length s (point_in s P))))
    where
      none_at : (v : ℕ) → v < 12 → (HasVertex s v → ⊥) → get_or P v 0 ≡ 0
      none_at v l f =
          let z : 0 + v ≡ v = omega arith in
          ⊎_elim (λ e. e) (λ g. absurd (f (rw z at (on_lies s 0 P o v (omega arith) g))))
          (either_way (same (get_or P v 0) 0))

      at : (v : ℕ) → v < 12 → get_or (spread s (point_in s P)) v 0 ≡ get_or P v 0
      at v l = at_vertex s (point_in s P) v l ∙ ⊎_elim (at_corners v)
          (λ f. weight_other s v (point_in s P) f ∙ sym (none_at v l f)) (has_or_not s v)

  -- so it has no more anywhere
  under : length P ≡ 12 → Under (spread s (point_in s P)) P
  under t v l =
      let k : v < 12 = omega arith in
      ⊎_elim
      (λ y. omega (arith, at_vertex s (point_in s P) v k, at_corners v y))
      (λ f. omega (arith, at_vertex s (point_in s P) v k, weight_other s v (point_in s P) f)) (has_or_not s v)

-- what the three weights q of the side s tell of twelve weights with the sum t: they have all of it exactly where these
-- lie on the side
pub record Told (ws : List ℕ) (s t : ℕ) (q : Point) : Type 0 where
  pub most : q.w1 + q.w2 + q.w3 ≤ t
  pub all : q.w1 + q.w2 + q.w3 ≡ t → on_side s 0 (take 12 ws) ≡ true
  pub less : (q.w1 + q.w2 + q.w3 ≡ t → ⊥) → on_side s 0 (take 12 ws) ≡ true → ⊥

pub told : (ws : List ℕ) (s t : ℕ) (q : Point) → IsSide s → 12 ≤ length ws → sum (take 12 ws) ≡ t
    → q ≡ point_in s (take 12 ws) → Told ws s t q
told ws s t q h l e is =
    let P = take 12 ws in
    let Q = spread s (point_in s P) in
    let twelve : length P ≡ 12 = length-take-le 12 ws l in
    let same_length : length Q ≡ length P = spread_length s (point_in s P) ∙ sym twelve in
    let has : sum Q ≡ q.w1 + q.w2 + q.w3 = sum_spread s (point_in s P) h
    ∙ ap (λ (q : Point). q.w1 + q.w2 + q.w3) (sym is) in
    record {
      most = omega (arith, sum_under Q P same_length (under s P h twelve));
      all = λ f. ap (on_side s 0) (sym (same_under Q P same_length (under s P h twelve) (omega arith)))
          ∙ on_side_lem s (point_in s P) h;
      less = λ f o. f (sym has ∙ ap sum (spread_of s P h twelve o) ∙ e);
    }

-- and the test of them
pub tells : (ws : List ℕ) (s t : ℕ) (q : Point) → Told ws s t q
    → eqb (q.w1 + q.w2 + q.w3) t ≡ on_side s 0 (take 12 ws)
tells ws s t q x = go (eqb (q.w1 + q.w2 + q.w3) t) refl
  where
    go : (b : Bool) → eqb (q.w1 + q.w2 + q.w3) t ≡ b → b ≡ on_side s 0 (take 12 ws)
    go true e = sym (x.all (eqb-true _ _ e))
    go false e = sym (not_so (on_side s 0 (take 12 ws)) (x.less (eqb-false _ _ e)))

-- the weights at the corners of a side, from a longer list
pub vertex_12 : (s i : ℕ) {r : ℕ} → IsSide s → OneToThree i → r ≡ corner_vertex s i → r < 12
vertex_12 s i h m e = rw e (vertex_small s h i m)

pub point_take : (ws : List ℕ) (s : ℕ) {a b c : ℕ} → IsSide s → a ≡ corner_vertex s 1
    → b ≡ corner_vertex s 2 → c ≡ corner_vertex s 3
    → point (get_or ws a 0) (get_or ws b 0) (get_or ws c 0) ≡ point_in s (take 12 ws)
point_take ws s h e f g = same_point _ _ (go 1 (omega arith) e) (go 2 (omega arith) f) (go 3 (omega arith) g)
  where
    go : (i : ℕ) {k : ℕ} → OneToThree i → k ≡ corner_vertex s i
        → get_or ws k 0 ≡ get_or (take 12 ws) (corner_vertex s i) 0
    go i m e = rw e (sym (get_or-take 12 ws (corner_vertex s i) 0 (vertex_small s h i m)))

pub on_one : (P : List ℕ) (s : ℕ) → IsSide s → on_side s 0 P ≡ true → on_one_side P ≡ true
on_one P s h o =
    let z : 4 + (s - 4) ≡ s = omega arith in
    (some_below_lem 20 (λ i. on_side (4 + i) 0 P)).1 (s - 4, omega arith, ap (λ (t : ℕ). on_side t 0 P) z ∙ o)

pub one_on : (P : List ℕ) → on_one_side P ≡ true → (s : ℕ) × IsSide s × (on_side s 0 P ≡ true)
one_on P e =
    let x = (some_below_lem 20 (λ i. on_side (4 + i) 0 P)).0 e in
    (4 + x.0, (omega arith, omega (arith, x.1)), x.2)

pub none_on : (P : List ℕ) → ((s : ℕ) → IsSide s → on_side s 0 P ≡ true → ⊥) → on_one_side P ≡ false
none_on P f = not_so (on_one_side P) (λ e. let x = one_on P e in f x.0 x.1 x.2)
