-- The ring round a corner. Assumes nothing.
use mathlib.Core.Path.{◌≡◌, ◌∙◌, refl, sym, ap}
use mathlib.Core.List.{List, [], ◌∷◌}
use mathlib.Core.Logic.{⊎_elim}
use Prim.Native.Nat.{ℕ, zero, suc, ◌+◌, ◌≤◌, ◌<◌}
use native.Mathlib.Omega.{arith}
use lib.ListN.{length}
use Rattle.net.specs.Division.{corner_of, each, sum, vertices}
use Rattle.net.specs.Means.Seams.{seam_kept}
use Rattle.net.specs.Means.Spreads.{sign, spread, weight_at}
use Rattle.net.specs.Means.States.{Move, across, cross, inside, map, outside, point, point_of, state_of}
use Rattle.net.specs.Means.Walks.{Place, around, arrival, arrived, ring_at, step_of}
use Rattle.net.specs.Sides.{IsSide, OneToThree, corner_vertex, next, prev}
use Rattle.net.specs.Steps.{non_zeros, ring_size}
use Rattle.net.specs.declared.Point.{Point}
use Rattle.net.specs.declared.State.{State}
use Rattle.net.specs.declared.State.TheVariants.{Down, Up}
use Rattle.net.proofs.Flips.{turn, turn_all}
use Rattle.net.proofs.Halving.{one_list}
use Rattle.net.proofs.InnerStep.{crossing}
use Rattle.net.proofs.Loads.{HasAt, corner_is, same_weights, spread_one, sum_spread, weight, weight_has}
use Rattle.net.proofs.Loads.{weight_other, weight_own}
use Rattle.net.proofs.Neighbours.{corners_differ}
use Rattle.net.proofs.Paths.{Digits}
use Rattle.net.proofs.RingTable.{Mark, complete, fits, mark, mark_after, marks, needs, onward, ring, ring_table}
use Rattle.net.proofs.SharedVertices.{HasVertex, has_or_not, seam_kept_lem, vertex_small}
use Rattle.net.proofs.Spread.{each_same}
use Rattle.net.proofs.StateCorners.{down_same, up_same}
use Rattle.net.proofs.Stepping.{next_three, prev_three, step_beside}
use Rattle.net.proofs.Table.{Holds, ◌and◌, three}

-- the triangle of degree n has the corner with the weights P, at this number
pub record At (n : ℕ) (P : List ℕ) (q : Place) : Type 0 where
  pub a_side : IsSide q.side
  pub the_digits : Digits q.digits
  pub degree : length q.digits ≡ n
  pub a_number : OneToThree q.number
  pub corner : corner_of q.side q.digits q.number ≡ P

-- how many weights are not 0, as a sum
abbrev pub non_zero : List ℕ → ℕ
non_zero P = sum (each sign P)

pub non_zeros_lem : (P : List ℕ) → non_zero P ≡ non_zeros P
unfolding sum
non_zeros_lem [] = refl
non_zeros_lem (zero ∷ P) = omega (arith, non_zeros_lem P)
non_zeros_lem (suc x ∷ P) = omega (arith, non_zeros_lem P)

pub prev_next : (n : ℕ) → OneToThree n → prev (next n) ≡ n
prev_next = three (λ n. prev (next n) ≡ n) refl refl refl

pub next_next : (n : ℕ) → OneToThree n → next (next n) ≡ prev n
next_next = three (λ n. next (next n) ≡ prev n) refl refl refl

pub around_at : (n : ℕ) (P : List ℕ) (q : Place) → At n P q → At n P (around q)
unfolding around
around_at n P q h =
    let k = next q.number in
    let l = next_three q.number h.a_number in
    let b = step_beside k q.side q.digits l h.a_side h.the_digits in
    record {
      a_side = b.a_side;
      the_digits = b.the_digits;
      degree = b.degree ∙ h.degree;
      a_number = next_three _ b.an_edge;
      corner = b.before ∙ ap (corner_of q.side q.digits) (prev_next q.number h.a_number) ∙ h.corner;
    }

pub ring_at_lem : (n : ℕ) (P : List ℕ) (q : Place) → At n P q → (i : ℕ) → At n P (ring_at q i)
unfolding ring_at
ring_at_lem n P q h zero = h
ring_at_lem n P q h (suc i) = around_at n P (ring_at q i) (ring_at_lem n P q h i)

-- The mark of a place, by which it is known.
abbrev kind_of : State → ℕ
kind_of (Up x y z) = 0
kind_of (Down x y z) = 1

abbrev mark_of : Place → Mark
mark_of q = mark q.side (kind_of (state_of q.digits)) q.number

abbrev OneState : State → State → ℕ → Type 0
OneState a b i = point_of i a ≡ point_of i b → a ≡ b

-- equal points have equal parts
parts : {p q : Point} → p ≡ q → (p.w1 ≡ q.w1) × (p.w2 ≡ q.w2) × (p.w3 ≡ q.w3)
parts e = (ap (λ (p : Point). p.w1) e, ap (λ (p : Point). p.w2) e, ap (λ (p : Point). p.w3) e)

state_one : (a b : State) → kind_of a ≡ kind_of b → (i : ℕ) → OneToThree i → OneState a b i
state_one (Up x y z) (Down u v w) e = absurd (omega arith)
state_one (Down x y z) (Up u v w) e = absurd (omega arith)
state_one (Up x y z) (Up u v w) e =
    three (OneState (Up x y z) (Up u v w))
    (λ f. let d = parts f in up_same (omega (arith, d.0)) (omega (arith, d.1)) (omega (arith, d.2)))
    (λ f. let d = parts f in up_same (omega (arith, d.0)) (omega (arith, d.1)) (omega (arith, d.2)))
    (λ f. let d = parts f in up_same (omega (arith, d.0)) (omega (arith, d.1)) (omega (arith, d.2)))
state_one (Down x y z) (Down u v w) e =
    three (OneState (Down x y z) (Down u v w))
    (λ f. let d = parts f in down_same (omega (arith, d.0)) (omega (arith, d.1)) (omega (arith, d.2)))
    (λ f. let d = parts f in down_same (omega (arith, d.0)) (omega (arith, d.1)) (omega (arith, d.2)))
    (λ f. let d = parts f in down_same (omega (arith, d.0)) (omega (arith, d.1)) (omega (arith, d.2)))

module _ (n : ℕ) (P : List ℕ) where
  -- two triangles with the corner and with one mark are one
  place_one : (q r : Place) → At n P q → At n P r → q.side ≡ r.side
      → kind_of (state_of q.digits) ≡ kind_of (state_of r.digits) → q.number ≡ r.number → q ≡ r
  place_one q r h g e f m =
      let c : corner_of r.side q.digits r.number ≡ P = rw (e, m) at h.corner in
      let p = spread_one r.side _ _ g.a_side (sym (corner_is r.side q.digits r.number) ∙ c
      ∙ sym g.corner ∙ corner_is r.side r.digits r.number) in
      let d = one_list q.digits r.digits (h.degree ∙ sym g.degree) h.the_digits g.the_digits
      (state_one _ _ f r.number g.a_number p) in
      λ i. record { side = e i; digits = d i; number = m i }

-- Where a step leads, by kind: from a down triangle to an up one, from an up one to a down one, or over the seam where
-- its floor has nothing.
abbrev Kinds : ℕ → State → Move State → Type 0
Kinds k (Up x y z) (inside b) = (kind_of b ≡ 1) × (1 ≤ weight k (point x y z))
Kinds k (Up x y z) outside = weight k (point x y z) ≡ 0
Kinds k (Down x y z) (inside b) = kind_of b ≡ 0
Kinds k (Down x y z) outside = ⊥

kinds_1 : (a : State) → Kinds 1 a (across 1 a)
kinds_1 (Up zero y z) = refl
kinds_1 (Up (suc x) y z) = (refl, omega arith)
kinds_1 (Down x y z) = refl

kinds_2 : (a : State) → Kinds 2 a (across 2 a)
kinds_2 (Up x zero z) = refl
kinds_2 (Up x (suc y) z) = (refl, omega arith)
kinds_2 (Down x y z) = refl

kinds_3 : (a : State) → Kinds 3 a (across 3 a)
kinds_3 (Up x y zero) = refl
kinds_3 (Up x y (suc z)) = (refl, omega arith)
kinds_3 (Down x y z) = refl

kinds : (k : ℕ) → OneToThree k → (a : State) → Kinds k a (across k a)
kinds = three (λ k. (a : State) → Kinds k a (across k a)) kinds_1 kinds_2 kinds_3

-- an up triangle's corner n has the floor's weight on the axis that follows
floor_next : (x y z n : ℕ) → OneToThree n → weight (next n) (point_of n (Up x y z))
    ≡ weight (next n) (point x y z)
floor_next x y z = three (λ n. weight (next n) (point_of n (Up x y z)) ≡ weight (next n) (point x y z)) refl refl refl

turn_up : (x y z c : ℕ) → OneToThree c → kind_of (turn c (Up x y z)) ≡ 0
turn_up x y z = three (λ c. kind_of (turn c (Up x y z)) ≡ 0) refl refl refl

same_mark : {s d n t e m : ℕ} → s ≡ t → d ≡ e → n ≡ m → mark s d n ≡ mark t e m
same_mark p q r = λ i. record { side = p i; kind = q i; number = r i }

pub sign_pos : (x : ℕ) → 1 ≤ x → sign x ≡ 1
sign_pos zero h = absurd (omega arith)
sign_pos (suc x) h = refl

pos_sign : (x : ℕ) → 0 < sign x → 1 ≤ x
pos_sign zero h = absurd (omega arith)
pos_sign (suc x) h = omega arith

pub sign_low : (x : ℕ) → sign x < 2
sign_low zero = omega arith
sign_low (suc x) = omega arith

-- the mark of the next place
module _ (g : ℕ → ℕ) (n s : ℕ) (ds : List ℕ) (l : OneToThree n) (hs : IsSide s) (hd : Digits ds)
    (link : g (corner_vertex s (next n)) ≡ sign (weight (next n) (point_of n (state_of ds)))) where
  after : (a : State) → state_of ds ≡ a → (m : Move (List ℕ)) → Kinds (next n) a (map state_of m)
      → mark_of (arrived (arrival (next n) s ds m)) ≡ onward g s (kind_of a) n
  after (Up x y z) e (inside es) k =
      let w : g (corner_vertex s (next n)) ≡ 1 = link ∙ ap (λ (a : State). sign (weight (next n) (point_of n a))) e
      ∙ ap sign (floor_next x y z n l) ∙ sign_pos _ k.1 in
      rw w (same_mark refl k.0 (next_next n l))
  after (Up x y z) e outside k =
      let w : g (corner_vertex s (next n)) ≡ 0 = link ∙ ap (λ (a : State). sign (weight (next n) (point_of n a))) e
      ∙ ap sign (floor_next x y z n l ∙ k) in
      rw w (same_mark refl (ap kind_of (turn_all _ (seam_kept_lem s hs (next n) (next_three n l)) ds hd
      ∙ ap (turn (seam_kept s (next n))) e) ∙ turn_up x y z _ (seam_kept_lem s hs (next n) (next_three n l))) refl)
  after (Down x y z) e (inside es) k = same_mark refl k (next_next n l)
  after (Down x y z) e outside k = absurd k

-- Which vertices have weight.
abbrev signs : Point → Point
signs p = point (sign p.w1) (sign p.w2) (sign p.w3)

sign_weight : (p : Point) (j : ℕ) → OneToThree j → weight j (signs p) ≡ sign (weight j p)
sign_weight p = three (λ j. weight j (signs p) ≡ sign (weight j p)) refl refl refl

sign_at : (s : ℕ) (p : Point) → IsSide s → (v : ℕ) → sign (weight_at s p v) ≡ weight_at s (signs p) v
sign_at s p h v = ⊎_elim at_one (λ f. ap sign (weight_other s v p f) ∙ sym (weight_other s v (signs p) f))
    (has_or_not s v)
  where
    at : (i : ℕ) → OneToThree i → v ≡ corner_vertex s i → sign (weight_at s p v) ≡ weight_at s (signs p) v
    at i l e = rw e (ap sign (weight_own s p h i l) ∙ sym (sign_weight p i l) ∙ sym (weight_own s (signs p) h i l))

    at_one : HasVertex s v → sign (weight_at s p v) ≡ weight_at s (signs p) v
    at_one = ⊎_elim (at 1 (omega arith)) (⊎_elim (at 2 (omega arith)) (at 3 (omega arith)))

each_each : (f g : ℕ → ℕ) (vs : List ℕ) → each f (each g vs) ≡ each (λ v. f (g v)) vs
each_each f g [] = refl
each_each f g (v ∷ vs) = ap (λ (l : List ℕ). f (g v) ∷ l) (each_each f g vs)

pub non_zero_lem : (s : ℕ) (p : Point) → IsSide s → non_zero (spread s p) ≡ sign p.w1 + sign p.w2
    + sign p.w3
unfolding spread
non_zero_lem s p h =
    ap sum (each_each sign (weight_at s p) vertices ∙ each_same (λ v. sign (weight_at s p v)) (weight_at s (signs p))
    (sign_at s p h) vertices) ∙ sum_spread s (signs p) h

-- what an up and a down triangle's corner n has: weight on its own axis, or on the two others
up_own : (x y z n : ℕ) → OneToThree n → 1 ≤ weight n (point_of n (Up x y z))
up_own x y z = three (λ n. 1 ≤ weight n (point_of n (Up x y z))) (omega arith) (omega arith) (omega arith)

down_next : (x y z n : ℕ) → OneToThree n → 1 ≤ weight (next n) (point_of n (Down x y z))
down_next x y z = three (λ n. 1 ≤ weight (next n) (point_of n (Down x y z))) (omega arith) (omega arith) (omega arith)

down_prev : (x y z n : ℕ) → OneToThree n → 1 ≤ weight (prev n) (point_of n (Down x y z))
down_prev x y z = three (λ n. 1 ≤ weight (prev n) (point_of n (Down x y z))) (omega arith) (omega arith) (omega arith)

kind_low : (a : State) → kind_of a < 2
kind_low (Up x y z) = omega arith
kind_low (Down x y z) = omega arith

module _ (n : ℕ) (P : List ℕ) (q : Place) (h : At n P q) where
  abbrev p : Point
  p = point_of q.number (state_of q.digits)

  abbrev g : ℕ → ℕ
  g = weight_at q.side (signs p)

  abbrev here : Place → Point
  here r = point_of r.number (state_of r.digits)

  one_point : (r : Place) → At n P r → spread q.side p ≡ spread r.side (here r)
  one_point r a = sym (corner_is q.side q.digits q.number) ∙ h.corner ∙ sym a.corner
      ∙ corner_is r.side r.digits r.number

  link : (r : Place) → At n P r → (j : ℕ) → OneToThree j
      → g (corner_vertex r.side j) ≡ sign (weight j (here r))
  link r a j l =
      sym (sign_at q.side p h.a_side (corner_vertex r.side j))
      ∙ ap sign (same_weights q.side r.side p (here r) (one_point r a) _
      (vertex_small r.side a.a_side j l) ∙ weight_own r.side (here r) a.a_side j l)

  mark_after_lem : (r : Place) → At n P r → mark_of (around r) ≡ mark_after g (mark_of r)
  unfolding around step_of
  mark_after_lem r a =
      let l = next_three r.number a.a_number in
      after g r.number r.side r.digits a.a_number a.a_side a.the_digits
      (link r a (next r.number) l) (state_of r.digits) refl
      (cross (next r.number) r.digits) (rw (crossing (next r.number) r.digits l.0 l.1 a.the_digits)
      (kinds _ l (state_of r.digits)))

  mark_at : (i : ℕ) → mark_of (ring_at q i) ≡ marks g (mark_of q) i
  unfolding ring_at
  mark_at zero = refl
  mark_at (suc i) = mark_after_lem (ring_at q i) (ring_at_lem n P q h i) ∙ ap (mark_after g) (mark_at i)

  needed : (r : Place) → At n P r → (a : State) → state_of r.digits ≡ a
      → Holds (needs g r.side (kind_of a) r.number)
  needed r a (Up x y z) e =
      let m = r.number in
      let f : 1 ≤ weight m (here r) = rw e (up_own x y z m a.a_number) in
      rw (link r a m a.a_number, sign_pos _ f) (omega arith)
  needed r a (Down x y z) e =
      let m = r.number in
      let f : 1 ≤ weight (next m) (here r) = rw e (down_next x y z m a.a_number) in
      let k : 1 ≤ weight (prev m) (here r) = rw e (down_prev x y z m a.a_number) in (
        rw (link r a (next m) (next_three m a.a_number), sign_pos _ f) (omega arith),
        rw (link r a (prev m) (prev_three m a.a_number), sign_pos _ k) (omega arith),
      )

  fitting : (r : Place) → At n P r → Holds (fits q.side (signs p) r.side (kind_of (state_of r.digits))
      r.number)
  fitting r a = (
    λ j l f. weight_has q.side r.side p (here r) h.a_side (one_point r a) j l
        (pos_sign _ (rw (sign_weight p j l) at f)),
    needed r a (state_of r.digits) refl,
  )

  abbrev size : ℕ
  size = ring_size (sign p.w1 + sign p.w2 + sign p.w3)

  size_is : ring_size (non_zeros P) ≡ size
  size_is = ap ring_size (sym (non_zeros_lem P) ∙ ap non_zero (sym h.corner
      ∙ corner_is q.side q.digits q.number) ∙ non_zero_lem q.side p h.a_side)

  entry : Holds (ring g (mark_of q) size and complete q.side (signs p) (mark_of q) size)
  entry =
      ring_table q.side h.a_side (sign p.w1) (sign_low p.w1) (sign p.w2) (sign_low p.w2)
      (sign p.w3) (sign_low p.w3) (kind_of (state_of q.digits)) (kind_low (state_of q.digits)) q.number
      h.a_number
      (needed q h (state_of q.digits) refl)

  -- closing up
  pub ring_closes : ring_at q (ring_size (non_zeros P)) ≡ q
  ring_closes =
      let m = mark_at size in
      let e = entry.0.0 in
      ap (ring_at q) size_is
      ∙ place_one n P (ring_at q size) q (ring_at_lem n P q h size) h (ap (λ (x : Mark). x.side) m ∙ e.0)
      (ap (λ (x : Mark). x.kind) m ∙ e.1.0) (ap (λ (x : Mark). x.number) m ∙ e.1.1)

  -- all different: no triangle comes twice
  number_one : (i j : ℕ) → (ring_at q i).side ≡ (ring_at q j).side → (ring_at q i).digits ≡ (ring_at q j).digits
      → (ring_at q i).number ≡ (ring_at q j).number
  number_one i j e f =
      let a = ring_at_lem n P q h i in
      let b = ring_at_lem n P q h j in
      let c : corner_of (ring_at q j).side (ring_at q j).digits (ring_at q i).number ≡ P = rw (e, f) at a.corner in
      corners_differ (ring_at q j).side (ring_at q j).digits b.a_side _ a.a_number _ b.a_number
      (c ∙ sym b.corner)

  pub ring_differs : (i j : ℕ) → i < ring_size (non_zeros P) → j < ring_size (non_zeros P) → i < j
      → (ring_at q i).side ≡ (ring_at q j).side → (ring_at q i).digits ≡ (ring_at q j).digits → ⊥
  ring_differs i j hi hj l e f =
      let k : kind_of (state_of (ring_at q i).digits) ≡ kind_of (state_of (ring_at q j).digits) = rw f refl in
      let m : mark_of (ring_at q i) ≡ mark_of (ring_at q j) = same_mark e k (number_one i j e f) in
      let w : marks g (mark_of q) i ≡ marks g (mark_of q) j = sym (mark_at i) ∙ m ∙ mark_at j in
      entry.0.1 i (rw size_is at hi) j (rw size_is at hj) l
      (ap (λ (x : Mark). x.side) w, (ap (λ (x : Mark). x.kind) w, ap (λ (x : Mark). x.number) w))

  -- all that have the corner
  pub ring_all : (t : ℕ) (es : List ℕ) → IsSide t → Digits es → length es ≡ n → HasAt t es P
      → (i : ℕ) × (i < ring_size (non_zeros P)) × ((ring_at q i).side ≡ t) × ((ring_at q i).digits ≡ es)
  ring_all t es ht he d c =
      let r : Place = record { side = t; digits = es; number = c.0 } in
      let a : At n P r = record { a_side = ht; the_digits = he; degree = d; a_number = c.1; corner = c.2 } in
      let x = entry.1 t ht (kind_of (state_of es)) (kind_low (state_of es)) c.0 c.1 (fitting r a) in
      let m = mark_at x.0 in
      let y = place_one n P (ring_at q x.0) r (ring_at_lem n P q h x.0) a
      (ap (λ (z : Mark). z.side) m ∙ x.2.0) (ap (λ (z : Mark). z.kind) m ∙ x.2.1.0)
      (ap (λ (z : Mark). z.number) m ∙ x.2.1.1) in
      (x.0, rw size_is x.1, ap (λ (z : Place). z.side) y, ap (λ (z : Place). z.digits) y)
