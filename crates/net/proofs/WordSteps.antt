-- The step across an edge and the walk round a corner, on words. Assumes nothing.
use mathlib.Core.Path.{◌≡◌, refl, sym, ◌∙◌, ap, subst}
use mathlib.Core.List.{List}
use Prim.Native.Nat.{min, ℕ, suc, ◌+◌, ◌-◌, ◌*◌, ◌/◌, ◌%◌, ◌^◌, ◌≤◌, ◌<◌}
use native.Mathlib.Nat.{mul-le-mul}
use native.Mathlib.Omega.{arith}
use lib.Bits.{bit_xor, bit_and, bit_or}
use lib.Pow.{pow_mono}
use lib.ListN.{length}
use Rattle.words.proofs.Codes.{code_below, code_degree, code_name, code_passes, code_side, code_word, inside_side}
use Rattle.words.proofs.Codes.{is_code, name_code, name_passes, path_code}
use Rattle.words.proofs.Digits.{AreDigits, digits_are, path_lt, large_roomy}
use Rattle.words.proofs.WordLayout.{below_side_lem}
use Rattle.words.specs.Family.{code_of}
use Rattle.words.specs.Refusals.{IsCode, check_code, check_name_fields}
use Rattle.words.specs.Words.{large, corner_number, degree_of, digits, path, side_of, word_of, word_in}
use Rattle.words.specs.Words as words
use Rattle.words.specs.declared.TriangleCode.{TriangleCode}
use Rattle.net.specs.Corners.{named, name_of}
use Rattle.net.specs.Division.{corner_of, each}
use Rattle.net.specs.Means.Paths.{digits_of}
use Rattle.net.specs.Means.Spreads.{sign}
use Rattle.net.specs.Means.Flags.{flags, ones, other, span_of}
use Rattle.net.specs.Means.Seams.{flip, seam_kept, seam_side}
use Rattle.net.specs.Means.States.{Move, cross, inside, outside}
use Rattle.net.specs.Means.Walks.{Arrival, Place, around, arrival, arrived, edge_there, least_name}
use Rattle.net.specs.Means.Walks.{name_at}
use Rattle.net.specs.Means.Walks.{over_seam, place_at, renumbered, ring_at, step_of, word_at}
use Rattle.net.specs.Sides.{IsSide, OneToThree, next}
use Rattle.net.proofs.CodePlaces.{code_for_lem, code_for, digits_in, in_digits, in_length}
use Rattle.net.proofs.Flips.{each_digits, each_length, flip_digit, flip_digits, flip_prev, flip_three}
use Rattle.net.proofs.LeastName.{place_code, place_digits, place_side, place_in_lem, place_in}
use Rattle.net.proofs.Paths.{Kept, cross_kept, digits_of_lem, of_digits, of_length, path_of}
use Rattle.net.proofs.Rings.{At, around_at, prev_next, ring_at_lem}
use Rattle.net.proofs.SeamCode.{not_zero}
use Rattle.net.proofs.SharedVertices.{seam_kept_lem, seam_side_lem}
use Rattle.net.proofs.Stepping.{next_three, step_beside}
use Rattle.net.proofs.Flagging.{other_low, others, somes}
use Rattle.net.proofs.Table.{same, sound, threes}
use Rattle.net.proofs.WordFlags.{flipped, Steps, steps, word_onto}

-- ---- a word with a number below its digits

-- a code with a number: it has the fields of a name, and gives back the number and the code
module _ (t : TriangleCode) (z : check_code t ≡ 0) (k : ℕ) (hk : OneToThree k) where
  number_of : corner_number (t.0 + k) ≡ k
  number_of = omega (arith, ((code_passes t).0 z).1)

  code_of_lem : words.inside (t.0 + k) ≡ t.0
  code_of_lem = omega (arith, ((code_passes t).0 z).1)

  numbered_name : (check_name_fields (name_of (t.0 + k)) ≡ 0)
      × (degree_of (t.0 + k) ≡ degree_of (words.inside (t.0 + k)))
  numbered_name =
      code_name (name_of (t.0 + k)) (subst (λ (w : ℕ). check_code (code_of w) ≡ 0) (sym code_of_lem) z)
      (rw number_of hk.0) (rw number_of hk.1)

  pub numbered_fields : check_name_fields (name_of (t.0 + k)) ≡ 0
  numbered_fields = numbered_name.0

  numbered_degree : degree_of (t.0 + k) ≡ degree_of t.0
  numbered_degree = numbered_name.1 ∙ ap degree_of code_of_lem

  pub numbered_fits : t.0 + k < 2 ^ 64
  numbered_fits = omega (arith, ((code_passes t).0 z).1, code_below (is_code t z))

  pub numbered_place : place_at (t.0 + k) ≡ place_in t k
  numbered_place = λ i.
      let w = code_of_lem i in
      record { side = side_of w; digits = digits w (degree_of w); number = number_of i }

-- a place of the walk round a corner: its name has the fields of one, and gives it back
module _ {n : ℕ} {P : List ℕ} {q : Place} (a : At n P q) (low : n ≤ 24) where
  pub digits_are_n : AreDigits n q.digits
  digits_are_n = subst (λ (m : ℕ). AreDigits m q.digits) a.degree a.the_digits

  abbrev code : TriangleCode
  code = code_for q.side q.digits

  passes : check_code code ≡ 0
  passes = (place_code a low).passes

  pub name_word : name_at q ≡ word_of q.side n (path q.digits) + q.number
  unfolding name_at word_at
  name_word = ap (λ (m : ℕ). word_of q.side m (path q.digits) + q.number) a.degree

  pub name_fields : check_name_fields (name_of (name_at q)) ≡ 0
  unfolding name_at word_at
  name_fields = numbered_fields code passes q.number a.a_number

  pub name_degree : degree_of (name_at q) ≡ n
  unfolding name_at word_at
  name_degree = numbered_degree code passes q.number a.a_number ∙ (place_code a low).degree_is

  pub name_place : place_at (name_at q) ≡ q
  unfolding name_at word_at
  name_place =
      numbered_place code passes q.number a.a_number
      ∙ λ i. record { side = place_side a low i; digits = place_digits a low i; number = q.number }

-- a word with the fields of a name: its place, of which it is the name
module _ (r : ℕ) (e : check_name_fields (name_of r) ≡ 0) where
  a_code_in : IsCode (degree_of r) (code_of (words.inside r))
  a_code_in = name_code (name_of r) e

  pub low_degree : degree_of r ≤ 24
  low_degree = code_degree a_code_in

  pub at_place : At (degree_of r) (named (name_of r)) (place_at r)
  at_place = let p = (name_passes (name_of r)).0 e in place_in_lem a_code_in (p.2, p.3)

  -- the word of a place is the name less the number
  pub word_place : words.inside r ≡ word_at (place_at r)
  unfolding word_at
  word_place = ap (λ (t : TriangleCode). t.0) (code_for_lem a_code_in)

  pub place_name : r ≡ name_at (place_at r)
  unfolding name_at
  place_name = omega (arith, word_place)

  -- the next place round the corner
  pub at_next : At (degree_of r) (named (name_of r)) (around (place_at r))
  at_next = around_at (degree_of r) (named (name_of r)) (place_at r) at_place

-- ---- a step from a side and digits, by the span_of of their word

module _ (s : ℕ) {n : ℕ} {ds : List ℕ} (short : n ≤ 24) (are : AreDigits n ds) (j : ℕ) (hj : j < 4) (k : ℕ)
    (hk : OneToThree k) where
  abbrev there : Arrival
  there = step_of k s ds

  module _ {w x : ℕ} (e : w ≡ word_of s n (path ds) + j) (f : x ≡ span_of w (2 ^ (54 - 2 * n)) k) where
    x_is : x ≡ span_of (word_of s n (path ds) + j) (2 ^ (54 - 2 * n)) k
    x_is = f ∙ ap (λ (w : ℕ). span_of w (2 ^ (54 - 2 * n)) k) e

    pub step_inside : x < 2 ^ 54 → (l : ℕ) → l < 4
        → (bit_xor w (k * x + l) ≡ word_of there.side n (path there.digits) + bit_xor j l) × (there.edge ≡ k)
    unfolding step_of
    step_inside h l hl = go (cross k ds) (steps s short are j hj k hk) (cross_kept k ds hk.0 hk.1 are)
      where
        go : (m : Move (List ℕ)) → Steps s short are j hj k hk m → Kept m n
            → (bit_xor w (k * x + l) ≡ word_of (arrival k s ds m).side n (path (arrival k s ds m).digits)
            + bit_xor j l)
            × ((arrival k s ds m).edge ≡ k)
        go (inside es) c d = (
          (λ i. bit_xor (e i) (k * x_is i + l)) ∙ c.1 l hl ∙ sym (word_onto s short are j hj d (bit_xor j l)),
          refl,
        )
        go outside c d = absurd (omega (arith, x_is, c))

    pub step_outside : (x < 2 ^ 54 → ⊥) → there ≡ arrival k s ds outside
    unfolding step_of
    step_outside h = go (cross k ds) (steps s short are j hj k hk)
      where
        go : (m : Move (List ℕ)) → Steps s short are j hj k hk m → arrival k s ds m ≡ arrival k s ds outside
        go (inside es) c = absurd (h (omega (arith, x_is, c.0)))
        go outside c = refl

-- ---- for the code: numbers that fit

pub others_small : (c : ℕ) → OneToThree c → (w : ℕ) → flags (other c) w < 2 ^ 54
unfolding flags
others_small c hc w = path_lt (each_digits (other c) (λ d l. omega (arith, other_low d (omega arith) c hc))
    (digits_of_lem 27 w))

pub times_fit : {c x : ℕ} → OneToThree c → x ≤ 2 ^ 54 → c * x < 2 ^ 56
times_fit hc l = omega (arith, mul-le-mul hc.1 l)

pub unit_small : (n : ℕ) → 2 ^ (54 - 2 * n) ≤ 2 ^ 54
unit_small n = pow_mono {i = 54 - 2 * n} {j = 54} (omega arith)

-- ---- for the code: flags

pub somes_flagged : (w : ℕ) → bit_and (bit_or w (w / 2)) 6004799503160661 ≡ flags sign w
unfolding flags ones
somes_flagged w = somes 27 w

pub others_flagged : (w c : ℕ) → OneToThree c → bit_and (flags sign w)
    (flags sign (bit_xor w (c * 6004799503160661))) ≡
    flags (other c) w
unfolding flags ones
others_flagged w c hc = others 27 w c hc

pub spanned : (w unit k : ℕ) → bit_and (bit_xor (3 * flags (other k) w) (3 * flags (other k) w + unit))
    24019198012642645
    ≡ span_of w unit k
unfolding span_of ones
spanned w unit k = refl

-- ---- for the code: renumbered

-- the word on another side
side_changed : (s t : ℕ) {n : ℕ} {ds : List ℕ} → IsSide s → n ≤ 24 → AreDigits n ds → (i : ℕ)
    → i < 4
    → (word_of s n (path ds) + i) % 2 ^ 59 + 2 ^ 59 * t ≡ word_of t n (path ds) + i
unfolding word_in
side_changed s t {n} {ds} hs low are i hi =
    let b = below_side_lem large large_roomy s n (path ds) low (path_lt are) in
    let z = ((code_passes _).0 (path_code s n hs.0 hs.1 low (path ds) (path_lt are)).passes).1 in
    let y : (n * 2 ^ 54 + path ds * 2 ^ (54 - 2 * n)) % 64 ≡ 0 = unfold word_in in omega (arith, z) in
    omega (arith, b, y)

module _ (r : ℕ) (e : check_name_fields (name_of r) ≡ 0) where
  abbrev here : Place
  here = place_at r

  pub side_here : side_of r ≡ here.side
  side_here = sym (inside_side r)

  pub side_is : IsSide (side_of r)
  side_is = rw side_here (at_place r e).a_side

  pub word_here : r ≡ word_of here.side (degree_of r) (path here.digits) + here.number
  word_here = place_name r e ∙ name_word (at_place r e) (low_degree r e)

  pub renumbered_word : (c s : ℕ) → OneToThree c
      → bit_xor r (c * flags (other c) r) % 2 ^ 59 + 2 ^ 59 * s ≡ name_at (renumbered c s here)
  unfolding name_at word_at
  renumbered_word c s hc =
      let a = at_place r e in
      let low = low_degree r e in
      let are = digits_are_n a low in
      let i = here.number in
      let hi : i < 4 = omega (arith, a.a_number.1) in
      let f = flipped here.side low are i hi c hc in
      ap (λ (w : ℕ). w % 2 ^ 59 + 2 ^ 59 * s) (ap (λ (w : ℕ). bit_xor w (c * flags (other c) w)) word_here ∙ f)
      ∙ side_changed here.side s a.a_side low (flip_digits c hc are) (flip c i)
      (omega (arith, flip_digit c i hc (omega arith)))
      ∙ ap (λ (m : ℕ). word_of s m (path (each (flip c) here.digits)) + flip c i)
      (sym (each_length (flip c) here.digits ∙ a.degree))

-- ---- for the code: across an edge of a code

module _ (t : TriangleCode) (z : check_code t ≡ 0) (k : ℕ) (hk : OneToThree k) where
  a_code_here : IsCode (degree_of t.0) t
  a_code_here = is_code t z

  abbrev s : ℕ
  s = side_of t.0

  abbrev to : Arrival
  to = step_of k s (digits_in t)

  short : degree_of t.0 ≤ 24
  short = code_degree a_code_here

  these : AreDigits (degree_of t.0) (digits_in t)
  these = digits_are t.0 (degree_of t.0)

  as_word : t.0 ≡ word_of s (degree_of t.0) (path (digits_in t)) + 0
  as_word = omega (arith, code_word a_code_here)

  as_long : length to.digits ≡ degree_of t.0
  as_long = (step_beside k s (digits_in t) hk (code_side a_code_here) (in_digits a_code_here)).degree
      ∙ in_length a_code_here

  module _ {x : ℕ} (g : x ≡ span_of t.0 (2 ^ (54 - 2 * degree_of t.0)) k) where
    pub across_inside : x < 2 ^ 54 → record { code = code_of (bit_xor t.0 (k * x)); number = k } ≡ edge_there to
    across_inside h =
        let a = step_inside s short these 0 (omega arith) k hk as_word g h 0 (omega arith) in
        let m : k * x ≡ k * x + 0 = omega arith in
        let n : word_of to.side (degree_of t.0) (path to.digits) + bit_xor 0 0 ≡ word_of to.side
        (degree_of t.0) (path to.digits) =
        omega arith in
        let e = ap (bit_xor t.0) m ∙ a.0 ∙ n ∙ ap (λ (l : ℕ). word_of to.side l (path to.digits))
        (sym as_long)
        in
        λ i. record { code = code_of (e i); number = sym a.1 i }

    pub across_seam : (x < 2 ^ 54 → ⊥) → {r : ℕ} → r ≡ name_at (over_seam k (place_at (t.0 + k)))
        → record { code = code_of (r - r % 4); number = r % 4 } ≡ edge_there to
    unfolding name_at word_at
    across_seam h {r} f =
        let c = seam_kept s k in
        let hc = seam_kept_lem s (code_side a_code_here) k hk in
        let es = each (flip c) (digits_in t) in
        let b = step_outside s short these 0 (omega arith) k hk as_word g h in
        let l : length es ≡ degree_of t.0 = each_length (flip c) (digits_in t) ∙ in_length a_code_here in
        let e : r ≡ word_of (seam_side s k) (degree_of t.0) (path es) + flip c k =
        f ∙ ap (λ (q : Place). name_at (over_seam k q)) (numbered_place t z k hk)
        ∙ ap (λ (m : ℕ). word_of (seam_side s k) m (path es) + flip c k) l in
        let i = flip_three c hc k hk in
        let hs = seam_side_lem s (code_side a_code_here) k hk in
        let p = (path_code (seam_side s k) (degree_of t.0) hs.0 hs.1 short (path es)
        (path_lt (flip_digits c hc these))).passes in
        let u : r % 4 ≡ flip c k = ap (λ (y : ℕ). y % 4) e ∙ number_of _ p (flip c k) i in
        let w : r - r % 4 ≡ word_of (seam_side s k) (length es) (path es) =
        ap (λ (y : ℕ). y - y % 4) e ∙ code_of_lem _ p (flip c k) i
        ∙ ap (λ (m : ℕ). word_of (seam_side s k) m (path es)) (sym l) in
        (λ j. record { code = code_of (w j); number = u j }) ∙ ap edge_there (sym b)

-- ---- for the code: round a corner

pub third : (i : ℕ) → OneToThree i → bit_xor i (next i) ≡ next (next i)
third = sound (threes λ i. same (bit_xor i (next i)) (next (next i))) refl

-- the edge that follows the corner
pub around_edge : (r : ℕ) → check_name_fields (name_of r) ≡ 0 → {k : ℕ} → k ≡ next (corner_number r)
    → OneToThree k
around_edge r e f = rw f (next_three (corner_number r) (at_place r e).a_number)

module _ (r : ℕ) (e : check_name_fields (name_of r) ≡ 0) {k x : ℕ} (f : k ≡ next (corner_number r))
    (g : x ≡ span_of r (2 ^ (54 - 2 * degree_of r)) k) where
  abbrev q : Place
  q = place_at r

  a : At (degree_of r) (named (name_of r)) q
  a = at_place r e

  edge : OneToThree k
  edge = around_edge r e f

  low : degree_of r ≤ 24
  low = low_degree r e

  are : AreDigits (degree_of r) q.digits
  are = digits_are_n a low

  hi : q.number < 4
  hi = omega (arith, a.a_number.1)

  pub around_inside : x < 2 ^ 54 → bit_xor r (k * (x + 1)) ≡ name_at (around q)
  unfolding around
  around_inside h =
      let i = corner_number r in
      let s = step_inside q.side low are i hi k edge (word_here r e) g h k (omega (arith, edge.1)) in
      let m : k * (x + 1) ≡ k * x + k = omega arith in
      let n : bit_xor i k ≡ next (step_of k q.side q.digits).edge = ap (bit_xor i) f ∙ third i a.a_number
      ∙ ap next (sym (s.1 ∙ f)) in
      let b = name_word (at_next r e) low in
      ap (bit_xor r) m ∙ s.0 ∙ ap (λ (y : ℕ). word_of (step_of k q.side q.digits).side (degree_of r)
      (path (step_of k q.side q.digits).digits) + y) n
      ∙ rw f (sym b)

  pub around_over : (x < 2 ^ 54 → ⊥) → name_at (over_seam k q) ≡ name_at (around q)
  unfolding around
  around_over h =
      let i = corner_number r in
      let c = seam_kept q.side k in
      let s = step_outside q.side low are i hi k edge (word_here r e) g h in
      let hc = seam_kept_lem q.side a.a_side k edge in
      let n : flip c i ≡ next (flip c k) =
      ap (flip c) (sym (prev_next i a.a_number)) ∙ flip_prev c hc (next i) (next_three i a.a_number)
      ∙ ap (λ (m : ℕ). next (flip c m)) (sym f) in
      let p : over_seam k q ≡ arrived (step_of k q.side q.digits) =
      (λ j. record { side = seam_side q.side k; digits = each (flip c) q.digits; number = n j })
      ∙ ap arrived (sym s) in
      ap name_at (p ∙ ap (λ (m : ℕ). arrived (step_of m q.side q.digits)) f)

-- a word that is the name of a place round the corner: its fields, its unit, its place
module _ {n : ℕ} {P : List ℕ} {q : Place} (a : At n P q) (low : n ≤ 24) {t : ℕ} (f : t ≡ name_at q) where
  pub fields_there : check_name_fields (name_of t) ≡ 0
  fields_there = rw f (name_fields a low)

  pub unit_there : {unit : ℕ} → unit ≡ 2 ^ (54 - 2 * n) → unit ≡ 2 ^ (54 - 2 * degree_of t)
  unit_there g = g ∙ ap (λ (m : ℕ). 2 ^ (54 - 2 * m)) (sym (ap degree_of f ∙ name_degree a low))

  pub place_there : place_at t ≡ q
  place_there = ap place_at f ∙ name_place a low

-- the walk, place by place
module _ (r : ℕ) (e : check_name_fields (name_of r) ≡ 0) (i : ℕ) where
  pub at_walk : At (degree_of r) (named (name_of r)) (ring_at (place_at r) i)
  at_walk = ring_at_lem (degree_of r) (named (name_of r)) (place_at r) (at_place r e) i

  module _ {t : ℕ} (f : t ≡ name_at (ring_at (place_at r) i)) where
    pub word_walk : t - t % 4 ≡ word_at (ring_at (place_at r) i)
    word_walk = word_place t (fields_there at_walk (low_degree r e) f)
        ∙ ap word_at (place_there at_walk (low_degree r e) f)

    pub next_walk : {u : ℕ} → u ≡ name_at (around (place_at t)) → u ≡ name_at (ring_at (place_at r) (suc i))
    unfolding ring_at
    next_walk g = g ∙ ap (λ (q : Place). name_at (around q)) (place_there at_walk (low_degree r e) f)

-- ---- for the code: names round a corner

pub least_none : (m : ℕ) (q : Place) → m ≡ 0 → name_at q ≡ least_name m q
unfolding least_name
least_none m q e = rw e

pub least_more : (m : ℕ) (q : Place) → (m ≡ 0 → ⊥) → min (name_at q) (least_name (m - 1) (around q))
    ≡ least_name m q
unfolding least_name
least_more m q = not_zero (λ m. min (name_at q) (least_name (m - 1) (around q)) ≡ least_name m q)
    (λ m. let e : suc m - 1 ≡ m = omega arith in rw e) m

-- ---- for the code: the word of a side, a degree, a path and a number

module _ (s n v i : ℕ) (hs : IsSide s) (low : n ≤ 24) (hv : v < 2 ^ (2 * n)) (hi : OneToThree i) where
  abbrev pub made : Place
  made = record { side = s; digits = digits_of n v; number = i }

  pub at_made : {P : List ℕ} → corner_of s (digits_of n v) i ≡ P → At n P made
  at_made e = record { a_side = hs; the_digits = of_digits n v; degree = of_length n v; a_number = hi; corner = e }

  made_name : word_of s n v + i ≡ name_at made
  made_name = ap (λ (u : ℕ). word_of s n u + i) (sym (path_of n v hv)) ∙ sym (name_word (at_made refl) low)

  pub made_fits : word_of s n v + i < 2 ^ 64
  made_fits = numbered_fits (code_of (word_of s n v)) (path_code s n hs.0 hs.1 low v hv).passes i hi

  pub made_fields : check_name_fields (name_of (word_of s n v + i)) ≡ 0
  made_fields = rw made_name (name_fields (at_made refl) low)

  pub made_place : place_at (word_of s n v + i) ≡ made
  made_place = ap place_at made_name ∙ name_place (at_made refl) low
