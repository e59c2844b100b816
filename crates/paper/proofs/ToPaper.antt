-- Our words in the paper's notation: how digits are laid behind the first places of a lent list; the code of a domain;
-- what is refused, and what is answered where nothing is. Assumes nothing.
use mathlib.Core.Path.{◌≡◌, ◌∙◌, refl, sym, ap, subst, subst₂}
use mathlib.Core.Bool.{true}
use mathlib.Core.List.{List, [], ◌∷◌, ◌++◌, reverse, reverse-reverse}
use Prim.Native.Nat.{ℕ, ◌+◌, ◌-◌, ◌/◌, ◌%◌, ◌^◌, ◌≤◌}
use native.Mathlib.Nat.{zero-add}
use native.Mathlib.Omega.{arith}
use lib.ListN.{length, take, drop}
use lib.Seq.{length-sets, sets, sets-eq, take_at}
use borrow.Author.Tests.{le-leb}
use borrow.Rule.Slice.PartMut.{put_mid, same_len_mid}
use Rattle.frame.specs.Answers.{over}
use Rattle.frame.specs.Refusals.{order}
use Rattle.frame.proofs.Answering.{answering}
use Rattle.frame.proofs.Lengths.{ThenNine, then_nine, two_parts}
use Rattle.words.specs.Words.{corner_number, degree_of, digits, path, side, side_of}
use Rattle.words.specs.Refusals.{IsCode, check_code, code_rows}
use Rattle.words.specs.declared.TriangleCode.{TriangleCode}
use Rattle.words.specs.declared.CornerName.{CornerName}
use Rattle.words.proofs.Codes.{code_degree, code_side, is_code}
use Rattle.words.proofs.Digits.{digits_are}
use Rattle.net.specs.Division.{Weights, sum}
use Rattle.net.specs.Corners.{code_inside, corner, named}
use Rattle.net.specs.Names.{IsName}
use Rattle.net.specs.Refusals.{canonical_rows, check_name}
use Rattle.net.specs.Means.Paths.{digits_of}
use Rattle.net.proofs.Canonical.{name_means}
use Rattle.net.proofs.CodePlaces.{code_for, code_for_lem, corner_at, digits_in, in_digits, in_length}
use Rattle.net.proofs.Demand3.{add_up_lem}
use Rattle.net.proofs.Loads.{corner_is}
use Rattle.net.proofs.Paths.{of_length, of_path}
use Rattle.net.proofs.StateCode.{spread_length}
use Rattle.corners.specs.Answers.{count_answer}
use Rattle.notation.specs.Domains.{are_digits, is_domain}
use Rattle.notation.specs.Same.{SameDomain, SameVertex}
use Rattle.notation.specs.Means.Reading.{IsVertexOf}
use Rattle.notation.specs.declared.Vertex.{Vertex}
use Rattle.notation.proofs.Domains.{Read, are_reverse, ours, ours_same}
use Rattle.notation.proofs.Reading.{reverse_long}
use Rattle.paper.specs.Answers.{ToDomainAnswer, ToVertexAnswer}
use Rattle.paper.specs.Refusals.{refuse_to_domain, refuse_to_vertex}

-- ---- the first places, set one by one, and the digits of a path behind them

set_front : (xs out : List ℕ) → length xs ≤ length out → sets out 0 xs ≡ over xs out
set_front xs out l =
    sets-eq xs out 0 (omega arith) ∙ ap (λ (n : ℕ). xs ++ drop n out) (zero-add (length xs))

laid : (xs ds out late : List ℕ) (n v : ℕ) → length xs ≤ length out → digits_of n v ≡ ds
    → (let mid = sets out 0 xs in
    let h = length xs in
    late ≡ over (reverse (digits_of n v)) (take (length mid - h) (drop h mid))
    → put_mid h (length mid - h) mid late ≡ over (xs ++ reverse ds) out)
laid xs ds out late n v l e p =
    two_parts out (sets out 0 xs) late xs (reverse (digits_of n v)) (length xs) refl (set_front xs out l) p
    ∙ ap (λ (ds : List ℕ). over (xs ++ reverse ds) out) e

-- as long as it was
pub laid_long : (xs out late : List ℕ)
    → (let mid = sets out 0 xs in
    let h = length xs in
    length late ≡ length (take (length mid - h) (drop h mid))
    → length (put_mid h (length mid - h) mid late) ≡ length out)
laid_long xs out late e =
    same_len_mid (length xs) (length (sets out 0 xs) - length xs) (sets out 0 xs) late e ∙ length-sets out 0 xs

-- ---- the code of a domain

module _ {n : ℕ} {t : TriangleCode} (c : IsCode n t) where
  abbrev s : ℕ
  s = side_of t.0

  abbrev rs : List ℕ
  rs = reverse (digits_in t)

  abbrev code : List ℕ
  code = s / 4 ∷ s / 2 % 2 ∷ s % 2 ∷ rs

  rs_ok : are_digits rs ≡ true
  rs_ok = are_reverse [] (in_digits c) refl

  long : length code ≡ 3 + n
  long = omega (arith, reverse_long (digits_in t) ∙ in_length c)

  reading : Read code
  reading = record {
    a = s / 4;
    p = s / 2 % 2;
    q = s % 2;
    rs = rs;
    is = refl;
    a_low = omega (arith, code_side c);
    a_high = omega (arith, code_side c);
    p_ok = omega arith;
    q_ok = omega arith;
    rs_ok = rs_ok;
  }

  allowed : is_domain code ≡ true
  unfolding reading
  allowed = rw (
    le-leb 1 (s / 4) reading.a_low,
    le-leb (s / 4) 5 reading.a_high,
    le-leb (s / 2 % 2) 1 reading.p_ok,
    le-leb (s % 2) 1 reading.q_ok,
  ) rs_ok

  pub same_domain : SameDomain n code t
  unfolding reading
  same_domain =
      let short : length code ≤ 27 = omega (arith, long, code_degree c) in
      let f : side (s / 4) (s / 2 % 2) (s % 2) ≡ s = omega arith in
      let e : ours code reading short ≡ t = (λ i. code_for (f i) (reverse-reverse (digits_in t) i)) ∙ sym (code_for_lem c) in
      subst (λ (m : ℕ). SameDomain m code t) c.degree_is
      (subst (λ (t : TriangleCode). SameDomain (degree_of t.0) code t) e (ours_same code reading short allowed))

-- ---- the call

module _ (t : TriangleCode) (out : List ℕ) where
  pub domain_then : ThenNine (check_code t) (refuse_to_domain t out) 27 (length out)
  unfolding refuse_to_domain check_code
  domain_then = then_nine order order (code_rows t) 27 out tt tt

  -- what was written is the code of the domain
  pub to_answers : (s n v : ℕ) (late : List ℕ) → check_code t ≡ 0 → 27 ≤ length out
      → s ≡ side_of t.0 → n ≡ degree_of t.0 → v ≡ path (digits t.0 n)
      → (let mid = sets out 0 (s / 4 ∷ s / 2 % 2 ∷ s % 2 ∷ []) in
      late ≡ over (reverse (digits_of n v)) (take (length mid - 3) (drop 3 mid))
      → ToDomainAnswer t out (count_answer 0 (n + 3)) (put_mid 3 (length mid - 3) mid late))
  to_answers s n v late z l es en ev el =
      let c = is_code t z in
      let d : digits_of n v ≡ digits_in t = ap (digits_of n) ev ∙ of_path (digits_are t.0 n) ∙ ap (digits t.0) en in
      let put = laid (s / 4 ∷ s / 2 % 2 ∷ s % 2 ∷ []) (digits_in t) out late n v (omega arith) d el in
      answering (domain_then.passes.1 (z, l)) (record {
        list = code c;
        good = same_domain c;
        count = ap (count_answer 0) (omega (arith, long c, en));
        put = put ∙ ap (λ (s : ℕ). over (s / 4 ∷ s / 2 % 2 ∷ s % 2 ∷ reverse (digits_in t)) out) es;
      })

-- ---- the code of a vertex

module _ (q : CornerName) (z : check_name q ≡ 0) where
  is_name : IsName (degree_of q.0) (named q) q
  is_name = ((name_means q).0 z).1

  pub name_degree : degree_of q.0 ≤ 24
  name_degree = code_degree is_name.code

  twelve : length (named q) ≡ 12
  twelve =
      let t = code_inside q in
      let i = corner_number q.0 in
      ap length (corner_at t i ∙ corner_is (side_of t.0) (digits_in t) i) ∙ spread_length (side_of t.0) _

  -- the weights that were written over a list of twelve
  module _ {t : TriangleCode} (old : List ℕ) {new : List ℕ} (e : t ≡ code_inside q)
      (f : new ≡ over (corner t (corner_number q.0)) old) where
    weights_are : take 12 new ≡ named q
    weights_are =
        let g : new ≡ over (named q) old = f ∙ ap (λ (t : TriangleCode). over (corner t (corner_number q.0)) old) e in
        ap (take 12) g ∙ take_at (named q) (drop (length (named q)) old) 12 twelve

    pub weights_sum : {n : ℕ} → n ≡ degree_of q.0 → sum (take 12 new) ≡ 2 ^ n
    weights_sum d = ap sum weights_are ∙ add_up_lem _ _ _ is_name.code ∙ ap (λ (m : ℕ). 2 ^ m) (sym d)

    pub vertex_same : {n : ℕ} (x : Vertex) → n ≡ degree_of q.0 → IsVertexOf n (take 12 new) x
        → SameVertex (degree_of q.0) (x.a ∷ x.p ∷ reverse (digits_of n x.path)) q
    vertex_same {n} x d h =
        subst (λ (m : ℕ). SameVertex m (x.a ∷ x.p ∷ reverse (digits_of n x.path)) q) d
        (h q (subst₂ (λ (m : ℕ) (w : Weights). IsName m w q) (sym d) (sym weights_are) is_name))

module _ (q : CornerName) (out : List ℕ) where
  pub vertex_then : ThenNine (check_name q) (refuse_to_vertex q out) 26 (length out)
  unfolding refuse_to_vertex check_name
  vertex_then = then_nine order order (canonical_rows q) 26 out tt tt

  pub vertex_answers : (x : Vertex) (n : ℕ) (late : List ℕ) → check_name q ≡ 0 → 26 ≤ length out
      → SameVertex (degree_of q.0) (x.a ∷ x.p ∷ reverse (digits_of n x.path)) q
      → (let mid = sets out 0 (x.a ∷ x.p ∷ []) in
      late ≡ over (reverse (digits_of n x.path)) (take (length mid - 2) (drop 2 mid))
      → ToVertexAnswer q out (count_answer 0 (n + 2)) (put_mid 2 (length mid - 2) mid late))
  vertex_answers x n late z l s el =
      let ds = digits_of n x.path in
      answering (vertex_then.passes.1 (z, l)) (record {
        list = x.a ∷ x.p ∷ reverse ds;
        good = s;
        count = ap (count_answer 0) (omega (arith, reverse_long ds, of_length n x.path));
        put = laid (x.a ∷ x.p ∷ []) ds out late n x.path (omega arith) refl el;
      })
