-- The step across an edge of any side: what it answers, and that it is the only such answer. Assumes nothing.
use mathlib.Core.Path.{◌≡◌, ◌∙◌, refl, sym, ap}
use mathlib.Core.List.{List}
use mathlib.Core.Logic.{◌⊎◌, inl, inr, ⊎_elim}
use Prim.Native.Nat.{ℕ, ◌+◌, ◌^◌, ◌≤◌}
use native.Mathlib.Omega.{arith}
use lib.ListN.{length}
use Rattle.net.specs.Division.{corner_of, each, kept}
use Rattle.net.specs.Means.Seams.{flip, seam_kept, seam_side}
use Rattle.net.specs.Means.Spreads.{spread}
use Rattle.net.specs.Means.States.{Move, across, cross, inside, map, outside, point_of, state_of}
use Rattle.net.specs.Means.Walks.{Arrival, arrival, step_of}
use Rattle.net.specs.Sides.{IsSide, OneToThree, corner_vertex, next, prev}
use Rattle.net.specs.declared.Point.{Point}
use Rattle.net.specs.declared.State.{State}
use Rattle.net.proofs.Flips.{each_length, flip_digits, flip_next, flip_prev, flip_three, over_seam, turn, turn_across, turn_all, turn_corner}
use Rattle.net.proofs.Halving.{one_list}
use Rattle.net.proofs.InnerStep.{crossing}
use Rattle.net.proofs.Loads.{HasAt, corner_is, same_weights, spread_one, weight, weight_has, weight_other, weight_own}
use Rattle.net.proofs.Paths.{Digits, Kept, are_digits_lem, are_length, cross_kept}
use Rattle.net.proofs.SharedVertices.{HasVertex, has_or_not, only_two, seam_joins, seam_kept_lem, seam_lacks, seam_side_lem, vertex_small}
use Rattle.net.proofs.StateCorners.{In, Shares, apex, corner_in, loaded, shares, two_corners, up_apex}
use Rattle.net.proofs.Table.{either_way, same, three}
use Rattle.net.proofs.Totals.{total_is}

pub next_three : (k : ℕ) → OneToThree k → OneToThree (next k)
next_three = three (λ k. OneToThree (next k)) (omega arith) (omega arith) (omega arith)

pub prev_three : (k : ℕ) → OneToThree k → OneToThree (prev k)
prev_three = three (λ k. OneToThree (prev k)) (omega arith) (omega arith) (omega arith)

pub next_not : (k : ℕ) → OneToThree k → next k ≡ k → ⊥
next_not = three (λ k. next k ≡ k → ⊥) (λ e. omega arith) (λ e. omega arith) (λ e. omega arith)

pub prev_not : (k : ℕ) → OneToThree k → prev k ≡ k → ⊥
prev_not = three (λ k. prev k ≡ k → ⊥) (λ e. omega arith) (λ e. omega arith) (λ e. omega arith)

-- a corner is a point of the state, spread over the side's vertices
pub has_point : (t : ℕ) (es P : List ℕ) → HasAt t es P → (q : Point) × In (state_of es) q × (spread t q ≡ P)
has_point t es P h = (point_of h.0 (state_of es), corner_in h.0 (state_of es), sym (corner_is t es h.0) ∙ h.2)

pub has_in : (s : ℕ) (ds : List ℕ) (p : Point) → IsSide s → HasAt s ds (spread s p) → In (state_of ds) p
has_in s ds p h c = let q = has_point s ds (spread s p) c in rw (spread_one s q.0 p h q.2) at q.1

left_side : (m : Move (List ℕ)) → map state_of m ≡ outside → m ≡ outside
left_side (inside es) e = let z : ◌≡◌ {A = ℕ} 0 1 = cc in absurd (omega arith)
left_side outside e = refl

-- INSIDE A SIDE: a triangle with both ends of edge k is the triangle itself, or the one that the step finds
module _ (k s : ℕ) (ds : List ℕ) (l : OneToThree k) (hs : IsSide s) (hd : Digits ds) where
  found : (es : List ℕ) → Digits es → length es ≡ length ds → (m : Move (List ℕ)) → Kept m (length ds) → map state_of m ≡ inside (state_of es) → m ≡ inside es
  found es he n (inside fs) kept e =
      let f : state_of fs ≡ state_of es = cc in ap inside (one_list fs es (are_length kept ∙ sym n) (are_digits_lem kept) he f)
  found es he n outside kept e = let z : ◌≡◌ {A = ℕ} 0 1 = cc in absurd (omega arith)

  pub here : (es : List ℕ) → Digits es → length es ≡ length ds
      → HasAt s es (corner_of s ds (next k)) → HasAt s es (corner_of s ds (prev k)) → (es ≡ ds) ⊎ (cross k ds ≡ inside es)
  here es he n p q =
      ⊎_elim (λ e. inl (one_list es ds n he hd e))
      (λ e. inr (found es he n (cross k ds) (cross_kept k ds l.0 l.1 hd) (crossing k ds l.0 l.1 hd ∙ e)))
      (two_corners k l (state_of ds) (state_of es) (total_is es ∙ ap (λ (i : ℕ). 2 ^ i) n ∙ sym (total_is ds))
      (has_in s es _ hs (rw (corner_is s ds (next k)) at p)) (has_in s es _ hs (rw (corner_is s ds (prev k)) at q)))

-- what a step answers: a triangle of the same degree that has the edge's two ends, numbered the other way round, and not the third corner
pub record Beside (k s : ℕ) (ds : List ℕ) (r : Arrival) : Type 0 where
  pub a_side : IsSide r.side
  pub the_digits : Digits r.digits
  pub degree : length r.digits ≡ length ds
  pub an_edge : OneToThree r.edge
  pub after : corner_of r.side r.digits (prev r.edge) ≡ corner_of s ds (next k)
  pub before : corner_of r.side r.digits (next r.edge) ≡ corner_of s ds (prev k)
  pub apart : HasAt r.side r.digits (corner_of s ds k) → ⊥

module _ (k s : ℕ) (ds : List ℕ) (l : OneToThree k) (hs : IsSide s) (hd : Digits ds) where
  crossed : (m : Move (List ℕ)) → cross k ds ≡ m → across k (state_of ds) ≡ map state_of m
  crossed m e = sym (crossing k ds l.0 l.1 hd) ∙ ap (map state_of) e

  inside_beside : (es : List ℕ) → cross k ds ≡ inside es → Beside k s ds (arrival k s ds (inside es))
  inside_beside es e =
      let kept : Kept (inside es) (length ds) = rw e at (cross_kept k ds l.0 l.1 hd) in
      let f : Shares k (state_of ds) (inside (state_of es)) = rw (crossed (inside es) e) at (shares k l (state_of ds)) in
      record {
        a_side = hs;
        the_digits = are_digits_lem kept;
        degree = are_length kept;
        an_edge = l;
        after = corner_is s es (prev k) ∙ ap (spread s) f.0 ∙ sym (corner_is s ds (next k));
        before = corner_is s es (next k) ∙ ap (spread s) f.1 ∙ sym (corner_is s ds (prev k));
        apart = λ h. f.2 (has_in s es _ hs (rw (corner_is s ds k) at h));
      }

  -- over the seam
  there : List ℕ
  there = each (flip (seam_kept s k)) ds

  seam_corner : (i : ℕ) → OneToThree i → (i ≡ k → ⊥) → weight k (point_of i (state_of ds)) ≡ 0 → corner_of (seam_side s k) there (flip (seam_kept s k) i) ≡ corner_of s ds i
  unfolding there
  seam_corner i m f z =
      let lc = seam_kept_lem s hs k l in
      corner_is (seam_side s k) there (flip (seam_kept s k) i)
      ∙ ap (λ (a : State). spread (seam_side s k) (point_of (flip (seam_kept s k) i) a)) (turn_all (seam_kept s k) lc ds hd)
      ∙ ap (spread (seam_side s k)) (turn_corner (seam_kept s k) lc i m (state_of ds))
      ∙ over_seam s (seam_side s k) (seam_kept s k) k lc (seam_joins s hs k l) (point_of i (state_of ds)) z
      ∙ sym (corner_is s ds i)

  seam_after : across k (state_of ds) ≡ outside → corner_of (seam_side s k) there (prev (flip (seam_kept s k) k)) ≡ corner_of s ds (next k)
  seam_after e =
      let f : Shares k (state_of ds) outside = rw e at (shares k l (state_of ds)) in
      rw (flip_next (seam_kept s k) (seam_kept_lem s hs k l) k l) at (seam_corner (next k) (next_three k l) (next_not k l) f.0)

  seam_before : across k (state_of ds) ≡ outside → corner_of (seam_side s k) there (next (flip (seam_kept s k) k)) ≡ corner_of s ds (prev k)
  seam_before e =
      let f : Shares k (state_of ds) outside = rw e at (shares k l (state_of ds)) in
      rw (flip_prev (seam_kept s k) (seam_kept_lem s hs k l) k l) at (seam_corner (prev k) (prev_three k l) (prev_not k l) f.1)

  seam_beside : cross k ds ≡ outside → Beside k s ds (arrival k s ds outside)
  unfolding there
  seam_beside e =
      let lc = seam_kept_lem s hs k l in
      let o = crossed outside e in
      record {
        a_side = seam_side_lem s hs k l;
        the_digits = are_digits_lem (flip_digits (seam_kept s k) lc hd);
        degree = each_length (flip (seam_kept s k)) ds;
        an_edge = flip_three (seam_kept s k) lc k l;
        after = seam_after o;
        before = seam_before o;
        apart = λ h. let q = has_point (seam_side s k) there (corner_of s ds k) h in
            seam_lacks s hs k l (weight_has s (seam_side s k) (point_of k (state_of ds)) q.0 hs (sym (corner_is s ds k) ∙ sym q.2) k l (up_apex k l (state_of ds) o));
      }

  pub step_beside : Beside k s ds (step_of k s ds)
  unfolding step_of
  step_beside = go (cross k ds) refl
    where
      go : (m : Move (List ℕ)) → cross k ds ≡ m → Beside k s ds (arrival k s ds m)
      go (inside es) e = inside_beside es e
      go outside e = seam_beside e

  -- ACROSS ALL SIDES: a triangle of the degree with both ends of edge k is the triangle itself, or the one that the step finds
  only_there : across k (state_of ds) ≡ outside → (es : List ℕ) → Digits es → length es ≡ length ds
      → HasAt (seam_side s k) es (corner_of s ds (next k)) → HasAt (seam_side s k) es (corner_of s ds (prev k)) → es ≡ there
  unfolding there
  only_there o es he n p q =
      let lc = seam_kept_lem s hs k l in
      let lk = flip_three (seam_kept s k) lc k l in
      let hf = are_digits_lem (flip_digits (seam_kept s k) lc hd) in
      let no_way : across (flip (seam_kept s k) k) (state_of there) ≡ outside =
      ap (across (flip (seam_kept s k) k)) (turn_all (seam_kept s k) lc ds hd) ∙ turn_across (seam_kept s k) lc k l (state_of ds) ∙ ap (map (turn (seam_kept s k))) o in
      ⊎_elim (λ e. e)
      (λ e. let z : outside ≡ inside (state_of es) = sym no_way ∙ sym (crossing (flip (seam_kept s k) k) there lk.0 lk.1 hf) ∙ ap (map state_of) e in
      let w : ◌≡◌ {A = ℕ} 0 1 = cc in absurd (omega arith))
      (here (flip (seam_kept s k) k) (seam_side s k) there lk (seam_side_lem s hs k l) hf es he (n ∙ sym (each_length (flip (seam_kept s k)) ds))
      (rw (← seam_before o) at q) (rw (← seam_after o) at p))

  module _ (t : ℕ) (es : List ℕ) (ht : IsSide t) (he : Digits es) (n : length es ≡ length ds)
      (p : HasAt t es (corner_of s ds (next k))) (q : HasAt t es (corner_of s ds (prev k))) where
    a_vertex : (j : ℕ) → OneToThree j → 1 ≤ weight j (point_of (next k) (state_of ds)) + weight j (point_of (prev k) (state_of ds)) → HasVertex t (corner_vertex s j)
    a_vertex j m h =
        let f = has_point t es _ p in
        let g = has_point t es _ q in
        ⊎_elim (λ y. y)
        (λ y. absurd
        (omega (
          arith,
          weight_own s (point_of (next k) (state_of ds)) hs j m,
          weight_own s (point_of (prev k) (state_of ds)) hs j m,
          same_weights s t _ f.0 (sym (corner_is s ds (next k)) ∙ sym f.2) _ (vertex_small s hs j m),
          same_weights s t _ g.0 (sym (corner_is s ds (prev k)) ∙ sym g.2) _ (vertex_small s hs j m),
          weight_other t (corner_vertex s j) f.0 y,
          weight_other t (corner_vertex s j) g.0 y,
        )))
        (has_or_not t (corner_vertex s j))

    abbrev Only : Type 0
    Only = ((t ≡ s) × (es ≡ ds)) ⊎ ((t ≡ (step_of k s ds).side) × (es ≡ (step_of k s ds).digits))

    at_inside : t ≡ s → cross k ds ≡ inside es → Only
    unfolding step_of
    at_inside e f = inr (rw f (e, refl))

    at_outside : t ≡ seam_side s k → across k (state_of ds) ≡ outside → Only
    unfolding step_of there
    at_outside e o =
        let f = left_side (cross k ds) (crossing k ds l.0 l.1 hd ∙ o) in
        inr (rw f (e, only_there o es he n (rw e at p) (rw e at q)))

    own : t ≡ s → Only
    own e = ⊎_elim (λ f. inl (e, f)) (at_inside e) (here k s ds l hs hd es he n (rw e at p) (rw e at q))

    other : (t ≡ s → ⊥) → Only
    other f =
        let w = loaded k l (state_of ds) in
        ⊎_elim (λ e. absurd (f e))
        (λ e. ⊎_elim (at_outside e) (λ x. absurd (seam_lacks s hs k l (rw e at (a_vertex k l x)))) (apex k l (state_of ds)))
        (only_two s hs k l t ht (a_vertex (next k) (next_three k l) w.0) (a_vertex (prev k) (prev_three k l) w.1))

    pub step_only : ((t ≡ s) × (es ≡ ds)) ⊎ ((t ≡ (step_of k s ds).side) × (es ≡ (step_of k s ds).digits))
    step_only = ⊎_elim own other (either_way (same t s))
