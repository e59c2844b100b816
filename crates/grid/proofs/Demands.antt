-- The three demands hold: a theorem for each part of specs/Demands.antt, where they are stated. Assumes nothing.
use mathlib.Core.Path.{◌≡◌, ◌∙◌, refl, sym, ap, subst}
use mathlib.Core.Logic.{◌⊎◌, inl, inr, ⊎_elim}
use mathlib.Core.List.{List, []}
use Prim.Native.Nat.{ℕ, ◌≤◌}
use native.Mathlib.Omega.{arith}
use lib.ListN.{length, take, drop, length-append}
use lib.Seq.{take-append_seam}
use Rattle.frame.specs.Answers.{Known, Lent, over}
use Rattle.frame.specs.Promises.{◌gives◌}
use Rattle.frame.proofs.Answering.{answering, good, keeps, keeps_is, keeps_known, passed}
use Rattle.words.specs.Words.{corner_number, degree_of, digit_of, digits, first_digits, side_of}
use Rattle.words.specs.Refusals.{IsCode}
use Rattle.words.specs.Family.{code_answer, no_code, refuse_parent, refuse_child, parent_of, child_of, ParentAnswer}
use Rattle.words.specs.Family.{ChildAnswer}
use Rattle.words.specs.declared.TriangleCode.{TriangleCode}
use Rattle.words.specs.Family.{CodeAnswer}
use Rattle.words.proofs.Codes.{code_degree}
use Rattle.words.proofs.ParentChild.{child_has, child_then_parent, parent_then_child}
use Rattle.net.specs.Sides.{OneToThree, next, prev}
use Rattle.net.specs.Division.{Weights, sum, triangle_at, corner_of, divide}
use Rattle.net.specs.Corners.{code_inside, corner, triangle_of, HasCorner, named}
use Rattle.net.specs.Names.{IsName}
use Rattle.net.specs.Steps.{Across}
use Rattle.net.specs.Refusals.{on_one_side}
use Rattle.net.proofs.Canonical.{name_means, name_passes_all}
use Rattle.net.proofs.Demand3.{back_again, one_across, three_distinct, just_two_lem, names_equal}
use Rattle.net.proofs.Stepping.{next_three, prev_three, next_not, prev_not}
use Rattle.net.proofs.Table.{same, sound, threes, ◌or◌}
use Rattle.net.proofs.WayBack.{weights_mean}
use Rattle.filing.specs.Coordinates.{exact}
use Rattle.filing.proofs.OnePoint.{same_point_lem}
use Rattle.filing.proofs.Weighted.{corner_twelve}
use Rattle.corners.specs.Refusals.{refuse_numbered}
use Rattle.corners.specs.Turns.{Turned}
use Rattle.corners.specs.Answers.{Put, name_answer, Named, CrossAnswer, NamingAnswer}
use Rattle.corners.specs.Answers.{BackAnswer}
use Rattle.corners.specs.Answers.{CountAnswer}
use Rattle.corners.specs.Answers.{StepAnswer}
use Rattle.corners.specs.Answers.{NameAnswer}
use Rattle.corners.proofs.Refused.{numbered, numbered_passes, weights_then, name_weights_then, back_passes}
use Rattle.corners.proofs.OneAnswer as corners
use Rattle.points.proofs.OnePlace as points
use Rattle.directions.proofs.OneFiling as directions
use Rattle.grid.proofs.Showing.{gives_code}
use Rattle.grid.specs.Demands.{Demand1, Demand2Codes, Demand2Back, Demand2Files, Demand3}

-- ---- 1

pub demand_1 : Demand1
demand_1 = record {
  check = λ t. keeps_is _ refl (λ n. refl);
  check_names = λ q. keeps_is _ refl (λ n. refl);
  parent = λ t. keeps_known _ _ _ (λ r. r.refusal) refl refl;
  child = λ t d. keeps_known _ _ _ (λ r. r.refusal) refl refl;
  cross = λ t k. keeps (λ r. r.refusal) refl (λ r g. g.number) (corners.cross_some t k) (corners.cross_one t k);
  weights = λ t i out. keeps (λ x. x.0) refl (λ x g. g.0) (corners.weights_some t i out)
      (corners.weights_one t i out);
  name_weights = λ q out. keeps (λ x. x.0) refl (λ x g. g.0) (corners.name_weights_some q out)
      (corners.name_weights_one q out);
  coordinates = λ t i.
      keeps (λ r. r.refusal) refl (λ r g. g.number) (points.place_some t i) (points.place_one t i);
  name_coordinates = λ q. keeps (λ r. r.refusal) refl (λ r g. g.number) (points.name_place_some q)
      (points.name_place_one q);
  ticks = λ t i. keeps (λ r. r.refusal) refl (λ r g. g.number) (points.tick_answer_some t i)
      (points.tick_answer_one t i);
  name_ticks = λ q.
      keeps (λ r. r.refusal) refl (λ r g. g.number) (points.name_tick_some q) (points.name_tick_one q);
  drawn = λ t i. keeps (λ r. r.refusal) refl (λ r g. g.number) (points.draw_some t i) (points.draw_one t i);
  name_drawn = λ q.
      keeps (λ r. r.refusal) refl (λ r g. g.number) (points.name_draw_some q) (points.name_draw_one q);
  naming = λ t i. keeps (λ r. r.refusal) refl (λ r g. g.number) (corners.naming_some t i) (corners.naming_one t i);
  back = λ n weights. keeps (λ r. r.refusal) refl (λ r g. g.number) (corners.back_some n weights)
      (corners.back_one n weights);
  ring = λ q out. keeps (λ x. x.0.refusal) refl (λ x g. ap (λ (r : CountAnswer). r.refusal) g.count)
      (corners.ring_answer_some q out) (corners.ring_answer_one q out);
  file = λ n d. keeps (λ r. r.refusal) refl (λ r g. g.number) (directions.file_some n d) (directions.file_one n d);
  list = λ n d out. keeps (λ x. x.0.refusal) refl (λ x g. ap (λ (r : CountAnswer). r.refusal) g.count)
      (directions.list_some n d out) (directions.list_one n d out);
}

-- ---- 2, from code to corner

-- the three corners of a code, by the division of its side along its digits
triangle_at_lem : (t : TriangleCode) → triangle_of t ≡ triangle_at (side_of t.0) (digits t.0 (degree_of t.0))
unfolding corner corner_of
triangle_at_lem t = refl

side_corners : (t : TriangleCode) → IsCode 0 t → triangle_of t ≡ triangle_at (side_of t.0) []
unfolding first_digits
side_corners t c = triangle_at_lem t ∙ ap (λ (n : ℕ). triangle_at (side_of t.0) (digits t.0 n)) c.degree_is

child_corners : (t : TriangleCode) (d : ℕ) → refuse_child t d ≡ 0
    → triangle_of (child_of t d) ≡ divide d (triangle_of t)
unfolding triangle_at
child_corners t d z =
    let h = child_has t d z in
    let w = (child_of t d).0 in
    triangle_at_lem (child_of t d)
    ∙ ap (λ (n : ℕ). triangle_at (side_of w) (digits w n)) h.code.degree_is
    ∙ (λ i. triangle_at (h.side i) (h.digits_are i))
    ∙ ap (divide d) (sym (triangle_at_lem t))

-- an answered parent or child
was_answered : {r : CodeAnswer} (f : ℕ) (t : TriangleCode) → Known f (code_answer 0 t) no_code r
    → r.refusal ≡ 0 → (f ≡ 0) × (r.code ≡ t)
was_answered f t a z =
    let e = passed (λ r. r.refusal) refl (λ r g. ap (λ (s : CodeAnswer). s.refusal) g) a z in
    (e, ap (λ (s : CodeAnswer). s.code) (a.answered e))

-- twelve weights at the front of a list
front : (p out : List ℕ) → length p ≡ 12 → take 12 (over p out) ≡ p
front p out e = ap (λ (n : ℕ). take n (over p out)) (sym e) ∙ take-append_seam p (drop (length p) out)

-- weights that were answered, with 0
put : {f : ℕ} (p : Weights) {out new : List ℕ} → Lent f (Put p out) (λ k. k) out 0 new
    → (f ≡ 0) × (new ≡ over p out)
put p a = let e = passed (λ x. x.0) refl (λ x g. g.0) a refl in (e, (a.answered e).1)

-- the name of a corner, where naming answers
naming_is : (t : TriangleCode) (i : ℕ) (s : NameAnswer) → NamingAnswer t i s → s.refusal ≡ 0
    → (refuse_numbered t i ≡ 0) × IsName (degree_of t.0) (corner t i) s.name
naming_is t i s a z =
    let f = passed (λ r. r.refusal) refl (λ r g. g.number) a z in
    (f, (a.answered f).is)

pub demand_2_codes : Demand2Codes
unfolding triangle_at
demand_2_codes = record {
  side = side_corners;
  child = λ t d r a z.
      let p = was_answered (refuse_child t d) (child_of t d) a z in
      ap triangle_of p.1 ∙ child_corners t d p.0;
  child_parent = λ t d r a z.
      let p = was_answered (refuse_child t d) (child_of t d) a z in
      subst (λ (u : TriangleCode). ParentAnswer u gives code_answer 0 t) (sym p.1)
      (let e = child_then_parent t d p.0 in gives_code _ _ t e.0 e.1);
  parent_child = λ t r a z.
      let p = was_answered (refuse_parent t) (parent_of t) a z in
      let d = digit_of t.0 (degree_of t.0) in
      subst (λ (u : TriangleCode). ChildAnswer u d gives code_answer 0 t) (sym p.1)
      (let e = parent_then_child t p.0 in gives_code _ _ t e.0 e.1);
  weights = λ t i out new a.
      let p = put (corner t i) a in
      let c = numbered t i ((weights_then t i out).passes.0 p.0).0 in
      ap (take 12) p.1 ∙ front (corner t i) out (corner_twelve c.0 i).places;
  name_weights = λ t i s out new a z b.
      let n = naming_is t i s a z in
      let e : named s.name ≡ corner t i = n.1.there in
      let c = numbered t i n.0 in
      ap (take 12) (put (named s.name) b).1
      ∙ front (named s.name) out (ap length e ∙ (corner_twelve c.0 i).places) ∙ e;
  coordinates = λ t i r a z. (good (λ r. r.refusal) refl (λ r g. g.number) a z).is;
  name_coordinates = λ t i s r a z b.
      let n = naming_is t i s a z in
      let g = b.answered (name_passes_all n.1).0 in
      λ j. record { refusal = g.number j; at = (g.is ∙ ap exact n.1.there) j };
  same_point = same_point_lem;
}

-- ---- 2, from weights back to the name

-- twelve weights of a corner at the front of a list are not refused, and have its name
back_answered : (n : ℕ) (t : TriangleCode) (i : ℕ) (out : List ℕ) (q : NameAnswer) → IsCode n t → OneToThree i
    → Named n (corner t i) q → BackAnswer n (over (corner t i) out) q
back_answered n t i out q c l g =
    let p = corner t i in
    let twelve : length p ≡ 12 = (corner_twelve c i).places in
    let m = (weights_mean n p (code_degree c) twelve).1 (t, c, (i, l, refl)) in
    let e : take 12 (over p out) ≡ p = front p out twelve in
    let long : 12 ≤ length (over p out) = omega (arith, length-append p (drop (length p) out)) in
    answering ((back_passes n (over p out)).1 (code_degree c, long, ap sum e ∙ m.0, ap on_one_side e ∙ m.1))
    (subst (λ (w : Weights). Named n w q) (sym e) g)

pub demand_2_back : Demand2Back
demand_2_back = record {
  back = λ t i out new r s w b a.
      let p = put (corner t i) w in
      let z = ((weights_then t i out).passes.0 p.0).0 in
      let c = numbered t i z in
      corners.back_one (degree_of t.0) new r s b
      (subst (λ (l : List ℕ). BackAnswer (degree_of t.0) l s) (sym p.1)
      (back_answered _ t i out s c.0 c.1 (a.answered z)));
  round = λ n weights r b z. (good (λ r. r.refusal) refl (λ r g. g.number) b z).is.there;
  again = λ q out new r w b.
      let p = put (named q) w in
      let x = ((name_means q).0 ((name_weights_then q out).passes.0 p.0).0).1 in
      corners.back_one (degree_of q.0) new r (name_answer 0 q) b
      (subst (λ (l : List ℕ). BackAnswer (degree_of q.0) l (name_answer 0 q)) (sym p.1)
      (back_answered _ (code_inside q) (corner_number q.0) out (name_answer 0 q) x.code x.number
      (record { number = refl; is = x })));
}

pub demand_2_files : Demand2Files
demand_2_files = record {
  holds = λ n d r a z. let g = (good (λ r. r.refusal) refl (λ r g. g.number) a z).is in (g.code, g.holds);
  least = λ n d r a z. (good (λ r. r.refusal) refl (λ r g. g.number) a z).is.least;
}

-- ---- 3

-- a crossing that was answered
module _ (t : TriangleCode) (k : ℕ) (r : StepAnswer) (a : CrossAnswer t k r) (z : r.refusal ≡ 0) where
  none : refuse_numbered t k ≡ 0
  none = passed (λ r. r.refusal) refl (λ r g. g.number) a z

  pub crossed_is : IsCode (degree_of t.0) t × OneToThree k × Across (degree_of t.0) t k r.code r.edge
  crossed_is = let c = numbered t k none in (c.0, c.1, (a.answered none).across)

  pub crossed_turned : Turned t k r.code r.first r.second
  crossed_turned = (a.answered none).turned

-- of the numbers 1 to 3 the two that are not k
other_two : (k : ℕ) → OneToThree k → (i : ℕ) → OneToThree i
    → (i ≡ k) ⊎ ((next k ≡ i) ⊎ (prev k ≡ i))
other_two = sound (threes λ k. threes λ i. same i k or (same (next k) i or same (prev k) i)) refl

pub demand_3 : Demand3
demand_3 = record {
  one_other = λ n t k c l.
      let x = one_across n t k c l in
      (x.0, record { meets = (x.1, x.2); only = λ u p. (x.3 u p.0 p.1).0 });
  crossed = λ n t k r c l a.
      let g = a.answered ((numbered_passes t k).1 (c.passes, l)) in
      (g.number, subst (λ (m : ℕ). Across m t k r.code r.edge) c.degree_is g.across);
  distinct = λ t j k r s a b y z n.
      let p = crossed_is t j r a y in
      let q = crossed_is t k s b z in
      three_distinct _ t j k p.0 p.1 q.1 n r.code s.code r.edge s.edge p.2 q.2;
  just_two = λ t k r p a z.
      let x = crossed_is t k r a z in
      let just = just_two_lem _ t k x.0 x.1 r.code r.edge x.2 in (
        λ h.
            let i = h.0.0 in
            let e : corner t i ≡ p = h.0.2 in
            let u : HasCorner r.code (corner t i) = (h.1.0, h.1.1, h.1.2 ∙ sym e) in
            ⊎_elim (λ f. inl (ap (corner t) f ∙ e)) (λ f. inr (ap (corner t) f ∙ e))
            (⊎_elim (λ f. absurd ((just i h.0.1).0 u f)) (λ f. f) (other_two k x.1 i h.0.1)),
        ⊎_elim
            (λ e. shared t r.code (next k) (next_three k x.1) e
            ((just (next k) (next_three k x.1)).1 (next_not k x.1)))
            (λ e. shared t r.code (prev k) (prev_three k x.1) e
            ((just (prev k) (prev_three k x.1)).1 (prev_not k x.1))),
      );
  back = λ t k r s a z b.
      let x = crossed_is t k r a z in
      let y = x.2 in
      let w = b.answered ((numbered_passes r.code r.edge).1 (y.code.passes, y.edge)) in
      let v : Across (degree_of t.0) r.code r.edge s.code s.edge =
      rw y.code.degree_is at w.across in
      let q = back_again _ t k x.0 x.1 r.code r.edge y s.code s.edge v in
      (w.number, q.0, q.1);
  names = λ t u i j r s a b y z d.
      let p = (naming_is t i r a y).1 in
      let q = (naming_is u j s b z).1 in
      names_equal (degree_of t.0) (corner t i) (corner u j) r.name s.name p
      (subst (λ (m : ℕ). IsName m (corner u j) s.name) (sym d) q);
}
  where
    shared : (t u : TriangleCode) {p : Weights} (i : ℕ) → OneToThree i → corner t i ≡ p
        → HasCorner u (corner t i) → HasCorner t p × HasCorner u p
    shared t u i l e h = ((i, l, e), (h.0, h.1, h.2 ∙ e))
