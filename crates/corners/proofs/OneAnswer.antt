-- For every input there is a result that meets a call's statement, and any two that do are equal. (Checking a name: the
-- statement is an equation.) Assumes nothing.
use mathlib.Core.Path.{◌≡◌, ◌∙◌, refl, sym, subst}
use mathlib.Core.List.{List}
use Prim.Native.Nat.{ℕ}
use lib.ListN.{length, take}
use lib.Seq.{length-take-le}
use Rattle.frame.specs.Answers.{Listed, over}
use Rattle.frame.specs.Promises.{together}
use Rattle.frame.proofs.Answering.{answer_one, answer_some, listed_one}
use Rattle.words.proofs.Codes.{code_degree, name_code}
use Rattle.words.specs.Words.{corner_number, degree_of}
use Rattle.words.specs.declared.CornerName.{CornerName}
use Rattle.words.specs.declared.TriangleCode.{TriangleCode}
use Rattle.net.specs.Corners.{name_of, code_inside, corner, named}
use Rattle.corners.specs.Answers.{BackAnswer, CrossAnswer, Crossed, NameWeightsAnswer}
use Rattle.corners.specs.Answers.{Named, NamingAnswer, Put, RingAnswer, WeightsAnswer, count_answer, name_answer}
use Rattle.corners.specs.Answers.{no_count, no_name, no_step, step_answer}
use Rattle.net.specs.Division.{Weights}
use Rattle.net.specs.Means.Walks.{least_name, ring_words}
use Rattle.net.specs.Names.{IsName}
use Rattle.corners.specs.Turns.{Turned}
use Rattle.net.specs.Steps.{IsRing, non_zeros, ring_size}
use Rattle.corners.specs.Answers.{CountAnswer}
use Rattle.corners.specs.Answers.{NameAnswer}
use Rattle.corners.specs.Answers.{StepAnswer}
use Rattle.net.proofs.Canonical.{name_means}
use Rattle.net.proofs.Crossing.{across_is, across_only, code_across, edge_across}
use Rattle.net.proofs.Demand3.{one_name_each}
use Rattle.net.proofs.LeastName.{least_is_name, place_in_lem, place_in}
use Rattle.net.proofs.Names.{one_name}
use Rattle.corners.proofs.Refused.{back_passes, numbered, ring_then}
use Rattle.corners.proofs.TurnedCorners.{turned_is, turned_one}
use Rattle.net.proofs.RingCodes.{ring_is, ring_one}
use Rattle.net.proofs.WayBack.{weights_mean}

pub cross_one : (t : TriangleCode) (k : ℕ) (r r' : StepAnswer) → CrossAnswer t k r → CrossAnswer t k r'
    → r ≡ r'
cross_one t k r r' =
    answer_one (λ z x y.
    let c = numbered t k z in
    let a = across_only c.0 k c.1 r.code r.edge x.across in
    let b = across_only c.0 k c.1 r'.code r'.edge y.across in
    let e : r.code ≡ r'.code = a.0 ∙ sym b.0 in
    let there : Turned t k r'.code r.first r.second = rw (sym e) x.turned in
    let d = turned_one y.across.code there y.turned in
    λ i. record {
      refusal = (x.number ∙ sym y.number) i;
      code = e i;
      edge = (a.1 ∙ sym b.1) i;
      first = d.0 i;
      second = d.1 i;
    })

pub cross_some : (t : TriangleCode) (k : ℕ) → (r : StepAnswer) × CrossAnswer t k r
cross_some t k =
    answer_some _ (Crossed t k) no_step
    (λ z. let c = numbered t k z in
    let a = across_is c.0 k c.1 in (
      step_answer 0 (code_across k t) (edge_across k t) _ _,
      record { number = refl; across = a; turned = turned_is c.0 c.1 a },
    ))

named_one : {n : ℕ} {p : Weights} {r r' : NameAnswer} → Named n p r → Named n p r' → r ≡ r'
named_one x y = λ i. record { refusal = (x.number ∙ sym y.number) i; name = one_name x.is y.is i }

pub naming_one : (t : TriangleCode) (i : ℕ) (r r' : NameAnswer) → NamingAnswer t i r → NamingAnswer t i r'
    → r ≡ r'
naming_one t i r r' = answer_one (λ z x y. named_one x y)

pub naming_some : (t : TriangleCode) (i : ℕ) → (r : NameAnswer) × NamingAnswer t i r
naming_some t i =
    answer_some _ (Named (degree_of t.0) (corner t i)) no_name
    (λ z. let c = numbered t i z in (
      name_answer 0 (name_of (least_name 5 (place_in t i))),
      record {
        number = refl;
        is = least_is_name _ (corner t i) (place_in t i) (place_in_lem c.0 c.1) (code_degree c.0);
      },
    ))

pub back_one : (n : ℕ) (weights : List ℕ) (r r' : NameAnswer) → BackAnswer n weights r
    → BackAnswer n weights r' → r ≡ r'
back_one n weights r r' = answer_one (λ z x y. named_one x y)

pub back_some : (n : ℕ) (weights : List ℕ) → (r : NameAnswer) × BackAnswer n weights r
back_some n weights =
    answer_some _ (Named n (take 12 weights)) no_name
    (λ z. let p = (back_passes n weights).0 z in
    let x = (weights_mean n (take 12 weights) p.0 (length-take-le 12 weights p.1)).0 (p.2, p.3) in
    let i = x.2 in
    let m = one_name_each n x.0 i.0 x.1 i.1 in
    (name_answer 0 m.0, record { number = refl; is = subst (λ (w : Weights). IsName n w m.0) i.2 m.1 }))

-- ---- with a lent list: the answer and the list as it is left, together

put_one : (p : Weights) (out : List ℕ) {x y : ℕ × List ℕ} → together (Put p out) x → together (Put p out) y
    → x ≡ y
put_one p out a b = λ i. ((a.0 ∙ sym b.0) i, (a.1 ∙ sym b.1) i)

pub weights_one : (t : TriangleCode) (i : ℕ) (out : List ℕ) (x y : ℕ × List ℕ)
    → together (WeightsAnswer t i out) x → together (WeightsAnswer t i out) y → x ≡ y
weights_one t i out x y = answer_one (λ z. put_one (corner t i) out)

pub weights_some : (t : TriangleCode) (i : ℕ) (out : List ℕ)
    → (x : ℕ × List ℕ) × together (WeightsAnswer t i out) x
weights_some t i out =
    answer_some _ (together (Put (corner t i) out)) (λ f. (f, out)) (λ z. ((0, over (corner t i) out), (refl, refl)))

pub name_weights_one : (q : CornerName) (out : List ℕ) (x y : ℕ × List ℕ)
    → together (NameWeightsAnswer q out) x → together (NameWeightsAnswer q out) y → x ≡ y
name_weights_one q out x y = answer_one (λ z. put_one (named q) out)

pub name_weights_some : (q : CornerName) (out : List ℕ)
    → (x : ℕ × List ℕ) × together (NameWeightsAnswer q out) x
name_weights_some q out =
    answer_some _ (together (Put (named q) out)) (λ f. (f, out)) (λ z. ((0, over (named q) out), (refl, refl)))

pub ring_answer_one : (q : CornerName) (out : List ℕ) (x y : CountAnswer × List ℕ)
    → together (RingAnswer q out) x → together (RingAnswer q out) y → x ≡ y
ring_answer_one q out x y = answer_one (λ z. listed_one (λ xs ys. ring_one))

pub ring_answer_some : (q : CornerName) (out : List ℕ)
    → (x : CountAnswer × List ℕ) × together (RingAnswer q out) x
ring_answer_some q out =
    answer_some _ (together (Listed (IsRing q) (count_answer 0) out)) (λ f. (no_count f, out))
    (λ z. let n = (name_means q).0 ((ring_then q out).passes.0 z).0 in
    let c = name_code q n.0 in
    let x = ring_is q c n.1.number in
    let ts = ring_words (ring_size (non_zeros (named q))) (place_in (code_inside q) (corner_number q.0)) in
    ((count_answer 0 (length ts), over ts out), record { list = ts; good = x; count = refl; put = refl }))
