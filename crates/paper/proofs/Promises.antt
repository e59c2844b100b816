-- The promises of specs/Promises.antt hold. First what holds of any call that tells a list. Assumes nothing.
use mathlib.Core.Path.{◌≡◌, ◌∙◌, refl, sym, ap, subst}
use mathlib.Core.List.{List, [], ◌∷◌, ◌++◌}
use Prim.Native.Nat.{ℕ, suc, ◌≤◌}
use native.Mathlib.Omega.{arith}
use lib.ListN.{length, drop, take}
use lib.Seq.{take_at}
use Rattle.frame.specs.Answers.{Lent, Listed, over}
use Rattle.frame.specs.Promises.{Keeps, KeepsLent, ◌leaves◌, together}
use Rattle.frame.proofs.Answering.{answer_one, answer_some, answering, good, keeps, keeps_gives, listed_one}
use Rattle.words.specs.Words.{degree_of}
use Rattle.words.specs.Refusals.{IsCode}
use Rattle.words.specs.Family.{code_answer, no_code}
use Rattle.words.specs.declared.TriangleCode.{TriangleCode}
use Rattle.words.specs.declared.CornerName.{CornerName}
use Rattle.words.specs.Family.{CodeAnswer}
use Rattle.words.proofs.Codes.{code_degree, is_code}
use Rattle.net.specs.Sides.{OneToThree, after}
use Rattle.net.specs.Division.{Triangle, pick_corner}
use Rattle.net.specs.Corners.{corner, named}
use Rattle.net.specs.Names.{IsName}
use Rattle.net.proofs.Canonical.{name_means, name_passes_all}
use Rattle.net.proofs.Spread.{middle_turned}
use Rattle.net.proofs.Table.{three}
use Rattle.corners.specs.Answers.{count_answer, name_answer, no_count, no_name}
use Rattle.corners.specs.Answers.{CountAnswer}
use Rattle.corners.specs.Answers.{NameAnswer}
use Rattle.notation.specs.Domains.{at, domain}
use Rattle.notation.specs.Vertices.{Pair, base_pair, next_pair, pair_by, point}
use Rattle.notation.specs.Same.{SameDomain, SameVertex}
use Rattle.notation.proofs.Domains.{domain_code, domain_digits, domain_list, domain_some}
use Rattle.notation.proofs.Printed.{centre, pair_after, shares}
use Rattle.notation.proofs.Vertices.{vertex_code, vertex_list, vertex_name, vertex_some}
use Rattle.paper.specs.Answers.{FromDomain, FromDomainAnswer, FromVertex, FromVertexAnswer}
use Rattle.paper.specs.Answers.{ToDomainAnswer, ToVertexAnswer}
use Rattle.paper.specs.Promises.{AsPrinted, OneAnswer, SameDigits, SameWeights, ThereAndBack}
use Rattle.paper.specs.Refusals.{refuse_from_domain, refuse_from_vertex, refuse_to_domain, refuse_to_vertex}
use Rattle.paper.proofs.FromPaper.{domain_refusal}
use Rattle.paper.proofs.ToPaper.{domain_then, same_domain, vertex_then}
use Rattle.paper.proofs.VertexNames.{vertex_refusal}

-- ---- a call that tells a list

abbrev number : CountAnswer × List ℕ → ℕ
number x = x.0.refusal

module _ {Good : List ℕ → Type 0} {out : List ℕ} where
  number_none : (x : CountAnswer × List ℕ) → together (Listed Good (count_answer 0) out) x → number x ≡ 0
  number_none x g = ap (λ (r : CountAnswer). r.refusal) g.count

  -- the first places of the list as left are what was told
  front : {c : CountAnswer} {new : List ℕ} (x : Listed Good (count_answer 0) out c new)
      → take c.count new ≡ x.list
  front {c} x =
      let k : length x.list ≡ c.count = sym (ap (λ (r : CountAnswer). r.count) x.count) in
      ap (take c.count) x.put ∙ take_at x.list (drop (length x.list) out) c.count k

  -- where the number is 0, they are as asked for
  pub told : {f : ℕ} {c : CountAnswer} {new : List ℕ} → Lent f (Listed Good (count_answer 0) out) no_count out c new
      → c.refusal ≡ 0 → Good (take c.count new)
  told a e = let x = good number refl number_none a e in subst Good (sym (front x)) x.good

  -- one answer and no other, where the list is one
  pub listed_keeps : {f : ℕ} → (f ≡ 0 → (xs : List ℕ) × Good xs)
      → (f ≡ 0 → (xs ys : List ℕ) → Good xs → Good ys → xs ≡ ys)
      → KeepsLent f (Lent f (Listed Good (count_answer 0) out) no_count out) (λ r. r.refusal) no_count out
  listed_keeps {f} some one =
      keeps number refl number_none
      (answer_some f (together (Listed Good (count_answer 0) out)) (λ k. (no_count k, out)) (λ z.
      let x = some z in
      let xs = x.0 in
      ((count_answer 0 (length xs), over xs out), record { list = xs; good = x.1; count = refl; put = refl })))
      (λ x y. answer_one (λ z. listed_one (one z)))

-- ---- one answer

from_domain_keeps : (xs : List ℕ)
    → Keeps (refuse_from_domain xs) (FromDomainAnswer xs) (λ r. r.refusal) no_code
from_domain_keeps xs =
    keeps (λ (r : CodeAnswer). r.refusal) refl (λ r x. x.number)
    (answer_some (refuse_from_domain xs) (FromDomain xs) no_code (λ z.
    let p = (domain_refusal xs).passes.0 z in
    let t = domain_some xs p.1 p.0 in
    (code_answer 0 t.0, record { number = refl; same = t.1 })))
    (λ r r'. answer_one (λ z x y i.
    code_answer ((x.number ∙ sym y.number) i) (domain_code x.same y.same i)))

from_vertex_keeps : (xs : List ℕ) → Keeps (refuse_from_vertex xs) (FromVertexAnswer xs) (λ r. r.refusal) no_name
from_vertex_keeps xs =
    keeps (λ (r : NameAnswer). r.refusal) refl (λ r x. x.number)
    (answer_some (refuse_from_vertex xs) (FromVertex xs) no_name (λ z.
    let p = (vertex_refusal xs).passes.0 z in
    let t = vertex_some xs p.1 p.0 in
    (name_answer 0 t.0, record { number = refl; same = t.1 })))
    (λ r r'. answer_one (λ z x y i.
    name_answer ((x.number ∙ sym y.number) i) (vertex_name x.same y.same i)))

to_domain_keeps : (t : TriangleCode) (out : List ℕ)
    → KeepsLent (refuse_to_domain t out) (ToDomainAnswer t out) (λ r. r.refusal) no_count out
to_domain_keeps t out =
    listed_keeps (λ z. (_, same_domain (asked z))) (λ z xs ys x y. domain_list x y)
  where
    asked : refuse_to_domain t out ≡ 0 → IsCode (degree_of t.0) t
    asked z = is_code t ((domain_then t out).passes.0 z).0

to_vertex_keeps : (q : CornerName) (out : List ℕ)
    → KeepsLent (refuse_to_vertex q out) (ToVertexAnswer q out) (λ r. r.refusal) no_count out
to_vertex_keeps q out = listed_keeps (λ z. vertex_code (asked z)) (λ z xs ys x y. vertex_list x y)
  where
    asked : refuse_to_vertex q out ≡ 0 → IsName (degree_of q.0) (named q) q
    asked z = ((name_means q).0 ((vertex_then q out).passes.0 z).0).1

pub one_answer : OneAnswer
one_answer = record {
  from_domain = from_domain_keeps;
  from_vertex = from_vertex_keeps;
  to_domain = to_domain_keeps;
  to_vertex = to_vertex_keeps;
}

-- ---- what the calls to the paper tell

module _ (out : List ℕ) where
  pub domain_told : {xs : List ℕ} {t : TriangleCode} → SameDomain (degree_of t.0) xs t → 27 ≤ length out
      → ToDomainAnswer t out leaves (count_answer 0 (length xs), over xs out)
  domain_told {xs} {t} x l =
      keeps_gives (to_domain_keeps t out)
      (answering ((domain_then t out).passes.1 (x.code.passes, l))
      (record { list = xs; good = x; count = refl; put = refl }))

  pub vertex_told : {xs : List ℕ} {q : CornerName} → SameVertex (degree_of q.0) xs q → 26 ≤ length out
      → ToVertexAnswer q out leaves (count_answer 0 (length xs), over xs out)
  vertex_told {xs} {q} x l =
      keeps_gives (to_vertex_keeps q out)
      (answering ((vertex_then q out).passes.1 ((name_passes_all x.name).0, l))
      (record { list = xs; good = x; count = refl; put = refl }))

-- ---- there and back

-- an answer and the list as left, where these are all that is promised
both : (P : CountAnswer → List ℕ → Type 0) {x : CountAnswer × List ℕ} {c : CountAnswer} {new : List ℕ} → P leaves x
    → P c new → (c ≡ x.0) × (new ≡ x.1)
both P {c = c} {new = new} g p =
    let e = g.only (c, new) p in
    (ap (λ (y : CountAnswer × List ℕ). y.0) e, ap (λ (y : CountAnswer × List ℕ). y.1) e)

-- what is answered, where the number is 0
pub domain_found : {xs : List ℕ} {r : CodeAnswer} → FromDomainAnswer xs r → r.refusal ≡ 0
    → SameDomain (degree_of r.code.0) xs r.code
domain_found a e = (good (λ (r : CodeAnswer). r.refusal) refl (λ r x. x.number) a e).same

pub vertex_found : {xs : List ℕ} {r : NameAnswer} → FromVertexAnswer xs r → r.refusal ≡ 0
    → SameVertex (degree_of r.name.0) xs r.name
vertex_found a e = (good (λ (r : NameAnswer). r.refusal) refl (λ r x. x.number) a e).same

-- a list that is told is answered
code_back : (t : TriangleCode) (out new : List ℕ) (c : CountAnswer) (r : CodeAnswer) → ToDomainAnswer t out c new
    → c.refusal ≡ 0 → FromDomainAnswer (take c.count new) r → r ≡ code_answer 0 t
code_back t out new c r b f a =
    let xs = take c.count new in
    let x = told b f in
    let short : length xs ≤ 27 = omega (arith, x.degree, code_degree x.code) in
    let y = a.answered ((domain_refusal xs).passes.1 (short, x.allowed)) in
    λ i. code_answer (y.number i) (domain_code y.same x i)

name_back : (q : CornerName) (out new : List ℕ) (c : CountAnswer) (r : NameAnswer) → ToVertexAnswer q out c new
    → c.refusal ≡ 0 → FromVertexAnswer (take c.count new) r → r ≡ name_answer 0 q
name_back q out new c r b f a =
    let xs = take c.count new in
    let x = told b f in
    let short : length xs ≤ 26 = omega (arith, x.degree, code_degree x.name.code) in
    let y = a.answered ((vertex_refusal xs).passes.1 (short, x.allowed)) in
    λ i. name_answer (y.number i) (vertex_name y.same x i)

pub there_and_back : ThereAndBack
there_and_back = record {
  domain = λ xs out new r c a e l b. both (ToDomainAnswer r.code out) (domain_told out (domain_found a e) l) b;
  code = code_back;
  vertex = λ xs out new r c a e l b. both (ToVertexAnswer r.name out) (vertex_told out (vertex_found a e) l) b;
  name = name_back;
}

-- ---- "and translated corners have the same weights"

corner_same : {n : ℕ} {xs : List ℕ} {t : TriangleCode} → SameDomain n xs t
    → (i : ℕ) → OneToThree i → pick_corner i (domain xs) ≡ corner t i
corner_same {xs = xs} {t = t} x =
    three (λ i. pick_corner i (domain xs) ≡ corner t i) (ap (λ (d : Triangle). d.a1) x.corners)
    (ap (λ (d : Triangle). d.a2) x.corners) (ap (λ (d : Triangle). d.a3) x.corners)

pub same_weights : SameWeights
same_weights = record {
  from_domain = λ xs r a e. corner_same (domain_found a e);
  to_domain = λ t out new c b f. corner_same (told b f);
  from_vertex = λ xs r a e. sym (vertex_found a e).name.there;
  to_vertex = λ q out new c b f. sym (told b f).name.there;
}

-- ---- the same digits

pub same_digits : SameDigits
same_digits = record { domain = λ a p q rs r x e. domain_digits (domain_found x e) }

-- ---- (35) to (37), (63) to (68)

-- V(Ts), by the pair of T
direction : (s a p : ℕ) (ss : List ℕ)
    → point (suc a ∷ p ∷ (ss ++ (s ∷ []))) ≡ (next_pair s (pair_by ss (base_pair (suc a) p))).zeroth.a2
direction s a p ss = ap (λ (x : Pair). x.zeroth.a2) (pair_after s ss (base_pair (suc a) p))

pub as_printed : AsPrinted
unfolding pair_by
as_printed = record {
  base = λ a p ss. sym (shares (suc a) p ss).base;
  other = λ a p ss. (shares (suc a) p ss).other;
  direction0 = direction 0;
  direction1 = direction 1;
  direction1too = λ a p ss. direction 1 a p ss ∙ centre (shares (suc a) p ss);
  direction2 = direction 2;
  direction3 = direction 3;
  v01 = λ a. direction 1 a 0 [];
  v02 = λ a. direction 2 a 0 [];
  v03 = λ a. direction 3 a 0 [] ∙ middle_turned (at 0 0) (at (suc a) 0);
  v11 = λ a. direction 1 a 1 [];
  v12 = λ a. direction 2 a 1 [];
  v13 = λ a. direction 3 a 1 [] ∙ middle_turned (at (after (suc a)) 0) (at (suc a) 1);
}
