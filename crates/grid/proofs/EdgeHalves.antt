-- Of the three edges of every triangle of a degree half are told from the lesser of their two triangles: crossing exchanges these and the others.
-- Assumes nothing.
use mathlib.Core.Path.{◌≡◌, ◌∙◌, sym, ap}
use mathlib.Core.Bool.{Bool, true, false}
use Prim.Native.Nat.{ℕ, ◌+◌, ◌-◌, ◌*◌, ◌/◌, ◌%◌}
use native.Mathlib.Omega.{arith}
use lib.Dec.{ltb}
use borrow.Author.Tests.{ltb-true, ltb-false, lt-ltb, le-ltb}
use Rattle.words.specs.Refusals.{IsCode}
use Rattle.net.specs.Sides.{OneToThree}
use Rattle.net.specs.Steps.{Across}
use Rattle.net.proofs.Crossing.{across_is, code_across, edge_across}
use Rattle.net.proofs.Demand3.{back_again}
use Rattle.grid.specs.Counts.{Count, Edge, IsEdge, edge}
use Rattle.grid.proofs.CountLaws.{mapped, one_number, parted, same_things}
use Rattle.grid.proofs.Differing.{edge_here, same_edge, words_differ}

-- an edge as any triangle tells it
abbrev Told : ℕ → Edge → Type 0
Told n e = IsCode n e.code × OneToThree e.number

-- three for each code
three_each : {n m : ℕ} → Count m (IsCode n) → Count (3 * m) (Told n)
three_each {n} {m} c = record {
  at = λ i. edge (c.at (i / 3)) (i % 3 + 1);
  each = λ i h. (c.each (i / 3) (omega arith), omega arith);
  every = λ e p.
      let t = c.every e.code p.0 in
      let k = e.number in
      let q : (3 * t.0 + (k - 1)) / 3 ≡ t.0 = omega (arith, p.1) in
      let r : (3 * t.0 + (k - 1)) % 3 + 1 ≡ k = omega (arith, p.1) in
      (3 * t.0 + (k - 1), omega (arith, t.1, p.1), same_edge (ap c.at q ∙ t.2) r);
  once = λ i j h k e.
      let q = c.once (i / 3) (j / 3) (omega arith) (omega arith) (ap (λ (e : Edge). e.code) e) in
      let r = ap (λ (e : Edge). e.number) e in
      omega (arith, q, r);
}

-- as the other triangle tells it
abbrev crossed : Edge → Edge
crossed e = edge (code_across e.number e.code) (edge_across e.number e.code)

abbrev word : Edge → ℕ
word e = e.code.0

-- whether it is told from the lesser triangle
abbrev is_lesser : Edge → Bool
is_lesser e = ltb (word e) (word (crossed e))

module _ {n : ℕ} where
  over : (e : Edge) → Told n e → Across n e.code e.number (crossed e).code (crossed e).number
  over e p = across_is p.0 e.number p.1

  crossed_told : (e : Edge) → Told n e → Told n (crossed e)
  crossed_told e p = ((over e p).code, (over e p).edge)

  -- twice across is back
  crossed_twice : (e : Edge) → Told n e → crossed (crossed e) ≡ e
  crossed_twice e p =
      let q = back_again n e.code e.number p.0 p.1 _ _ (over e p) _ _ (over (crossed e) (crossed_told e p)) in same_edge q.0 q.1

  twice_word : (e : Edge) → Told n e → word (crossed (crossed e)) ≡ word e
  twice_word e p = ap word (crossed_twice e p)

  -- the lesser ones go over to the others, and these to them
  to_greater : (e : Edge) → Told n e → is_lesser e ≡ true → is_lesser (crossed e) ≡ false
  to_greater e p h = le-ltb (word (crossed e)) (word (crossed (crossed e))) (omega (arith, ltb-true (word e) (word (crossed e)) h, twice_word e p))

  to_lesser : (e : Edge) → Told n e → is_lesser e ≡ false → is_lesser (crossed e) ≡ true
  to_lesser e p h = lt-ltb (word (crossed e)) (word (crossed (crossed e))) (omega (arith, ltb-false (word e) (word (crossed e)) h, twice_word e p, words_differ n e.code e.number p.0 p.1))

  -- so there are as many
  as_many_greater : {a : ℕ} → Count a (λ e. Told n e × (is_lesser e ≡ true)) → Count a (λ e. Told n e × (is_lesser e ≡ false))
  as_many_greater =
      mapped crossed (λ e p. (crossed_told e p.0, to_greater e p.0 p.1))
      (λ e p. (crossed e, (crossed_told e p.0, to_lesser e p.0 p.1), crossed_twice e p.0))
      (λ e f p q z. sym (crossed_twice e p.0) ∙ ap crossed z ∙ crossed_twice f q.0)

  -- those told from the lesser triangle are the edges
  lesser_is : (e : Edge) → Told n e × (is_lesser e ≡ true) → IsEdge n e
  lesser_is e p = edge_here n e.code e.number p.0.0 p.0.1 (ltb-true _ _ p.1)

  is_lesser_lem : (e : Edge) → IsEdge n e → Told n e × (is_lesser e ≡ true)
  is_lesser_lem e x = ((x.a_code, x.a_number), lt-ltb _ _ (x.lesser _ _ (across_is x.a_code e.number x.a_number)))

  -- three edges for every two triangles
  pub half_edges : {m : ℕ} → Count m (IsCode n) → (a : ℕ) × (2 * a ≡ 3 * m) × Count a (IsEdge n)
  half_edges c =
      let p = parted is_lesser (three_each c) in
      let q = one_number (as_many_greater p.3) p.4 in
      (p.0, omega (arith, q, p.2), same_things lesser_is is_lesser_lem p.3)
