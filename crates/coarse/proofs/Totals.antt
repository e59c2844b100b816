-- The total over all parents is that of the list's readings, and these are the ones that the history of calls tells.
-- Assumes nothing.
use mathlib.Core.Path.{◌≡◌, ◌∙◌, refl, sym, ap}
use mathlib.Core.Bool.{Bool, true, false, cond}
use mathlib.Core.List.{List, [], ◌∷◌}
use Prim.Native.Nat.{ℕ, zero, suc, ◌*◌, ◌≤◌}
use native.Mathlib.Nat.{pow-suc}
use native.Mathlib.Omega.{arith}
use borrow.Author.Tests.{eqb-true}
use lib.Dec.{eqb, eqb-suc-zero}
use lib.IntN.{ℤ}
use lib.ListN.{length, get_or, get_or-replicate}
use lib.Seq.{take_all}
use Rattle.frame.specs.Answers.{settled}
use Rattle.frame.proofs.Below.{is_below}
use Rattle.words.specs.Refusals.{IsCode}
use Rattle.words.specs.Counting.{code_at, place_of}
use Rattle.words.specs.declared.TriangleCode.{TriangleCode}
use Rattle.words.proofs.CodeCount.{place_below, code_at_lem, place_at}
use Rattle.net.specs.Division.{sum}
use Rattle.tables.specs.Tables.{places, none, said, number, number_at}
use Rattle.tables.specs.Owners.{Shared, IsShared, fresh_shared, Held, held_at, held_after, sounding_after}
use Rattle.tables.specs.Answers.{table_answer}
use Rattle.tables.specs.Histories.{Call, asks, does, Answered, done, answers, after, on_table, triangle_of}
use Rattle.tables.specs.Histories.{refuse_deed_on_map}
use Rattle.tables.specs.declared.Deed.{Deed}
use Rattle.tables.specs.Answers.{TableAnswer}
use Rattle.tables.proofs.Numbers.{number_said}
use Rattle.tables.proofs.Holding.{begun}
use Rattle.tables.proofs.SimpleMaps.{turned}
use Rattle.coarse.specs.Sums.{present, present_in, every_parent, Coarse, Chart, fresh_chart}
use Rattle.coarse.specs.Histories.{on_chart, Told, no_readings, told, told_by, present_by}
use Rattle.coarse.specs.Promises.{AreTrue, Totals}
use Rattle.coarse.proofs.Adding.{Additive, counting, summing, of_fours}
use Rattle.coarse.proofs.Children.{every_parent_lem}
use Rattle.coarse.proofs.Truths.{after_beside, answers_beside, fresh_true}

-- ---- over all parents

over_parents : {g : List ℕ → ℕ} → Additive g → (n : ℕ) (list : List ℤ) → 1 ≤ n → n ≤ 6
    → length list ≡ places n → sum (every_parent n (λ p. g (present_in p list))) ≡ g (present list)
over_parents add zero list o l e = absurd (omega (arith, o))
over_parents {g} add (suc n) list o l e =
    let w : 4 * places n ≡ length list = omega (arith, e, pow-suc 4 n) in
    ap sum (sym (every_parent_lem g list (suc n) l refl))
    ∙ of_fours add list (places n) (omega (arith, w))
    ∙ ap (λ (x : List ℤ). g (present x)) (take_all (4 * places n) list (omega (arith, w)))

module _ (n : ℕ) (c : Chart) (o : 1 ≤ n) (is : IsShared n c.shared) (tr : AreTrue n c) where
  counted : sum c.coarse.counts ≡ length (present c.shared.readings)
  counted =
      ap (λ (x : Coarse). sum x.counts) tr
      ∙ over_parents counting n c.shared.readings o is.table.degree is.table.long

  summed : sum c.coarse.sums ≡ sum (present c.shared.readings)
  summed =
      ap (λ (x : Coarse). sum x.sums) tr
      ∙ over_parents summing n c.shared.readings o is.table.degree is.table.long

-- ---- what the history tells

abbrev Tells : ℕ → Shared → Told → Type 0
Tells n s map = (u : TriangleCode) → IsCode n u → said (number_at u s.readings) ≡ map u

-- what is left for u, and what is told of it
told_left : (e : Deed) (d m : ℕ) (t u : TriangleCode) (s : Shared) (map : Told) (f : ℕ)
    → said (number_at u s.readings) ≡ map u
    → (let h = held_at t s in
    let x = settled {A = TableAnswer × Held} f (table_answer 0 0, held_after e d h) (λ k. (table_answer k 0, h)) in
    (cond (eqb u.0 t.0) x.1 (held_at u s)).sounding ≡ told (does e d m t) (done x.0) map u)
told_left e d m t u s map f a = go f (eqb u.0 t.0) refl
  where
    here : eqb u.0 t.0 ≡ true → said (number_at t s.readings) ≡ map u
    here b =
        let q : t.0 ≡ u.0 = sym (eqb-true u.0 t.0 b) in
        ap (λ (v : TriangleCode). said (number_at v s.readings)) (λ i. record { 0 = q i }) ∙ a

    go : (f : ℕ) (b : Bool) → eqb u.0 t.0 ≡ b
        → (let h = held_at t s in
        let x = settled {A = TableAnswer × Held} f (table_answer 0 0, held_after e d h) (λ k. (table_answer k 0, h)) in
        (cond (eqb u.0 t.0) x.1 (held_at u s)).sounding ≡ told (does e d m t) (done x.0) map u)
    go zero true b = rw b (ap (sounding_after e) (here b))
    go zero false b = rw b a
    go (suc f) true b = rw (b, eqb-suc-zero f) (here b)
    go (suc f) false b = rw (b, eqb-suc-zero f) a

-- one call
tells_next : {n : ℕ} (x : Call) (s : Shared) (map : Told) → IsShared n s → Tells n s map
    → Tells n (on_table x s).1 (told x (on_table x s).0 map)
tells_next (asks d m t) s map is a = a
tells_next {n} (does e d m t) s map is a = λ u cu.
    let h = held_at t s in
    let w = turned is (does e d m t) h (λ _. refl) in
    ap (λ (x : Held). x.sounding) (w.left u cu)
    ∙ told_left e d m t u s map (refuse_deed_on_map n e d m t h.owner) (a u cu)
    ∙ ap (λ (r : Answered). told (does e d m t) r map u) (sym w.answer)

-- any calls
tells_after : {n : ℕ} (cs : List Call) (s : Shared) (map : Told) → IsShared n s → Tells n s map
    → Tells n (after on_table cs s) (told_by cs (answers on_table cs s) map)
unfolding after answers told_by
tells_after [] s map is a = a
tells_after (x ∷ cs) s map is a =
    tells_after cs (on_table x s).1 (told x (on_table x s).0 map)
    (turned is x (held_at (triangle_of x) s) (λ _. refl)).is (tells_next x s map is a)

-- the readings in the list are those
present_told : {n : ℕ} (s : Shared) (map : Told) → IsShared n s → Tells n s map
    → present s.readings ≡ present_by n map
unfolding present_by
present_told {n} s map is a =
    let deep : n ≤ 24 = omega (arith, is.table.degree) in
    ap present
    (is_below (places n) (λ i. number (map (code_at n i))) s.readings none is.table.long
    (λ i k. ap (λ (j : ℕ). get_or s.readings j none) (sym (place_at n i deep))
    ∙ sym (number_said (number_at (code_at n i) s.readings))
    ∙ ap number (a (code_at n i) (code_at_lem n i deep k))))

module _ (n : ℕ) (l : n ≤ 6) (cs : List Call) where
  heard : present (after on_table cs (fresh_shared n)).readings
      ≡ present_by n (told_by cs (answers on_chart cs (fresh_chart n)) no_readings)
  heard =
      let b = after_beside (begun n l) (fresh_true n l) cs in
      present_told (after on_table cs (fresh_shared n)) _ (rw (sym b.same) b.is)
      (tells_after cs (fresh_shared n) no_readings (begun n l)
      (λ u cu. ap said (get_or-replicate (places n) (place_of u) none none (place_below cu))))
      ∙ ap (λ (rs : List Answered). present_by n (told_by cs rs no_readings))
      (sym (answers_beside (begun n l) (fresh_true n l) cs))

pub totals : Totals
totals = record {
  count = λ n o l cs.
      let b = after_beside (begun n l) (fresh_true n l) cs in
      counted n (after on_chart cs (fresh_chart n)) o b.is b.tr
      ∙ ap (λ (s : Shared). length (present s.readings)) b.same ∙ ap length (heard n l cs);
  total = λ n o l cs.
      let b = after_beside (begun n l) (fresh_true n l) cs in
      summed n (after on_chart cs (fresh_chart n)) o b.is b.tr
      ∙ ap (λ (s : Shared). sum (present s.readings)) b.same ∙ ap sum (heard n l cs);
  counted = counted;
  summed = summed;
}
