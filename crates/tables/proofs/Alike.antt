-- Two ways to answer the same calls, where what they work on stays related: the answers are the same, what is left is
-- related, and what a desk sees is the same. Assumes nothing.
use mathlib.Core.Path.{◌≡◌, refl}
use mathlib.Core.Bool.{cond}
use mathlib.Core.List.{List, [], ◌∷◌, ◌++◌}
use Prim.Native.Nat.{ℕ}
use Rattle.words.specs.declared.TriangleCode.{TriangleCode}
use Rattle.tables.specs.Histories.{Call, Answered, answers, after, is_about, is_given_back, seen}

module _ {C A S S' : Type 0} (turn : C → S → A × S) (turn' : C → S' → A × S')
    (R : S → S' → Type 0)
    (step : (c : C) (s : S) (s' : S') → R s s'
    → ((turn c s).0 ≡ (turn' c s').0) × R (turn c s).1 (turn' c s').1)
  where
    pub alike_answers : (cs : List C) (s : S) (s' : S') → R s s'
        → answers turn cs s ≡ answers turn' cs s'
    unfolding answers
    alike_answers [] s s' r = refl
    alike_answers (c ∷ cs) s s' r =
        let k = step c s s' r in
        let ih = alike_answers cs (turn c s).1 (turn' c s').1 k.1 in
        λ i. k.0 i ∷ ih i

    pub alike_after : (cs : List C) (s : S) (s' : S') → R s s' → R (after turn cs s) (after turn' cs s')
    unfolding after
    alike_after [] s s' r = r
    alike_after (c ∷ cs) s s' r = alike_after cs (turn c s).1 (turn' c s').1 (step c s s' r).1

module _ {S S' : Type 0} (turn : Call → S → Answered × S) (turn' : Call → S' → Answered × S')
    (R : S → S' → Type 0)
    (step : (c : Call) (s : S) (s' : S') → R s s'
    → ((turn c s).0 ≡ (turn' c s').0) × R (turn c s).1 (turn' c s').1)
    (d : ℕ) (t : TriangleCode)
  where
    pub alike_seen : (cs : List Call) (s : S) (s' : S') → R s s'
        → seen turn d t cs s ≡ seen turn' d t cs s'
    unfolding seen
    alike_seen [] s s' r = refl
    alike_seen (c ∷ cs) s s' r =
        let k = step c s s' r in
        let ih = alike_seen cs (turn c s).1 (turn' c s').1 k.1 in
        λ i. cond (is_about d t c) (k.0 i ∷ cond (is_given_back c (k.0 i)) [] (ih i)) (ih i)

-- calls after calls
pub after_append : {C A S : Type 0} (turn : C → S → A × S) (xs ys : List C) (s : S)
    → after turn (xs ++ ys) s ≡ after turn ys (after turn xs s)
unfolding after
after_append turn [] ys s = refl
after_append turn (x ∷ xs) ys s = after_append turn xs ys (turn x s).1
