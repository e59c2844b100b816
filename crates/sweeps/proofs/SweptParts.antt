-- What directions come to: how many codes, of two parts, of none; and in a list. Assumes nothing.
use mathlib.Core.Path.{◌≡◌, ◌∙◌, refl, sym, ap}
use mathlib.Core.List.{List, [], ◌∷◌, ◌++◌}
use Prim.Native.Nat.{ℕ, zero, suc, ◌*◌, ◌^◌, ◌≤◌, ◌<◌}
use native.Mathlib.Omega.{arith}
use lib.IntN.{ℤ}
use lib.ListN.{length, get_or}
use Rattle.frame.proofs.Lengths.{over_long}
use Rattle.sweeps.specs.Sweeps.{SweepAnswer, done, refusals_of, no_sweep, told, Swept}
use Rattle.sweeps.specs.Answers.{SweptInto}
use Rattle.sweeps.specs.Promises.{joined}
use Rattle.sweeps.proofs.SingleCalls.{singles_append, singles_long, codes_append, refusals_append, codes_long}
use Rattle.sweeps.proofs.SingleCalls.{refusals_long, codes_small, refusals_small}
use Rattle.sweeps.proofs.Told.{by_told, told_append, told_most}

-- one code for each direction
pub swept_long : {n : ℕ} {l : List ℤ} {a : SweepAnswer} {cs : List ℕ} → Swept n l a cs
    → length l ≡ 3 * length cs
swept_long s = omega (arith, singles_long s.each, ap length s.are, codes_long s.singles)

-- counts and places are at most the number of directions
pub swept_most : {n : ℕ} {l : List ℤ} {a : SweepAnswer} {cs : List ℕ} → Swept n l a cs
    → (a.refused ≤ length cs) × (a.place ≤ length cs)
swept_most s =
    let m = told_most (refusals_of s.singles) in
    let e = ap length s.are in
    let k = codes_long s.singles in
    let l = refusals_long s.singles in
    rw s.answer (omega (arith, m.0, e, k, l), omega (arith, m.1, e, k, l))

-- every number of it has 64 bits, where there are no more directions than that
pub swept_small : {n : ℕ} {l : List ℤ} {a : SweepAnswer} {cs : List ℕ} → Swept n l a cs → length cs < 2 ^ 64
    → ((i : ℕ) → get_or cs i 0 < 2 ^ 64)
    × ((i : ℕ) → get_or (a.refused ∷ a.place ∷ a.first ∷ []) i 0 < 2 ^ 64)
swept_small {n} {l} {a} {cs} s k = (
  λ i. rw s.are (codes_small s.each i),
  at,
)
  where
    first : (told (refusals_of s.singles)).first < 12
    first = by_told (refusals_of s.singles) (λ e q. rw q (omega arith)) (λ m e q. rw q (refusals_small s.each _))

    at : (i : ℕ) → get_or (a.refused ∷ a.place ∷ a.first ∷ []) i 0 < 2 ^ 64
    at zero = omega (arith, (swept_most s).0, k)
    at (suc zero) = omega (arith, (swept_most s).1, k)
    at (suc (suc zero)) = rw s.answer (omega (arith, first))
    at (suc (suc (suc i))) = omega arith

-- two parts, the first of h directions
pub swept_append : {n : ℕ} (h : ℕ) {l m : List ℤ} {a b : SweepAnswer} {cs ds : List ℕ} → length l ≡ 3 * h
    → Swept n l a cs → Swept n m b ds → Swept n (l ++ m) (joined h a b) (cs ++ ds)
swept_append h e x y =
    let fs = refusals_of x.singles in
    let gs = refusals_of y.singles in
    let count : h ≡ length fs = omega (arith, e, singles_long x.each, refusals_long x.singles) in
    record {
      singles = x.singles ++ y.singles;
      each = singles_append x.each y.each;
      answer = (λ i. joined (count i) (x.answer i) (y.answer i)) ∙ sym (told_append fs gs)
          ∙ ap told (sym (refusals_append x.singles y.singles));
      are = (λ i. x.are i ++ y.are i) ∙ sym (codes_append x.singles y.singles);
    }

-- no direction
pub into_none : {n : ℕ} (out : List ℕ) → SweptInto n [] out (no_sweep 0) out
unfolding told
into_none out =
    record { codes = []; swept = record { singles = []; each = done; answer = refl; are = refl }; put = refl }

-- the list is as long as it was
pub into_long : {n : ℕ} {dirs : List ℤ} {out new : List ℕ} {a : SweepAnswer} → SweptInto n dirs out a new
    → length dirs ≤ 3 * length out → length new ≡ length out
into_long x l = ap length x.put ∙ over_long x.codes _ (omega (arith, l, swept_long x.swept))
