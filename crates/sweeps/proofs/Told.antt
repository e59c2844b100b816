-- What is told of refusals: of two lists of them, one after the other, of one alone, and where it points. Assumes
-- nothing.
use mathlib.Core.Path.{◌≡◌, ◌∙◌, refl, sym, ap}
use mathlib.Core.Bool.{true, false, true≢false}
use mathlib.Core.List.{List, [], ◌∷◌, ◌++◌}
use Prim.Native.Nat.{ℕ, zero, suc, ◌+◌, ◌≤◌, ◌<◌}
use native.Mathlib.Omega.{arith}
use lib.ListN.{length, get_or}
use Rattle.frame.specs.declared.Refusal.{Refusal}
use Rattle.frame.specs.Refusals.{number}
use Rattle.frame.specs.Lists.{some, first_place}
use Rattle.frame.proofs.Told.{number_some}
use Rattle.frame.proofs.Scanning.{first_there, none_before}
use Rattle.net.specs.Steps.{non_zeros}
use Rattle.sweeps.specs.Sweeps.{SweepAnswer, is_refusal, sweep_answer, no_sweep, first_refused, told_of, told}
use Rattle.sweeps.specs.Promises.{joined}

-- ---- none is refused, or some are

pub told_none : (fs : List ℕ) → non_zeros fs ≡ 0 → told fs ≡ no_sweep 0
unfolding told
told_none fs e = ap (λ (m : ℕ). told_of m fs) e

pub told_some : (fs : List ℕ) (m : ℕ) → non_zeros fs ≡ suc m
    → told fs ≡ sweep_answer 0 (suc m) (first_refused fs) (get_or fs (first_refused fs) 0)
unfolding told
told_some fs m e = ap (λ (m : ℕ). told_of m fs) e

-- what follows from either
pub by_told : {A : Type 0} (fs : List ℕ) → (non_zeros fs ≡ 0 → told fs ≡ no_sweep 0 → A)
    → ((m : ℕ) → non_zeros fs ≡ suc m
    → told fs ≡ sweep_answer 0 (suc m) (first_refused fs) (get_or fs (first_refused fs) 0) → A) → A
by_told {A} fs none one = go (non_zeros fs) refl
  where
    go : (m : ℕ) → non_zeros fs ≡ m → A
    go zero e = none e (told_none fs e)
    go (suc m) e = one m e (told_some fs m e)

-- the whole call is not refused
pub told_0 : (fs : List ℕ) → (told fs).refusal ≡ 0
told_0 fs = by_told fs (λ e q. ap (λ (r : SweepAnswer). r.refusal) q)
    (λ m e q. ap (λ (r : SweepAnswer). r.refusal) q)

-- ---- where the first stands

is_some : (fs : List ℕ) (m : ℕ) → non_zeros fs ≡ suc m → some is_refusal fs ≡ true
unfolding some
is_some [] m e = absurd (omega (arith, e))
is_some (zero ∷ fs) m e = is_some fs m e
is_some (suc f ∷ fs) m e = refl

is_refusal_lem : (f : ℕ) → is_refusal f ≡ true → f ≡ 0 → ⊥
is_refusal_lem zero e z = true≢false (sym e)
is_refusal_lem (suc f) e z = omega (arith, z)

not_refusal : (f : ℕ) → is_refusal f ≡ false → f ≡ 0
not_refusal zero e = refl
not_refusal (suc f) e = absurd (true≢false e)

pub first_refused_lem : (fs : List ℕ) (m : ℕ) → non_zeros fs ≡ suc m
    → (first_refused fs < length fs) × (get_or fs (first_refused fs) 0 ≡ 0 → ⊥)
first_refused_lem fs m e =
    let h = first_there is_refusal 0 fs (is_some fs m e) in
    (h.0, is_refusal_lem _ h.1)

pub none_earlier : (fs : List ℕ) (i : ℕ) → i < first_refused fs → get_or fs i 0 ≡ 0
none_earlier fs i l = not_refusal _ (none_before is_refusal 0 fs i l)

pub all_zero : (fs : List ℕ) → non_zeros fs ≡ 0 → (i : ℕ) → get_or fs i 0 ≡ 0
all_zero [] e i = refl
all_zero (zero ∷ fs) e zero = refl
all_zero (zero ∷ fs) e (suc i) = all_zero fs e i
all_zero (suc f ∷ fs) e i = absurd (omega (arith, e))

-- ---- two lists, one after the other

pub non_append : (fs gs : List ℕ) → non_zeros (fs ++ gs) ≡ non_zeros fs + non_zeros gs
non_append [] gs = omega arith
non_append (zero ∷ fs) gs = non_append fs gs
non_append (suc f ∷ fs) gs = omega (arith, non_append fs gs)

-- the first is in the second where the first list has none, else in the first
module _ (gs : List ℕ) where
  later : (fs : List ℕ) → non_zeros fs ≡ 0 → first_refused (fs ++ gs) ≡ length fs + first_refused gs
  unfolding first_place
  later [] e = omega arith
  later (zero ∷ fs) e = omega (arith, later fs e)
  later (suc f ∷ fs) e = absurd (omega (arith, e))

  later_number : (fs : List ℕ) → non_zeros fs ≡ 0
      → get_or (fs ++ gs) (first_refused (fs ++ gs)) 0 ≡ get_or gs (first_refused gs) 0
  unfolding first_place
  later_number [] e = refl
  later_number (zero ∷ fs) e = later_number fs e
  later_number (suc f ∷ fs) e = absurd (omega (arith, e))

  here : (fs : List ℕ) (m : ℕ) → non_zeros fs ≡ suc m → first_refused (fs ++ gs) ≡ first_refused fs
  unfolding first_place
  here [] m e = absurd (omega (arith, e))
  here (zero ∷ fs) m e = ap suc (here fs m e)
  here (suc f ∷ fs) m e = refl

  here_number : (fs : List ℕ) (m : ℕ) → non_zeros fs ≡ suc m
      → get_or (fs ++ gs) (first_refused (fs ++ gs)) 0 ≡ get_or fs (first_refused fs) 0
  unfolding first_place
  here_number [] m e = absurd (omega (arith, e))
  here_number (zero ∷ fs) m e = here_number fs m e
  here_number (suc f ∷ fs) m e = refl

told_count : (fs : List ℕ) → (told fs).refused ≡ non_zeros fs
told_count fs = by_told fs (λ e q. ap (λ (r : SweepAnswer). r.refused) q ∙ sym e)
    (λ m e q. ap (λ (r : SweepAnswer). r.refused) q ∙ sym e)

pub told_append : (fs gs : List ℕ) → told (fs ++ gs) ≡ joined (length fs) (told fs) (told gs)
told_append fs gs = go (non_zeros fs) (non_zeros gs) refl refl
  where
    go : (m k : ℕ) → non_zeros fs ≡ m → non_zeros gs ≡ k
        → told (fs ++ gs) ≡ joined (length fs) (told fs) (told gs)
    go zero zero e f =
        told_none (fs ++ gs) (omega (arith, non_append fs gs, e, f))
        ∙ sym (λ i. joined (length fs) (told_none fs e i) (told_none gs f i))
    go zero (suc k) e f =
        told_some (fs ++ gs) k (omega (arith, non_append fs gs, e, f))
        ∙ (λ i. sweep_answer 0 (suc k) (later gs fs e i) (later_number gs fs e i))
        ∙ sym (λ i. joined (length fs) (told_none fs e i) (told_some gs k f i))
    go (suc m) k e f =
        let q : suc (m + k) ≡ suc m + k = omega arith in
        let r : k ≡ (told gs).refused = sym (told_count gs ∙ f) in
        told_some (fs ++ gs) (m + k) (omega (arith, non_append fs gs, e, f))
        ∙ (λ i. sweep_answer 0 (q i) (here gs fs m e i) (here_number gs fs m e i))
        ∙ (λ i. sweep_answer 0 (suc m + r i) (first_refused fs) (get_or fs (first_refused fs) 0))
        ∙ sym (λ i. joined (length fs) (told_some fs m e i) (told gs))

-- ---- one alone

pub told_one : (f : ℕ) → (f ≡ 0 → ⊥) → told (f ∷ []) ≡ sweep_answer 0 1 0 f
unfolding told first_place
told_one zero k = absurd (k refl)
told_one (suc f) k = refl

-- ---- one more

pub none_more : (m : ℕ) → m + non_zeros (0 ∷ []) ≡ m
none_more m = omega arith

pub one_more : (m : ℕ) (f : Refusal) → m + non_zeros (number f ∷ []) ≡ m + 1
one_more m f = go (number f) (number_some f)
  where
    go : (k : ℕ) → (k ≡ 0 → ⊥) → m + non_zeros (k ∷ []) ≡ m + 1
    go zero some = absurd (some refl)
    go (suc k) some = omega arith

-- ---- sizes

pub non_most : (fs : List ℕ) → non_zeros fs ≤ length fs
non_most [] = omega arith
non_most (zero ∷ fs) = omega (arith, non_most fs)
non_most (suc f ∷ fs) = omega (arith, non_most fs)

pub told_most : (fs : List ℕ) → ((told fs).refused ≤ length fs) × ((told fs).place ≤ length fs)
told_most fs = by_told fs (λ e q. rw q (omega arith, omega arith))
    (λ m e q. rw q (omega (arith, non_most fs, e), omega (arith, (first_refused_lem fs m e).0)))
