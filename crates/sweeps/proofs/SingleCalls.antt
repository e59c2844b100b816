-- The answers of the single calls: one list of them, of two parts, place by place. Assumes nothing.
use mathlib.Core.Path.{◌≡◌, ◌∙◌, refl, sym, ap, subst}
use mathlib.Core.List.{List, [], ◌∷◌, ◌++◌}
use Prim.Native.Nat.{ℕ, zero, suc, ◌+◌, ◌*◌, ◌/◌, ◌%◌, ◌^◌, ◌<◌}
use native.Mathlib.Omega.{arith}
use lib.IntN.{ℤ, pos}
use lib.ListN.{length, get_or, get_or-map}
use Rattle.words.specs.Family.{no_code}
use Rattle.words.specs.Family.{CodeAnswer}
use Rattle.directions.specs.Answers.{FileAnswer}
use Rattle.directions.proofs.FilingCalls.{answer_small}
use Rattle.directions.proofs.OneFiling.{file_one, file_some}
use Rattle.grid.specs.Writing.{towards}
use Rattle.sweeps.specs.Sweeps.{Singles, done, then, codes_of, refusals_of}
use Rattle.sweeps.specs.Promises.{direction_at}

-- ---- one list of answers at most, and one where the numbers are three for each

pub singles_one : {n : ℕ} {dirs : List ℤ} {rs rs' : List CodeAnswer} → Singles n dirs rs
    → Singles n dirs rs'
    → rs ≡ rs'
singles_one done done = refl
singles_one (then x xs) (then y ys) = let e = file_one _ _ _ _ x y in let f = singles_one xs ys in λ i. e i ∷ f i

three_less : (m : ℕ) → suc (suc (suc m)) % 3 ≡ m % 3
three_less m = omega arith

pub singles_some : (n : ℕ) (dirs : List ℤ) → length dirs % 3 ≡ 0 → (rs : List CodeAnswer) × Singles n dirs rs
singles_some n [] e = ([], done)
singles_some n (x ∷ []) e = absurd (omega (arith, e))
singles_some n (x ∷ y ∷ []) e = absurd (omega (arith, e))
singles_some n (x ∷ y ∷ z ∷ more) e =
    let a = file_some n (towards x y z) in
    let r = singles_some n more (sym (three_less (length more)) ∙ e) in
    (a.0 ∷ r.0, then a.1 r.1)

-- ---- of two parts, and how many

pub singles_append : {n : ℕ} {l m : List ℤ} {rs ss : List CodeAnswer} → Singles n l rs → Singles n m ss
    → Singles n (l ++ m) (rs ++ ss)
singles_append done b = b
singles_append (then x a) b = then x (singles_append a b)

three_more : (m k : ℕ) → m ≡ 3 * k → suc (suc (suc m)) ≡ 3 * suc k
three_more m k e = omega (arith, e)

pub singles_long : {n : ℕ} {l : List ℤ} {rs : List CodeAnswer} → Singles n l rs → length l ≡ 3 * length rs
singles_long done = refl
singles_long (then {more = more} {rs = rs} x a) = three_more (length more) (length rs) (singles_long a)

pub codes_append : (rs ss : List CodeAnswer) → codes_of (rs ++ ss) ≡ codes_of rs ++ codes_of ss
codes_append [] ss = refl
codes_append (r ∷ rs) ss = ap (λ (l : List ℕ). r.code.0 ∷ l) (codes_append rs ss)

pub refusals_append : (rs ss : List CodeAnswer) → refusals_of (rs ++ ss) ≡ refusals_of rs ++ refusals_of ss
refusals_append [] ss = refl
refusals_append (r ∷ rs) ss = ap (λ (l : List ℕ). r.refusal ∷ l) (refusals_append rs ss)

pub codes_long : (rs : List CodeAnswer) → length (codes_of rs) ≡ length rs
codes_long [] = refl
codes_long (r ∷ rs) = ap suc (codes_long rs)

pub refusals_long : (rs : List CodeAnswer) → length (refusals_of rs) ≡ length rs
refusals_long [] = refl
refusals_long (r ∷ rs) = ap suc (refusals_long rs)

-- ---- place by place

next_place : (i : ℕ) (x y z : ℤ) (dirs : List ℤ)
    → direction_at (x ∷ y ∷ z ∷ dirs) (suc i) ≡ direction_at dirs i
next_place i x y z dirs =
    let l = x ∷ y ∷ z ∷ dirs in
    let a : 3 * suc i ≡ suc (suc (suc (3 * i))) = omega arith in
    let b : 3 * suc i + 1 ≡ suc (suc (suc (3 * i + 1))) = omega arith in
    let c : 3 * suc i + 2 ≡ suc (suc (suc (3 * i + 2))) = omega arith in
    λ j. record { x = get_or l (a j) (pos 0); y = get_or l (b j) (pos 0); z = get_or l (c j) (pos 0) }

single_at : {n : ℕ} {dirs : List ℤ} {rs : List CodeAnswer} → Singles n dirs rs → (i : ℕ) → i < length rs
    → FileAnswer n (direction_at dirs i) (get_or rs i (no_code 0))
single_at done i l = absurd (omega (arith, l))
single_at (then x a) zero l = x
single_at {n} (then {x} {y} {z} {more} {r} {rs} f a) (suc i) l =
    subst (λ d. FileAnswer n d (get_or rs i (no_code 0))) (sym (next_place i x y z more))
    (single_at a i (omega (arith, l)))

module _ {n : ℕ} {dirs : List ℤ} {rs : List CodeAnswer} (p : Singles n dirs rs) where
  pub many : length rs ≡ length dirs / 3
  many = omega (arith, singles_long p)

  is_at : (i : ℕ) (s : CodeAnswer) → i < length dirs / 3 → FileAnswer n (direction_at dirs i) s
      → get_or rs i (no_code 0) ≡ s
  is_at i s l f = file_one _ _ _ _ (single_at p i (omega (arith, l, many))) f

  pub code_at_lem : (i : ℕ) (s : CodeAnswer) → i < length dirs / 3 → FileAnswer n (direction_at dirs i) s
      → get_or (codes_of rs) i 0 ≡ s.code.0
  code_at_lem i s l f =
      get_or-map (λ (r : CodeAnswer). r.code.0) rs i (no_code 0)
      ∙ ap (λ (r : CodeAnswer). r.code.0) (is_at i s l f)

  pub refusal_at : (i : ℕ) (s : CodeAnswer) → i < length dirs / 3 → FileAnswer n (direction_at dirs i) s
      → get_or (refusals_of rs) i 0 ≡ s.refusal
  refusal_at i s l f =
      get_or-map (λ (r : CodeAnswer). r.refusal) rs i (no_code 0)
      ∙ ap (λ (r : CodeAnswer). r.refusal) (is_at i s l f)

-- ---- sizes

pub codes_small : {n : ℕ} {dirs : List ℤ} {rs : List CodeAnswer} → Singles n dirs rs → (i : ℕ)
    → get_or (codes_of rs) i 0 < 2 ^ 64
codes_small done i = omega arith
codes_small {n} (then f a) zero = (answer_small n _ _ f).0
codes_small (then f a) (suc i) = codes_small a i

pub refusals_small : {n : ℕ} {dirs : List ℤ} {rs : List CodeAnswer} → Singles n dirs rs → (i : ℕ)
    → get_or (refusals_of rs) i 0 < 12
refusals_small done i = omega arith
refusals_small {n} (then f a) zero = (answer_small n _ _ f).1
refusals_small (then f a) (suc i) = refusals_small a i
