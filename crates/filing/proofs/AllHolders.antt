-- The descent lists all holders: the words of a degree that hold, each once and rising; and no other list is one of all
-- holders. Assumes nothing.
use mathlib.Core.Path.{◌≡◌, refl, sym, ◌∙◌, ap, subst}
use mathlib.Core.Logic.{◌↔◌, ⊎_elim}
use mathlib.Core.Bool.{Bool, true, false, cond}
use mathlib.Core.List.{List, [], ◌∷◌, ◌++◌}
use Prim.Native.Nat.{ℕ, zero, suc, ◌+◌, ◌-◌, ◌*◌, ◌/◌, ◌%◌, ◌^◌, ◌≤◌, ◌<◌}
use native.Mathlib.Nat.{pow-succ', mul-le-mul_right, eq-or-lt_of_le}
use native.Mathlib.Omega.{arith}
use lib.Arith.{digits_div, digits_mod}
use lib.ListN.{length, get_or}
use Rattle.golden.specs.Decisions.{Decides}
use Rattle.words.specs.Words.{word_of}
use Rattle.words.specs.Family.{code_of}
use Rattle.words.specs.Refusals.{IsCode}
use Rattle.words.specs.Counting.{code_at, place_of}
use Rattle.words.specs.declared.TriangleCode.{TriangleCode}
use Rattle.words.proofs.CodeCount.{at_place, code_at_lem, codes_rise_lem, four_pow, place_below}
use Rattle.net.specs.Sides.{IsSide}
use Rattle.net.specs.Division.{each}
use Rattle.net.specs.Means.Paths.{digits_of}
use Rattle.filing.specs.Holding.{AllNonNeg, Holds}
use Rattle.filing.specs.Filing.{AreHolders}
use Rattle.filing.specs.Means.Descent.{child_dets, holds, holders}
use Rattle.filing.specs.Means.Sides.{side_dets}
use Rattle.filing.specs.Means.Lists.{joined, side_words, all_words}
use Rattle.filing.specs.declared.Direction.{Direction}
use Rattle.filing.specs.declared.Determinants.{Determinants}
use Rattle.filing.proofs.Recurrence.{below, below_first}
use Rattle.filing.proofs.Tests.{holds_decides}
use Rattle.filing.proofs.HeldCodes.{word_holds}

-- ---- lists of numbers

-- xs is f of those numbers from lo to below hi that have P, in order
data Lists (P : ℕ → Type 0) (f : ℕ → ℕ) : (lo hi : ℕ) → List ℕ → Type 0 where
  end : {k : ℕ} → Lists P f k k []
  skip : {k hi : ℕ} {xs : List ℕ} → (P k → ⊥) → Lists P f (suc k) hi xs → Lists P f k hi xs
  keep : {k hi : ℕ} {xs : List ℕ} → P k → Lists P f (suc k) hi xs → Lists P f k hi (f k ∷ xs)

-- x stands in xs, and where
abbrev Stands : List ℕ → (x : ℕ) → Type 0
Stands xs x = (m : ℕ) × (m < length xs) × (get_or xs m 0 ≡ x)

later : (y : ℕ) (xs : List ℕ) (x : ℕ) → Stands xs x → Stands (y ∷ xs) x
later y xs x (m, h, e) = (suc m, omega arith, e)

-- x is f of one of these numbers
record From (P : ℕ → Type 0) (f : ℕ → ℕ) (lo hi x : ℕ) : Type 0 where
  pub number : ℕ
  pub low : lo ≤ number
  pub high : number < hi
  pub has : P number
  pub is : x ≡ f number

module _ {P : ℕ → Type 0} {f : ℕ → ℕ} where
  limits : {lo hi : ℕ} {xs : List ℕ} → Lists P f lo hi xs → lo ≤ hi
  limits end = omega arith
  limits (skip n a) = omega (arith, limits a)
  limits (keep p a) = omega (arith, limits a)

  -- the same limits, written otherwise
  between : {lo lo' hi hi' : ℕ} {xs : List ℕ} → lo ≡ lo' → hi ≡ hi' → Lists P f lo hi xs → Lists P f lo' hi' xs
  between {lo} {hi' = hi'} {xs = xs} e e' a = subst (λ (l : ℕ). Lists P f l hi' xs) e
      (subst (λ (h : ℕ). Lists P f lo h xs) e' a)

  -- one part after the other
  and_then : {lo mid hi : ℕ} {xs ys : List ℕ} → Lists P f lo mid xs → Lists P f mid hi ys → Lists P f lo hi (xs ++ ys)
  and_then end b = b
  and_then (skip n a) b = skip n (and_then a b)
  and_then (keep p a) b = keep p (and_then a b)

  -- many parts, with the limits c k, c (k + 1), ..
  parts :
      (c : ℕ → ℕ) (g : ℕ → List ℕ) (m k : ℕ)
      → ((j : ℕ) → k ≤ j → j < k + m → Lists P f (c j) (c (suc j)) (g j))
      → Lists P f (c k) (c (k + m)) (joined m k g)
  unfolding joined
  parts c g zero k h = between refl (ap c (omega arith)) end
  parts c g (suc m) k h =
      let rest = parts c g m (suc k) (λ j l u. h j (omega arith) (omega arith)) in
      and_then (h k (omega arith) (omega arith)) (between refl (ap c (omega arith)) rest)

  -- each that is listed is from the range
  wider : {lo hi x : ℕ} → From P f (suc lo) hi x → From P f lo hi x
  wider r = record { number = r.number; low = omega (arith, r.low); high = r.high; has = r.has; is = r.is }

  listed : {lo hi : ℕ} {xs : List ℕ} → Lists P f lo hi xs → (m : ℕ) → m < length xs → From P f lo hi (get_or xs m 0)
  listed end m h = absurd (omega arith)
  listed (skip n a) m h = wider (listed a m h)
  listed (keep {k = k} p a) zero h = record {
    number = k;
    low = omega arith;
    high = omega (arith, limits a);
    has = p;
    is = refl;
  }
  listed (keep p a) (suc m) h = wider (listed a m (omega arith))

  -- each from the range is listed
  complete : {lo hi : ℕ} {xs : List ℕ} → Lists P f lo hi xs → (k : ℕ) → lo ≤ k → k < hi → P k → Stands xs (f k)
  complete end k l u p = absurd (omega arith)
  complete (skip {k = j} n a) k l u p = let other : j ≡ k → ⊥ = λ e. n (subst P (sym e) p) in
      complete a k (omega (arith, other)) u p
  complete (keep {k = j} {xs = xs} q a) k l u p =
      ⊎_elim (λ e. (0, omega arith, ap f e)) (λ g. later (f j) xs (f k) (complete a k g u p)) (eq-or-lt_of_le l)

  -- where f rises, so does the list
  module _ {hi : ℕ} (rise : (i j : ℕ) → i < j → j < hi → f i < f j) where
    rising : {lo : ℕ} {xs : List ℕ} → Lists P f lo hi xs → (m : ℕ) → suc m < length xs → get_or xs m 0 < get_or xs (suc m) 0
    rising end m h = absurd (omega arith)
    rising (skip n a) m h = rising a m h
    rising (keep {k = k} p a) zero h = let r = listed a 0 (omega arith) in
        omega (arith, rise k r.number r.low r.high, r.is)
    rising (keep p a) (suc m) h = rising a m (omega arith)

-- every number c further on, and h of what is listed
moved :
    {P Q : ℕ → Type 0} {f g : ℕ → ℕ} {lo hi : ℕ} {xs : List ℕ} (c : ℕ) (h : ℕ → ℕ)
    → ((k : ℕ) → lo ≤ k → k < hi → (P k ↔ Q (c + k)) × (h (f k) ≡ g (c + k)))
    → Lists P f lo hi xs
    → Lists Q g (c + lo) (c + hi) (each h xs)
moved c h e end = end
moved {Q = Q} {g = g} c h e (skip {k = k} n a) =
    let rest = moved {Q = Q} {g = g} c h (λ j l u. e j (omega arith) u) a in
    skip (λ q. n ((e k (omega arith) (limits a)).0.1 q)) (between (omega arith) refl rest)
moved {Q = Q} {g = g} c h e (keep {k = k} {hi = hi} {xs = xs} p a) =
    let rest = moved {Q = Q} {g = g} c h (λ j l u. e j (omega arith) u) a in
    let s = e k (omega arith) (limits a) in
    subst (λ (x : ℕ). Lists Q g (c + k) (c + hi) (x ∷ each h xs)) (sym s.1)
    (keep (s.0.0 p) (between (omega arith) refl rest))

-- ---- the paths below one triangle

-- of the paths n digits below the path v, those have P whose triangles hold
abbrev Means : (P : ℕ → Type 0) (n : ℕ) → Determinants → (v : ℕ) → Type 0
Means P n D v = (k : ℕ) → v * 4 ^ n ≤ k → k < suc v * 4 ^ n → P k ↔ AllNonNeg (below D (digits_of n k))

-- x·4^(n + 1)
four_more : (n x : ℕ) → x * 4 ^ suc n ≡ 4 * x * 4 ^ n
four_more n x = rw (pow-succ' 4 n) (omega arith)

-- the path u is the child j of the path v
module _ (n : ℕ) (D : Determinants) (u v j : ℕ) (h : (j < 4) × (u ≡ 4 * v + j)) where
  first_digit : (k : ℕ) → u * 4 ^ n ≤ k → k < suc u * 4 ^ n → k / 4 ^ n % 4 ≡ j
  first_digit k a b =
      let r = k - u * 4 ^ n in
      let s : k ≡ u * 4 ^ n + r = omega arith in
      let q : k / 4 ^ n ≡ u = ap (λ (x : ℕ). x / 4 ^ n) s ∙ digits_div u {m = 4 ^ n} {r = r} (omega arith) in
      omega (arith, h)

  child_means : {P : ℕ → Type 0} → Means P (suc n) D v → Means P n (child_dets j D) u
  child_means {P} e k a b =
      let low : 4 * v * 4 ^ n ≤ u * 4 ^ n = mul-le-mul_right (4 ^ n) (omega (arith, h)) in
      let high : suc u * 4 ^ n ≤ 4 * suc v * 4 ^ n = mul-le-mul_right (4 ^ n) (omega (arith, h)) in
      let q = below_first D n k ∙ ap (λ (x : ℕ). below (child_dets x D) (digits_of n k)) (first_digit k a b) in
      subst (λ (E : Determinants). P k ↔ AllNonNeg E) q
      (e k (omega (arith, four_more n v)) (omega (arith, four_more n (suc v))))

module _ {P : ℕ → Type 0} where
  one_path : (D : Determinants) (v : ℕ) → P v ↔ AllNonNeg D → Lists P (λ k. k) v (suc v) (holders 0 D v)
  unfolding holders
  one_path D v e = go (holds D) (holds_decides D)
    where
      go : (b : Bool) → Decides b (AllNonNeg D) → Lists P (λ k. k) v (suc v) (cond b (v ∷ []) [])
      go true h = keep (e.1 (h.holds refl)) end
      go false h = skip (λ p. h.fails refl (e.0 p)) end

  paths : (n : ℕ) (D : Determinants) (v : ℕ) → Means P n D v → Lists P (λ k. k) (v * 4 ^ n) (suc v * 4 ^ n)
      (holders n D v)
  unfolding below digits_of holders
  paths zero D v e = between (omega arith) (omega arith) (one_path D v (e v (omega arith) (omega arith)))
  paths (suc n) D v e =
      let child : (j u w : ℕ) → (j < 4) × (u ≡ 4 * v + j) → suc u ≡ w
      → Lists P (λ k. k) (u * 4 ^ n) (w * 4 ^ n) (holders n (child_dets j D) u) =
      λ j u w h f. between refl (ap (λ (x : ℕ). x * 4 ^ n) f) (paths n (child_dets j D) u (child_means n D u v j h e)) in
      let c0 = child 0 (4 * v) (4 * v + 1) (omega arith) (omega arith) in
      let c1 = child 1 (4 * v + 1) (4 * v + 2) (omega arith) (omega arith) in
      let c2 = child 2 (4 * v + 2) (4 * v + 3) (omega arith) (omega arith) in
      let c3 = child 3 (4 * v + 3) (4 * v + 4) (omega arith) (omega arith) in
      between (omega (arith, four_more n v)) (omega (arith, four_more n (suc v)))
      (and_then (and_then (and_then c0 c1) c2) c3)

-- ---- the words of the sides

module _ (n : ℕ) (d : Direction) (low : n ≤ 24) where
  abbrev Held : TriangleCode → Type 0
  Held t = Holds t d

  -- ws are the words of those codes, from the i-th to before the j-th of the degree, that hold
  abbrev Words : (i j : ℕ) (ws : List ℕ) → Type 0
  Words i j ws = Lists (λ k. Held (code_at n k)) (λ k. (code_at n k).0) i j ws

  -- the place of a side's path among all codes
  at_side : (s v : ℕ) → 4 ≤ s → v < 4 ^ n → code_at n ((s - 4) * 4 ^ n + v) ≡ code_of (word_of s n v)
  unfolding code_at
  at_side s v h k =
      let q : 4 + ((s - 4) * 4 ^ n + v) / 4 ^ n ≡ s = ap (λ (x : ℕ). 4 + x) (digits_div (s - 4) k) ∙ omega arith in
      λ i. code_of (word_of (q i) n (digits_mod (s - 4) k i))

  side_means : (s v : ℕ) → IsSide s → v < 4 ^ n → AllNonNeg (below (side_dets d s) (digits_of n v))
      ↔ Held (code_at n ((s - 4) * 4 ^ n + v))
  unfolding side_dets
  side_means s v h k =
      let e = at_side s v h.0 k in
      let w = word_holds s n v h low (omega (arith, four_pow n)) d in
      (λ p. subst Held (sym e) (w.1 p), λ p. w.0 (subst Held e p))

  side_words_lem : (s : ℕ) → IsSide s → Words ((s - 4) * 4 ^ n) ((suc s - 4) * 4 ^ n) (side_words d n s)
  unfolding side_words
  side_words_lem s h =
      let next : (suc s - 4) * 4 ^ n ≡ suc (s - 4) * 4 ^ n = ap (λ (x : ℕ). x * 4 ^ n) (omega (arith, h.0)) in
      let here = paths n (side_dets d s) 0 (λ v a b. (λ p. p, λ p. p)) in
      between (omega arith) (omega arith)
      (moved ((s - 4) * 4 ^ n) (word_of s n)
      (λ v a b. (side_means s v h (omega arith), λ i. (sym (at_side s v h.0 (omega arith)) i).0)) here)

  all_words_lem : Words 0 (20 * 4 ^ n) (all_words d n 4)
  unfolding all_words
  all_words_lem = between (omega arith) (omega arith) (parts (λ s. (s - 4) * 4 ^ n) (side_words d n) 20 4
      (λ s a b. side_words_lem s (a, b)))

  -- the list of all holders
  pub all_holders : AreHolders n d (all_words d n 4)
  all_holders = record {
    rising = rising (λ i j. codes_rise_lem n i j low) all_words_lem;
    codes = λ m h. let r = listed all_words_lem m h in subst (IsCode n) (λ i. code_of (sym r.is i))
        (code_at_lem n r.number low r.high);
    hold = λ m h. let r = listed all_words_lem m h in subst Held (λ i. code_of (sym r.is i)) r.has;
    complete = λ t c h.
        let e = at_place c in
        let r = complete all_words_lem (place_of t) (omega arith) (place_below c) (subst Held (sym e) h) in
        (r.0, r.1, r.2 ∙ (λ i. (e i).0));
  }

-- ---- there is only one list

abbrev Rising : List ℕ → Type 0
Rising xs = (m : ℕ) → suc m < length xs → get_or xs m 0 < get_or xs (suc m) 0

-- each of xs is one of ys
abbrev Among : List ℕ → List ℕ → Type 0
Among xs ys = (m : ℕ) → m < length xs → Stands ys (get_or xs m 0)

module _ (x : ℕ) (xs : List ℕ) where
  -- what follows in a rising list is greater than its first, and rises
  above : Rising (x ∷ xs) → (m : ℕ) → m < length xs → x < get_or xs m 0
  above r zero h = r 0 (omega arith)
  above r (suc m) h = omega (arith, above r m (omega arith), r (suc m) (omega arith))

  tail_rises : Rising (x ∷ xs) → Rising xs
  tail_rises r m h = r (suc m) (omega arith)

  -- the first is the least, and what is greater stands after it
  first_least : (y : ℕ) → Rising (x ∷ xs) → Stands (x ∷ xs) y → x ≤ y
  first_least y r (zero, h, e) = omega arith
  first_least y r (suc k, h, e) = omega (arith, above r k (omega arith))

  not_first : (y : ℕ) → x < y → Stands (x ∷ xs) y → Stands xs y
  not_first y l (zero, h, e) = absurd (omega arith)
  not_first y l (suc k, h, e) = (k, omega arith, e)

tail_among : (x y : ℕ) (xs ys : List ℕ) → x ≡ y → Rising (x ∷ xs) → Among (x ∷ xs) (y ∷ ys) → Among xs ys
tail_among x y xs ys p r a m h = not_first y ys (get_or xs m 0) (omega (arith, above x xs r m h))
    (a (suc m) (omega arith))

same_list : (xs ys : List ℕ) → Rising xs → Rising ys → Among xs ys → Among ys xs → xs ≡ ys
same_list [] [] r s a b = refl
same_list [] (y ∷ ys) r s a b = absurd (omega (arith, (b 0 (omega arith)).1))
same_list (x ∷ xs) [] r s a b = absurd (omega (arith, (a 0 (omega arith)).1))
same_list (x ∷ xs) (y ∷ ys) r s a b =
    let p : x ≡ y = omega (arith, first_least y ys x s (a 0 (omega arith)), first_least x xs y r (b 0 (omega arith))) in
    let q = same_list xs ys (tail_rises x xs r) (tail_rises y ys s) (tail_among x y xs ys p r a)
    (tail_among y x ys xs (sym p) s b) in
    λ i. p i ∷ q i

pub one_list : {n : ℕ} {d : Direction} {ts us : List ℕ} → AreHolders n d ts → AreHolders n d us → ts ≡ us
one_list {n} {d} {ts} {us} a b = same_list ts us a.rising b.rising (among a b) (among b a)
  where
    among : {ts us : List ℕ} → AreHolders n d ts → AreHolders n d us → Among ts us
    among {ts} a b m h = b.complete (code_of (get_or ts m 0)) (a.codes m h) (a.hold m h)
