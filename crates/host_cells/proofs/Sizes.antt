-- Every number that the two calls answer has 64 bits, so that a host reads back what was answered. Assumes nothing.
use mathlib.Core.Path.{◌≡◌, ◌∙◌, refl, sym, ap}
use mathlib.Core.Bool.{Bool, true, false, cond}
use mathlib.Core.Logic.{inl, inr, ⊎_elim}
use mathlib.Core.List.{List, [], ◌∷◌, ◌++◌, map, map-append}
use Prim.Native.Nat.{ℕ, zero, suc, ◌+◌, ◌*◌, ◌^◌, ◌≤◌, ◌<◌}
use native.Mathlib.Omega.{arith}
use native.Mathlib.Nat.{one-le-pow, pow-succ', mul-le-mul, mul_assoc}
use lib.Dec.{eqb}
use lib.ListN.{length, get_or, take, drop}
use Rattle.frame.specs.Refusals.{Row, given, first_of}
use Rattle.frame.proofs.Answering.{answers_or_not}
use Rattle.octets.specs.Bytes.{read_on, read_each, numbers}
use Rattle.words.proofs.Codes.{code_below}
use Rattle.cells.specs.Order.{valid}
use Rattle.cells.specs.Checking.{reason_at, checked}
use Rattle.cells.specs.Checking.{Verdict}
use Rattle.cells.proofs.Spelling.{valid_code}
use Rattle.cells.proofs.Accepting.{checks, reason_none}
use Rattle.mending.specs.Mending.{change, drop_reason, judged, dropped, merges_at, replaced, merges_below, sound}
use Rattle.mending.specs.Mending.{mended, changes}
use Rattle.mending.specs.Answers.{words_of, reasons_of}
use Rattle.mending.proofs.Members.{Mem}
use Rattle.mending.proofs.Merging.{Good, merge_mem}
use Rattle.mending.proofs.Dropping.{sound_good}
use Rattle.mending.proofs.Mended.{next_good, mended_accepted}

-- ---- the words of bytes

abbrev pub AreBytes : List ℕ → Type 0
AreBytes bs = (i : ℕ) → get_or bs i 0 < 256

take_bytes : (k : ℕ) (bs : List ℕ) → AreBytes bs → AreBytes (take k bs)
take_bytes zero bs h i = omega arith
take_bytes (suc k) [] h i = omega arith
take_bytes (suc k) (b ∷ bs) h zero = h 0
take_bytes (suc k) (b ∷ bs) h (suc i) = take_bytes k bs (λ j. h (suc j)) i

drop_bytes : (k : ℕ) (bs : List ℕ) → AreBytes bs → AreBytes (drop k bs)
drop_bytes zero bs h = h
drop_bytes (suc k) [] h = h
drop_bytes (suc k) (b ∷ bs) h = drop_bytes k bs (λ j. h (suc j))

most_taken : (k : ℕ) (bs : List ℕ) → length (take k bs) ≤ k
most_taken zero bs = omega arith
most_taken (suc k) [] = omega arith
most_taken (suc k) (b ∷ bs) = omega (arith, most_taken k bs)

read_below : (k w : ℕ) (bs : List ℕ) → length bs ≤ k → AreBytes bs → read_on w bs < suc w * 256 ^ k
read_below k w [] l h =
    let q : suc w ≤ suc w = omega arith in
    omega (arith, mul-le-mul q (one-le-pow k 256 (omega arith)))
read_below zero w (b ∷ bs) l h = absurd (omega (arith, l))
read_below (suc k) w (b ∷ bs) l h =
    let ih = read_below k (256 * w + b) bs (omega (arith, l)) (λ i. h (suc i)) in
    let s : suc (256 * w + b) ≤ suc w * 256 = omega (arith, h 0) in
    let q : 256 ^ k ≤ 256 ^ k = omega arith in
    let e : suc w * 256 ^ suc k ≡ (suc w * 256) * 256 ^ k =
    ap (λ (x : ℕ). suc w * x) (pow-succ' 256 k) ∙ sym (mul_assoc (suc w) 256 (256 ^ k)) in
    omega (arith, ih, e, mul-le-mul s q)

pub words_small : (m : ℕ) (bs : List ℕ) → AreBytes bs → (i : ℕ) → get_or (numbers 8 m bs) i 0 < 2 ^ 64
unfolding read_each
words_small zero bs h i = omega arith
words_small (suc m) bs h zero =
    omega (arith, read_below 8 0 (take 8 bs) (most_taken 8 bs) (take_bytes 8 bs h))
words_small (suc m) bs h (suc i) = words_small m (drop 8 bs) (drop_bytes 8 bs h) i

-- ---- a verdict

cond_most : (b : Bool) (x y m : ℕ) → x ≤ m → y ≤ m → cond b x y ≤ m
cond_most true x y m h k = h
cond_most false x y m h k = k

abbrev Most : ℕ → List ℕ → Type 0
Most m [] = Unit {0}
Most m (o ∷ os) = (o ≤ m) × Most m os

first_most : (m : ℕ) (os : List ℕ) (rs : List Row) → Most m os → first_of os rs ≤ m
unfolding first_of
first_most m [] rs h = omega arith
first_most m (o ∷ os) rs h = cond_most (given o rs) o (first_of os rs) m h.0 (first_most m os rs h.1)

reason_most : (ws : List ℕ) (i : ℕ) → reason_at ws i ≤ 4
unfolding reason_at
reason_most ws i =
    first_most 4 (1 ∷ 2 ∷ 3 ∷ 4 ∷ []) _ (omega arith, (omega arith, (omega arith, (omega arith, tt))))

pub verdict_small : (ws : List ℕ) → length ws < 2 ^ 64
    → (i : ℕ) → get_or ((checked ws).reason ∷ (checked ws).place ∷ []) i 0 < 2 ^ 64
verdict_small ws l i = both i
  where
    sizes : ((checked ws).reason ≤ 4) × ((checked ws).place < 2 ^ 64)
    sizes = ⊎_elim
        (λ z. let e = (checks.exactly ws).1 (reason_none ws z) in
        (omega (arith, z), omega (arith, ap (λ (r : Verdict). r.place) e)))
        (λ n.
        let f = checks.offence ws (λ a. n (ap (λ (r : Verdict). r.reason) ((checks.exactly ws).1 a))) in
        (omega (arith, f.reason, reason_most ws (checked ws).place), omega (arith, f.there, l)))
        (answers_or_not (checked ws).reason)

    both : (i : ℕ) → get_or ((checked ws).reason ∷ (checked ws).place ∷ []) i 0 < 2 ^ 64
    both zero = omega (arith, sizes.0)
    both (suc zero) = sizes.1
    both (suc (suc i)) = omega arith

-- ---- a mended list and its changes

abbrev pub Small : List ℕ → Type 0
Small [] = Unit {0}
Small (w ∷ ws) = (w < 2 ^ 64) × Small ws

pub small_at : (ws : List ℕ) → Small ws → (i : ℕ) → get_or ws i 0 < 2 ^ 64
small_at [] s i = omega arith
small_at (w ∷ ws) s zero = s.0
small_at (w ∷ ws) s (suc i) = small_at ws s.1 i

pub at_small : (ws : List ℕ) → ((i : ℕ) → i < length ws → get_or ws i 0 < 2 ^ 64) → Small ws
at_small [] h = tt
at_small (w ∷ ws) h = (h 0 (omega arith), at_small ws (λ i l. h (suc i) (omega (arith, l))))

mem_small : (ws : List ℕ) → ((w : ℕ) → Mem w ws → w < 2 ^ 64) → Small ws
mem_small [] h = tt
mem_small (w ∷ ws) h = (h w (inl refl), mem_small ws (λ u m. h u (inr m)))

append_small : (xs ys : List ℕ) → Small xs → Small ys → Small (xs ++ ys)
append_small [] ys s t = t
append_small (x ∷ xs) ys s t = (s.0, append_small xs ys s.1 t)

valid_small : (w : ℕ) → valid w ≡ true → w < 2 ^ 64
valid_small w v = code_below (valid_code w v)

pub mended_small : (ws : List ℕ) → Small (mended ws)
mended_small ws = at_small (mended ws) (λ i l. valid_small _ ((mended_accepted ws).codes i l))

drop_most : (all es : List ℕ) (w : ℕ) → drop_reason all es w ≤ 4
unfolding drop_reason
drop_most all es w = first_most 4 (1 ∷ 3 ∷ 4 ∷ []) _ (omega arith, (omega arith, (omega arith, tt)))

-- what is dropped is a word of the list, for a small reason
dropped_small : (all es rest : List ℕ) → Small rest
    → Small (words_of (dropped (judged all es rest))) × Small (reasons_of (dropped (judged all es rest)))
unfolding judged dropped
dropped_small all es [] s = (tt, tt)
dropped_small all es (w ∷ ws) s =
    go (eqb (drop_reason all es w) 0) (dropped_small all (w ∷ es) ws s.1)
  where
    go : (b : Bool)
        → Small (words_of (dropped (judged all (w ∷ es) ws))) × Small (reasons_of (dropped (judged all (w ∷ es) ws)))
        → let c = change w (drop_reason all es w) in let cs = dropped (judged all (w ∷ es) ws) in
        Small (words_of (cond b cs (c ∷ cs))) × Small (reasons_of (cond b cs (c ∷ cs)))
    go true p = p
    go false p = ((s.0, p.0), (omega (arith, drop_most all es w), p.1))

merges_small : (d : ℕ) (ws : List ℕ) → d ≤ 24 → Good d ws → Small (merges_below d ws)
unfolding merges_below
merges_small zero ws h g = tt
merges_small (suc d) ws h g =
    append_small (merges_at d ws) (merges_below d (replaced (merges_at d ws) ws))
    (mem_small (merges_at d ws) (λ u m. valid_small u (merge_mem d h ws g u m).0))
    (merges_small d (replaced (merges_at d ws) ws) (omega (arith, h)) (next_good d h ws g))

fives : (us : List ℕ) → Small us
    → Small (words_of (map (λ u. change u 5) us)) × Small (reasons_of (map (λ u. change u 5) us))
fives [] s = (tt, tt)
fives (u ∷ us) s = let p = fives us s.1 in ((s.0, p.0), (omega arith, p.1))

pub changes_small : (ws : List ℕ) → Small ws → Small (words_of (changes ws)) × Small (reasons_of (changes ws))
unfolding changes
changes_small ws s =
    let ds = dropped (judged ws [] ws) in
    let ms = merges_below 24 (sound ws) in
    let p = dropped_small ws [] ws s in
    let q = fives ms (merges_small 24 (sound ws) (omega arith) (sound_good ws)) in (
      rw (map-append (λ c. c.word) ds (map (λ u. change u 5) ms)) (append_small (words_of ds) _ p.0 q.0),
      rw (map-append (λ c. c.reason) ds (map (λ u. change u 5) ms)) (append_small (reasons_of ds) _ p.1 q.1),
    )
