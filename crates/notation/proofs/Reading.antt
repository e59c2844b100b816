-- How digits are read and written: lists of them, and their paths. Assumes nothing.
use mathlib.Core.Path.{◌≡◌, ◌∙◌, refl, sym, ap}
use mathlib.Core.Bool.{Bool, true, false, ◌&&◌, true≢false}
use mathlib.Core.List.{List, [], ◌∷◌, ◌++◌, append_assoc, reverse, reverse_aux, reverse_aux-eq}
use Prim.Native.Nat.{ℕ, zero, suc, ◌+◌, ◌-◌, ◌*◌, ◌/◌, ◌%◌, ◌^◌, ◌≤◌, ◌<◌}
use native.Mathlib.Omega.{arith}
use lib.Dec.{leb}
use lib.ListN.{length, get_or, drop, drop_of_length-le, set, length-append}
use lib.Pow.{pow_mono}
use lib.Seq.{drop-cons}
use borrow.Author.Tests.{le-leb, lt-leb}
use Rattle.frame.specs.Answers.{over}
use Rattle.words.specs.Words.{path}
use Rattle.net.specs.Means.Paths.{digits_of}
use Rattle.net.proofs.Canonical.{and_true}
use Rattle.net.proofs.Paths.{four, of_length}
use Rattle.net.proofs.SeamCode.{not_zero}
use Rattle.notation.specs.Domains.{are_digits}
use Rattle.notation.specs.Means.Reading.{only, taken}
use Rattle.std.specs.Prelude.{Option, Some, None}

-- ---- reading

-- a digit more of a list, from the place i on
module _ (v : ℕ) (rs : List ℕ) (i : ℕ) where
  abbrev next : Option ℕ
  next = taken (4 * v + get_or rs i 0) (drop (suc i) rs)

  pub read_no : i < length rs → 3 < get_or rs i 0 → None ≡ taken v (drop i rs)
  unfolding taken
  read_no l h = sym (ap (taken v) (drop-cons rs i 0 l) ∙ ap (λ (b : Bool). only b next) (lt-leb (get_or rs i 0) 3 h))

  pub read_next : i < length rs → get_or rs i 0 ≤ 3 → taken (4 * v + get_or rs i 0) (drop (i + 1) rs) ≡ taken v (drop i rs)
  unfolding taken
  read_next l h =
      let n : i + 1 ≡ suc i = omega arith in
      ap (λ (k : ℕ). taken (4 * v + get_or rs i 0) (drop k rs)) n
      ∙ sym (ap (taken v) (drop-cons rs i 0 l) ∙ ap (λ (b : Bool). only b next) (le-leb (get_or rs i 0) 3 h))

  pub read_end : length rs ≤ i → Some v ≡ taken v (drop i rs)
  unfolding taken
  read_end l = sym (ap (taken v) (drop_of_length-le rs l))

-- the path of i digits, and of one more
pub room_next : (v i d : ℕ) → v < 2 ^ (2 * i) → d ≤ 3 → i < 24 → (4 * v + d < 2 ^ (2 * (i + 1))) × (4 * v + d < 2 ^ 48)
room_next v i d h l k =
    let n : i + 1 ≡ suc i = omega arith in
    let r : 4 * v + d < 2 ^ (2 * suc i) = omega (arith, four i) in
    (rw n r, omega (arith, r, pow_mono {i = 2 * suc i} {j = 48} (omega arith)))

-- the digits of a list, after those of ds, are the list's the other way round and then ds
pub taken_path : (rs ds : List ℕ) (v : ℕ) → v ≡ path ds → are_digits rs ≡ true
    → taken v rs ≡ Some (path (reverse_aux rs ds))
unfolding taken path
taken_path [] ds v e h = ap (λ (n : ℕ). Some n) e
taken_path (r ∷ rs) ds v e h =
    let x = (and_true (leb r 3) (are_digits rs)).0 h in
    rw x.0 (taken_path rs (r ∷ ds) (4 * v + r) (ap (λ (y : ℕ). 4 * y + r) e) x.1)

pub taken_no : (rs : List ℕ) (v : ℕ) → are_digits rs ≡ false → taken v rs ≡ None
unfolding taken
taken_no [] v h = absurd (true≢false h)
taken_no (r ∷ rs) v h = go (leb r 3) h (taken_no rs (4 * v + r))
  where
    go : (b : Bool) → b && are_digits rs ≡ false → (are_digits rs ≡ false → taken (4 * v + r) rs ≡ None)
        → only b (taken (4 * v + r) rs) ≡ None
    go true e ih = ih e
    go false e ih = refl

-- ---- writing

pub reverse_long : (ds : List ℕ) → length (reverse ds) ≡ length ds
reverse_long [] = refl
reverse_long (d ∷ ds) =
    ap length (reverse_aux-eq ds (d ∷ [])) ∙ length-append (reverse ds) (d ∷ []) ∙ omega (arith, reverse_long ds)

-- n digits, by n - 1
pub digits_more : (n v : ℕ) → (n ≡ 0 → ⊥) → digits_of n v ≡ v % 4 ∷ digits_of (n - 1) (v / 4)
unfolding digits_of
digits_more n v = not_zero (λ n. digits_of n v ≡ v % 4 ∷ digits_of (n - 1) (v / 4))
    (λ n. let e : suc n - 1 ≡ n = omega arith in rw e refl) n

-- the last of some digits written, and the rest before it
drop_set : (out : List ℕ) (k x : ℕ) → k < length out → drop k (set out k x) ≡ x ∷ drop (suc k) out
drop_set [] k x l = absurd (omega arith)
drop_set (o ∷ out) zero x l = refl
drop_set (o ∷ out) (suc k) x l = drop_set out k x (omega arith)

pub put_last : (i v : ℕ) (out : List ℕ) → 0 < i → i ≤ length out
    → over (reverse (digits_of (i - 1) (v / 4))) (set out (i - 1) (v % 4)) ≡ over (reverse (digits_of i v)) out
put_last i v out z l =
    let ds = digits_of (i - 1) (v / 4) in
    let k : length (reverse ds) ≡ i - 1 = reverse_long ds ∙ of_length (i - 1) (v / 4) in
    let more : suc (length (reverse ds)) ≡ length (reverse ds ++ (v % 4 ∷ [])) =
    omega (arith, length-append (reverse ds) (v % 4 ∷ [])) in
    ap (λ (j : ℕ). reverse ds ++ drop (length (reverse ds)) (set out j (v % 4))) (sym k)
    ∙ ap (λ (r : List ℕ). reverse ds ++ r) (drop_set out (length (reverse ds)) (v % 4) (omega arith))
    ∙ sym (append_assoc (reverse ds) (v % 4 ∷ []) (drop (suc (length (reverse ds))) out))
    ∙ ap (λ (j : ℕ). (reverse ds ++ (v % 4 ∷ [])) ++ drop j out) more
    ∙ ap (λ (r : List ℕ). over r out) (sym (reverse_aux-eq ds (v % 4 ∷ [])))
    ∙ ap (λ (ds : List ℕ). over (reverse ds) out) (sym (digits_more i v (λ e. omega arith)))

pub put_all : (i v : ℕ) (out : List ℕ) → i ≤ 0 → over (reverse (digits_of i v)) out ≡ out
unfolding digits_of
put_all i v out h = let e : i ≡ 0 = omega arith in rw e refl
