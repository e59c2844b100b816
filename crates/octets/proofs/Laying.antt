-- Laws of numbers as bytes, for any number of bytes: how many there are, each below 256, the number read back, the
-- bytes of a list of numbers. Assumes nothing.
use mathlib.Core.Path.{◌≡◌, ◌∙◌, refl, sym, ap}
use mathlib.Core.List.{List, [], ◌∷◌, ◌++◌, append-nil, append_assoc}
use Prim.Native.Nat.{ℕ, zero, suc, ◌+◌, ◌-◌, ◌*◌, ◌/◌, ◌%◌, ◌^◌, ◌≤◌, ◌<◌}
use native.Mathlib.Omega.{arith}
use native.Mathlib.Nat.{mod-eq_of_lt, one-le-pow, pow-succ', add-mul, mul_assoc, mul_comm, mul-suc}
use lib.Arith.{mod-mul}
use lib.ListN.{length, get_or, take, drop, length-append, length-drop}
use lib.Seq.{take_at, drop_at, drop-drop, take-append-le, drop-append-le}
use mir.Syntax.{w32}
use mir.Val.{to_z}
use Rattle.std.proofs.Common.{inl, inr}
use Rattle.std.proofs.lemmas.Bool.{cases_lt}
use borrow.Author.Tests.{lt-ltb, le-ltb}
use borrow.Rule.Slice.PartMut.{put_mid}
use Rattle.frame.specs.Answers.{over}
use Rattle.frame.proofs.Lengths.{two_parts, over_long}
use Rattle.octets.specs.Bytes.{bytes_of, bytes, read_on, number_of, number_at, read_each, numbers, signed}

-- ---- one number

pub bytes_of_long : (k w : ℕ) → length (bytes_of k w) ≡ k
bytes_of_long zero w = refl
bytes_of_long (suc k) w = ap suc (bytes_of_long k w)

pub each_byte : (k w i : ℕ) → get_or (bytes_of k w) i 0 < 256
each_byte zero w i = omega arith
each_byte (suc k) w zero = omega arith
each_byte (suc k) w (suc i) = each_byte k w i

more : (k : ℕ) → 256 ^ suc k ≡ 256 * 256 ^ k
more k = pow-succ' 256 k

-- the bytes taken up after others, whose number is a
read_on_lem : (k w a : ℕ) → read_on a (bytes_of k w) ≡ a * 256 ^ k + w % 256 ^ k
read_on_lem zero w a = omega arith
read_on_lem (suc k) w a =
    let b = w / 256 ^ k % 256 in
    let m : w % (256 * 256 ^ k) ≡ b * 256 ^ k + w % 256 ^ k =
    mod-mul w (omega arith) (one-le-pow k 256 (omega arith)) in
    let d : (256 * a + b) * 256 ^ k ≡ a * (256 * 256 ^ k) + b * 256 ^ k =
    add-mul (256 * a) b (256 ^ k)
    ∙ ap (λ (x : ℕ). x + b * 256 ^ k)
    (ap (λ (x : ℕ). x * 256 ^ k) (mul_comm 256 a) ∙ mul_assoc a 256 (256 ^ k)) in
    read_on_lem k w (256 * a + b) ∙ omega (arith, m, d) ∙ ap (λ (x : ℕ). a * x + w % x) (sym (more k))

-- read back
pub number_back : (k w : ℕ) → w < 256 ^ k → number_of (bytes_of k w) ≡ w
number_back k w l = read_on_lem k w 0 ∙ omega (arith, mod-eq_of_lt l)

-- ---- the numbers of a list

pub bytes_long : (k : ℕ) (ws : List ℕ) → length (bytes k ws) ≡ k * length ws
unfolding bytes
bytes_long k [] = omega arith
bytes_long k (w ∷ ws) =
    length-append (bytes_of k w) (bytes k ws)
    ∙ omega (arith, bytes_of_long k w, bytes_long k ws, mul-suc k (length ws))

pub bytes_append : (k : ℕ) (ws vs : List ℕ) → bytes k (ws ++ vs) ≡ bytes k ws ++ bytes k vs
unfolding bytes
bytes_append k [] vs = refl
bytes_append k (w ∷ ws) vs =
    ap (λ (l : List ℕ). bytes_of k w ++ l) (bytes_append k ws vs)
    ∙ sym (append_assoc (bytes_of k w) (bytes k ws) (bytes k vs))

-- number i of them, whatever follows
taken : (k : ℕ) (ws rest : List ℕ) (i : ℕ) → i < length ws
    → take k (drop (k * i) (bytes k ws ++ rest)) ≡ bytes_of k (get_or ws i 0)
unfolding bytes
taken k [] rest i l = absurd (omega arith)
taken k (w ∷ ws) rest zero l =
    let none : k * 0 ≡ 0 = omega arith in
    ap (λ (x : ℕ). take k (drop x (bytes k (w ∷ ws) ++ rest))) none
    ∙ ap (take k) (append_assoc (bytes_of k w) (bytes k ws) rest)
    ∙ take_at (bytes_of k w) (bytes k ws ++ rest) k (bytes_of_long k w)
taken k (w ∷ ws) rest (suc i) l =
    let tail = bytes k ws ++ rest in
    let further : k * suc i ≡ k + k * i = omega (arith, mul-suc k i) in
    ap (λ (x : List ℕ). take k (drop (k * suc i) x)) (append_assoc (bytes_of k w) (bytes k ws) rest)
    ∙ ap (λ (x : ℕ). take k (drop x (bytes_of k w ++ tail))) further
    ∙ ap (take k) (sym (drop-drop (k * i) k (bytes_of k w ++ tail)))
    ∙ ap (λ (x : List ℕ). take k (drop (k * i) x)) (drop_at (bytes_of k w) tail k (bytes_of_long k w))
    ∙ taken k ws rest i (omega arith)

pub number_at_lem : (k : ℕ) (ws rest : List ℕ) (i : ℕ) → i < length ws → get_or ws i 0 < 256 ^ k
    → number_at k (bytes k ws ++ rest) i ≡ get_or ws i 0
number_at_lem k ws rest i l b = ap number_of (taken k ws rest i l) ∙ number_back k (get_or ws i 0) b

-- laid over a slice: what follows is as it was, and so is its length
pub after_bytes : (k : ℕ) (ws out : List ℕ)
    → drop (k * length ws) (over (bytes k ws) out) ≡ drop (k * length ws) out
after_bytes k ws out =
    let e = bytes_long k ws in
    drop_at (bytes k ws) (drop (length (bytes k ws)) out) (k * length ws) e ∙ ap (λ (j : ℕ). drop j out) e

pub as_long : (k : ℕ) (ws out : List ℕ) → k * length ws ≤ length out
    → length (over (bytes k ws) out) ≡ length out
as_long k ws out l = over_long (bytes k ws) out (omega (arith, bytes_long k ws, l))

-- ---- numbers written one after the other

-- one number
pub laid_one : (k w : ℕ) (out : List ℕ) → over (bytes_of k w) out ≡ over (bytes k (w ∷ [])) out
unfolding bytes
laid_one k w out = ap (λ (bs : List ℕ). over bs out) (sym (append-nil (bytes_of k w)))

-- a number, and the others in the part that follows
pub laid_next : (k w : ℕ) (ws out mid late : List ℕ) → mid ≡ over (bytes_of k w) out
    → late ≡ over (bytes k ws) (take (length mid - k) (drop k mid))
    → put_mid k (length mid - k) mid late ≡ over (bytes k (w ∷ ws)) out
unfolding bytes
laid_next k w ws out mid late e f = two_parts out mid late (bytes_of k w) (bytes k ws) k (bytes_of_long k w) e f

-- ---- bytes read

-- a signed number of four bytes
pub as_signed : (w : ℕ) → w < 4294967296 → to_z w32 w ≡ signed 4 w
unfolding signed
as_signed w h =
    elim (cases_lt w 2147483648) [
      | inl l ↦ rw (lt-ltb w 2147483648 l, lt-ltb (2 * w) (256 ^ 4) (omega arith))
      | inr l ↦ let e : 4294967296 - w ≡ suc (4294967296 - suc w) = omega arith in
          rw (le-ltb w 2147483648 l, le-ltb (2 * w) (256 ^ 4) (omega arith), e)
    ]

-- ---- many numbers, as f reads them

module _ {A : Type 0} (f : ℕ → A) (k : ℕ) where
  pub read_long : (m : ℕ) (bs : List ℕ) → length (read_each f k m bs) ≡ m
  unfolding read_each
  read_long zero bs = refl
  read_long (suc m) bs = ap suc (read_long m (drop k bs))

  -- one more
  pub read_next : (m : ℕ) (bs : List ℕ)
      → read_each f k (suc m) bs ≡ read_each f k m bs ++ (f (number_at k bs m) ∷ [])
  unfolding read_each
  read_next zero bs =
      let e : k * 0 ≡ 0 = omega arith in
      ap (λ (j : ℕ). f (number_of (take k (drop j bs))) ∷ []) (sym e)
  read_next (suc m) bs =
      let e : k + k * m ≡ k * suc m = omega (arith, mul-suc k m) in
      ap (λ (l : List A). f (number_of (take k bs)) ∷ l) (read_next m (drop k bs)
      ∙ ap (λ (b : List ℕ). read_each f k m (drop k bs) ++ (f (number_of (take k b)) ∷ []))
      (drop-drop (k * m) k bs ∙ ap (λ (j : ℕ). drop j bs) e))

  -- number i of them
  pub read_at : (d : A) (m : ℕ) (bs : List ℕ) (i : ℕ) → i < m
      → get_or (read_each f k m bs) i d ≡ f (number_at k bs i)
  unfolding read_each
  read_at d zero bs i l = absurd (omega (arith, l))
  read_at d (suc m) bs zero l =
      let e : k * 0 ≡ 0 = omega arith in
      ap (λ (j : ℕ). f (number_of (take k (drop j bs)))) (sym e)
  read_at d (suc m) bs (suc i) l =
      let e : k + k * i ≡ k * suc i = omega (arith, mul-suc k i) in
      read_at d m (drop k bs) i (omega (arith, l))
      ∙ ap (λ (b : List ℕ). f (number_of (take k b)))
      (drop-drop (k * i) k bs ∙ ap (λ (j : ℕ). drop j bs) e)

  -- what follows them does not matter
  pub read_append : (m : ℕ) (bs rest : List ℕ) → k * m ≤ length bs
      → read_each f k m (bs ++ rest) ≡ read_each f k m bs
  unfolding read_each
  read_append zero bs rest l = refl
  read_append (suc m) bs rest l =
      let h : k + k * m ≤ length bs = omega (arith, l, mul-suc k m) in
      let first : take k (bs ++ rest) ≡ take k bs = take-append-le k bs rest (omega (arith, h)) in
      let others : drop k (bs ++ rest) ≡ drop k bs ++ rest = drop-append-le k bs rest (omega (arith, h)) in
      (λ i. f (number_of (first i)) ∷ read_each f k m (others i))
      ∙ ap (λ (l : List A). f (number_of (take k bs)) ∷ l)
      (read_append m (drop k bs) rest (omega (arith, h, length-drop k bs)))

-- the numbers that bytes were made of
pub numbers_back : (k : ℕ) (ws : List ℕ) → ((i : ℕ) → i < length ws → get_or ws i 0 < 256 ^ k)
    → numbers k (length ws) (bytes k ws) ≡ ws
unfolding read_each bytes
numbers_back k [] h = refl
numbers_back k (w ∷ ws) h =
    let first : take k (bytes_of k w ++ bytes k ws) ≡ bytes_of k w =
    take_at (bytes_of k w) (bytes k ws) k (bytes_of_long k w) in
    let others : drop k (bytes_of k w ++ bytes k ws) ≡ bytes k ws =
    drop_at (bytes_of k w) (bytes k ws) k (bytes_of_long k w) in
    (λ i. number_of (first i) ∷ numbers k (length ws) (others i))
    ∙ (λ i. number_back k w (h 0 (omega arith)) i
    ∷ numbers_back k ws (λ j l. h (suc j) (omega (arith, l))) i)
