-- Document 02, 2026-01, 2026-04 and 2026-09: numbers as bytes, and bytes as numbers. Assumes nothing.
use Rattle.std.specs.Prelude.{ℕ, zero, suc, ◌+◌, ◌-◌, ◌*◌, ◌/◌, ◌%◌, ◌^◌, cond, List, [], ◌∷◌, ◌++◌, ltb, ℤ, pos, neg_ℤ, length, take, drop}

-- the k bytes of a number, "most significant first"
abbrev pub bytes_of : (k w : ℕ) → List ℕ
bytes_of zero w = []
bytes_of (suc k) w = w / 256 ^ k % 256 ∷ bytes_of k w

-- the bytes of many numbers, one number after the other, k "for each number"
unfoldable pub bytes : (k : ℕ) → List ℕ → List ℕ
bytes k [] = []
bytes k (w ∷ ws) = bytes_of k w ++ bytes k ws

-- the number that bytes are, most significant first; w is the number of the bytes before them
abbrev pub read_on : (w : ℕ) → List ℕ → ℕ
read_on w [] = w
read_on w (b ∷ bs) = read_on (256 * w + b) bs

abbrev pub number_of : List ℕ → ℕ
number_of bs = read_on 0 bs

-- number i, from 0, of those that stand in bytes, k for each
abbrev pub number_at : (k : ℕ) (bs : List ℕ) (i : ℕ) → ℕ
number_at k bs i = number_of (take k (drop (k * i) bs))

-- the first m of the numbers that stand in bytes, k for each, as f reads each of them
unfoldable pub read_each : {A : Type 0} → (f : ℕ → A) (k m : ℕ) → List ℕ → List A
read_each f k zero bs = []
read_each f k (suc m) bs = f (number_of (take k bs)) ∷ read_each f k m (drop k bs)

-- as they are
abbrev pub numbers : (k m : ℕ) → List ℕ → List ℕ
numbers k m bs = read_each (λ w. w) k m bs

-- "eight-byte codes, most significant byte first": the whole words that stand in bytes
abbrev pub words_in : List ℕ → List ℕ
words_in bs = numbers 8 (length bs / 8) bs

-- "signed": the number of k bytes in two's complement, from the half of all on less 256^k
unfoldable pub signed : (k w : ℕ) → ℤ
signed k w = cond (ltb (2 * w) (256 ^ k)) (pos w) (neg_ℤ (pos (256 ^ k - w)))

abbrev pub signed_numbers : (k m : ℕ) → List ℕ → List ℤ
signed_numbers k m bs = read_each (signed k) k m bs
