-- Numbers and triangle codes as text: what a word reads as. Assumes nothing.
use Rattle.std.specs.Prelude.{ℕ, ◌+◌, ◌-◌, ◌*◌, ◌^◌, ◌<◌, Bool, true, false, cond, List, [], ◌∷◌, Option, Some, None, ltb, leb, eqb, ℤ, pos, neg_ℤ, length, get_or, drop}
use Rattle.words.specs.Words.{side, word_of}

-- where a test holds, r; else nothing was read
abbrev pub only : {A : Type 0} → Bool → Option A → Option A
only true r = r
only false r = None

-- the digit that a byte is: `0` to `9`, `A` to `F`, `a` to `f`; 16 for any other
unfoldable pub digit : ℕ → ℕ
digit c =
    cond (ltb c 48) 16
    (cond (ltb c 58) (c - 48)
    (cond (ltb c 65) 16
    (cond (ltb c 71) (c - 55)
    (cond (ltb c 97) 16
    (cond (ltb c 103) (c - 87) 16)))))

-- the number n with one digit d more in base b: there is none for a digit of a larger base, nor from 2^64 on
unfoldable pub grown : (b n d : ℕ) → Option ℕ
grown b n d = only (ltb d b) (only (ltb (n * b + d) (2 ^ 64)) (Some (n * b + d)))

unfoldable pub next : (b : ℕ) → Option ℕ → ℕ → Option ℕ
next b None c = None
next b (Some n) c = grown b n (digit c)

-- n with all the digits more, the first first
unfoldable pub reads : (b : ℕ) → Option ℕ → List ℕ → Option ℕ
reads b r [] = r
reads b r (c ∷ cs) = reads b (next b r c) cs

-- at least one decimal digit
unfoldable pub decimal : List ℕ → Option ℕ
decimal s = only (ltb 0 (length s)) (reads 10 (Some 0) s)

-- begins with 0x
abbrev pub marked : List ℕ → Bool
marked s = cond (eqb (get_or s 1 0) 120) (eqb (get_or s 0 0) 48) false

-- 0x and 1 to 16 hexadecimal digits
unfoldable pub hexadecimal : List ℕ → Option ℕ
hexadecimal s = only (marked s) (only (ltb 2 (length s)) (only (ltb (length s) 19) (reads 16 (Some 0) (drop 2 s))))

-- the one form or the other
unfoldable pub number : List ℕ → Option ℕ
number s = cond (marked s) (hexadecimal s) (decimal s)

abbrev pub up_to_largest : Option ℕ → Option ℤ
up_to_largest None = None
up_to_largest (Some n) = only (ltb n (2 ^ 31)) (Some (pos n))

abbrev pub down_to_least : Option ℕ → Option ℤ
down_to_least None = None
down_to_least (Some n) = only (leb n (2 ^ 31)) (Some (neg_ℤ (pos n)))

-- begins with a minus
abbrev pub negative : List ℕ → Bool
negative s = eqb (get_or s 0 0) 45

-- decimal digits, or a minus and decimal digits, from -2^31 to 2^31 - 1
unfoldable pub signed : List ℕ → Option ℤ
signed s = cond (negative s) (down_to_least (decimal (drop 1 s))) (up_to_largest (decimal s))

-- the side apq of the first three bytes: a from 0 to 7, p and q 0 or 1
unfoldable pub side_read : (a p q : ℕ) → Option ℕ
side_read a p q = only (ltb a 8) (only (ltb p 2) (only (ltb q 2) (Some (side a p q))))

-- the word of a side, a degree and a path
abbrev pub joined : Option ℕ → ℕ → Option ℕ → Option ℕ
joined None n v = None
joined (Some s) n None = None
joined (Some s) n (Some v) = Some (word_of s n v)

-- what was read, if anything, is below m
abbrev pub Below : ℕ → Option ℕ → Type 0
Below m None = Unit {0}
Below m (Some v) = v < m

-- a triangle code: apq and up to 24 digits from 0 to 3, as its word
unfoldable pub code : List ℕ → Option ℕ
code s =
    only (ltb 2 (length s)) (only (ltb (length s) 28)
    (joined (side_read (digit (get_or s 0 0)) (digit (get_or s 1 0)) (digit (get_or s 2 0))) (length s - 3) (reads 4 (Some 0) (drop 3 s))))

-- the one form or the other
unfoldable pub code_or_word : List ℕ → Option ℕ
code_or_word s = cond (marked s) (hexadecimal s) (code s)
