-- The lists of a table and its whole file: read back, and no other bytes are read as that table. Assumes nothing.
use mathlib.Core.Path.{◌≡◌, ◌∙◌, refl, sym, ap}
use mathlib.Core.Bool.{Bool, false}
use mathlib.Core.List.{List, [], ◌∷◌, ◌++◌, map, append_assoc}
use Prim.Native.Nat.{ℕ, zero, suc, ◌+◌, ◌*◌, ◌<◌}
use native.Mathlib.Nat.{mul-suc}
use native.Mathlib.Omega.{arith}
use lib.ListN.{length, get_or, take, drop, length-append, length-map}
use lib.Seq.{take_at, drop_at, drop-drop}
use Rattle.frame.specs.Lists.{some}
use Rattle.frame.proofs.Refusing.{either_false}
use Rattle.octets.specs.Bytes.{bytes_of, bytes, number_of, read_each, numbers}
use Rattle.octets.proofs.Laying.{bytes_of_long, bytes_long, bytes_append, number_back}
use Rattle.tables.specs.Tables.{places, is_bad}
use Rattle.tables.specs.Owners.{Shared, is_other, IsShared}
use Rattle.table_files.specs.Files.{word_of, file_of, reading_of, owner_of, degree_in, readings_in, owners_in}
use Rattle.table_files.specs.Promises.{table_in}
use Rattle.table_files.proofs.BytesBack.{all_bytes, bytes_back}
use Rattle.table_files.proofs.GoodNumbers.{Back, reading_back, owner_back, reading_just, owner_just}

-- ---- a list

as_it_is : (xs : List ℕ) → map (λ w. w) xs ≡ xs
as_it_is [] = refl
as_it_is (x ∷ xs) = ap (λ (l : List ℕ). x ∷ l) (as_it_is xs)

module _ {A : Type 0} (f : ℕ → A) (g : A → ℕ) (bad : A → Bool) where
  list_back : ((x : A) → bad x ≡ false → Back f g x) → (xs : List A) (rest : List ℕ) → some bad xs ≡ false
      → read_each f 8 (length xs) (bytes 8 (map g xs) ++ rest) ≡ xs
  unfolding some read_each bytes
  list_back h [] rest e = refl
  list_back h (x ∷ xs) rest e =
      let good = (either_false (bad x) (some bad xs)).0 e in
      let b = h x good.0 in
      let w = bytes_of 8 (g x) in
      let tail = bytes 8 (map g xs) ++ rest in
      let long = bytes_of_long 8 (g x) in
      let apart = append_assoc w (bytes 8 (map g xs)) rest in
      let first : number_of (take 8 ((w ++ bytes 8 (map g xs)) ++ rest)) ≡ g x =
      ap (λ (l : List ℕ). number_of (take 8 l)) apart ∙ ap number_of (take_at w tail 8 long)
      ∙ number_back 8 (g x) b.1 in
      let others : drop 8 ((w ++ bytes 8 (map g xs)) ++ rest) ≡ tail =
      ap (λ (l : List ℕ). drop 8 l) apart ∙ drop_at w tail 8 long in
      (λ i. f (first i) ∷ read_each f 8 (length xs) (others i))
      ∙ (λ i. b.0 i ∷ list_back h xs rest good.1 i)

  -- what is read as good is what is written for it
  list_just : ((w : ℕ) → bad (f w) ≡ false → g (f w) ≡ w) → (m : ℕ) (bs : List ℕ)
      → some bad (read_each f 8 m bs) ≡ false → map g (read_each f 8 m bs) ≡ numbers 8 m bs
  unfolding some read_each
  list_just h zero bs e = refl
  list_just h (suc m) bs e =
      let w = number_of (take 8 bs) in
      let good = (either_false (bad (f w)) (some bad (read_each f 8 m (drop 8 bs)))).0 e in
      λ i. h w good.0 i ∷ list_just h m (drop 8 bs) good.1 i

-- ---- a file there and back

module _ (n : ℕ) (s : Shared) (rest : List ℕ) (h : IsShared n s) where
  words : List ℕ
  words = map word_of s.readings

  parts : file_of n s ++ rest ≡ bytes 8 (n ∷ words) ++ (bytes 8 s.owners ++ rest)
  unfolding words
  parts =
      ap (λ (l : List ℕ). l ++ rest) (bytes_append 8 (n ∷ words) s.owners)
      ∙ append_assoc (bytes 8 (n ∷ words)) (bytes 8 s.owners) rest

  tail : List ℕ
  tail = bytes 8 words ++ (bytes 8 s.owners ++ rest)

  ahead : file_of n s ++ rest ≡ bytes_of 8 n ++ tail
  unfolding bytes tail
  ahead = parts ∙ append_assoc (bytes_of 8 n) (bytes 8 words) (bytes 8 s.owners ++ rest)

  pub degree_back : degree_in (file_of n s ++ rest) ≡ n
  degree_back =
      ap degree_in ahead ∙ ap number_of (take_at (bytes_of 8 n) tail 8 (bytes_of_long 8 n))
      ∙ number_back 8 n (omega (arith, h.table.degree))

  pub readings_back : readings_in (places n) (file_of n s ++ rest) ≡ s.readings
  unfolding words tail
  readings_back =
      ap (readings_in (places n)) ahead
      ∙ ap (read_each reading_of 8 (places n)) (drop_at (bytes_of 8 n) tail 8 (bytes_of_long 8 n))
      ∙ ap (λ (k : ℕ). read_each reading_of 8 k tail) (sym h.table.long)
      ∙ list_back reading_of word_of is_bad reading_back s.readings (bytes 8 s.owners ++ rest) h.table.good

  pub owners_back : owners_in (places n) (places n) (file_of n s ++ rest) ≡ s.owners
  unfolding words
  owners_back =
      let m = places n in
      let os = s.owners in
      let long : length (bytes 8 (n ∷ words)) ≡ 8 * (1 + m) =
      bytes_long 8 (n ∷ words) ∙ omega (arith, length-map s.readings word_of, h.table.long) in
      ap (owners_in m m) parts
      ∙ ap (read_each owner_of 8 m) (drop_at (bytes 8 (n ∷ words)) (bytes 8 os ++ rest) (8 * (1 + m)) long)
      ∙ (λ i. read_each owner_of 8 (sym h.long i) (bytes 8 (sym (as_it_is os) i) ++ rest))
      ∙ list_back owner_of (λ w. w) is_other owner_back os rest h.good

pub file_long : (n : ℕ) (s : Shared) → IsShared n s → length (file_of n s) ≡ 8 * (1 + 2 * places n)
file_long n s h =
    let rs = map word_of s.readings in
    bytes_long 8 (n ∷ (rs ++ s.owners))
    ∙ omega (arith, length-append rs s.owners, length-map s.readings word_of, h.table.long, h.long)

-- ---- just that

-- the first m of numbers, and those after them
read_parts : {A : Type 0} (f : ℕ → A) (k m j : ℕ) (bs : List ℕ)
    → read_each f k (m + j) bs ≡ read_each f k m bs ++ read_each f k j (drop (k * m) bs)
unfolding read_each
read_parts f k zero j bs =
    let none : k * 0 ≡ 0 = omega arith in
    let all : 0 + j ≡ j = omega arith in
    ap (λ (i : ℕ). read_each f k i bs) all ∙ ap (λ (i : ℕ). read_each f k j (drop i bs)) (sym none)
read_parts {A} f k (suc m) j bs =
    let next : suc m + j ≡ suc (m + j) = omega arith in
    let e : k + k * m ≡ k * suc m = omega (arith, mul-suc k m) in
    let x = f (number_of (take k bs)) in
    ap (λ (i : ℕ). read_each f k i bs) next
    ∙ ap (λ (l : List A). x ∷ l) (read_parts f k m j (drop k bs))
    ∙ ap (λ (b : List ℕ). x ∷ (read_each f k m (drop k bs) ++ read_each f k j b))
    (drop-drop (k * m) k bs ∙ ap (λ (i : ℕ). drop i bs) e)

pub file_just : (n : ℕ) (bs : List ℕ) → ((i : ℕ) → i < length bs → get_or bs i 0 < 256)
    → length bs ≡ 8 * (1 + 2 * places n) → degree_in bs ≡ n → IsShared n (table_in n bs)
    → bs ≡ file_of n (table_in n bs)
unfolding read_each
file_just n bs h l d g =
    let m = places n in
    let count : 1 + 2 * m ≡ suc (m + m) = omega arith in
    let further : 8 + 8 * m ≡ 8 * (1 + m) = omega arith in
    let rs = list_just reading_of word_of is_bad reading_just m (drop 8 bs) g.table.good in
    let os = sym (as_it_is (owners_in m m bs))
    ∙ list_just owner_of (λ w. w) is_other owner_just m (drop (8 * (1 + m)) bs) g.good in
    let two : numbers 8 (m + m) (drop 8 bs) ≡ numbers 8 m (drop 8 bs) ++ numbers 8 m (drop (8 * (1 + m)) bs) =
    read_parts (λ w. w) 8 m m (drop 8 bs)
    ∙ ap (λ (b : List ℕ). numbers 8 m (drop 8 bs) ++ numbers 8 m b)
    (drop-drop (8 * m) 8 bs ∙ ap (λ (i : ℕ). drop i bs) further) in
    sym (bytes_back (1 + 2 * m) bs (all_bytes bs h) l)
    ∙ ap (λ (i : ℕ). bytes 8 (numbers 8 i bs)) count
    ∙ ap (bytes 8) ((λ i. d i ∷ two i) ∙ (λ i. n ∷ (sym rs i ++ sym os i)))
