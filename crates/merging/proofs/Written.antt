-- Lists written place by place: what is written and what is left to write make the whole. Assumes nothing.
use mathlib.Core.Path.{◌≡◌, ◌∙◌, refl, sym, ap}
use mathlib.Core.List.{List, [], ◌∷◌, ◌++◌, append_assoc, append-nil}
use Prim.Native.Nat.{ℕ, ◌+◌, ◌-◌, ◌≤◌, ◌<◌}
use native.Mathlib.Numerals.{add-one}
use native.Mathlib.Omega.{arith}
use lib.ListN.{length, get_or, take, drop, set, length-set, length-drop, length-append}
use lib.ListN.{take-append-drop}
use lib.Seq.{take-suc-set, take-set-lt, drop-set-lt, drop-cons, drop-drop, drop-length, get_or-take, get_or-drop}
use lib.Seq.{length-take-le}
use Rattle.frame.specs.Answers.{over}
use Rattle.merging.specs.Means.Joining.{Added}

-- ---- any list

module _ {A : Type 0} where
  -- one place more is written
  more : (xs : List A) (c : ℕ) (w : A) (rest : List A) → c < length xs
      → take (c + 1) (set xs c w) ++ rest ≡ take c xs ++ w ∷ rest
  more xs c w rest l = rw (add-one c, take-suc-set xs c w l, append_assoc (take c xs) (w ∷ []) rest) refl

  -- lists that are equal from a place on are so from a later one
  later : (n c : ℕ) (xs ys : List A) → drop c xs ≡ drop c ys → drop (c + n) xs ≡ drop (c + n) ys
  later n c xs ys e = sym (drop-drop n c xs) ∙ ap (drop n) e ∙ drop-drop n c ys

  pub next_of : (xs : List A) (d : A) (i : ℕ) → i < length xs → drop i xs ≡ get_or xs i d ∷ drop (i + 1) xs
  next_of xs d i l = drop-cons xs i d l ∙ ap (λ (n : ℕ). get_or xs i d ∷ drop n xs) (sym (add-one i))

  -- the first m places, from place i on
  module _ (xs : List A) (m : ℕ) (h : m ≤ length xs) where
    pub rest_length : (i : ℕ) → length (drop i (take m xs)) ≡ m - i
    rest_length i = length-drop i (take m xs) ∙ ap (λ (n : ℕ). n - i) (length-take-le m xs h)

    pub no_place : (i : ℕ) → i ≡ m → drop i (take m xs) ≡ []
    no_place i e =
        ap (λ (j : ℕ). drop j (take m xs)) (e ∙ sym (length-take-le m xs h)) ∙ drop-length (take m xs)

  pub at_rest : (xs : List A) (d : A) (m i n : ℕ) → i + n < m → get_or (drop i (take m xs)) n d ≡ get_or xs (i + n) d
  at_rest xs d m i n l = get_or-drop i (take m xs) n d ∙ get_or-take m xs (i + n) d l

-- ---- a list that is written from place c on

-- `whole` goes there; so far places are written up to c', and `left` is left
pub record Writing (old new : List ℕ) (c c' : ℕ) (left whole : List ℕ) : Type 0 where
  pub long : length new ≡ length old
  pub count : c' + length left ≡ c + length whole
  pub front : take c' new ++ left ≡ take c old ++ whole
  pub back : drop c' new ≡ drop c' old

pub writing_none : (old : List ℕ) (c : ℕ) (whole : List ℕ) → Writing old old c c whole whole
writing_none old c whole = record { long = refl; count = refl; front = refl; back = refl }

module _ {old new : List ℕ} {c c' : ℕ} {left whole : List ℕ} (g : Writing old new c c' left whole) where
  pub writing_as : (left' : List ℕ) → left ≡ left' → Writing old new c c' left' whole
  writing_as left' e = record {
    long = g.long;
    count = omega (arith, ap length e, g.count);
    front = ap (λ (xs : List ℕ). take c' new ++ xs) (sym e) ∙ g.front;
    back = g.back;
  }

  -- there is room for what is left
  pub writing_room : {w : ℕ} {rest : List ℕ} → c + length whole ≤ length old → left ≡ w ∷ rest → c' < length new
  writing_room l e = omega (arith, l, ap length e, g.count, g.long)

  pub writing_more : {w : ℕ} {rest : List ℕ} → c + length whole ≤ length old → left ≡ w ∷ rest
      → Writing old (set new c' w) c (c' + 1) rest whole
  writing_more {w} {rest} l e = record {
    long = length-set new c' w ∙ g.long;
    count = omega (arith, ap length e, g.count);
    front = more new c' w rest (writing_room l e) ∙ ap (λ (xs : List ℕ). take c' new ++ xs) (sym e) ∙ g.front;
    back = drop-set-lt (c' + 1) new c' w (omega arith) ∙ later 1 c' new old g.back;
  }

  -- a part of it by another writer
  pub writing_on : {late : List ℕ} {c'' : ℕ} (xs rest : List ℕ) → left ≡ xs ++ rest → length late ≡ length new
      → Added new late c' c'' xs → Writing old late c c'' rest whole
  writing_on {late} {c''} xs rest e l w = record {
    long = l ∙ g.long;
    count = omega (arith, w.count, ap length e, length-append xs rest, g.count);
    front = ap (λ (ys : List ℕ). ys ++ rest) w.front ∙ append_assoc (take c' new) xs rest
        ∙ ap (λ (ys : List ℕ). take c' new ++ ys) (sym e) ∙ g.front;
    back = w.back ∙ ap (λ (j : ℕ). drop j new) w.count ∙ later (length xs) c' new old g.back
        ∙ ap (λ (j : ℕ). drop j old) (sym w.count);
  }

  pub writing_all : left ≡ [] → Added old new c c' whole
  writing_all e = record {
    count = omega (arith, ap length e, g.count);
    front = sym (append-nil (take c' new)) ∙ ap (λ (xs : List ℕ). take c' new ++ xs) (sym e) ∙ g.front;
    back = g.back;
  }

-- written from the first place on
pub wrote_over : {old new : List ℕ} {c : ℕ} {xs : List ℕ} → Added old new 0 c xs → new ≡ over xs old
wrote_over {old} {new} {c} {xs} w =
    let e : c ≡ length xs = omega (arith, w.count) in
    sym (take-append-drop c new) ∙ (λ i. w.front i ++ w.back i) ∙ ap (λ (n : ℕ). xs ++ drop n old) e

-- ---- a list that is written over what was read of it

-- of its first m places i are read and j are written, `left` is left to write
pub record Shrinking (old new : List ℕ) (m i j : ℕ) (left whole : List ℕ) : Type 0 where
  pub long : length new ≡ length old
  pub inside : i ≤ m
  pub behind : j ≤ i
  pub front : take j new ++ left ≡ whole
  pub unread : drop i (take m new) ≡ drop i (take m old)

pub shrinking_none : (old : List ℕ) (m : ℕ) (whole : List ℕ) → Shrinking old old m 0 0 whole whole
shrinking_none old m whole = record {
  long = refl;
  inside = omega arith;
  behind = omega arith;
  front = refl;
  unread = refl;
}

module _ {old new : List ℕ} {m i j : ℕ} {left whole : List ℕ} (g : Shrinking old new m i j left whole) where
  pub shrinking_room : m ≤ length old → i < m → j < length new
  shrinking_room h l = omega (arith, h, l, g.long, g.behind)

  -- n more are read and one is written
  pub shrinking_more : {w : ℕ} {rest : List ℕ} (n : ℕ) → m ≤ length old → 0 < n → i + n ≤ m → left ≡ w ∷ rest
      → Shrinking old (set new j w) m (i + n) (j + 1) rest whole
  shrinking_more {w} {rest} n h z l e =
      let k : j < length new = shrinking_room h (omega arith) in
      record {
        long = length-set new j w ∙ g.long;
        inside = l;
        behind = omega (arith, g.behind);
        front = more new j w rest k ∙ ap (λ (xs : List ℕ). take j new ++ xs) (sym e) ∙ g.front;
        unread = ap (drop (i + n)) (take-set-lt m new j w (omega (arith, g.behind)))
            ∙ drop-set-lt (i + n) (take m new) j w (omega (arith, g.behind))
            ∙ later n i (take m new) (take m old) g.unread;
      }

  pub shrinking_all : left ≡ [] → take j new ≡ whole
  shrinking_all e = sym (append-nil (take j new)) ∙ ap (λ (xs : List ℕ). take j new ++ xs) (sym e) ∙ g.front

  -- what is read next
  pub unread_head : i < m → get_or (drop i (take m old)) 0 0 ≡ get_or new i 0
  unread_head l =
      let z : i + 0 ≡ i = omega arith in
      ap (λ (xs : List ℕ). get_or xs 0 0) (sym g.unread) ∙ at_rest new 0 m i 0 (omega arith)
      ∙ ap (λ (k : ℕ). get_or new k 0) z
