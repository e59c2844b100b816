-- What a deed leaves for its triangle, and both lists when one place of each is written. Assumes nothing.
use mathlib.Core.Path.{◌≡◌, ◌∙◌, refl, sym, ap}
use mathlib.Core.Bool.{Bool, true, false, cond}
use mathlib.Core.List.{List}
use Prim.Native.Nat.{ℕ, ◌≤◌}
use borrow.Author.Tests.{eq-eqb, eqb-true, not-false}
use lib.Dec.{eqb}
use lib.IntN.{ℤ}
use lib.ListN.{length, set, length-set, length-replicate}
use Rattle.frame.proofs.Scanning.{none_at, none_set, none_replicate}
use Rattle.words.specs.Refusals.{IsCode}
use Rattle.words.specs.Counting.{place_of}
use Rattle.words.specs.declared.TriangleCode.{TriangleCode}
use Rattle.tables.specs.Tables.{places, none, is_bad, IsTable, said, number, number_at, Sounding}
use Rattle.tables.specs.Owners.{nobody, is_desk, is_other, owner_at, Shared, IsShared, fresh_shared}
use Rattle.tables.specs.Owners.{Held, held, held_at, owner_after, sounding_after, held_after, hold, shared_after}
use Rattle.tables.specs.Refusals.{out_of_range}
use Rattle.tables.specs.declared.Deed.{Deed}
use Rattle.tables.specs.declared.Deed.TheVariants.{Taking, Setting, Clearing, Giving}
use Rattle.tables.proofs.Numbers.{reading_good, said_is, number_said, desk_not_other}
use Rattle.tables.proofs.Places.{at_set, same_places}

-- ---- a deed that is not out of range stores no bad number, and one that says what it is to say

pub stored_good : (e : Deed) (x : ℤ) → out_of_range e ≡ false → is_bad x ≡ false
    → is_bad (number (sounding_after e (said x))) ≡ false
stored_good Taking x b g = ap is_bad (number_said x) ∙ g
stored_good (Setting y) x b g = reading_good y (not-false _ b)
stored_good Clearing x b g = refl
stored_good Giving x b g = refl

stored_said : (e : Deed) (x : ℤ) → out_of_range e ≡ false
    → said (number (sounding_after e (said x))) ≡ sounding_after e (said x)
stored_said Taking x b = ap said (number_said x)
stored_said (Setting y) x b = said_is y (not-false _ b)
stored_said Clearing x b = refl
stored_said Giving x b = refl

-- a desk's deed stores nobody, the desk, or what was there
stored_owner : (e : Deed) (d o : ℕ) → is_desk d ≡ true → is_other o ≡ false
    → is_other (owner_after e d o) ≡ false
stored_owner Taking d o b g = desk_not_other d b
stored_owner (Setting x) d o b g = g
stored_owner Clearing d o b g = g
stored_owner Giving d o b g = refl

-- ---- one place of each list written

table_set : {n : ℕ} {list : List ℤ} (i : ℕ) (x : ℤ) → IsTable n list → is_bad x ≡ false
    → IsTable n (set list i x)
table_set {list = list} i x is b = record {
  degree = is.degree;
  long = simp length-set is.long;
  good = none_set is_bad list i x is.good b;
}

said_cond : (b : Bool) (x y : ℤ) → said (cond b x y) ≡ cond b (said x) (said y)
said_cond true x y = refl
said_cond false x y = refl

held_cond : (b : Bool) (h k : Held)
    → held (cond b h.owner k.owner) (cond b h.sounding k.sounding) ≡ cond b h k
held_cond true h k = refl
held_cond false h k = refl

module _ {n : ℕ} {s : Shared} (is : IsShared n s) where
  -- what the table has for any code then
  pub hold_at : {t : TriangleCode} → IsCode n t → (h : Held) → said (number h.sounding) ≡ h.sounding
      → (u : TriangleCode) → IsCode n u → held_at u (hold t h s) ≡ cond (eqb u.0 t.0) h (held_at u s)
  hold_at {t} c h q u cu =
      let b = eqb u.0 t.0 in
      let x : said (number_at u (hold t h s).readings) ≡ cond b h.sounding (said (number_at u s.readings)) =
      ap said (at_set s.readings (number h.sounding) none is.table.long c u cu)
      ∙ said_cond b (number h.sounding) (number_at u s.readings)
      ∙ ap (λ (y : Sounding). cond b y (said (number_at u s.readings))) q in
      let o : owner_at u (hold t h s).owners ≡ cond b h.owner (owner_at u s.owners) =
      at_set s.owners h.owner nobody is.long c u cu in
      (λ i. held (o i) (x i)) ∙ held_cond b h (held_at u s)

  module _ (e : Deed) (d : ℕ) (t : TriangleCode) (b : out_of_range e ≡ false) (k : is_desk d ≡ true) where
    pub shared_after_lem : IsShared n (shared_after e d t s)
    shared_after_lem =
        let x = number_at t s.readings in
        let o = owner_at t s.owners in
        record {
          table = table_set (place_of t) (number (sounding_after e (said x))) is.table
              (stored_good e x b (none_at is_bad none refl s.readings (place_of t) is.table.good));
          long = simp length-set is.long;
          good = none_set is_other s.owners (place_of t) (owner_after e d o) is.good
              (stored_owner e d o k (none_at is_other nobody refl s.owners (place_of t) is.good));
        }

    pub after_at : IsCode n t → (u : TriangleCode) → IsCode n u
        → held_at u (shared_after e d t s) ≡ cond (eqb u.0 t.0) (held_after e d (held_at t s)) (held_at u s)
    after_at c = hold_at c (held_after e d (held_at t s)) (stored_said e (number_at t s.readings) b)

pub after_long : (e : Deed) (d : ℕ) (t : TriangleCode) (s : Shared)
    → length (shared_after e d t s).readings ≡ length s.readings
after_long e d t s = length-set s.readings (place_of t) (number (sounding_after e (said (number_at t s.readings))))

-- ---- both lists are of one degree

pub same_degree : {m n : ℕ} {s : Shared} → IsShared m s → IsShared n s → m ≡ n
same_degree {m} {n} a b =
    eqb-true m n
    (sym (same_places m n) ∙ eq-eqb (places n) (places m) (sym b.table.long ∙ a.table.long))

-- ---- a fresh table

pub begun : (n : ℕ) → n ≤ 6 → IsShared n (fresh_shared n)
begun n l = record {
  table = record {
    degree = l;
    long = length-replicate (places n) none;
    good = none_replicate is_bad (places n) none refl;
  };
  long = length-replicate (places n) nobody;
  good = none_replicate is_other (places n) nobody refl;
}
