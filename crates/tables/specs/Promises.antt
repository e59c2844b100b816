-- Document 02, 2026-03 and 2026-07: what is promised of the calls. Assumes nothing.
use Rattle.std.specs.Prelude.{◌≡◌, true, false, List, [], ◌∷◌, ◌++◌, ◌↔◌, ◌⊎◌, ℕ, ◌≤◌, ◌<◌, ℤ, length, get_or, None, Some}
use Rattle.frame.specs.Refusals.{first_of}
use Rattle.frame.specs.Promises.{Keeps, KeepsLent}
use Rattle.words.specs.Refusals.{IsCode}
use Rattle.words.specs.Counting.{code_at, place_of}
use Rattle.words.specs.declared.TriangleCode.{TriangleCode}
use Rattle.tables.specs.Tables.{places, is_reading, none, is_bad, IsTable, number, number_at}
use Rattle.tables.specs.Owners.{nobody, is_desk, owner_at, Shared, IsShared, fresh_shared, held_at, is_taking}
use Rattle.tables.specs.Refusals.{table_order, desk_order, out_of_range, table_rows, owner_list_rows}
use Rattle.tables.specs.Refusals.{refuse_get, refuse_deed}
use Rattle.tables.specs.Answers.{refused, refused_get, GetAnswer}
use Rattle.tables.specs.Answers.{DeedAnswer, TakeAnswer, SetAnswer, ClearAnswer, GiveAnswer}
use Rattle.tables.specs.Histories.{Call, asks, does, got, done, answers, after, on_table, map_of, empty, on_map}
use Rattle.tables.specs.Histories.{calls_about, without, seen}
use Rattle.tables.specs.declared.Deed.{Deed}
use Rattle.tables.specs.declared.Deed.TheVariants.{Taking, Setting, Clearing, Giving}
use Rattle.tables.specs.Answers.{TableAnswer}
use Rattle.tables.specs.Answers.{SoundingAnswer}

-- Demand 1, of these calls: exactly one answer for every input, a refusal by its number, with zeros (23 with its
-- place). "None changes the list.", neither of the two. (get is lent its list to read alone.)
pub record OneAnswer : Type 0 where
  pub get : (n : ℕ) (t : TriangleCode) (list : List ℤ)
      → Keeps (refuse_get n t list) (GetAnswer n t list) (λ r. r.refusal) (refused_get list)
  pub take : (d n : ℕ) (t : TriangleCode) (s : Shared)
      → KeepsLent (refuse_deed Taking d n t s) (TakeAnswer d n t s) (λ r. r.refusal) (refused s.readings) s
  pub set : (d n : ℕ) (t : TriangleCode) (x : ℤ) (s : Shared)
      → KeepsLent (refuse_deed (Setting x) d n t s) (SetAnswer d n t x s) (λ r. r.refusal) (refused s.readings) s
  pub clear : (d n : ℕ) (t : TriangleCode) (s : Shared)
      → KeepsLent (refuse_deed Clearing d n t s) (ClearAnswer d n t s) (λ r. r.refusal) (refused s.readings) s
  pub give : (d n : ℕ) (t : TriangleCode) (s : Shared)
      → KeepsLent (refuse_deed Giving d n t s) (GiveAnswer d n t s) (λ r. r.refusal) (refused s.readings) s

-- "It holds one reading for each triangle of one degree .. ordered by code": each has its own place, and the places are
-- those of the codes in rising order.
pub record Ordered : Type 0 where
  pub inside : (n : ℕ) (t : TriangleCode) → IsCode n t → place_of t < places n
  pub place : (n : ℕ) (t : TriangleCode) → IsCode n t → code_at n (place_of t) ≡ t
  pub code : (n i : ℕ) → n ≤ 24 → i < places n → IsCode n (code_at n i) × (place_of (code_at n i) ≡ i)
  pub rising : (n : ℕ) (t u : TriangleCode) → IsCode n t → IsCode n u
      → (t.0 < u.0) ↔ (place_of t < place_of u)

-- "the least bad place, counted from 0": it is bad, and none before it is
pub record IsLeastBad (list : List ℤ) (place : ℕ) : Type 0 where
  pub inside : place < length list
  pub bad : is_bad (get_or list place none) ≡ true
  pub first : (i : ℕ) → i < place → is_bad (get_or list i none) ≡ false

-- "Refusal 23 alone answers, besides its number, the least bad place": of get, and of the calls that write
pub record Least : Type 0 where
  pub got : (n : ℕ) (t : TriangleCode) (list : List ℤ) (r : SoundingAnswer) → GetAnswer n t list r
      → r.refusal ≡ 23 → IsLeastBad list r.place
  pub got_alone : (n : ℕ) (t : TriangleCode) (list : List ℤ) (r : SoundingAnswer) → GetAnswer n t list r
      → (r.refusal ≡ 23 → ⊥) → r.place ≡ 0
  pub done : (e : Deed) (d n : ℕ) (t : TriangleCode) (s : Shared) (r : TableAnswer) (new : Shared)
      → DeedAnswer e d n t s r new → r.refusal ≡ 23 → IsLeastBad s.readings r.place
  pub done_alone : (e : Deed) (d n : ℕ) (t : TriangleCode) (s : Shared) (r : TableAnswer) (new : Shared)
      → DeedAnswer e d n t s r new → (r.refusal ≡ 23 → ⊥) → r.place ≡ 0

-- "A reading is 0 to 100,000 millimetres, and -1 means no reading.": what an answered get says is the list's number in
-- the paper's sense; it is a reading, or that there is none, and never the one for the other.
pub record Visible : Type 0 where
  pub told : (n : ℕ) (t : TriangleCode) (list : List ℤ) (r : SoundingAnswer) → GetAnswer n t list r
      → r.refusal ≡ 0 → number r.sounding ≡ number_at t list
  pub reading : (n : ℕ) (t : TriangleCode) (list : List ℤ) (r : SoundingAnswer) (x : ℤ) → GetAnswer n t list r
      → r.sounding ≡ Some x → is_reading x ≡ true
  pub nothing : (n : ℕ) (t : TriangleCode) (list : List ℤ) (r : SoundingAnswer) → GetAnswer n t list r
      → r.refusal ≡ 0 → (r.sounding ≡ None) ↔ (number_at t list ≡ none)

-- "Any sequence of calls answers as a simple map from code to reading or nothing.", with an owner
pub record SimpleMap : Type 0 where
  -- what a call answers and leaves by its contract is its turn in a sequence of calls, whoever asks
  pub asked : (d n : ℕ) (t : TriangleCode) (s : Shared) (r : SoundingAnswer) → GetAnswer n t s.readings r
      → on_table (asks d n t) s ≡ (got r, s)
  pub deed : (e : Deed) (d n : ℕ) (t : TriangleCode) (s : Shared) (r : TableAnswer) (new : Shared)
      → DeedAnswer e d n t s r new → on_table (does e d n t) s ≡ (done r, new)
  -- from any table, as the map that it holds
  pub is_table : (n : ℕ) (list : List ℤ) → n ≤ 6
      → IsTable n list ↔ (first_of table_order (table_rows n list) ≡ 0)
  pub is_shared : (n : ℕ) (s : Shared) → n ≤ 6
      → IsShared n s ↔ (first_of desk_order (table_rows n s.readings ++ owner_list_rows n s.owners) ≡ 0)
  pub opened : (n : ℕ) (s : Shared) → IsShared n s → (cs : List Call)
      → answers on_table cs s ≡ answers (on_map n) cs (map_of s)
  -- from a fresh one, as the empty map
  pub begun : (n : ℕ) → n ≤ 6 → IsShared n (fresh_shared n)
  pub from_empty : (n : ℕ) → n ≤ 6 → (cs : List Call)
      → answers on_table cs (fresh_shared n) ≡ answers (on_map n) cs empty

-- ---- 2026-07

-- A call that nothing but the triangle's owner can refuse.
pub record Admitted (e : Deed) (d n : ℕ) (t : TriangleCode) (s : Shared) : Type 0 where
  pub lists : IsShared n s
  pub code : IsCode n t
  pub desk : is_desk d ≡ true
  pub in_range : out_of_range e ≡ false

-- "A desk takes a free triangle, sets or clears only its own, and gives it back."
pub record Owning : Type 0 where
  pub takes_free : (d n : ℕ) (t : TriangleCode) (s : Shared) → Admitted Taking d n t s
      → owner_at t s.owners ≡ nobody → refuse_deed Taking d n t s ≡ 0
  pub own : (e : Deed) (d n : ℕ) (t : TriangleCode) (s : Shared) → Admitted e d n t s
      → owner_at t s.owners ≡ d → refuse_deed e d n t s ≡ 0
  pub only_own : (e : Deed) (d n : ℕ) (t : TriangleCode) (s : Shared) → refuse_deed e d n t s ≡ 0
      → (owner_at t s.owners ≡ d) ⊎ ((is_taking e ≡ true) × (owner_at t s.owners ≡ nobody))
  -- "On another's triangle every call but get is 26"
  pub another's : (e : Deed) (d n : ℕ) (t : TriangleCode) (s : Shared) → Admitted e d n t s
      → is_desk (owner_at t s.owners) ≡ true → (owner_at t s.owners ≡ d → ⊥)
      → refuse_deed e d n t s ≡ 26
  -- "on a free one all but get and take are 27."
  pub free : (e : Deed) (d n : ℕ) (t : TriangleCode) (s : Shared) → Admitted e d n t s
      → owner_at t s.owners ≡ nobody → is_taking e ≡ false → refuse_deed e d n t s ≡ 27
  -- "Taking one's own changes nothing"
  pub taking_own : (d n : ℕ) (t : TriangleCode) (s : Shared) (r : TableAnswer) (new : Shared)
      → TakeAnswer d n t s r new → owner_at t s.owners ≡ d → new ≡ s
  -- "taking a free one keeps its reading"
  pub taken : (d n : ℕ) (t : TriangleCode) (s : Shared) (r : TableAnswer) (new : Shared)
      → TakeAnswer d n t s r new → r.refusal ≡ 0
      → (owner_at t new.owners ≡ d) × (new.readings ≡ s.readings)
  -- "giving back clears it."
  pub given_back : (d n : ℕ) (t : TriangleCode) (s : Shared) (r : TableAnswer) (new : Shared)
      → GiveAnswer d n t s r new → r.refusal ≡ 0
      → (owner_at t new.owners ≡ nobody) × (number_at t new.readings ≡ none)
  -- setting and clearing leave just that, and all owners as they were
  pub set : (d n : ℕ) (t : TriangleCode) (x : ℤ) (s : Shared) (r : TableAnswer) (new : Shared)
      → SetAnswer d n t x s r new → r.refusal ≡ 0
      → (number_at t new.readings ≡ x) × (new.owners ≡ s.owners)
  pub cleared : (d n : ℕ) (t : TriangleCode) (s : Shared) (r : TableAnswer) (new : Shared)
      → ClearAnswer d n t s r new → r.refusal ≡ 0
      → (number_at t new.readings ≡ none) × (new.owners ≡ s.owners)
  -- and no call touches another triangle
  pub elsewhere : (e : Deed) (d n : ℕ) (t : TriangleCode) (s : Shared) (r : TableAnswer) (new : Shared)
      → DeedAnswer e d n t s r new → (u : TriangleCode) → IsCode n u → (u ≡ t → ⊥)
      → held_at u new ≡ held_at u s

-- "What desk 1 sees of its own triangles doesn't depend on desk 2's calls between its taking one and giving it back,
-- the lists changing only through calls; what it finds on taking may."
pub record Apart : Type 0 where
  -- The sentence as it stands, for any two desks d and b: after any calls, from any lists, with the last of which d has
  -- taken t, two ways to go on that differ in b's calls alone.
  pub after_taking : (d b n : ℕ) (t : TriangleCode) (s : Shared) (before xs ys : List Call)
      → (d ≡ b → ⊥) → refuse_deed Taking d n t (after on_table before s) ≡ 0 → without b xs ≡ without b ys
      → (let taken = after on_table (before ++ (does Taking d n t ∷ [])) s in
      seen on_table d t xs taken ≡ seen on_table d t ys taken)
  -- Two runs from any two tables in which d has t, with the same reading ("what it finds on taking may" differ): where
  -- d's calls about t are the same, so is what it sees, whatever else is called, by whom, and about which triangles.
  pub sees : (d n : ℕ) (t : TriangleCode) (s s' : Shared) (xs ys : List Call)
      → IsShared n s → IsShared n s' → IsCode n t → is_desk d ≡ true → owner_at t s.owners ≡ d
      → held_at t s ≡ held_at t s' → calls_about d t xs ≡ calls_about d t ys
      → seen on_table d t xs s ≡ seen on_table d t ys s'
