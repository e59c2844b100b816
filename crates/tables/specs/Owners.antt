-- Document 02, 2026-07: the owners of a table's triangles, and what the four calls that write leave. Assumes nothing.
use Rattle.std.specs.Prelude.{◌≡◌, ℕ, Bool, true, false, not, List, eqb, ℤ, length, get_or, set, replicate, None, Some}
use Rattle.frame.specs.Refusals.{◌either◌}
use Rattle.frame.specs.Lists.{some}
use Rattle.words.specs.Counting.{place_of}
use Rattle.words.specs.declared.TriangleCode.{TriangleCode}
use Rattle.tables.specs.Tables.{places, IsTable, fresh, said, number, number_at, Sounding}
use Rattle.tables.specs.declared.Deed.{Deed}
use Rattle.tables.specs.declared.Deed.TheVariants.{Taking, Setting, Clearing, Giving}

-- ---- the numbers

-- "Each triangle gets an owner: 0 nobody, 1 ice, 2 pilotage"
abbrev pub nobody : ℕ
nobody = 0

abbrev pub is_desk : ℕ → Bool
is_desk d = eqb d 1 either eqb d 2

-- "or another number"
abbrev pub is_other : ℕ → Bool
is_other o = not (eqb o nobody either is_desk o)

-- ---- the list

abbrev pub any_other : List ℕ → Bool
any_other owners = some is_other owners

abbrev pub owner_at : TriangleCode → List ℕ → ℕ
owner_at t owners = get_or owners (place_of t) nobody

-- A table that desks share: its readings, and the owners "in a lent list of the same length".
pub record Shared : Type 0 where
  pub readings : List ℤ
  pub owners : List ℕ

abbrev pub shared : List ℤ → List ℕ → Shared
shared list os = record { readings = list; owners = os }

-- Lists that no call refuses for their lengths or their numbers.
pub record IsShared (n : ℕ) (s : Shared) : Type 0 where
  pub table : IsTable n s.readings
  pub long : length s.owners ≡ places n
  pub good : any_other s.owners ≡ false

-- no readings, no owners
abbrev pub fresh_shared : (degree : ℕ) → Shared
fresh_shared n = shared (fresh n) (replicate (places n) nobody)

-- ---- what the table has for a triangle: whose it is, and a reading or nothing

pub record Held : Type 0 where
  pub owner : ℕ
  pub sounding : Sounding

abbrev pub held : (owner : ℕ) → Sounding → Held
held o s = record { owner = o; sounding = s }

abbrev pub held_at : TriangleCode → Shared → Held
held_at t s = held (owner_at t s.owners) (said (number_at t s.readings))

-- ---- "A desk takes a free triangle, sets or clears only its own, and gives it back."

abbrev pub is_taking : Deed → Bool
is_taking Taking = true
is_taking (Setting x) = false
is_taking Clearing = false
is_taking Giving = false

abbrev pub is_giving : Deed → Bool
is_giving Taking = false
is_giving (Setting x) = false
is_giving Clearing = false
is_giving Giving = true

-- whose the triangle is then
abbrev pub owner_after : Deed → (desk owner : ℕ) → ℕ
owner_after Taking d o = d
owner_after (Setting x) d o = o
owner_after Clearing d o = o
owner_after Giving d o = nobody

-- what it has then: "taking a free one keeps its reading, giving back clears it"
abbrev pub sounding_after : Deed → Sounding → Sounding
sounding_after Taking s = s
sounding_after (Setting x) s = Some x
sounding_after Clearing s = None
sounding_after Giving s = None

abbrev pub held_after : Deed → (desk : ℕ) → Held → Held
held_after e d h = held (owner_after e d h.owner) (sounding_after e h.sounding)

-- both lists then: the triangle's place alone is written
abbrev pub hold : TriangleCode → Held → Shared → Shared
hold t h s =
    shared (set s.readings (place_of t) (number h.sounding)) (set s.owners (place_of t) h.owner)

abbrev pub shared_after : Deed → (desk : ℕ) → TriangleCode → Shared → Shared
shared_after e d t s = hold t (held_after e d (held_at t s)) s
