-- Document 02, 2026-03: "Any sequence of calls answers as a simple map from code to reading or nothing.", with the
-- owners of 2026-07. Calls of desks one after the other on one table, and the same calls on a map; and what one desk
-- sees of a triangle. Assumes nothing.
use Rattle.std.specs.Prelude.{Bool, false, not, ◌&&◌, cond, List, [], ◌∷◌, ◌++◌, ℕ, eqb, None}
use Rattle.frame.specs.Refusals.{Row, ◌when◌, first_of}
use Rattle.frame.specs.Answers.{settled}
use Rattle.frame.specs.Lists.{those}
use Rattle.words.specs.declared.TriangleCode.{TriangleCode}
use Rattle.tables.specs.Owners.{nobody, Shared, Held, held, held_at, held_after, is_giving}
use Rattle.tables.specs.Refusals.{table_order, triangle_rows, out_of_range, refuse_get}
use Rattle.tables.specs.Refusals.{desk_order, desk_rows, owner_rows, refuse_deed}
use Rattle.tables.specs.Answers.{table_answer, sounding_answer, refused_get, found, carried_out, refused_deed}
use Rattle.tables.specs.declared.Deed.{Deed}
use Rattle.tables.specs.Answers.{TableAnswer}
use Rattle.tables.specs.Answers.{SoundingAnswer}

-- A call of a desk, with any arguments: get, to which the desk is not handed in, or one that writes; and its answer.
pub data Call : Type 0 where
  asks : (desk degree : ℕ) → TriangleCode → Call
  does : Deed → (desk degree : ℕ) → TriangleCode → Call

pub data Answered : Type 0 where
  got : SoundingAnswer → Answered
  done : TableAnswer → Answered

-- Calls one after the other: a call's `turn` is its answer, and what it leaves for the next one.
unfoldable pub answers : {C A S : Type 0} → (turn : C → S → A × S) → List C → S → List A
answers turn [] s = []
answers turn (c ∷ cs) s = (turn c s).0 ∷ answers turn cs (turn c s).1

unfoldable pub after : {C A S : Type 0} → (turn : C → S → A × S) → List C → S → S
after turn [] s = s
after turn (c ∷ cs) s = after turn cs (turn c s).1

abbrev pub doing : {S : Type 0} → TableAnswer × S → Answered × S
doing x = (done x.0, x.1)

-- ---- on the lists: what is said of a call in 2026-03 and 2026-07

abbrev pub on_table : Call → Shared → Answered × Shared
on_table (asks d n t) s =
    (got (settled (refuse_get n t s.readings) (found t s.readings) (refused_get s.readings)), s)
on_table (does e d n t) s = doing (settled (refuse_deed e d n t s) (carried_out e d t s) (refused_deed s))

-- ---- on "a simple map from code to reading or nothing", with an owner; of a table of degree n

abbrev pub Map : Type 0
Map = TriangleCode → Held

abbrev pub empty : Map
empty t = held nobody None

abbrev pub with : TriangleCode → Held → Map → Map
with t h map u = cond (eqb u.0 t.0) h (map u)

-- the map that a table holds
abbrev pub map_of : Shared → Map
map_of s t = held_at t s

-- The map refuses by a call's arguments and the triangle's owner alone. A call that names another degree than the
-- table's is 22: the list has not that degree's length.
abbrev pub other_degree_rows : (table degree : ℕ) → List Row
other_degree_rows n m = 22 when not (eqb m n) ∷ []

abbrev pub map_rows : (table : ℕ) → (out : Bool) → (degree : ℕ) → TriangleCode → List Row
map_rows n out m t = triangle_rows m t ++ (21 when out ∷ []) ++ other_degree_rows n m

unfoldable pub refuse_get_on_map : (table degree : ℕ) → TriangleCode → ℕ
refuse_get_on_map n m t = first_of table_order (map_rows n false m t)

unfoldable pub refuse_deed_on_map : (table : ℕ) → Deed → (desk degree : ℕ) → TriangleCode → (owner : ℕ)
    → ℕ
refuse_deed_on_map n e d m t o = first_of desk_order (map_rows n (out_of_range e) m t ++ desk_rows d ++ owner_rows e d o)

-- a call's answer by what the map has for its triangle, and what that is then
abbrev pub on_held : (table : ℕ) → Call → Held → Answered × Held
on_held n (asks d m t) h =
    (got (settled (refuse_get_on_map n m t) (sounding_answer 0 0 h.sounding) (λ f. sounding_answer f 0 None)), h)
on_held n (does e d m t) h =
    doing (settled (refuse_deed_on_map n e d m t h.owner) (table_answer 0 0, held_after e d h)
    (λ f. (table_answer f 0, h)))

abbrev pub triangle_of : Call → TriangleCode
triangle_of (asks d n t) = t
triangle_of (does e d n t) = t

abbrev pub on_map : (table : ℕ) → Call → Map → Answered × Map
on_map n c map = let t = triangle_of c in let x = on_held n c (map t) in (x.0, with t x.1 map)

-- ---- "What desk 1 sees of its own triangles .. between its taking one and giving it back"

abbrev pub desk_of : Call → ℕ
desk_of (asks d n t) = d
desk_of (does e d n t) = d

-- the desk's calls about the triangle; and the calls of all but a desk
abbrev pub is_about : (desk : ℕ) → TriangleCode → Call → Bool
is_about d t c = eqb (desk_of c) d && eqb (triangle_of c).0 t.0

abbrev pub calls_about : (desk : ℕ) → TriangleCode → List Call → List Call
calls_about d t cs = those (is_about d t) cs

abbrev pub without : (desk : ℕ) → List Call → List Call
without d cs = those (λ c. not (eqb (desk_of c) d)) cs

-- giving back, where it is answered
abbrev pub is_given_back : Call → Answered → Bool
is_given_back (does e d n t) (done r) = is_giving e && eqb r.refusal 0
is_given_back (does e d n t) (got r) = false
is_given_back (asks d n t) r = false

-- the answers to its calls about the triangle, up to the one with which it has given it back
unfoldable pub seen : {S : Type 0} → (turn : Call → S → Answered × S) → (desk : ℕ) → TriangleCode
    → List Call → S → List Answered
seen turn d t [] s = []
seen turn d t (c ∷ cs) s =
    let r = (turn c s).0 in
    let rest = seen turn d t cs (turn c s).1 in
    cond (is_about d t c) (r ∷ cond (is_given_back c r) [] rest) rest
