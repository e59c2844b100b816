-- What the console holds, where it has room in the lists that talk keeps: 81,921 places for readings and for owners,
-- 20,481 for counts and for sums (held.rt). Assumes nothing.
use Rattle.std.specs.Prelude.{◌≡◌, ◌≤◌, List, length, ⊤}
use Rattle.std.specs.Borrow.{MutBor}
use Rattle.tables.specs.Tables.{places}
use Rattle.tablecalls.specs.declared.held.Held.{Held}
use Rattle.tablecalls.specs.declared.held.Rest.{Rest}
use Rattle.tablecalls.specs.declared.held.Table.{Table}
use Rattle.tablecalls.specs.declared.held.Task.{Task}
use Rattle.tablecalls.specs.declared.held.Task.TheVariants as task
use Rattle.tablecalls.specs.declared.asking.Asked.{Asked}
use Rattle.tablecalls.specs.declared.asking.Asked.TheVariants as asked

-- of a table: how many places of each list are its own
abbrev pub HeldInRoom : Held → Type 0
HeldInRoom h = (h.readings ≤ 81921) × (h.owners ≤ 81921) × (h.counts ≤ 20481) × (h.sums ≤ 20481)

-- of the rest of an answer: a table has its degree, and no fewer places
abbrev pub RestInTable : Rest → Type 0
RestInTable r = (r.degree ≤ 6) × (r.count ≤ places r.degree)

-- of what is left to do: what is to be shown or saved
abbrev pub TaskInRoom : Task → Type 0
TaskInRoom (task.Show r) = RestInTable r
TaskInRoom (task.Save h name) = HeldInRoom h
TaskInRoom (task.Open name) = ⊤

-- of what is asked: the list that is to be laid
abbrev pub AskedInRoom : Asked → Type 0
AskedInRoom (asked.Table n l) = l.length ≤ 81921
AskedInRoom (asked.Owners l) = l.length ≤ 81921
AskedInRoom (asked.Counts l) = l.length ≤ 20481
AskedInRoom (asked.Sums l) = l.length ≤ 20481
AskedInRoom x = ⊤

-- of a list after a call: it is still the one that was lent, and as long
abbrev pub SameList : {A : Type 0} → (before after : MutBor (List A)) → Type 0
SameList l m = (m.ghost_name ≡ l.ghost_name) × (length m.now ≡ length l.now)

-- of a table after a call: its four lists
abbrev pub SameLists : (before after : Table) → Type 0
SameLists t u =
    SameList t.readings u.readings × SameList t.owners u.owners × SameList t.counts u.counts
    × SameList t.sums u.sums
