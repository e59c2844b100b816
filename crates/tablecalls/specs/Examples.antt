-- The room of the console's lists at its bounds: what is as long as they are has room, and what is a place longer has
-- not. Assumes nothing.
use Rattle.std.specs.Prelude.{◌≡◌, ℕ, ℤ}
use Rattle.tables.specs.Tables.{places}
use Rattle.tablecalls.specs.Room.{HeldInRoom, RestInTable, AskedInRoom}
use Rattle.tablecalls.specs.declared.held.Held.{Held}
use Rattle.tablecalls.specs.declared.held.Rest.{Rest}
use Rattle.tablecalls.specs.declared.laying.Listing.{Listing}
use Rattle.tablecalls.specs.declared.asking.Asked.TheVariants as asked

pub record Bounds : Type 0 where
  pub held : (h : Held) → h.readings ≡ 81921 → h.owners ≡ 81921 → h.counts ≡ 20481 → h.sums ≡ 20481 → HeldInRoom h
  pub held_readings : (h : Held) → h.readings ≡ 81922 → HeldInRoom h → ⊥
  pub held_owners : (h : Held) → h.owners ≡ 81922 → HeldInRoom h → ⊥
  pub held_counts : (h : Held) → h.counts ≡ 20482 → HeldInRoom h → ⊥
  pub held_sums : (h : Held) → h.sums ≡ 20482 → HeldInRoom h → ⊥
  pub rest : (r : Rest) → r.degree ≡ 6 → r.count ≡ 81920 → RestInTable r
  pub rest_degree : (r : Rest) → r.degree ≡ 7 → RestInTable r → ⊥
  pub rest_count : (r : Rest) → r.degree ≡ 0 → r.count ≡ 21 → RestInTable r → ⊥
  pub table : (n : ℕ) (l : Listing ℤ) → l.length ≡ 81922 → AskedInRoom (asked.Table n l) → ⊥
  pub owners : (l : Listing ℕ) → l.length ≡ 81922 → AskedInRoom (asked.Owners l) → ⊥
  pub counts : (l : Listing ℕ) → l.length ≡ 20482 → AskedInRoom (asked.Counts l) → ⊥
  pub sums : (l : Listing ℕ) → l.length ≡ 20482 → AskedInRoom (asked.Sums l) → ⊥
