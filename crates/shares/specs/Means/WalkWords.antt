-- The words that a walk through a side lists, and where the walk stands. What the code is proved by, and no promise.
-- Assumes nothing.
use Rattle.std.specs.Prelude.{ℕ, ◌+◌, ◌-◌, ◌*◌, ◌^◌, ◌≤◌, ◌<◌, ◌≡◌, cond, List, [], leb}
use Rattle.words.specs.Words.{word_of}
use Rattle.net.specs.Division.{each}
use Rattle.net.specs.Sides.{nth}
use Rattle.filing.specs.Means.Lists.{joined}
use Rattle.shares.specs.declared.Floors.{Floors}
use Rattle.shares.specs.declared.Gaps.{Gaps}
use Rattle.shares.specs.declared.walks.Walk.{Walk}
use Rattle.shares.specs.Means.Paths.{in_child, paths}

-- the floor at the corner k
abbrev pub floor_at : (k : ℕ) → Floors → ℕ
floor_at k F = nth k F.f1 F.f2 F.f3

-- the words of the triangles that hold, n digits below the path v of a triangle whose edge has p parts
unfoldable pub walk_words : Walk → (n p : ℕ) → Floors → (v : ℕ) → List ℕ
walk_words w n p F v = each (word_of w.side w.degree) (paths n p F w.gaps v)

-- of them, where its children's edges have h parts, those below the child k, if its share is half
unfoldable pub corner_words : Walk → (n h : ℕ) → Floors → (v k : ℕ) → List ℕ
corner_words w n h F v k = cond (leb h (floor_at k F)) (walk_words w n h (in_child h k F w.gaps) (4 * v + k)) []

-- those below the children k to 3 with a share of half
unfoldable pub beside_words : Walk → (n h : ℕ) → Floors → (v k : ℕ) → List ℕ
beside_words w n h F v k = joined (4 - k) k (corner_words w n h F v)

-- a gap of 0 only where the floor is 0 or all p parts; and so at all three
abbrev pub Straight : (p f g : ℕ) → Type 0
Straight p f g = g ≡ 0 → 0 < f → f ≡ p

abbrev pub Single : (p : ℕ) → Floors → Gaps → Type 0
Single p F G = Straight p F.f1 G.g1 × Straight p F.f2 G.g2 × Straight p F.f3 G.g3

-- shares of one sum, which has p parts: the floors together are not more, and with the gaps not fewer
pub record Fair (p : ℕ) (F : Floors) (G : Gaps) : Type 0 where
  pub most : F.f1 + F.f2 + F.f3 ≤ p
  pub least : p ≤ F.f1 + G.g1 + (F.f2 + G.g2) + (F.f3 + G.g3)

-- where a walk stands: n digits above the triangles that it lists, at the path v of one whose edge has p parts
pub record IsWalk (w : Walk) (n p : ℕ) (F : Floors) (v : ℕ) : Type 0 where
  pub a_side : w.side < 24
  pub low : w.degree ≤ 24
  pub above : n ≤ w.degree
  pub few : (w.gaps.g1 ≤ 1) × (w.gaps.g2 ≤ 1) × (w.gaps.g3 ≤ 1)
  pub most : p ≤ 16777216
  pub rest : ℕ
  pub parts : p ≡ 2 ^ (n + rest)
  pub shares : (F.f1 ≤ 16777216) × (F.f2 ≤ 16777216) × (F.f3 ≤ 16777216)
  pub fair : Fair p F w.gaps
  pub small : v < 2 ^ (2 * (w.degree - n))
