-- The descent from where the direction stands, in the order of the side's corners, and its word (ExactWords). Assumes
-- nothing.
use mathlib.Core.Path.{◌≡◌, ◌∙◌, ap}
use Prim.Native.Nat.{ℕ, ◌+◌, ◌*◌, ◌-◌, ◌≤◌, ◌<◌}
use native.Mathlib.Omega.{arith}
use lib.Pow.{pow_pos}
use Rattle.words.specs.Words.{word_of}
use Rattle.shares.specs.Means.Paths.{least_path}
use Rattle.seats.specs.declared.Stand.{Stand}
use Rattle.seats.specs.Means.Octants.{first_at, second_at}
use Rattle.seats.specs.Means.Roles.{floors_at, gaps_at}
use Rattle.seats.proofs.ExactWords.{octant_below, here_below, here_is, here_ordered, corner_floors}
use Rattle.seats.proofs.ExactWords.{corner_gaps, exact_low, exact_filed}
use Rattle.holders.proofs.exact_word.Goals as goal
use Rattle.holders.proofs.exact_word.Goals.{After-descend-path, After-stand_of-t}

pub overflow_mul-k : goal.overflow_mul-k
overflow_mul-k c =
    record { fits = omega (arith, octant_below c.args.d c.requires.2 c.stand_of-t.result c.stand_of-t.ensures) }

pub overflow_add-k : goal.overflow_add-k
overflow_add-k c =
    record { fits = omega (arith, here_below c.args.d c.requires.2 c.stand_of-t.result c.stand_of-t.ensures) }

seat_fits :
    (c : After-stand_of-t)
    → let k = 4 * c.stand_of-t.result.octant + c.stand_of-t.result.kind in
    (k < 32) × (first_at k + second_at k ≤ 6)
seat_fits c =
    let h = c.stand_of-t.ensures in (
      here_below c.args.d c.requires.2 c.stand_of-t.result h,
      here_ordered c.args.d c.requires.2 c.stand_of-t.result h,
    )

pub floors_at-f-requires : goal.floors_at-f-requires
floors_at-f-requires c = seat_fits (goal.at.floors_at-f-requires c).After-stand_of-t

pub gaps_at-g-requires : goal.gaps_at-g-requires
gaps_at-g-requires c = seat_fits (goal.at.gaps_at-g-requires c).After-stand_of-t

pub descend-path-requires : goal.descend-path-requires
descend-path-requires c =
    let f = corner_floors c.args.d c.requires.2 c.stand_of-t.result c.stand_of-t.ensures in
    let g = corner_gaps c.args.d c.requires.2 c.stand_of-t.result c.stand_of-t.ensures in
    rw (c.floors_at-f.ensures, c.gaps_at-g.ensures)
    (c.requires.0, omega arith, f.0, f.1, f.2, g.0, g.1, g.2, pow_pos (2 * (24 - c.args.degree)))

pub side_at-requires : goal.side_at-requires
side_at-requires c = (
  octant_below c.args.d c.requires.2 c.stand_of-t.result c.stand_of-t.ensures,
  c.stand_of-t.ensures.kind_small,
)

-- the path that the floors and gaps come to
abbrev PathOf : (n : ℕ) → Stand → ℕ
PathOf n t =
    least_path n 16777216 (floors_at (4 * t.octant + t.kind) t.floors) (gaps_at (4 * t.octant + t.kind) t.gaps) 0

path_is :
    (c : After-descend-path)
    → c.descend-path.result
    ≡ PathOf c.args.degree c.stand_of-t.result
path_is c = rw (c.floors_at-f.ensures, c.gaps_at-g.ensures) at c.descend-path.ensures

pub word_of-requires : goal.word_of-requires
word_of-requires c =
    let r = c.stand_of-t.result in
    let h = c.stand_of-t.ensures in (
      rw c.side_at.ensures (omega (arith, (here_is c.args.d c.requires.2 r h).1)),
      c.requires.0,
      exact_low c.args.d c.requires.2 r h c.args.degree c.descend-path.result c.requires.0 (path_is (goal.at.word_of-requires c).After-descend-path),
    )

pub returns : goal.returns
returns c =
    exact_filed c.args.d c.requires.2 c.stand_of-t.result c.stand_of-t.ensures c.args.degree
    c.descend-path.result c.requires.0 (path_is (goal.at.returns c).After-descend-path) c.word_of.result
    (c.word_of.ensures ∙ ap (λ (z : ℕ). word_of z c.args.degree c.descend-path.result) c.side_at.ensures)
