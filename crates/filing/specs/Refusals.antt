-- Document 01, 'Refusal numbers': rows 7 and 8. Assumes nothing.
use Rattle.std.specs.Prelude.{Bool, ◌&&◌, List, [], ◌∷◌, ltb, eqb, ℤ, nat_abs}
use Rattle.frame.specs.Refusals.{◌either◌, Row, ◌when◌}
use Rattle.filing.specs.declared.Direction.{Direction}

-- "8: a direction coordinate lies outside -1,000,000,000 to 1,000,000,000"
abbrev pub outside : ℤ → Bool
outside c = ltb 1000000000 (nat_abs c)

-- "7: the direction is (0, 0, 0)"
abbrev pub zero? : ℤ → Bool
zero? c = eqb (nat_abs c) 0

abbrev pub direction_rows : Direction → List Row
direction_rows d =
    8 when (outside d.x either outside d.y either outside d.z)
    ∷ 7 when (zero? d.x && (zero? d.y && zero? d.z))
    ∷ []
