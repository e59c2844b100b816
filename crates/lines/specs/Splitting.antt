-- The words of a line: what stands between separators. Assumes nothing.
use Rattle.std.specs.Prelude.{ℕ, suc, Bool, true, false, cond, List, [], ◌∷◌, eqb, length, take, drop}
use Rattle.std.specs.Bool.{beq}

-- a space, a tab or a carriage return
abbrev pub separator : ℕ → Bool
separator c = cond (eqb c 32) true (cond (eqb c 9) true (eqb c 13))

-- how many bytes at the front are separators (`true`), or are none (`false`)
unfoldable pub run : Bool → List ℕ → ℕ
run b [] = 0
run b (c ∷ cs) = cond (beq (separator c) b) (suc (run b cs)) 0

-- from its first word on
abbrev pub begun : List ℕ → List ℕ
begun s = drop (run true s) s

-- the first word of a line: none where there are only separators
abbrev pub word : List ℕ → List ℕ
word s = take (run false (begun s)) (begun s)

-- the line after its first word
abbrev pub after : List ℕ → List ℕ
after s = drop (run false (begun s)) (begun s)

-- only separators
abbrev pub blank : List ℕ → Bool
blank s = eqb (run true s) (length s)
