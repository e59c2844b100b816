-- Document 02, 2026-13: what the four calls refuse, a line each. Assumes nothing.
use Rattle.std.specs.Prelude.{ℕ, not, List, [], ◌∷◌, ◌++◌, ltb, length}
use Rattle.frame.specs.Refusals.{Row, ◌when◌, first_of, refusal, list_rows}
use Rattle.words.specs.Refusals.{code_rows}
use Rattle.words.specs.declared.TriangleCode.{TriangleCode}
use Rattle.words.specs.declared.CornerName.{CornerName}
use Rattle.net.specs.Refusals.{canonical_rows}
use Rattle.notation.specs.Domains.{is_domain}
use Rattle.notation.specs.Vertices.{is_vertex}

-- "A paper code above degree 24 is refusal 1; one the paper's text doesn't allow is 33, checked after it."
abbrev pub paper_order : List ℕ
paper_order = 1 ∷ 33 ∷ []

-- how many digits the code of degree 24 has: 3 + 24 of a domain, 2 + 24 of a vertex (notation/specs/Same.antt)
abbrev pub domain_places : ℕ
domain_places = 27

abbrev pub vertex_places : ℕ
vertex_places = 26

abbrev pub domain_rows : List ℕ → List Row
domain_rows xs = 1 when ltb domain_places (length xs) ∷ 33 when not (is_domain xs) ∷ []

abbrev pub vertex_rows : List ℕ → List Row
vertex_rows xs = 1 when ltb vertex_places (length xs) ∷ 33 when not (is_vertex xs) ∷ []

-- to our words
unfoldable pub refuse_from_domain : List ℕ → ℕ
refuse_from_domain xs = first_of paper_order (domain_rows xs)

unfoldable pub refuse_from_vertex : List ℕ → ℕ
refuse_from_vertex xs = first_of paper_order (vertex_rows xs)

-- to the paper: what checking the word refuses, then document 01's "9: a lent list is too short", for the longest code
unfoldable pub refuse_to_domain : TriangleCode → List ℕ → ℕ
refuse_to_domain t out = refusal (code_rows t ++ list_rows domain_places out)

unfoldable pub refuse_to_vertex : CornerName → List ℕ → ℕ
refuse_to_vertex q out = refusal (canonical_rows q ++ list_rows vertex_places out)
