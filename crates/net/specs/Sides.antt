-- Document 01, 'Vertices and sides'. Assumes nothing.
use Rattle.std.specs.Prelude.{ℕ, zero, suc, ◌+◌, ◌/◌, ◌%◌, ◌≤◌, ◌<◌}

-- The first, second or third of three, by the number 1, 2 or 3.
abbrev pub nth : {A : Type 0} → ℕ → A → A → A → A
nth zero x y z = z
nth (suc zero) x y z = x
nth (suc (suc zero)) x y z = y
nth (suc (suc (suc i))) x y z = z

abbrev pub OneToThree : ℕ → Type 0
OneToThree i = (1 ≤ i) × (i ≤ 3)

-- "a runs over 1 to 5; a+ and a- are next and previous, cyclic."
abbrev pub after : ℕ → ℕ
after a = a % 5 + 1

abbrev pub before : ℕ → ℕ
before a = (a + 3) % 5 + 1

-- "in the order 00, 01, 10, 20, 30, 40, 50, 11, 21, 31, 41, 51": the place of V(ab) in that order, from 0
abbrev pub vertex : (a b : ℕ) → ℕ
vertex zero zero = 0
vertex zero (suc b) = 1
vertex (suc a) zero = a + 2
vertex (suc a) (suc b) = a + 7

-- "A side is named apq. Its corners 1, 2, 3, anticlockwise seen from outside": corner i, by p and q
abbrev pub side_corner : (p q a i : ℕ) → ℕ
side_corner zero zero a i = nth i (vertex 0 0) (vertex a 0) (vertex (after a) 0)
side_corner zero (suc q) a i = nth i (vertex a 1) (vertex (after a) 0) (vertex a 0)
side_corner (suc p) zero a i = nth i (vertex 0 1) (vertex (after a) 1) (vertex a 1)
side_corner (suc p) (suc q) a i = nth i (vertex (after a) 0) (vertex a 1) (vertex (after a) 1)

-- The twenty sides as numbers, 4a + 2p + q, and the vertex that is corner i of one.
abbrev pub IsSide : ℕ → Type 0
IsSide s = (4 ≤ s) × (s < 24)

unfoldable pub corner_vertex : (s i : ℕ) → ℕ
corner_vertex s i = side_corner (s / 2 % 2) (s % 2) (s / 4) i

-- "Edge k lies opposite corner k": its ends are the corners after k and before k, in the cyclic order of 1, 2, 3.
abbrev pub next : ℕ → ℕ
next k = nth k 2 3 1

abbrev pub prev : ℕ → ℕ
prev k = nth k 3 1 2
