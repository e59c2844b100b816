-- The words of a degree where a direction stands exactly: the least, and all. Assumes nothing.
use mathlib.Core.Path.{◌≡◌, sym, ◌∙◌, ap, subst}
use mathlib.Core.List.{List, ◌++◌}
use mathlib.Core.Logic.{⊎_elim}
use Prim.Native.Nat.{ℕ, ◌+◌, ◌*◌, ◌^◌, ◌≤◌, ◌<◌}
use native.Mathlib.Omega.{arith}
use lib.IntN.{nat_abs}
use Rattle.words.specs.Words.{word_of}
use Rattle.words.specs.Family.{code_of}
use Rattle.net.specs.Sides.{IsSide}
use Rattle.net.specs.Division.{each}
use Rattle.filing.specs.Filing.{IsFiled}
use Rattle.filing.specs.Means.Descent.{descent}
use Rattle.filing.specs.Means.Lists.{side_words, all_words, Room}
use Rattle.filing.specs.Means.Sides.{side_dets, least_from}
use Rattle.filing.specs.declared.Direction.{Direction}
use Rattle.filing.proofs.HolderLists.{room_first}
use Rattle.filing.proofs.LeastSide.{found_code}
use Rattle.shares.specs.Means.Shares.{Stands}
use Rattle.shares.specs.Means.Paths.{least_path}
use Rattle.shares.proofs.ShareLaws.{share_zero, zero_share}
use Rattle.shares.proofs.Standing.{stands_gaps, stands_floors}
use Rattle.shares.proofs.AllPaths.{all_24}
use Rattle.seats.specs.declared.Stand.{Stand}
use Rattle.seats.specs.Means.Octants.{other_octant, side_at, first_at, second_at}
use Rattle.seats.specs.Means.Roles.{floors_at, gaps_at, seat_words}
use Rattle.seats.specs.Means.Finding.{IsSome, StandsAt}
use Rattle.seats.proofs.EdgeSides.{OnPlane, zero_role, plane_role, octant, octant_small, here_side, here_order}
use Rattle.seats.proofs.EdgeSides.{here_stands, here_least, there_side, there_order, there_small, there_stands}
use Rattle.seats.proofs.EdgeSides.{words_here, words_both}
use Rattle.seats.proofs.HeldSides.{equal_or_not}
use Rattle.seats.proofs.FoundWords.{path_is, path_low}

module _ (d : Direction) (some : IsSome d) (t : Stand) (h : StandsAt d t) where
  abbrev k : ℕ
  k = t.kind

  abbrev here : ℕ
  here = 4 * t.octant + k

  abbrev there : ℕ
  there = 4 * other_octant t.octant k + k

  e : t.octant ≡ octant d
  e = h.octant_is

  pub octant_below : t.octant < 8
  octant_below = rw e (octant_small d)

  pub here_below : here < 32
  here_below = omega (arith, octant_below, h.kind_small)

  pub here_is : IsSide (side_at here)
  here_is = rw e (here_side d some k h.kind_small)

  pub here_ordered : first_at here + second_at here ≤ 6
  here_ordered = rw e (here_order d some k h.kind_small)

  pub role_floors : (t.floors.f1 ≤ 16777216) × (t.floors.f2 ≤ 16777216) × (t.floors.f3 ≤ 16777216)
  role_floors = stands_floors 16777216 _ _ _ h.stands (omega arith)

  pub role_gaps : (t.gaps.g1 ≤ 1) × (t.gaps.g2 ≤ 1) × (t.gaps.g3 ≤ 1)
  role_gaps = stands_gaps 16777216 _ _ _ h.stands

  pub here_at : Stands 16777216 (floors_at here t.floors) (gaps_at here t.gaps) (side_dets d (side_at here))
  here_at = rw e (here_stands d some k h.kind_small 16777216 (omega arith) t.floors t.gaps h.stands)

  pub corner_floors : ((floors_at here t.floors).f1 ≤ 16777216) × ((floors_at here t.floors).f2 ≤ 16777216)
      × ((floors_at here t.floors).f3 ≤ 16777216)
  corner_floors = stands_floors 16777216 _ _ _ here_at (omega arith)

  pub corner_gaps : ((gaps_at here t.gaps).g1 ≤ 1) × ((gaps_at here t.gaps).g2 ≤ 1)
      × ((gaps_at here t.gaps).g3 ≤ 1)
  corner_gaps = stands_gaps 16777216 _ _ _ here_at

  -- ---- the least word

  module _ (n v : ℕ) (l : n ≤ 24) (p : v ≡ least_path n 16777216 (floors_at here t.floors)
      (gaps_at here t.gaps)
      0) where
    pub exact_low : v < 2 ^ (2 * n)
    exact_low = path_low n l _ _ _ here_at v p

    pub exact_filed : (w : ℕ) → w ≡ word_of (side_at here) n v → IsFiled n d (code_of w)
    exact_filed w f =
        let q : v ≡ descent n (side_dets d (side_at here)) 0 = path_is n l _ _ _ here_at v p in
        let s : side_at here ≡ least_from d 4 = rw e (here_least d some k h.kind_small 16777216 (omega arith) t.floors t.gaps h.stands) in
        rw (f, q, s) (found_code n d l)

  -- ---- all words

  words_at :
      (n j : ℕ) → n ≤ 24 → Stands 16777216 (floors_at j t.floors) (gaps_at j t.gaps) (side_dets d (side_at j))
      → side_words d n (side_at j) ≡ seat_words n j t.floors t.gaps
  unfolding side_words
  words_at n j l i = ap (each (word_of (side_at j) n)) (sym (all_24 n _ _ _ 0 l i))

  abbrev Edge : Type 0
  Edge = OnPlane k (nat_abs d.x) (nat_abs d.y) (nat_abs d.z)

  -- the third role has no share exactly where the direction lies on the edge between two sides
  on_edge : t.floors.f3 + t.gaps.g3 ≡ 0 → Edge
  on_edge z =
      zero_role (nat_abs d.x) (nat_abs d.y) (nat_abs d.z) some k 3 (omega arith, omega arith)
      (share_zero _ _ _ _ _ h.stands.s3 (omega arith) (omega arith) (omega arith))

  edge_on : Edge → t.floors.f3 + t.gaps.g3 ≡ 0
  edge_on o =
      let z = zero_share _ _ _ _ _ h.stands.s3 h.stands.some h.stands.more (plane_role k (nat_abs d.x)
      (nat_abs d.y) (nat_abs d.z) o) in
      omega (arith, z.0, z.1)

  pub all_here : (n : ℕ) → n ≤ 24 → (t.floors.f3 + t.gaps.g3 ≡ 0 → ⊥)
      → all_words d n 4 ≡ seat_words n here t.floors t.gaps
  all_here n l f =
      let w : all_words d n 4 ≡ side_words d n (side_at here) =
      rw e (words_here d some k h.kind_small 16777216 (omega arith) t.floors t.gaps h.stands n (λ o. f
      (edge_on o))) in
      w ∙ words_at n here l here_at

  module _ (z : t.floors.f3 + t.gaps.g3 ≡ 0) where
    pub there_below : other_octant t.octant k < 8
    there_below = rw e (there_small d some k h.kind_small (on_edge z))

    pub there_is : IsSide (side_at there)
    there_is = rw e (there_side d some k h.kind_small (on_edge z))

    pub there_ordered : first_at there + second_at there ≤ 6
    there_ordered = rw e (there_order d some k h.kind_small (on_edge z))

    pub there_at : Stands 16777216 (floors_at there t.floors) (gaps_at there t.gaps) (side_dets d (side_at there))
    there_at = rw e (there_stands d some k h.kind_small 16777216 (omega arith) t.floors t.gaps h.stands
        (on_edge z))

    pub all_both : (n : ℕ) → n ≤ 24 → all_words d n 4 ≡ seat_words n here t.floors t.gaps ++ seat_words n
        there t.floors t.gaps
    all_both n l =
        let w : all_words d n 4 ≡ side_words d n (side_at here) ++ side_words d n (side_at there) =
        rw e (words_both d some k h.kind_small 16777216 (omega arith) t.floors t.gaps h.stands n (on_edge
        z)) in
        w ∙ λ j. words_at n here l here_at j ++ words_at n there l there_at j

  -- there is room for the words of the first side, whether or not there is another
  pub room_here :
      (n : ℕ) (out : List ℕ) → n ≤ 24 → Room 0 (all_words d n 4) out
      → Room 0 (seat_words n here t.floors t.gaps) out
  room_here n out l r = ⊎_elim
      (λ z. room_first 0 (seat_words n here t.floors t.gaps) (seat_words n there t.floors t.gaps) (all_words
      d n 4) out (all_both z n l) r)
      (λ f. subst (λ (x : List ℕ). Room 0 x out) (all_here n l f) r)
      (equal_or_not (t.floors.f3 + t.gaps.g3) 0)
