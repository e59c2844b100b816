-- Where a direction stands strictly inside a side, no other side holds it, and one word of each degree. Assumes
-- nothing.
use mathlib.Core.Path.{◌≡◌, sym, ◌∙◌, ap}
use mathlib.Core.List.{[], ◌∷◌}
use Prim.Native.Nat.{ℕ, ◌+◌, ◌*◌, ◌^◌, ◌≤◌, ◌<◌}
use native.Mathlib.Omega.{arith}
use lib.IntN.{pos}
use Rattle.golden.specs.Numbers.{whole}
use Rattle.golden.specs.declared.Golden.{Golden}
use Rattle.words.specs.Words.{word_of}
use Rattle.net.specs.Sides.{OneToThree, IsSide}
use Rattle.net.specs.Division.{each}
use Rattle.net.proofs.Table.{three as each-of-three}
use Rattle.filing.specs.Means.Descent.{descent, total}
use Rattle.filing.specs.Means.Lists.{side_words}
use Rattle.filing.specs.Means.Sides.{side_dets, least_from}
use Rattle.filing.specs.declared.Determinants.{Determinants}
use Rattle.filing.specs.declared.Direction.{Direction}
use Rattle.filing.proofs.LeastSide.{found_code, descent_low}
use Rattle.filing.proofs.SideUnits.{value, side_dets_lem}
use Rattle.filing.proofs.TwoSides.{SideHolds}
use Rattle.shares.specs.declared.Floors.{Floors}
use Rattle.shares.specs.declared.Gaps.{Gaps}
use Rattle.shares.specs.Means.Shares.{Share, Stands, floors, strict}
use Rattle.shares.specs.Means.Paths.{least_path}
use Rattle.shares.proofs.ShareLaws.{zero_share}
use Rattle.shares.proofs.Standing.{stands_holds, stands_unscaled}
use Rattle.shares.proofs.LeastPath.{least_24}
use Rattle.shares.proofs.AllPaths.{all_24, strict_paths}
use Rattle.seats.specs.declared.Found.{Found}
use Rattle.seats.specs.declared.dividing.Divided.{Divided}
use Rattle.seats.specs.declared.placing.Seated.{Seated}
use Rattle.seats.specs.Means.Near.{Away, Divides}
use Rattle.seats.specs.Means.Roles.{IsSeated}
use Rattle.seats.specs.Means.Finding.{IsSome, FoundIn, OneWord}
use Rattle.seats.proofs.HeldSides.{least_here, only_here}
use Rattle.seats.proofs.Margins.{strict_stands}
use Rattle.seats.proofs.SideLists.{one_side}

-- ---- what is found

pub found_in :
    (d : Direction) (t : Seated) (q : Divided)
    → IsSeated d t
    → q.sum ≡ t.sum
    → Divides t.x1 t.x2 q
    → Away q.sum q.q1.rest × Away q.sum q.q2.rest × Away q.sum q.q3.rest
    → FoundIn d (record { side = t.side; floors = floors q.q1.whole q.q2.whole q.q3.whole })
found_in d t q h e v a = record {
  side_is = h.side_is;
  stands = stands_unscaled h.scale 16777216 (floors q.q1.whole q.q2.whole q.q3.whole) strict (side_dets
      d t.side)
      (strict_stands _ q t.x1 t.x2 (rw e h.near) (rw e h.fits) v a.0 a.1 a.2);
}

-- ---- the path, at every degree

module _ (n : ℕ) (l : n ≤ 24) (F : Floors) (G : Gaps) (D : Determinants) (i : Stands 16777216 F G D) (v : ℕ)
    (e : v ≡
    least_path n 16777216 F G 0) where
  pub path_is : v ≡ descent n D 0
  path_is = e ∙ least_24 n F G D 0 l i

  pub path_low : v < 2 ^ (2 * n)
  path_low = let z : 0 + n ≡ n = omega arith in rw path_is (rw z at (descent_low n D 0 0 (omega arith)))

-- ---- the one side and the one word

module _ (d : Direction) (some : IsSome d) (r : Found) (h : FoundIn d r) where
  abbrev s : ℕ
  s = r.side

  here : SideHolds d s
  here = stands_holds 16777216 _ _ _ h.stands (omega arith)

  off : (k : ℕ) → OneToThree k → value d s k ≡ whole (pos 0) → ⊥
  off =
      let i = h.stands in
      let e = side_dets_lem d s h.side_is in
      each-of-three (λ k. value d s k ≡ whole (pos 0) → ⊥)
      (share_some i.s1 (ap (λ (D : Determinants). D.d1) e))
      (share_some i.s2 (ap (λ (D : Determinants). D.d2) e))
      (share_some i.s3 (ap (λ (D : Determinants). D.d3) e))
    where
      share_some :
          {f : ℕ} {x y : Golden}
          → Share 16777216 f 1 (total (side_dets d s)) x
          → x ≡ y
          → y ≡ whole (pos 0)
          → ⊥
      share_some q e z = omega (arith, (zero_share _ _ _ _ _ q h.stands.some h.stands.more (e ∙ z)).1)

  only : (t : ℕ) → IsSide t → SideHolds d t → s ≡ t
  only = only_here d some s h.side_is here off

  least : s ≡ least_from d 4
  least = least_here d some s h.side_is here (λ t ht g. let e = only t ht g in omega arith)

  pub found_word : (n v w : ℕ) → n ≤ 24 → v ≡ least_path n 16777216 r.floors strict 0 → w ≡ word_of s n v
      → OneWord n d w
  unfolding side_words
  found_word n v w l e f =
      let p : v ≡ descent n (side_dets d s) 0 = path_is n l r.floors strict (side_dets d s) h.stands v e in
      record {
        filed = rw (f, p, least) (found_code n d l);
        alone =
            one_side d n s h.side_is only
            ∙ ap (each (word_of s n)) (sym (all_24 n r.floors strict (side_dets d s) 0 l h.stands)
            ∙ strict_paths n 16777216 r.floors 0)
            ∙ ap (λ (x : ℕ). x ∷ []) (ap (word_of s n) (sym e) ∙ sym f);
      }
