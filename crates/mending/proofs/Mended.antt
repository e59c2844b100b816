-- The mended list: it passes the checker, covers the same and has no four whole children. Assumes nothing.
use mathlib.Core.Path.{◌≡◌, ◌∙◌, refl, sym, ap}
use mathlib.Core.Bool.{true}
use mathlib.Core.Logic.{inl, inr}
use mathlib.Core.List.{List, [], ◌∷◌, map}
use Prim.Native.Nat.{ℕ, zero, suc, ◌≤◌, ◌<◌}
use native.Mathlib.Omega.{arith}
use lib.ListN.{length, get_or}
use Rattle.frame.specs.Lists.{those}
use Rattle.words.specs.Words.{degree_of}
use Rattle.cells.specs.Order.{valid, less_than}
use Rattle.cells.specs.Checking.{checked, accepted, Accepted}
use Rattle.cells.proofs.Spelling.{code_valid}
use Rattle.cells.proofs.Accepting.{checks}
use Rattle.mending.specs.Mending.{whole_in, parents, merges_at, replaced, merged_below, sound, mended}
use Rattle.mending.specs.Covering.{Covers, SameCover}
use Rattle.mending.specs.Promises.{NoFour}
use Rattle.mending.proofs.WordNodes.{up, up_valid, up_degree}
use Rattle.mending.proofs.Members.{Mem, mem_at, at_mem, those_mem, map_mem, Rises, Once, Valid, those_rises}
use Rattle.mending.proofs.Members.{rises_once}
use Rattle.mending.proofs.Children.{firsts_less}
use Rattle.mending.proofs.Merging.{Holds, Good, is_first, first_facts, first_kid, step_good, step_there}
use Rattle.mending.proofs.Merging.{step_back}
use Rattle.mending.proofs.Dropping.{sound_mem, sound_good, sound_there}

-- ---- the merges of a degree rise

module _ (d : ℕ) (d< : d < 24) where
  -- the parents of first children are in their order
  ups_less : (x y : ℕ) → valid x ≡ true → valid y ≡ true → is_first d x ≡ true → is_first d y ≡ true
      → less_than x y ≡ true → less_than (up x) (up y) ≡ true
  ups_less x y v v' h k l =
      let a = (first_facts d x h).0 in
      let b = (first_facts d y k).0 in
      let gx : degree_of (up x) ≡ d = up_degree x v (omega (arith, a)) ∙ omega (arith, a) in
      let gy : degree_of (up y) ≡ d = up_degree y v' (omega (arith, b)) ∙ omega (arith, b) in
      firsts_less (up x) (up y) (up_valid x v (omega (arith, a))) (up_valid y v' (omega (arith, b))) (gx ∙ sym gy)
      (omega (arith, gy)) (rw (first_kid d x v h, first_kid d y v' k) l)

  ups_rise : (xs : List ℕ) → ((w : ℕ) → Mem w xs → (valid w ≡ true) × (is_first d w ≡ true)) → Rises xs
      → Rises (map up xs)
  ups_rise [] f r = tt
  ups_rise (x ∷ xs) f r = (
    λ u m.
        let p = map_mem up u xs m in
        let a = f x (inl refl) in
        let b = f p.0 (inr p.1) in
        ap (less_than (up x)) p.2 ∙ ups_less x p.0 a.0 b.0 a.1 b.1 (r.0 p.0 p.1),
    ups_rise xs (λ w m. f w (inr m)) r.1,
  )

  -- "rising within one degree"
  pub merges_rise_lem : (ws : List ℕ) → Valid ws → Rises ws → Rises (merges_at d ws)
  unfolding merges_at parents
  merges_rise_lem ws vs r =
      those_rises (whole_in ws) (parents d ws)
      (ups_rise (those (is_first d) ws) (λ w m. let p = those_mem (is_first d) w ws m in (vs w p.0, p.1))
      (those_rises (is_first d) ws r))

module _ (d : ℕ) (d< : d < 24) (ws : List ℕ) (g : Good (suc d) ws) where
  pub merges_once : Once (merges_at d ws)
  merges_once = rises_once (merges_at d ws) (merges_rise_lem d d< ws g.codes g.rises)

  -- the list goes on being sound
  pub next_good : Good d (replaced (merges_at d ws) ws)
  next_good = step_good d d< ws g merges_once

-- ---- all degrees

pub record All (ws new : List ℕ) : Type 0 where
  pub good : Good 0 new
  pub there : (t : ℕ) → Holds ws t → Holds new t
  pub back : (t : ℕ) → valid t ≡ true → degree_of t ≡ 24 → Holds new t → Holds ws t

merged : (d : ℕ) (ws : List ℕ) → d ≤ 24 → Good d ws → All ws (merged_below d ws)
unfolding merged_below
merged zero ws h g = record { good = g; there = λ t k. k; back = λ t v e k. k }
merged (suc d) ws h g =
    let a = merged d (replaced (merges_at d ws) ws) (omega arith) (next_good d h ws g) in
    record {
      good = a.good;
      there = λ t k. a.there t (step_there d h ws g t k);
      back = λ t v e k. step_back d h ws g t v e (a.back t v e k);
    }

pub mended_all : (ws : List ℕ) → All (sound ws) (mended ws)
unfolding mended
mended_all ws = merged 24 (sound ws) (omega arith) (sound_good ws)

-- ---- the promises

rises_next : (ws : List ℕ) → Rises ws → (i : ℕ) → suc i < length ws
    → less_than (get_or ws i 0) (get_or ws (suc i) 0) ≡ true
rises_next [] r i l = absurd (omega arith)
rises_next (w ∷ ws) r zero l = r.0 (get_or ws 0 0) (at_mem ws 0 (omega arith))
rises_next (w ∷ ws) r (suc i) l = rises_next ws r.1 i (omega arith)

pub mended_accepted : (ws : List ℕ) → Accepted (mended ws)
mended_accepted ws = go (mended ws) (mended_all ws).good
  where
    go : (us : List ℕ) → Good 0 us → Accepted us
    go us g = record {
      codes = λ i l. g.codes (get_or us i 0) (at_mem us i l);
      rise = rises_next us g.rises;
      apart = λ i j l k. g.apart (get_or us i 0) (get_or us j 0) (at_mem us i l) (at_mem us j k);
    }

-- "The mended list passes the checker"
pub passes : (ws : List ℕ) → checked (mended ws) ≡ accepted
passes ws = (checks.exactly (mended ws)).1 (mended_accepted ws)

holds_covers : (ws : List ℕ) (t : ℕ) (h : Holds ws t) → valid h.by ≡ true → Covers ws t
holds_covers ws t h v =
    let p = mem_at h.by ws h.mem in
    record { place = p.0; within = p.1; code = ap valid p.2 ∙ v; holds = rw p.2 h.is }

-- "and covers exactly the same triangles of degree 24 as the valid words did"
pub covers : (ws : List ℕ) → SameCover (mended ws) ws
covers ws t c =
    let a = mended_all ws in (
      λ k.
          let h : Holds (mended ws) t =
          record {
            by = get_or (mended ws) k.place 0;
            mem = at_mem (mended ws) k.place k.within;
            is = k.holds;
          } in
          let s = a.back t (code_valid t c) c.degree_is h in
          let q = sound_mem ws s.by s.mem in
          holds_covers ws t (record { by = s.by; mem = q.0; is = s.is }) q.1.code,
      λ k.
          let w = get_or ws k.place 0 in
          let s = a.there t (sound_there ws t w (at_mem ws k.place k.within) k.code k.holds) in
          holds_covers (mended ws) t s (a.good.codes s.by s.mem),
    )

-- "as long as any four remain"
pub no_four_lem : (ws : List ℕ) → NoFour (mended ws)
no_four_lem ws u v l = (mended_all ws).good.no_four u v (omega arith) l
