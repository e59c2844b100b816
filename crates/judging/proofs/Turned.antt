-- The codes of a list, sorted by their keys, are gone through as it is asked for. Assumes nothing.
use mathlib.Core.Path.{◌≡◌, ◌∙◌, sym, ap}
use mathlib.Core.Bool.{true, false, ◌&&◌}
use mathlib.Core.Logic.{⊎_elim}
use mathlib.Core.List.{List, map}
use Prim.Native.Nat.{ℕ, ◌-◌, ◌%◌, ◌^◌, ◌≤◌, ◌<◌}
use native.Mathlib.Omega.{arith}
use lib.ListN.{length, length-map}
use Rattle.std.proofs.lemmas.List.{get_or-map}
use Rattle.sorting.specs.Sorting.{sorted, PlacesOf}
use Rattle.sorting.proofs.Sorted.{sorted_long, sorted_all, sorted_has, sorted_rises}
use Rattle.cells.specs.Order.{valid, inside_of}
use Rattle.cells.specs.Means.Ranks.{rank}
use Rattle.cells.proofs.Dictionary.{known}
use Rattle.cells.proofs.Spelling.{inside_trans}
use Rattle.cells.proofs.Ranks.{degree_fits}
use Rattle.mending.proofs.Members.{both_true}
use Rattle.judging.specs.Means.Keys.{key, end_of, code_places}
use Rattle.judging.specs.Means.Turns.{at, holds, InTurn, Nested, SmallKeys}
use Rattle.judging.proofs.InOrder.{held}
use Rattle.judging.proofs.WordKeys.{key_code, key_invalid, key_some, rank_degree, rank_small}
use Rattle.judging.proofs.WordKeys.{holds_inside}
use Rattle.judging.proofs.CodePlaces.{places_there, places_rise, places_all}

module _ (ks : List ℕ) where
  abbrev ps : List ℕ
  ps = code_places 0 ks

  pub places_of : PlacesOf ks ps
  places_of i l = let t = places_there 0 ks i l in omega (arith, t.high)

  pub in_turn_lem : InTurn ks (sorted ks ps)
  in_turn_lem = record {
    there = λ i l. sorted_all ks ps (λ p. (p < length ks) × (at ks p ≡ 0 → ⊥)) each i (shorter i l);
    all = λ p l n.
        let x = places_all 0 ks p l n in
        let y = sorted_has ks ps x.0 x.1.0 in
        (y.0, (omega (arith, y.1.0, sorted_long ks ps), y.1.1 ∙ x.1.1 ∙ omega arith));
    turn = λ i j l m. sorted_rises ks ps (places_rise 0 ks) i j l (shorter j m);
  }
    where
      shorter : (i : ℕ) → i < length (sorted ks ps) → i < length ps
      shorter i l = omega (arith, l, sorted_long ks ps)

      each : (i : ℕ) → i < length ps → (at ps i < length ks) × (at ks (at ps i) ≡ 0 → ⊥)
      each i l =
          let t = places_there 0 ks i l in
          let e : at ps i - 0 ≡ at ps i = omega arith in
          (omega (arith, t.high), λ z. t.code (ap (at ks) e ∙ z))

module _ (ws : List ℕ) where
  abbrev K : ℕ → ℕ
  K p = at (map key ws) p

  abbrev W : ℕ → ℕ
  W p = at ws p

  in_words : (p : ℕ) → p < length (map key ws) → p < length ws
  in_words p l = omega (arith, l, length-map ws key)

  -- where one key holds another, the word lies inside the other
  inside : (p q : ℕ) → p < length (map key ws) → q < length (map key ws) → holds (K p) (K q) ≡ true
      → (valid (W p) ≡ true) × ((valid (W q) ≡ true) × (inside_of (W q) (W p) ≡ true))
  inside p q l m h =
      let kp = get_or-map key ws p 0 0 (in_words p l) in
      let kq = get_or-map key ws q 0 0 (in_words q m) in
      let x = held (K p) (K q) h in
      let v : valid (W q) ≡ true = key_some (W q) (λ z. let s = x.below in let k = kq ∙ z in omega (arith, s, k)) in
      let g : holds (key (W p)) (rank (W q)) ≡ true =
      (λ i. holds (sym kp i) (sym (kq ∙ key_code (W q) v) i)) ∙ h in
      let b = both_true (valid (W p)) (inside_of (W q) (W p)) (sym (holds_inside (W q) v (W p)) ∙ g) in
      (b.0, (v, b.1))

  pub nested : Nested (map key ws)
  nested p q s lp lq ls h k =
      let a = inside p q lp lq h in
      let b = inside q s lq ls k in
      let t = inside_trans (W s) (W q) (W p) b.1.1 a.1.1 in
      let v = b.1.0 in
      let g : holds (key (W p)) (rank (W s)) ≡ true = holds_inside (W s) v (W p) ∙ (λ i. a.0 i && t i) in
      let x = held (key (W p)) (rank (W s)) g in
      let kp = get_or-map key ws p 0 0 (in_words p lp) in
      let kss = get_or-map key ws s 0 0 (in_words s ls) ∙ key_code (W s) v in
      omega (arith, x.above, kss, ap end_of kp)

  pub small_keys : SmallKeys (map key ws)
  small_keys p l = ⊎_elim code other (known (valid (W p)))
    where
      k : K p ≡ key (W p)
      k = get_or-map key ws p 0 0 (in_words p l)

      code : valid (W p) ≡ true → (K p < 2 ^ 59) × (K p % 64 ≤ 24)
      code v =
          let e = k ∙ key_code (W p) v in
          let m = ap (λ (n : ℕ). n % 64) e in
          (omega (arith, e, rank_small (W p) v), omega (arith, m, rank_degree (W p) v, degree_fits (W p) v))

      other : valid (W p) ≡ false → (K p < 2 ^ 59) × (K p % 64 ≤ 24)
      other v =
          let e = k ∙ key_invalid (W p) v in
          (omega (arith, e), omega (arith, ap (λ (n : ℕ). n % 64) e))
