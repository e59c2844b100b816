-- What is told by keys is what mending says of the words: the reason of each, and which are kept. Assumes nothing.
use mathlib.Core.Path.{◌≡◌, ◌∙◌, refl, sym, ap}
use mathlib.Core.Bool.{Bool, true, false}
use mathlib.Core.Logic.{◌⊎◌, inl, inr}
use mathlib.Core.List.{List, [], ◌∷◌, map}
use Prim.Native.Nat.{ℕ, zero, suc, ◌≤◌, ◌<◌}
use native.Mathlib.Omega.{arith}
use lib.Dec.{eqb}
use lib.ListN.{length, get_or, take, length-map}
use lib.Seq.{ext_get_or, get_or-take, length-take-le}
use Rattle.std.proofs.lemmas.List.{get_or-map}
use Rattle.frame.specs.Refusals.{◌either◌, first_of}
use Rattle.frame.specs.Lists.{some}
use Rattle.cells.specs.Order.{valid}
use Rattle.cells.specs.Means.Ranks.{rank}
use Rattle.cells.proofs.Dictionary.{known}
use Rattle.cells.proofs.Ranks.{rank_some, less_rank}
use Rattle.mending.specs.Mending.{member, drop_reason, judged, sound}
use Rattle.mending.specs.Answers.{reasons_of}
use Rattle.mending.proofs.Members.{mem_at, at_mem, Rises, Valid}
use Rattle.mending.proofs.Dropping.{holder, sound_mem, mem_sound, sound_good}
use Rattle.judging.specs.Means.Keys.{key, Numbered}
use Rattle.judging.specs.Means.Turns.{at, holds, Outer, why_at, Judged, Kept}
use Rattle.judging.proofs.WordKeys.{key_code, key_invalid, key_some, holds_inside, same_key}

-- ---- the words before a place

-- the last first
abbrev up_to : (p : ℕ) (ws es : List ℕ) → List ℕ
up_to zero ws es = es
up_to (suc p) [] es = es
up_to (suc p) (w ∷ ws) es = up_to p ws (w ∷ es)

judged_at : (all es ws : List ℕ) (p : ℕ) → p < length ws
    → get_or (reasons_of (judged all es ws)) p 0 ≡ drop_reason all (up_to p ws es) (get_or ws p 0)
unfolding judged
judged_at all es [] p l = absurd (omega (arith, l))
judged_at all es (w ∷ ws) zero l = refl
judged_at all es (w ∷ ws) (suc p) l = judged_at all (w ∷ es) ws p (omega (arith, l))

pub judged_long : (all es ws : List ℕ) → length (reasons_of (judged all es ws)) ≡ length ws
unfolding judged
judged_long all es [] = refl
judged_long all es (w ∷ ws) = ap suc (judged_long all (w ∷ es) ws)

swap : (a b c : Bool) → a either (b either c) ≡ (b either a) either c
swap true true c = refl
swap true false c = refl
swap false true c = refl
swap false false c = refl

member_up : (x p : ℕ) (ws es : List ℕ) → member x (up_to p ws es) ≡ some (eqb x) (take p ws) either member x es
unfolding member some
member_up x zero ws es = refl
member_up x (suc p) [] es = refl
member_up x (suc p) (w ∷ ws) es =
    member_up x p ws (w ∷ es) ∙ swap (some (eqb x) (take p ws)) (eqb x w) (some (eqb x) es)

none_before : (b : Bool) → b either false ≡ b
none_before true = refl
none_before false = refl

-- ---- tests by keys are tests of words

some_keys : (f g : ℕ → Bool) → ((u : ℕ) → f (key u) ≡ g u) → (ws : List ℕ) → some f (map key ws) ≡ some g ws
unfolding some
some_keys f g e [] = refl
some_keys f g e (w ∷ ws) = λ i. e w i either some_keys f g e ws i

take_keys : (p : ℕ) (ws : List ℕ) → take p (map key ws) ≡ map key (take p ws)
take_keys zero ws = refl
take_keys (suc p) [] = refl
take_keys (suc p) (w ∷ ws) = ap (λ (l : List ℕ). key w ∷ l) (take_keys p ws)

module _ (ws : List ℕ) where
  abbrev ks : List ℕ
  ks = map key ws

  -- inside another word
  outer_same : (w : ℕ) → valid w ≡ true → some (λ r. holds r (rank w)) ks ≡ some (holder w) ws
  outer_same w v = some_keys (λ r. holds r (rank w)) (holder w) (λ u. holds_inside w v u) ws

  -- equal to an earlier word
  earlier_same : (w p : ℕ) → valid w ≡ true → some (eqb (rank w)) (take p ks) ≡ member w (up_to p ws [])
  unfolding member some
  earlier_same w p v =
      ap (some (eqb (rank w))) (take_keys p ws)
      ∙ some_keys (eqb (rank w)) (eqb w) (λ u. same_key w v u) (take p ws)
      ∙ sym (none_before (some (eqb w) (take p ws))) ∙ sym (member_up w p ws [])

  why_code : (p : ℕ) → p < length ws → valid (at ws p) ≡ true → why_at ks p ≡ drop_reason ws (up_to p ws []) (at ws p)
  unfolding why_at drop_reason first_of
  why_code p l v =
      let w = at ws p in
      let k : at ks p ≡ rank w = get_or-map key ws p 0 0 l ∙ key_code w v in
      rw (k, earlier_same w p v, outer_same w v, v)

  why_other : (p : ℕ) → valid (at ws p) ≡ false → drop_reason ws (up_to p ws []) (at ws p) ≡ 1
  unfolding drop_reason first_of
  why_other p v = rw v

  -- ---- the reasons

  pub reasons_are : (keys places old why : List ℕ) (m : ℕ) → Numbered ws keys places old m → Judged ks old why
      → length ws ≤ length why → take (length ws) why ≡ reasons_of (judged ws [] ws)
  reasons_are keys places old why m n j l =
      ext_get_or 0 (take (length ws) why) (reasons_of (judged ws [] ws))
      (length-take-le (length ws) why l ∙ sym (judged_long ws [] ws))
      (λ p h. each p (omega (arith, h, length-take-le (length ws) why l)))
    where
      there : (p : ℕ) → p < length ws → p < length ks
      there p h = omega (arith, h, length-map ws key)

      own : (p : ℕ) → p < length ws → (valid (at ws p) ≡ true) ⊎ (valid (at ws p) ≡ false)
          → at why p ≡ drop_reason ws (up_to p ws []) (at ws p)
      own p h (inl v) =
          j.codes p (there p h) (λ z.
          omega (arith, rank_some (at ws p) v, sym (get_or-map key ws p 0 0 h ∙ key_code (at ws p) v) ∙ z))
          ∙ why_code p h v
      own p h (inr v) =
          j.others p (there p h) (get_or-map key ws p 0 0 h ∙ key_invalid (at ws p) v)
          ∙ n.invalid p h (key_invalid (at ws p) v) ∙ sym (why_other p v)

      each : (p : ℕ) → p < length ws
          → get_or (take (length ws) why) p 0 ≡ get_or (reasons_of (judged ws [] ws)) p 0
      each p h =
          get_or-take (length ws) why p 0 h ∙ own p h (known (valid (at ws p))) ∙ sym (judged_at ws [] ws p h)

-- ---- lists that rise

abbrev Rise : List ℕ → Type 0
Rise xs = (a b : ℕ) → a < b → b < length xs → at xs a < at xs b

abbrev Within : (xs ys : List ℕ) → Type 0
Within xs ys = (a : ℕ) → a < length xs → (b : ℕ) × ((b < length ys) × (at ys b ≡ at xs a))

rise_tail : (x : ℕ) (xs : List ℕ) → Rise (x ∷ xs) → Rise xs
rise_tail x xs r a b l m = r (suc a) (suc b) (omega (arith, l)) (omega (arith, m))

-- where the first is the least of both, the others are among the others
within_tail : (x y : ℕ) (xs ys : List ℕ) → x ≡ y → Rise (x ∷ xs) → Within (x ∷ xs) (y ∷ ys) → Within xs ys
within_tail x y xs ys e r w a l = go (w (suc a) (omega (arith, l)))
  where
    go : (b : ℕ) × ((b < length (y ∷ ys)) × (at (y ∷ ys) b ≡ at xs a))
        → (b : ℕ) × ((b < length ys) × (at ys b ≡ at xs a))
    go (zero, (m, q)) =
        let s : x < at xs a = r 0 (suc a) (omega arith) (omega (arith, l)) in
        absurd (omega (arith, s, q, e))
    go (suc b, (m, q)) = (b, (omega (arith, m), q))

least : (x : ℕ) (xs : List ℕ) → Rise (x ∷ xs) → (a : ℕ) → a < length (x ∷ xs) → x ≤ at (x ∷ xs) a
least x xs r zero l = omega arith
least x xs r (suc a) l = let s : x < at xs a = r 0 (suc a) (omega arith) l in omega (arith, s)

-- with the same numbers they are one list
pub rise_one : (xs ys : List ℕ) → Rise xs → Rise ys → Within xs ys → Within ys xs → xs ≡ ys
rise_one [] [] r s w v = refl
rise_one [] (y ∷ ys) r s w v = let x = v 0 (omega arith) in absurd (omega (arith, x.1.0))
rise_one (x ∷ xs) [] r s w v = let y = w 0 (omega arith) in absurd (omega (arith, y.1.0))
rise_one (x ∷ xs) (y ∷ ys) r s w v =
    let a = w 0 (omega arith) in
    let b = v 0 (omega arith) in
    let e : x ≡ y = omega (arith, a.1.1, least y ys s a.0 a.1.0, b.1.1, least x xs r b.0 b.1.0) in
    λ i. e i ∷ rise_one xs ys (rise_tail x xs r) (rise_tail y ys s) (within_tail x y xs ys e r w)
    (within_tail y x ys xs (sym e) s v) i

-- ---- the words kept

rank_at : (ws : List ℕ) (i : ℕ) → i < length ws → get_or (map rank ws) i 0 ≡ rank (get_or ws i 0)
rank_at [] i l = absurd (omega (arith, l))
rank_at (w ∷ ws) zero l = refl
rank_at (w ∷ ws) (suc i) l = rank_at ws i (omega (arith, l))

ranks_rise : (ws : List ℕ) → Valid ws → Rises ws → Rise (map rank ws)
ranks_rise [] v r a b l m = absurd (omega (arith, m))
ranks_rise (w ∷ ws) v r a zero l m = absurd (omega (arith, l))
ranks_rise (w ∷ ws) v r zero (suc b) l m =
    let h : b < length ws = omega (arith, m, length-map ws rank) in
    let u = get_or ws b 0 in
    let q = at_mem ws b h in
    let z = less_rank w u (v w (inl refl)) (v u (inr q)) (r.0 u q) in
    omega (arith, z, rank_at ws b h)
ranks_rise (w ∷ ws) v r (suc a) (suc b) l m =
    ranks_rise ws (λ u q. v u (inr q)) r.1 a b (omega (arith, l)) (omega (arith, m))

module _ (ws kept : List ℕ) (k : Kept (map key ws) kept) where
  abbrev good : Valid (sound ws) × Rises (sound ws)
  good = ((sound_good ws).codes, (sound_good ws).rises)

  pub kept_are : kept ≡ map rank (sound ws)
  kept_are = rise_one kept (map rank (sound ws)) k.rise (ranks_rise (sound ws) good.0 good.1) there back
    where
      there : Within kept (map rank (sound ws))
      there a l =
          let x = k.from a l in
          let p = x.0 in
          let h : p < length ws = omega (arith, x.1.0, length-map ws key) in
          let w = at ws p in
          let e = get_or-map key ws p 0 0 h in
          let v = key_some w (λ z. x.1.1.0 (e ∙ z)) in
          let r : at (map key ws) p ≡ rank w = e ∙ key_code w v in
          let o : some (holder w) ws ≡ false =
          sym (outer_same ws w v) ∙ ap (λ (n : ℕ). some (λ r. holds r n) (map key ws)) (sym r) ∙ x.1.1.1.1 in
          let m = mem_at w (sound ws) (mem_sound ws w (at_mem ws p h) v o) in (
            m.0,
            (
              omega (arith, m.1, length-map (sound ws) rank),
              rank_at (sound ws) m.0 m.1 ∙ ap rank m.2 ∙ sym r ∙ x.1.1.1.0,
            ),
          )

      back : Within (map rank (sound ws)) kept
      back a l =
          let h : a < length (sound ws) = omega (arith, l, length-map (sound ws) rank) in
          let w = get_or (sound ws) a 0 in
          let x = sound_mem ws w (at_mem (sound ws) a h) in
          let v = x.1.code in
          let m = mem_at w ws x.0 in
          let p = m.0 in
          let r : at (map key ws) p ≡ rank w = get_or-map key ws p 0 0 m.1 ∙ ap key m.2 ∙ key_code w v in
          let o : Outer (map key ws) (at (map key ws) p) =
          ap (λ (n : ℕ). some (λ r. holds r n) (map key ws)) r ∙ outer_same ws w v ∙ x.1.outer in
          let y = k.all p (omega (arith, m.1, length-map ws key))
          (λ z. omega (arith, rank_some w v, sym r ∙ z)) o in
          (y.0, (y.1.0, y.1.1 ∙ r ∙ sym (rank_at (sound ws) a h)))
