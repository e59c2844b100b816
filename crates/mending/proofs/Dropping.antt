-- What is kept of a list: each valid word that lies inside no other, once; it covers what the valid words do. Assumes
-- nothing.
use mathlib.Core.Path.{◌≡◌, ◌∙◌, refl, sym, ap}
use mathlib.Core.Bool.{Bool, true, false, not, ◌&&◌}
use mathlib.Core.Logic.{◌⊎◌, inl, inr, ⊎_elim, ◌↔◌}
use mathlib.Core.List.{List, [], ◌∷◌}
use Prim.Native.Nat.{ℕ, zero, suc, ◌+◌, ◌<◌}
use native.Mathlib.Omega.{arith}
use lib.Dec.{eqb}
use lib.ListN.{length}
use borrow.Author.Tests.{eqb-true, eqb-false, eq-eqb, not-false}
use Rattle.frame.specs.Lists.{some}
use Rattle.frame.proofs.Refusing.{none_so, either_false}
use Rattle.words.specs.Words.{degree_of}
use Rattle.cells.specs.Order.{valid, inside_of}
use Rattle.cells.proofs.Dictionary.{known, clash}
use Rattle.cells.proofs.Spelling.{inside_trans}
use Rattle.mending.specs.Mending.{member, drop_reason, judged, kept, dropped, sound}
use Rattle.mending.proofs.WordNodes.{inside_within}
use Rattle.mending.proofs.Members.{not_so, true_and, both_true, Mem, some_mem, mem_some, ordered_mem}
use Rattle.mending.proofs.Members.{mem_ordered, Once, ordered_rises}
use Rattle.mending.proofs.Merging.{Holds, Good}

-- another word that w lies inside
abbrev pub holder : ℕ → ℕ → Bool
holder w u = valid u && inside_of w u

-- Why a word stays.
pub record Stays (all es : List ℕ) (w : ℕ) : Type 0 where
  pub code : valid w ≡ true
  pub new : member w es ≡ false
  pub outer : some (holder w) all ≡ false

pub stays : (all es : List ℕ) (w : ℕ) → (drop_reason all es w ≡ 0) ↔ Stays all es w
unfolding drop_reason
stays all es w =
    let n = none_so (1 ∷ 3 ∷ 4 ∷ []) _ tt in (
      λ e. let f = n.0 e in record { code = not-false _ f.0; new = f.1.0; outer = f.1.1.0 },
      λ s. n.1 (ap not s.code, (s.new, (s.outer, tt))),
    )

-- not among one word more
member_cons : (w x : ℕ) (es : List ℕ) → (member w (x ∷ es) ≡ false) ↔ ((eqb w x ≡ false) × (member w es ≡ false))
unfolding member some
member_cons w x es = either_false (eqb w x) (some (eqb w) es)

member_nil : (w : ℕ) → member w [] ≡ false
unfolding member some
member_nil w = refl

-- ---- what is kept

abbrev Stay : (all es : List ℕ) (x : ℕ) → Type 0
Stay all es x = (eqb (drop_reason all es x) 0 ≡ true) ⊎ (eqb (drop_reason all es x) 0 ≡ false)

-- what is kept of the words after x
abbrev after : (all es : List ℕ) (x : ℕ) (xs : List ℕ) → List ℕ
after all es x xs = kept (judged all (x ∷ es) xs)

pub kept_mem : (all es rest : List ℕ) (w : ℕ) → Mem w (kept (judged all es rest)) → Mem w rest × Stays all es w
unfolding judged kept
kept_mem all es [] w m = absurd m
kept_mem all es (x ∷ xs) w m = go (known (eqb (drop_reason all es x) 0)) (kept_mem all (x ∷ es) xs w)
  where
    later : Mem w xs × Stays all (x ∷ es) w → Mem w (x ∷ xs) × Stays all es w
    later (p, s) =
        (inr p, record { code = s.code; new = ((member_cons w x es).0 s.new).1; outer = s.outer })

    first : eqb (drop_reason all es x) 0 ≡ true
        → (Mem w (after all es x xs) → Mem w xs × Stays all (x ∷ es) w)
        → (w ≡ x) ⊎ Mem w (after all es x xs) → Mem w (x ∷ xs) × Stays all es w
    first e ih (inl q) = (inl q, rw q ((stays all es x).0 (eqb-true (drop_reason all es x) 0 e)))
    first e ih (inr p) = later (ih p)

    go : Stay all es x → (Mem w (after all es x xs) → Mem w xs × Stays all (x ∷ es) w)
        → Mem w (x ∷ xs) × Stays all es w
    go (inl e) ih = first e ih (rw e at m)
    go (inr e) ih = later (ih (rw e at m))

pub mem_kept : (all es rest : List ℕ) (w : ℕ) → Mem w rest → Stays all es w → Mem w (kept (judged all es rest))
unfolding judged kept
mem_kept all es [] w m s = absurd m
mem_kept all es (x ∷ xs) w m s = go (known (eqb w x)) (mem_kept all (x ∷ es) xs w) m
  where
    wide : Mem w (after all es x xs) → Stay all es x → Mem w (kept (judged all es (x ∷ xs)))
    wide p (inl e) = rw e (inr p)
    wide p (inr e) = rw e p

    go : (eqb w x ≡ true) ⊎ (eqb w x ≡ false) → (Mem w xs → Stays all (x ∷ es) w → Mem w (after all es x xs))
        → (w ≡ x) ⊎ Mem w xs → Mem w (kept (judged all es (x ∷ xs)))
    go (inl e) ih k =
        let q : w ≡ x = eqb-true w x e in
        let z : eqb (drop_reason all es x) 0 ≡ true =
        eq-eqb (drop_reason all es x) 0 (ap (drop_reason all es) (sym q) ∙ (stays all es w).1 s) in
        rw z (inl q)
    go (inr e) ih (inl q) = absurd (eqb-false w x e q)
    go (inr e) ih (inr p) =
        let t : Stays all (x ∷ es) w =
        record { code = s.code; new = (member_cons w x es).1 (e, s.new); outer = s.outer } in
        wide (ih p t) (known (eqb (drop_reason all es x) 0))

pub once_kept : (all es rest : List ℕ) → Once (kept (judged all es rest))
unfolding judged kept
once_kept all es [] = tt
once_kept all es (x ∷ xs) = go (known (eqb (drop_reason all es x) 0)) (once_kept all (x ∷ es) xs)
  where
    go : Stay all es x → Once (after all es x xs) → Once (kept (judged all es (x ∷ xs)))
    go (inl e) o =
        rw e (λ m. eqb-false x x ((member_cons x x es).0 (kept_mem all (x ∷ es) xs x m).1.new).0 refl, o)
    go (inr e) o = rw e o

-- what is kept and what is dropped are as many as there were
pub kept_dropped : (all es rest : List ℕ)
    → length (kept (judged all es rest)) + length (dropped (judged all es rest)) ≡ length rest
unfolding judged kept dropped
kept_dropped all es [] = refl
kept_dropped all es (x ∷ xs) = go (known (eqb (drop_reason all es x) 0)) (kept_dropped all (x ∷ es) xs)
  where
    go : Stay all es x
        → length (after all es x xs) + length (dropped (judged all (x ∷ es) xs)) ≡ length xs
        → length (kept (judged all es (x ∷ xs))) + length (dropped (judged all es (x ∷ xs))) ≡ suc (length xs)
    go (inl e) ih = rw e (omega (arith, ih))
    go (inr e) ih = rw e (omega (arith, ih))

-- ---- the sound list

module _ (ws : List ℕ) where
  pub sound_mem : (w : ℕ) → Mem w (sound ws) → Mem w ws × Stays ws [] w
  unfolding sound
  sound_mem w m = kept_mem ws [] ws w (ordered_mem w (kept (judged ws [] ws)) m)

  pub mem_sound : (w : ℕ) → Mem w ws → valid w ≡ true → some (holder w) ws ≡ false → Mem w (sound ws)
  unfolding sound
  mem_sound w m v h =
      mem_ordered w (kept (judged ws [] ws))
      (mem_kept ws [] ws w m (record { code = v; new = member_nil w; outer = h }))

  pub sound_good : Good 24 (sound ws)
  unfolding sound
  sound_good = record {
    codes = λ w m. (sound_mem w m).1.code;
    rises = ordered_rises (kept (judged ws [] ws)) (λ w m. (kept_mem ws [] ws w m).1.code) (once_kept ws [] ws);
    apart = λ w u m k. not_so (inside_of w u) (λ h.
        let p = sound_mem u k in
        clash (mem_some (holder w) u ws p.0 (true_and (valid u) (inside_of w u) p.1.code h))
        (sound_mem w m).1.outer);
    no_four = λ u v h l. absurd (omega arith);
  }

  -- each valid word is kept or lies inside one that is
  held_up : (n w : ℕ) → degree_of w < n → Mem w ws → valid w ≡ true → Holds (sound ws) w
  held_up zero w l m v = absurd (omega arith)
  held_up (suc n) w l m v = go (known (some (holder w) ws)) (held_up n)
    where
      go : (some (holder w) ws ≡ true) ⊎ (some (holder w) ws ≡ false)
          → ((u : ℕ) → degree_of u < n → Mem u ws → valid u ≡ true → Holds (sound ws) u) → Holds (sound ws) w
      go (inr e) ih = record { by = w; mem = mem_sound w m v e; is = inl refl }
      go (inl e) ih =
          let p = some_mem (holder w) ws e in
          let u = p.0 in
          let b = both_true (valid u) (inside_of w u) p.2 in
          let q = ih u (omega (arith, (inside_within w u v b.0 b.1).0)) p.1 b.0 in
          record {
            by = q.by;
            mem = q.mem;
            is = inr (⊎_elim (λ r. ap (inside_of w) r ∙ b.1) (λ r. inside_trans w u q.by b.1 r) q.is);
          }

  -- the sound list covers what the valid words do
  pub sound_there : (t w : ℕ) → Mem w ws → valid w ≡ true → (w ≡ t) ⊎ (inside_of t w ≡ true) → Holds (sound ws) t
  sound_there t w m v h =
      let p = held_up (suc (degree_of w)) w (omega arith) m v in
      let u = p.by in
      record {
        by = u;
        mem = p.mem;
        is = ⊎_elim
            (λ e. ⊎_elim (λ q. inl (q ∙ e)) (λ q. inr (ap (λ (x : ℕ). inside_of x u) (sym e) ∙ q)) p.is)
            (λ e. ⊎_elim (λ q. inr (ap (inside_of t) q ∙ e)) (λ q. inr (inside_trans t w u e q)) p.is) h;
      }
