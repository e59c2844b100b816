-- What a desk sees of its own triangle, by unwinding: its calls about it go by what it holds there, and no other call
-- changes that. Stated of any way to answer the calls. Assumes nothing.
use mathlib.Core.Path.{◌≡◌, ◌∙◌, refl, sym, ap}
use mathlib.Core.Bool.{Bool, true, false, not, ◌&&◌, cond, true≢false}
use mathlib.Core.List.{List, [], ◌∷◌, ◌++◌}
use Prim.Native.Nat.{ℕ, zero, suc}
use borrow.Author.Tests.{eqb-true, eq-eqb, ne_eqb}
use lib.Dec.{eqb}
use Rattle.frame.specs.Lists.{those}
use Rattle.frame.specs.Answers.{settled}
use Rattle.frame.proofs.Scanning.{those_within}
use Rattle.frame.proofs.Refusing.{none_after}
use Rattle.words.specs.Refusals.{IsCode}
use Rattle.words.specs.declared.TriangleCode.{TriangleCode}
use Rattle.tables.specs.Owners.{nobody, is_desk, owner_at, Shared, IsShared, Held, held_at, held_after}
use Rattle.tables.specs.Refusals.{table_order, desk_order, out_of_range, desk_rows, owner_rows, refuse_deed}
use Rattle.tables.specs.Answers.{table_answer}
use Rattle.tables.specs.Histories.{Call, asks, does, Answered, done, after, on_table}
use Rattle.tables.specs.Histories.{map_rows, refuse_deed_on_map, on_held, triangle_of}
use Rattle.tables.specs.Histories.{desk_of, is_about, calls_about, without, is_given_back, seen}
use Rattle.tables.specs.Promises.{Apart}
use Rattle.tables.specs.declared.Deed.{Deed}
use Rattle.tables.specs.declared.Deed.TheVariants.{Taking, Setting, Clearing, Giving}
use Rattle.tables.specs.Answers.{TableAnswer}
use Rattle.tables.proofs.Numbers.{desk_not_nobody}
use Rattle.tables.proofs.Deeds.{deed_passed}
use Rattle.tables.proofs.Alike.{after_append}
use Rattle.tables.proofs.SimpleMaps.{turned}
use Rattle.tables.proofs.Ownership.{owner_there}

-- ---- calls about a triangle

both_true : (a b : Bool) → a && b ≡ true → (a ≡ true) × (b ≡ true)
both_true true b e = (refl, e)
both_true false b e = absurd (true≢false (sym e))

pub about_is : (d : ℕ) (t : TriangleCode) (c : Call) → is_about d t c ≡ true
    → (desk_of c ≡ d) × (triangle_of c ≡ t)
about_is d t c e =
    let b = both_true (eqb (desk_of c) d) (eqb (triangle_of c).0 t.0) e in
    let q : (triangle_of c).0 ≡ t.0 = eqb-true (triangle_of c).0 t.0 b.1 in
    (eqb-true (desk_of c) d b.0, λ i. record { 0 = q i })

-- another desk's calls are not among them
pub same_calls : (d b : ℕ) (t : TriangleCode) (xs ys : List Call) → (d ≡ b → ⊥)
    → without b xs ≡ without b ys → calls_about d t xs ≡ calls_about d t ys
same_calls d b t xs ys q e = sym (within xs) ∙ ap (calls_about d t) e ∙ within ys
  where
    within : (cs : List Call) → calls_about d t (without b cs) ≡ calls_about d t cs
    within = those_within (is_about d t) (λ c. not (eqb (desk_of c) b))
        (λ c k. rw (ne_eqb (desk_of c) b (λ w. q (sym (about_is d t c k).0 ∙ w))) refl)

-- ---- its owner stays, but for an answered giving back

owner_stays : (f : ℕ) (e : Deed) (d by m : ℕ) (u : TriangleCode) (h : Held) → by ≡ d → h.owner ≡ d
    → (let x = settled {A = TableAnswer × Held} f (table_answer 0 0, held_after e by h) (λ k. (table_answer k 0, h)) in
    is_given_back (does e by m u) (done x.0) ≡ false → x.1.owner ≡ d)
owner_stays zero Taking d by m u h q o g = q
owner_stays zero (Setting x) d by m u h q o g = o
owner_stays zero Clearing d by m u h q o g = o
owner_stays zero Giving d by m u h q o g = absurd (true≢false g)
owner_stays (suc f) e d by m u h q o g = o

pub owner_kept : (n d : ℕ) (t : TriangleCode) (c : Call) (h : Held) → is_about d t c ≡ true → h.owner ≡ d
    → is_given_back c (on_held n c h).0 ≡ false → (on_held n c h).1.owner ≡ d
owner_kept n d t (asks by m u) h b o g = o
owner_kept n d t (does e by m u) h b o g =
    owner_stays (refuse_deed_on_map n e by m u h.owner) e d by m u h (about_is d t (does e by m u) b).0 o g

-- ---- any way to answer the calls, in which its own calls go by what is held, and the others leave it

module _ (d n : ℕ) (t : TriangleCode) {S : Type 0} (turn : Call → S → Answered × S) (Has : S → Held → Type 0)
    (own : (c : Call) (s : S) (h : Held) → is_about d t c ≡ true → Has s h
    → ((turn c s).0 ≡ (on_held n c h).0) × Has (turn c s).1 (on_held n c h).1)
    (other : (c : Call) (s : S) (h : Held) → is_about d t c ≡ false → Has s h → h.owner ≡ d
    → Has (turn c s).1 h)
  where
    -- it sees what it would see alone
    pub unwound : (cs : List Call) (s : S) (h : Held) → Has s h → h.owner ≡ d
        → seen turn d t cs s ≡ seen (on_held n) d t (calls_about d t cs) h
    unfolding seen those
    unwound [] s h has o = refl
    unwound (c ∷ cs) s h has o =
        go (is_about d t c) refl (is_given_back c (on_held n c h).0) refl (unwound cs (turn c s).1)
      where
        go : (b : Bool) → is_about d t c ≡ b → (g : Bool) → is_given_back c (on_held n c h).0 ≡ g
            → ((k : Held) → Has (turn c s).1 k → k.owner ≡ d
            → seen turn d t cs (turn c s).1 ≡ seen (on_held n) d t (calls_about d t cs) k)
            → seen turn d t (c ∷ cs) s ≡ seen (on_held n) d t (calls_about d t (c ∷ cs)) h
        go true b true g ih = rw (b, b, (own c s h b has).0, g) refl
        go true b false g ih =
            rw (b, b, (own c s h b has).0, g)
            (ap (λ (r : List Answered). (on_held n c h).0 ∷ r)
            (ih (on_held n c h).1 (own c s h b has).1 (owner_kept n d t c h b o g)))
        go false b g _ ih = rw b (ih h (other c s h b has o) o)

-- ---- a table

-- on a desk's triangle every call of another is refused
others_refused : (n : ℕ) (e : Deed) (by m : ℕ) (u : TriangleCode) (o : ℕ) → is_desk o ≡ true
    → (by ≡ o → ⊥) → refuse_deed_on_map n e by m u o ≡ 0 → ⊥
unfolding refuse_deed_on_map
others_refused n e by m u o b q z =
    let rows = desk_rows by ++ owner_rows e by o in
    let k : (not (eqb o nobody) && not (eqb o by)) ≡ false =
    ((none_after table_order desk_order (map_rows n (out_of_range e) m u) rows tt tt).0 z).1.1.0 in
    true≢false (rw (ne_eqb o nobody (desk_not_nobody o b), ne_eqb o by (λ w. q (sym w))) at k)

module _ (n d : ℕ) (t : TriangleCode) (c : IsCode n t) (k : is_desk d ≡ true) where
  abbrev pub Has : Shared → Held → Type 0
  Has s h = IsShared n s × (held_at t s ≡ h)

  pub own : (x : Call) (s : Shared) (h : Held) → is_about d t x ≡ true → Has s h
      → ((on_table x s).0 ≡ (on_held n x h).0) × Has (on_table x s).1 (on_held n x h).1
  own x s h b has =
      let q = (about_is d t x b).1 in
      let w = turned has.0 x h (λ _. ap (λ (u : TriangleCode). held_at u s) q ∙ has.1) in
      let p : t.0 ≡ (triangle_of x).0 = sym (ap (λ (u : TriangleCode). u.0) q) in
      (w.answer, (w.is, w.left t c ∙ rw (eq-eqb t.0 (triangle_of x).0 p) refl))

  -- another's call on the triangle leaves what is held
  refused_there : (x : Call) (h : Held) → h.owner ≡ d → (desk_of x ≡ d → ⊥) → (on_held n x h).1 ≡ h
  refused_there (asks by m u) h o q = refl
  refused_there (does e by m u) h o q =
      go (refuse_deed_on_map n e by m u h.owner) (others_refused n e by m u h.owner (rw o k) (λ w. q (w ∙ o)))
    where
      go : (f : ℕ) → (f ≡ 0 → ⊥)
          → (settled {A = TableAnswer × Held} f (table_answer 0 0, held_after e by h) (λ i. (table_answer i 0, h))).1
          ≡ h
      go zero w = absurd (w refl)
      go (suc f) w = refl

  pub other : (x : Call) (s : Shared) (h : Held) → is_about d t x ≡ false → Has s h → h.owner ≡ d
      → Has (on_table x s).1 h
  other x s h b has o =
      let w = turned has.0 x (held_at (triangle_of x) s) (λ _. refl) in
      (w.is, w.left t c ∙ go (eqb t.0 (triangle_of x).0) refl)
    where
      about : desk_of x ≡ d → (triangle_of x).0 ≡ t.0 → is_about d t x ≡ true
      about r q = rw (eq-eqb (desk_of x) d r, eq-eqb (triangle_of x).0 t.0 q)

      go : (g : Bool) → eqb t.0 (triangle_of x).0 ≡ g
          → cond g (on_held n x (held_at (triangle_of x) s)).1 (held_at t s) ≡ h
      go true g =
          let q : (triangle_of x).0 ≡ t.0 = sym (eqb-true t.0 (triangle_of x).0 g) in
          let w : held_at (triangle_of x) s ≡ h =
          ap (λ (u : TriangleCode). held_at u s) (λ i. record { 0 = q i }) ∙ has.1 in
          let by : desk_of x ≡ d → ⊥ = λ r. true≢false (sym (about r q) ∙ b) in
          refused_there x (held_at (triangle_of x) s) (ap (λ (y : Held). y.owner) w ∙ o) by ∙ w
      go false g = has.1

  seen_is : (cs : List Call) (s : Shared) → IsShared n s → owner_at t s.owners ≡ d
      → seen on_table d t cs s ≡ seen (on_held n) d t (calls_about d t cs) (held_at t s)
  seen_is cs s is o = unwound d n t on_table Has own other cs s (held_at t s) (is, refl) o

  pub sees : (s s' : Shared) (xs ys : List Call) → IsShared n s → IsShared n s' → owner_at t s.owners ≡ d
      → held_at t s ≡ held_at t s' → calls_about d t xs ≡ calls_about d t ys
      → seen on_table d t xs s ≡ seen on_table d t ys s'
  sees s s' xs ys is is' o q e =
      let o' : owner_at t s'.owners ≡ d = sym (ap (λ (h : Held). h.owner) q) ∙ o in
      seen_is xs s is o ∙ (λ i. seen (on_held n) d t (e i) (q i)) ∙ sym (seen_is ys s' is' o')

-- ---- after taking

pub taken : (d n : ℕ) (t : TriangleCode) (s : Shared) → refuse_deed Taking d n t s ≡ 0
    → owner_at t (on_table (does Taking d n t) s).1.owners ≡ d
taken d n t s z = rw z (owner_there Taking d n t s z)

pub apart : Apart
apart = record {
  after_taking = λ d b n t s before xs ys q z e.
      let s₁ = after on_table before s in
      let k = deed_passed Taking d n t s₁ z in
      let take = does Taking d n t in
      let w : after on_table (before ++ (take ∷ [])) s ≡ (on_table take s₁).1 =
      unfold after in after_append on_table before (take ∷ []) s in
      let is = (turned k.is take (held_at t s₁) (λ _. refl)).is in
      rw w (sees n d t k.passed.code k.desk _ _ xs ys is is (taken d n t s₁ z) refl
      (same_calls d b t xs ys q e));
  sees = λ d n t s s' xs ys is is' c k o q e. sees n d t c k s s' xs ys is is' o q e;
}
