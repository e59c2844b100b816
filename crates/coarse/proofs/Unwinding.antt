-- What a desk sees of its own triangle, on any four lists: its calls about it go by what it holds there, no other call
-- changes that, and what is stored for the triangle's parent stays right (tables' Unwinding). Assumes nothing.
use mathlib.Core.Path.{◌≡◌, ◌∙◌, refl, sym, ap, subst}
use mathlib.Core.Bool.{Bool, true, false}
use mathlib.Core.Logic.{⊎_elim}
use mathlib.Core.List.{List, [], ◌∷◌, ◌++◌}
use Prim.Native.Nat.{ℕ, zero, suc, ◌≤◌}
use native.Mathlib.Omega.{arith}
use borrow.Author.Tests.{eqb-true, eqb-false}
use lib.Dec.{eqb}
use lib.ListN.{length, set, length-set}
use lib.Seq.{get_or-set_same, get_or-set_other}
use Rattle.frame.specs.Answers.{settled}
use Rattle.frame.proofs.Answering.{answers_or_not}
use Rattle.words.specs.Refusals.{IsCode}
use Rattle.words.specs.Family.{parent_of}
use Rattle.words.specs.Counting.{code_at, place_of}
use Rattle.words.specs.declared.TriangleCode.{TriangleCode}
use Rattle.words.proofs.CodeCount.{place_below, at_place}
use Rattle.words.proofs.ChildPlaces.{up}
use Rattle.net.specs.Division.{sum}
use Rattle.tables.specs.Owners.{is_desk, owner_at, Shared, IsShared, Held, held_at, shared_after}
use Rattle.tables.specs.Histories.{Call, asks, does, after, on_held}
use Rattle.tables.specs.Histories.{is_about, calls_about, seen}
use Rattle.tables.specs.declared.Deed.{Deed}
use Rattle.tables.specs.declared.Deed.TheVariants.{Taking}
use Rattle.tables.proofs.Deeds.{Owned}
use Rattle.tables.proofs.Holding.{same_degree}
use Rattle.tables.proofs.Alike.{after_append}
use Rattle.tables.proofs.SimpleMaps.{turned}
use Rattle.tables.proofs.Unwinding as tables
use Rattle.coarse.specs.Sums.{present_in, parents, stored_for, Chart, kept, chart_after}
use Rattle.coarse.specs.Refusals.{refuse_kept}
use Rattle.coarse.specs.Answers.{kept_out, refused_kept}
use Rattle.coarse.specs.Histories.{on_chart}
use Rattle.coarse.specs.Promises.{Apart}
use Rattle.coarse.proofs.Refused.{Stored, kept_passed, kept_known}
use Rattle.coarse.proofs.Truths.{as_deed, same_children, same_turn}

-- ---- what is stored for t's parent, when a call about u is answered

length_kept : (n : ℕ) (t : TriangleCode) (f : TriangleCode → ℕ) (list : List ℕ)
    → length (kept n t f list) ≡ length list
length_kept zero t f list = refl
length_kept (suc n) t f list = length-set list (place_of (parent_of t)) (f (parent_of t))

stays : (g : List ℕ → ℕ) (n : ℕ) (t u : TriangleCode) (e : Deed) (d : ℕ) (s : Shared) (list : List ℕ)
    → IsCode n t → IsCode n u → n ≤ 6 → length list ≡ parents n
    → ((n ≡ 0 → ⊥) → stored_for (parent_of t) list ≡ g (present_in (parent_of t) s.readings))
    → (n ≡ 0 → ⊥)
    → (let new = (shared_after e d u s).readings in
    stored_for (parent_of t) (kept n u (λ p. g (present_in p new)) list) ≡ g (present_in (parent_of t) new))
stays g zero t u e d s list ct cu l long right some = absurd (some refl)
stays g (suc n) t u e d s list ct cu l long right some =
    go (eqb (place_of (parent_of t)) (place_of (parent_of u))) refl
  where
    p : IsCode n (parent_of t)
    p = (up ct (omega arith)).code

    q : IsCode n (parent_of u)
    q = (up cu (omega arith)).code

    go : (b : Bool) → eqb (place_of (parent_of t)) (place_of (parent_of u)) ≡ b
        → (let new = (shared_after e d u s).readings in
        stored_for (parent_of t) (kept (suc n) u (λ p. g (present_in p new)) list) ≡ g (present_in (parent_of t) new))
    go true b =
        let w = eqb-true (place_of (parent_of t)) (place_of (parent_of u)) b in
        let same : parent_of u ≡ parent_of t = sym (at_place q) ∙ ap (code_at n) (sym w) ∙ at_place p in
        let new = (shared_after e d u s).readings in
        let v = g (present_in (parent_of u) new) in
        ap (λ (x : TriangleCode). stored_for x (set list (place_of (parent_of u)) v)) (sym same)
        ∙ get_or-set_same list (place_of (parent_of u)) v 0 (rw long (place_below q))
        ∙ ap (λ (x : TriangleCode). g (present_in x new)) same
    go false b =
        let w = eqb-false (place_of (parent_of t)) (place_of (parent_of u)) b in
        get_or-set_other list (place_of (parent_of u)) (place_of (parent_of t)) _ 0 w
        ∙ right some ∙ ap g (sym (same_children e d s p cu (omega arith) w))

-- any call leaves it right
right_after : {n : ℕ} {t : TriangleCode} (x : Call) (c : Chart) → IsShared n c.shared → IsCode n t
    → Stored n t c.shared.readings c.coarse
    → (let new = (on_chart x c).1 in Stored n t new.shared.readings new.coarse)
right_after (asks d m u) c is ct k = k
right_after {n} {t} (does e d m u) c is ct k = go (refuse_kept e d m u c) (λ z. (kept_known e d m u c z).owned)
  where
    go : (f : ℕ) → (f ≡ 0 → Owned e d m u c.shared)
        → (let new = (settled f (kept_out e d m u c) (refused_kept c)).1 in
        Stored n t new.shared.readings new.coarse)
    go zero h =
        let o = h refl in
        let q : m ≡ n = same_degree o.is is in
        let cu : IsCode n u = rw q at o.passed.code in
        let l = is.table.degree in
        subst
        (λ (j : ℕ). (let new = chart_after e d j u c in Stored n t new.shared.readings new.coarse)) (sym q)
        (record {
          counts_long = length_kept n u _ c.coarse.counts ∙ k.counts_long;
          sums_long = length_kept n u _ c.coarse.sums ∙ k.sums_long;
          count = stays length n t u e d c.shared c.coarse.counts ct cu l k.counts_long k.count;
          total = stays sum n t u e d c.shared c.coarse.sums ct cu l k.sums_long k.total;
        })
    go (suc f) h = k

-- a refused call leaves all as it was
unchanged : (e : Deed) (d m : ℕ) (t : TriangleCode) (c : Chart) → (refuse_kept e d m t c ≡ 0 → ⊥)
    → (on_chart (does e d m t) c).1 ≡ c
unchanged e d m t c = go (refuse_kept e d m t c)
  where
    go : (f : ℕ) → (f ≡ 0 → ⊥) → (settled f (kept_out e d m t c) (refused_kept c)).1 ≡ c
    go zero some = absurd (some refl)
    go (suc f) some = refl

-- ---- d has t, and what is stored for its parent is right

module _ (n d : ℕ) (t : TriangleCode) (ct : IsCode n t) (k : is_desk d ≡ true) where
  record Has (c : Chart) (h : Held) : Type 0 where
    held : tables.Has n d t ct k c.shared h
    right : Stored n t c.shared.readings c.coarse

  own : (x : Call) (c : Chart) (h : Held) → is_about d t x ≡ true → Has c h
      → ((on_chart x c).0 ≡ (on_held n x h).0) × Has (on_chart x c).1 (on_held n x h).1
  own (asks by m u) c h b has =
      let w = tables.own n d t ct k (asks by m u) c.shared h b has.held in
      (w.0, record { held = w.1; right = has.right })
  own (does e by m u) c h b has =
      let x = does e by m u in
      let q : u ≡ t = (tables.about_is d t x b).1 in
      let z = as_deed has.held.0 e by m u
      (λ _. subst (λ (v : TriangleCode). Stored n v c.shared.readings c.coarse) (sym q) has.right) in
      let same = same_turn e by m u c z in
      let w = tables.own n d t ct k x c.shared h b has.held in (
        same.0 ∙ w.0,
        record {
          held = rw same.1 w.1;
          right = right_after x c has.held.0 ct has.right;
        },
      )

  -- another call leaves what d has
  held_after : (x : Call) (c : Chart) (h : Held) → is_about d t x ≡ false → tables.Has n d t ct k c.shared h
      → h.owner ≡ d → tables.Has n d t ct k (on_chart x c).1.shared h
  held_after (asks by m u) c h b has o = has
  held_after (does e by m u) c h b has o =
      ⊎_elim
      (λ z. rw (same_turn e by m u c (z ∙ sym ((kept_passed e by m u c).0 z).0)).1
      (tables.other n d t ct k (does e by m u) c.shared h b has o))
      (λ some. rw (unchanged e by m u c some) has) (answers_or_not (refuse_kept e by m u c))

  other : (x : Call) (c : Chart) (h : Held) → is_about d t x ≡ false → Has c h → h.owner ≡ d
      → Has (on_chart x c).1 h
  other x c h b has o = record {
    held = held_after x c h b has.held o;
    right = right_after x c has.held.0 ct has.right;
  }

  pub seen_is : (cs : List Call) (c : Chart) → IsShared n c.shared → owner_at t c.shared.owners ≡ d
      → Stored n t c.shared.readings c.coarse
      → seen on_chart d t cs c ≡ seen (on_held n) d t (calls_about d t cs) (held_at t c.shared)
  seen_is cs c is o right =
      tables.unwound d n t on_chart Has own other cs c (held_at t c.shared)
      (record { held = (is, refl); right = right }) o

-- ---- after taking

pub apart : Apart
apart = record {
  after_taking = λ d b n t c before xs ys q z e.
      let c₁ = after on_chart before c in
      let take = does Taking d n t in
      let w : after on_chart (before ++ (take ∷ [])) c ≡ (on_chart take c₁).1 =
      unfold after in after_append on_chart before (take ∷ []) c in
      let k = kept_known Taking d n t c₁ z in
      let code = k.owned.passed.code in
      let deed = ((kept_passed Taking d n t c₁).0 z).0 in
      let same = (same_turn Taking d n t c₁ (z ∙ sym deed)).1 in
      let is : IsShared n (on_chart take c₁).1.shared =
      rw same (turned k.owned.is take (held_at t c₁.shared) (λ _. refl)).is in
      let owner : owner_at t (on_chart take c₁).1.shared.owners ≡ d =
      rw same (tables.taken d n t c₁.shared deed) in
      let right = right_after take c₁ k.owned.is code k.lists in
      let sees : (cs : List Call) → seen on_chart d t cs (on_chart take c₁).1
      ≡ seen (on_held n) d t (calls_about d t cs) (held_at t (on_chart take c₁).1.shared) =
      λ cs. seen_is n d t code k.owned.desk cs (on_chart take c₁).1 is owner right in
      rw w (sees xs
      ∙ ap (λ (cs : List Call). seen (on_held n) d t cs (held_at t (on_chart take c₁).1.shared))
      (tables.same_calls d b t xs ys q e)
      ∙ sym (sees ys));
}
