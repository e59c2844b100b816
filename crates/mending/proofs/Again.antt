-- Mending a mended list changes nothing; and neither count is above the input's length. Assumes nothing.
use mathlib.Core.Path.{◌≡◌, ◌∙◌, refl, sym, ap}
use mathlib.Core.Bool.{Bool, true, false, not}
use mathlib.Core.Logic.{◌⊎◌, inl, inr, ⊎_elim}
use mathlib.Core.List.{List, [], ◌∷◌, ◌++◌, map, append-nil}
use Prim.Native.Nat.{ℕ, zero, suc, ◌+◌, ◌≤◌, ◌<◌}
use native.Mathlib.Omega.{arith}
use lib.Dec.{eqb, lit<}
use lib.ListN.{length, get_or, length-append, length-map}
use borrow.Author.Tests.{eq-eqb}
use Rattle.frame.specs.Lists.{some, those}
use Rattle.words.specs.Words.{degree_of, digit_of}
use Rattle.cells.specs.Order.{valid, less_than, inside_of}
use Rattle.cells.proofs.Dictionary.{known, clash}
use Rattle.cells.proofs.Spelling.{less_one_way}
use Rattle.mending.specs.Mending.{member, drop_reason, change, judged, kept, dropped, insert, ordered, sound}
use Rattle.mending.specs.Mending.{whole_in, merges_at, replaced, merged_below, merges_below, mended, changes}
use Rattle.mending.proofs.Pigeons.{pigeons}
use Rattle.mending.proofs.WordNodes.{up}
use Rattle.mending.proofs.Members.{not_so, both_true, Mem, mem_cast, mem_at, at_mem, some_mem, mem_some}
use Rattle.mending.proofs.Members.{member_mem, those_mem, append_mem, map_mem, Above, Rises, Once, Valid}
use Rattle.mending.proofs.Members.{those_rises, rises_once, append_once}
use Rattle.mending.proofs.Children.{kid, kid_digit, up_kid}
use Rattle.mending.proofs.Merging.{Good, merge_mem, merge_low, merge_kid}
use Rattle.mending.proofs.Dropping.{holder, stays, kept_dropped, sound_good}
use Rattle.mending.proofs.Mended.{merges_once, next_good, mended_all}

-- ---- nothing to drop

-- Nothing of the rest is dropped.
record Keeps (all es rest : List ℕ) : Type 0 where
  pub codes : Valid rest
  pub outer : (w : ℕ) → Mem w rest → some (holder w) all ≡ false
  pub once : Once rest
  pub new : (w : ℕ) → Mem w rest → Mem w es → ⊥

stay : (all es : List ℕ) (x : ℕ) (xs : List ℕ) → Keeps all es (x ∷ xs) → drop_reason all es x ≡ 0
stay all es x xs k =
    (stays all es x).1 record {
      code = k.codes x (inl refl);
      new = not_so (member x es) (λ m. k.new x (inl refl) (member_mem x es m));
      outer = k.outer x (inl refl);
    }

on : (all es : List ℕ) (x : ℕ) (xs : List ℕ) → Keeps all es (x ∷ xs) → Keeps all (x ∷ es) xs
on all es x xs k = record {
  codes = λ w m. k.codes w (inr m);
  outer = λ w m. k.outer w (inr m);
  once = k.once.1;
  new = λ w m e. ⊎_elim (λ q. k.once.0 (mem_cast w x xs q m)) (λ q. k.new w (inr m) q) e;
}

all_kept : (all es rest : List ℕ) → Keeps all es rest
    → (kept (judged all es rest) ≡ rest) × (dropped (judged all es rest) ≡ [])
unfolding judged kept dropped
all_kept all es [] k = (refl, refl)
all_kept all es (x ∷ xs) k =
    let z : eqb (drop_reason all es x) 0 ≡ true = eq-eqb (drop_reason all es x) 0 (stay all es x xs k) in
    let ih = all_kept all (x ∷ es) xs (on all es x xs k) in
    (rw z (ap (λ (l : List ℕ). x ∷ l) ih.0), rw z ih.1)

good_keeps : (ws : List ℕ) → Good 0 ws → Keeps ws [] ws
good_keeps ws g = record {
  codes = g.codes;
  outer = λ w m. not_so (some (holder w) ws) (λ h.
      let p = some_mem (holder w) ws h in
      clash (both_true (valid p.0) (inside_of w p.0) p.2).1 (g.apart w p.0 m p.1));
  once = rises_once ws g.rises;
  new = λ w m e. e;
}

-- ---- nothing to order

above_insert : (w : ℕ) (ws : List ℕ) → Above w ws → insert w ws ≡ w ∷ ws
unfolding insert
above_insert w [] a = refl
above_insert w (u ∷ us) a = rw (less_one_way u w (a u (inl refl)))

pub rises_ordered : (ws : List ℕ) → Rises ws → ordered ws ≡ ws
unfolding ordered
rises_ordered [] r = refl
rises_ordered (w ∷ ws) r = ap (insert w) (rises_ordered ws r.1) ∙ above_insert w ws r.0

-- ---- nothing to merge

no_merges : (d : ℕ) (ws : List ℕ) → d < 24 → Good 0 ws → merges_at d ws ≡ []
no_merges d ws l g = go (merges_at d ws) (merge_mem d l ws weaker)
  where
    weaker : Good (suc d) ws
    weaker = record {
      codes = g.codes;
      rises = g.rises;
      apart = g.apart;
      no_four = λ u v h l. g.no_four u v (omega arith) l;
    }

    go : (ms : List ℕ) → ((u : ℕ) → Mem u ms → (valid u ≡ true) × (degree_of u ≡ d) × (whole_in ws u ≡ true))
        → ms ≡ []
    go [] f = refl
    go (u ∷ us) f =
        let p = f u (inl refl) in
        absurd (clash p.2 (g.no_four u p.0 (omega arith) (omega (arith, p.1))))

those_all : (ws : List ℕ) → those (λ w. true) ws ≡ ws
unfolding those
those_all [] = refl
those_all (w ∷ ws) = ap (λ (l : List ℕ). w ∷ l) (those_all ws)

none_replaced : (ws : List ℕ) → Rises ws → replaced [] ws ≡ ws
unfolding replaced some
none_replaced ws r = ap ordered (append-nil (those (λ w. true) ws) ∙ those_all ws) ∙ rises_ordered ws r

none_below : (d : ℕ) (ws : List ℕ) → d ≤ 24 → Good 0 ws → (merged_below d ws ≡ ws) × (merges_below d ws ≡ [])
unfolding merged_below merges_below
none_below zero ws h g = (refl, refl)
none_below (suc d) ws h g =
    let e : merges_at d ws ≡ [] = no_merges d ws h g in
    let q : replaced (merges_at d ws) ws ≡ ws =
    ap (λ (l : List ℕ). replaced l ws) e ∙ none_replaced ws g.rises in
    let ih = none_below d ws (omega arith) g in
    (ap (merged_below d) q ∙ ih.0, (λ i. e i ++ merges_below d (q i)) ∙ ih.1)

good_sound : (ws : List ℕ) → Good 0 ws → sound ws ≡ ws
unfolding sound
good_sound ws g = ap ordered (all_kept ws [] ws (good_keeps ws g)).0 ∙ rises_ordered ws g.rises

good_again : (ws : List ℕ) → Good 0 ws → (mended ws ≡ ws) × (changes ws ≡ [])
unfolding mended changes
good_again ws g =
    let s = good_sound ws g in
    let k = (all_kept ws [] ws (good_keeps ws g)).1 in
    let n = none_below 24 ws (omega arith) g in (
      ap (merged_below 24) s ∙ n.0,
      λ i. k i ++ map (λ u. change u 5) ((ap (merges_below 24) s ∙ n.1) i),
    )

-- "mending it again changes nothing"
pub again : (ws : List ℕ) → (mended (mended ws) ≡ mended ws) × (changes (mended ws) ≡ [])
again ws = good_again (mended ws) (mended_all ws).good

-- ---- how many

-- in a list in which nothing stands twice
once_place : (xs : List ℕ) → Once xs → (i j : ℕ) → i < length xs → j < length xs → get_or xs i 0 ≡ get_or xs j 0
    → i ≡ j
once_place [] o i j l k e = absurd (omega arith)
once_place (x ∷ xs) o zero zero l k e = refl
once_place (x ∷ xs) o zero (suc j) l k e =
    absurd (o.0 (mem_cast (get_or xs j 0) x xs (sym e) (at_mem xs j (omega arith))))
once_place (x ∷ xs) o (suc i) zero l k e =
    absurd (o.0 (mem_cast (get_or xs i 0) x xs e (at_mem xs i (omega arith))))
once_place (x ∷ xs) o (suc i) (suc j) l k e = ap suc (once_place xs o.1 i j (omega arith) (omega arith) e)

-- and all of it in another, it is no longer
pub no_longer : (xs ws : List ℕ) → Once xs → ((w : ℕ) → Mem w xs → Mem w ws) → length xs ≤ length ws
no_longer xs ws o f =
    pigeons (length ws) (length xs) (λ i j. get_or ws j 0 ≡ get_or xs i 0)
    (λ i l. mem_at (get_or xs i 0) ws (f (get_or xs i 0) (at_mem xs i l)))
    (λ i i' j l l' a b. once_place xs o i i' l l' (sym a ∙ b))

once_map : (f : ℕ → ℕ) (ms : List ℕ) → ((u v : ℕ) → Mem u ms → Mem v ms → f u ≡ f v → u ≡ v) → Once ms
    → Once (map f ms)
once_map f [] h o = tt
once_map f (u ∷ us) h o = (
  λ m.
      let p = map_mem f (f u) us m in
      o.0 (mem_cast p.0 u us (sym (h u p.0 (inl refl) (inr p.1) p.2)) p.1),
  once_map f us (λ a b m k e. h a b (inr m) (inr k) e) o.1,
)

insert_length : (w : ℕ) (us : List ℕ) → length (insert w us) ≡ suc (length us)
unfolding insert
insert_length w [] = refl
insert_length w (u ∷ us) = go (known (less_than u w)) (insert_length w us)
  where
    go : (less_than u w ≡ true) ⊎ (less_than u w ≡ false) → length (insert w us) ≡ suc (length us)
        → length (insert w (u ∷ us)) ≡ suc (suc (length us))
    go (inl e) ih = rw e (ap suc ih)
    go (inr e) ih = rw e refl

pub ordered_length : (ws : List ℕ) → length (ordered ws) ≡ length ws
unfolding ordered
ordered_length [] = refl
ordered_length (w ∷ ws) = insert_length w (ordered ws) ∙ ap suc (ordered_length ws)

-- what is left and two children of each merge were in the list
module _ (d : ℕ) (d< : d < 24) (ws : List ℕ) (g : Good (suc d) ws) where
  abbrev ms : List ℕ
  ms = merges_at d ws

  abbrev left : ℕ → Bool
  left w = not (some (inside_of w) ms)

  abbrev kids : ℕ → List ℕ
  kids k = map (λ u. kid u k) ms

  kids_once : (k : ℕ) → k < 4 → Once (kids k)
  kids_once k h = once_map (λ u. kid u k) ms one (merges_once d d< ws g)
    where
      back : (u : ℕ) → Mem u ms → up (kid u k) ≡ u
      back u m = up_kid u k (merge_mem d d< ws g u m).0 (merge_low d d< ws g u m) h

      one : (u v : ℕ) → Mem u ms → Mem v ms → kid u k ≡ kid v k → u ≡ v
      one u v m n e = sym (back u m) ∙ ap (λ (w : ℕ). up w) e ∙ back v n

  kids_digit : (k : ℕ) → k < 4 → (w : ℕ) → Mem w (kids k) → digit_of w (suc d) ≡ k
  kids_digit k h w m =
      let p = map_mem (λ u. kid u k) w ms m in
      let x = merge_mem d d< ws g p.0 p.1 in
      (λ i. digit_of (p.2 i) (suc (sym x.1 i)))
      ∙ kid_digit p.0 k x.0 (merge_low d d< ws g p.0 p.1) h

  -- a first child is no second child
  kids_apart : (w : ℕ) → Mem w (kids 0) → Mem w (kids 1) → ⊥
  kids_apart w a b = omega (arith, kids_digit 0 (lit< tt) w a, kids_digit 1 (lit< tt) w b)

  left_apart : (k : ℕ) → k < 4 → (w : ℕ) → Mem w (those left ws) → Mem w (kids k) → ⊥
  left_apart k h w a b =
      let p = map_mem (λ u. kid u k) w ms b in
      let u = p.0 in
      let i : inside_of w u ≡ true = ap (λ (j : ℕ). inside_of j u) p.2 ∙ (merge_kid d d< ws g u k p.1 h).1 in
      clash (those_mem left w ws a).1 (ap not (mem_some (inside_of w) u ms p.1 i))

  parts_once : Once (those left ws ++ (kids 0 ++ kids 1))
  parts_once =
      append_once (those left ws) (kids 0 ++ kids 1) (rises_once (those left ws) (those_rises left ws g.rises))
      (append_once (kids 0) (kids 1) (kids_once 0 (lit< tt)) (kids_once 1 (lit< tt)) kids_apart)
      (λ w a b. ⊎_elim (left_apart 0 (lit< tt) w a) (left_apart 1 (lit< tt) w a) (append_mem w (kids 0) (kids 1) b))

  parts_in : (w : ℕ) → Mem w (those left ws ++ (kids 0 ++ kids 1)) → Mem w ws
  parts_in w m =
      ⊎_elim (λ a. (those_mem left w ws a).0)
      (λ a. ⊎_elim (λ b. from 0 (lit< tt) b) (λ b. from 1 (lit< tt) b) (append_mem w (kids 0) (kids 1) a))
      (append_mem w (those left ws) (kids 0 ++ kids 1) m)
    where
      from : (k : ℕ) → k < 4 → Mem w (kids k) → Mem w ws
      from k h b =
          let p = map_mem (λ u. kid u k) w ms b in
          mem_cast (kid p.0 k) w ws (sym p.2) (merge_kid d d< ws g p.0 k p.1 h).0

  step_count : length (replaced ms ws) + length ms ≤ length ws
  unfolding replaced
  step_count =
      let ls = those left ws in
      let c = no_longer (ls ++ (kids 0 ++ kids 1)) ws parts_once parts_in in
      let a : length (ls ++ (kids 0 ++ kids 1)) ≡ length ls + (length ms + length ms) =
      length-append ls (kids 0 ++ kids 1) ∙ ap (λ (j : ℕ). length ls + j) (length-append (kids 0) (kids 1)
      ∙ (λ i. length-map ms (λ u. kid u 0) i + length-map ms (λ u. kid u 1) i)) in
      let b : length (ordered (ls ++ ms)) ≡ length ls + length ms =
      ordered_length (ls ++ ms) ∙ length-append ls ms in
      omega arith

merge_count : (d : ℕ) (ws : List ℕ) → d ≤ 24 → Good d ws
    → length (merged_below d ws) + length (merges_below d ws) ≤ length ws
unfolding merged_below merges_below
merge_count zero ws h g = omega arith
merge_count (suc d) ws h g =
    let new = replaced (merges_at d ws) ws in
    let ih = merge_count d new (omega arith) (next_good d h ws g) in
    omega (arith, ih, step_count d h ws g, length-append (merges_at d ws) (merges_below d new))

-- lists as long as the input are long enough
pub fits : (ws : List ℕ) → (length (mended ws) ≤ length ws) × (length (changes ws) ≤ length ws)
unfolding mended changes sound
fits ws =
    let js = judged ws [] ws in
    let c = kept_dropped ws [] ws in
    let m = merge_count 24 (sound ws) (omega arith) (sound_good ws) in
    let o = ordered_length (kept js) in
    let x = length-append (dropped js) (map (λ u. change u 5) (merges_below 24 (sound ws))) in
    let y = length-map (merges_below 24 (sound ws)) (λ u. change u 5) in
    (omega arith, omega arith)
