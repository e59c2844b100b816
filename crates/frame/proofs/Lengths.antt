-- A call that checks a lent list's length last: what is refused before, 9, and when nothing is; and lists that are
-- written in two parts. Assumes nothing.
use mathlib.Core.Path.{◌≡◌, ◌∙◌, refl, sym, ap}
use mathlib.Core.Logic.{◌↔◌, ⊎_elim}
use mathlib.Core.List.{List, [], ◌∷◌, ◌++◌, append-nil, append_assoc}
use Prim.Native.Nat.{ℕ, suc, ◌-◌, ◌≤◌, ◌<◌}
use native.Mathlib.Omega.{arith}
use borrow.Author.Tests.{ltb-false, lt-ltb, le-ltb}
use borrow.Rule.Slice.PartMut.{put_mid}
use lib.Dec.{T}
use lib.ListN.{length, take, drop, set, get_or, length-append, length-drop, drop_of_length-le}
use lib.Seq.{take_all, take_at, drop_at, drop-drop, drop-cons, set_at}
use Rattle.frame.specs.Refusals.{Row, first_of, list_rows}
use Rattle.frame.specs.Answers.{over}
use Rattle.frame.proofs.Refusing.{numbers, in_order, here, refuse_before, refuse_after, none_after}
use Rattle.frame.proofs.Answering.{answers_or_not}

-- g is the refusal of a call that refuses f first, and then asks for n places where there are `long`.
pub record ThenNine (f g n long : ℕ) : Type 0 where
  pub first : {k : ℕ} → k ≡ f → (k ≡ 0 → ⊥) → k ≡ g
  pub nine : f ≡ 0 → long < n → 9 ≡ g
  pub passes : (g ≡ 0) ↔ ((f ≡ 0) × (n ≤ long))

-- rs are the rows before the length's; both tests are `tt` at closed numbers
pub then_nine : {A : Type 0} (os os' : List ℕ) (rs : List Row) (n : ℕ) (list : List A)
    → T (in_order os (numbers rs)) → T (in_order os' (numbers (rs ++ list_rows n list)))
    → ThenNine (first_of os rs) (first_of os' (rs ++ list_rows n list)) n (length list)
then_nine os os' rs n list t u = record {
  first = refuse_before os os' rs (list_rows n list) t u;
  nine = λ z l. refuse_after os os' rs (list_rows n list) t u z (here (lt-ltb (length list) n l));
  passes = (
    λ e. let p = (none_after os os' rs (list_rows n list) t u).0 e in (p.0, ltb-false (length list) n p.1.0),
    λ p. (none_after os os' rs (list_rows n list) t u).1 (p.0, (le-ltb (length list) n p.1, tt)),
  );
}

-- where the list is long enough
pub never_nine : {f g n long : ℕ} → ThenNine f g n long → n ≤ long → g ≡ f
never_nine {f} t l =
    ⊎_elim (λ z. t.passes.1 (z, l) ∙ sym z) (λ some. sym (t.first refl some)) (answers_or_not f)

-- c over the front, and d over the front of what follows it, handed on as a part: both, one after the other
pub two_parts : {A : Type 0} (out mid late c d : List A) (h : ℕ) → length c ≡ h → mid ≡ over c out
    → late ≡ over d (take (length mid - h) (drop h mid))
    → put_mid h (length mid - h) mid late ≡ over (c ++ d) out
two_parts {A} out mid late c d h e m p =
    let D = drop (length c) out in
    let K = length (c ++ D) - h in
    let w : length D ≤ K = omega (arith, length-append c D, e) in
    let dd : drop h (c ++ D) ≡ D = drop_at c D h e in
    let q : late ≡ over d D =
    p ∙ ap (λ (x : List A). over d (take (length x - h) (drop h x))) m
    ∙ ap (λ (x : List A). over d (take K x)) dd ∙ ap (over d) (take_all K D w) in
    ap (λ (x : List A). put_mid h (length x - h) x late) m
    ∙ (λ i. take_at c D h e i ++ (q i ++ drop K (dd i)))
    ∙ ap (λ (x : List A). c ++ (over d D ++ x)) (drop_of_length-le D w)
    ∙ ap (λ (x : List A). c ++ x) (append-nil (over d D))
    ∙ sym (append_assoc c d (drop (length d) D))
    ∙ ap (λ (x : List A). (c ++ d) ++ x) (drop-drop (length d) (length c) out)
    ∙ ap (λ (x : ℕ). (c ++ d) ++ drop x out) (sym (length-append c d))

-- one place more
pub over_next : {A : Type 0} (c out : List A) (x : A) (h : ℕ) → length c ≡ h → h < length out
    → set (over c out) h x ≡ over (c ++ (x ∷ [])) out
over_next {A} c out x h e l =
    let k = length c in
    let d = drop-cons out k x (omega (arith, e, l)) in
    let more : suc k ≡ length (c ++ (x ∷ [])) = omega (arith, length-append c (x ∷ [])) in
    ap (λ (r : List A). set (c ++ r) h x) d
    ∙ set_at c (get_or out k x) (drop (suc k) out) x h e
    ∙ sym (append_assoc c (x ∷ []) (drop (suc k) out))
    ∙ ap (λ (j : ℕ). (c ++ (x ∷ [])) ++ drop j out) more

-- as long as it was
pub over_long : {A : Type 0} (c out : List A) → length c ≤ length out → length (over c out) ≡ length out
over_long c out l = omega (arith, l, length-append c (drop (length c) out), length-drop (length c) out)
