-- The list of holders from its parts: below a triangle that does not hold there is none, below one that holds there are
-- those of its children; and what is put into a lent list part by part stands there one after the other. Assumes
-- nothing.
use mathlib.Core.Path.{◌≡◌, refl, sym, ap, ◌∙◌}
use mathlib.Core.Bool.{Bool, true, false}
use mathlib.Core.List.{List, [], ◌∷◌, ◌++◌}
use Prim.Native.Nat.{ℕ, zero, suc, ◌+◌, ◌*◌, ◌-◌, ◌≤◌, ◌<◌}
use native.Mathlib.Omega.{arith}
use lib.ListN.{length, set, drop, length-append, length-drop, take-append-drop}
use Rattle.frame.specs.Answers.{over}
use Rattle.net.specs.Division.{each}
use Rattle.filing.specs.Means.Descent.{child_dets, holds, holders}
use Rattle.filing.specs.Means.Lists.{joined, put, Room, Puts}
use Rattle.filing.specs.declared.Determinants.{Determinants}
use Rattle.filing.proofs.Children.{parent_holds}
use Rattle.filing.proofs.Tests.{test_holds, holds_test}

-- ---- the list

-- below a triangle that does not hold none holds
prune : (k : ℕ) (D : Determinants) → holds D ≡ false → holds (child_dets k D) ≡ false
prune k D e = go (holds (child_dets k D)) refl
  where
    go : (b : Bool) → holds (child_dets k D) ≡ b → b ≡ false
    go true h = sym (holds_test D (parent_holds D k (test_holds (child_dets k D) h))) ∙ e
    go false h = refl

pub no_holders : (n : ℕ) (D : Determinants) (v : ℕ) → holds D ≡ false → holders n D v ≡ []
unfolding holders
no_holders zero D v e = rw e refl
no_holders (suc n) D v e =
    let none : (k u : ℕ) → holders n (child_dets k D) u ≡ [] =
    λ k u. no_holders n (child_dets k D) u (prune k D e) in
    rw (none 0 (4 * v), none 1 (4 * v + 1), none 2 (4 * v + 2), none 3 (4 * v + 3)) refl

pub one_holder : (D : Determinants) (v : ℕ) → holds D ≡ true → holders 0 D v ≡ v ∷ []
unfolding holders
one_holder D v e = rw e refl

pub joined_more : (m k : ℕ) (f : ℕ → List ℕ) → k < m → joined (m - k) k f
    ≡ f k ++ joined (m - suc k) (suc k) f
unfolding joined
joined_more m k f h = let e : m - k ≡ suc (m - suc k) = omega arith in rw e refl

pub joined_none : (m k : ℕ) (f : ℕ → List ℕ) → m ≤ k → joined (m - k) k f ≡ []
unfolding joined
joined_none m k f h = let e : m - k ≡ 0 = omega arith in rw e refl

-- ---- as words

pub each_append : (f : ℕ → ℕ) (xs ys : List ℕ) → each f (xs ++ ys) ≡ each f xs ++ each f ys
each_append f [] ys = refl
each_append f (x ∷ xs) ys = ap (λ (l : List ℕ). f x ∷ l) (each_append f xs ys)

-- ---- in the lent list

put_none : (c : ℕ) (out : List ℕ) → put c [] out ≡ out
put_none c out = take-append-drop c out

put_one : (c w : ℕ) (out : List ℕ) → c < length out → set out c w ≡ put c (w ∷ []) out
put_one c w [] h = absurd (omega arith)
put_one zero w (x ∷ xs) h = refl
put_one (suc c) w (x ∷ xs) h = ap (λ (l : List ℕ). x ∷ l) (put_one c w xs (omega arith))

over_more : (xs ys out : List ℕ) → length xs ≤ length out
    → put (length xs) ys (over xs out) ≡ over (xs ++ ys) out
over_more [] ys out h = refl
over_more (x ∷ xs) ys [] h = absurd (omega arith)
over_more (x ∷ xs) ys (o ∷ out) h = ap (λ (l : List ℕ). x ∷ l) (over_more xs ys out (omega arith))

put_more : (c : ℕ) (xs ys out : List ℕ) → c + length xs ≤ length out
    → put (c + length xs) ys (put c xs out) ≡ put c (xs ++ ys) out
put_more zero xs ys out h = let e : 0 + length xs ≡ length xs = omega arith in
    rw e (over_more xs ys out (omega arith))
put_more (suc c) xs ys [] h = absurd (omega arith)
put_more (suc c) xs ys (o ∷ out) h =
    let e : suc c + length xs ≡ suc (c + length xs) = omega arith in
    rw e (ap (λ (l : List ℕ). o ∷ l) (put_more c xs ys out (omega arith)))

put_length : (c : ℕ) (xs out : List ℕ) → c + length xs ≤ length out → length (put c xs out) ≡ length out
put_length zero xs out h = length-append xs (drop (length xs) out)
    ∙ ap (λ (k : ℕ). length xs + k) (length-drop (length xs) out) ∙ omega arith
put_length (suc c) xs [] h = absurd (omega arith)
put_length (suc c) xs (o ∷ out) h = ap suc (put_length c xs out (omega arith))

-- ---- the contracts' steps

pub puts_none : (c : ℕ) (xs out : List ℕ) → xs ≡ [] → Puts c xs out c out
puts_none c xs out e = rw e (record { count = omega arith; list = sym (put_none c out) })

pub puts_one : (c x : ℕ) (xs out : List ℕ) → xs ≡ x ∷ [] → Room c xs out
    → (c < length out) × Puts c xs out (c + 1) (set out c x)
puts_one c x xs out e h =
    let l : length xs ≡ 1 = ap length e in (
      omega arith,
      record {
        count = omega arith;
        list = put_one c x out (omega arith)
            ∙ ap (λ (l : List ℕ). put c l out) (sym e);
      },
    )

module _ (c : ℕ) (xs ys zs out : List ℕ) (e : zs ≡ xs ++ ys) (h : Room c zs out) where
  long : length zs ≡ length xs + length ys
  long = ap length e ∙ length-append xs ys

  pub room_first : Room c xs out
  room_first = omega (arith, long)

  pub room_rest : {m : ℕ} {mid : List ℕ} → Puts c xs out m mid → Room m ys mid
  room_rest p = omega (arith, long, p.count, ap length p.list, put_length c xs out room_first)

  pub puts_both : {m r : ℕ} {mid new : List ℕ} → Puts c xs out m mid → Puts m ys mid r new
      → Puts c zs out r new
  puts_both {m} {r} {mid} {new} p q = record {
    count = omega (arith, long, p.count, q.count);
    list = q.list ∙ (λ i. put (p.count i) ys (p.list i)) ∙ put_more c xs ys out room_first
        ∙ ap (λ (l : List ℕ). put c l out) (sym e);
  }
