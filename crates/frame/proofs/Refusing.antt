-- From the table of rows to a program that tests in turn: where a call's rows stand in the order of its refusals, its
-- refusal is that of the first row that is so. The order is document 01's, or that order with a request's numbers in
-- it. Assumes nothing.
use mathlib.Core.Path.{◌≡◌, ◌∙◌, refl, sym, ap}
use mathlib.Core.Logic.{◌↔◌}
use mathlib.Core.Bool.{Bool, true, false, not, cond, ◌&&◌, true≢false}
use mathlib.Core.List.{List, [], ◌∷◌, ◌++◌}
use Prim.Native.Nat.{ℕ, zero, suc}
use native.Mathlib.Omega.{arith}
use lib.Dec.{T, eqb, eqb→eq, eqb-suc-zero}
use Rattle.frame.specs.Refusals.{Row, ◌when◌, ◌either◌, given, first_of}

infixr 30 ◌or◌
-- the first refusal unless it is 0
abbrev pub ◌or◌ : ℕ → ℕ → ℕ
zero or m = m
suc k or m = suc k

-- the refusal of one row
abbrev pub alone : Row → ℕ
alone r = cond r.so r.number 0

-- the refusal of the first row that is so, else 0
abbrev pub in_turn : List Row → ℕ
in_turn [] = 0
in_turn (r ∷ rs) = alone r or in_turn rs

abbrev pub numbers : List Row → List ℕ
numbers [] = []
numbers (r ∷ rs) = r.number ∷ numbers rs

-- ---- the test, which computes where the numbers are closed

abbrev pub absent : ℕ → List ℕ → Bool
absent o [] = true
absent o (k ∷ ks) = not (eqb o k) && absent o ks

-- what follows the leading o's
abbrev pub past : ℕ → List ℕ → List ℕ
past o [] = []
past o (k ∷ ks) = cond (eqb o k) (past o ks) (k ∷ ks)

-- the second list, in which a number may stand more than once in a row, runs through the first in its order
abbrev pub in_order : List ℕ → List ℕ → Bool
in_order [] [] = true
in_order [] (k ∷ ks) = false
in_order (zero ∷ os) ks = false
in_order (suc o ∷ os) ks = absent (suc o) (past (suc o) ks) && in_order os (past (suc o) ks)

pub both : (a b : Bool) → T (a && b) → T a × T b
both true b t = (tt, t)
both false b t = absurd t

is_true : (b : Bool) → b ≡ true → T b
is_true b e = rw e tt

-- ---- the law

same : (b x : Bool) → cond b x x ≡ x
same true x = refl
same false x = refl

skip_given : (k : ℕ) (r : Row) (rs : List Row) → r.so ≡ false → given k (r ∷ rs) ≡ given k rs
skip_given k r rs e = rw e (same (eqb k r.number) (given k rs))

skip_first : (os : List ℕ) (r : Row) (rs : List Row) → r.so ≡ false → first_of os (r ∷ rs) ≡ first_of os rs
unfolding first_of
skip_first [] r rs e = refl
skip_first (o ∷ os) r rs e = λ i. cond (skip_given o r rs e i) o (skip_first os r rs e i)

absent_given : (k : ℕ) (rs : List Row) → T (absent k (numbers rs)) → given k rs ≡ false
absent_given k [] t = refl
absent_given k (r ∷ rs) t = go (eqb k r.number) refl (absent_given k rs)
  where
    go : (e : Bool) → eqb k r.number ≡ e → (T (absent k (numbers rs)) → given k rs ≡ false)
        → given k (r ∷ rs) ≡ false
    go true e ih = absurd (rw e at t)
    go false e ih = rw e (ih (rw e at t))

step :
    (o : ℕ) (os : List ℕ) (r : Row) (rs : List Row) (e s : Bool)
    → eqb (suc o) r.number ≡ e
    → r.so ≡ s
    → (T (in_order os (numbers (r ∷ rs))) → first_of os (r ∷ rs) ≡ in_turn (r ∷ rs))
    → (T (in_order (suc o ∷ os) (numbers rs)) → first_of (suc o ∷ os) rs ≡ in_turn rs)
    → T (in_order (suc o ∷ os) (numbers (r ∷ rs)))
    → first_of (suc o ∷ os) (r ∷ rs) ≡ in_turn (r ∷ rs)
unfolding first_of
step o os r rs true true e s ih again t =
    let n : r.number ≡ suc o = sym (eqb→eq (suc o) r.number (is_true _ e)) in
    rw (e, s, n)
step o os r rs true false e s ih again t = rw (skip_first os r rs s, e, s) (again (rw e at t))
step o os r rs false s e q ih again t =
    let h : T (absent (suc o) (r.number ∷ numbers rs) && in_order os (numbers (r ∷ rs))) = rw e at t in
    let b = both (absent (suc o) (r.number ∷ numbers rs)) (in_order os (numbers (r ∷ rs))) h in
    let g : given (suc o) (r ∷ rs) ≡ false = absent_given (suc o) (r ∷ rs) b.0 in
    rw g (ih b.1)

-- at an order and rows whose numbers are closed the test is `tt`
pub in_turn_lem : (os : List ℕ) (rs : List Row) → T (in_order os (numbers rs)) → first_of os rs ≡ in_turn rs
unfolding first_of
in_turn_lem [] [] t = refl
in_turn_lem [] (r ∷ rs) t = absurd t
in_turn_lem (zero ∷ os) rs t = absurd t
in_turn_lem (suc o ∷ os) [] t = in_turn_lem os [] t
in_turn_lem (suc o ∷ os) (r ∷ rs) t =
    step o os r rs (eqb (suc o) r.number) r.so refl refl (in_turn_lem os (r ∷ rs)) (in_turn_lem (suc o ∷ os) rs) t

-- a number that is refused with is one that some row gives
pub given_so : (os : List ℕ) (rs : List Row) (k : ℕ) → first_of os rs ≡ suc k → given (suc k) rs ≡ true
unfolding first_of
given_so [] rs k e = absurd (omega (arith, e))
given_so (o ∷ os) rs k e = go (given o rs) refl (given_so os rs k)
  where
    go : (b : Bool) → given o rs ≡ b → (first_of os rs ≡ suc k → given (suc k) rs ≡ true)
        → given (suc k) rs ≡ true
    go true b ih = let q : o ≡ suc k = rw b at e in ap (λ (m : ℕ). given m rs) (sym q) ∙ b
    go false b ih = ih (rw b at e)

-- so a number that no row has is not
pub not_given : (os : List ℕ) (rs : List Row) (k : ℕ) → T (absent (suc k) (numbers rs))
    → first_of os rs ≡ suc k → ⊥
not_given os rs k t e = true≢false (sym (given_so os rs k e) ∙ absent_given (suc k) rs t)

-- ---- a chain of refusals

or_assoc : (a b c : ℕ) → (a or b) or c ≡ a or b or c
or_assoc zero b c = refl
or_assoc (suc a) b c = refl

pub turn_append : (xs ys : List Row) → in_turn (xs ++ ys) ≡ in_turn xs or in_turn ys
turn_append [] ys = refl
turn_append (x ∷ xs) ys = ap (λ (k : ℕ). alone x or k) (turn_append xs ys)
    ∙ sym (or_assoc (alone x) (in_turn xs) (in_turn ys))

-- the refusal of a call that checks by another first, each in its own order; both tests are `tt` at closed numbers
pub refusal_append : (os os' : List ℕ) (xs ys : List Row) → T (in_order os (numbers xs))
    → T (in_order os' (numbers (xs ++ ys))) → first_of os' (xs ++ ys) ≡ first_of os xs or in_turn ys
refusal_append os os' xs ys t u =
    in_turn_lem os' (xs ++ ys) u ∙ turn_append xs ys ∙ ap (λ (k : ℕ). k or in_turn ys) (sym (in_turn_lem os xs t))

-- a refusal k that came first
pub or_first : {k : ℕ} (f m : ℕ) → k ≡ f → (k ≡ 0 → ⊥) → k ≡ f or m
or_first zero m e some = absurd (some e)
or_first (suc f) m e some = e

-- a refusal k after one that was none
pub or_next : {k : ℕ} (f m : ℕ) → f ≡ 0 → k ≡ m → k ≡ f or m
or_next zero m z e = e
or_next (suc f) m z e = absurd (omega arith)

pub or_zero : (f m : ℕ) → f or m ≡ 0 → (f ≡ 0) × (m ≡ 0)
or_zero zero m e = (refl, e)
or_zero (suc f) m e = absurd (omega arith)

-- ---- what a program returns that tests the rows in turn

-- k is the number of the first row that is so, or 0 where none is.
pub data First : List Row → ℕ → Type 0 where
  nothing : First [] 0
  here : {k : ℕ} {b : Bool} {rs : List Row} → b ≡ true → First (suc k when b ∷ rs) (suc k)
  next : {k : ℕ} {r : Row} {rs : List Row} → r.so ≡ false → First rs k → First (r ∷ rs) k

pub first_turn : {rs : List Row} {k : ℕ} → First rs k → k ≡ in_turn rs
first_turn nothing = refl
first_turn (here e) = rw e
first_turn (next e f) = rw e (first_turn f)

pub refuse_first : (os : List ℕ) (rs : List Row) {k : ℕ} → T (in_order os (numbers rs)) → First rs k
    → k ≡ first_of os rs
refuse_first os rs t f = first_turn f ∙ sym (in_turn_lem os rs t)

-- of a call that checks by another first: what the other refused, and where it refused nothing
module _ (os os' : List ℕ) (xs ys : List Row) {k : ℕ} (t : T (in_order os (numbers xs)))
    (u : T (in_order os' (numbers (xs ++ ys)))) where
  pub refuse_before : k ≡ first_of os xs → (k ≡ 0 → ⊥) → k ≡ first_of os' (xs ++ ys)
  refuse_before e some = or_first _ _ e some ∙ sym (refusal_append os os' xs ys t u)

  pub refuse_after : first_of os xs ≡ 0 → First ys k → k ≡ first_of os' (xs ++ ys)
  refuse_after z f = or_next _ _ z (first_turn f) ∙ sym (refusal_append os os' xs ys t u)

-- where the other refused nothing, what is refused is what the rest of the rows refuses
pub refuse_rest : (os os' os'' : List ℕ) (xs ys : List Row) → T (in_order os (numbers xs))
    → T (in_order os' (numbers ys)) → T (in_order os'' (numbers (xs ++ ys))) → first_of os xs ≡ 0
    → first_of os' ys ≡ first_of os'' (xs ++ ys)
refuse_rest os os' os'' xs ys t u v z =
    or_next _ _ z (in_turn_lem os' ys u) ∙ sym (refusal_append os os'' xs ys t v)

-- ---- no refusal

abbrev pub NoneSo : List Row → Type 0
NoneSo [] = Unit {0}
NoneSo (r ∷ rs) = (r.so ≡ false) × NoneSo rs

abbrev named : List ℕ → Bool
named [] = true
named (zero ∷ ks) = false
named (suc k ∷ ks) = named ks

named_past : (o : ℕ) (ks : List ℕ) → T (named (past (suc o) ks)) → T (named ks)
named_past o [] t = tt
named_past o (zero ∷ ks) t = absurd (rw (eqb-suc-zero o) at t)
named_past o (suc k ∷ ks) t = go (eqb (suc o) (suc k)) refl (named_past o ks)
  where
    go : (e : Bool) → eqb (suc o) (suc k) ≡ e → (T (named (past (suc o) ks)) → T (named ks)) → T (named ks)
    go true e ih = ih (rw e at t)
    go false e ih = rw e at t

named_order : (os ks : List ℕ) → T (in_order os ks) → T (named ks)
named_order [] [] t = tt
named_order [] (k ∷ ks) t = absurd t
named_order (zero ∷ os) ks t = absurd t
named_order (suc o ∷ os) ks t =
    named_past o ks (named_order os (past (suc o) ks) (both (absent (suc o) (past (suc o) ks))
    (in_order os (past (suc o) ks)) t).1)

not_so : (b : Bool) (k : ℕ) (ks : List ℕ) → T (named (k ∷ ks)) → cond b k 0 ≡ 0
    → (b ≡ false) × T (named ks)
not_so true zero ks t e = absurd t
not_so true (suc k) ks t e = absurd (omega arith)
not_so false zero ks t e = absurd t
not_so false (suc k) ks t e = (refl, t)

turn_none : (rs : List Row) → T (named (numbers rs)) → in_turn rs ≡ 0 → NoneSo rs
turn_none [] t e = tt
turn_none (r ∷ rs) t e =
    let z = or_zero (alone r) (in_turn rs) e in
    let n = not_so r.so r.number (numbers rs) t z.0 in
    (n.0, turn_none rs n.1 z.1)

none_turn : (rs : List Row) → NoneSo rs → in_turn rs ≡ 0
none_turn [] n = refl
none_turn (r ∷ rs) n = rw n.0 (none_turn rs n.1)

-- a call answers exactly where no row is so
pub none_so : (os : List ℕ) (rs : List Row) → T (in_order os (numbers rs)) → (first_of os rs ≡ 0) ↔ NoneSo rs
none_so os rs t = (
  λ e. turn_none rs (named_order os (numbers rs) t) (sym (in_turn_lem os rs t) ∙ e),
  λ n. in_turn_lem os rs t ∙ none_turn rs n,
)

split : (xs ys : List Row) → NoneSo (xs ++ ys) ↔ (NoneSo xs × NoneSo ys)
split [] ys = (λ n. (tt, n), λ n. n.1)
split (x ∷ xs) ys = let ih = split xs ys in
    (λ n. ((n.0, (ih.0 n.1).0), (ih.0 n.1).1), λ n. (n.0.0, ih.1 (n.0.1, n.1)))

-- the same for a call that checks by another first, each in its own order
pub none_after : (os os' : List ℕ) (xs ys : List Row) → T (in_order os (numbers xs))
    → T (in_order os' (numbers (xs ++ ys)))
    → (first_of os' (xs ++ ys) ≡ 0) ↔ ((first_of os xs ≡ 0) × NoneSo ys)
none_after os os' xs ys t u = (
  λ e. let n = (split xs ys).0 ((none_so os' (xs ++ ys) u).0 e) in ((none_so os xs t).1 n.0, n.1),
  λ p. (none_so os' (xs ++ ys) u).1 ((split xs ys).1 ((none_so os xs t).0 p.0, p.1)),
)

-- ---- what a row says

pub so_unless : (b : Bool) → (b ≡ false → ⊥) → b ≡ true
so_unless true h = refl
so_unless false h = absurd (h refl)

pub either_left : (a b : Bool) → a ≡ true → a either b ≡ true
either_left a b e = rw e

pub either_right : (a b : Bool) → b ≡ true → a either b ≡ true
either_right true b e = refl
either_right false b e = e

pub either_none : (b : Bool) → b either false ≡ b
either_none true = refl
either_none false = refl

pub either_false : (a b : Bool) → (a either b ≡ false) ↔ ((a ≡ false) × (b ≡ false))
either_false true b = (λ e. absurd (true≢false e), λ e. e.0)
either_false false b = (λ e. (refl, e), λ e. e.1)
