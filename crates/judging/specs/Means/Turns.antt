-- Judging words in the order of their keys: what is known after some of them. Assumes nothing.
use Rattle.std.specs.Prelude.{◌≡◌, Bool, true, false, not, ◌&&◌, ◌⊎◌, List, [], ◌∷◌, ℕ, suc, ◌%◌, ◌^◌, ◌≤◌, ◌<◌, eqb, ltb, length, get_or, take}
use Rattle.frame.specs.Refusals.{◌when◌, first_of}
use Rattle.frame.specs.Lists.{some}
use Rattle.judging.specs.Means.Keys.{end_of}

abbrev pub at : List ℕ → ℕ → ℕ
at xs i = get_or xs i 0

-- the code with key r has the one with key k inside
unfoldable pub holds : (r k : ℕ) → Bool
holds r k = not (eqb r 0) && (ltb r k && ltb k (end_of r))

-- no key of the list is that of a code that has it inside
abbrev pub Outer : (keys : List ℕ) (k : ℕ) → Type 0
Outer ks k = some (λ r. holds r k) ks ≡ false

-- why the code at a place is dropped: "3 equal to an earlier word, 4 inside another word, the least deciding"
unfoldable pub why_at : (keys : List ℕ) (p : ℕ) → ℕ
why_at ks p =
    first_of (3 ∷ 4 ∷ [])
    (3 when some (eqb (at ks p)) (take p ks) ∷ 4 when some (λ r. holds r (at ks p)) ks ∷ [])

-- the same of the next code in order, by the key before it and the end of the last one kept
unfoldable pub why_next : (last end key : ℕ) → ℕ
why_next last end k = first_of (3 ∷ 4 ∷ []) (3 when eqb k last ∷ 4 when ltb k end ∷ [])

-- ---- what is asked

-- all places of keys that are not 0, by their keys, and of equal ones by themselves
pub record InTurn (ks ps : List ℕ) : Type 0 where
  pub there : (i : ℕ) → i < length ps → (at ps i < length ks) × (at ks (at ps i) ≡ 0 → ⊥)
  pub all : (p : ℕ) → p < length ks → (at ks p ≡ 0 → ⊥) → (i : ℕ) × ((i < length ps) × (at ps i ≡ p))
  pub turn : (i j : ℕ) → i < j → j < length ps
      → (at ks (at ps i) < at ks (at ps j))
      ⊎ ((at ks (at ps i) ≡ at ks (at ps j)) × (at ps i < at ps j))

-- what lies inside what lies inside a code lies inside it
abbrev pub Nested : List ℕ → Type 0
Nested ks = (p q s : ℕ) → p < length ks → q < length ks → s < length ks
    → holds (at ks p) (at ks q) ≡ true → holds (at ks q) (at ks s) ≡ true → at ks s < end_of (at ks p)

-- keys of codes are below 2^59, with a degree in their last six bits
abbrev pub SmallKeys : List ℕ → Type 0
SmallKeys ks = (p : ℕ) → p < length ks → (at ks p < 2 ^ 59) × (at ks p % 64 ≤ 24)

-- ---- what is known after the first i of them

pub record JudgedTo (ks ps old : List ℕ) (i last end : ℕ) (why kept : List ℕ) : Type 0 where
  pub reasons : (j : ℕ) → j < i → at why (at ps j) ≡ why_at ks (at ps j)
  pub others : (p : ℕ) → ((j : ℕ) → j < i → at ps j ≡ p → ⊥) → at why p ≡ at old p
  pub last_is : (j : ℕ) → suc j ≡ i → last ≡ at ks (at ps j)
  pub none : i ≡ 0 → last ≡ 0
  -- a later code that one of them has inside is below the end
  pub reached : (j q : ℕ) → j < i → q < length ks → last ≤ at ks q
      → holds (at ks (at ps j)) (at ks q) ≡ true → at ks q < end
  pub holder : (end ≡ 0) ⊎ ((j : ℕ) × ((j < i) × (end_of (at ks (at ps j)) ≡ end)))
  -- those kept
  pub rise : (a b : ℕ) → a < b → b < length kept → at kept a < at kept b
  pub low : (a : ℕ) → a < length kept → at kept a ≤ last
  pub from : (a : ℕ) → a < length kept
      → (j : ℕ) × ((j < i) × ((at ks (at ps j) ≡ at kept a) × Outer ks (at ks (at ps j))))
  pub all : (j : ℕ) → j < i → Outer ks (at ks (at ps j))
      → (a : ℕ) × ((a < length kept) × (at kept a ≡ at ks (at ps j)))

-- ---- what is learnt

-- the reason of each code, and at the other places what stood there
pub record Judged (ks old why : List ℕ) : Type 0 where
  pub codes : (p : ℕ) → p < length ks → (at ks p ≡ 0 → ⊥) → at why p ≡ why_at ks p
  pub others : (p : ℕ) → p < length ks → at ks p ≡ 0 → at why p ≡ at old p

-- the keys, each once and rising, of the codes inside no other
pub record Kept (ks kept : List ℕ) : Type 0 where
  pub rise : (a b : ℕ) → a < b → b < length kept → at kept a < at kept b
  pub from : (a : ℕ) → a < length kept
      → (p : ℕ) × ((p < length ks) × ((at ks p ≡ 0 → ⊥) × ((at ks p ≡ at kept a) × Outer ks (at ks p))))
  pub all : (p : ℕ) → p < length ks → (at ks p ≡ 0 → ⊥) → Outer ks (at ks p)
      → (a : ℕ) × ((a < length kept) × (at kept a ≡ at ks p))
