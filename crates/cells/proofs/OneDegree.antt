-- Between codes of one degree the order of the tree is that of the 64-bit words. Assumes nothing.
use mathlib.Core.Path.{◌≡◌, ◌∙◌, sym}
use mathlib.Core.Bool.{true}
use mathlib.Core.Logic.{◌↔◌}
use Prim.Native.Nat.{ℕ, ◌+◌, ◌*◌, ◌%◌, ◌^◌, ◌<◌}
use native.Mathlib.Omega.{arith}
use borrow.Author.Tests.{ltb-true, lt-ltb}
use Rattle.words.specs.Words.{degree_of, side_of}
use Rattle.cells.specs.Order.{valid, less_than}
use Rattle.cells.specs.Means.Ranks.{rank}
use Rattle.cells.specs.Promises.{Ordered}
use Rattle.cells.proofs.Spelling.{less_total, less_trans, less_self, inside_less}
use Rattle.cells.proofs.Ranks.{less_by_rank}
use Rattle.cells.proofs.OnePass.{start_word, word_start}

-- numbers of three places, the last below 2^54, where the middle one is the same
by_places : (s n m s' m' : ℕ) → m < 2 ^ 54 → m' < 2 ^ 54
    → (s * 2 ^ 54 + m < s' * 2 ^ 54 + m') ↔ (s * 2 ^ 59 + n * 2 ^ 54 + m < s' * 2 ^ 59 + n * 2 ^ 54 + m')
by_places s n m s' m' a b = (λ l. omega (arith, a, b, l), λ l. omega (arith, a, b, l))

-- the same of what they make: a rank less its degree, and a word
by_parts : (s n m s' n' m' : ℕ) {r w r' w' : ℕ} → n ≡ n' → m < 2 ^ 54 → m' < 2 ^ 54
    → s * 2 ^ 54 + m ≡ r → s * 2 ^ 59 + n * 2 ^ 54 + m ≡ w
    → s' * 2 ^ 54 + m' ≡ r' → s' * 2 ^ 59 + n' * 2 ^ 54 + m' ≡ w' → (r + n < r' + n') ↔ (w < w')
by_parts s n m s' n' m' {r} {w} {r'} {w'} e a b is is_IsWord are are-word =
    let p : (r < r') ↔ (w < w') =
    rw (← is, ← is_IsWord, ← are, ← are-word, ← e) (by_places s n m s' m' a b) in
    (λ l. p.0 (omega (arith, e, l)), λ l. let k = p.1 l in omega (arith, e, k))

module _ (w u : ℕ) (v : valid w ≡ true) (v' : valid u ≡ true) (e : degree_of w ≡ degree_of u) where
  places : (rank w < rank u) ↔ (w < u)
  unfolding rank
  places =
      by_parts (side_of w) (degree_of w) (w % 2 ^ 54) (side_of u) (degree_of u) (u % 2 ^ 54) e (omega arith) (omega arith)
      (start_word w v) (sym (word_start w v)) (start_word u v') (sym (word_start u v'))

  one_degree_lem : (less_than w u ≡ true) ↔ (w < u)
  one_degree_lem =
      let r = less_by_rank w u v v' in
      (λ h. places.0 (ltb-true _ _ (sym r ∙ h)), λ l. r ∙ lt-ltb _ _ (places.1 l))

pub ordered : Ordered
ordered = record {
  total = less_total;
  onward = less_trans;
  not_itself = less_self;
  ancestor = inside_less;
  one_degree = one_degree_lem;
}
