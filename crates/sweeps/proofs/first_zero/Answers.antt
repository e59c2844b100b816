-- What the library's position finds, or the length. Assumes nothing.
use Rattle.std.proofs.Common.{◌≡◌, ◌∙◌, sym, ap, refl, rules, tests, ℕ, zero, suc, ◌≤◌, length, cond, inl, inr, nat_lt, nat_eq, Some, None, arith}
use Rattle.std.specs.Option.{unwrap_or}
use Rattle.std.specs.List.{position_or_len}
use Rattle.std.proofs.lemmas.Bool.{cases_lt}
use Rattle.std.proofs.lemmas.Iterator.{YieldsList-from_slice}
use Rattle.std.proofs.lemmas.Iterator.Search.{position_from_yields_List}
use Rattle.std.proofs.lemmas.List.Recursion.{is_position_or_len}
use Rattle.std.proofs.lemmas.List.Sums.{prefix_len-le-length}
use borrow.Author.Tests.{lt-ltb, le-ltb, ne_eqb}
use Rattle.frame.specs.Lists.{first_place}
use Rattle.sweeps.specs.Means.Counted.{is_zero}
use Rattle.sweeps.proofs.first_zero.Goals as goal

or_length : (p n : ℕ) → p ≤ n → unwrap_or (cond (nat_lt p n) (Some p) None) n ≡ p
or_length p n l =
    elim (cases_lt p n) [
      | inl h ↦ rw (lt-ltb p n h)
      | inr h ↦ rw (le-ltb p n h) (omega arith)
    ]

same_test : (w : ℕ) → nat_eq w 0 ≡ is_zero w
same_test zero = refl
same_test (suc w) = ne_eqb (suc w) 0 (λ e. omega (arith, e))

pub returns : goal.returns
unfolding first_place
returns c =
    let codes = c.args.codes.now in
    let e = position_from_yields_List is_zero _ _ c.position.result c.position.ensures.ran
    (YieldsList-from_slice codes c.iter.ensures.rest)
    (λ x b q k. (refl, (let t : b ≡ nat_eq x.now 0 = search (rules, tests) in t) ∙ same_test x.now)) in
    let s : first_place is_zero codes ≡ position_or_len is_zero codes =
    is_position_or_len (first_place is_zero) is_zero refl
    (λ x xs. ap (λ (n : ℕ). cond (is_zero x) 0 n) (omega arith)) codes in
    c.unwrap_or.ensures ∙ ap (λ o. unwrap_or o (length codes)) e
    ∙ or_length (position_or_len is_zero codes) (length codes) (prefix_len-le-length _ codes) ∙ sym s
