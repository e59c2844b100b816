-- The last digit after the others. Assumes nothing.
use mathlib.Core.Path.{◌≡◌, ◌∙◌, ap}
use mathlib.Core.List.{List, [], ◌∷◌, ◌++◌}
use Prim.Native.Nat.{ℕ, ◌-◌, ◌/◌}
use native.Mathlib.Omega.{arith}
use lib.ListN.{length}
use Rattle.std.proofs.lemmas.List.{nil_from_length}
use Rattle.lines.specs.Writing.{digits}
use Rattle.lines.proofs.Spelling.{digits_none, digits_last}
use Rattle.lines.proofs.text.+lay_digits.Goals as goal

pub returns-in-Some : goal.returns-in-Some
returns-in-Some t c =
    let a = c.args in
    let k = length a.out.now in
    let long = c.in-Some.ensures.cases.1 in
    let e : length c.in-Some.others.now ≡ k - 1 = omega (arith, long) in
    ap (λ (d : List ℕ). d ++ (c.glyph.result ∷ []))
    (c.lay_digits.ensures ∙ ap (λ (j : ℕ). digits a.base j (a.n / a.base)) e)
    ∙ digits_last a.base k a.n c.glyph.result (λ z. omega (arith, z, long)) c.glyph.ensures

pub returns-in_default : goal.returns-in_default
returns-in_default t c =
    let a = c.args in
    let z = c.in_default.ensures.cases in
    nil_from_length a.out.now z ∙ digits_none a.base (length a.out.now) a.n z
