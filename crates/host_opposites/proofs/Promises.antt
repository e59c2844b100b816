-- The promises of specs/Promises.antt. Assumes nothing.
use mathlib.Core.Path.{◌≡◌, ◌∙◌, sym, ap, subst}
use mathlib.Core.List.{List, [], ◌∷◌}
use Prim.Native.Nat.{ℕ, zero, suc, ◌^◌, ◌<◌}
use native.Mathlib.Omega.{arith}
use lib.ListN.{get_or, length}
use Rattle.frame.specs.Promises.{KeepsLent}
use Rattle.frame.proofs.Lengths.{ThenNine}
use Rattle.octets.specs.Bytes.{bytes}
use Rattle.words.specs.Words.{corner_number}
use Rattle.words.specs.declared.CornerName.{CornerName}
use Rattle.words.specs.declared.TriangleCode.{TriangleCode}
use Rattle.words.proofs.Codes.{code_below}
use Rattle.net.specs.Corners.{code_inside}
use Rattle.net.proofs.WordSteps.{numbered_fits}
use Rattle.exports.specs.Answers.{Exported}
use Rattle.exports.specs.Promises.{Hosted}
use Rattle.exports.proofs.Exporting.{Fitting, delivered, exported_keeps, hosted}
use Rattle.opposites.proofs.Opposing.{opposite_only}
use Rattle.opposites.proofs.OpposingNames.{name_only}
use Rattle.opposites.proofs.Promises as opposites
use Rattle.host_opposites.specs.Answers.{OneWord}
use Rattle.host_opposites.specs.Promises.{OneAnswer, AsTheOpposites}
use Rattle.host_opposites.proofs.OppositeCalls.{code_nine, code_number, code_word, name_nine, name_number}
use Rattle.host_opposites.proofs.OppositeCalls.{name_word, CodeIs, NameIs}

-- ---- a call that answers one word, which is one, and fits

module _ (Is : ℕ → Type 0) (one : (v w : ℕ) → Is v → Is w → v ≡ w) (low : (w : ℕ) → Is w → w < 2 ^ 64) (out : List ℕ)
    {f g : ℕ} (nine : ThenNine f g 8 (length out)) where
  same : (ms ns : List ℕ) → OneWord Is ms → OneWord Is ns → ms ≡ ns
  same ms ns x y = x.are ∙ ap (λ (w : ℕ). w ∷ []) (one x.word y.word x.is y.is) ∙ sym y.are

  fits : {ms : List ℕ} → OneWord Is ms → Fitting 8 ms
  fits x = subst (Fitting 8) (sym x.are) (omega arith, at)
    where
      at : (i : ℕ) → i < 1 → get_or (x.word ∷ []) i 0 < 2 ^ 64
      at zero l = low x.word x.is
      at (suc i) l = absurd (omega arith)

  keeps_word : (f ≡ 0 → (ms : List ℕ) × OneWord Is ms)
      → KeepsLent g (Exported g (OneWord Is) out) (λ r. r) (λ k. k) out
  keeps_word = exported_keeps (bytes 8) (OneWord Is) out nine (λ z. same)

  hosts_word : {k r : ℕ} {ms new : List ℕ} → k ≡ f → (f ≡ 0 → OneWord Is ms) → Exported g (OneWord Is) out r new
      → Hosted k ms 8 out r new
  hosts_word number good q =
      hosted (delivered (bytes 8) (OneWord Is) out nine (λ z. same) _ number good q)
      (λ z. fits (good (sym number ∙ z)))

-- ---- the opposite code and the opposite name are one, and fit

code_one : (t : TriangleCode) (v w : ℕ) → CodeIs t v → CodeIs t w → v ≡ w
code_one t v w x y = ap (λ (u : TriangleCode). u.0) (opposite_only x y)

code_low : (t : TriangleCode) (w : ℕ) → CodeIs t w → w < 2 ^ 64
code_low t w x = code_below x.code

name_one : (q : CornerName) (v w : ℕ) → NameIs q v → NameIs q w → v ≡ w
name_one q v w x y = ap (λ (r : CornerName). r.0) (name_only x y)

name_low : (q : CornerName) (w : ℕ) → NameIs q w → w < 2 ^ 64
name_low q w x =
    let c = x.canonical in
    omega (arith, numbered_fits (code_inside (record { 0 = w })) c.code.passes (corner_number w) c.number)

-- ---- the theorems

pub one_answer : OneAnswer
one_answer = record {
  opposite = λ t out.
      let a = ((opposites.one_answer).opposite t).one in
      keeps_word (CodeIs t) (code_one t) (code_low t) out (code_nine t out)
      (λ z. (_, code_word t out a.1.meets z));
  opposite_name = λ q out.
      let a = ((opposites.one_answer).opposite_name q).one in
      keeps_word (NameIs q) (name_one q) (name_low q) out (name_nine q out)
      (λ z. (_, name_word q out a.1.meets z));
}

pub as_the_opposites : AsTheOpposites
as_the_opposites = record {
  opposite = λ t a out r new p.
      hosts_word (CodeIs t) (code_one t) (code_low t) out (code_nine t out) (code_number t out p) (code_word t out p);
  opposite_name = λ q a out r new p.
      hosts_word (NameIs q) (name_one q) (name_low q) out (name_nine q out) (name_number q out p) (name_word q out p);
}
