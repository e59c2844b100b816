-- The side of three digits, and a path in base 4. Assumes nothing.
use mathlib.Core.Path.{◌≡◌, refl, sym, ap, ◌∙◌}
use mathlib.Core.List.{List}
use Prim.Native.Nat.{ℕ, ◌-◌}
use native.Mathlib.Omega.{arith}
use lib.ListN.{length, take, drop}
use Rattle.std.specs.Prelude.{Option, Some, None}
use Rattle.std.proofs.lemmas.List.{take_rest, length-drop}
use Rattle.words.specs.Words.{word_of}
use Rattle.lines.specs.Reading.{reads}
use Rattle.lines.proofs.Readings.{path_below, side_below, code_short, code_long, code_read}
use Rattle.lines.proofs.read_code.Goals as goal

-- what stands after the side
path_reads : (s : List ℕ) {r : Option ℕ} → r ≡ reads 4 (Some 0) (take (length s - 3) (drop 3 s)) → r ≡ reads 4 (Some 0) (drop 3 s)
path_reads s e = e ∙ ap (reads 4 (Some 0)) (take_rest s 3)

path_length : (s : List ℕ) → length (take (length s - 3) (drop 3 s)) ≡ length s - 3
path_length s = ap length (take_rest s 3) ∙ length-drop 3 s

pub returns-in_default : goal.returns-in_default
returns-in_default c = code_short c.args.s.now (omega arith)

pub returns-then-path-gt24 : goal.returns-then-path-gt24
returns-then-path-gt24 c =
    let s = c.args.s.now in
    code_long s (omega arith) (omega (arith, c.if-path-gt24.true, path_length s))

pub returns-in_err-side : goal.returns-in_err-side
returns-in_err-side c =
    let s = c.args.s.now in
    c.from_residual.ensures ∙ code_read s None _ _ _ _ (omega arith) (omega (arith, c.if-path-gt24.false, path_length s))
    c.digit.ensures c.digit-2.ensures c.digit-3.ensures (sym c.in_err-side.was ∙ c.side_of.ensures) refl

pub returns-in_err-read_digits : goal.returns-in_err-read_digits
returns-in_err-read_digits c =
    let s = c.args.s.now in
    c.from_residual-in_err-read_digits.ensures ∙ code_read s (Some c.in_ok-side.side) None _ _ _ (omega arith) (omega (arith, c.if-path-gt24.false, path_length s))
    c.digit.ensures c.digit-2.ensures c.digit-3.ensures (sym c.in_ok-side.was ∙ c.side_of.ensures) (sym c.in_err-read_digits.was ∙ path_reads s c.read_digits.ensures)

pub word_of-requires : goal.word_of-requires
word_of-requires c =
    let s = c.args.s.now in (
      side_below _ _ _ _ (sym c.in_ok-side.was ∙ c.side_of.ensures),
      c.if-path-gt24.false,
      path_below s _ _ (path_length s) (sym c.in_ok-read_digits.was ∙ path_reads s c.read_digits.ensures),
    )

pub returns : goal.returns
returns c =
    let s = c.args.s.now in
    let side = c.in_ok-side.side in
    let path = c.in_ok-read_digits.field-0 in
    ap Some (c.word_of.ensures ∙ ap (λ (n : ℕ). word_of side n path) (path_length s))
    ∙ code_read s (Some side) (Some path) _ _ _ (omega arith) (omega (arith, c.if-path-gt24.false, path_length s))
    c.digit.ensures c.digit-2.ensures c.digit-3.ensures (sym c.in_ok-side.was ∙ c.side_of.ensures) (sym c.in_ok-read_digits.was ∙ path_reads s c.read_digits.ensures)
