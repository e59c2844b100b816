-- The examples of specs/Examples.antt: the harbour's own, as bytes. Assumes nothing.
use mathlib.Core.Path.{refl}
use mathlib.Core.List.{List, [], ◌∷◌}
use Prim.Native.Nat.{ℕ, ◌≤◌}
use native.Mathlib.Omega.{arith}
use lib.ListN.{length, get_or, replicate}
use Rattle.frame.specs.Refusals.{first_of}
use Rattle.frame.specs.Answers.{over}
use Rattle.frame.specs.Promises.{◌leaves◌}
use Rattle.frame.proofs.Answering.{refusing, keeps_gives, no_other}
use Rattle.octets.specs.Bytes.{bytes}
use Rattle.words.specs.Forms.{first_digits, path, word_in}
use Rattle.words.specs.Family.{code_of}
use Rattle.words.specs.Writing.{decimals, written, zero_digits}
use Rattle.grid.specs.Writing.{up}
use Rattle.harbour.specs.Small.{small_code}
use Rattle.harbour.specs.declared.SmallCode.{SmallCode}
use Rattle.harbour.proofs.Examples as harbour
use Rattle.host_harbour.specs.Refusals.{refuse_large, refuse_small, refuse_cross, refuse_file}
use Rattle.host_harbour.specs.Answers.{four_and_eight}
use Rattle.host_harbour.specs.Answers.{LargeBytes, SmallBytes, CrossSmallBytes, FileSmallBytes}
use Rattle.host_harbour.specs.Examples.{Examples, Bounds, Mistakes}
use Rattle.host_harbour.proofs.HarbourCalls.{small_returns, large_returns, cross_returns, file_returns}
use Rattle.host_harbour.proofs.Promises.{one_answer}

-- ---- 1001 as a small code; E8 and E3, for any slice that is long enough

abbrev word : SmallCode
word = small_code 0x20A00000

wrote : (out : List ℕ) → 4 ≤ length out
    → SmallBytes (written 1001) out leaves (0, over (bytes 4 (0x20A00000 ∷ [])) out)
wrote out l =
    keeps_gives (one_answer.small (written 1001) out)
    ((small_returns (written 1001) out (harbour.examples).child_1001.meets).sent refl l refl)

read : (out : List ℕ) → 8 ≤ length out → LargeBytes word out leaves (0, over (bytes 8 ((written 1001).0 ∷ [])) out)
read out l =
    keeps_gives (one_answer.large word out) ((large_returns word out (harbour.examples).back.meets).sent refl l refl)

crossed : (out : List ℕ) → 12 ≤ length out
    → CrossSmallBytes word 2 out leaves (0, over (four_and_eight (0x40A00000 ∷ 3 ∷ [])) out)
crossed out l =
    keeps_gives (one_answer.cross_small word 2 out)
    ((cross_returns word 2 out (harbour.examples).e8.meets).sent refl l refl)

filed : (out : List ℕ) → 4 ≤ length out → FileSmallBytes 2 up out leaves (0, over (bytes 4 (0x21180000 ∷ [])) out)
filed out l =
    keeps_gives (one_answer.file_small 2 up out)
    ((file_returns 2 up out (harbour.examples).e3.meets).sent refl l refl)

pub examples : Examples
unfolding bytes refuse_large refuse_small refuse_cross refuse_file first_of decimals written first_digits path word_in
examples = record {
  small = wrote (replicate 5 9) (omega arith);
  large = read (replicate 9 9) (omega arith);
  e8 = crossed (replicate 13 9) (omega arith);
  e3 = filed (replicate 5 9) (omega arith);
  too_deep = keeps_gives (one_answer.small (code_of (zero_digits 12)) (replicate 4 9))
      (refusing {k = 30} refl (λ e. omega (arith, e)));
  bit_set = keeps_gives (one_answer.large (small_code 0x20A00001) (replicate 8 9))
      (refusing {k = 31} refl (λ e. omega (arith, e)));
  short = keeps_gives (one_answer.cross_small word 2 (replicate 11 9))
      (refusing {k = 9} refl (λ e. omega (arith, e)));
  deep = keeps_gives (one_answer.file_small 12 up (replicate 4 9))
      (refusing {k = 30} refl (λ e. omega (arith, e)));
}

pub bounds : Bounds
unfolding refuse_large refuse_small refuse_cross refuse_file first_of decimals written first_digits path word_in
bounds = record {
  small_3 = refl;
  small_4 = refl;
  large_7 = refl;
  large_8 = refl;
  cross_11 = refl;
  cross_12 = refl;
  file_3 = refl;
  file_4 = refl;
  deep_first = refl;
  kind_first = refl;
  bit_first = refl;
  edge_first = refl;
  degree_first = refl;
  zero_first = refl;
}

-- byte i of what a call leaves
abbrev byte : ℕ → ℕ × List ℕ → ℕ
byte i x = get_or x.1 i 0

pub mistakes : Mistakes
unfolding bytes refuse_file first_of
mistakes = record {
  reversed = no_other {s = (0, _)} (byte 0) (wrote (replicate 4 9) (omega arith)) refl;
  in_eight = no_other {s = (0, _)} (byte 0) (wrote (replicate 8 9) (omega arith)) refl;
  edge_in_four = no_other {s = (0, _)} (byte 7) (crossed (replicate 12 9) (omega arith)) refl;
  edge_kept = no_other {s = (0, _)} (byte 11) (crossed (replicate 12 9) (omega arith)) refl;
  three = no_other {s = (0, _)} (λ x. x.0)
      (keeps_gives (one_answer.file_small 2 up (replicate 3 9)) (refusing {k = 9} refl (λ e. omega (arith, e)))) refl;
  cleared = no_other {s = (0, _)} (byte 4) (filed (replicate 5 9) (omega arith)) refl;
  longer = no_other {s = (9, _)} (λ x. x.0) (read (replicate 9 9) (omega arith)) refl;
}
