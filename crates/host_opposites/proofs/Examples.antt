-- The examples of specs/Examples.antt: those of the crate opposites, as bytes. Assumes nothing.
use mathlib.Core.Path.{◌≡◌, refl, sym}
use mathlib.Core.List.{List, [], ◌∷◌}
use Prim.Native.Nat.{ℕ, ◌≤◌}
use native.Mathlib.Omega.{arith}
use lib.ListN.{get_or, length, replicate}
use Rattle.frame.specs.Answers.{over}
use Rattle.frame.specs.Refusals.{first_of}
use Rattle.frame.specs.Promises.{◌leaves◌}
use Rattle.frame.proofs.Answering.{keeps_gives, no_other, refusing}
use Rattle.octets.specs.Bytes.{bytes}
use Rattle.words.specs.Forms.{first_digits, path, word_in}
use Rattle.words.specs.Family.{code_of}
use Rattle.words.specs.Writing.{decimals, written}
use Rattle.net.specs.Corners.{name_of}
use Rattle.net.specs.Refusals.{check_name}
use Rattle.grid.specs.Writing.{corner_in}
use Rattle.grid.proofs.Bounds as grid_bounds
use Rattle.exports.proofs.Exporting.{sent_on}
use Rattle.opposites.proofs.Examples as opposites
use Rattle.host_opposites.specs.Refusals.{refuse_opposite, refuse_opposite_name}
use Rattle.host_opposites.specs.Answers.{OppositeBytes, OppositeNameBytes}
use Rattle.host_opposites.specs.Examples.{Examples, Bounds, Mistakes}
use Rattle.host_opposites.proofs.OppositeCalls.{code_handed, name_handed, name_nine}
use Rattle.host_opposites.proofs.Promises.{one_answer}

-- 10003 and V(20), for any slice that is long enough
opposing : (out : List ℕ) → 8 ≤ length out
    → OppositeBytes (written 10003) out leaves (0, over (bytes 8 ((written 31002).0 ∷ [])) out)
opposing out l =
    keeps_gives (one_answer.opposite (written 10003) out)
    (code_handed (written 10003) out (opposites.examples).e3.meets (sent_on _ refl l refl))

opposing_name : (out : List ℕ) → 8 ≤ length out
    → OppositeNameBytes (name_of 0x2000000000000003) out leaves (0, over (bytes 8 (0x7000000000000002 ∷ [])) out)
opposing_name out l =
    keeps_gives (one_answer.opposite_name (name_of 0x2000000000000003) out)
    (name_handed (name_of 0x2000000000000003) out (opposites.examples).v20.meets (sent_on _ refl l refl))

-- V(20) has the name 100 corner 3
passes_20 : check_name (name_of 0x2000000000000003) ≡ 0
unfolding decimals written first_digits path word_in
passes_20 = (grid_bounds.bounds).canonical

ten : (out : List ℕ) → 10 ≡ refuse_opposite_name (corner_in 200 2) out
ten out = (name_nine (corner_in 200 2) out).first (sym (grid_bounds.bounds).not_canonical) (λ e. omega (arith, e))

pub examples : Examples
unfolding bytes refuse_opposite first_of decimals written first_digits path word_in
examples = record {
  e3 = opposing (replicate 9 9) (omega arith);
  v20 = opposing_name (replicate 8 9) (omega arith);
  word_0 = keeps_gives (one_answer.opposite (code_of 0) (replicate 8 9))
      (refusing {k = 2} refl (λ e. omega (arith, e)));
  short = keeps_gives (one_answer.opposite (written 10003) (replicate 7 9))
      (refusing {k = 9} refl (λ e. omega (arith, e)));
  not_canonical = keeps_gives (one_answer.opposite_name (corner_in 200 2) (replicate 8 9))
      (refusing {k = 10} (ten (replicate 8 9)) (λ e. omega (arith, e)));
}

pub bounds : Bounds
unfolding refuse_opposite first_of decimals written first_digits path word_in
bounds = record {
  seven = refl;
  eight = refl;
  name_seven = sym ((name_nine (name_of 0x2000000000000003) (replicate 7 9)).nine passes_20 (omega arith));
  name_eight = (name_nine (name_of 0x2000000000000003) (replicate 8 9)).passes.1 (passes_20, omega arith);
  kind_first = refl;
  ten_first = sym (ten []);
}

-- byte i of what a call leaves
abbrev byte : ℕ → ℕ × List ℕ → ℕ
byte i x = get_or x.1 i 0

pub mistakes : Mistakes
unfolding bytes decimals written first_digits path word_in
mistakes = record {
  reversed = no_other {s = (0, _)} (byte 0) (opposing (replicate 8 9) (omega arith)) refl;
  itself = no_other {s = (0, _)} (byte 0) (opposing (replicate 8 9) (omega arith)) refl;
  cleared = no_other {s = (0, _)} (byte 8) (opposing (replicate 9 9) (omega arith)) refl;
  number_dropped = no_other {s = (0, _)} (byte 7) (opposing_name (replicate 8 9) (omega arith)) refl;
}
