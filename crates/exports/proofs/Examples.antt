-- The examples of specs/Examples.antt: document 01's own, as bytes. Assumes nothing.
use mathlib.Core.Path.{◌≡◌, ◌∙◌, refl, sym}
use mathlib.Core.List.{List, [], ◌∷◌}
use Prim.Native.Nat.{ℕ, suc, ◌≤◌}
use native.Mathlib.Omega.{arith}
use lib.ListN.{length, get_or, take, replicate}
use Rattle.frame.specs.Refusals.{first_of}
use Rattle.frame.specs.Answers.{over}
use Rattle.frame.specs.Promises.{◌leaves◌}
use Rattle.frame.proofs.Answering.{gives_one, no_other, refusing}
use Rattle.octets.specs.Bytes.{bytes}
use Rattle.golden.specs.Numbers.{◌+φ◌, negφ, ◌*φ◌}
use Rattle.words.specs.Words.{first_digits, path, word_in}
use Rattle.words.specs.Refusals.{check_code}
use Rattle.words.specs.Family.{CodeAnswer}
use Rattle.words.specs.declared.TriangleCode.{TriangleCode}
use Rattle.net.specs.Sides.{corner_vertex}
use Rattle.net.specs.Division.{unit_at, triangle_at}
use Rattle.filing.specs.Coordinates.{exact}
use Rattle.filing.specs.Holding.{determinants, replaced, determinant}
use Rattle.filing.specs.Means.Descent.{descent, least_child, holds, non_neg, first, holders}
use Rattle.filing.specs.Means.Sides.{least_from, side_dets}
use Rattle.filing.specs.Means.Lists.{all_words, side_words, joined}
use Rattle.filing.specs.declared.Direction.{Direction}
use Rattle.corners.specs.Answers.{CrossAnswer}
use Rattle.corners.specs.Answers.{CountAnswer}
use Rattle.corners.specs.Answers.{StepAnswer}
use Rattle.directions.specs.Refusals as directions
use Rattle.directions.specs.Answers.{FileAnswer, ListAnswer}
use Rattle.words.specs.Writing.{decimals, written, words_for}
use Rattle.grid.specs.Writing.{up}
use Rattle.grid.proofs.Bounds as grid_bounds
use Rattle.grid.proofs.Examples as grid
use Rattle.grid.proofs.Showing.{lists}
use Rattle.exports.specs.Refusals.{refuse_cross, refuse_file, refuse_list}
use Rattle.exports.specs.Answers.{CodeAndEdge, FiledCode, CountAndCodes, CrossBytes, FileBytes, ListBytes}
use Rattle.exports.specs.Examples.{Examples, Bounds, Mistakes}
use Rattle.exports.proofs.Calls.{cross_nine, file_nine, list_nine, cross_number, file_number, list_number}
use Rattle.exports.proofs.Calls.{cross_returns, file_returns, list_returns}
use Rattle.exports.proofs.Exporting.{exported_one}
use Rattle.exports.proofs.Promises.{cross_same, file_same, list_same}

-- ---- what document 01's call answers, as bytes

cross_shows : (t : TriangleCode) (k : ℕ) (out : List ℕ) (a : StepAnswer) → CrossAnswer t k a
    → refuse_cross t k out ≡ 0 → CrossBytes t k out leaves (0, over (bytes 8 (a.code.0 ∷ a.edge ∷ [])) out)
cross_shows t k out a p e =
    let z = (cross_nine t k out).passes.0 e in
    gives_one (exported_one (bytes 8) (CodeAndEdge t k) out (cross_nine t k out) (cross_same t k))
    ((cross_returns t k out p).sent (cross_number t k out p ∙ z.0) z.1 refl)

file_shows : (n : ℕ) (d : Direction) (out : List ℕ) (a : CodeAnswer) → FileAnswer n d a
    → refuse_file n d out ≡ 0 → FileBytes n d out leaves (0, over (bytes 8 (a.code.0 ∷ [])) out)
file_shows n d out a p e =
    let z = (file_nine n d out).passes.0 e in
    gives_one (exported_one (bytes 8) (FiledCode n d) out (file_nine n d out) (λ z. file_same n d))
    ((file_returns n d out p).sent (file_number n d out p ∙ z.0) z.1 refl)

list_shows : (n : ℕ) (d : Direction) (out places left : List ℕ) (a : CountAnswer) → 6 ≤ length places
    → ListAnswer n d places a left → refuse_list n d out ≡ 0
    → ListBytes n d out leaves (0, over (bytes 8 (a.count ∷ take a.count left)) out)
list_shows n d out places left a six p e =
    let z = (list_nine n d out).passes.0 e in
    gives_one (exported_one (bytes 8) (CountAndCodes n d) out (list_nine n d out) (λ z. list_same n d))
    ((list_returns n d out places left six p).sent (list_number n d out places left six p ∙ z.0) z.1 refl)

-- E8, E3, and all holders of (0,0,1) at degree 0

e8 : (out : List ℕ) → refuse_cross (written 1001) 2 out ≡ 0
    → CrossBytes (written 1001) 2 out leaves (0, over (bytes 8 ((written 2001).0 ∷ 3 ∷ [])) out)
e8 out z = cross_shows (written 1001) 2 out _ (grid.examples).e8.meets z

e3 : (out : List ℕ) → refuse_file 2 up out ≡ 0
    → FileBytes 2 up out leaves (0, over (bytes 8 ((written 10003).0 ∷ [])) out)
e3 out z = file_shows 2 up out _ (grid.examples).e3.meets z

two : (out : List ℕ) → refuse_list 0 up out ≡ 0
    → ListBytes 0 up out leaves (0, over (bytes 8 (2 ∷ words_for (100 ∷ 500 ∷ []))) out)
two out z =
    list_shows 0 up out (replicate 6 0) _ _ (omega arith) ((grid.examples).whole (replicate 6 0) (omega arith)).meets
    z

six : (out : List ℕ) → refuse_list 2 up out ≡ 0
    → ListBytes 2 up out
    leaves (0, over (bytes 8 (6 ∷ words_for (10003 ∷ 10012 ∷ 10021 ∷ 50002 ∷ 50013 ∷ 50031 ∷ []))) out)
unfolding directions.refuse_file first_of decimals written first_digits path word_in least_from first holds non_neg side_dets
    determinants replaced determinant exact unit_at triangle_at corner_vertex ◌+φ◌ negφ ◌*φ◌ descent least_child all_words
    side_words joined holders
six out z =
    list_shows 2 up out (replicate 6 0) _ _ (omega arith) (lists 2 up _ refl refl (replicate 6 0) (omega arith)).meets
    z

-- a crossing that is refused
refused : (t : TriangleCode) (k f : ℕ) (out : List ℕ) → suc f ≡ refuse_cross t k out
    → CrossBytes t k out leaves (suc f, out)
refused t k f out e =
    let is : CrossBytes t k out (suc f) out = refusing e (λ z. omega arith) in
    gives_one (exported_one (bytes 8) (CodeAndEdge t k) out (cross_nine t k out) (cross_same t k)) is

pub examples : Examples
unfolding bytes refuse_cross refuse_file refuse_list check_code first_of decimals written first_digits path word_in
examples = record {
  eight_bytes = refl;
  back = refl;
  both_kinds = (refl, (grid_bounds.bounds).canonical);
  e8 = e8 (replicate 17 9) refl;
  e3 = e3 (replicate 9 9) refl;
  two = two (replicate 57 9) refl;
  six = six (replicate 56 9) refl;
  short = refused (written 1001) 2 8 (replicate 15 9) refl;
  no_edge = refused (written 1001) 4 4 (replicate 16 9) refl;
}

pub bounds : Bounds
unfolding refuse_cross refuse_file refuse_list first_of decimals written first_digits path word_in
bounds = record {
  cross_15 = refl;
  cross_16 = refl;
  file_7 = refl;
  file_8 = refl;
  list_55 = refl;
  list_56 = refl;
  edge_first = refl;
  code_first = refl;
  degree_first = refl;
  zero_first = refl;
  far_first = refl;
}

-- byte i of what a call leaves
abbrev byte : ℕ → ℕ × List ℕ → ℕ
byte i x = get_or x.1 i 0

pub mistakes : Mistakes
unfolding bytes refuse_cross refuse_file refuse_list check_code first_of decimals written first_digits path word_in
mistakes = record {
  one_check = λ e. let f = sym (grid_bounds.bounds).not_canonical ∙ e in absurd (omega (arith, f));
  reversed = no_other {s = (0, _)} (byte 0) (e3 (replicate 8 9) refl) refl;
  one_byte_edge = no_other {s = (0, _)} (byte 8) (e8 (replicate 16 9) refl) refl;
  edge_kept = no_other {s = (0, _)} (byte 15) (e8 (replicate 16 9) refl) refl;
  fifteen = no_other {s = (0, _)} (λ x. x.0) examples.short refl;
  cleared = no_other {s = (0, _)} (byte 55) (two (replicate 56 9) refl) refl;
  no_count = no_other {s = (0, _)} (byte 0) (two (replicate 56 9) refl) refl;
  longer = no_other {s = (9, _)} (λ x. x.0) (e3 (replicate 9 9) refl) refl;
}
