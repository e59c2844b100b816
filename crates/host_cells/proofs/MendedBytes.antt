-- What the call on words leaves in lists of 4,096 places: the fronts that are written out as bytes. Assumes nothing.
use mathlib.Core.Path.{◌≡◌, ◌∙◌, refl, sym, ap, subst}
use mathlib.Core.List.{List}
use Prim.Native.Nat.{ℕ, ◌/◌, ◌≤◌}
use native.Mathlib.Omega.{arith}
use lib.ListN.{length, take, drop, replicate, length-map, length-replicate}
use lib.Seq.{take_at}
use Rattle.octets.specs.Bytes.{words_in}
use Rattle.frame.specs.Answers.{over}
use Rattle.mending.specs.Mending.{mended, changes}
use Rattle.std.specs.Prelude.{Result, Ok, Err, IsOk}
use Rattle.frame.specs.declared.Refusal.{Refusal}
use Rattle.frame.proofs.Told.{number_some}
use Rattle.mending.specs.declared.Written.{Written}
use Rattle.mending.specs.Answers.{Lists, lists, words_of, reasons_of, mend_out, mend_told, MendResult}
use Rattle.mending.specs.Answers.{MendAnswer}
use Rattle.mending.proofs.Again.{fits}
use Rattle.mender.proofs.Refusals.{refuse_none}
use Rattle.host_cells.proofs.CellBytes.{words_long}

-- What is read of the counts and of the three lists, and how many there are at most.
pub record Left (ws : List ℕ) (a : MendAnswer) (new : Lists) : Type 0 where
  pub count : a.count ≡ length (mended ws)
  pub many : a.changes ≡ length (changes ws)
  pub codes : take a.count new.out ≡ mended ws
  pub words : take a.changes new.words ≡ words_of (changes ws)
  pub reasons : take a.changes new.reasons ≡ reasons_of (changes ws)
  pub few : (a.count ≤ length ws) × (a.changes ≤ length ws)

-- the front of what is laid over a list
front : {new : List ℕ} (k : ℕ) (xs old : List ℕ) → k ≡ length xs → new ≡ over xs old → take k new ≡ xs
front k xs old e p = ap (take k) p ∙ take_at xs (drop (length xs) old) k (sym e)

-- the lists before the call
abbrev zeros : List ℕ
zeros = replicate 4096 0

pub left : (list ws : List ℕ) (new : Lists) (a : MendAnswer) → ws ≡ words_in list → length list / 8 ≤ 4096
    → MendResult ws (lists zeros zeros zeros) a new → Left (words_in list) a new
left list ws new a e few m =
    let us = words_in list in
    let l = lists zeros zeros zeros in
    let n : length us ≤ 4096 = omega (arith, few, words_long list) in
    let o : length us ≤ length zeros = omega (arith, n, length-replicate {A = ℕ} 4096 0) in
    let is : (a, new) ≡ mend_out us l =
    (subst (λ (x : List ℕ). MendResult x l a new) e m).answered
    (sym (refuse_none us l n o o o)) in
    let count : a.count ≡ length (mended us) = ap (λ (x : MendAnswer × Lists). x.0.count) is in
    let many : a.changes ≡ length (changes us) = ap (λ (x : MendAnswer × Lists). x.0.changes) is in
    let cs = changes us in
    let f = fits us in
    record {
      count = count;
      many = many;
      codes = front a.count (mended us) zeros count (ap (λ (x : MendAnswer × Lists). x.1.out) is);
      words = front a.changes (words_of cs) zeros (many ∙ sym (length-map cs (λ c. c.word)))
          (ap (λ (x : MendAnswer × Lists). x.1.words) is);
      reasons = front a.changes (reasons_of cs) zeros (many ∙ sym (length-map cs (λ c. c.reason)))
          (ap (λ (x : MendAnswer × Lists). x.1.reasons) is);
      few = (omega (arith, count, f.0), omega (arith, many, f.1));
    }

-- nothing is refused
pub answered : (list ws : List ℕ) (new : Lists) (r : Result Written Refusal) → ws ≡ words_in list → length list / 8 ≤ 4096
    → MendResult ws (lists zeros zeros zeros) (mend_told r) new → IsOk r
answered list ws new r e few m =
    let us = words_in list in
    let n : length us ≤ 4096 = omega (arith, few, words_long list) in
    let o : length us ≤ length zeros = omega (arith, n, length-replicate {A = ℕ} 4096 0) in
    let is = (subst (λ (x : List ℕ). MendResult x (lists zeros zeros zeros) (mend_told r) new) e m).answered
    (sym (refuse_none us (lists zeros zeros zeros) n o o o)) in
    go r (ap (λ (x : MendAnswer × Lists). x.0.refusal) is)
  where
    go : (s : Result Written Refusal) → (mend_told s).refusal ≡ 0 → IsOk s
    go (Ok a) z = refl
    go (Err f) z = absurd (number_some f z)
