-- `host_sweeps::file_byte_at` meets its contract: the direction is made of three numbers of the bytes. Assumes nothing.
-- the number of a part that starts at number j
use mathlib.Core.Path.{◌≡◌, ◌∙◌, ap, subst}
use mathlib.Core.List.{List}
use Prim.Native.Nat.{ℕ, ◌+◌, ◌-◌, ◌*◌}
use native.Mathlib.Omega.{arith}
use lib.ListN.{length, take, drop, length-drop}
use lib.Seq.{take_all}
use mir.Syntax.{w32}
use mir.ValLaws.{to_z-of_z}
use Rattle.octets.specs.Bytes.{number_of, signed}
use Rattle.words.specs.Family.{code_told}
use Rattle.filing.specs.declared.Direction.{Direction}
use Rattle.directions.specs.Answers.{FileAnswer}
use Rattle.grid.specs.Writing.{towards}
use Rattle.host_sweeps.proofs.file_byte_at.Goals as goal

number : (bs : List ℕ) (k j : ℕ) → k ≡ 4 * j
    → signed 4 (number_of (take 4 (take (length bs - k) (drop k bs))))
    ≡ signed 4 (number_of (take 4 (drop (4 * j) bs)))
number bs k j e = ap (λ (b : List ℕ). signed 4 (number_of (take 4 b)))
    (take_all (length bs - k) (drop k bs) (omega (arith, length-drop k bs)) ∙ ap (λ (q : ℕ). drop q bs) e)

pub returns : goal.returns
returns c =
    let bs = c.args.dirs.now in
    let i = c.args.i in
    let px = to_z-of_z w32 c.get_signed4-x.result (record { sfits = c.get_signed4-x.type_inv }) ∙ c.get_signed4-x.ensures
    ∙ number bs (12 * i) (3 * i) (omega arith) in
    let py = to_z-of_z w32 c.get_signed4-y.result (record { sfits = c.get_signed4-y.type_inv }) ∙ c.get_signed4-y.ensures
    ∙ number bs (12 * i + 4) (3 * i + 1) (omega arith) in
    let pz = to_z-of_z w32 c.get_signed4-z.result (record { sfits = c.get_signed4-z.type_inv }) ∙ c.get_signed4-z.ensures
    ∙ number bs (12 * i + 8) (3 * i + 2) (omega arith) in
    subst (λ (d : Direction). FileAnswer c.args.degree d (code_told c.file.result))
    (λ j. towards (px j) (py j) (pz j)) c.file.ensures
