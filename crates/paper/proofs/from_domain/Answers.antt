-- The refusals in turn: too many places, too few, not begun as it should be, no digits; else the word of what was read
-- (FromPaper). Assumes nothing.
use mathlib.Core.Path.{◌≡◌, ◌∙◌, refl, sym}
use mathlib.Core.Bool.{true, ◌&&◌}
use mathlib.Core.List.{List}
use Prim.Native.Nat.{ℕ, ◌<◌}
use native.Mathlib.Omega.{arith}
use lib.ListN.{get_or}
use Rattle.words.specs.Words.{side}
use Rattle.notation.specs.Domains.{is_a, is_bit}
use Rattle.paper.proofs.FromPaper.{begun, digits_wrong, domain_refusal, few_places, from_answers, not_begun}
use Rattle.paper.proofs.FromPaper.{not_digits, path_small, read_room, refused_deep, refused_wrong}
use Rattle.paper.proofs.FromPaper.{rest, rest_long}
use Rattle.paper.proofs.from_domain.Goals as goal

pub returns-then-m-gt-DOMAIN_PLACES : goal.returns-then-m-gt-DOMAIN_PLACES
returns-then-m-gt-DOMAIN_PLACES c = refused_deep (domain_refusal _) c.if-m-gt-DOMAIN_PLACES.true refl

pub returns-then-m-lt3 : goal.returns-then-m-lt3
returns-then-m-lt3 c =
    let xs = c.args.code.now in
    refused_wrong (domain_refusal xs) c.if-m-gt-DOMAIN_PLACES.false (few_places xs c.if-m-lt3.true) refl

pub returns-then-not-begins : goal.returns-then-not-begins
returns-then-not-begins c =
    let xs = c.args.code.now in
    refused_wrong (domain_refusal xs) c.if-m-gt-DOMAIN_PLACES.false
    (not_begun xs c.if-m-lt3.false (sym c.begins.ensures ∙ c.if-not-begins.true)) refl

pub read_digits-requires : goal.read_digits-requires
read_digits-requires c = read_room 3 c.args.code.now c.if-m-gt-DOMAIN_PLACES.false

-- the list, where its first three places begin a code
module _ (xs : List ℕ) (e : is_a (get_or xs 0 0) && (is_bit (get_or xs 1 0) && is_bit (get_or xs 2 0)) ≡ true) where
  side_low : side (get_or xs 0 0) (get_or xs 1 0) (get_or xs 2 0) < 24
  side_low = omega (arith, begun (get_or xs 0 0) (get_or xs 1 0) (get_or xs 2 0) e)

pub overflow_mul-s : goal.overflow_mul-s
overflow_mul-s c = omega (arith, side_low c.args.code.now (sym c.begins.ensures ∙ c.if-not-begins.false))

pub overflow_mul-s-2 : goal.overflow_mul-s-2
overflow_mul-s-2 c = omega (arith, side_low c.args.code.now (sym c.begins.ensures ∙ c.if-not-begins.false))

pub overflow_add-s : goal.overflow_add-s
overflow_add-s c = omega (arith, side_low c.args.code.now (sym c.begins.ensures ∙ c.if-not-begins.false))

pub overflow_add-s-2 : goal.overflow_add-s-2
overflow_add-s-2 c = omega (arith, side_low c.args.code.now (sym c.begins.ensures ∙ c.if-not-begins.false))

pub word_of-requires : goal.word_of-requires
word_of-requires c =
    let xs = c.args.code.now in (
      omega (arith, side_low xs (sym c.begins.ensures ∙ c.if-not-begins.false)),
      omega (arith, c.if-m-gt-DOMAIN_PLACES.false),
      path_small (rest 3 xs) (sym c.in-Some.is ∙ c.read_digits.ensures) (rest_long 3 xs),
    )

pub returns : goal.returns
returns c =
    from_answers c.args.code.now c.if-m-lt3.false c.if-m-gt-DOMAIN_PLACES.false
    (sym c.begins.ensures ∙ c.if-not-begins.false) (sym c.in-Some.is ∙ c.read_digits.ensures) c.word_of.ensures

pub returns-in_default : goal.returns-in_default
returns-in_default c =
    let xs = c.args.code.now in
    refused_wrong (domain_refusal xs) c.if-m-gt-DOMAIN_PLACES.false
    (not_digits xs c.if-m-lt3.false
    (digits_wrong (rest 3 xs) (sym c.in_default.is ∙ c.read_digits.ensures)))
    refl
