-- The path of n digits is the field that they fill (Digits). Assumes nothing.
use mathlib.Core.Path.{◌∙◌, sym}
use Rattle.words.specs.Words.{large}
use Rattle.words.proofs.Digits.{path_in}
use Rattle.words.proofs.path_of.Goals as goal

pub returns : goal.returns
returns c = c.bits_of.ensures ∙ sym (path_in large _ _ c.before.requires)
