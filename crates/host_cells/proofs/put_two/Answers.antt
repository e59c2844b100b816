-- Two numbers one after the other (Laying). Assumes nothing.
use mathlib.Core.Path.{◌∙◌}
use mathlib.Core.List.{[], ◌∷◌}
use Rattle.octets.proofs.Laying.{laid_one, laid_next}
use Rattle.host_cells.proofs.put_two.Goals as goal

pub returns : goal.returns
returns c =
    laid_next 8 _ (_ ∷ []) _ c.put8.new.out c.put8-2.new.out c.put8.ensures
    (c.put8-2.ensures ∙ laid_one 8 _ _)
