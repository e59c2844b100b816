-- The first place that passes (Looking). Assumes nothing.
use Rattle.std.proofs.Common.{rules, ◌≡◌, ◌∙◌}
use Rattle.std.specs.Prelude.{position}
use Rattle.std.proofs.lemmas.Iterator.{YieldsList-from_slice}
use Rattle.std.proofs.lemmas.Iterator.Search.{position_from_yields_List}
use borrow.Author.Tests.{tests}
use Rattle.tables.specs.Tables.{is_bad}
use Rattle.searching.proofs.Looking.{place_is}
use Rattle.searching.proofs.least_bad.Goals as goal

pub returns : goal.returns
returns c =
    let q : c.position.result ≡ position is_bad c.args.list.now =
    position_from_yields_List is_bad _ _ c.position.result c.position.ensures.ran (YieldsList-from_slice c.args.list.now cc)
    (λ x b q k. search (rules, tests)) in
    c.unwrap_or.ensures ∙ rw q (place_is is_bad c.args.list.now)
