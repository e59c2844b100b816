-- Length, then numbers (Refused). Assumes nothing.
use mathlib.Core.Path.{◌≡◌, sym, ◌∙◌, ap}
use lib.ListN.{length}
use Rattle.std.specs.Prelude.{Err}
use Rattle.frame.specs.declared.Refusal.TheVariants.{TableLength}
use Rattle.tables.specs.Tables.{places}
use Rattle.tables.specs.Answers.{table_told, refused}
use Rattle.tables.specs.declared.TableRefusal.{TableRefusal}
use Rattle.tables.proofs.Refused.{wrong_length, bad_list, good_list}
use Rattle.tables.proofs.Answering.{answer_bad}
use Rattle.tables.proofs.Told.{told_call}
use Rattle.refusing.proofs.refuse_list.Goals as goal

pub returns-then-list-codes_of : goal.returns-then-list-codes_of
returns-then-list-codes_of c =
    let list = c.args.list.now in
    ap (λ (e : TableRefusal). table_told (Err e)) c.into.ensures
    ∙ told_call list TableLength
    (wrong_length c.args.degree list (λ e. c.if-list-codes_of.true (e ∙ sym c.codes_of.ensures)))

pub returns-then-any_bad : goal.returns-then-any_bad
returns-then-any_bad c =
    let l : length c.args.list.now ≡ places c.args.degree = c.if-list-codes_of.false ∙ c.codes_of.ensures in
    answer_bad c.args.list.now
    (bad_list c.args.degree c.args.list.now l
    (sym c.any_bad.ensures ∙ c.if-any_bad.true)) c.least_bad.ensures

pub returns : goal.returns
returns c =
    let list = c.args.list.now in
    let l : length list ≡ places c.args.degree = c.if-list-codes_of.false ∙ c.codes_of.ensures in
    ap (refused list) (good_list c.args.degree list l (sym c.any_bad.ensures ∙ c.if-any_bad.false))
