-- `verdicts::put_verdict` meets its contract: one piece after the other. Assumes nothing.
use mathlib.Core.Path.{◌∙◌, refl, sym, ap}
use Prim.Native.Nat.{ℕ}
use Rattle.std.specs.Prelude.{Result}
use mathlib.Core.List.{◌++◌}
use Rattle.cells.specs.Checking.{reason_number, verdict, verdict_told}
use Rattle.cells.specs.declared.Offence.{Offence}
use Rattle.cells.proofs.OnePass.{reason_some}
use Rattle.lines.specs.Writing.{decimal}
use Rattle.verdicts.specs.Program.{place_text, reason_text, verdict_text}
use Rattle.lines.proofs.Appending.{appended_as, appended_after}
use Rattle.verdicts.proofs.Texts.{text_accepted, text_place}
use Rattle.verdicts.proofs.put_verdict.Goals as goal

abbrev verdict_reason : Result (Unit {0}) Offence → ℕ
verdict_reason v = (verdict_told v).reason

pub returns-in-Ok-clause-text : goal.returns-in-Ok-clause-text
returns-in-Ok-clause-text g c =
    appended_as _ (text_accepted (verdict_told c.args.v) (ap verdict_reason c.in-Ok.is)) c.push_bytes.ensures.text

pub returns-in-Err-clause-text : goal.returns-in-Err-clause-text
returns-in-Err-clause-text g c =
    let old = c.args.out.now in
    let o = c.in-Err.o in
    let place = appended_after old place_text (decimal o.place) refl c.push_bytes-in-Err.ensures.text
    c.push_decimal.ensures.text in
    let reason = appended_after old (place_text ++ decimal o.place) reason_text refl place
    c.push_bytes-in-Err-2.ensures.text in
    let number = rw c.from.ensures at c.push_decimal-in-Err.ensures.text in
    let k = reason_number o.reason in
    appended_after old (place_text ++ decimal o.place ++ reason_text) (decimal k)
    (text_place (verdict k o.place) (reason_some o.reason)
    ∙ sym (ap (λ v. verdict_text (verdict_told v)) c.in-Err.is)) reason number
