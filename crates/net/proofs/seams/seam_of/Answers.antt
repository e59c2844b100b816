-- `seam_of`: the four cases of p and q, each 0 or not (`at_00` to `at_11`), and what the calls ensure. Assumes nothing.
use mathlib.Core.Path.{refl}
use Rattle.net.specs.Means.Seams.{seam_of}
use Rattle.net.proofs.SeamCode.{at_00, at_01, at_10, at_11}
use Rattle.net.proofs.seams.seam_of.Goals as goal

pub returns-in-0-q : goal.returns-in-0-q
returns-in-0-q c =
    let a = c.args in
    cc (at_00 (λ p q. seam_of p q a.a a.k) a.p a.q c.in-0.is c.in-0-q.is)

pub returns-in_default-q : goal.returns-in_default-q
returns-in_default-q c =
    let a = c.args in
    cc (at_01 (λ p q. seam_of p q a.a a.k) a.p a.q (λ q. refl) c.in-0.is
    c.in_default-q.in_default-q-own.rest.1)

pub returns-in-0-q-2 : goal.returns-in-0-q-2
returns-in-0-q-2 c =
    let a = c.args in
    cc (at_10 (λ p q. seam_of p q a.a a.k) a.p a.q (λ p. refl) c.in_default.in_default-own.rest.1
    c.in-0-q-2.is)

pub returns-in_default-q-2 : goal.returns-in_default-q-2
returns-in_default-q-2 c =
    let a = c.args in
    cc (at_11 (λ p q. seam_of p q a.a a.k) a.p a.q (λ p q. refl) c.in_default.in_default-own.rest.1
    c.in_default-q-2.in_default-q-2-own.rest.1)
