-- After i directions the bytes are what a sweep of them leaves (ByteSweeps). Assumes nothing.
use Rattle.std.proofs.Common.{◌≡◌, ◌∙◌, ap, subst, ℕ, ◌-◌, ◌*◌, ◌/◌, length, take, drop, add-one, arith}
use Rattle.frame.specs.Answers.{over}
use Rattle.octets.specs.Bytes.{bytes_of, signed, signed_numbers}
use Rattle.octets.proofs.Laying.{read_long}
use Rattle.sweeps.proofs.Told.{none_more, one_more}
use Rattle.host_sweeps.specs.Means.CountedBytes.{CountedBytes}
use Rattle.host_sweeps.proofs.ByteSweeps.{most, bytes_none, bytes_next}
use Rattle.host_sweeps.proofs.file_each_byte.Goals as goal
use Rattle.host_sweeps.proofs.file_each_byte.Goals.{in-Ok, in-Err}

pub loop-i-init : goal.loop-i-init
loop-i-init c = bytes_none c.args.dirs.now c.args.codes.now

pub overflow_add-refused : goal.overflow_add-refused
overflow_add-refused c =
    omega (
      arith,
      c.well_formed.1.0.0,
      most c.loop-i.invariant c.loop-i.i (read_long (signed 4) 4 (3 * c.loop-i.i) c.args.dirs.now),
    )

pub loop-i-preserved : goal.loop-i-preserved
loop-i-preserved c =
    let l = c.loop-i in
    let m = c.match-file_byte_at in
    let mid = l.codes in
    let k = 8 * l.i in
    let put = λ (v : ℕ) (e : m.code ≡ v). c.put8.ensures
    ∙ ap (λ (w : ℕ). over (bytes_of 8 w) (take (length mid - k) (drop k mid))) e in
    elim m.branch [
      | in-Ok w ↦
          rw (add-one l.i, w.refused-is)
          (rw (none_more l.refused) at (bytes_next l.i c.args.dirs.now _ l.invariant w.in-Ok.ensures (put _ w.code-is)))
      | in-Err w ↦
          rw (add-one l.i, w.refused-is)
          (rw (one_more l.refused w.in-Err.field-0) at (bytes_next l.i c.args.dirs.now _ l.invariant w.in-Err.ensures (put _ w.code-is)))
    ]

pub returns : goal.returns
returns c =
    let l = c.loop-i in
    let dirs = c.args.dirs.now in
    let e : 3 * l.i ≡ length dirs / 4 = omega (arith, c.requires.0) in
    subst (λ (j : ℕ). CountedBytes c.args.degree (signed_numbers 4 j dirs) c.args.codes.now l.refused l.codes)
    e l.invariant
