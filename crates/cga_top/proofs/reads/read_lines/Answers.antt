use Rattle.std.proofs.Common.{◌≡◌, ◌++◌, ◌≤◌, ◌-◌, ◌∙◌, ℕ, [], length, take, refl, sym, subst, ap, arith, rules, length-append}
use Rattle.std.proofs.lemmas.List.{length-take-le}
use Rattle.std.specs.Io.KnownBytes.{Consumes}
use Rattle.cga_outside.specs.Causes.{Rose}
use Rattle.cga_top.proofs.Faults.{faults_since}
use Rattle.cga_top.proofs.Reading.{is_part, reads_halt, reads_kept, reads_more, reads_none, reads_start}
use Rattle.cga_top.proofs.reads.read_lines.Goals as goal

pub loop-total-init : goal.loop-total-init
loop-total-init g c = record {
  most = omega arith;
  ready = c.requires.ready;
  calm = refl;
  so_far = ([], reads_start g.W.Talker.told _ _ _ _ c.requires.session c.requires.lines, refl);
}

pub reply_to-requires-clause-part : goal.reply_to-requires-clause-part
reply_to-requires-clause-part g c = is_part _ _ c.loop-total.invariant.so_far.1.lines_are

pub returns-in-Err-reply_to-clause-end : goal.returns-in-Err-reply_to-clause-end
returns-in-Err-reply_to-clause-end g c =
    let inv = c.loop-total.invariant in
    let read = inv.so_far.0 in
    let few : length read ≤ 67108864 = omega (arith, inv.so_far.2, c.loop-total-test.true) in
    let first = c.first-piece.ensures ∙ ap (λ (n : ℕ). take (67108864 - n) (take c.in-Ok.count c.read.new.buf)) (sym inv.so_far.2) in
    let halt = c.in-Err-reply_to.ensures in (
      read ++ take c.in-Ok.count c.read.new.buf,
      reads_halt g.W.Talker.told _ read _ _ _ _ _ _ _ few first inv.so_far.1 (record { given = c.in-Ok.ensures.gave; taken = c.in-Ok.ensures.bytes.0 }) halt.err (c.in-Ok.ensures.cause.calm ∙ inv.calm),
      faults_since c.in-Err-reply_to.halt _ _ _ inv.so_far.1.calm halt.faults,
    )

pub returns-in-Err-clause-end : goal.returns-in-Err-clause-end
returns-in-Err-clause-end g c =
    let inv = c.loop-total.invariant in
    let failed = c.in-Err.ensures in (
      inv.so_far.0,
      reads_kept g.W.Talker.told _ inv.so_far.0 _ _ _ _ _ _ _ _ inv.so_far.1 failed.gave failed.bytes,
      omega (arith, inv.so_far.2, c.loop-total-test.true),
      subst (λ (n : ℕ). Rose n (g.S.Source.faults c.read.new.self)) inv.calm failed.cause.failed,
    )

pub returns-in-Ok-eq0-clause-end : goal.returns-in-Ok-eq0-clause-end
returns-in-Ok-eq0-clause-end g c =
    let inv = c.loop-total.invariant in
    let got = c.in-Ok-eq0.ensures {u = tt} in
    let none = subst (λ (n : ℕ). Consumes (g.S.Source.left c.loop-total.script) (g.S.Source.left c.read.new.self) (take n c.read.new.buf)) c.in-Ok-eq0.field-0-test got.bytes.0 in
    let still = subst (λ (n : ℕ). g.S.Source.given c.read.new.self ≡ g.S.Source.given c.loop-total.script ++ take n c.read.new.buf) c.in-Ok-eq0.field-0-test got.gave in (
      inv.so_far.0,
      reads_none g.W.Talker.told _ inv.so_far.0 _ _ _ _ _ _ _ _ inv.so_far.1 still none,
      omega (arith, inv.so_far.2, c.loop-total-test.true),
      search rules,
      search rules,
      got.cause.calm ∙ inv.calm,
    )

pub loop-total-preserved : goal.loop-total-preserved
loop-total-preserved g c =
    let inv = c.loop-total.invariant in
    let read = inv.so_far.0 in
    let few : length read ≤ 67108864 = omega (arith, inv.so_far.2, c.loop-total-test.true) in
    let first = c.first-piece.ensures ∙ ap (λ (n : ℕ). take (67108864 - n) (take c.in-Ok.count c.read.new.buf)) (sym inv.so_far.2) in
    let done = c.in-Ok-reply_to.ensures in
    record {
      most = omega (arith, c.in-Ok.ensures.bound, c.loop-total-test.true);
      ready = done.ready;
      calm = c.in-Ok.ensures.cause.calm ∙ inv.calm;
      so_far = (
        read ++ take c.in-Ok.count c.read.new.buf,
        reads_more g.W.Talker.told _ read _ _ _ _ _ _ _ few first inv.so_far.1 (record { given = c.in-Ok.ensures.gave; taken = c.in-Ok.ensures.bytes.0 }) _ _ done.ok done.lines done.flushed done.faults,
        omega (arith, length-append read (take c.in-Ok.count c.read.new.buf), length-take-le c.in-Ok.count c.read.new.buf c.in-Ok.ensures.bound.0, inv.so_far.2),
      );
    }
