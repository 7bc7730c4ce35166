use Rattle.std.proofs.Common.{◌≡◌, ◌++◌, [], refl, sym, subst, ◌∙◌, rules}
use Rattle.std.proofs.lemmas.List.{nil_from_length}
use Rattle.cga_script.specs.Pending.{Pending}
use Rattle.cga_script.proofs.Door as feeds
use Rattle.cga_script.specs.Lines.{lines_of}
use Rattle.cga_top.specs.Lived.{Underway}
use Rattle.cga_top.proofs.Lived.{all_done, begins, goes_on, lived_blank, one_begun, one_more}
use Rattle.cga_top.proofs.Pieces.{blank_first, blank_left}
use Rattle.cga_top.proofs.Pieces.{part_cleared, part_kept, left_cleared, left_kept, lines_kept_none, nothing_left}
use Rattle.cga_top.proofs.Pieces.{no_more_lines, no_more_left}
use Rattle.cga_top.proofs.Faults.{faults_since}
use Rattle.cga_top.proofs.pump.take_piece.Goals as goal

pub loop-rest-init : goal.loop-rest-init
loop-rest-init g c = record {
  part = c.requires.part;
  ready = c.requires.ready;
  calm = refl;
  each = λ s st. begins g.W.Talker.told s _ _ _ _ st;
  kept = refl;
}

pub loop-rest-preserved-in-Ok : goal.loop-rest-preserved-in-Ok
loop-rest-preserved-in-Ok g c =
    let inv = c.loop-rest.invariant in
    let f = c.feed-fed.ensures.some c.if-fed.true in
    let t = feeds.takes_line c.loop-rest.lines.kept c.loop-rest.rest.now c.split_at-in-loop-rest.result.1.now c.feed-fed.result.taken c.feed-fed.new.self inv.part.one f.0 f.1 f.2 f.3 c.split_at-in-loop-rest.ensures.back f.4 in
    let done = c.in-Ok.ensures in
    record {
      part = part_cleared _ done.lines;
      ready = done.ready;
      calm = done.faults ∙ inv.calm;
      each = λ s st. subst (λ (q : Pending). Underway g.W.Talker.told s (lines_of (c.args.lines.now.kept ++ c.args.piece.now)) (lines_of (q.kept ++ c.split_at-in-loop-rest.result.1.now)) c.take_line.new.session (g.K.Sink.held c.args.out.now) (g.K.Sink.held c.take_line.new.out) c.args.expansions.now c.take_line.new.expansions)
          (sym done.lines) (one_more g.W.Talker.told s _ _ _ _ _ _ _ _ _ _ t.lines (inv.each s st) _ _ (λ u su. done.ok u su));
      kept = left_cleared _ _ _ done.lines t.left ∙ inv.kept;
    }

pub loop-rest-preserved : goal.loop-rest-preserved
loop-rest-preserved g c =
    let inv = c.loop-rest.invariant in
    let f = c.feed-fed.ensures.none c.if-fed.false in
    let one = feeds.one_more _ _ inv.part.one f.0 in
    let none = nothing_left _ _ _ f.1 c.split_at-in-loop-rest.ensures.back in
    record {
      part = part_kept _ _ f.2 one;
      ready = inv.ready;
      calm = inv.calm;
      each = λ s st. goes_on g.W.Talker.told s _ _ _ _ _ _ _ _ (lines_kept_none _ _ _ f.2 none one) (inv.each s st);
      kept = left_kept _ _ _ f.2 none one ∙ inv.kept;
    }

pub loop-rest-preserved-then-passed-gt0 : goal.loop-rest-preserved-then-passed-gt0
loop-rest-preserved-then-passed-gt0 g c =
    let inv = c.loop-rest.invariant in
    let b = c.passed_over-passed.ensures.blank c.if-passed-gt0.true in
    let more = c.split_at.ensures.back in
    record {
      part = inv.part;
      ready = inv.ready;
      calm = inv.calm;
      each = λ s st. one_more g.W.Talker.told s _ _ _ b.2.line _ _ _ _ _ _ (blank_first _ _ _ _ b.0 more b.2) (inv.each s st) _ _
          (λ u su. lived_blank g.W.Talker.told u b.2.line _ _ _ c.tells_changes.ensures su b.1 b.2.blank);
      kept = blank_left _ _ _ _ b.0 more b.2 ∙ inv.kept;
    }

pub returns-in-Err-clause-err : goal.returns-in-Err-clause-err
returns-in-Err-clause-err g c = λ s st.
    let inv = c.loop-rest.invariant in
    let f = c.feed-fed.ensures.some c.if-fed.true in
    let t = feeds.takes_line c.loop-rest.lines.kept c.loop-rest.rest.now c.split_at-in-loop-rest.result.1.now c.feed-fed.result.taken c.feed-fed.new.self inv.part.one f.0 f.1 f.2 f.3 c.split_at-in-loop-rest.ensures.back f.4 in
    one_begun g.W.Talker.told s _ _ _ _ _ _ _ _ _ _ t.lines (inv.each s st) (λ u su. c.in-Err.ensures.err u su)

pub returns-in-Err-clause-faults : goal.returns-in-Err-clause-faults
returns-in-Err-clause-faults g c = faults_since c.in-Err.halt _ _ _ c.loop-rest.invariant.calm c.in-Err.ensures.faults

pub returns-clause-ok : goal.returns-clause-ok
returns-clause-ok g c = λ s st.
    let none : c.loop-rest.rest.now ≡ [] = nil_from_length _ (search rules) in
    all_done g.W.Talker.told s _ _ _ _ _ _ _ (no_more_lines _ _ none c.loop-rest.invariant.part.one) (c.loop-rest.invariant.each s st)

pub returns-clause-lines : goal.returns-clause-lines
returns-clause-lines g c =
    let none : c.loop-rest.rest.now ≡ [] = nil_from_length _ (search rules) in
    no_more_left _ _ _ none c.loop-rest.invariant.part c.loop-rest.invariant.kept
