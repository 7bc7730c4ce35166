use Rattle.std.proofs.Common.{◌≡◌, ◌+◌, ◌-◌, ◌<◌, ◌≤◌, true, false, length, [], arith, ap, sym, ◌∙◌}
use Rattle.cga_lexer.specs.Front.{front}
use Rattle.cga_lexer.specs.Line.{lex}
use Rattle.cga_lexer.specs.declared.front.Front.TheVariants.{End, Blank}
use Rattle.cga_script.specs.Ends.{are_end}
use Rattle.cga_script.proofs.LineEnds.{nothing_more, no_end, at_end, turn, twice, other, word}
use Rattle.cga_script.proofs.telling_lines.are_end.Goals as goal

pub returns-in-End : goal.returns-in-End
returns-in-End c =
    sym (turn c.args.line.now c.line.at c.line.found (are_end (lex 0 1 c.args.line.now)) c.line.invariant.read c.line-test.true End (ap front (sym c.split_at.ensures.back) ∙ sym c.in-End.ensures.value) ∙ nothing_more c.line.found)

pub line-preserved-in-Blank : goal.line-preserved-in-Blank
line-preserved-in-Blank c = record {
  within = omega arith;
  read = turn c.args.line.now c.line.at c.line.found (are_end (lex 0 1 c.args.line.now)) c.line.invariant.read c.line-test.true Blank (ap front (sym c.split_at.ensures.back) ∙ sym c.in-Blank.ensures.value);
}

pub returns-in-BadByte : goal.returns-in-BadByte
returns-in-BadByte c =
    sym (turn c.args.line.now c.line.at c.line.found (are_end (lex 0 1 c.args.line.now)) c.line.invariant.read c.line-test.true _ (ap front (sym c.split_at.ensures.back) ∙ sym c.in-BadByte.ensures.value) ∙ no_end c.line.found _)

pub returns-in-BadNumber : goal.returns-in-BadNumber
returns-in-BadNumber c =
    sym (turn c.args.line.now c.line.at c.line.found (are_end (lex 0 1 c.args.line.now)) c.line.invariant.read c.line-test.true _ (ap front (sym c.split_at.ensures.back) ∙ sym c.in-BadNumber.ensures.value) ∙ no_end c.line.found _)

pub returns-in-LongName : goal.returns-in-LongName
returns-in-LongName c =
    sym (turn c.args.line.now c.line.at c.line.found (are_end (lex 0 1 c.args.line.now)) c.line.invariant.read c.line-test.true _ (ap front (sym c.split_at.ensures.back) ∙ sym c.in-LongName.ensures.value) ∙ no_end c.line.found _)

pub returns-in-OpenText : goal.returns-in-OpenText
returns-in-OpenText c =
    sym (turn c.args.line.now c.line.at c.line.found (are_end (lex 0 1 c.args.line.now)) c.line.invariant.read c.line-test.true _ (ap front (sym c.split_at.ensures.back) ∙ sym c.in-OpenText.ensures.value) ∙ no_end c.line.found _)

pub returns : goal.returns
returns c = sym (at_end c.args.line.now c.line.at c.line.found (are_end (lex 0 1 c.args.line.now)) c.line.invariant.read c.line-test.false)

pub returns-then-found : goal.returns-then-found
returns-then-found c =
    sym (twice c.args.line.now c.line.at c.line.found (are_end (lex 0 1 c.args.line.now)) c.line.invariant.read c.line-test.true c.in-Token.kind c.in-Token.len (ap front (sym c.split_at.ensures.back) ∙ sym c.in-Token.ensures.value) c.if-found.true)

pub returns-then-not-is_word : goal.returns-then-not-is_word
returns-then-not-is_word c =
    sym (other c.args.line.now c.line.at c.line.found (are_end (lex 0 1 c.args.line.now)) c.line.invariant.read c.line-test.true c.in-Token.kind c.in-Token.len (ap front (sym c.split_at.ensures.back) ∙ sym c.in-Token.ensures.value) c.if-found.false
    (sym c.is_word.ensures ∙ c.if-not-is_word.true))

pub line-preserved : goal.line-preserved
line-preserved c =
    let within : c.line.at + c.in-Token.len ≤ length c.args.line.now = omega (arith, c.in-Token.ensures.within.1, c.split_at.ensures.back_len) in
    record {
      within = within;
      read = word c.args.line.now c.line.at c.line.found (are_end (lex 0 1 c.args.line.now)) c.line.invariant.read c.line-test.true c.in-Token.kind c.in-Token.len (ap front (sym c.split_at.ensures.back) ∙ sym c.in-Token.ensures.value) c.if-found.false
          (sym c.is_word.ensures ∙ c.if-not-is_word.false) c.in-Token.ensures.within.0 within;
    }
