use Rattle.std.proofs.Common.{◌+◌, sym, arith, ◌∙◌, ap, drop, length, [], ◌∷◌, ◌++◌, subst, ◌<◌, ◌≤◌}
use Rattle.cga_lexer.specs.Line.{lex, with_found, Rise}
use Rattle.cga_lexer.specs.declared.token.Token.{Token as Found}
use Rattle.cga_lexer.specs.Front.{front}
use Rattle.cga_lexer.specs.declared.front.Front.TheVariants.{End, Blank, BadByte, BadNumber, LongName, OpenText}
use Rattle.cga_lexer.proofs.Lexing.{seen, token_seen, all_found, ended, rise_further, rise_behind}
use Rattle.cga_lexer.proofs.tokens.Goals as goal

pub returns-in-End-clause-exact : goal.returns-in-End-clause-exact
returns-in-End-clause-exact c =
    sym (seen c.args.line.now c.line.at c.line-test.true c.line.found (lex 0 1 c.args.line.now) c.line.invariant.read End (ap front (sym c.split_at.ensures.back) ∙ sym c.in-End.ensures.value) ∙ all_found c.line.found)

pub returns-in-BadByte-clause-exact : goal.returns-in-BadByte-clause-exact
returns-in-BadByte-clause-exact c =
    sym (seen c.args.line.now c.line.at c.line-test.true c.line.found (lex 0 1 c.args.line.now) c.line.invariant.read (BadByte c.in-BadByte.n) (ap front (sym c.split_at.ensures.back) ∙ sym c.in-BadByte.ensures.value))

pub returns-in-BadNumber-clause-exact : goal.returns-in-BadNumber-clause-exact
returns-in-BadNumber-clause-exact c =
    sym (seen c.args.line.now c.line.at c.line-test.true c.line.found (lex 0 1 c.args.line.now) c.line.invariant.read BadNumber (ap front (sym c.split_at.ensures.back) ∙ sym c.in-BadNumber.ensures.value))

pub returns-in-LongName-clause-exact : goal.returns-in-LongName-clause-exact
returns-in-LongName-clause-exact c =
    sym (seen c.args.line.now c.line.at c.line-test.true c.line.found (lex 0 1 c.args.line.now) c.line.invariant.read (LongName c.in-LongName.n) (ap front (sym c.split_at.ensures.back) ∙ sym c.in-LongName.ensures.value))

pub returns-in-OpenText-clause-exact : goal.returns-in-OpenText-clause-exact
returns-in-OpenText-clause-exact c =
    sym (seen c.args.line.now c.line.at c.line-test.true c.line.found (lex 0 1 c.args.line.now) c.line.invariant.read OpenText (ap front (sym c.split_at.ensures.back) ∙ sym c.in-OpenText.ensures.value))

pub line-preserved-in-Blank : goal.line-preserved-in-Blank
line-preserved-in-Blank c = record {
  within = omega arith;
  read = seen c.args.line.now c.line.at c.line-test.true c.line.found (lex 0 1 c.args.line.now) c.line.invariant.read Blank (ap front (sym c.split_at.ensures.back) ∙ sym c.in-Blank.ensures.value);
  spans = rise_further 1 c.line.found (c.line.at + 1) (c.line.at + 1 + 1) c.line.invariant.spans (omega arith);
}

pub line-preserved : goal.line-preserved
line-preserved c =
    let w : (0 < c.in-Token.len) × (c.line.at + c.in-Token.len ≤ length c.args.line.now) =
    (c.in-Token.ensures.within.0, omega (arith, c.in-Token.ensures.within.1, c.split_at.ensures.back_len)) in
    record {
      within = w.1;
      read = token_seen c.args.line.now c.line.at c.line-test.true c.line.found (lex 0 1 c.args.line.now) c.line.invariant.read c.in-Token.kind c.in-Token.len
          (ap front (sym c.split_at.ensures.back) ∙ sym c.in-Token.ensures.value) w.0 w.1
          ∙ ap (λ xs. with_found xs (lex 0 (c.line.at + c.in-Token.len + 1) (drop (c.line.at + c.in-Token.len) c.args.line.now))) (sym c.in_ok-push-in-Token.ensures.ok);
      spans =
          let t : Found = record { kind = c.in-Token.kind; from = c.line.at + 1; to = c.line.at + 1 + c.in-Token.len } in
          subst (λ xs. Rise 1 xs (c.line.at + c.in-Token.len + 1)) (sym c.in_ok-push-in-Token.ensures.ok)
          (rise_further 1 (c.line.found ++ t ∷ []) (c.line.at + 1 + c.in-Token.len) (c.line.at + c.in-Token.len + 1) (rise_behind 1 c.line.found (c.line.at + 1) t c.line.invariant.spans (omega arith) (omega arith)) (omega arith));
    }

pub returns-clause-exact : goal.returns-clause-exact
returns-clause-exact c = sym (c.line.invariant.read ∙ ended c.args.line.now c.line.at c.line-test.false c.line.found)

pub returns-in-End-clause-spans : goal.returns-in-End-clause-spans
returns-in-End-clause-spans c = rise_further 1 c.line.found (c.line.at + 1) (length c.args.line.now + 1) c.line.invariant.spans (omega arith)

pub returns-clause-spans : goal.returns-clause-spans
returns-clause-spans c = rise_further 1 c.line.found (c.line.at + 1) (length c.args.line.now + 1) c.line.invariant.spans (omega arith)
