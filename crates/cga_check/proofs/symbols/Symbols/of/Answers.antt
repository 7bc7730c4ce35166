use Rattle.std.proofs.Common.{◌≡◌, sym, ap, subst, ◌∙◌}
use Rattle.cga_check.specs.Latest.{AreKept}
use Rattle.cga_check.specs.Said.{said}
use Rattle.cga_check.proofs.Remembered.{still_kept}
use Rattle.cga_check.proofs.symbols.Symbols.of.Goals as goal

pub returns-in-Some-clause-value : goal.returns-in-Some-clause-value
returns-in-Some-clause-value c = c.self.invariant.latest c.args.symbol c.in-Some.found (sym c.in-Some.ensures) ∙ ap (λ g. said g c.args.symbol) c.self.view_is

pub invariant_of-self : goal.invariant_of-self
invariant_of-self c =
    let grammar = c.self-2.inside.grammar.now in
    let same = c.self-2.view_is ∙ c.in_ok-found.ensures.grammar in
    let is = c.in_ok-found.ensures.value ∙ ap (λ g. said g c.args.symbol) (sym same) in record {
      table = c.self-2.invariant.table;
      latest = subst (AreKept (λ name found. found ≡ said grammar name)) (sym c.note.ensures) (still_kept (λ name found. found ≡ said grammar name) c.self-2.inside.latest c.args.symbol c.in_ok-found.found is c.self-2.invariant.latest);
    }
