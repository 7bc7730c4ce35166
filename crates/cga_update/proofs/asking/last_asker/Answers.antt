use Rattle.std.proofs.Common.{subst}
use Rattle.cga_fraction.proofs.Door.{IfOk-map}
use Rattle.cga_word.specs.declared.mode.Mode.{Mode}
use Rattle.cga_rule.specs.declared.grammar.Grammar.{Grammar}
use Rattle.cga_update.specs.Last.{IsTold}
use Rattle.cga_update.proofs.Bounding.{told_of}
use Rattle.cga_update.proofs.asking.last_asker.Goals as goal

pub returns-clause-told : goal.returns-clause-told
returns-clause-told c =
    IfOk-map c.last_at.result
    (λ known up. subst (λ (m : Mode). IsTold m c.args.forest.now c.args.dependents.now c.args.old.now c.args.symbols.now known) c.mode-mode.ensures
    (subst (λ (g : Grammar). IsTold c.mode-mode.result c.args.forest.now c.args.dependents.now g c.args.symbols.now known) c.new-before.ensures
    (told_of c.mode-mode.result c.args.forest.now c.args.dependents.now c.new-before.result c.args.symbols.now c.in_ok-last.last known c.in_ok-last.ensures.all up)))
    c.last_at.ensures
