use Rattle.std.proofs.Common.{◌≡◌, List, [], sym, subst}
use Rattle.cga_script.specs.Lines.{Line}
use Rattle.cga_top.specs.Lived.{Begun, Lived}
use Rattle.cga_top.proofs.WholeScript.{line_at_end, no_line_at_end}
use Rattle.cga_top.proofs.Lived.{lived_nothing}
use Rattle.cga_top.proofs.script_end.end_line.Goals as goal

pub returns-in-Err-clause-err : goal.returns-in-Err-clause-err
returns-in-Err-clause-err g c = λ s rest here k.
    let some : c.args.lines.now.kept ≡ [] → ⊥ = λ e. let none = c.finish.ensures.ready.1 e in let yes = c.if-finish.true in cc in
    subst (λ (l : List Line). Begun g.W.Talker.told s l (g.K.Sink.held c.args.out.now) (g.K.Sink.held c.take_line.new.out)) (line_at_end rest _ _ c.finish.ensures.line k some) (c.in-Err.ensures.err s here)

pub returns-in-Ok-clause-ok : goal.returns-in-Ok-clause-ok
returns-in-Ok-clause-ok g c = λ s rest here k.
    let some : c.args.lines.now.kept ≡ [] → ⊥ = λ e. let none = c.finish.ensures.ready.1 e in let yes = c.if-finish.true in cc in
    subst (λ (l : List Line). Lived g.W.Talker.told s l c.take_line.new.session (g.K.Sink.held c.args.out.now) (g.K.Sink.held c.take_line.new.out) c.args.expansions.now c.take_line.new.expansions) (line_at_end rest _ _ c.finish.ensures.line k some) (c.in-Ok.ensures.ok s here)

pub returns-else-finish-clause-ok : goal.returns-else-finish-clause-ok
returns-else-finish-clause-ok g c = λ s rest here k.
    let none : c.args.lines.now.kept ≡ [] = c.finish.ensures.ready.0 c.if-finish.false in
    subst (λ (l : List Line). Lived g.W.Talker.told s l c.args.session.now (g.K.Sink.held c.args.out.now) (g.K.Sink.held c.args.out.now) c.args.expansions.now c.args.expansions.now) (sym (no_line_at_end rest _ k none)) (lived_nothing g.W.Talker.told s _ _ _ here)
