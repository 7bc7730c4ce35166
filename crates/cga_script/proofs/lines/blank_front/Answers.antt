use Rattle.std.proofs.Common.{ℕ, List, ap, sym, ◌∙◌, refl}
use Rattle.cga_script.specs.Ends.{is_blank_line}
use Rattle.cga_script.specs.Lines.{clipped}
use Rattle.cga_script.proofs.Feeds.{blank_begins}
use Rattle.cga_script.proofs.lines.blank_front.Goals as goal

pub returns-in-Some-clause-blank : goal.returns-in-Some-clause-blank
returns-in-Some-clause-blank c = λ some.
    let found = c.in-Some.ensures {u = tt} in
    blank_begins c.args.piece.now c.in-Some.end _ found.0 found.1 found.2
    (sym (ap (λ (l : List ℕ). is_blank_line (clipped l)) c.without_return.ensures) ∙ sym c.is_blank_whole.ensures ∙ c.if-is_blank_whole.true) refl
