use Rattle.std.proofs.Common.{◌≡◌, List, ◌++◌, ap, sym, ◌∙◌, subst}
use Rattle.std.specs.Prelude.{OnOk}
use Rattle.cga_syntax.specs.declared.print.mark.Mark.{Mark}
use Rattle.cga_syntax.specs.Pieces.{text, selector_pieces}
use Rattle.cga_syntax.specs.Printing.{printed_on, printed_piece}
use Rattle.cga_syntax.proofs.print.parts.push_selector.Goals as goal

pub returns-in-Vertices : goal.returns-in-Vertices
returns-in-Vertices c =
    let e = ap (λ n. c.args.marks.now ++ printed_piece (text n)) c.known-in-Vertices.ensures ∙ ap (λ s. printed_on c.args.marks.now (selector_pieces s)) (sym c.in-Vertices.is) in
    subst (λ (z : List Mark). OnOk c.push_text-in-Vertices.result (c.push_text-in-Vertices.new.marks ≡ z)) e c.push_text-in-Vertices.ensures
