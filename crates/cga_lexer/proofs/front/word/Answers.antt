use Rattle.std.proofs.Common.{ap, sym, ◌∙◌, take}
use Rattle.cga_word.specs.Name.{name_of}
use Rattle.cga_lexer.proofs.Names.{word_long}
use Rattle.cga_lexer.proofs.front.word.Goals as goal

pub returns-in-None-clause-value : goal.returns-in-None-clause-value
returns-in-None-clause-value c =
    let text = c.args.text.now in
    let name = c.split_at.ensures.front ∙ ap (λ n. take n text) c.word_len.ensures in
    word_long text c.requires (ap name_of (sym name) ∙ sym c.read.ensures ∙ c.in-None.is)
