use Rattle.std.proofs.Common.{◌∙◌, sym, subst}
use Rattle.cga_form.specs.BlockTells.{BlockTells}
use Rattle.cga_form.proofs.Lines.{form_unique}
use Rattle.cga_form.proofs.BlockReaders.{passed_over, one_more, never_good}
use Rattle.cga_form.proofs.block_reader.BlockReader.line.Goals as goal

pub returns-then-is_some-clause-taken : goal.returns-then-is_some-clause-taken
returns-then-is_some-clause-taken g c =
    passed_over g.G.Form.pieces g.G.Gather.holds c.args.self.now c.saturating_add-self.result (record { bytes = c.args.bytes.now; long = c.args.long }) c.saturating_add-self.ensures (sym c.is_some.ensures ∙ c.if-is_some.true)

pub returns-in_err-said-clause-free : goal.returns-in_err-said-clause-free
returns-in_err-said-clause-free g c = λ lines f k h.
    absurd (never_good g.G.Form.pieces (form_unique g.G.Form.pieces g.G.Form.reader c.is_form.ensures) g.G.Gather.holds c.args.self.now (sym c.is_some.ensures ∙ c.if-is_some.false) lines f k h)

pub returns-in-Ok-clause-taken : goal.returns-in-Ok-clause-taken
returns-in-Ok-clause-taken g c =
    one_more g.G.Form.pieces g.G.Gather.holds c.args.self.now c.saturating_add-self.result (record { bytes = c.args.bytes.now; long = c.args.long }) c.saturating_add-self.ensures c.add.new.self c.in-Ok.said
    (subst (λ z. BlockTells g.G.Form.pieces (record { bytes = c.args.bytes.now; long = c.args.long }) z) c.in-Ok.is c.in_ok-said.ensures) c.add.result (sym c.is_some.ensures ∙ c.if-is_some.false) c.add.ensures

pub returns-in-Ok-clause-free : goal.returns-in-Ok-clause-free
returns-in-Ok-clause-free g c = λ lines f k h.
    absurd (never_good g.G.Form.pieces (form_unique g.G.Form.pieces g.G.Form.reader c.is_form.ensures) g.G.Gather.holds c.args.self.now (sym c.is_some.ensures ∙ c.if-is_some.false) lines f k h)
