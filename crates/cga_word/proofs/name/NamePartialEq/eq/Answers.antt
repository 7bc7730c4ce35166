use Rattle.std.proofs.Common.{rules, ◌∙◌}
use Rattle.cga_word.proofs.Padding.{padded-eq}
use Rattle.cga_word.proofs.name.NamePartialEq.eq.Goals as goal

pub returns-then-self-other : goal.returns-then-self-other
returns-then-self-other c =
    rw (← c.self.view_is, ← c.other.view_is) (c.eq.ensures ∙ padded-eq _ _ _ _ c.self.invariant c.other.invariant (search rules))
