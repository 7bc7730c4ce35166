use Rattle.std.proofs.Common.{ℕ, ◌∙◌, ◌∷◌, sym, ap, subst}
use Rattle.std.specs.Option.{option_map}
use Rattle.std.specs.List.Sorted.{IsPermutation}
use Rattle.cga_depend.proofs.Removed.{one_less}
use Rattle.cga_depend.proofs.nodes.Nodes.remove.Goals as goal

pub returns-in-Some-clause-gone : goal.returns-in-Some-clause-gone
returns-in-Some-clause-gone c = λ _.
    subst (λ l. IsPermutation l (c.args.node ∷ c.swap_remove.new.self.items)) c.self.view_is
    (one_less c.self.inside.numbers.keys c.self.inside.list.items c.swap_remove.new.self.items c.in-Some.place c.args.node c.swap_remove.result c.self.invariant
    (sym (rw (← c.number.ensures) c.swap_remove_full.ensures.index) ∙ ap (λ o. option_map (λ (p : ℕ × ℕ). p.0) o) c.in-Some.is)
    c.swap_remove.ensures.value c.swap_remove.ensures.items)
