use Rattle.std.proofs.Common.{inl, inr, sym, ◌∙◌, subst, List, ℕ}
use Rattle.cga_order.specs.World.{Among}
use Rattle.cga_depend.specs.Changed.{IsNoted, KeepsNoted}
use Rattle.cga_depend.proofs.Noted.{named_among, noted_here, noted_push}
use Rattle.cga_depend.proofs.changed.Grammars.note.Goals as goal

pub returns-then-facts-clause-noted : goal.returns-then-facts-clause-noted
returns-then-facts-clause-noted c = inr (c.in_ok-facts.ensures.facts.setting.0 c.if-facts.true)

pub returns-then-has_name-clause-noted : goal.returns-then-has_name-clause-noted
returns-then-has_name-clause-noted c = inl (subst (λ (xs : List (List ℕ)). Among c.args.symbol xs) c.as_slice.ensures.value
    (named_among c.args.symbol c.as_slice.result.now (sym c.has_name.ensures ∙ c.if-has_name.true)))

pub returns-clause-noted : goal.returns-clause-noted
returns-clause-noted c = subst (λ (xs : List (List ℕ)). IsNoted c.args.self.now.before c.args.self.now.after xs c.args.symbol) (sym c.in_ok-push.ensures.items) (noted_here c.args.self.now.before c.args.self.now.after c.args.list.now.items c.args.symbol)

pub returns-clause-kept : goal.returns-clause-kept
returns-clause-kept c = subst (λ (xs : List (List ℕ)). KeepsNoted c.args.self.now.before c.args.self.now.after c.args.list.now.items xs) (sym c.in_ok-push.ensures.items) (noted_push c.args.self.now.before c.args.self.now.after c.args.list.now.items c.args.symbol)
