use Rattle.std.proofs.Common.{◌≡◌, ◌∙◌, ℕ, Option, None, Some, sym, ap}
use Rattle.cga_marked.specs.Map.{id_under}
use Rattle.cga_forest.proofs.ByName.{root_exact}
use Rattle.cga_forest.proofs.Forest.root_of.Goals as goal

pub returns-in-Some : goal.returns-in-Some
returns-in-Some c =
    let o : Option ℕ = Some c.new.result in
    let e : o ≡ id_under c.self.inside.roots.list c.args.name = ap (λ (k : ℕ). Some k) c.new.ensures ∙ sym c.in-Some.is ∙ c.find.ensures in
    root_exact (record { slots = c.self.inside.store.slots; marking = c.self.inside.marking; roots = c.self.inside.roots.list; marked_roots = c.self.inside.roots.former; mode = c.self.inside.mode }) c.args.self.now c.self.view_is c.self.invariant.forest c.args.name o e

pub returns-in-None : goal.returns-in-None
returns-in-None c =
    let o : Option ℕ = None in
    let e : o ≡ id_under c.self.inside.roots.list c.args.name = sym c.in-None.is ∙ c.find.ensures in
    root_exact (record { slots = c.self.inside.store.slots; marking = c.self.inside.marking; roots = c.self.inside.roots.list; marked_roots = c.self.inside.roots.former; mode = c.self.inside.mode }) c.args.self.now c.self.view_is c.self.invariant.forest c.args.name o e
