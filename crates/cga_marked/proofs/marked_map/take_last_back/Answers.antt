use Rattle.std.proofs.Common.{◌∙◌, sym, ap, subst, List}
use Rattle.cga_marked.specs.declared.step.Step.{Step}
use Rattle.cga_marked.specs.Map.{AreUndoable, Shelf, undone}
use Rattle.cga_marked.proofs.Shelf.{undoable_pop, undone_push}
use Rattle.cga_marked.proofs.marked_map.take_last_back.Goals as goal

pub take_back-requires : goal.take_back-requires
take_back-requires c =
    let s : Shelf = record { entries = c.args.map.now.entries; shown = c.args.shown } in
    (undoable_pop c.pop.new.self.items c.in-Some.step s (subst (λ (l : List Step). AreUndoable l s) c.in-Some.ensures.items c.requires.ready)).0

pub returns-in-Some-clause-shelf : goal.returns-in-Some-clause-shelf
returns-in-Some-clause-shelf c =
    let s : Shelf = record { entries = c.args.map.now.entries; shown = c.args.shown } in
    ap (undone c.pop.new.self.items) (sym c.take_back.ensures) ∙ sym (undone_push c.pop.new.self.items c.in-Some.step s) ∙ ap (λ (l : List Step). undone l s) (sym c.in-Some.ensures.items)

pub returns-in-Some-clause-ready : goal.returns-in-Some-clause-ready
returns-in-Some-clause-ready c =
    let s : Shelf = record { entries = c.args.map.now.entries; shown = c.args.shown } in
    subst (AreUndoable c.pop.new.self.items) c.take_back.ensures (undoable_pop c.pop.new.self.items c.in-Some.step s (subst (λ (l : List Step). AreUndoable l s) c.in-Some.ensures.items c.requires.ready)).1
