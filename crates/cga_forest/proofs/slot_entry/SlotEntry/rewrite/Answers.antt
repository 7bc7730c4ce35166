use Rattle.std.proofs.Common.{◌≡◌, ◌∙◌, ◌&&◌, ap, sym, Option, Some, None, length, not, if◌then◌else◌}
use Rattle.std.specs.Prelude.{is_some}
use Rattle.cga_forest.specs.declared.former.Former.{Former}
use Rattle.cga_forest.specs.declared.node.Node.{Node}
use Rattle.cga_kept_hulls.specs.declared.hulls.Hulls.{Hulls}
use Rattle.cga_forest.specs.Hull.{hulls_known}
use Rattle.cga_forest.specs.Node.{state_of, with_state}
use Rattle.cga_forest.specs.View.{former_hulls, last_from, restored, seen}
use Rattle.cga_forest.proofs.Known.{known_state, none_kept}
use Rattle.std.specs.Cmp.{second_so}
use Rattle.cga_forest.proofs.slot_entry.SlotEntry.rewrite.Goals as goal

pub returns-in-Some-clause-hulls : goal.returns-in-Some-clause-hulls
returns-in-Some-clause-hulls c =
    let k = c.args.self.now.hulls in
    ap (λ (h : Hulls). Some h) (ap (λ (n : Node). hulls_known n k) c.set_state.ensures ∙ known_state c.args.state c.args.self.now.node k)

pub returns-in-Some-clause-marked_hulls : goal.returns-in-Some-clause-marked_hulls
returns-in-Some-clause-marked_hulls c =
    let k = former_hulls c.args.self.now.hulls c.args.self.now.former_hulls in
    ap (λ (h : Hulls). if c.args.self.now.created then None else Some h) (ap (λ (n : Node). hulls_known n k) c.set_state.ensures ∙ known_state c.args.state c.args.self.now.node k)

pub returns-in-Some-2-clause-hulls : goal.returns-in-Some-2-clause-hulls
returns-in-Some-2-clause-hulls c =
    let k = c.args.self.now.hulls in
    ap (λ (h : Hulls). Some h) (ap (λ (n : Node). hulls_known n k) c.set_state.ensures ∙ known_state c.args.state c.args.self.now.node k)

pub returns-in-Some-2-clause-marked_hulls : goal.returns-in-Some-2-clause-marked_hulls
returns-in-Some-2-clause-marked_hulls c =
    let k = former_hulls c.args.self.now.hulls c.args.self.now.former_hulls in
    ap (λ (h : Hulls). if c.args.self.now.created then None else Some h) (ap (λ (n : Node). hulls_known n k) c.set_state.ensures ∙ known_state c.args.state c.args.self.now.node k)

pub returns-in-Some-clause-marked : goal.returns-in-Some-clause-marked
returns-in-Some-clause-marked c on boxed =
    let e = c.args.self.now in
    let node = c.set_state.ensures in
    let former : c.filled.result ≡ record { state = state_of e.node; children = e.children } = c.filled.ensures ∙ (λ i. record { state = c.state.ensures i; children = c.replace.ensures.value i }) in
    let kept = second_so (c.args.marking && not e.created) (not (is_some e.former)) (sym c.keeps_former-keeps.ensures ∙ c.if-keeps.true) in
    (λ i. if e.created then None else Some (record { node = with_state (former i).state (node i); depth = length (node i).shape.path; parent = e.parent; index = last_from 0 (node i).shape.path; children = (former i).children.items }))
    ∙ ap (λ (f : Option Former). if e.created then None else Some (seen (restored e f))) (sym (none_kept e.former kept))
