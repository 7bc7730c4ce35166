use Rattle.std.proofs.Common.{◌++◌, ◌∙◌, ap, sym, subst}
use Rattle.cga_fraction.proofs.Door.{IfOk-map}
use Rattle.cga_index.specs.Near.{ListsNear}
use Rattle.cga_forest.specs.Walked.{lasting_tree}
use Rattle.cga_forest.proofs.Door.{lasting_laws}
use Rattle.cga_update.specs.Askers.{boxes_of}
use Rattle.cga_update.proofs.NearMoved.{boxes_join, lists_askers}
use Rattle.cga_update.proofs.askers.askers_near.Goals as goal

pub queriers_near-requires : goal.queriers_near-requires
queriers_near-requires g c = record { laws = lasting_laws c.args.forest.now c.laws.ensures }

pub returns : goal.returns
returns g c =
    let v = c.args.forest.now in
    let removed = c.args.removed.now in
    let created = c.args.created.now in
    let none = ap (λ l. l ++ boxes_of removed) c.in_ok-areas.ensures.items in
    let first = ap (λ l. l ++ boxes_of created) (c.in_ok-add_boxes.ensures ∙ none) in
    let all = c.as_slice.ensures.value ∙ c.in_ok-add_boxes-2.ensures ∙ first ∙ sym (boxes_join removed created) in
    IfOk-map c.queriers_near.result
    (λ list lists. lists_askers v c.laws.ensures (removed ++ created) list (subst (λ boxes. ListsNear (lasting_tree v) boxes list) all lists))
    c.queriers_near.ensures
