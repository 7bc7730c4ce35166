use Rattle.std.proofs.Common.{◌≡◌, ◌++◌, ◌∙◌, List, [], ap, subst, sym}
use Rattle.cga_frame.specs.Box.{Box}
use Rattle.cga_index.specs.Around.{IsAround}
use Rattle.cga_forest.proofs.Door.{lasting_laws}
use Rattle.cga_update.specs.Askers.{boxes_of}
use Rattle.cga_update.proofs.Clearing.{found_nobody, one_box}
use Rattle.cga_update.proofs.NearMoved.{boxes_join}
use Rattle.cga_update.proofs.clear.clear_around.Goals as goal

pub queriers_meeting-requires : goal.queriers_meeting-requires
queriers_meeting-requires g c = record { laws = lasting_laws c.args.forest.now c.laws.ensures }

pub returns-then-is_empty : goal.returns-then-is_empty
returns-then-is_empty g c =
    let v = c.args.forest.now in
    let removed = c.args.removed.now in
    let created = c.args.created.now in
    let area = c.in-Some.around in
    let boxes = c.as_slice.ensures.value ∙ c.in_ok-add_boxes-2.ensures
    ∙ ap (λ (l : List Box). l ++ boxes_of created) (c.in_ok-add_boxes.ensures ∙ ap (λ (l : List Box). l ++ boxes_of removed) c.in_ok-areas.ensures.items)
    ∙ sym (boxes_join removed created) in
    let nobody = found_nobody v c.laws.ensures area c.in_ok-near.near c.in_ok-near.ensures (c.is_empty.ensures.0 c.if-is_empty.true) in
    one_box v (removed ++ created) area (subst (λ (l : List Box). IsAround l area) boxes c.in-Some.ensures) nobody
