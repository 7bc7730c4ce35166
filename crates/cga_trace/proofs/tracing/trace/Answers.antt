use Rattle.std.proofs.Common.{sym, ◌∙◌, subst}
use Rattle.std.specs.List.{AllZip}
use Rattle.std.specs.Prelude.{All, IsSorted}
use Rattle.std.proofs.lemmas.List.Sorted.{All-permutation}
use Rattle.cga_expand.specs.Run.{IsRun}
use Rattle.cga_forest.proofs.Door.{keeps_laws}
use Rattle.cga_trace.specs.Order.{IsStepOf, IsTurn, turns_cmp}
use Rattle.cga_trace.specs.Text.{AreSteps}
use Rattle.cga_trace.proofs.Turning.{is_run}
use Rattle.cga_trace.proofs.tracing.trace.Goals as goal

pub all_nodes-requires : goal.all_nodes-requires
all_nodes-requires c = record { laws = keeps_laws c.args.forest.now c.laws.ensures }

pub steps_of-requires : goal.steps_of-requires
steps_of-requires c =
    let are = All-permutation (IsTurn c.args.forest.now) _ _ c.sort_turns.ensures.same c.in_ok-turns.ensures.each in
    record { turns = subst (All (IsTurn c.args.forest.now)) (sym c.as_slice-2.ensures.value) are }

pub returns-clause-run : goal.returns-clause-run
returns-clause-run c = λ sources end known.
    let v = c.args.forest.now in
    let ids = c.as_slice.result.now in
    let turns = c.sort_turns.new.turns.items in
    let steps = c.in_ok-steps.steps.items in
    let all = c.as_slice.ensures.value ∙ c.in_ok-nodes.ensures in
    let up = subst (λ m. IsSorted (turns_cmp m) turns) c.mode.ensures c.in_ok-sort_turns.ensures.sorted in
    let zip = subst (λ l. AllZip (IsStepOf v) l steps) c.as_slice-2.ensures.value c.in_ok-steps.ensures.steps in
    let run = is_run sources end v known c.laws.ensures ids all c.in_ok-turns.turns.items c.in_ok-turns.ensures turns c.sort_turns.ensures.same up steps zip in
    subst (IsRun sources) (sym c.from_vec.ensures) run

pub returns-clause-fields : goal.returns-clause-fields
returns-clause-fields c = subst AreSteps (sym c.from_vec.ensures) c.in_ok-steps.ensures.fields
