use Rattle.std.proofs.Common.{◌≡◌, ◌∙◌, ◌-◌, List, length, Some, None, ap, sym, subst, rules, IfOk}
use Rattle.std.specs.Prelude.{All, slice_get}
use Rattle.cga_shape.specs.declared.edit.Edit.TheVariants as edit
use Rattle.cga_shape.specs.declared.sources.Sources.{Sources}
use Rattle.cga_script.specs.declared.refused.Refused.TheVariants as refused
use Rattle.cga_undo.specs.History.{Kept, StepGives, redone, turned}
use Rattle.cga_top.specs.Effect.{Effect}
use Rattle.cga_top.specs.Session.{Did}
use Rattle.cga_top.specs.Written.{AreWritten}
use Rattle.cga_top.proofs.Histories.{left_by, redone_some, kept_after, more_written, fewer_written, one_written}
use Rattle.cga_top.proofs.Steps.{accepted_ready, accepts_of, before_written, history_same, on_ok, no_step, refuses_of, step_refused, redone_there, redone_nowhere, step_did}
use Rattle.cga_top.proofs.edits.redo.Goals as goal

pub returns-in_default-clause-did : goal.returns-in_default-clause-did
returns-in_default-clause-did g c = λ s st.
    let future = c.args.session.now.history.future in
    let none : slice_get future (length future - 1) ≡ None = subst (λ (p : List Sources). slice_get p (length p - 1) ≡ None) c.future.ensures.value (sym (c.in_default.ensures {u = tt}).value) in
    let nothing = no_step s refused.NoRedo _ (redone_nowhere s c.args.session.now.history st.kept none) in
    subst (λ (e : Effect). IfOk c.refusal_text.result (λ reply. Did e c.args.session.now.city.changes c.args.session.now reply c.args.expansions.now c.args.expansions.now)) (sym nothing) (search rules)

pub do_edit-requires-clause-lots : goal.do_edit-requires-clause-lots
do_edit-requires-clause-lots g c =
    let future = c.args.session.now.history.future in
    let last : slice_get future (length future - 1) ≡ Some c.in-Some.last.now = subst (λ (p : List Sources). slice_get p (length p - 1) ≡ Some c.in-Some.last.now) c.future.ensures.value (sym (c.in-Some.ensures {u = tt}).value) in
    let taken : AreWritten c.in_ok-taken.taken = subst AreWritten (sym (c.in_ok-taken.ensures {u = tt})) (one_written future _ c.in-Some.last.now last c.requires.future) in
    taken.names

pub returns-in-Ok-clause-did : goal.returns-in-Ok-clause-did
returns-in-Ok-clause-did g c = λ s st.
    let history = c.args.session.now.history in
    let before = c.in-Ok.before in
    let last : slice_get history.future (length history.future - 1) ≡ Some c.in-Some.last.now = subst (λ (p : List Sources). slice_get p (length p - 1) ≡ Some c.in-Some.last.now) c.future.ensures.value (sym (c.in-Some.ensures {u = tt}).value) in
    let taken : AreWritten c.in_ok-taken.taken = subst AreWritten (sym (c.in_ok-taken.ensures {u = tt})) (one_written history.future _ c.in-Some.last.now last c.requires.future) in
    let accepts = accepts_of _ _ _ _ _ _ _ c.in-Ok.is (c.in_ok-told.ensures {u = tt}) in
    let gives : StepGives (redone history before) history before c.redo.result c.redo.new.self = subst (λ (k : Kept). StepGives (redone k before) k before c.redo.result c.redo.new.self) (history_same _ _ _ _ _ _ accepts) c.redo.ensures in
    let kept = kept_after _ _ _ _ _ _ (redone_some history before c.in-Some.last.now last) gives in
    step_did s c.args.session.now c.do_edit.new.session c.redo.new.self refused.NoRedo (redone s.kept s.sources) _ c.in_ok-taken.taken before c.accepted.result _ _
    (record { there = redone_there s history c.in-Some.last.now st.kept last; takes = c.in_ok-taken.ensures {u = tt} })
    (record {
      is_at = st;
      apart = taken.names;
      accepts = accepts;
      kept = kept ∙ ap (λ (n : Sources). turned (left_by (turned history) n)) (accepts.before_is ∙ st.sources);
      reply = c.accepted.ensures;
    })

pub returns-in-Ok-clause-ready : goal.returns-in-Ok-clause-ready
returns-in-Ok-clause-ready g c =
    let history = c.args.session.now.history in
    let before = c.in-Ok.before in
    let last : slice_get history.future (length history.future - 1) ≡ Some c.in-Some.last.now = subst (λ (p : List Sources). slice_get p (length p - 1) ≡ Some c.in-Some.last.now) c.future.ensures.value (sym (c.in-Some.ensures {u = tt}).value) in
    let taken : AreWritten c.in_ok-taken.taken = subst AreWritten (sym (c.in_ok-taken.ensures {u = tt})) (one_written history.future _ c.in-Some.last.now last c.requires.future) in
    let accepts = accepts_of _ _ _ _ _ _ _ c.in-Ok.is (c.in_ok-told.ensures {u = tt}) in
    let gives : StepGives (redone history before) history before c.redo.result c.redo.new.self = subst (λ (k : Kept). StepGives (redone k before) k before c.redo.result c.redo.new.self) (history_same _ _ _ _ _ _ accepts) c.redo.ensures in
    let kept = kept_after _ _ _ _ _ _ (redone_some history before c.in-Some.last.now last) gives in
    let written = before_written _ _ _ _ _ _ c.requires accepts in
    on_ok c.accepted.result _ (accepted_ready _ _ c.redo.new.self (edit.Whole c.in_ok-taken.taken) _ _ _ c.requires taken accepts
    (subst (λ (k : Kept). All AreWritten k.past) (sym kept) (more_written history.past before c.requires.past written))
    (subst (λ (k : Kept). All AreWritten k.future) (sym kept) (fewer_written _ history.future c.requires.future)))

pub returns-in-Err-clause-did : goal.returns-in-Err-clause-did
returns-in-Err-clause-did g c = λ s st.
    let history = c.args.session.now.history in
    let last : slice_get history.future (length history.future - 1) ≡ Some c.in-Some.last.now = subst (λ (p : List Sources). slice_get p (length p - 1) ≡ Some c.in-Some.last.now) c.future.ensures.value (sym (c.in-Some.ensures {u = tt}).value) in
    step_refused s c.args.session.now c.do_edit.new.session refused.NoRedo (redone s.kept s.sources) _ c.in_ok-taken.taken c.in-Err.refused c.refusal_text-in-Err.result _ _
    (record { there = redone_there s history c.in-Some.last.now st.kept last; takes = c.in_ok-taken.ensures {u = tt} })
    (record {
      is_at = st;
      refusal = refuses_of _ _ _ _ _ _ _ c.in-Err.is (c.in_ok-told.ensures {u = tt});
      reply = c.refusal_text-in-Err.ensures;
    })
