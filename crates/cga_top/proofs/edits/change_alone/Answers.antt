use Rattle.cga_top.specs.Replies.{noted_by}
use Rattle.cga_top.proofs.Numbers.{distinct}
use Rattle.cga_top.proofs.Steps.{alone_did, alone_ready, on_ok, refused_did, works_of, works_refused}
use Rattle.cga_top.proofs.edits.change_alone.Goals as goal

pub work_edit-requires-clause-lots : goal.work_edit-requires-clause-lots
work_edit-requires-clause-lots g c = distinct c.args.edit c.requires.written

pub returns-in-Ok-clause-did : goal.returns-in-Ok-clause-did
returns-in-Ok-clause-did g c = λ s st.
    alone_did s c.args.session.now c.work_edit.new.session c.args.edit c.accepted.result _ _ st c.requires.one (distinct c.args.edit c.requires.written)
    (works_of _ _ _ _ _ _ c.in-Ok.is (c.in_ok-told.ensures {u = tt})) c.accepted.ensures

pub returns-in-Ok-clause-ready : goal.returns-in-Ok-clause-ready
returns-in-Ok-clause-ready g c =
    let accepts = works_of _ _ _ _ _ _ c.in-Ok.is (c.in_ok-told.ensures {u = tt}) in
    on_ok c.accepted.result _ (alone_ready _ _ _ _ _ c.requires.ready c.requires.written accepts)

pub returns-in-Err-clause-did : goal.returns-in-Err-clause-did
returns-in-Err-clause-did g c = λ s st.
    refused_did s c.args.session.now c.work_edit.new.session (noted_by s.version s.kept s.sources) c.args.edit c.in-Err.refused c.refusal_text.result _ _ st (works_refused _ _ _ _ _ _ _ c.in-Err.is (c.in_ok-told.ensures {u = tt})) c.refusal_text.ensures
