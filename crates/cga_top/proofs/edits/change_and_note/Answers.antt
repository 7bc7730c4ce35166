use Rattle.std.specs.Prelude.{All}
use Rattle.std.proofs.Common.{◌≡◌, ◌∙◌, ap, sym, subst}
use Rattle.std.proofs.lemmas.List.Elements.{All-nil}
use Rattle.cga_undo.specs.History.{Kept, noted}
use Rattle.cga_top.specs.Replies.{noted_by}
use Rattle.cga_top.specs.Written.{AreWritten}
use Rattle.cga_top.proofs.Numbers.{distinct}
use Rattle.cga_top.proofs.Histories.{noted_written}
use Rattle.cga_top.proofs.Steps.{accepted_ready, accepts_of, before_written, change_did, history_same, on_ok, refused_did, refuses_of}
use Rattle.cga_top.proofs.edits.change_and_note.Goals as goal

pub do_edit-requires-clause-lots : goal.do_edit-requires-clause-lots
do_edit-requires-clause-lots g c = distinct c.args.edit c.requires.written

pub returns-in-Ok-clause-did : goal.returns-in-Ok-clause-did
returns-in-Ok-clause-did g c = λ s st.
    change_did s c.args.session.now c.do_edit.new.session c.note.new.self c.args.edit c.in-Ok.before c.accepted.result _ _ c.requires.two
    (record {
      is_at = st;
      apart = distinct c.args.edit c.requires.written;
      accepts = accepts_of _ _ _ _ _ _ _ c.in-Ok.is (c.in_ok-told.ensures {u = tt});
      kept = c.note.ensures;
      reply = c.accepted.ensures;
    })

pub returns-in-Ok-clause-ready : goal.returns-in-Ok-clause-ready
returns-in-Ok-clause-ready g c =
    let accepts = accepts_of _ _ _ _ _ _ _ c.in-Ok.is (c.in_ok-told.ensures {u = tt}) in
    let before = before_written _ _ _ _ _ _ c.requires.ready accepts in
    let kept : c.note.new.self ≡ noted c.args.session.now.history c.in-Ok.before = c.note.ensures ∙ ap (λ (k : Kept). noted k c.in-Ok.before) (history_same _ _ _ _ _ _ accepts) in
    on_ok c.accepted.result _ (accepted_ready _ _ c.note.new.self _ _ _ _ c.requires.ready c.requires.written accepts
    (subst (λ (k : Kept). All AreWritten k.past) (sym kept) (noted_written _ _ c.requires.ready.past before))
    (subst (λ (k : Kept). All AreWritten k.future) (sym kept) (All-nil AreWritten)))

pub returns-in-Err-clause-did : goal.returns-in-Err-clause-did
returns-in-Err-clause-did g c = λ s st.
    refused_did s c.args.session.now c.do_edit.new.session (noted_by s.version s.kept s.sources) c.args.edit c.in-Err.refused c.refusal_text.result _ _ st (refuses_of _ _ _ _ _ _ _ c.in-Err.is (c.in_ok-told.ensures {u = tt})) c.refusal_text.ensures
