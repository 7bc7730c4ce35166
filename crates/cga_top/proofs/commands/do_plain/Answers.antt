use Rattle.std.proofs.Common.{[], sym, subst, IfOk}
use Rattle.cga_script.specs.declared.script_command.ScriptCommand.{ScriptCommand}
use Rattle.cga_top.specs.State.{of_rules, of_city, of_judge}
use Rattle.cga_top.specs.Replies.{done_by}
use Rattle.cga_top.specs.Session.{Did}
use Rattle.cga_top.proofs.commands.do_plain.Goals as goal

pub returns-in-Rules-clause-did : goal.returns-in-Rules-clause-did
returns-in-Rules-clause-did c = λ s n st.
    subst (λ (a : ScriptCommand). Did (done_by s a) c.args.session.now.city.changes c.open.new.session c.open.result n n) (sym c.in-Rules.is)
    (c.open.ensures.did s (of_rules []) n st c.new-in-Rules.ensures)

pub returns-in-CityBlock-clause-did : goal.returns-in-CityBlock-clause-did
returns-in-CityBlock-clause-did c = λ s n st.
    subst (λ (a : ScriptCommand). Did (done_by s a) c.args.session.now.city.changes c.open-in-CityBlock.new.session c.open-in-CityBlock.result n n) (sym c.in-CityBlock.is)
    (c.open-in-CityBlock.ensures.did s (of_city []) n st c.new-in-CityBlock.ensures)

pub returns-in-AssetBlock-clause-did : goal.returns-in-AssetBlock-clause-did
returns-in-AssetBlock-clause-did c = λ s n st.
    subst (λ (a : ScriptCommand). Did (done_by s a) c.args.session.now.city.changes c.open_asset.new.session c.open_asset.result n n) (sym c.in-AssetBlock.is)
    (c.open_asset.ensures.did s n st)

pub returns-in-JudgeBlock-clause-did : goal.returns-in-JudgeBlock-clause-did
returns-in-JudgeBlock-clause-did c = λ s n st.
    subst (λ (a : ScriptCommand). Did (done_by s a) c.args.session.now.city.changes c.open-in-JudgeBlock.new.session c.open-in-JudgeBlock.result n n) (sym c.in-JudgeBlock.is)
    (c.open-in-JudgeBlock.ensures.did s (of_judge []) n st c.new-in-JudgeBlock.ensures)

pub returns-in-Dress-clause-did : goal.returns-in-Dress-clause-did
returns-in-Dress-clause-did c = λ s n st.
    subst (λ (a : ScriptCommand). IfOk c.dress.result (λ reply. Did (done_by s a) c.args.session.now.city.changes c.dress.new.session reply n n)) (sym c.in-Dress.is)
    (c.dress.ensures.did s n st)

pub returns-in-Undress-clause-did : goal.returns-in-Undress-clause-did
returns-in-Undress-clause-did c = λ s n st.
    subst (λ (a : ScriptCommand). IfOk c.undress.result (λ reply. Did (done_by s a) c.args.session.now.city.changes c.undress.new.session reply n n)) (sym c.in-Undress.is)
    (c.undress.ensures.did s n st)
