use Rattle.cga_update.proofs.Answered.{asked_is}
use Rattle.cga_update.proofs.asked.asked.Goals as goal

pub returns : goal.returns
returns g c = λ old new d mode here noparent active.
    asked_is c.args.forest.now c.laws.ensures old new mode c.args.id d here c.args.said.noparent c.args.said.active (record { first = noparent; second = active })
    (record { noparent = c.answered-noparent.result; active = c.answered-active.result }) (record { first = c.answered-noparent.ensures; second = c.answered-active.ensures })
