use Rattle.cga_derive.proofs.Stepping.{over}
use Rattle.cga_derive.proofs.run.Run.is_over.Goals as goal

pub returns : goal.returns
returns c = λ sources n under.
    let is = over sources n c.args.self.now.list.items c.args.self.now.waiting.entries under.after in
    (λ yes. is.0 (c.is_empty.ensures.0 yes), λ quiet. c.is_empty.ensures.1 (is.1 quiet))
