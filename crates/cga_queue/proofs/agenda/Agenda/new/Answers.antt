use Rattle.std.proofs.Common.{◌∙◌, [], ap}
use Rattle.cga_queue.proofs.Stamped.{viewed, viewed_none}
use Rattle.cga_queue.proofs.agenda.Agenda.new.Goals as goal

pub returns : goal.returns
returns c = ap (λ es. viewed c.args.mode es c.new-2.result.items) c.new.ensures.empty ∙ ap (viewed c.args.mode []) c.new-2.ensures.items ∙ viewed_none c.args.mode
