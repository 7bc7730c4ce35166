use Rattle.std.proofs.lemmas.Result.{IfOk-weaker}
use Rattle.cga_trace.proofs.Parts.{path_behind}
use Rattle.cga_trace.proofs.reading.read_path.Goals as goal

pub returns-clause-again : goal.returns-clause-again
returns-clause-again c =
    IfOk-weaker c.read_indices.result _ _ (λ path h is few at. h is few (path_behind is c.args.text.now c.behind.result.now at c.behind.ensures)) c.read_indices.ensures.again
