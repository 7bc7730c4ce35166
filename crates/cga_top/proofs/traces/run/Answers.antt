use Rattle.std.proofs.lemmas.Result.{IfOk-weaker}
use Rattle.cga_top.proofs.CityRuns.{state_run}
use Rattle.cga_top.proofs.traces.run.Goals as goal

pub returns-clause-value : goal.returns-clause-value
returns-clause-value c = λ s at.
    IfOk-weaker c.trace.result _ _ (λ steps run. state_run s c.args.session.now at c.sources-sources.result.now c.sources-sources.ensures.value c.sources-sources.ensures.sound c.sources-sources.ensures.within steps run) c.trace.ensures.run
