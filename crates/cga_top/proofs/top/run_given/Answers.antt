use Rattle.std.proofs.Common.{ℕ, subst}
use Rattle.cga_top.specs.Runs.{GivenMeans, sunk_in}
use Rattle.cga_top.proofs.top.run_given.Goals as goal

pub returns-clause-means : goal.returns-clause-means
returns-clause-means g c =
    subst (λ (d : ℕ). GivenMeans d c.args.script.now c.given_in-status.result (sunk_in g.K.Sink c.args.out.now c.args.expansions.now) (sunk_in g.K.Sink c.given_in-status.new.out c.given_in-status.new.expansions)) c.in-Ok.ensures.start.decimals c.given_in-status.ensures.means
