use Rattle.std.proofs.Common.{ℕ, subst}
use Rattle.cga_top.specs.Talks.{TalkMeans}
use Rattle.cga_top.specs.Outside.{outside_of}
use Rattle.cga_top.proofs.Ends.{none_means}
use Rattle.cga_top.proofs.top.run_script.Goals as goal

pub returns-clause-means : goal.returns-clause-means
returns-clause-means g c =
    subst (λ (d : ℕ). TalkMeans g.W.Talker.told d c.run_in-status.result (outside_of g.S.Source g.K.Sink c.args.script.now c.args.out.now c.args.expansions.now) (outside_of g.S.Source g.K.Sink c.run_in-status.new.script c.run_in-status.new.out c.run_in-status.new.expansions))
    c.in-Ok.ensures.start.decimals c.run_in-status.ensures.means

pub returns-in-Err-clause-means : goal.returns-in-Err-clause-means
returns-in-Err-clause-means g c =
    none_means g.W.Talker.told _ (outside_of g.S.Source g.K.Sink c.args.script.now c.args.out.now c.args.expansions.now)
