use Rattle.std.proofs.Common.{◌≡◌, ℕ, subst}
use Rattle.cga_top.specs.Outside.{outside_of}
use Rattle.cga_live.proofs.Living.{live_given, live_headline, live_means, unbegun_means}
use Rattle.cga_live.specs.Means.{LiveMeans}
use Rattle.cga_live.proofs.run.Goals as goal

pub returns-clause-means : goal.returns-clause-means
returns-clause-means g c =
    let old = outside_of g.S.Source g.K.Sink c.args.script.now c.args.out.now c.args.expansions.now in
    let new = outside_of g.S.Source g.K.Sink c.run_script.new.script c.run_script.new.out c.run_script.new.expansions in
    subst (λ (d : ℕ). LiveMeans d c.run_script.result old new) c.new-decimals.ensures (live_means _ _ _ _ c.run_script.ensures.means)

pub returns-clause-given : goal.returns-clause-given
returns-clause-given g c = λ done. live_given _ _ _ _ (returns-clause-means g c) done

pub returns-clause-headline : goal.returns-clause-headline
returns-clause-headline g c = λ done. live_headline _ _ _ _ (returns-clause-means g c) done

pub returns-in-Err-NoMemory-clause-means : goal.returns-in-Err-NoMemory-clause-means
returns-in-Err-NoMemory-clause-means g c = unbegun_means _ _
