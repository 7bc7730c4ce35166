use Rattle.std.proofs.Common.{refl, sym, subst, ◌∙◌}
use Rattle.cga_top.specs.Outside.{outside_of}
use Rattle.cga_top.specs.Talks.{TalkMeans}
use Rattle.cga_words.specs.declared.status.Status.{Status}
use Rattle.cga_words.specs.declared.status.Status.TheVariants.{Done}
use Rattle.cga_top.proofs.Silent.{nothing_told, status_means}
use Rattle.cga_top.proofs.Tellings.{telling_complete, telling_means, told_left, untold_means}
use Rattle.cga_top.proofs.telling.run_and_tell.Goals as goal

pub returns-in-Done-clause-means : goal.returns-in-Done-clause-means
returns-in-Done-clause-means g c =
    let old = outside_of g.S.Source g.K.Sink c.args.script.now c.args.out.now c.args.expansions.now in
    let mid = outside_of g.S.Source g.K.Sink c.run_in.new.script c.run_in.new.out c.run_in.new.expansions in
    let d = c.args.session.now.decimals in
    telling_means d c.run_in.new.session old mid _ (status_means d Done old mid (subst (λ (s : Status). TalkMeans nothing_told d s old mid) c.in-Done.is c.run_in.ensures.means)) (c.run_in.ensures.came c.in-Done.is)
    (record { given = refl; left = refl; ended = refl; reads = refl }) refl _ (c.tell.ensures.means mid)

pub returns-in-Done-clause-told : goal.returns-in-Done-clause-told
returns-in-Done-clause-told g c = told_left _ _ _ _ (returns-in-Done-clause-means g c)

pub returns-in-Done-clause-complete : goal.returns-in-Done-clause-complete
returns-in-Done-clause-complete g c = λ few calm silent. telling_complete _ _ _ _ (returns-in-Done-clause-means g c) few calm silent c.tell.ensures.used

pub returns-in_default : goal.returns-in_default
returns-in_default g c = record {
  told = λ done. absurd (c.in_default.not-Done done);
  means = untold_means _ _ _ _ c.run_in.ensures.means c.in_default.not-Done;
  used = c.run_in.ensures.used;
  complete = c.run_in.ensures.complete;
}
