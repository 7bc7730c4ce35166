use Rattle.std.proofs.Common.{◌≡◌, ◌∙◌, ap, ℕ}
use Rattle.cga_forest.specs.Tree.{ForestView, node_at}
use Rattle.cga_update.proofs.Reworking.{begun_before, marked_stands, where_ok}
use Rattle.cga_update.proofs.rework.begin_work.Goals as goal

pub begun-requires : goal.begun-requires
begun-requires g c =
    let was : c.replace-marked.result ≡ c.args.kept.now.forest = c.replace-marked.ensures.value in
    let nodes : (k : ℕ) → node_at c.replace-marked.result k ≡ node_at c.args.kept.now.forest k = λ k. ap (λ (v : ForestView). node_at v k) was in
    record {
      stands = marked_stands c.args.renewal.old.now c.args.renewal.new.now c.requires.mode c.args.renewal.old_names c.args.renewal.names c.args.kept.now c.requires.stands
          c.begin.new.self c.begin.ensures.marking (λ k. c.begin.ensures.present k ∙ nodes k) (λ k. c.begin.ensures.marked k ∙ nodes k) (c.begin.ensures.mode ∙ ap (λ (v : ForestView). v.mode) was);
    }

pub returns-clause-begun : goal.returns-clause-begun
returns-clause-begun g c =
    let was : c.replace-marked.result ≡ c.args.kept.now.forest = c.replace-marked.ensures.value in
    where_ok c.begun.result
    (λ w h. begun_before c.args.renewal.old.now c.args.renewal.new.now c.requires.mode c.args.renewal.old_names c.args.renewal.names c.args.kept.now c.requires.stands c.begin.new.self (λ k. c.begin.ensures.present k ∙ ap (λ (v : ForestView). node_at v k) was) w h)
    c.begun.ensures.begun
