-- That the bounds of an update are kept from turn to turn.
use Rattle.std.specs.Prelude.{refl}
use Rattle.std.proofs.Common.{◌∙◌}
use Rattle.cga_update.specs.declared.work.Work.{Work}
use Rattle.cga_update.specs.Means.{KeepsBounds}

pub keeps_itself : (w : Work) → KeepsBounds w w
keeps_itself w = record { old = refl; new = refl; mode = refl; mark = (refl, λ m c. refl); symbols = refl; rules = refl; grammars = refl; priced = refl; last = refl }

pub keeps_on : (u v w : Work) → KeepsBounds u v → KeepsBounds v w → KeepsBounds u w
keeps_on u v w a b = record {
  old = b.old ∙ a.old;
  new = b.new ∙ a.new;
  mode = b.mode ∙ a.mode;
  mark = (b.mark.0 ∙ a.mark.0, λ m c. b.mark.1 (a.mark.0 ∙ m) c ∙ a.mark.1 m c);
  symbols = b.symbols ∙ a.symbols;
  rules = b.rules ∙ a.rules;
  grammars = b.grammars ∙ a.grammars;
  priced = b.priced ∙ a.priced;
  last = b.last ∙ a.last;
}
