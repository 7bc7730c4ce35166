-- Old and new sources make an edit of the theory.
use Rattle.std.proofs.Common.{ap}
use Rattle.cga_shape.specs.declared.sources.Sources.{Sources}
use Rattle.cga_derivation.specs.Derivation.{IsDerivation}
use Rattle.cga_agenda.specs.Edit.{IsEdit}
use Rattle.cga_rework.specs.Rules.{IsRulesEdit, derivation_of}
use Rattle.cga_expand.proofs.Door.{settings_decide, sources_are_derivations}
use Rattle.cga_rework.proofs.Door.{make}
use Rattle.cga_rework.specs.TreeLaws.{GoesBySymbol}
use Rattle.cga_expand.specs.Derivation.{NamesDiffer, priority_of}
use Rattle.cga_update.specs.Edit.{content, shapes_of, rules_of, the_edit}

-- the rules of sources make a derivation in any mode
pub is_derivation : (sources new : Sources) → NamesDiffer sources.lots
    → IsDerivation (derivation_of (shapes_of new) (rules_of sources))
is_derivation sources new names =
    let d = sources_are_derivations sources names in
    record { root = d.root; roots_apart = d.roots_apart; child = d.child; unseen = d.unseen; local = d.local }

pub is_rules_edit : (old new : Sources) → NamesDiffer old.lots → NamesDiffer new.lots
    → IsRulesEdit (shapes_of new) (rules_of old) (rules_of new)
is_rules_edit old new olds news = record {
  was = is_derivation old new olds;
  is = is_derivation new new news;
  answers = λ s existing waiting same. (settings_decide old.grammar new.grammar s same).0 existing waiting;
  outcome = λ s a same. (settings_decide old.grammar new.grammar s same).2 a;
}

pub is_edit : (old new : Sources) → NamesDiffer old.lots → NamesDiffer new.lots → IsEdit (the_edit old new)
is_edit old new olds news = make (shapes_of new) (rules_of old) (rules_of new) (is_rules_edit old new olds news)

pub by_symbol : (new : Sources) → GoesBySymbol content (rules_of new)
by_symbol new a b h = ap (priority_of new.grammar) h
