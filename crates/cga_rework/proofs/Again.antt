-- What an edit ends with is what the next starts from.
use Rattle.std.proofs.Common.{◌≡◌, List, [], Bool, true, false, sym, ap, ◌∙◌, inl, inr}
use Rattle.cga_order.specs.declared.placed.Kind.{Kind}
use Rattle.cga_order.specs.Agenda.{Node, Keeps}
use Rattle.cga_rework.specs.Ranked.{Ranked, edit_of}
use Rattle.cga_agenda.specs.Work.{IsWorking, IsStart}
use Rattle.cga_derivation.specs.Derivation.{IsDerivation}
use Rattle.cga_rework.specs.Rules.{Shapes, Rules, IsRulesEdit, Readings, IsReadBy, derivation_of, no_lots}

module _ {S A B F P : Type 0} (shapes : Shapes S) where
  pub readings_make : (readings : Readings S A B F P) (old new : Rules S A B F P)
      → IsDerivation (derivation_of shapes old) → IsDerivation (derivation_of shapes new) → IsReadBy readings old
      → IsReadBy readings new → IsRulesEdit shapes old new
  readings_make readings old new was is olds news = record {
    was = was;
    is = is;
    answers = λ s xs ws e. olds.answered s xs ws ∙ (ap (λ b. readings.answers_by b s xs ws) e ∙ sym (news.answered s xs ws));
    outcome = λ s a e. olds.expanded s a ∙ (ap (λ b. readings.expand_by b s a) e ∙ sym (news.expanded s a));
  }

  pub again : (old new next : Rules S A B F P) (start now : List (Node (Ranked S) A F P)) (queued : Ranked S → Bool)
      (turned worked : List (Ranked S))
      → IsWorking (edit_of shapes old new) start now queued turned worked
      → ((n : Ranked S) (k : Kind F P) (a : A) → Keeps now n k a → queued n ≡ false)
      → IsStart (edit_of shapes new next) now
  again old new next start now queued turned worked good empty = record {
    tree = good.tree;
    right = λ n k a h i. elim (good.right n k a h i) [
      | inl q ↦ let x : true ≡ false = sym q ∙ empty n k a h in cc
      | inr r ↦ inr r
    ];
  }

  pub first : (new : Rules S A B F P) → IsStart (edit_of shapes (no_lots new) new) []
  first new = record {
    tree = record {
      distinct = λ n m k j a b h g e. absurd h;
      roots = λ n h. absurd h;
      under = λ n k a h. absurd h;
    };
    right = λ n k a h i. absurd h;
  }
