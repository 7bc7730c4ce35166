-- From one edit to the next.
use Rattle.std.proofs.Common.{◌≡◌, ℕ, List, Bool, true, inl, inr, sym, ◌∙◌, subst}
use Rattle.std.specs.Prelude.{Some, None}
use Rattle.cga_tree.specs.Tree.{Seen, View}
use Rattle.cga_order.specs.Agenda.{Node}
use Rattle.cga_agenda.specs.Work.{NoneQueued, IsStart, IsWorking}
use Rattle.cga_rework.specs.Rules.{Shapes, Rules, no_lots}
use Rattle.cga_rework.specs.Ranked.{Ranked, edit_of}
use Rattle.cga_rework.specs.Nodes.{Content, ranked_of, nodes_of, IsBound}
use Rattle.cga_rework.specs.City.{IsUnderway, Stands}
use Rattle.cga_rework.specs.Agenda.{AreQueued}
use Rattle.cga_rework.specs.TreeLaws.{StandsAgain}
use Rattle.cga_rework.proofs.NodeLists.{option_cases, none_some, true_false, node-keeps, keeps-node}
use Rattle.cga_rework.proofs.Views.{same_bound, same_view}
use Rattle.cga_rework.proofs.Again.{again}

module _ {X S A B F P : Type 0} (shapes : Shapes S) (content : Content X S A F P) where
  module _ (old new : Rules S A B F P) (asks : S → Bool) (T : View X) (n : ℕ) (start : List (Node (Ranked S) A F P)) (agenda : ℕ → Bool) (queued : Ranked S → Bool) (turned worked : List (Ranked S))
      (bound : IsBound T n) (under : IsUnderway shapes content new asks T agenda) (are : AreQueued shapes content T agenda queued)
      (working : IsWorking (edit_of shapes old new) start (nodes_of content T n) queued turned worked)
      (none : NoneQueued (edit_of shapes old new) (nodes_of content T n) queued) where
    off : (c : ℕ) (d : Seen X) → T c ≡ Some d → agenda c ≡ true → ⊥
    off c d t q = true_false (queued (ranked_of content d.node)) ((are c d t).1 q)
        (none (ranked_of content d.node) (content.kind d.node) (content.answers d.node) (node-keeps content T n c d (bound c d t) t))

    pub done : Stands shapes content new asks T
    done = record {
      city = under.city;
      started = λ m b. subst (λ l. IsStart (edit_of shapes new new) l) (sym (same_bound content T n m bound b))
          (again shapes old new new start (nodes_of content T n) queued turned worked working none);
      priced = λ c d t solid. elim (option_cases d.parent) [
        | inl top ↦ (under.city.tops.top c d t top).1
        | inr up ↦
            let u = under.city.tree.up c up.0 d t up.1 in
            elim (under.priced c up.0 d u.0 t up.1 u.1 solid) [
              | inl q ↦ absurd (off up.0 u.0 u.1 q)
              | inr p ↦ p
            ]
      ];
      asking = λ c d t solid. elim (under.asking c d t solid) [
        | inl q ↦ absurd (off c d t q)
        | inr a ↦ a
      ];
    }

  empty : (rules : Rules S A B F P) (asks : S → Bool) (V : View X) → ((c : ℕ) → V c ≡ None)
      → Stands shapes content (no_lots rules) asks V
  empty rules asks V none = record {
    city = record {
      tree = record {
        down = λ id i c e v h. nothing id e v;
        up = λ c p d v h. nothing c d v;
        shallow = λ id e v. nothing id e v;
        at_root = λ id e v h. nothing id e v;
      };
      root = λ c d v top. nothing c d v;
      child = λ c p d e v up at. nothing c d v;
      drawn = λ c p d e v up at q. nothing c d v;
      tops = record {
        top = λ c d v top. nothing c d v;
        tops = λ s h. absurd h;
        one_top = λ c b d e v u top top' same. nothing c d v;
      };
    };
    started = λ n b. record {
      tree = record {
        distinct = λ m l k j a b h g same. let y = keeps-node content V n m k a h in nothing y.0 y.1 y.2;
        roots = λ m h. absurd h;
        under = λ m k a h. let y = keeps-node content V n m k a h in nothing y.0 y.1 y.2;
      };
      right = λ m k a h solid. let y = keeps-node content V n m k a h in nothing y.0 y.1 y.2;
    };
    priced = λ c d v solid. nothing c d v;
    asking = λ c d v solid. nothing c d v;
  }
    where
      nothing : {Y : Type 0} (c : ℕ) (d : Seen X) → V c ≡ Some d → Y
      nothing c d v = none_some d (sym (none c) ∙ v)

-- what work leaves stands; what stands starts an edit; put back, it stands; no nodes stand for rules without lots
pub stands_again : {X S A B F P : Type 0} → StandsAgain X S A B F P
stands_again = record {
  done = λ shapes content old new asks T n start agenda queued turned worked bound under are working none. done
      shapes content old new asks T n start agenda queued turned worked bound under are working none;
  start = λ shapes content old new asks V n bound stood. let x = stood.started n bound in record { tree = x.tree; right = x.right };
  back = λ shapes content rules asks V T same stood. subst (λ U. Stands shapes content rules asks U) (sym (same_view content V T same)) stood;
  nothing = λ shapes content rules asks V none. empty shapes content rules asks V none;
}
