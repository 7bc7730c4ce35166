-- Removing and adding roots, one after the other.
use Rattle.std.proofs.Common.{◌≡◌, ℕ, Bool, true, false, ◌||◌, inl, inr, refl, ap, sym, ◌∙◌}
use Rattle.std.specs.Prelude.{Option, Some, None, if◌then◌else◌}
use Rattle.cga_tree.specs.Tree.{Seen, View}
use Rattle.cga_rework.specs.Nodes.{Content}
use Rattle.cga_rework.specs.Begin.{IsRerooted, IsRemoved, IsAdded}
use Rattle.cga_rework.specs.TreeLaws.{RootsAddUp}
use Rattle.cga_rework.proofs.NodeLists.{bool_cases, nat_cases, some_same, none_some}

twice : {X : Type 0} (b g : Bool) (o : Option X)
    → (if b then None else (if g then None else o)) ≡ (if g || b then None else o)
twice true true o = refl
twice true false o = refl
twice false true o = refl
twice false false o = refl

module _ {X S A F P : Type 0} (content : Content X S A F P) where
  nothing : (V : View X) → IsRerooted content V V (λ c. false)
  nothing V = record {
    rest = λ c d v. v;
    along = λ c p d v up. refl;
    top = λ c d none v. none_some d (sym none ∙ v);
    leaf = λ c d none v. none_some d (sym none ∙ v);
    waits = λ c d none v. none_some d (sym none ∙ v);
    other = λ c b d x none v. none_some d (sym none ∙ v);
  }

  module _ (V U T : View X) (gone : ℕ → Bool) (r : IsRerooted content V U gone) where
    module _ (h : ℕ → Bool) (x : IsRemoved content U T h) where
      back : (c : ℕ) (d : Seen X) → T c ≡ Some d → U c ≡ Some d
      back c d t = elim (bool_cases (h c)) [
        | inl y ↦ none_some d (sym (x.rest c ∙ ap (λ b. if b then None else U c) y) ∙ t)
        | inr z ↦ sym (x.rest c ∙ ap (λ b. if b then None else U c) z) ∙ t
      ]

      removed : IsRerooted content V T (λ c. gone c || h c)
      removed = record {
        rest = λ c d v. x.rest c ∙ ap (λ o. if h c then None else o) (r.rest c d v) ∙ twice (h c) (gone c) (Some d);
        along = λ c p d v up. elim (bool_cases (gone c)) [
          | inl y ↦ ap (λ b. b || h c) y ∙ sym (ap (λ b. b || h p) (sym (r.along c p d v up) ∙ y))
          | inr z ↦
              let u : U c ≡ Some d = r.rest c d v ∙ ap (λ b. if b then None else Some d) z in
              ap (λ b. b || h c) (r.along c p d v up) ∙ ap (λ b. gone p || b) (x.along c p d u up)
        ];
        top = λ c d none t. r.top c d none (back c d t);
        leaf = λ c d none t. r.leaf c d none (back c d t);
        waits = λ c d none t. r.waits c d none (back c d t);
        other = λ c b d y none t. r.other c b d y none (back c d t);
      }

    module _ (id : ℕ) (x : Seen X) (a : IsAdded content V U T id x) where
      added : IsRerooted content V T gone
      added = record {
        rest = λ c d v. elim (nat_cases c id) [
          | inl q ↦ none_some d (sym a.unmarked ∙ ap V (sym q) ∙ v)
          | inr ne ↦ a.others c ne ∙ r.rest c d v
        ];
        along = r.along;
        top = λ c d none t. elim (nat_cases c id) [
          | inl q ↦ ap (λ (y : Seen X). y.parent) (some_same d x (sym t ∙ ap T q ∙ a.here)) ∙ a.top
          | inr ne ↦ r.top c d none (sym (a.others c ne) ∙ t)
        ];
        leaf = λ c d none t. elim (nat_cases c id) [
          | inl q ↦ ap (λ (y : Seen X). y.children) (some_same d x (sym t ∙ ap T q ∙ a.here)) ∙ a.leaf
          | inr ne ↦ r.leaf c d none (sym (a.others c ne) ∙ t)
        ];
        waits = λ c d none t. elim (nat_cases c id) [
          | inl q ↦ ap (λ (y : Seen X). content.kind y.node) (some_same d x (sym t ∙ ap T q ∙ a.here)) ∙ a.waits
          | inr ne ↦ r.waits c d none (sym (a.others c ne) ∙ t)
        ];
        other = λ c b d y none t v top shape priority. elim (nat_cases c id) [
          | inl q ↦
              let same : d ≡ x = some_same d x (sym t ∙ ap T q ∙ a.here) in
              a.other b y v top (shape ∙ ap (λ (z : Seen X). content.shape z.node) same) (priority ∙ ap (λ (z : Seen X). content.priority z.node) same)
          | inr ne ↦ r.other c b d y none (sym (a.others c ne) ∙ t) v top shape priority
        ];
      }

pub roots_add_up : {X S A F P : Type 0} → RootsAddUp X S A F P
roots_add_up = record {
  nothing = λ content V. nothing content V;
  removal = λ content V U T gone h r x. removed content V U T gone r h x;
  addition = λ content V U T gone id x r a. added content V U T gone r id x a;
}
