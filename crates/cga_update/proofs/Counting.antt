-- How many nodes there are, and that each stands once.
use Rattle.std.proofs.Common.{◌≡◌, ◌+◌, ℕ, zero, suc, List, [], ◌∷◌, length, cond, not, refl, sym, ap, ◌∙◌, subst, Option, Some, None, Bool, true, false, arith}
use Rattle.std.specs.Prelude.{if◌then◌else◌}
use Rattle.cga_tree.specs.Tree.{View}
use Rattle.cga_forest.specs.declared.slot_entry.SlotEntry.{SlotEntry}
use Rattle.cga_forest.specs.Count.{tally}
use Rattle.cga_forest.specs.View.{is_shown, present_of, seen, slot}
use Rattle.cga_forest.specs.Tree.{node_at}
use Rattle.cga_rework.specs.Views.{count_of, one_if}
use Rattle.cga_rework.proofs.Door.{lists_are_views}
use Rattle.cga_agenda.specs.Loop.{Counts}
use Rattle.cga_agenda.specs.Work.{StandOnce}
use Rattle.cga_expand.specs.Settings.{Setting}
use Rattle.cga_update.specs.declared.work.Work.{Work}
use Rattle.cga_update.specs.Edit.{content, rules_of, shapes_of}
use Rattle.cga_update.specs.Means.{Means}

-- counted from the other end
from_front : {X : Type 0} (T : View X) (n : ℕ) → count_of T (suc n) ≡ one_if (T 0) + count_of (λ c. T (suc c)) n
from_front T zero = refl
from_front T (suc n) = let e = from_front T n in omega (arith, e)

shown_is : (e : Option SlotEntry) → one_if (present_of e) ≡ cond (is_shown e) 1 0
shown_is None = refl
shown_is (Some e) = by_flag e.aside
  where
    by_flag : (b : Bool) → one_if (if b then None else Some (seen e)) ≡ cond (not b) 1 0
    by_flag true = refl
    by_flag false = refl

hidden : (e : Option SlotEntry) (n : ℕ) → cond (is_shown e) 1 0 + n ≡ 0 → present_of e ≡ None
hidden None n h = refl
hidden (Some e) n h = by_flag e.aside h
  where
    by_flag : (b : Bool) → cond (not b) 1 0 + n ≡ 0 → (if b then None else Some (seen e)) ≡ None
    by_flag true h = refl
    by_flag false h = absurd (omega (arith, h))

-- where the count is 0 there is none
pub none_shown : (slots : List (Option SlotEntry)) → tally is_shown slots ≡ 0 → (c : ℕ)
    → present_of (slot slots c) ≡ None
none_shown [] h c = refl
none_shown (x ∷ xs) h zero = hidden x (tally is_shown xs) h
none_shown (x ∷ xs) h (suc c) = none_shown xs (omega (arith, h)) c

pub count_is : (slots : List (Option SlotEntry))
    → count_of (λ c. present_of (slot slots c)) (length slots) ≡ tally is_shown slots
count_is [] = refl
count_is (x ∷ xs) = from_front (λ c. present_of (slot (x ∷ xs) c)) (length xs) ∙ (λ i. shown_is x i + count_is xs i)

pub counts : (w : Work) (number : ℕ) → number ≡ tally is_shown w.forest.slots → Counts (Means w) number
counts w number is edit s means = (
  is ∙ sym (count_is w.forest.slots) ∙ sym ((lists_are_views {B = Setting}).size content (node_at w.forest) (length w.forest.slots)) ∙ sym (ap length means.nodes),
  subst StandOnce (sym means.nodes) (lists_are_views.once (shapes_of w.renewal.new.now) content (rules_of w.renewal.new.now) (node_at w.forest) (length w.forest.slots) means.underway.city),
)
