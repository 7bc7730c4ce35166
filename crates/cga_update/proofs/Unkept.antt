-- What came is on the agenda when the work begins; and where no node was kept, each came.
use Rattle.std.proofs.Common.{◌≡◌, inl, inr, ℕ, List, ap, sym, ◌∙◌, Option, Some, None, true, false}
use Rattle.std.specs.Prelude.{is_some, nat_eq}
use borrow.Author.Tests.{eqb-true}
use Rattle.cga_fraction.proofs.Door.{None-not-Some as none_some, cases_Option as option_cases}
use Rattle.cga_word.specs.declared.mode.Mode.{Mode}
use Rattle.cga_shape.specs.declared.sources.Sources.{Sources}
use Rattle.cga_depend.specs.Pairs.{DependentsView}
use Rattle.cga_forest.specs.declared.node_change.NodeChange.{NodeChange}
use Rattle.cga_forest.specs.Count.{tally}
use Rattle.cga_forest.specs.View.{Seen, is_shown}
use Rattle.cga_forest.specs.Tree.{ForestView, marked_at, node_at}
use Rattle.cga_queue.specs.Agenda.{AgendaView}
use Rattle.cga_update.specs.Due.{AskersAreDue, ComersAreDue}
use Rattle.cga_update.proofs.Beginning.{created_on}
use Rattle.cga_update.proofs.Counting.{none_shown}
use Rattle.cga_update.proofs.Rooting.{IsRooted}

pub is_zero : (count nodes : ℕ) → count ≡ nodes → nat_eq count 0 ≡ true → nodes ≡ 0
is_zero count nodes e f = sym e ∙ eqb-true count 0 f

-- each node came, where there was none before the roots came
pub all_created : (V : ℕ → Option Seen) (before after : ForestView)
    → ((c : ℕ) (x : Seen) → V c ≡ Some x → node_at after c ≡ node_at before c) → tally is_shown before.slots ≡ 0
    → (c : ℕ) (d : Seen) → node_at after c ≡ Some d → V c ≡ None
all_created V before after still none c d here = elim (option_cases (V c)) [
  | inl e ↦ e
  | inr p ↦ none_some d (sym (none_shown before.slots none c) ∙ (sym (still c p.0 p.1) ∙ here))
]

-- then nobody of the mark asks
pub none_asks : (v : ForestView) (mode : Mode) (a : AgendaView)
    → ((c : ℕ) (d : Seen) → node_at v c ≡ Some d → marked_at v c ≡ None) → AskersAreDue mode v a
none_asks v mode a created b c e d at on here asks solid less =
    let z : false ≡ true = ap is_some (sym (created c d here)) ∙ asks.0 in
    absurd (cc)

-- what came is on the agenda
pub first_due : {old new : Sources} {first v : ForestView} {d : DependentsView} {removed created : List NodeChange}
    {a : AgendaView}
    → IsRooted old new first v d removed created a → (mode : Mode) → ComersAreDue mode v a
first_due start mode b c e x at on here unmarked solid less = created_on start c x (sym (start.roots.marked c) ∙ unmarked) here
