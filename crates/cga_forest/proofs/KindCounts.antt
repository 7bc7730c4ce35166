-- The numbers of the store are those of the nodes of two kinds.
use Rattle.std.proofs.Common.{◌≡◌, List, Bool, true, false, refl, ap}
use Rattle.std.specs.Prelude.{Option, Some, None, not, ◌&&◌, if◌then◌else◌}
use Rattle.cga_marked.specs.Sorts.{is_first, is_second, sort_of, sorted}
use Rattle.cga_marked.specs.declared.sort.Sort.{Sort}
use Rattle.cga_marked.specs.declared.sort.Sort.TheVariants.{Other}
use Rattle.cga_order.specs.World.{is_instance}
use Rattle.cga_order.specs.declared.placed.Kind.{Kind}
use Rattle.cga_order.specs.declared.placed.Kind.TheVariants.{Waiting, Done, Faulted, Instance}
use Rattle.cga_shape.specs.declared.shape_fault.ShapeFault.{ShapeFault}
use Rattle.cga_word.specs.declared.primitive.Primitive.{Primitive}
use Rattle.cga_forest.specs.declared.slot_entry.SlotEntry.{SlotEntry}
use Rattle.cga_forest.specs.Count.{entry_counts, is_faulted, is_shown_as, kind_counts, tally}

first_kind : (k : Kind ShapeFault Primitive) → is_first (kind_counts k) ≡ is_instance k
first_kind Waiting = refl
first_kind Done = refl
first_kind (Faulted fault) = refl
first_kind (Instance p) = refl

second_kind : (k : Kind ShapeFault Primitive) → is_second (kind_counts k) ≡ is_faulted k
second_kind Waiting = refl
second_kind Done = refl
second_kind (Faulted fault) = refl
second_kind (Instance p) = refl

module _ (number : Sort → Bool) (none : number Other ≡ false) (test : Kind ShapeFault Primitive → Bool) (same : (k : Kind ShapeFault Primitive) → number (kind_counts k) ≡ test k) where
  by_flag : (aside : Bool) (k : Kind ShapeFault Primitive)
      → number (if aside then Other else kind_counts k) ≡ (not aside && test k)
  by_flag true k = none
  by_flag false k = same k

  counted : (s : Option SlotEntry) → number (sort_of entry_counts s) ≡ is_shown_as test s
  counted None = none
  counted (Some e) = by_flag e.aside e.node.kind

  all_counted : (slots : List (Option SlotEntry)) → sorted number entry_counts slots ≡ tally (is_shown_as test) slots
  all_counted slots = ap (λ (p : Option SlotEntry → Bool). tally p slots) (λ i s. counted s i)

pub first_are : (slots : List (Option SlotEntry))
    → sorted is_first entry_counts slots ≡ tally (is_shown_as is_instance) slots
first_are = all_counted is_first refl is_instance first_kind

pub second_are : (slots : List (Option SlotEntry))
    → sorted is_second entry_counts slots ≡ tally (is_shown_as is_faulted) slots
second_are = all_counted is_second refl is_faulted second_kind
