-- Nodes that are put on an agenda, and taken off it.
use Rattle.std.proofs.Common.{◌≡◌, ℕ, sym, ap, ◌∙◌, Some, Bool, true, false}
use Rattle.std.specs.Prelude.{OnOk, Result, Ok, Err}
use Rattle.cga_word.specs.declared.mode.Mode.{Mode}
use Rattle.cga_order.specs.Chain.{Chain}
use Rattle.cga_order.specs.declared.stamp_key.StampKey.{StampKey}
use Rattle.cga_order.specs.Key.{chain_of_key}
use Rattle.cga_queue.specs.Agenda.{AgendaView, Chains, Grows, IsLeast, IsPopped, IsPut, OneEach, SameOn, is_due}
use Rattle.cga_queue.proofs.OnIt.{due_from, grows_by, is_least, least_after, passed_over, put_grows, same_on}

-- where one fact leads to another and holds if a call succeeds, so does the other
pub on_ok : {T E : Type 0} {P Q : Type 0} (r : Result T E) → (P → Q) → OnOk r P → OnOk r Q
on_ok (Ok x) f p = f p
on_ok (Err e) f p = p

-- where two facts lead to a third and each holds if a call succeeds, so does the third
pub on_ok_both : {T E : Type 0} {P Q R : Type 0} (r : Result T E) → (P → Q → R) → OnOk r P → OnOk r Q → OnOk r R
on_ok_both (Ok x) f p q = f p q
on_ok_both (Err e) f p q = p

module _ (D : Chains) where
  pub added_grows : (old new : AgendaView) (x : Chain) (id : ℕ) → OneEach D → D id ≡ Some x → IsPut old new x id
      → Grows D (λ c. id ≡ c) old new
  added_grows old new x id one here put =
      grows_by D (λ c. c ≡ id) (λ c. id ≡ c) old new (λ c e. sym e) (put_grows D old new x id one here put)

  -- the node of a popped entry
  pub taken_is : (first a b : AgendaView) (mode : Mode) (key : StampKey) (id : ℕ) (due : Bool) → mode ≡ a.mode
      → SameOn D first a → IsPopped a b (chain_of_key key) id → due ≡ is_due mode key (D id) → due ≡ true
      → (x : Chain) × IsLeast D first b id x
  taken_is first a b mode key id due m same popped is told =
      let z = due_from a.mode key (D id) (ap (λ k. is_due k key (D id)) (sym m) ∙ sym is ∙ told) in
      (z.0, least_after D first a b id z.0 same (is_least D a b key id popped z.0 z.1 z.2))

  pub passed_is : (first a b : AgendaView) (mode : Mode) (key : StampKey) (id : ℕ) (due : Bool) → mode ≡ a.mode
      → SameOn D first a → IsPopped a b (chain_of_key key) id → due ≡ is_due mode key (D id) → due ≡ false
      → SameOn D first b × (mode ≡ b.mode)
  passed_is first a b mode key id due m same popped is told = (
    same_on D first a b same (passed_over D a b key id popped (λ so. let z : true ≡ false = sym so ∙ ap (λ k. is_due k key (D id)) (sym m) ∙ sym is ∙ told in cc)),
    m ∙ sym popped.mode,
  )
