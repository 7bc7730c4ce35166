-- What stands below a shape was made at its stamp or later.
use Rattle.std.proofs.Common.{ℕ, subst}
use Rattle.std.specs.Cmp.{IsTotalOrder}
use Rattle.cga_order.specs.Chain.{IsChild}
use Rattle.cga_order.specs.Stamp.{stamps_cmp}
use Rattle.cga_order.specs.World.{World, IsEarlier, birth_of, stamp_of}
use Rattle.cga_order.specs.Total.{stamps_total}
use Rattle.cga_order.proofs.Door.{birth-child, birth-stamp}
use Rattle.cga_order.proofs.Door as stamps
use Rattle.cga_agenda.specs.Edit.{Edit, IsEdit, new_world}

module _ {N A B F P : Type 0} (edit : Edit N A B F P) (laws : IsEdit edit) where
  abbrev w : World N A F P
  w = new_world edit

  order : IsTotalOrder (stamps_cmp edit.mode)
  order = stamps_total edit.mode

  -- a child is not made before its parent's stamp
  pub child : (s m : N) (i : ℕ) → IsChild (edit.chain s) i (edit.chain m) → IsEarlier w (birth_of w m) (stamp_of w s)
      → ⊥
  child s m i below e =
      let birth = birth-child edit.mode (edit.chain s) i (edit.chain m) (laws.new.whole s) below in
      stamps.not_self (stamps_cmp edit.mode) order (stamp_of w s) (subst (λ b. IsEarlier w b (stamp_of w s)) birth e)

  -- where a parent is not made before the stamp of a shape, its child is not either
  pub further : (s p m : N) (i : ℕ) → IsChild (edit.chain p) i (edit.chain m)
      → (IsEarlier w (birth_of w p) (stamp_of w s) → ⊥) → IsEarlier w (birth_of w m) (stamp_of w s) → ⊥
  further s p m i below late e =
      let birth = birth-child edit.mode (edit.chain p) i (edit.chain m) (laws.new.whole p) below in
      late (order.trans (birth_of w p) (stamp_of w p) (stamp_of w s) (birth-stamp edit.mode (edit.chain p)) (subst (λ b. IsEarlier w b (stamp_of w s)) birth e))
