-- Consistent lists, by stamps that are told from the list: no step is spoken of.
use Rattle.std.specs.Prelude.{◌≡◌, List, Bool, false, not, ◌&&◌, ◌⊎◌, Result, Ok}
use Rattle.std.specs.Ordering.{is_lt}
use Rattle.cga_order.specs.Stamp.{stamps_cmp}
use Rattle.cga_order.specs.declared.placed.Placed.{Placed}
use Rattle.cga_order.specs.declared.placed.Kind.{Kind}
use Rattle.cga_order.specs.declared.placed.Kind.TheVariants.{Waiting, Done}
use Rattle.cga_order.specs.World.{Has, Among, shapes_where, is_instance}
use Rattle.cga_order.specs.Consistent.{Stands, HasOutcome}
use Rattle.cga_derivation.specs.Derivation.{Derivation, AllApart}
use Rattle.cga_derivation.specs.Stamps.{stamp_in, birth_in}

module _ {N A F P : Type 0} (derivation : Derivation N A F P) where
  abbrev pub Members : Type 0
  Members = List (Placed N F P)

  -- n exists at the stamp of q: it is a root, or its parent's stamp is smaller
  abbrev pub exists_at : Members → N → N → Kind F P → Bool
  exists_at list q n kind =
      is_lt (stamps_cmp derivation.mode (birth_in derivation list n) (stamp_in derivation list q))

  -- it waits there: it exists, is no instance, and its own stamp is greater
  abbrev pub waits_at : Members → N → N → Kind F P → Bool
  waits_at list q n kind =
      exists_at list q n kind && not (is_instance kind)
      && is_lt (stamps_cmp derivation.mode (stamp_in derivation list q) (stamp_in derivation list n))

  -- what n gives where it sees the members that exist, or wait, at its stamp
  abbrev pub outcome_at : Members → N → Result Members F
  outcome_at list n =
      derivation.expand n
      (derivation.answers n (shapes_where (exists_at list n) list) (shapes_where (waits_at list n) list))

  -- it is a child that the outcome of a member has made
  abbrev pub IsMade : Members → N → Type 0
  IsMade list n =
      (s : N) × (children : Members) × Has list s Done × (outcome_at list s ≡ Ok children)
      × ((k : Kind F P) × Has children n k)

  pub record IsConsistent (list : Members) : Type 0 where
    pub apart : AllApart derivation list
    pub roots : (n : N) → Among n derivation.roots → Stands list n Waiting
    -- what is no instance has the outcome over what it sees at its stamp
    pub each : (n : N) (k : Kind F P) → Has list n k → is_instance k ≡ false
        → HasOutcome list k (outcome_at list n)
    -- and nothing else is there
    pub only : (n : N) (k : Kind F P) → Has list n k → Among n derivation.roots ⊎ IsMade list n
