-- When the last of some nodes is looked at.
use Rattle.std.specs.Prelude.{◌≡◌, ℕ, Option, Some, None, Bool, true, false}
use Rattle.std.specs.declared.cmp.Ordering.TheVariants.{Less}
use Rattle.std.specs.Ordering.{is_lt}
use Rattle.cga_word.specs.declared.mode.Mode.{Mode}
use Rattle.cga_order.specs.Chain.{Chain}
use Rattle.cga_order.specs.Stamp.{stamp_cmp}
use Rattle.cga_order.specs.Key.{chain_of_key}
use Rattle.cga_queue.specs.Agenda.{Chains}
use Rattle.cga_queue.specs.declared.last.Last.{Last}
use Rattle.cga_queue.specs.declared.last.Last.TheVariants.{Unknown, Nobody, At}

-- where the last node stands, if there is one
abbrev pub chain_at : Chains → Option ℕ → Option Chain
chain_at D None = None
chain_at D (Some id) = D id

-- it comes later than the last, or there is none
abbrev pub is_after : Mode → Option Chain → Chain → Bool
is_after mode None y = true
is_after mode (Some x) y = is_lt (stamp_cmp mode x y)

-- the second is there and comes later
abbrev pub is_next : Mode → Option Chain → Option Chain → Bool
is_next mode last None = false
is_next mode last (Some y) = is_after mode last y

abbrev pub IsUpTo : Mode → Option Chain → Chain → Type 0
IsUpTo mode last y = is_after mode last y ≡ false

-- what is known of the chain of one of them
abbrev pub IsBound : Mode → Last → Chain → Type 0
IsBound mode Unknown y = Unit {0}
IsBound mode Nobody y = IsUpTo mode None y
IsBound mode (At k) y = IsUpTo mode (Some (chain_of_key k)) y

-- none of them comes later than this
abbrev pub IsPast : Mode → Last → Chain → Type 0
IsPast mode last x = (y : Chain) → IsBound mode last y → stamp_cmp mode x y ≡ Less → ⊥
