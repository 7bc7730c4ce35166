-- What a read, a write and a flush say beside the bytes that they move.
use Rattle.std.specs.Prelude.{◌≡◌, ℕ, ◌+◌, ◌-◌, ◌^◌, ◌<◌, ◌≤◌, ◌↔◌, min, List, [], ◌++◌, length, take, Bool, ◌&&◌, ◌||◌, nat_eq, nat_lt, OnErr, OnOk, IfOk, ⊤, None, Some, Ok, Err}
use Rattle.std.specs.declared.result.Result.{Result}
use Rattle.std.specs.declared.option.Option.{Option}

-- a count is greater than before, or stands at its end
abbrev pub Rose : ℕ → ℕ → Type 0
Rose before now = min (before + 1) (2 ^ 64 - 1) ≤ now

-- a count never falls, a failure comes only where it rose, and any other answer leaves it
pub record HasCause {T E : Type 0} (before now : ℕ) (result : Result T E) : Type 0 where
  pub later : before ≤ now
  pub failed : OnErr result (Rose before now)
  pub calm : OnOk result (now ≡ before)

-- a count one greater, which stays at its end
abbrev pub risen : ℕ → ℕ
risen n = min (n + 1) (2 ^ 64 - 1)

-- the bytes given grow by those that a read put at the front of the buffer, and by none where it failed
abbrev pub Gives : {E : Type 0} → List ℕ → List ℕ → Result ℕ E → List ℕ → Type 0
Gives old new (Ok n) buf = new ≡ old ++ take n buf
Gives old new (Err e) buf = new ≡ old

-- where the bytes left are told, a read with room gives 0 exactly where none is left
abbrev pub IsZeroAtEnd : {E : Type 0} → Option (List ℕ) → Result ℕ E → List ℕ → Type 0
IsZeroAtEnd None r buf = ⊤
IsZeroAtEnd (Some xs) r buf = IfOk r (λ n. 0 < length buf → (n ≡ 0) ↔ (xs ≡ []))

-- a read that gives 0 with room has met the end, and any other read leaves the mark
abbrev pub ended_after : {E : Type 0} → Bool → Result ℕ E → List ℕ → Bool
ended_after before (Ok n) buf = before || (nat_eq n 0 && nat_lt 0 (length buf))
ended_after before (Err e) buf = before

-- a write of some bytes takes the mark away, whatever it answers
abbrev pub flushed_after : Bool → List ℕ → Bool
flushed_after before piece = before && nat_eq (length piece) 0
