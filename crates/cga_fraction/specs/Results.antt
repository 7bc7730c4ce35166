-- Steps that may be refused.
use Rattle.std.specs.Prelude.{List, ◌++◌, Bool, Result, Ok, Err, if◌then◌else◌}

-- one step, and then another
abbrev pub and_then : {A B F : Type 0} → Result A F → (A → Result B F) → Result B F
and_then (Ok x) f = f x
and_then (Err e) f = Err e

-- the fault where the test holds, and otherwise what follows
abbrev pub err_if : {A F : Type 0} → Bool → F → Result A F → Result A F
err_if test fault more = if test then Err fault else more

-- what is refused for whatever cause, as refused for this one
abbrev pub or_err : {A E F : Type 0} → F → Result A E → Result A F
or_err fault (Ok x) = Ok x
or_err fault (Err e) = Err fault

-- a list, and behind it what follows
abbrev pub onto : {A F : Type 0} → List A → Result (List A) F → Result (List A) F
onto before (Ok more) = Ok (before ++ more)
onto before (Err e) = Err e
