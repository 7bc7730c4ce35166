-- What a call that stops early says of the definition's result.
use Rattle.std.specs.Prelude.{◌≡◌, Result, Ok, Err, MatchResult}
use Rattle.cga_fraction.specs.declared.memory.NoMemory as memory
use Rattle.cga_fraction.specs.declared.stop.Stop.{Stop}
use Rattle.cga_fraction.specs.declared.stop.Stop.TheVariants.{Fault, NoMemory}

-- a fault is that of the definition, and want of memory says nothing
abbrev pub StopsAs : {A F : Type 0} → Stop F → Result A F → Type 0
StopsAs (Fault f) r = r ≡ Err f
StopsAs NoMemory r = Unit {0}

-- what was made is what the definition gives
abbrev pub Makes : {A F : Type 0} → Result A F → Result A (Stop F) → Type 0
Makes r made = MatchResult made (λ x. r ≡ Ok x) (λ stop. StopsAs stop r)

-- a fault is an answer, and want of memory is none
abbrev pub settled_of : {A F : Type 0} → Result A (Stop F) → Result (Result A F) memory.NoMemory
settled_of (Ok x) = Ok (Ok x)
settled_of (Err (Fault f)) = Ok (Err f)
settled_of (Err NoMemory) = Err (record {})
