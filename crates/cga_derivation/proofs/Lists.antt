-- Equal options and results have equal contents.
use Rattle.std.proofs.Common.{◌≡◌, Result, Ok, Err, Option, Some, None}
pub use Rattle.cga_fraction.proofs.Door.{None-not-Some as none_some, same_Ok as ok_same, same_Some as some_same}

-- where a fault equals a value, anything follows
pub err_ok : {X F Y : Type 0} (f : F) (x : X) → ◌≡◌ {A = Result X F} (Err f) (Ok x) → Y
err_ok f x e = cc
