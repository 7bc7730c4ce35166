-- Steps that may be refused.
use Rattle.std.proofs.Common.{◌≡◌, Bool, true, false, refl, Ok, Err, None, Option, Result, Some, if◌then◌else◌}
use Rattle.std.specs.Option.{option_map_or}
use Rattle.std.specs.Prelude.{IfOk, OnOk}
use Rattle.cga_fraction.specs.Results.{and_then, err_if, or_err}
use Rattle.cga_fraction.specs.Stops.{settled_of}
use Rattle.cga_fraction.specs.declared.stop.Stop.{Stop}
use Rattle.cga_fraction.specs.declared.stop.Stop.TheVariants.{Fault, NoMemory}

-- what two steps that succeed went through
pub and_then-ok : {A B F : Type 0} (r : Result A F) (f : A → Result B F) (y : B) → and_then r f ≡ Ok y
    → (x : A) × (r ≡ Ok x) × (f x ≡ Ok y)
and_then-ok (Ok x) f y h = (x, refl, h)
and_then-ok (Err e) f y h = absurd (cc)

-- another cause changes no success
pub or_err-ok : {A E F : Type 0} (f : F) (r : Result A E) (x : A) → or_err f r ≡ Ok x → r ≡ Ok x
or_err-ok f (Ok a) x h = cc
or_err-ok f (Err e) x h = absurd (cc)

-- nor does a third one
pub or_err-ok_as : {A E F G : Type 0} (f : F) (g : G) (r : Result A E) (x : A) → or_err f r ≡ Ok x → or_err g r ≡ Ok x
or_err-ok_as f g (Ok a) x h = cc
or_err-ok_as f g (Err e) x h = absurd (cc)

-- what is refused for one cause is refused for any
pub or_err-err_as : {A E F G : Type 0} (f e : F) (g : G) (r : Result A E) → or_err f r ≡ Err e → or_err g r ≡ Err g
or_err-err_as f e g (Ok a) h = absurd (cc)
or_err-err_as f e g (Err x) h = refl

-- what holds of whatever was made holds of what is answered
pub settled_of-each : {A F : Type 0} (P : A → Type 0) (made : Result A (Stop F)) → ((x : A) → made ≡ Ok x → P x)
    → IfOk (settled_of made) (λ given. IfOk given P)
settled_of-each P (Ok x) each = each x refl
settled_of-each P (Err (Fault f)) each = tt
settled_of-each P (Err NoMemory) each = tt

-- what is tested first isn't refused where all succeeds
pub err_if-ok : {A F : Type 0} (test : Bool) (fault : F) (more : Result A F) (y : A) → err_if test fault more ≡ Ok y
    → (test ≡ false) × (more ≡ Ok y)
err_if-ok true fault more y h = absurd (cc)
err_if-ok false fault more y h = (refl, h)

-- where what is made of an element that may lack succeeds, the element is there
pub option_map_or-ok : {A B F : Type 0} (f : A → Result B F) (o : Option A) (e : F) (y : B)
    → option_map_or f o (Err e) ≡ Ok y → (x : A) × (o ≡ Some x) × (f x ≡ Ok y)
option_map_or-ok f None e y h = absurd (cc)
option_map_or-ok f (Some x) e y h = (x, refl, h)

-- where a test decides between a result and a refusal, and the answer is a success, the test passed
pub if_err-ok : {A F : Type 0} (test : Bool) (more : Result A F) (fault : F) (y : A)
    → (if test then more else Err fault) ≡ Ok y → (test ≡ true) × (more ≡ Ok y)
if_err-ok true more fault y h = (refl, h)
if_err-ok false more fault y h = absurd (cc)

-- where one property leads to another, and the one holds if a result is a success, so does the other
pub OnOk-map : {X E : Type 0} (r : Result X E) (P Q : Type 0) → (P → Q) → OnOk r P → OnOk r Q
OnOk-map (Ok x) P Q f h = f h
OnOk-map (Err e) P Q f h = h
