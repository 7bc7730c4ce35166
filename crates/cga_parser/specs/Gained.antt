-- What becomes of what was read.
use Rattle.std.specs.Prelude.{◌≡◌, Bool, if◌then◌else◌, Result, Ok, Err}
use Rattle.cga_fraction.specs.declared.stop.Stop.{Stop}
use Rattle.cga_form.specs.declared.fault.Fault.{Fault}
use Rattle.cga_form.specs.Cursor.{Fails}
use Rattle.cga_form.specs.Reader.{Input, ReadResult, begins, skipped}
use Rattle.cga_form.specs.Tokens.{is_sign}
use Rattle.cga_lexer.specs.declared.sign.Sign.TheVariants as s

-- something, and what was read after it
abbrev pub ReadsBoth : {A B : Type 0} → A → ReadResult B → Result (A × B) (Stop Fault) → Input → Type 0
ReadsBoth x o (Ok p) new = (p.0 ≡ x) × (o ≡ Ok (p.1, new))
ReadsBoth x o (Err e) new = Fails e o

-- a minus is taken, where one comes next
abbrev pub TakesMinus : Input → Bool → Input → Type 0
TakesMinus old taken new = (taken ≡ begins (is_sign s.Minus) old.left) × (new ≡ (if taken then skipped old else old))
