-- A line that is a member of a form.
use Rattle.std.proofs.Common.{◌≡◌, ℕ, List, [], ◌∷◌, Bool, true, false, Result, Ok, Err, IfOk, refl, ap, sym, subst}
use Rattle.cga_fraction.specs.Stops.{settled_of}
use Rattle.cga_fraction.specs.declared.stop.Stop.{Stop}
use Rattle.cga_fraction.specs.declared.stop.Stop.TheVariants as stop
use Rattle.cga_form.specs.declared.fault.Fault.{Fault}
use Rattle.cga_syntax.specs.declared.lexeme.Lexeme.{Lexeme}
use Rattle.cga_syntax.specs.Pieces.{Pieces}
use Rattle.cga_syntax.specs.Spelling.{Spelled}
use Rattle.cga_form.specs.Tells.{Tells}
use Rattle.cga_form.specs.Cursor as cursor
use Rattle.cga_form.specs.Reader.{Input, ReadResult, Reader, at, and_then, ◌>>=◌, ◌>>◌, pure}
use Rattle.cga_form.specs.Parts.{any, finish}
use Rattle.cga_form.proofs.Forms.{Reads, next, done, either, refusing}
use Rattle.cga_form.specs.Laws.{IsForm}
use Rattle.cga_form.proofs.Written.{nothing, nil_right}
use Rattle.cga_form.proofs.Beginnings.{misses_end}
use Rattle.cga_form.proofs.Again.{Again, ends, after, plainly, peek_no}
use Rattle.cga_form.proofs.Complete.{Judges, judged, unique}

abbrev nowhere : Unit {0} → Pieces
nowhere _ = []

pub finish_reads : (n : ℕ) → Reads n n nowhere finish
unfolding finish
finish_reads n = either any (refusing (λ c. ([], tt, c, ([], refl, nothing c)))) (done refl)

-- a form and then the end
pub line_reads : {A : Type 0} {w : A → Pieces} {p : Reader A} (n : ℕ) → Reads n n w p
    → Reads n n w (p >>= λ a. finish >> pure a)
line_reads {w = w} n h = next h (λ a. next (finish_reads n) (λ _. done (sym (nil_right (w a)))))

finish_again : Again nowhere any finish
unfolding finish
finish_again = record { all = λ u. peek_no any (misses_end (λ l e. e)) ends }

module _ {A : Type 0} {w : A → Pieces} {t : Lexeme → Bool} {p : Reader A} (again : Again w t p) where
  impossible : (l : Lexeme) → any l ≡ false → t l ≡ false
  impossible l e = absurd (let q : true ≡ false = e in cc)

  pub line_again : Again w any (p >>= λ a. finish >> pure a)
  line_again = record { all = λ a. plainly (after _ a again (misses_end impossible) (after {v = nowhere} _ tt finish_again (misses_end (λ l e. e)) ends)) }

ok_left : {A : Type 0} {a b : A} {i o : Input} → ◌≡◌ {A = ReadResult A} (Ok (a, i)) (Ok (b, o)) → o.left ≡ i.left
ok_left {A} {a} {b} {i} {o} e = let q : ◌≡◌ {A = A × Input} (a, i) (b, o) = cc in ap (λ (z : A × Input). z.1.left) (sym q)

finish_by : {A : Type 0} (r a : A) (ls : List Lexeme) (c : ℕ) (o : Input) → (finish >> pure r) (at ls c) ≡ Ok (a, o)
    → o.left ≡ []
unfolding finish
finish_by r a [] c o h = ok_left h
finish_by r a (l ∷ ls) c o h = absurd (cc)

ends_by : {A : Type 0} (q : ReadResult A) (a : A) (o : Input) → and_then q (λ r. finish >> pure r) ≡ Ok (a, o)
    → o.left ≡ []
ends_by (Ok q) a o h = finish_by q.0 a q.1.left q.1.count o h
ends_by (Err f) a o h = absurd (cc)

-- ---- any form

module _ {A : Type 0} (w : A → Pieces) (p : ℕ → Reader A) (form : IsForm w p) where
  -- a line that is a member of the form
  abbrev pub complete : ℕ → Reader A
  complete n = p n >>= λ a. finish >> pure a

  complete_ends : (n : ℕ) (text : List Lexeme) (a : A) (o : Input) → complete n (at text 0) ≡ Ok (a, o) → o.left ≡ []
  complete_ends n text a o h = ends_by (p n (at text 0)) a o h

  complete_judged : (n : ℕ) (text : List Lexeme) → Judges w n text (complete n (at text 0))
  complete_judged n = judged w any n (complete n) (line_reads n (form.exact n)) (line_again (form.again n)) (complete_ends n)

  judged_as : (n : ℕ) (text : List Lexeme) (o : ReadResult A) → complete n (at text 0) ≡ o → Judges w n text o
  judged_as n text o e = subst (λ q. Judges w n text q) e (complete_judged n text)

  -- no tokens spell two members
  pub form_unique : (text : List Lexeme) (a b : A) → Spelled w text a → Spelled w text b → a ≡ b
  form_unique = unique w any complete (λ n. line_reads n (form.exact n)) (λ n. line_again (form.again n)) complete_ends refl

  -- what is read is what the line spells, and a refusal is the right one
  pub form_found : (n : ℕ) (text : List Lexeme) (a : A) (o : Input) → complete n (at text 0) ≡ Ok (a, o)
      → Tells w n text (Ok a)
  form_found n text a o e = judged_as n text (Ok (a, o)) e

  -- where a line isn't read as a member of a form, the fault is what its tokens tell
  pub form_refused : (n : ℕ) (text : List Lexeme) (f : Fault) → complete n (at text 0) ≡ Err f → Tells w n text (Err f)
  form_refused n text f e = judged_as n text (Err f) e

  -- what was made of the line, settled, is what its tokens tell
  pub form_settled : (n : ℕ) (text : List Lexeme) (new : Input) (made : Result A (Stop Fault))
      → cursor.Reads (complete n (at text 0)) made new → IfOk (settled_of made) (λ found. Tells w n text found)
  form_settled n text new (Ok a) e = form_found n text a new e
  form_settled n text new (Err (stop.Fault f)) e = form_refused n text f e
  form_settled n text new (Err stop.NoMemory) e = tt
