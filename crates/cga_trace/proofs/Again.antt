-- What is written is read again.
use Rattle.std.proofs.Common.{◌≡◌, ℕ, ◌<◌, ◌^◌, List, [], ◌∷◌, length, true, false, refl, sym, ap, ◌∙◌, Option, Some, None, Result, Ok, Err, arith}
use Rattle.std.specs.Prelude.{decimal}
use Rattle.std.specs.Char.{is_ascii_digit}
use Rattle.std.specs.List.{list_all}
use Rattle.std.proofs.lemmas.Fmt.{digits_decimal, decimal_nonempty}
use Rattle.cga_fraction.proofs.Door.{own}
use Rattle.cga_word.specs.declared.answer.Answer.{Answer}
use Rattle.cga_word.specs.declared.answer.Answer.TheVariants.{Nothing, Part, Full}
use Rattle.cga_shape.specs.declared.shape_fault.ShapeFault.{ShapeFault}
use Rattle.cga_shape.specs.declared.shape_fault.ShapeFault.TheVariants as fault
use Rattle.cga_shape.specs.declared.trace_step.Outcome.{Outcome}
use Rattle.cga_shape.specs.declared.trace_step.Outcome.TheVariants.{Grew, Faulted}
use Rattle.cga_obj.specs.Faults.{fault_code}
use Rattle.cga_trace.specs.Words.{answer_word, read_answer, read_fault, begins_digit, outcome_word}
use Rattle.cga_trace.specs.Text.{IsFew}
pub use Rattle.std.proofs.lemmas.Bool.{and_parts as both}
pub use Rattle.cga_fraction.proofs.Door.{same_Ok as ok_value, same_Some as some_value}

pub answer_again : (answer : Option Answer) → read_answer (answer_word answer) ≡ Some answer
unfolding answer_word read_answer
answer_again None = refl
answer_again (Some Nothing) = refl
answer_again (Some Part) = refl
answer_again (Some Full) = refl

pub fault_again : (f : ShapeFault) → read_fault (fault_code f) ≡ Some f
unfolding fault_code read_fault
fault_again fault.TooDeep = refl
fault_again fault.Unmatched = refl
fault_again fault.Overflow = refl
fault_again fault.ZeroDivide = refl
fault_again fault.NegativeSize = refl
fault_again fault.FlatScope = refl
fault_again fault.PartNotPositive = refl
fault_again fault.SubdivSum = refl
fault_again fault.RepeatCount = refl
fault_again fault.TooManyParts = refl
fault_again fault.TooManyChildren = refl

pub code_begins : (f : ShapeFault) → begins_digit (fault_code f) ≡ false
unfolding fault_code
code_begins fault.TooDeep = refl
code_begins fault.Unmatched = refl
code_begins fault.Overflow = refl
code_begins fault.ZeroDivide = refl
code_begins fault.NegativeSize = refl
code_begins fault.FlatScope = refl
code_begins fault.PartNotPositive = refl
code_begins fault.SubdivSum = refl
code_begins fault.RepeatCount = refl
code_begins fault.TooManyParts = refl
code_begins fault.TooManyChildren = refl

pub ok_err : {X E : Type 0} (a : X) (e : E) → ◌≡◌ {A = Result X E} (Ok a) (Err e) → ⊥
ok_err a e same = let q : ◌≡◌ {A = Result _ _} (Ok a) (Err e) = same in cc

pub none_not : {X : Type 0} (a : X) → None ≡ Some a → ⊥
none_not a e = let q : ◌≡◌ {A = Option _} None (Some a) = e in cc

begins : (ds : List ℕ) → 0 < length ds → list_all is_ascii_digit ds ≡ true → begins_digit ds ≡ true
begins [] h e = absurd (omega (arith, h))
begins (d ∷ ds) h e = (both (is_ascii_digit d) (list_all is_ascii_digit ds) e).0

pub number_begins : (n : ℕ) → n < 2 ^ 64 → begins_digit (decimal n) ≡ true
number_begins n h = begins (decimal n) (decimal_nonempty n h) (digits_decimal own n h)

pub not_both : true ≡ false → ⊥
not_both e = let x : true ≡ false = e in cc

-- ---- outcomes

module _ (word : List ℕ) where
  abbrev ReadsNumbers : Option ℕ → Type 0
  ReadsNumbers r = (n : ℕ) → n < 2 ^ 16 → word ≡ decimal n → r ≡ Some n

  pub number_some : (o : Outcome) (r : Option ℕ) → ReadsNumbers r → begins_digit word ≡ true → IsFew o
      → word ≡ outcome_word o → (x : ℕ) → r ≡ Some x → Some (Grew x) ≡ Some o
  unfolding outcome_word
  number_some (Grew n) r reads b few is x e = ap Some (ap Grew (some_value x n (sym e ∙ reads n few is)))
  number_some (Faulted f) r reads b few is x e = absurd (not_both (sym b ∙ (ap begins_digit is ∙ code_begins f)))

  pub number_none : (o : Outcome) (r : Option ℕ) → ReadsNumbers r → begins_digit word ≡ true → IsFew o
      → word ≡ outcome_word o → r ≡ None → None ≡ Some o
  unfolding outcome_word
  number_none (Grew n) r reads b few is e = absurd (none_not n (sym e ∙ reads n few is))
  number_none (Faulted f) r reads b few is e = absurd (not_both (sym b ∙ (ap begins_digit is ∙ code_begins f)))

  pub fault_some : (o : Outcome) (r : Option ShapeFault) → r ≡ read_fault word → begins_digit word ≡ false → IsFew o
      → word ≡ outcome_word o → (x : ShapeFault) → r ≡ Some x → Some (Faulted x) ≡ Some o
  unfolding outcome_word
  fault_some (Grew n) r reads b few is x e = let fits : n < 2 ^ 64 = omega (arith, few) in absurd (not_both (sym (number_begins n fits) ∙ (ap begins_digit (sym is) ∙ b)))
  fault_some (Faulted f) r reads b few is x e = ap Some (ap Faulted (some_value x f (sym e ∙ (reads ∙ (ap read_fault is ∙ fault_again f)))))

  pub fault_none : (o : Outcome) (r : Option ShapeFault) → r ≡ read_fault word → begins_digit word ≡ false → IsFew o
      → word ≡ outcome_word o → r ≡ None → None ≡ Some o
  unfolding outcome_word
  fault_none (Grew n) r reads b few is e = let fits : n < 2 ^ 64 = omega (arith, few) in absurd (not_both (sym (number_begins n fits) ∙ (ap begins_digit (sym is) ∙ b)))
  fault_none (Faulted f) r reads b few is e = absurd (none_not f (sym e ∙ (reads ∙ (ap read_fault is ∙ fault_again f))))
