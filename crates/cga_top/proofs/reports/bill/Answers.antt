use Rattle.std.proofs.Common.{◌≡◌, ◌∙◌, List, ℕ, ap, Result, Ok, Err, IfOk}
use Rattle.cga_bill.specs.Texts.{bill_text_of}
use Rattle.cga_bill.specs.declared.sums.Sums.{Sums}
use Rattle.cga_fraction.specs.declared.memory.NoMemory.{NoMemory}
use Rattle.cga_top.proofs.Bills.{bill_is}
use Rattle.cga_top.proofs.reports.bill.Goals as goal

same : (r : Result (List ℕ) NoMemory) (a b : List (List ℕ × Sums)) → a ≡ b → IfOk r (λ text. text ≡ bill_text_of a)
    → IfOk r (λ text. text ≡ bill_text_of b)
same (Ok text) a b e h = h ∙ ap bill_text_of e
same (Err none) a b e h = tt

pub returns : goal.returns
returns c = λ s st. same c.bill_text.result _ _ (bill_is s c.args.session.now c.requires st) c.bill_text.ensures
