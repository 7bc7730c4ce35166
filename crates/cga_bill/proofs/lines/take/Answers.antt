use Rattle.std.proofs.Common.{◌≡◌, sym, ap, ◌∙◌, ◌∷◌, []}
use Rattle.std.specs.Prelude.{unwrap_or}
use Rattle.std.specs.BTreeMap.{is_at}
use Rattle.std.proofs.lemmas.Map.Steps.{set_value_same}
use Rattle.cga_bill.specs.Amounts.{minus_sums, no_sums}
use Rattle.cga_bill.specs.Bill.{by_bytes, sums_of}
use Rattle.cga_bill.specs.Lines.{sums_at}
use Rattle.cga_bill.specs.declared.sums.Sums.{Sums}
use Rattle.cga_bill.proofs.Steps.{emptied}
use Rattle.cga_bill.proofs.lines.take.Goals as goal

pub returns-then-left-eq0-clause-updates : goal.returns-then-left-eq0-clause-updates
returns-then-left-eq0-clause-updates c =
    let sums = c.in-Some.sums.now in
    let found = sym c.in-Some.ensures.value in
    let same = (c.get_mut.follows.holds sums).0 ∙ set_value_same (is_at (by_bytes c.args.drawn.now.symbol)) c.args.lines.now.entries sums found in
    let at : sums_at c.args.lines.now.entries c.args.drawn.now.symbol ≡ sums = ap (λ o. unwrap_or o no_sums) found in
    let is : minus_sums (sums_at c.args.lines.now.entries c.args.drawn.now.symbol) (sums_of (c.args.drawn.now ∷ [])) ≡ c.minus-left.result = (λ i. minus_sums (at i) (sym c.sums_of.ensures i)) ∙ sym c.minus-left.ensures in
    emptied c.args.lines.now (c.get_mut.follows.lender sums) c.remove.new.self c.args.drawn.now.symbol _ (ap (λ (a : Sums). a.number) is ∙ c.if-left-eq0.true) same c.remove.ensures.updates
