use Rattle.std.proofs.Common.{◌≡◌, ◌+◌, ◌<◌, ◌^◌, ℕ, sym, subst, ◌∙◌, ◌++◌, List, length}
use Rattle.std.proofs.lemmas.Map.Entries.{entries_from_clone}
use Rattle.cga_shape.specs.declared.changes.Changes.{Changes}
use Rattle.cga_shape.specs.declared.drawn.Drawn.{Drawn}
use Rattle.cga_bill.specs.Bill.{Balances, IsBill, bill_of}
use Rattle.cga_bill.specs.declared.sums.Sums.{Sums}
use Rattle.cga_bill.proofs.Made.{is_bill, only_bill}
use Rattle.cga_bill.proofs.Steps.{balanced}
use Rattle.cga_bill.proofs.bill.Bill.apply.Goals as goal

-- a copy of the bill of a list is a bill of it
copied : (before copy : List (List ℕ × Sums)) (value : List (List ℕ × Sums)) (old : List Drawn) → copy ≡ before
    → before ≡ value → value ≡ bill_of old → IsBill copy old
copied before copy value old e f g = subst (λ (l : List (List ℕ × Sums)). IsBill l old) (sym (e ∙ (f ∙ g))) (is_bill old)

-- what came was added, so that only what went is too much
stepped : (copy more : List (List ℕ × Sums)) (come gone : List Drawn) (changes : Changes) (old new : List Drawn)
    → IsBill copy old → ((list : List Drawn) → IsBill copy list → IsBill more (list ++ come))
    → come ≡ changes.come → gone ≡ changes.gone → Balances old new changes → IsBill more (new ++ gone)
stepped copy more come gone changes old new is add e f b =
    subst (λ (l : List Drawn). IsBill more (new ++ l)) (sym f) (balanced more old new changes b (subst (λ (l : List Drawn). IsBill more (old ++ l)) e (add old is)))

pub add_all-requires : goal.add_all-requires
add_all-requires c =
    let old : List Drawn = c.requires.0 in
    let e = entries_from_clone _ _ (λ x y e. e) (λ x y e. e) c.self.inside.lines.entries c.in_ok-lines.lines.entries c.in_ok-lines.ensures.cases in (
      old,
      copied c.self.inside.lines.entries c.in_ok-lines.lines.entries c.args.self.now old e c.self.view_is c.requires.2,
      subst (λ (l : List Drawn). length old + length l < 2 ^ 32) (sym c.as_slice.ensures) c.requires.4,
    )

pub take_all-requires : goal.take_all-requires
take_all-requires c =
    let e = entries_from_clone _ _ (λ x y e. e) (λ x y e. e) c.self.inside.lines.entries c.in_ok-lines.lines.entries c.in_ok-lines.ensures.cases in
    let is = copied c.self.inside.lines.entries c.in_ok-lines.lines.entries c.args.self.now c.requires.0 e c.self.view_is c.requires.2 in
    (c.requires.1, stepped c.in_ok-lines.lines.entries c.add_all.new.lines.entries c.as_slice.result.now c.as_slice-2.result.now c.args.changes.now c.requires.0 c.requires.1 is c.in_ok-add_all.ensures c.as_slice.ensures c.as_slice-2.ensures c.requires.3)

pub returns-clause-ok : goal.returns-clause-ok
returns-clause-ok c = λ old new f b.
    let e = entries_from_clone _ _ (λ x y e. e) (λ x y e. e) c.self.inside.lines.entries c.in_ok-lines.lines.entries c.in_ok-lines.ensures.cases in
    let is = copied c.self.inside.lines.entries c.in_ok-lines.lines.entries c.args.self.now old e c.self.view_is f in
    only_bill c.take_all.new.lines.entries new
    (c.take_all.ensures new (stepped c.in_ok-lines.lines.entries c.add_all.new.lines.entries c.as_slice.result.now c.as_slice-2.result.now c.args.changes.now old new is c.in_ok-add_all.ensures c.as_slice.ensures c.as_slice-2.ensures b))
