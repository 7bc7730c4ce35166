-- The bill goes with the changes of an edit.
use Rattle.std.proofs.Common.{◌≡◌, ◌∙◌, ℕ, ◌+◌, ◌<◌, ◌≤◌, ◌^◌, List, [], length, Some, None, refl, sym, ap, subst, arith}
use Rattle.std.specs.Prelude.{All}
use Rattle.std.proofs.lemmas.List.Elements.{All-nil}
use Rattle.cga_bill.specs.Bill.{Balances, bill_of}
use Rattle.cga_bill.specs.declared.sums.Sums.{Sums}
use Rattle.cga_shape.specs.declared.changes.Changes.{Changes}
use Rattle.cga_shape.specs.declared.drawn.Drawn.{Drawn}
use Rattle.cga_shape.specs.declared.edit.Edit.{Edit}
use Rattle.cga_shape.specs.declared.sources.Sources.{Sources}
use Rattle.cga_expand.specs.Children.{Member}
use Rattle.cga_city.specs.City.{CityState, IsDone, empty_city, empty_sources}
use Rattle.cga_city.specs.Derived.{derived, members}
use Rattle.cga_city.specs.Lots.{names_of}
use Rattle.cga_city.specs.Reports.{drawn_in}
use Rattle.cga_city.specs.declared.limits.TheConstants.{BUDGET_TWO}
use Rattle.cga_city.proofs.Door.{accounted, applied_sound, come_few, few_members, reported_few}
use Rattle.cga_syntax.specs.GrammarText.{ArePrintable}
use Rattle.cga_undo.specs.History.{Kept, nothing}
use Rattle.cga_top.specs.State.{State}
use Rattle.cga_top.specs.Ready.{IsReady, MayHaveRead, drawn_by}
use Rattle.cga_top.specs.Written.{AreWritten}
use Rattle.cga_top.specs.Replies as replies
use Rattle.cga_top.specs.Session.{IsAt}
use Rattle.cga_top.specs.declared.session.Session.{Session}
use Rattle.cga_top.proofs.Numbers.{CanBeLeft, there}

-- no lot, nothing drawn
pub nothing_drawn : (list : List Member) → drawn_in [] list ≡ []
unfolding drawn_in
nothing_drawn list = refl

pub empty_bill : (bill : List (List ℕ × Sums)) (city : CityState) (budget : ℕ) → bill ≡ bill_of []
    → city ≡ empty_city budget → bill ≡ bill_of (drawn_by city)
empty_bill bill city budget e is = e ∙ sym (ap (λ (c : CityState). bill_of (drawn_by c)) is ∙ ap bill_of (nothing_drawn (members budget empty_sources)))

-- a session of nothing
pub new_ready : (session : Session) (budget : ℕ) → budget ≤ BUDGET_TWO → session.city ≡ empty_city budget
    → session.bill ≡ bill_of [] → session.history ≡ nothing → session.block ≡ None → IsReady session
new_ready session budget few city bill history block = record {
  warm = ap (λ (c : CityState). c.warm) city;
  bill = empty_bill session.bill session.city budget bill city;
  few = subst (λ (c : CityState). c.budget ≤ BUDGET_TWO) (sym city) few;
  rules = subst (λ (c : CityState). ArePrintable c.sources.grammar.rules) (sym city) (All-nil _);
  past = subst (λ (k : Kept). All AreWritten k.past) (sym history) (All-nil AreWritten);
  future = subst (λ (k : Kept). All AreWritten k.future) (sym history) (All-nil AreWritten);
  block = subst MayHaveRead (sym block) tt;
}

-- the bill of a session is that of the state that it has come to
pub bill_is : (s : State) (session : Session) → IsReady session → IsAt s session
    → session.bill ≡ bill_of (replies.drawn_by s (names_of s.sources.lots))
bill_is s session ready at =
    ready.bill
    ∙ (ap (λ (x : Sources). bill_of (drawn_in (names_of x.lots) (members session.city.budget x))) at.sources
    ∙ ap (λ (b : ℕ). bill_of (drawn_in (names_of s.sources.lots) (members b s.sources))) at.budget)

module _ (old : CityState) (e : Edit) (new : CityState) (i j : ℕ) (can : CanBeLeft old.budget old.sources e) (done : IsDone old e new i j) where
  fits : derived old.budget new.sources ≡ Some (members old.budget new.sources)
  fits = there (derived old.budget new.sources) (applied_sound old.sources new.sources e old.budget can.sound can.apart done.applied).1

  pub balances : (changes : Changes) → changes ≡ new.changes → Balances (drawn_by old) (drawn_by new) changes
  balances changes same =
      let sound = (applied_sound old.sources new.sources e old.budget can.sound can.apart done.applied).0 in
      subst (λ (c : Changes). Balances (drawn_by old) (drawn_by new) c) (sym same)
      (subst (λ (b : ℕ). Balances (drawn_by old) (drawn_in (names_of new.sources.lots) (members b new.sources)) new.changes) (sym done.budget_stays)
      (accounted old.budget old.sources new.sources (members old.budget old.sources) (members old.budget new.sources) new.changes done.changed can.sound sound can.fits fits))

  -- there is room for all that was drawn and all that comes
  pub can_apply : old.budget ≤ BUDGET_TWO → (bill : List (List ℕ × Sums)) → bill ≡ bill_of (drawn_by old)
      → (changes : Changes) → changes ≡ new.changes
      → (before : List Drawn) × (after : List Drawn) × (bill ≡ bill_of before) × Balances before after changes
      × (length before + length changes.come < 2 ^ 32)
  can_apply few bill is changes same =
      let reported = reported_few old.budget old.sources (members old.budget old.sources) can.sound can.fits in
      let come = come_few old.budget old.sources new.sources (members old.budget old.sources) (members old.budget new.sources) new.changes done.changed in
      let all = few_members old.budget new.sources (members old.budget new.sources) fits in
      let told : length changes.come ≡ length new.changes.come = ap (λ (c : Changes). length c.come) same in
      (drawn_by old, drawn_by new, is, balances changes same, omega (arith, reported, come, all, told, few))
