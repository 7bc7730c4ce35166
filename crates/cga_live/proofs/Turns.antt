-- Turns one after another.
use Rattle.std.proofs.Common.{◌≡◌, ◌∙◌, ℕ, ◌+◌, ◌-◌, zero, suc, List, [], ◌∷◌, ◌++◌, Bool, refl, sym, ap, take, arith}
use Rattle.std.specs.Prelude.{count_by}
use Rattle.cga_city.specs.City.{empty_sources}
use Rattle.cga_city.specs.Derived.{members}
use Rattle.cga_shape.specs.declared.drawn.Drawn.{Drawn}
use Rattle.cga_top.specs.Effect.{Effect}
use Rattle.cga_top.specs.Output.{effect_of_all}
use Rattle.cga_top.specs.Replies.{budget_of, effect}
use Rattle.cga_top.specs.State.{State, start}
use Rattle.cga_top.proofs.Door.{all_more, all_none, nothing_drawn}
use Rattle.cga_live.specs.Live.{AreTold, Follows, Having, applied, drawn_at, nothing, replies_of}
use Rattle.cga_top.specs.Turns.{LineChanges, after, lines_in}

pub replies_all : (s : State) (xs : List LineChanges) → replies_of s xs ≡ (effect_of_all s (lines_in xs)).reply
replies_all s [] = ap (λ (e : Effect). e.reply) (sym (all_none s))
replies_all s (x ∷ xs) =
    ap (λ (r : List ℕ). (effect s x.line).reply ++ r) (replies_all (effect s x.line).state xs) ∙ ap (λ (e : Effect). e.reply) (sym (all_more s x.line (lines_in xs)))

-- ---- who applies what is told

-- who has what is drawn, has after each turn what is drawn then
follow : (s : State) (mine : Having) → ((test : Drawn → Bool) → mine test ≡ count_by test (drawn_at s))
    → (turns : List LineChanges) → AreTold s turns → (n : ℕ) (test : Drawn → Bool)
    → applied mine (take n turns) test ≡ count_by test (drawn_at (after s (take n turns)))
follow s mine has [] told zero test = has test ∙ ap (λ (e : Effect). count_by test (drawn_at e.state)) (sym (all_none s))
follow s mine has [] told (suc n) test = has test ∙ ap (λ (e : Effect). count_by test (drawn_at e.state)) (sym (all_none s))
follow s mine has (x ∷ xs) told zero test = has test ∙ ap (λ (e : Effect). count_by test (drawn_at e.state)) (sym (all_none s))
follow s mine has (x ∷ xs) told (suc n) test =
    let next : State = (effect s x.line).state in
    follow next (λ t. (mine t + count_by t x.changes.come) - count_by t x.changes.gone)
    (λ t. let before = has t in let balance = told.0.balance t in omega (arith, before, balance)) xs told.1 n test
    ∙ ap (λ (e : Effect). count_by test (drawn_at e.state)) (sym (all_more s x.line (lines_in (take n xs))))

-- nothing is drawn before the first line
none_at_start : (d : ℕ) (test : Drawn → Bool) → 0 ≡ count_by test (drawn_at (start d))
none_at_start d test = ap (count_by test) (sym (nothing_drawn (members (budget_of (start d).version) empty_sources)))

pub follows : (d : ℕ) (turns : List LineChanges) → AreTold (start d) turns → Follows (start d) turns
follows d turns told = λ n test. follow (start d) nothing (none_at_start d) turns told n test
