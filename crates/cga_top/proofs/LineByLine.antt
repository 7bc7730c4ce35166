-- Turns one after another.
use Rattle.std.proofs.Common.{◌≡◌, ◌∙◌, ℕ, List, [], ◌∷◌, ◌++◌, refl, sym, ap, subst, append_assoc}
use Rattle.cga_script.specs.Lines.{Line}
use Rattle.cga_top.specs.Effect.{Effect}
use Rattle.cga_top.specs.Replies.{effect}
use Rattle.cga_top.specs.State.{State}
use Rattle.cga_top.specs.Turns.{HaveChanged, Talk, LineChanges, after, lines_in, text_by}
use Rattle.cga_top.proofs.Effects.{all_more, all_none}

pub lines_both : (xs ys : List LineChanges) → lines_in (xs ++ ys) ≡ lines_in xs ++ lines_in ys
lines_both [] ys = refl
lines_both (x ∷ xs) ys = ap (λ (lines : List Line). x.line ∷ lines) (lines_both xs ys)

pub changed_more : (s : State) (xs ys : List LineChanges) → HaveChanged s xs → HaveChanged (after s xs) ys
    → HaveChanged s (xs ++ ys)
changed_more s [] ys p q = subst (λ (e : Effect). HaveChanged e.state ys) (all_none s) q
changed_more s (x ∷ xs) ys p q = (
  p.0,
  changed_more (effect s x.line).state xs ys p.1 (subst (λ (e : Effect). HaveChanged e.state ys) (all_more s x.line (lines_in xs)) q),
)

pub text_more : (told : Talk) (s : State) (xs ys : List LineChanges)
    → text_by told s (xs ++ ys) ≡ text_by told s xs ++ text_by told (after s xs) ys
text_more told s [] ys = ap (λ (e : Effect). text_by told e.state ys) (sym (all_none s))
text_more told s (x ∷ xs) ys =
    let first : List ℕ = (effect s x.line).reply ++ told x.changes in
    let more : List ℕ = text_by told (effect s x.line).state xs in
    ap (λ (r : List ℕ). first ++ r) (text_more told (effect s x.line).state xs ys)
    ∙ sym (append_assoc first more (text_by told (after (effect s x.line).state xs) ys))
    ∙ ap (λ (e : Effect). (first ++ more) ++ text_by told e.state ys) (sym (all_more s x.line (lines_in xs)))
