-- Lines one after another.
use Rattle.std.proofs.Common.{◌≡◌, ℕ, ◌+◌, min, List, [], ◌∷◌, ◌++◌, length, take, Option, Some, None, refl, sym, ap, subst, ◌∙◌, arith, append_assoc}
use Rattle.std.proofs.lemmas.Grind.{common_steps}
use Rattle.std.proofs.lemmas.List.{append-nil}
use Rattle.std.proofs.Math.Seq.{take-append-add}
use Rattle.std.specs.Io.KnownBytes.{Appends}
use Rattle.cga_script.specs.Lines.{Line}
use Rattle.cga_top.specs.State.{State}
use Rattle.cga_top.specs.Effect.{Effect, HasSpent, SpentOn, Work, followed_by, silent}
use Rattle.cga_top.specs.Replies.{effect}
use Rattle.cga_top.specs.Output.{effect_of_all}
use Rattle.cga_top.specs.Prefixes.{AppendsSome}
use Rattle.cga_top.proofs.Known.{appends_more}

abbrev made : State → List ℕ → List Work → Effect
made s text works = record { state = s; reply = text; works = works }

-- equal parts make equal effects
same_effect : (s : State) (a b : List ℕ) (l m : List Work) → a ≡ b → l ≡ m → made s a l ≡ made s b m
same_effect s a b l m p q = ap (λ (x : List ℕ). made s x l) p ∙ ap (λ (x : List Work). made s b x) q

-- It is all one which two of three effects are put together first.
pub followed_assoc : (t u v : Effect) → followed_by (followed_by t u) v ≡ followed_by t (followed_by u v)
followed_assoc t u v = same_effect v.state _ _ _ _ (append_assoc t.reply u.reply v.reply) (append_assoc t.works u.works v.works)

-- An effect that is followed by none is itself.
pub followed_silent : (t : Effect) → followed_by t (silent t.state) ≡ t
followed_silent t = same_effect t.state _ _ _ _ (append-nil t.reply) (append-nil t.works)

pub silent_followed : (s : State) (t : Effect) → followed_by (silent s) t ≡ t
silent_followed s t = refl

-- edits after edits
pub spent_more : (xs ys : List Work) (i j k : ℕ) → HasSpent xs i j → HasSpent ys j k → HasSpent (xs ++ ys) i k
spent_more [] ys i j k h g = subst (λ n. HasSpent ys n k) h g
spent_more (t ∷ []) [] i j k h g = subst (λ n. SpentOn t i n) (sym g) h
spent_more (t ∷ []) (u ∷ us) i j k h g = (j, h, g)
spent_more (t ∷ u ∷ ts) ys i j k h g = (h.0, h.1, spent_more (u ∷ ts) ys h.0 j k h.2 g)

-- No lines have no effect.
pub all_none : (s : State) → effect_of_all s [] ≡ silent s
unfolding effect_of_all
all_none s = refl

-- The effect of a line and others is its own, followed by theirs.
pub all_more : (s : State) (line : Line) (lines : List Line)
    → effect_of_all s (line ∷ lines) ≡ followed_by (effect s line) (effect_of_all (effect s line).state lines)
unfolding effect_of_all
all_more s line lines = refl

-- The effect of two runs of lines is that of the first, followed by that of the second.
pub all_append : (s : State) (xs ys : List Line)
    → effect_of_all s (xs ++ ys) ≡ followed_by (effect_of_all s xs) (effect_of_all (effect_of_all s xs).state ys)
all_append s [] ys = sym (rw (all_none s) (silent_followed s (effect_of_all s ys)))
all_append s (x ∷ xs) ys =
    all_more s x (xs ++ ys) ∙ ap (followed_by (effect s x)) (all_append (effect s x).state xs ys)
    ∙ sym (followed_assoc (effect s x) (effect_of_all (effect s x).state xs) _)
    ∙ ap (λ (t : Effect). followed_by t (effect_of_all t.state ys)) (sym (all_more s x xs))

-- and nothing was expanded behind them
pub spent_then : (ts : List Work) (i j k : ℕ) → k ≡ j → HasSpent ts i j → HasSpent ts i k
spent_then ts i j k e h = subst (λ n. HasSpent ts i n) (sym e) h

-- Nothing is a part of each text.
pub some_nothing : (a : Option (List ℕ)) (text : List ℕ) → AppendsSome a a text
some_nothing None text = (0, tt)
some_nothing (Some xs) text = (0, sym (append-nil xs))

-- Who appends a text and then a part of another has appended a part of both.
pub some_after : (a b c : Option (List ℕ)) (xs ys : List ℕ) → Appends a b xs → AppendsSome b c ys
    → AppendsSome a c (xs ++ ys)
some_after a b c xs ys p s = (length xs + s.0, rw (take-append-add xs ys s.0) (appends_more a b c xs (take s.0 ys) p s.1))

-- A part of a text is a part of a longer one.
pub some_more : (a c : Option (List ℕ)) (xs ys : List ℕ) → AppendsSome a c xs → AppendsSome a c (xs ++ ys)
some_more a c xs ys s = (min s.0 (length xs), let e : take (min s.0 (length xs)) (xs ++ ys) ≡ take s.0 xs = grind (arith, common_steps) in rw e s.1)
