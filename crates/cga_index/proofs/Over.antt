-- Answers over lists of nodes.
use Rattle.std.proofs.Common.{◌≡◌, ℕ, inl, inr, List, [], ◌∷◌, ◌++◌, map, Bool, true, false, cond, ◌&&◌, ◌||◌, refl, ap, sym, ◌∙◌}
use Rattle.std.specs.List.{list_any, filter}
use Rattle.std.proofs.lemmas.Bool.{cases_Bool as either}
use Rattle.std.proofs.lemmas.List.{map-append}
use Rattle.std.proofs.lemmas.List.Folds.{list_any-append}
use Rattle.std.proofs.lemmas.List.Elements.{filter-append}
use Rattle.cga_frame.specs.Box.{Box}
use Rattle.cga_word.specs.declared.answer.Answer.{Answer}
use Rattle.cga_word.specs.declared.answer.Answer.TheVariants.{Nothing, Part, Full}
use Rattle.cga_fraction.proofs.Door.{and_second}
use Rattle.cga_word.specs.declared.target.Target.{Target}
use Rattle.cga_word.specs.declared.target.Target.TheVariants.{Noparent, Active}
use Rattle.cga_index.specs.declared.standing.Standing.TheVariants.{Hidden}
use Rattle.cga_frame.specs.Box.{meets, holds}
use Rattle.cga_index.specs.Occlusion.{graded, answer_of, join}
use Rattle.cga_index.specs.Tree.{TreeView, Member, counts_for, asked, answer_over}

-- what two lists together answer is what they answer, joined
pub graded_or : (a b c d : Bool) → graded (a || c) (b || d) ≡ join (graded a b) (graded c d)
graded_or true b c d = refl
graded_or false true true d = refl
graded_or false true false true = refl
graded_or false true false false = refl
graded_or false false c d = refl

of_append : (box : Box) (xs ys : List Box) → answer_of box (xs ++ ys) ≡ join (answer_of box xs) (answer_of box ys)
unfolding answer_of
of_append box xs ys =
    let f : Box → Bool = λ m. meets m box && holds m box in
    let g : Box → Bool = λ m. meets m box in
    ap (λ t. graded t (list_any g (xs ++ ys))) (list_any-append f xs ys)
    ∙ ap (λ t. graded (list_any f xs || list_any f ys) t) (list_any-append g xs ys)
    ∙ graded_or (list_any f xs) (list_any g xs) (list_any f ys) (list_any g ys)

-- the answer over two lists
pub over_append : (v : TreeView) (by : ℕ) (target : Target) (xs ys : List ℕ)
    → answer_over v by target (xs ++ ys) ≡ join (answer_over v by target xs) (answer_over v by target ys)
unfolding answer_over
over_append v by target xs ys =
    let p : ℕ → Bool = λ n. counts_for target (v.standing n by) in
    ap (λ t. answer_of (v.own by) (map v.own t)) (filter-append p xs ys)
    ∙ ap (answer_of (v.own by)) (map-append v.own (filter p xs) (filter p ys))
    ∙ of_append (v.own by) (map v.own (filter p xs)) (map v.own (filter p ys))

none_adds : (before found : Answer) → found ≡ Nothing → before ≡ join before found
none_adds Full found e = refl
none_adds Part found e = ap (join Part) (sym e)
none_adds Nothing found e = sym e

-- the answer over one node
pub over_one_asked : (v : TreeView) (by : ℕ) (target : Target) (n : ℕ) → counts_for target (v.standing n by) ≡ true
    → answer_over v by target (n ∷ []) ≡ answer_of (v.own by) (v.own n ∷ [])
unfolding answer_over
over_one_asked v by target n e = ap (λ t. answer_of (v.own by) (map v.own (cond t (n ∷ []) []))) e

pub over_none : (v : TreeView) (by : ℕ) (target : Target) → answer_over v by target [] ≡ Nothing
unfolding answer_over answer_of
over_none v by target = refl

pub over_one_other : (v : TreeView) (by : ℕ) (target : Target) (n : ℕ) → counts_for target (v.standing n by) ≡ false
    → answer_over v by target (n ∷ []) ≡ Nothing
unfolding answer_over answer_of
over_one_other v by target n e = ap (λ t. answer_of (v.own by) (map v.own (cond t (n ∷ []) []))) e

-- a node whose box answers nothing answers nothing, whatever its standing
pub over_nothing : (v : TreeView) (by : ℕ) (target : Target) (n : ℕ) → answer_of (v.own by) (v.own n ∷ []) ≡ Nothing
    → answer_over v by target (n ∷ []) ≡ Nothing
over_nothing v by target n h = elim (either (counts_for target (v.standing n by))) [
  | inl e ↦ over_one_asked v by target n e ∙ h
  | inr e ↦ over_one_other v by target n e
]

-- a hidden node answers nothing
pub over_hidden : (v : TreeView) (by : ℕ) (target : Target) (n : ℕ) → v.standing n by ≡ Hidden
    → answer_over v by target (n ∷ []) ≡ Nothing
over_hidden v by Noparent n h = over_one_other v by Noparent n (ap (counts_for Noparent) h)
over_hidden v by Active n h = over_one_other v by Active n (ap (counts_for Active) h)

pub ruleset over_one = (over_one_asked, over_one_other)

none_more : (a b c d : Bool) → (a || c) ≡ false → (c ≡ false → d ≡ false) → ((a && b) || d) ≡ false
none_more true b c d e h = let x : true ≡ false = e in cc
none_more false b c d e h = h e

either_none : (a b : Bool) → (a ≡ true → ⊥) → b ≡ false → (a || b) ≡ false
either_none true b h e = absurd (h refl)
either_none false b h e = e

any_none : (f : Box → Bool) (xs : List Box) → list_any f xs ≡ false → (g : Box → Bool)
    → list_any (λ m. f m && g m) xs ≡ false
any_none f [] e g = refl
any_none f (x ∷ xs) e g = none_more (f x) (g x) (list_any f xs) (list_any (λ m. f m && g m) xs) e (λ t. any_none f xs t g)

any_apart : (v : TreeView) (p : ℕ → Bool) (f : Box → Bool) (ns : List ℕ)
    → ((n : ℕ) → Member ns n → f (v.own n) ≡ true → ⊥) → list_any f (map v.own (filter p ns)) ≡ false
any_apart v p f [] h = refl
any_apart v p f (n ∷ ns) h = elim (p n) as (λ b. list_any f (map v.own (cond b (n ∷ filter p ns) (filter p ns))) ≡ false) [
  | true ↦ either_none (f (v.own n)) (list_any f (map v.own (filter p ns))) (λ t. h n (inl refl) t) (any_apart v p f ns (λ m w. h m (inr w)))
  | false ↦ any_apart v p f ns (λ m w. h m (inr w))
]

-- nodes whose boxes don't meet the box answer nothing
pub over_apart : (v : TreeView) (by : ℕ) (target : Target) (ns : List ℕ)
    → ((n : ℕ) → Member ns n → meets (v.own n) (v.own by) ≡ true → ⊥) → answer_over v by target ns ≡ Nothing
unfolding answer_over answer_of
over_apart v by target ns h =
    let xs = asked v by target ns in
    let e = any_apart v (λ n. counts_for target (v.standing n by)) (λ m. meets m (v.own by)) ns h in
    ap (λ t. graded (list_any (λ m. meets m (v.own by) && holds m (v.own by)) xs) t) e
    ∙ ap (λ t. graded t false) (any_none (λ m. meets m (v.own by)) xs e (λ m. holds m (v.own by)))

graded_not : (a b : Bool) → a ≡ false → graded a b ≡ Full → ⊥
graded_not true b e = let x : true ≡ false = e in cc
graded_not false true e = λ f. cc
graded_not false false e = λ f. cc

-- nodes whose boxes don't hold the box don't answer full
pub over_unheld : (v : TreeView) (by : ℕ) (target : Target) (ns : List ℕ)
    → ((n : ℕ) → Member ns n → holds (v.own n) (v.own by) ≡ true → ⊥) → answer_over v by target ns ≡ Full → ⊥
unfolding answer_over answer_of
over_unheld v by target ns h =
    let xs = asked v by target ns in
    graded_not (list_any (λ m. meets m (v.own by) && holds m (v.own by)) xs) (list_any (λ m. meets m (v.own by)) xs)
    (any_apart v (λ n. counts_for target (v.standing n by)) (λ m. meets m (v.own by) && holds m (v.own by)) ns
    (λ n w t. h n w (and_second (meets (v.own n) (v.own by)) (holds (v.own n) (v.own by)) t)))

-- where a node's box adds nothing, nor does its answer, whatever its standing
pub over_adds : (v : TreeView) (by : ℕ) (target : Target) (n : ℕ) (before : Answer)
    → before ≡ join before (answer_of (v.own by) (v.own n ∷ []))
    → before ≡ join before (answer_over v by target (n ∷ []))
over_adds v by target n before h = elim (either (counts_for target (v.standing n by))) [
  | inl e ↦ h ∙ ap (join before) (sym (over_one_asked v by target n e))
  | inr e ↦ none_adds before _ (over_one_other v by target n e)
]
