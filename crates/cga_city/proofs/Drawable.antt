-- Each instance of a derivation can be drawn.
use Rattle.std.proofs.Common.{◌≡◌, ℕ, zero, suc, List, [], ◌∷◌, map, length, refl, subst, Result, Ok, Err, Some, None, Option, inl, inr, nat_lt}
use Rattle.std.specs.List.{AllByRecursion}
use Rattle.cga_word.specs.declared.primitive.Primitive.{Primitive}
use Rattle.cga_word.specs.declared.answers.Answers.{Answers}
use Rattle.cga_order.specs.declared.placed.Kind.{Kind}
use Rattle.cga_order.specs.declared.placed.Kind.TheVariants.{Waiting, Done, Faulted}
use Rattle.cga_rule.specs.declared.grammar.Grammar.{Grammar}
use Rattle.cga_shape.specs.declared.emitted.Emitted.{Emitted}
use Rattle.cga_shape.specs.declared.emitted.Emitted.TheVariants as emitted
use Rattle.cga_shape.specs.declared.shape.Shape.{Shape}
use Rattle.cga_shape.specs.declared.shape_fault.ShapeFault.{ShapeFault}
use Rattle.cga_shape.specs.declared.sources.Sources.{Sources}
use Rattle.cga_derivation.specs.Derivation.{derive, reached, step, step_by, next_of, told, become, same_place, outcome}
use Rattle.cga_expand.specs.Children.{Member, placed_at, placed_from, placed_by}
use Rattle.cga_expand.specs.Expand.{expand_of}
use Rattle.cga_expand.specs.Derivation.{derivation_of, children_of, roots_of}
use Rattle.cga_city.specs.Derived.{derived}
use Rattle.cga_city.proofs.Sorting.{decide}
use Rattle.cga_city.proofs.Standing.{CanBeDrawn, IsSound, both}
use Rattle.cga_city.proofs.Keeping.{CanDraw, AllDraw, expansion_draws}

abbrev pub AllSound : List Member → Type 0
AllSound = AllByRecursion IsSound

waiting_sound : (shapes : List Shape) → AllSound (map (λ n. record { shape = n; kind = Waiting }) shapes)
waiting_sound [] = tt
waiting_sound (s ∷ shapes) = (tt, waiting_sound shapes)

placed_sound : (lot path own : List ℕ) (i : ℕ) (e : Emitted) → CanDraw e → IsSound (placed_at lot path own i e)
placed_sound lot path own i (emitted.Child symbol args scope seed) h = tt
placed_sound lot path own i (emitted.Solid p scope seed) h = h

all_placed : (lot path own : List ℕ) (i : ℕ) (es : List Emitted) → AllDraw es → AllSound (placed_from lot path own i es)
all_placed lot path own i [] h = tt
all_placed lot path own i (e ∷ es) h = (placed_sound lot path own i e h.0, all_placed lot path own (suc i) es h.1)

-- what an outcome brings
abbrev Brings : Result (List Member) ShapeFault → Type 0
Brings (Ok children) = AllSound children
Brings (Err fault) = Unit {0}

placed_brings : (s : Shape) (r : Result (List Emitted) ShapeFault) → ((es : List Emitted) → r ≡ Ok es → AllDraw es)
    → Brings (placed_by s r)
placed_brings s (Ok es) h = all_placed s.lot s.path s.symbol 0 es (h es refl)
placed_brings s (Err fault) h = tt

children_sound : (g : Grammar) (s : Shape) (answers : Answers) → Brings (children_of g s answers)
unfolding children_of expand_of
children_sound g s answers = placed_brings s (expand_of g s answers) (λ es h. expansion_draws _ _ s answers es h)

module _ (sources : Sources) where
  become_sound : (s : Shape) (k : Kind ShapeFault Primitive) → ((n : Shape) → CanBeDrawn n k) → (list : List Member)
      → AllSound list → AllSound (map (become (derivation_of sources) s k) list)
  become_sound s k can [] h = tt
  become_sound s k can (m ∷ list) h = elim (decide (same_place (derivation_of sources) m.shape s)) [
    | inl t ↦ rw t (can m.shape, become_sound s k can list h.1)
    | inr f ↦ rw f (h.0, become_sound s k can list h.1)
  ]

  told_sound : (list : List Member) (s : Shape) (r : Result (List Member) ShapeFault) → AllSound list → Brings r
      → AllSound (told (derivation_of sources) list s r)
  told_sound list s (Ok children) h k = both IsSound (map (become (derivation_of sources) s Done) list) children (become_sound s Done (λ n. tt) list h) k
  told_sound list s (Err fault) h k = become_sound s (Faulted fault) (λ n. tt) list h

  step_sound : (list : List Member) (o : Option Member) → AllSound list
      → AllSound (step_by (derivation_of sources) list o)
  step_sound list None h = h
  step_sound list (Some m) h = told_sound list m.shape (outcome (derivation_of sources) list m.shape) h (children_sound sources.grammar m.shape _)

  reached_sound : (n : ℕ) → AllSound (reached (derivation_of sources) n)
  unfolding reached step
  reached_sound zero = waiting_sound (roots_of sources.lots)
  reached_sound (suc n) = step_sound (reached (derivation_of sources) n) (next_of (derivation_of sources) (reached (derivation_of sources) n)) (reached_sound n)

pub derived_sound : (budget : ℕ) (sources : Sources) (list : List Member) → derived budget sources ≡ Some list
    → AllSound list
unfolding derived derive
derived_sound budget sources list h = elim (decide (nat_lt budget (length (reached (derivation_of sources) budget)))) [
  | inl t ↦ (let k = rw t at h in absurd (cc))
  | inr f ↦ (let k = rw f at h in let same : reached (derivation_of sources) budget ≡ list = cc in subst AllSound same (reached_sound sources budget))
]
