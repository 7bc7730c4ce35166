-- Each member's lot is one of the lots.
use Rattle.std.proofs.Common.{◌≡◌, ℕ, zero, suc, ◌+◌, List, [], ◌∷◌, ◌++◌, map, length, Bool, Option, Some, None, Result, Ok, Err, inl, inr, refl, sym, ap, subst}
use Rattle.std.specs.Prelude.{nat_lt}
use Rattle.std.specs.List.{AllByRecursion}
use Rattle.cga_word.specs.declared.answers.Answers.{Answers}
use Rattle.cga_word.specs.declared.primitive.Primitive.{Primitive}
use Rattle.cga_frame.specs.declared.scope_fault.ScopeFault.{ScopeFault}
use Rattle.cga_order.specs.World.{Among}
use Rattle.cga_order.specs.declared.placed.Kind.{Kind}
use Rattle.cga_order.specs.declared.placed.Kind.TheVariants.{Waiting, Done, Faulted}
use Rattle.cga_rule.specs.declared.grammar.Grammar.{Grammar}
use Rattle.cga_expand.proofs.Door.{root_is}
use Rattle.cga_shape.specs.declared.emitted.Emitted.{Emitted}
use Rattle.cga_shape.specs.declared.emitted.Emitted.TheVariants as emitted
use Rattle.cga_shape.specs.declared.lot.Lot.{Lot}
use Rattle.cga_shape.specs.declared.shape.Shape.{Shape}
use Rattle.cga_shape.specs.declared.shape_fault.ShapeFault.{ShapeFault}
use Rattle.cga_shape.specs.declared.sources.Sources.{Sources}
use Rattle.cga_shape.specs.Root.{root_of}
use Rattle.cga_derivation.specs.Derivation.{derive, reached, step, step_by, first_of, is_next, next_of, told, become, same_place, outcome}
use Rattle.cga_expand.specs.Children.{Member, placed_at, placed_from, placed_by}
use Rattle.cga_expand.specs.Expand.{expand_of}
use Rattle.cga_expand.specs.Derivation.{derivation_of, children_of, roots_of, made}
use Rattle.cga_city.specs.Derived.{derived}
use Rattle.cga_city.specs.Lots.{names_of}
use Rattle.cga_city.proofs.Sorting.{all_at, all_both, decide}

-- ---- each member's lot is one of the lots

abbrev IsAt : List (List ℕ) → Member → Type 0
IsAt names m = Among m.shape.lot names

abbrev pub AllAt : List (List ℕ) → List Member → Type 0
AllAt names list = AllByRecursion (IsAt names) list

-- a shape that waits
abbrev waits : Shape → Member
waits n = record { shape = n; kind = Waiting }

made_at : (names : List (List ℕ)) (lot : Lot) (r : Result Shape ScopeFault) → root_of lot ≡ r → Among lot.name names
    → AllAt names (map waits (made r))
made_at names lot (Ok s) is h = let w = root_is lot s is in (subst (λ (l : List ℕ). Among l names) (ap (λ (x : Shape). x.lot) w.1) h, tt)
made_at names lot (Err fault) is h = tt

roots_at : (names : List (List ℕ)) (lots : List Lot) → ((lot : Lot) → Among lot lots → Among lot.name names)
    → AllAt names (map waits (roots_of lots))
roots_at names [] h = tt
roots_at names (lot ∷ lots) h =
    subst (AllAt names) (sym (map_both (made (root_of lot)) (roots_of lots)))
    (all_both (IsAt names) (map waits (made (root_of lot))) (map waits (roots_of lots))
    (made_at names lot (root_of lot) refl (h lot (inl refl))) (roots_at names lots (λ x i. h x (inr i))))
  where
    map_both : (xs ys : List Shape) → ◌≡◌ {A = List Member} (map waits (xs ++ ys)) (map waits xs ++ map waits ys)
    map_both [] ys = refl
    map_both (x ∷ xs) ys = ap (λ (ms : List Member). waits x ∷ ms) (map_both xs ys)

placed_one : (names : List (List ℕ)) (lot path own : List ℕ) (i : ℕ) (e : Emitted) → Among lot names
    → IsAt names (placed_at lot path own i e)
placed_one names lot path own i (emitted.Child symbol args scope seed) h = h
placed_one names lot path own i (emitted.Solid p scope seed) h = h

placed_all : (names : List (List ℕ)) (lot path own : List ℕ) (i : ℕ) (es : List Emitted) → Among lot names
    → AllAt names (placed_from lot path own i es)
placed_all names lot path own i [] h = tt
placed_all names lot path own i (e ∷ es) h = (placed_one names lot path own i e h, placed_all names lot path own (suc i) es h)

-- the children of a shape stand in its lot
abbrev Stays : List (List ℕ) → Result (List Member) ShapeFault → Type 0
Stays names (Ok children) = AllAt names children
Stays names (Err fault) = Unit {0}

placed_stays : (names : List (List ℕ)) (s : Shape) (r : Result (List Emitted) ShapeFault) → Among s.lot names
    → Stays names (placed_by s r)
placed_stays names s (Ok es) h = placed_all names s.lot s.path s.symbol 0 es h
placed_stays names s (Err fault) h = tt

children_stay : (names : List (List ℕ)) (g : Grammar) (s : Shape) (answers : Answers) → Among s.lot names
    → Stays names (children_of g s answers)
unfolding children_of
children_stay names g s answers h = placed_stays names s (expand_of g s answers) h

module _ (sources : Sources) where
  abbrev names : List (List ℕ)
  names = names_of sources.lots

  become_at : (s : Shape) (k : Kind ShapeFault Primitive) (list : List Member) → AllAt names list
      → AllAt names (map (become (derivation_of sources) s k) list)
  become_at s k [] h = tt
  become_at s k (m ∷ list) h = elim (decide (same_place (derivation_of sources) m.shape s)) [
    | inl t ↦ rw t (h.0, become_at s k list h.1)
    | inr f ↦ rw f (h.0, become_at s k list h.1)
  ]

  told_at : (list : List Member) (s : Shape) (r : Result (List Member) ShapeFault) → AllAt names list → Stays names r
      → AllAt names (told (derivation_of sources) list s r)
  told_at list s (Ok children) h k = all_both (IsAt names) (map (become (derivation_of sources) s Done) list) children (become_at s Done list h) k
  told_at list s (Err fault) h k = become_at s (Faulted fault) list h

  step_at : (list : List Member) (o : Option Member) → next_of (derivation_of sources) list ≡ o → AllAt names list
      → AllAt names (step_by (derivation_of sources) list o)
  step_at list None is h = h
  step_at list (Some m) is h =
      let own : Among m.shape.lot names = all_at (IsAt names) list m h (taken (is_next (derivation_of sources) list) list m is) in
      told_at list m.shape (outcome (derivation_of sources) list m.shape) h (children_stay names sources.grammar m.shape _ own)
    where
      taken : (test : Member → Bool) (ms : List Member) (m : Member) → first_of test ms ≡ Some m → Among m ms
      taken test [] m e = cc
      taken test (x ∷ ms) m e = elim (decide (test x)) [
        | inl t ↦ (let k = rw t at e in inl cc)
        | inr f ↦ (let k = rw f at e in inr (taken test ms m k))
      ]

  name_of : (lots : List Lot) (lot : Lot) → Among lot lots → Among lot.name (names_of lots)
  name_of [] lot i = absurd i
  name_of (x ∷ lots) lot i = elim i [ inl e ↦ inl (ap (λ (l : Lot). l.name) e) | inr j ↦ inr (name_of lots lot j) ]

  reached_at : (n : ℕ) → AllAt names (reached (derivation_of sources) n)
  unfolding reached step
  reached_at zero = roots_at names sources.lots (name_of sources.lots)
  reached_at (suc n) = step_at (reached (derivation_of sources) n) (next_of (derivation_of sources) (reached (derivation_of sources) n)) refl (reached_at n)

pub members_at_lots : (budget : ℕ) (s : Sources) (list : List Member) → derived budget s ≡ Some list
    → AllAt (names_of s.lots) list
unfolding derived derive
members_at_lots budget s list h = elim (decide (nat_lt budget (length (reached (derivation_of s) budget)))) [
  | inl t ↦ (let k = rw t at h in absurd (cc))
  | inr f ↦ (let k = rw f at h in let same : reached (derivation_of s) budget ≡ list = cc in subst (AllAt (names_of s.lots)) same (reached_at s budget))
]
