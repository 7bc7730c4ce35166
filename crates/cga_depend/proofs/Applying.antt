-- A node more or less under a symbol.
use Rattle.std.proofs.Common.{◌≡◌, ℕ, List, [], ◌∷◌, ◌++◌, Bool, true, false, ◌&&◌, ◌||◌, refl, sym, ap, ◌∙◌, subst}
use Rattle.std.specs.Prelude.{nat_eq, if◌then◌else◌}
use Rattle.std.specs.List.{list_any, AllByRecursion, IsDistinct}
use Rattle.std.specs.List.Sorted.{IsPermutation}
use Rattle.std.proofs.lemmas.List.Sorted.{list_any-IsPermutation}
use Rattle.std.proofs.lemmas.Map.Keys.{IsDistinct-head, IsDistinct-IsPermutation}
use lib.Pointwise.{bytes_decides}
use Rattle.cga_check.specs.Uses.{same_name}
use Rattle.cga_depend.specs.Pairs.{DependentsView, nodes_in, with_node}
use Rattle.cga_depend.specs.Log.{IsApplied, is_pair, lists, noted, noted_all}
use Rattle.cga_depend.specs.declared.log.Pairing.{Pairing}
use Rattle.cga_fraction.proofs.Door.{eq_from_nat_eq as same_number, nat_eq-same as own_number, or-assoc, or-false, or-true}

flip_number : (a b : ℕ) → nat_eq a b ≡ nat_eq b a
flip_number a b = by_tests (nat_eq a b) (nat_eq b a) refl refl
  where
    by_tests : (s t : Bool) → nat_eq a b ≡ s → nat_eq b a ≡ t → nat_eq a b ≡ nat_eq b a
    by_tests true true e f = e ∙ sym f
    by_tests false false e f = e ∙ sym f
    by_tests true false e f = let z : true ≡ false = sym (own_number a) ∙ (ap (λ n. nat_eq n a) (same_number a b e) ∙ f) in absurd (cc)
    by_tests false true e f = let z : true ≡ false = sym (own_number b) ∙ (ap (λ n. nat_eq n b) (same_number b a f) ∙ e) in absurd (cc)

none_of : (node : ℕ) (ys : List ℕ) → AllByRecursion (λ y. nat_eq node y ≡ false) ys → list_any (nat_eq node) ys ≡ false
none_of node [] all = refl
none_of node (y ∷ ys) all = ap (λ b. b || list_any (nat_eq node) ys) all.0 ∙ none_of node ys all.1

any_behind : (c node : ℕ) (xs : List ℕ)
    → list_any (nat_eq c) (xs ++ node ∷ []) ≡ (list_any (nat_eq c) xs || nat_eq c node)
any_behind c node [] = or-false (nat_eq c node)
any_behind c node (x ∷ xs) = ap (λ b. nat_eq c x || b) (any_behind c node xs) ∙ or-assoc (nat_eq c x) (list_any (nat_eq c) xs) (nat_eq c node)

any_more : (xs : List ℕ) (node c : ℕ) (known here : Bool) → list_any (nat_eq node) xs ≡ known → nat_eq node c ≡ here
    → list_any (nat_eq c) (if known then xs else (xs ++ node ∷ [])) ≡ (if here then true else list_any (nat_eq c) xs)
any_more xs node c true true is at = ap (λ n. list_any (nat_eq n) xs) (sym (same_number node c at)) ∙ is
any_more xs node c true false is at = refl
any_more xs node c false true is at = any_behind c node xs ∙ (ap (λ b. list_any (nat_eq c) xs || b) (flip_number c node ∙ at) ∙ or-true (list_any (nat_eq c) xs))
any_more xs node c false false is at = any_behind c node xs ∙ (ap (λ b. list_any (nat_eq c) xs || b) (flip_number c node ∙ at) ∙ or-false (list_any (nat_eq c) xs))

module _ (old new : DependentsView) (symbol : List ℕ) (node : ℕ) where
  pub added : ((s : List ℕ) → nodes_in new s ≡
      (if same_name symbol s then with_node (nodes_in old s) node else nodes_in old s))
      → (s : List ℕ) (c : ℕ) → lists new s c ≡ (if is_pair symbol node s c then true else lists old s c)
  added nodes s c = by_test (same_name symbol s) refl
    where
      by_test : (b : Bool) → same_name symbol s ≡ b
          → lists new s c ≡ (if is_pair symbol node s c then true else lists old s c)
      by_test true is =
          ap (list_any (nat_eq c)) (nodes s ∙ ap (λ b. if b then with_node (nodes_in old s) node else nodes_in old s) is)
          ∙ (any_more (nodes_in old s) node c (list_any (nat_eq node) (nodes_in old s)) (nat_eq node c) refl refl
          ∙ ap (λ b. if b && nat_eq node c then true else lists old s c) (sym is))
      by_test false is =
          ap (list_any (nat_eq c)) (nodes s ∙ ap (λ b. if b then with_node (nodes_in old s) node else nodes_in old s) is)
          ∙ ap (λ b. if b && nat_eq node c then true else lists old s c) (sym is)

  pub removed : (r : Bool) → r ≡ list_any (nat_eq node) (nodes_in old symbol)
      → (r ≡ true → IsPermutation (nodes_in old symbol) (node ∷ nodes_in new symbol))
      → ((s : List ℕ) → same_name symbol s ≡ false → nodes_in new s ≡ nodes_in old s) → (r ≡ false → new ≡ old)
      → IsDistinct nat_eq (nodes_in old symbol)
      → (s : List ℕ) (c : ℕ) → lists new s c ≡ (if is_pair symbol node s c then false else lists old s c)
  removed r found gone others same once s c = by_test (same_name symbol s) refl
    where
      here : (r : Bool) → r ≡ list_any (nat_eq node) (nodes_in old symbol)
          → (r ≡ true → IsPermutation (nodes_in old symbol) (node ∷ nodes_in new symbol)) → (r ≡ false → new ≡ old)
          → (b : Bool) → nat_eq node c ≡ b → lists new symbol c ≡ (if b then false else lists old symbol c)
      here true found gone same true at =
          ap (λ n. lists new symbol n) (sym (same_number node c at))
          ∙ none_of node (nodes_in new symbol) (IsDistinct-head nat_eq node (nodes_in new symbol)
          (IsDistinct-IsPermutation nat_eq flip_number (nodes_in old symbol) (node ∷ nodes_in new symbol) (gone refl) once))
      here true found gone same false at =
          sym (list_any-IsPermutation (nat_eq c) (nodes_in old symbol) (node ∷ nodes_in new symbol) (gone refl)
          ∙ ap (λ b. b || lists new symbol c) (flip_number c node ∙ at))
      here false found gone same true at = ap (λ (d : DependentsView). lists d symbol c) (same refl) ∙ (ap (λ n. lists old symbol n) (sym (same_number node c at)) ∙ sym found)
      here false found gone same false at = ap (λ (d : DependentsView). lists d symbol c) (same refl)

      by_test : (b : Bool) → same_name symbol s ≡ b
          → lists new s c ≡ (if is_pair symbol node s c then false else lists old s c)
      by_test true is =
          let name : symbol ≡ s = (bytes_decides symbol s).0 is in
          subst (λ n. lists new n c ≡ (if is_pair symbol node n c then false else lists old n c)) name
          (here r found gone same (nat_eq node c) refl ∙ ap (λ b. if b && nat_eq node c then false else lists old symbol c) (sym ((bytes_decides symbol symbol).1 refl)))
      by_test false is =
          ap (list_any (nat_eq c)) (others s is) ∙ ap (λ b. if b && nat_eq node c then false else lists old s c) (sym is)

-- one entry more
pub applied_next : (x : Pairing) (at later : List Pairing) (all : List Pairing) (first before after : DependentsView)
    → at ≡ x ∷ later
    → ((s : List ℕ) (c : ℕ) → lists after s c ≡ noted x s c (lists before s c))
    → ((s : List ℕ) (c : ℕ) → noted_all at s c (lists before s c) ≡ noted_all all s c (lists first s c))
    → (s : List ℕ) (c : ℕ) → noted_all later s c (lists after s c) ≡ noted_all all s c (lists first s c)
unfolding noted_all
applied_next x at later all first before after is one so_far s c =
    ap (noted_all later s c) (one s c) ∙ (ap (λ es. noted_all es s c (lists before s c)) (sym is) ∙ so_far s c)

pub applied_end : (at all : List Pairing) (first last : DependentsView) → at ≡ []
    → ((s : List ℕ) (c : ℕ) → noted_all at s c (lists last s c) ≡ noted_all all s c (lists first s c))
    → IsApplied all first last
unfolding noted_all
applied_end at all first last is so_far s c = ap (λ es. noted_all es s c (lists last s c)) (sym is) ∙ so_far s c
