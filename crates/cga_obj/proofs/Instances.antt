-- Instances one after the other.
use Rattle.std.proofs.Common.{◌≡◌, ℕ, ◌+◌, ◌<◌, ◌≤◌, List, [], ◌∷◌, ◌++◌, length, get_or, drop, refl, sym, ◌∙◌, ap, append_assoc}
use Rattle.std.proofs.lemmas.List.{append-nil, at_drop_more, at_drop_all}
use Rattle.cga_shape.specs.declared.drawn.Drawn.{Drawn}
use Rattle.cga_obj.specs.Lots.{Shown, instance_text, instances_text, vertex_count}

instances_cons : (mesh : Shown) (decimals before : ℕ) (d : Drawn) (ds : List Drawn)
    → instances_text mesh decimals before (d ∷ ds) ≡ instance_text mesh decimals before d ++ instances_text mesh
    decimals (before + vertex_count mesh d) ds
unfolding instances_text
instances_cons mesh decimals before d ds = refl

instances_none : (mesh : Shown) (decimals before : ℕ) → instances_text mesh decimals before [] ≡ []
unfolding instances_text
instances_none mesh decimals before = refl

-- one instance more, then those that are left
pub one_more : (mesh : Shown) (decimals before n : ℕ) (xs : List Drawn) (i : ℕ) (d : Drawn) (old new : List ℕ)
    → i < length xs → get_or xs i d ≡ d
    → n ≡ vertex_count mesh d → new ≡ old ++ instance_text mesh decimals before d
    → new ++ instances_text mesh decimals (before + n) (drop (i + 1) xs)
    ≡ old ++ instances_text mesh decimals before (drop i xs)
one_more mesh decimals before n xs i d old new h at k e =
    let left : old ++ instances_text mesh decimals before (drop i xs) ≡ old ++ instances_text mesh decimals before (d ∷ drop (i + 1) xs) =
    at_drop_more (λ (r : List Drawn). old ++ instances_text mesh decimals before r) xs i d h ∙ ap (λ (m : Drawn). old ++ instances_text mesh decimals before (m ∷ drop (i + 1) xs)) at in
    rw (e, k) (append_assoc old (instance_text mesh decimals before d) (instances_text mesh decimals (before + vertex_count mesh d) (drop (i + 1) xs))
    ∙ ap (λ (t : List ℕ). old ++ t) (sym (instances_cons mesh decimals before d (drop (i + 1) xs))) ∙ sym left)

-- none is left
pub no_more : (mesh : Shown) (decimals before : ℕ) (xs : List Drawn) (i : ℕ) (old all : List ℕ) → length xs ≤ i
    → old ++ instances_text mesh decimals before (drop i xs) ≡ all → old ≡ all
no_more mesh decimals before xs i old all h f =
    sym (append-nil old) ∙ ap (λ (t : List ℕ). old ++ t) (sym (instances_none mesh decimals before))
    ∙ sym (at_drop_all (λ (r : List Drawn). old ++ instances_text mesh decimals before r) xs i h) ∙ f
