-- The text of changes, by whether there are any.
use Rattle.std.proofs.Common.{◌≡◌, ◌∙◌, ℕ, List, [], ◌∷◌, refl, ap}
use Rattle.cga_shape.specs.declared.changes.Changes.{Changes}
use Rattle.cga_shape.specs.declared.drawn.Drawn.{Drawn}
use Rattle.cga_obj.specs.Delta.{delta_text_of, if_any, told_text}

by_some : (gone come : List Drawn) (text : List ℕ) → (gone ≡ [] → come ≡ [] → ⊥) → if_any gone come text ≡ text
by_some [] [] text some = absurd (some refl refl)
by_some [] (d ∷ ds) text some = refl
by_some (d ∷ ds) come text some = refl

pub some_text : (c : Changes) → (c.gone ≡ [] → c.come ≡ [] → ⊥) → delta_text_of c ≡ told_text c
unfolding delta_text_of
some_text c some = by_some c.gone c.come (told_text c) some

pub no_text : (c : Changes) → c.gone ≡ [] → c.come ≡ [] → delta_text_of c ≡ []
unfolding delta_text_of
no_text c gone come = ap (λ (g : List Drawn). if_any g c.come (told_text c)) gone ∙ ap (λ (k : List Drawn). if_any [] k (told_text c)) come
