-- The names of two lots.
use Rattle.std.proofs.Common.{◌≡◌, ◌<◌, suc, zero, List, [], ◌∷◌, length, get_or, refl, sym, ap, ◌∙◌, arith}
use Rattle.cga_shape.specs.declared.lot.Lot.{Lot}
use Rattle.cga_expand.specs.Derivation.{NamesDiffer}

both_differ : (l m : Lot) → (l.name ≡ m.name → ⊥) → NamesDiffer (l ∷ m ∷ [])
both_differ l m d zero zero a b ha hb e = refl
both_differ l m d zero (suc zero) a b ha hb e = let k : l.name ≡ m.name = cc in absurd (d k)
both_differ l m d zero (suc (suc j)) a b ha hb e = cc
both_differ l m d (suc zero) zero a b ha hb e = let k : l.name ≡ m.name = cc in absurd (d k)
both_differ l m d (suc zero) (suc zero) a b ha hb e = refl
both_differ l m d (suc zero) (suc (suc j)) a b ha hb e = cc
both_differ l m d (suc (suc i)) j a b ha hb e = cc

pub two_differ : (lots : List Lot) (l m : Lot) → 1 < length lots → length lots < 3 → l ≡ get_or lots 0 l
    → m ≡ get_or lots 1 m
    → (l.name ≡ m.name → ⊥) → NamesDiffer lots
two_differ [] l m long short first second d = absurd (omega arith)
two_differ (a ∷ []) l m long short first second d = absurd (omega arith)
two_differ (a ∷ b ∷ []) l m long short first second d = both_differ a b (λ e. d (ap (λ (x : Lot). x.name) first ∙ e ∙ sym (ap (λ (x : Lot). x.name) second)))
two_differ (a ∷ b ∷ c ∷ lots) l m long short first second d = absurd (omega arith)
