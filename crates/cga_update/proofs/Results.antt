-- What an update is, by how it ended.
use Rattle.std.proofs.Common.{◌≡◌, ◌≤◌, ℕ, ◌+◌, None, Bor, refl, sym, subst, arith}
use Rattle.std.specs.Prelude.{Result, Ok, Err, IsErrAnd}
use Rattle.cga_shape.specs.declared.changes.Changes.{Changes}
use Rattle.cga_shape.specs.declared.sources.Sources.{Sources}
use Rattle.cga_derivation.specs.Derivation.{derive}
use Rattle.cga_expand.specs.Derivation.{derivation_of}
use Rattle.cga_update.specs.declared.kept.Kept.{Kept}
use Rattle.cga_update.specs.declared.renewal.Renewal.{Renewal}
use Rattle.cga_update.specs.declared.update_refused.UpdateRefused.{UpdateRefused}
use Rattle.cga_update.specs.declared.update_refused.UpdateRefused.TheVariants.{OverBudget, NoMemory}
use Rattle.cga_update.specs.Stands.{Stands}
use Rattle.cga_update.specs.Updates.{IsExact, IsUpdate, StandAsBefore}

module _ (r : Renewal) (before after : Kept) (was now : Changes) (calls since : ℕ) (counted : calls ≤ since) where
  -- where memory is wanting, only calls are counted
  pub given_up : (result : Result ℕ UpdateRefused) → IsErrAnd result (λ e. e ≡ NoMemory)
      → since ≤ calls + (r.budget + 2)
      → (r.old.now.mode ≡ r.new.now.mode → since ≤ calls + (r.budget + 1))
      → IsUpdate r before after was now calls since result
  given_up (Ok n) none bounded within = absurd none
  given_up (Err e) is bounded within = subst (λ x. IsUpdate r before after was now calls since (Err x)) (sym is) (record {
    stands = tt;
    exact = tt;
    spent = tt;
    over = tt;
    kept = tt;
    dependents = tt;
    changes = tt;
    most = tt;
    bounded = bounded;
    bounded_within = within;
    counted = counted;
  })

  module _ (most : since ≤ calls + (r.budget + 1)) where
    pub given_up_within : (result : Result ℕ UpdateRefused) → IsErrAnd result (λ e. e ≡ NoMemory)
        → IsUpdate r before after was now calls since result
    given_up_within result none = given_up result none (omega (arith, most)) (λ same. most)

    pub refused : derive (derivation_of r.new.now) r.budget ≡ None → StandAsBefore r.old.now before after
        → after.dependents ≡ before.dependents → now ≡ was
        → IsUpdate r before after was now calls since (Err OverBudget)
    refused over stands dependents changes = record {
      stands = tt;
      exact = tt;
      spent = tt;
      over = over;
      kept = stands;
      dependents = dependents;
      changes = changes;
      most = most;
      bounded = omega (arith, most);
      bounded_within = λ same. most;
      counted = counted;
    }

    pub done : (n : ℕ) → Stands r.new.now after → IsExact r.old.now r.new.now r.budget n now → since ≡ calls + n
        → IsUpdate r before after was now calls since (Ok n)
    done n stands exact spent = record {
      stands = stands;
      exact = exact;
      spent = spent;
      over = tt;
      kept = tt;
      dependents = tt;
      changes = tt;
      most = tt;
      bounded = omega (arith, most);
      bounded_within = λ same. most;
      counted = counted;
    }

-- the second comes from elsewhere to the same, within one mode and the same budget
pub record ComesToSame (r other : Renewal) : Type 0 where
  pub to : other.new ≡ r.new
  pub within : other.budget ≡ r.budget
  pub mode : other.old.now.mode ≡ other.new.now.mode

-- an update by a renewal was refused
pub record IsRefusedBy (r : Renewal) (calls since : ℕ) (e : UpdateRefused) : Type 0 where
  pub before : Kept
  pub after : Kept
  pub was : Changes
  pub now : Changes
  pub update : IsUpdate r before after was now calls since (Err e)

-- what is refused on the way from elsewhere to the same is refused
pub refused_anew : (r other : Renewal) → ComesToSame r other → (before : Kept) → Stands r.old.now before
    → (was : Changes) (calls since : ℕ) (e : UpdateRefused) → IsRefusedBy other calls since e
    → (result : Result ℕ UpdateRefused) → IsErrAnd result (λ x. x ≡ e)
    → IsUpdate r before before was was calls since result
refused_anew r other way before stood was calls since e u (Ok n) none = absurd none
refused_anew r other way before stood was calls since OverBudget u (Err x) is =
    subst (λ y. IsUpdate r before before was was calls since (Err y)) (sym is)
    (refused r before before was was calls since u.update.counted (subst (λ b. since ≤ calls + (b + 1)) way.within u.update.most)
    (subst (λ b. derive (derivation_of r.new.now) b ≡ None) way.within
    (subst (λ (s : Bor Sources). derive (derivation_of s.now) other.budget ≡ None) way.to u.update.over))
    (record { stands = stood; nodes = λ k. refl }) refl refl)
refused_anew r other way before stood was calls since NoMemory u (Err x) is =
    given_up_within r before before was was calls since u.update.counted (subst (λ b. since ≤ calls + (b + 1)) way.within (u.update.bounded_within way.mode)) (Err x) is
