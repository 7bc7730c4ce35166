-- What a derivation ends with is a consistent list.
use Rattle.std.proofs.Common.{◌≡◌, ℕ, List, [], ◌∷◌, map, Bool, true, false, not, ◌&&◌, cond, refl, sym, ap, ◌∙◌, subst, inl, inr, Result, Ok, Err, None}
use Rattle.std.specs.Ordering.{is_lt}
use Rattle.cga_order.specs.Stamp.{stamp, birth, stamps_cmp}
use Rattle.cga_order.specs.declared.placed.Placed.{Placed}
use Rattle.cga_order.specs.declared.placed.Kind.{Kind}
use Rattle.cga_order.specs.declared.placed.Kind.TheVariants.{Waiting, Done}
use Rattle.cga_order.specs.World.{World, Has, Among, shapes_where, is_instance}
use Rattle.cga_order.specs.Consistent as order
use Rattle.cga_order.proofs.Door as derived
use Rattle.cga_derivation.proofs.Lists.{ok_same, err_ok}
use Rattle.cga_derivation.specs.Derivation.{Derivation, IsDerivation, AllApart, reached, NothingWaits}
use Rattle.cga_derivation.specs.Sites.{Site, erase, all_sited, chain_of, world_of, sites, taken}
use Rattle.cga_derivation.specs.Stamps.{chain_in}
use Rattle.cga_derivation.specs.Consistent.{exists_at, waits_at, outcome_at, IsMade, IsConsistent}
use Rattle.cga_order.specs.Consistent.{Stands, HasOutcome}
use Rattle.cga_derivation.proofs.Sites.{world, Among-rooted}
use Rattle.cga_derivation.proofs.Along.{Has-erase, erase-sites, reached-sites}
use Rattle.cga_derivation.proofs.Least.{Has-erased}
use Rattle.cga_derivation.proofs.Apart.{apart-reached}
use Rattle.cga_derivation.proofs.Stamps.{chain-is, good-at}
use Rattle.cga_derivation.proofs.Unique.{sited-Has, Has-sited, rooted-Among}

module _ {N A F P : Type 0} (derivation : Derivation N A F P) (laws : IsDerivation derivation) (n : ℕ) (settled : NothingWaits derivation (reached derivation n)) where
  abbrev W : World (Site N) A F P
  W = world_of derivation

  abbrev C : List (Placed (Site N) F P)
  C = sites derivation n

  nothing : order.NothingWaits W None C
  nothing w h b = settled w.shape (subst (λ l. Has l w.shape Waiting) (erase-sites derivation n) (Has-erase C w Waiting h))

  good : order.IsConsistent W None C
  good = derived.consistent-reached W (world derivation laws) (taken derivation n) C (reached-sites derivation n) nothing

  chain : (s : Site N) (k : Kind F P) → Has C s k → chain_of derivation s ≡ chain_in derivation (erase C) s.shape
  chain s k h = chain-is derivation C (good-at derivation laws n) s k h

  shapes-erased : (t : Site N → Kind F P → Bool) (u : N → Kind F P → Bool) (xs : List (Placed (Site N) F P))
      → ((s : Site N) (k : Kind F P) → Has xs s k → t s k ≡ u s.shape k)
      → map (λ (m : Site N). m.shape) (shapes_where t xs) ≡ shapes_where u (erase xs)
  shapes-erased t u [] agree = refl
  shapes-erased t u (x ∷ xs) agree =
      let rest = shapes-erased t u xs (λ s k h. agree s k (inr h)) in
      elim (t x.shape x.kind) as (λ b. map (λ (m : Site N). m.shape)
      (cond b (x.shape ∷ shapes_where t xs) (shapes_where t xs)) ≡ cond b (x.shape.shape ∷ shapes_where u (erase xs)) (shapes_where u (erase xs))) [
        | true ↦ ap (λ l. x.shape.shape ∷ l) rest
        | false ↦ rest
      ] ∙ ap (λ b. cond b (x.shape.shape ∷ shapes_where u (erase xs)) (shapes_where u (erase xs))) (agree x.shape x.kind (inl (refl, refl)))

  outcome-erased : (s : Site N) (k : Kind F P) → Has C s k
      → order.outcome_at W C s ≡ all_sited (chain_of derivation s).priorities (outcome_at derivation (erase C) s.shape)
  outcome-erased s k h =
      let at = ap (stamp derivation.mode) (chain s k h) in
      let exists = shapes-erased (order.exists_at W s) (exists_at derivation (erase C) s.shape) C (λ t j g. λ i. is_lt (stamps_cmp derivation.mode (birth derivation.mode (chain t j g i)) (at i))) in
      let waits = shapes-erased (order.waits_at W s) (waits_at derivation (erase C) s.shape) C
      (λ t j g. λ i. (is_lt (stamps_cmp derivation.mode (birth derivation.mode (chain t j g i)) (at i))
      && not (is_instance j)) && is_lt (stamps_cmp derivation.mode (at i) (stamp derivation.mode (chain t j g i)))) in
      λ i. all_sited (chain_of derivation s).priorities (derivation.expand s.shape (derivation.answers s.shape (exists i) (waits i)))

  stands-erased : (s : Site N) (k : Kind F P) → Stands C s k → Stands (erase C) s.shape k
  stands-erased s k h = (h.0, Has-erase C s h.0 h.1, h.2, h.3)

  has-outcome : (ps : List ℕ) (k : Kind F P) (r : Result (List (Placed N F P)) F) → HasOutcome C k (all_sited ps r)
      → HasOutcome (erase C) k r
  has-outcome ps k (Ok cs) p = (p.0, λ c j g. stands-erased (record { shape = c; above = ps }) j (p.1 (record { shape = c; above = ps }) j (Has-sited ps cs c j g)))
  has-outcome ps k (Err f) p = p

  made-erased : (s t : Site N) (h : Has C t Done) (r : Result (List (Placed N F P)) F)
      (cs : List (Placed (Site N) F P)) (j : Kind F P)
      → outcome_at derivation (erase C) t.shape ≡ r → all_sited (chain_of derivation t).priorities r ≡ Ok cs
      → Has cs s j → IsMade derivation (erase C) s.shape
  made-erased s t h (Ok ds) cs j e is g = (t.shape, ds, Has-erase C t Done h, e, (j, (sited-Has (chain_of derivation t).priorities ds s j (subst (λ l. Has l s j) (sym (ok_same _ cs is)) g)).0))
  made-erased s t h (Err f) cs j e is g = err_ok f cs is

  consistent-erased : IsConsistent derivation (erase C)
  consistent-erased = record {
    apart = subst (λ l. AllApart derivation l) (sym (erase-sites derivation n)) (apart-reached derivation laws n);
    roots = λ r h. stands-erased (record { shape = r; above = [] }) Waiting (good.roots (record { shape = r; above = [] }) (rooted-Among derivation.roots r h));
    each = λ x k h z.
        let w = Has-erased C x k h in
        subst (λ y. HasOutcome (erase C) k (outcome_at derivation (erase C) y)) w.2
        (has-outcome (chain_of derivation w.0).priorities k (outcome_at derivation (erase C) w.0.shape)
        (subst (HasOutcome C k) (outcome-erased w.0 k w.1) (good.each w.0 k w.1 z tt)));
    only = λ x k h.
        let w = Has-erased C x k h in
        elim (good.only w.0 k w.1 tt) [
          | inl root ↦ inl (subst (λ y. Among y derivation.roots) w.2 (Among-rooted derivation.roots w.0 root).0)
          | inr made ↦ inr (subst (IsMade derivation (erase C)) w.2
              (made-erased w.0 made.0 made.2 (outcome_at derivation (erase C) made.0.shape) made.1 made.4.0 refl
              (sym (outcome-erased made.0 Done made.2) ∙ made.3) made.4.1))
        ];
  }

  -- where nothing waits, the configuration that was reached is a consistent list
  pub derived_consistent : IsConsistent derivation (reached derivation n)
  derived_consistent = subst (IsConsistent derivation) (erase-sites derivation n) consistent-erased
