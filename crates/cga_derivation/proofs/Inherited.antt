-- What holds of the roots, and of the children of what it holds of, holds of each member that is no instance.
use Rattle.std.proofs.Common.{◌≡◌, ℕ, zero, suc, List, [], ◌∷◌, map, false, refl, ap, ◌∙◌, subst, ◌⊎◌, inl, inr, Result, Ok, Err, Option, Some, None}
use Rattle.std.specs.Prelude.{slice_get, slice_set}
use Rattle.cga_order.specs.declared.placed.Placed.{Placed}
use Rattle.cga_order.specs.declared.placed.Kind.{Kind}
use Rattle.cga_order.specs.declared.placed.Kind.TheVariants.{Waiting, Done, Faulted}
use Rattle.cga_order.specs.World.{Has, Among, is_instance}
use Rattle.cga_order.proofs.Door.{Has-append, Has-index}
use Rattle.cga_derivation.specs.Derivation.{Derivation, IsDerivation, next_of, is_next, become, told, outcome, asked, step_by, step, reached}
use Rattle.cga_derivation.proofs.Along.{both, first_of-passes, first_of-Has}
use Rattle.cga_derivation.proofs.Least.{waiting_kind}
use Rattle.cga_derivation.proofs.Apart.{apart-reached}
use Rattle.cga_derivation.proofs.Keys.{become-set}

module _ {N F P : Type 0} where
  -- a member of a list in which one was replaced is that one, or a member of the list
  pub Has-set : (xs : List (Placed N F P)) (i : ℕ) (v : Placed N F P) (x : N) (k : Kind F P)
      → Has (slice_set xs i v) x k → ((v.shape ≡ x) × (v.kind ≡ k)) ⊎ Has xs x k
  Has-set [] i v x k h = absurd h
  Has-set (y ∷ xs) zero v x k h = elim h [ inl e ↦ inl e | inr r ↦ inr (inr r) ]
  Has-set (y ∷ xs) (suc i) v x k h = elim h [
    | inl e ↦ inr (inl e)
    | inr r ↦ elim (Has-set xs i v x k r) [ inl e ↦ inl e | inr q ↦ inr (inr q) ]
  ]

  Has-roots : (rs : List N) (x : N) (k : Kind F P) → Has (map (λ n. record { shape = n; kind = Waiting }) rs) x k
      → Among x rs
  Has-roots [] x k h = absurd h
  Has-roots (r ∷ rs) x k h = elim h [ inl e ↦ inl e.0 | inr q ↦ inr (Has-roots rs x k q) ]

module _ {N A F P : Type 0} (derivation : Derivation N A F P) (laws : IsDerivation derivation) (Q : N → Type 0)
    (roots : (r : N) → Among r derivation.roots → Q r) (children : (s : N) (a : A) (cs : List (Placed N F P)) → Q s
    → derivation.expand s a ≡ Ok cs → (c : N) (k : Kind F P) → Has cs c k → is_instance k ≡ false → Q c) where
  abbrev Members : Type 0
  Members = List (Placed N F P)

  told-kept : (list : Members) (i : ℕ) (m : Placed N F P) (r : Result Members F) → slice_get list i ≡ Some m → Q m.shape
      → ((k : Kind F P) → map (become derivation m.shape k) list ≡ slice_set list i
      (record { shape = m.shape; kind = k }))
      → ((x : N) (k : Kind F P) → Has list x k → is_instance k ≡ false → Q x)
      → derivation.expand m.shape (asked derivation list m.shape) ≡ r → (x : N) (k : Kind F P)
      → Has (told derivation list m.shape r) x k → is_instance k ≡ false → Q x
  told-kept list i m (Ok cs) at known writes before e x k h plainly = elim (Has-append (map (become derivation m.shape Done) list) cs x k h) [
    | inl a ↦ elim (Has-set list i (record { shape = m.shape; kind = Done }) x k (subst (λ l. Has l x k) (writes Done) a)) [
      | inl q ↦ subst Q q.0 known
      | inr q ↦ before x k q plainly
    ]
    | inr b ↦ children m.shape (asked derivation list m.shape) cs known e x k b plainly
  ]
  told-kept list i m (Err f) at known writes before e x k h plainly = elim (Has-set list i (record { shape = m.shape; kind = Faulted f }) x k (subst (λ l. Has l x k) (writes (Faulted f)) h)) [
    | inl q ↦ subst Q q.0 known
    | inr q ↦ before x k q plainly
  ]

  -- where roots have a property, and what has it passes it to its children, each reached member but instances has it
  pub kept : (n : ℕ) (x : N) (k : Kind F P) → Has (reached derivation n) x k → is_instance k ≡ false → Q x
  unfolding reached step
  kept zero x k h plainly = roots x (Has-roots derivation.roots x k h)
  kept (suc n) x k h plainly = by (λ y j g z. kept n y j g z) (next_of derivation (reached derivation n)) refl h
    where
      by : ((y : N) (j : Kind F P) → Has (reached derivation n) y j → is_instance j ≡ false → Q y)
          → (o : Option (Placed N F P)) → next_of derivation (reached derivation n) ≡ o
          → Has (step_by derivation (reached derivation n) o) x k → Q x
      by before None e g = before x k g plainly
      by before (Some m) e g =
          let here = first_of-Has (is_next derivation (reached derivation n)) (reached derivation n) m e in
          let kind = waiting_kind m.kind (both _ _ (first_of-passes (is_next derivation (reached derivation n)) (reached derivation n) m e)).0 in
          let i = Has-index (reached derivation n) m.shape m.kind here in
          let there : slice_get (reached derivation n) i.0 ≡ Some m = i.2 ∙ (λ t. Some (record { shape = i.3 t; kind = i.4 t })) in
          let known = before m.shape m.kind here (ap is_instance kind) in
          told-kept (reached derivation n) i.0 m (outcome derivation (reached derivation n) m.shape) there known
          (λ j. become-set derivation (reached derivation n) i.0 m j (apart-reached derivation laws n) there) before refl x k g plainly
