-- What is touched over ranked shapes is what is touched over the lists of the derivations.
use Rattle.std.proofs.Common.{◌≡◌, ℕ, zero, suc, List, map, sym, ap, ◌∙◌, subst, inl, inr, None}
use Rattle.cga_order.specs.World.{World, Has}
use Rattle.cga_order.specs.declared.placed.Placed.{Placed}
use Rattle.cga_order.specs.declared.placed.Kind.TheVariants.{Waiting}
use Rattle.cga_order.specs.Consistent as order
use Rattle.cga_agenda.specs.Edit.{Edit, answers_at, NonInstance}
use Rattle.cga_rework.specs.Ranked.{Ranked, ranked_world, edit_of, unranked}
use Rattle.cga_agenda.proofs.Door.{AnsweredIn, own, taken-in, to_prefixes}
use Rattle.cga_derivation.specs.Derivation.{IsDerivation, reached, NothingWaits}
use Rattle.cga_rework.specs.Rules.{Shapes, Rules, IsRulesEdit, derivation_of}
use Rattle.cga_rework.specs.Touched.{Answered, Kept, SameInputs, Touched}
use Rattle.cga_rework.proofs.Worlds.{is_world, make}
use Rattle.cga_rework.proofs.Runs.{RankedRun, unranked-Has}
use Rattle.cga_rework.proofs.Kept.{kept_shape}
use Rattle.cga_rework.proofs.OwnStep.{answered_at, answered_by}
use Rattle.cga_order.proofs.Door as steps
use Rattle.cga_agenda.specs.Edit as agenda

module _ {S A B F P : Type 0} (shapes : Shapes S) where
  module _ (rules : Rules S A B F P) (are : IsDerivation (derivation_of shapes rules)) (steps_done : ℕ)
      (settled : NothingWaits (derivation_of shapes rules) (reached (derivation_of shapes rules) steps_done)) (r : RankedRun shapes rules are steps_done) where
    abbrev world : World (Ranked S) A F P
    world = ranked_world shapes rules

    pub quiet : order.NothingWaits world None r.1
    quiet n h b = settled n.shape (subst (λ x. Has x n.shape Waiting) r.3 (unranked-Has r.1 n Waiting h))

    -- a ranked shape that was answered is that of its shape
    the_ranked : (n m : Ranked S) (a : A) → NonInstance r.1 n → m.shape ≡ n.shape → AnsweredIn world r.0 r.1 r.2 m a
        → m ≡ n
    the_ranked n m a is e h =
        let done = steps.taken_done world (is_world shapes rules are) r.0 r.1 r.2 m (taken-in world (is_world shapes rules are) r.0 r.1 r.2 m a h) in
        ((steps.in_order world (is_world shapes rules are) r.0 r.1 r.2).distinct m n done.0 is.0 done.1 is.1 (λ i. (ap shapes.lot e i, ap shapes.path e i))).0

    -- its answers at its own step are those at its stamp
    pub to_own : (n : Ranked S) → NonInstance r.1 n
        → Answered (derivation_of shapes rules) n.shape (answers_at world r.1 n)
    to_own n is =
        let mine = (own world (is_world shapes rules are) r.0 r.1 r.2 quiet).1 n is.0 is.1 is.2 in
        answered_at (derivation_of shapes rules) steps_done n.shape (answers_at world r.1 n) (r.4 n (answers_at world r.1 n) mine)

    from_own : (n : Ranked S) → NonInstance r.1 n → (a : A) → Answered (derivation_of shapes rules) n.shape a
        → a ≡ answers_at world r.1 n
    from_own n is a h =
        let u = r.5 n.shape a (answered_by (derivation_of shapes rules) steps_done settled n.shape a h) in
        (own world (is_world shapes rules are) r.0 r.1 r.2 quiet).0 u.0 a u.2 ∙ ap (answers_at world r.1) (the_ranked n u.0 a is u.1 u.2)

  module _ (old new : Rules S A B F P) (laws : IsRulesEdit shapes old new) (i j : ℕ)
      (quiet_old : NothingWaits (derivation_of shapes old) (reached (derivation_of shapes old) i))
      (quiet_new : NothingWaits (derivation_of shapes new) (reached (derivation_of shapes new) j)) where
    abbrev edit : Edit (Ranked S) A B F P
    edit = edit_of shapes old new

    abbrev before : List (Placed S F P)
    before = reached (derivation_of shapes old) i

    abbrev after : List (Placed S F P)
    after = reached (derivation_of shapes new) j

    module _ (o : RankedRun shapes old laws.was i) (w : RankedRun shapes new laws.is j) where
      pub kept_old : (n : Ranked S) (depth : ℕ) → agenda.KeptAt edit o.1 w.1 depth n → NonInstance o.1 n
      kept_old n zero h = h.0
      kept_old n (suc depth) h = h.0

      both : (n : Ranked S) → NonInstance w.1 n
          → (agenda.Kept edit o.1 w.1 n → Kept shapes old new (map unranked o.1) (map unranked w.1) n.shape)
          × (Kept shapes old new (map unranked o.1) (map unranked w.1) n.shape → agenda.Kept edit o.1 w.1 n)
      both n is = kept_shape shapes old new laws.was laws.is o.0 w.0 o.1 w.1 o.2 w.2 (λ m k. (to_prefixes edit (make shapes old new laws) o.1 w.1 w.0 w.2 m k).2) n is

      to_shape : (n : Ranked S) → NonInstance w.1 n → agenda.Kept edit o.1 w.1 n
          → Kept shapes old new before after n.shape
      to_shape n is k = subst (λ x. Kept shapes old new before x n.shape) w.3 (subst (λ x. Kept shapes old new x (map unranked w.1) n.shape) o.3 ((both n is).0 k))

      pub from_shape : (n : Ranked S) → NonInstance w.1 n → Kept shapes old new before after n.shape
          → agenda.Kept edit o.1 w.1 n
      from_shape n is k = (both n is).1 (subst (λ x. Kept shapes old new x (map unranked w.1) n.shape) (sym o.3) (subst (λ x. Kept shapes old new before x n.shape) (sym w.3) k))

      inputs_shape : (n : Ranked S) → NonInstance w.1 n → NonInstance o.1 n → agenda.SameInputs edit o.1 w.1 n
          → SameInputs shapes old new n.shape
      inputs_shape n is was same = (
        same.0,
        (
          answers_at (ranked_world shapes new) w.1 n,
          subst (Answered (derivation_of shapes old) n.shape)
              same.1 (to_own old laws.was i quiet_old o n was),
          to_own new laws.is j quiet_new w n is,
        ),
      )

      pub inputs_ranked : (n : Ranked S) → NonInstance w.1 n → NonInstance o.1 n → SameInputs shapes old new n.shape
          → agenda.SameInputs edit o.1 w.1 n
      inputs_ranked n is was same =
          (same.0, sym (from_own old laws.was i quiet_old o n was same.1.0 same.1.1) ∙ from_own new laws.is j quiet_new w n is same.1.0 same.1.2)

      pub touched : (n : Ranked S) → NonInstance w.1 n
          → (agenda.Touched edit o.1 w.1 n → Touched shapes old new before after n.shape)
          × (Touched shapes old new before after n.shape → agenda.Touched edit o.1 w.1 n)
      touched n is = (
        (λ t. (
          subst (λ x. NonInstance x n.shape) w.3 (is.0, unranked-Has w.1 n is.0 is.1, is.2),
          elim t.1 [
            | inl never ↦ inl (λ k. never (from_shape n is k))
            | inr other ↦ inr (to_shape n is other.0, λ same. other.1 (inputs_ranked n is (kept_old n other.0.0 other.0.1) same))
          ],
        )),
        (λ t. (
          is,
          elim t.1 [
            | inl never ↦ inl (λ k. never (to_shape n is k))
            | inr other ↦ let k = from_shape n is other.0 in inr (k, λ same. other.1 (inputs_shape n is (kept_old n k.0 k.1) same))
          ],
        )),
      )
