-- What an edit starts from stands for the old derivation.
use Rattle.std.proofs.Common.{◌≡◌, ℕ, List, [], ◌∷◌, ◌++◌, map, true, false, sym, ◌∙◌, subst, inl, inr, None}
use Rattle.cga_order.specs.World.{World, IsWorld, Has, is_instance}
use Rattle.cga_order.specs.declared.placed.Placed.{Placed}
use Rattle.cga_order.specs.declared.placed.Kind.{Kind}
use Rattle.cga_order.specs.Consistent.{SameMembers}
use Rattle.cga_order.specs.Agenda.{Node, members_of, Keeps, IsTree, AllRight, IsRight}
use Rattle.cga_agenda.proofs.Door.{answers_same}
use Rattle.cga_order.proofs.Door.{Has-Keeps, right_consistent, same_members}
use Rattle.cga_rework.specs.Ranked.{Ranked, ranked_world, edit_of, unranked}
use Rattle.cga_agenda.specs.Work.{IsStart}
use Rattle.cga_derivation.specs.Derivation.{IsDerivation, reached, NothingWaits, IsDerived}
use Rattle.cga_rework.specs.Rules.{Shapes, Rules, derivation_of}
use Rattle.cga_rework.specs.Touched.{Answered}
use Rattle.cga_rework.specs.Exact.{StandsFor}
use Rattle.cga_rework.proofs.Worlds.{is_world}
use Rattle.cga_rework.proofs.Runs.{RankedRun, ranked_run, unranked-Has, Has-unranked}
use Rattle.cga_rework.proofs.Kept.{all_ranked-reached, last_is}
use Rattle.cga_rework.proofs.Touched.{quiet, to_own}

module _ {S A B F P : Type 0} (shapes : Shapes S) (rules : Rules S A B F P) (are : IsDerivation (derivation_of shapes rules)) where
  abbrev world : World (Ranked S) A F P
  world = ranked_world shapes rules

  laws : IsWorld world
  laws = is_world shapes rules are

  module _ (nodes : List (Node (Ranked S) A F P)) (tree : IsTree world nodes)
      (right : AllRight world nodes (λ n. false)) (i : ℕ) (settled : NothingWaits (derivation_of shapes rules)
      (reached (derivation_of shapes rules) i)) (w : RankedRun shapes rules are i) where
    same : SameMembers (members_of nodes) w.1
    same = same_members world laws (members_of nodes) (right_consistent world laws nodes (λ n. false) None tree
        right (λ n k a h q b. let x : false ≡ true = q in cc)) w.0 w.1 w.2 (quiet shapes rules are i settled w)

    abbrev list : List (Placed S F P)
    list = reached (derivation_of shapes rules) i

    to_members : (s : S) (k : Kind F P) → Has (map unranked (members_of nodes)) s k → Has list s k
    to_members s k h =
        let n = Has-unranked (members_of nodes) s k h in
        subst (λ l. Has l s k) w.3 (subst (λ x. Has (map unranked w.1) x k) n.2 (unranked-Has w.1 n.0 k ((same n.0 k).0 n.1)))

    from_members : (s : S) (k : Kind F P) → Has list s k → Has (map unranked (members_of nodes)) s k
    from_members s k h =
        let n = Has-unranked w.1 s k (subst (λ l. Has l s k) (sym w.3) h) in
        subst (λ x. Has (map unranked (members_of nodes)) x k) n.2 (unranked-Has (members_of nodes) n.0 k ((same n.0 k).1 n.1))

    is_right : (n : Ranked S) (k : Kind F P) (a : A) → Keeps nodes n k a → is_instance k ≡ false
        → IsRight world nodes n k a
    is_right n k a h e = elim (right n k a h e) [ inl q ↦ let x : false ≡ true = q in cc | inr r ↦ r ]

    there : (n : Ranked S) (k : Kind F P) (a : A) → Keeps nodes n k a → Has w.1 n k
    there n k a h = (same n k).0 (Has-Keeps nodes n k a h)

    answers : (n : Ranked S) (k : Kind F P) (a : A) → Keeps nodes n k a → is_instance k ≡ false
        → Answered (derivation_of shapes rules) n.shape a
    answers n k a h e =
        let kept = (is_right n k a h e).0 ∙ answers_same world laws n (members_of nodes) w.1 same in
        subst (Answered (derivation_of shapes rules) n.shape) (sym kept) (to_own shapes rules are i settled w n (k, there n k a h, e))

    priorities : (n : Ranked S) (k : Kind F P) (a : A) → Keeps nodes n k a → is_instance k ≡ false
        → (above : List ℕ) × (n.priorities ≡ above ++ rules.priority n.shape ∷ [])
    priorities n k a h e = last_is shapes rules rules rules are w.1 n (all_ranked-reached shapes rules rules rules are w.0 w.1 w.2 n k (there n k a h) e)

    stands : StandsFor shapes rules nodes list
    stands = record {
      members = λ s k. (to_members s k, from_members s k);
      answers = answers;
      priorities = priorities;
    }

  -- where the old derivation ends in a list, what an edit starts from stands for that list
  pub start_stands : (new : Rules S A B F P) (start : List (Node (Ranked S) A F P))
      → IsStart (edit_of shapes rules new) start → (derived : List (Placed S F P))
      → IsDerived (derivation_of shapes rules) derived → StandsFor shapes rules start derived
  start_stands new start started derived (i, e, q) =
      let settled = subst (NothingWaits (derivation_of shapes rules)) e q in
      subst (StandsFor shapes rules start) (sym e) (stands start started.tree started.right i settled (ranked_run shapes rules are i))
