-- A root goes, with all below it.
use Rattle.std.proofs.Common.{◌≡◌, ◌⊎◌, inl, inr, ℕ, List, ◌++◌, Bool, true, false, refl, sym, ap, ◌∙◌, subst, Option, Some, None, arith}
use Rattle.std.specs.Prelude.{◌↔◌, is_some, if◌then◌else◌}
use Rattle.cga_index.specs.Tree.{Apart, Member}
use Rattle.cga_order.specs.World.{Among}
use Rattle.cga_forest.proofs.Door.{under_parent, under_step}
use Rattle.cga_fraction.proofs.Door.{None-not-Some as none_some, same_Some as some_same}
use Rattle.cga_forest.specs.declared.node_change.NodeChange.{NodeChange}
use Rattle.cga_forest.specs.NodeChange.{ListsBelow, ids_of, moved_of}
use Rattle.cga_forest.specs.View.{Seen}
use Rattle.cga_forest.specs.Tree.{ForestView, IsForest, IsRootOf, IsWithout, HasNoLot, KeepsMark, children_at, children_of, node_at, under}
use Rattle.cga_forest.proofs.Door as walk
use Rattle.cga_update.specs.Roots.{View, HasLost, IsRootNamed}
use Rattle.cga_update.proofs.Members.{among_either, ids_join, id_of}
use Rattle.cga_order.proofs.Door.{Among-left as among_left, Among-right as among_right}
use Rattle.cga_index.proofs.Door.{apart_join}

-- ---- one slot

cut_either : (b : Bool) (s t : Option Seen) (d : Seen) → t ≡ (if b then None else s) → s ≡ Some d
    → (t ≡ Some d) ⊎ (t ≡ None)
cut_either true s t d e f = inr e
cut_either false s t d e f = inl (e ∙ f)

cut_none : (b : Bool) (s t : Option Seen) → t ≡ (if b then None else s) → s ≡ None → t ≡ None
cut_none true s t e f = e
cut_none false s t e f = e ∙ f

cut_some : (b : Bool) (s t : Option Seen) (d : Seen) → t ≡ (if b then None else s) → t ≡ Some d
    → (b ≡ false) × (s ≡ Some d)
cut_some true s t d e f = none_some d (sym e ∙ f)
cut_some false s t d e f = (refl, sym e ∙ f)

cut_gone : (b : Bool) (s t : Option Seen) (d : Seen) → t ≡ (if b then None else s) → s ≡ Some d → t ≡ None → b ≡ true
cut_gone true s t d e f g = refl
cut_gone false s t d e f g = none_some d (sym g ∙ (e ∙ f))

cut_along : (a b : Bool) (s t u v : Option Seen) → u ≡ (if a then None else s) → v ≡ (if b then None else t)
    → is_some s ≡ is_some t → ((d : Seen) → s ≡ Some d → a ≡ b) → is_some u ≡ is_some v
cut_along a b None None u v e f same alike = ap is_some (cut_none a None u e refl) ∙ sym (ap is_some (cut_none b None v f refl))
cut_along a b None (Some y) u v e f same alike = absurd (cc)
cut_along a b (Some x) None u v e f same alike = absurd (cc)
cut_along a b (Some x) (Some y) u v e f same alike = cut_both a b x y u v e f (alike x refl)
  where
    cut_both : (a b : Bool) (x y : Seen) (u v : Option Seen) → u ≡ (if a then None else Some x)
        → v ≡ (if b then None else Some y) → a ≡ b → is_some u ≡ is_some v
    cut_both true true x y u v e f g = ap is_some e ∙ sym (ap is_some f)
    cut_both false false x y u v e f g = ap is_some e ∙ sym (ap is_some f)
    cut_both true false x y u v e f g = absurd (cc)
    cut_both false true x y u v e f g = absurd (cc)

-- what stands below a node is that node, or has its parent below it
pub under_along : (v : ForestView) → IsForest v → (root : ℕ) (r : Seen) → node_at v root ≡ Some r → r.parent ≡ None
    → (c p : ℕ) (d : Seen) → node_at v c ≡ Some d → d.parent ≡ Some p
    → under (children_at v) 257 root c ≡ under (children_at v) 257 root p
under_along v laws root r is top c p d at up = walk.under_along (children_at v) (node_at v) laws.present.tree (λ k x e. ap children_of e) root c p r d is top at up

under_own : (v : ForestView) (root : ℕ) → under (children_at v) 257 root root ≡ true
under_own v root = grind (arith, under_step (children_at v) 257 root root)

-- ---- a removal

pub was_removed : (old new : ForestView) (name : List ℕ) (r : ℕ) (b : Bool) → (b ≡ false → HasNoLot old name)
    → (b ≡ true → (root : ℕ) × IsRootOf (node_at old) name root × IsWithout old new root)
    → IsRootOf (node_at old) name r
    → ((c : ℕ) → IsRootOf (node_at old) name c → c ≡ r) → IsWithout old new r
was_removed old new name r false absent there is only = absurd (absent refl r is)
was_removed old new name r true absent there is only = let w = there refl in subst (λ (k : ℕ). IsWithout old new k) (only w.0 w.1) w.2

module _ (old new : ForestView) (root : ℕ) (r : Seen) (without : IsWithout old new root) (laws : IsForest old) (is : node_at old root ≡ Some r) (top : r.parent ≡ None) where
  abbrev removed_under : ℕ → Bool
  removed_under c = under (children_at old) 257 root c

  pub less_after : (c : ℕ) (d : Seen) → node_at new c ≡ Some d → node_at old c ≡ Some d
  less_after c d at = (cut_some (removed_under c) (node_at old c) (node_at new c) d (without c) at).1

  pub gone_after : (name : List ℕ) → ((c : ℕ) → IsRootOf (node_at old) name c → c ≡ root) → (c : ℕ) (d : Seen)
      → IsRootNamed (node_at new) name c d → ⊥
  gone_after name only c d w =
      let x = cut_some (removed_under c) (node_at old c) (node_at new c) d (without c) w.0 in
      let same : c ≡ root = only c (d, x.1, w.1, w.2) in
      let z : true ≡ false = sym (under_own old root) ∙ (ap removed_under (sym same) ∙ x.0) in absurd (cc)

  pub others_after : (c : ℕ) (d : Seen) → node_at old c ≡ Some d → d.parent ≡ None
      → (d.node.shape.lot ≡ r.node.shape.lot → ⊥) → node_at new c ≡ Some d
  others_after c d at up other = by_under (removed_under c) refl
    where
      by_under : (b : Bool) → removed_under c ≡ b → node_at new c ≡ Some d
      by_under true below =
          let same : c ≡ root = under_parent (children_at old) (node_at old) laws.present.tree (λ k x e. ap children_of e) 257 root c r d is at up below in
          let z : d ≡ r = some_same d r (sym at ∙ (ap (node_at old) same ∙ is)) in
          absurd (other (ap (λ (x : Seen). x.node.shape.lot) z))
      by_under false apart = without c ∙ (ap (λ (b : Bool). if b then None else node_at old c) apart ∙ at)

  pub lost_more : (V : View) (removed below : List NodeChange) → KeepsMark old new → ListsBelow old root below
      → HasLost V old removed → HasLost V new (removed ++ below)
  lost_more V removed below mark listed lost = record {
    marking = mark.0 ∙ lost.marking;
    marked = λ c. mark.1 lost.marking c ∙ lost.marked c;
    rest = λ c d v. elim (lost.rest c d v) [
      | inl t ↦ cut_either (removed_under c) (node_at old c) (node_at new c) d (without c) t
      | inr t ↦ inr (cut_none (removed_under c) (node_at old c) (node_at new c) (without c) t)
    ];
    none = λ c v. cut_none (removed_under c) (node_at old c) (node_at new c) (without c) (lost.none c v);
    along = λ c p d v up. cut_along (removed_under c) (removed_under p) (node_at old c) (node_at old p) (node_at new c) (node_at new p) (without c) (without p) (lost.along c p d v up)
        (λ e at. elim (lost.rest c d v) [
          | inl t ↦ under_along old laws root r is top c p d t up
          | inr t ↦ none_some e (sym t ∙ at)
        ]);
    removed = record {
      once = subst (λ (ids : List ℕ). Apart ids) (sym (ids_join removed below)) (apart_join (ids_of removed) (ids_of below) lost.removed.once listed.once both);
      each = λ m. (to m, from m);
    };
  }
    where
      both : (n : ℕ) → Member (ids_of removed) n → Member (ids_of below) n → ⊥
      both n a b =
          let x = id_of removed n a in
          let y = id_of below n b in
          let p = (lost.removed.each x.0).0 x.1 in
          let q = (listed.each y.0).0 y.1 in
          let same : p.0 ≡ q.0 = sym (ap (λ (m : NodeChange). m.id) p.4) ∙ (x.2 ∙ (sym y.2 ∙ ap (λ (m : NodeChange). m.id) q.4)) in
          none_some q.1 (sym p.3 ∙ (ap (node_at old) same ∙ q.2))

      known : (c : ℕ) (d : Seen) → node_at old c ≡ Some d → (o : Option Seen) → V c ≡ o → V c ≡ Some d
      known c d at None v = none_some d (sym (lost.none c v) ∙ at)
      known c d at (Some e) v = elim (lost.rest c e v) [
        | inl t ↦ v ∙ (sym t ∙ at)
        | inr t ↦ none_some d (sym t ∙ at)
      ]

      to : (m : NodeChange) → Among m (removed ++ below)
          → (c : ℕ) × (d : Seen) × (V c ≡ Some d) × (node_at new c ≡ None) × (m ≡ moved_of c d)
      to m h = elim (among_either removed below m h) [
        | inl a ↦ (let p = (lost.removed.each m).0 a in (p.0, p.1, p.2, cut_none (removed_under p.0) (node_at old p.0) (node_at new p.0) (without p.0) p.3, p.4))
        | inr b ↦ (let q = (listed.each m).0 b in (q.0, q.1, known q.0 q.1 q.2 (V q.0) refl, without q.0 ∙ ap (λ (b : Bool). if b then None else node_at old q.0) q.3, q.4))
      ]

      from : (m : NodeChange) → ((c : ℕ) × (d : Seen) × (V c ≡ Some d) × (node_at new c ≡ None) × (m ≡ moved_of c d))
          → Among m (removed ++ below)
      from m w = elim (lost.rest w.0 w.1 w.2) [
        | inl t ↦ among_right removed below m ((listed.each m).1 (w.0, w.1, t, cut_gone (removed_under w.0) (node_at old w.0) (node_at new w.0) w.1 (without w.0) t w.3, w.4))
        | inr t ↦ among_left removed below m ((lost.removed.each m).1 (w.0, w.1, w.2, t, w.4))
      ]

-- ---- as the calls tell it

module _ (v : ForestView) (name : List ℕ) (o : Option ℕ) (each : (c : ℕ) → (o ≡ Some c) ↔ IsRootOf (node_at v) name c) where
  pub none_named : o ≡ None → (c : ℕ) (d : Seen) → IsRootNamed (node_at v) name c d → ⊥
  none_named none c d w = none_some c (sym none ∙ (each c).1 (d, w.0, w.1, w.2))

  pub some_named : (root : ℕ) → o ≡ Some root → is_some (node_at v root) ≡ true
  some_named root is = ap is_some ((each root).0 is).1

module _ (old new : ForestView) (name : List ℕ) (o : Option ℕ) (each : (c : ℕ) → (o ≡ Some c) ↔ IsRootOf (node_at old) name c) (root : ℕ) (is : o ≡ Some root)
    (b : Bool) (absent : b ≡ false → HasNoLot old name) (there : b ≡ true → (k : ℕ) × IsRootOf (node_at old) name k × IsWithout old new k) (laws : IsForest old) where
  abbrev root_is : IsRootOf (node_at old) name root
  root_is = (each root).0 is

  only_root : (c : ℕ) → IsRootOf (node_at old) name c → c ≡ root
  only_root c h = some_number c root (sym ((each c).1 h) ∙ is)
    where
      some_number : (x y : ℕ) → Some x ≡ Some y → x ≡ y
      some_number x y e = some_same x y e

  without : IsWithout old new root
  without = was_removed old new name root b absent there root_is only_root

  pub less_named : (c : ℕ) (d : Seen) → node_at new c ≡ Some d → node_at old c ≡ Some d
  less_named = less_after old new root root_is.0 without laws root_is.1 root_is.2

  pub gone_named : (c : ℕ) (d : Seen) → IsRootNamed (node_at new) name c d → ⊥
  gone_named = gone_after old new root root_is.0 without laws root_is.1 root_is.2 name only_root

  pub others_named : (c : ℕ) (d : Seen) → node_at old c ≡ Some d → d.parent ≡ None → (d.node.shape.lot ≡ name → ⊥)
      → node_at new c ≡ Some d
  others_named c d at up other = others_after old new root root_is.0 without laws root_is.1 root_is.2 c d at up (λ e. other (e ∙ root_is.3))

  pub lost_named : (V : View) (removed below : List NodeChange) → KeepsMark old new → ListsBelow old root below
      → HasLost V old removed → HasLost V new (removed ++ below)
  lost_named = lost_more old new root root_is.0 without laws root_is.1 root_is.2
