-- What holds between turns, of nodes and their children.
use Rattle.std.proofs.Common.{◌≡◌, ℕ, zero, suc, List, [], ◌∷◌, ◌++◌, map, true, false, refl, sym, ap, ◌∙◌, subst, inl, inr, Result, Ok, Err}
use Rattle.std.specs.Cmp.{IsTotalOrder}
use Rattle.cga_order.specs.Chain.{IsChild}
use Rattle.cga_order.specs.Stamp.{stamps_cmp}
use Rattle.cga_order.specs.World.{World, IsWorld, Has, Among, is_waiting, is_instance, place_of, IsNew}
use Rattle.cga_order.specs.declared.placed.Placed.{Placed}
use Rattle.cga_order.specs.declared.placed.Kind.{Kind}
use Rattle.cga_order.specs.declared.placed.Kind.TheVariants.{Waiting, Done, Faulted, Instance}
use Rattle.cga_order.specs.Consistent.{Stands}
use Rattle.cga_order.specs.Agenda.{Node, members_of, Keeps, HasChildren, IsSettled, IsRight, Remains, IsTree}
use Rattle.cga_order.specs.Total.{stamps_total}
use Rattle.cga_order.proofs.Door.{Has-Keeps, Keeps-Has, snoc-same}
use Rattle.cga_order.proofs.Door as steps
use Rattle.cga_agenda.specs.Edit.{Side, Edit, IsEdit, world_of, old_world, new_world, renewed, NonInstance, KeptAt}
use Rattle.cga_agenda.specs.Work.{first_kind, renewed_child, HasRenewed, IsStart}
use Rattle.cga_agenda.proofs.Lists.{Has-map, map-Has}

-- a list that ends with an element is not empty
pub path_not_empty : {X : Type 0} (xs : List X) (x : X) → xs ++ x ∷ [] ≡ [] → ⊥
path_not_empty [] x e = cc
path_not_empty (y ∷ xs) x e = cc

module _ {N A B F P : Type 0} (edit : Edit N A B F P) where
  abbrev pub Nodes : Type 0
  Nodes = List (Node N A F P)

  -- a node that is no instance
  pub Keeps-NonInstance : (nodes : Nodes) (n : N) (k : Kind F P) (a : A) → Keeps nodes n k a → is_instance k ≡ false
      → NonInstance (members_of nodes) n
  Keeps-NonInstance nodes n k a h i = (k, Has-Keeps nodes n k a h, i)

  pub NonInstance-Keeps : (nodes : Nodes) (n : N) → NonInstance (members_of nodes) n
      → (k : Kind F P) × (a : A) × Keeps nodes n k a × (is_instance k ≡ false)
  NonInstance-Keeps nodes n (k, h, i) = let w = Keeps-Has nodes n k h in (k, w.0, w.1, i)

  -- the children of n in the one list were there in the other
  abbrev pub ChildrenFrom : Nodes → Nodes → N → Type 0
  ChildrenFrom before after n = (c : N) (j : Kind F P) (b : A) (i : ℕ) → IsChild (edit.chain n) i (edit.chain c) → Keeps after c j b → (k : Kind F P) × (a : A) × Keeps before c k a

  -- and those that were there remain
  abbrev pub ChildrenTo : Nodes → Nodes → N → Type 0
  ChildrenTo before after n = (c : N) (j : Kind F P) (b : A) (i : ℕ) → IsChild (edit.chain n) i (edit.chain c) → Keeps before c j b → Remains (new_world edit) after c j

  -- a list of children stands right below n
  abbrev pub AllBelow : N → List (Placed N F P) → Type 0
  AllBelow n cs = (c : N) (j : Kind F P) → Has cs c j → (i : ℕ) × IsChild (edit.chain n) i (edit.chain c)

  pub children_on : (side : Side N A B F P) (before after : Nodes) (n : N) (cs : List (Placed N F P)) → AllBelow n cs
      → ChildrenFrom before after n → ChildrenTo before after n → HasChildren (world_of edit side) before n cs
      → HasChildren (world_of edit side) after n cs
  children_on side before after n cs below from to h = record {
    all = λ c j g.
        let u = below c j g in
        let there = h.all c j g in
        let w = Keeps-Has before c there.0 there.1 in
        let r = to c there.0 w.0 u.0 u.1 w.1 in
        (r.0, Has-Keeps after c r.0 r.1 r.2, r.3 ∙ there.2, λ i. r.4 (there.2 ∙ i) ∙ there.3 i);
    only = λ c j b g i child. let w = from c j b i child g in h.only c w.0 w.1 w.2 i child;
  }

  -- a node whose children are the same stays settled
  pub still_settled : (side : Side N A B F P) → IsWorld (world_of edit side)
      → (before after : Nodes) (n : N) (k : Kind F P) (a : A) → ChildrenFrom before after n → ChildrenTo before after n
      → IsSettled (world_of edit side) before n k (side.expand n a)
      → IsSettled (world_of edit side) after n k (side.expand n a)
  still_settled side laws before after n k a from to h = by (side.expand n a) refl h
    where
      by : (r : Result (List (Placed N F P)) F) → side.expand n a ≡ r → IsSettled (world_of edit side) before n k r
          → IsSettled (world_of edit side) after n k r
      by (Ok cs) e g = (g.0, children_on side before after n cs (λ c j i. let u = steps.child_of (world_of edit side) laws n a cs e c j i in (u.0, u.5)) from to g.1)
      by (Err f) e g = (g.0, children_on side before after n [] (λ c j i. absurd i) from to g.1)

  -- two lists in which n is settled by one outcome have the same non-instances below it
  pub same_children : (side : Side N A B F P) (one other : Nodes) (n c : N) (k j : Kind F P) (i : ℕ)
      (r : Result (List (Placed N F P)) F)
      → ((h : Kind F P) (g : Kind F P) → Has (members_of one) c h → Has (members_of one) c g → h ≡ g)
      → IsChild (edit.chain n) i (edit.chain c) → IsSettled (world_of edit side) one n k r
      → IsSettled (world_of edit side) other n j r → NonInstance (members_of one) c → NonInstance (members_of other) c
  same_children side one other n c k j i (Ok cs) single child g h is =
      let w = NonInstance-Keeps one c is in
      let m = g.1.only c w.0 w.1 w.2 i child in
      let u = g.1.all c m.0 m.1 in
      let v = h.1.all c m.0 m.1 in
      (v.0, v.1, v.2 ∙ (sym u.2 ∙ (ap is_instance (single u.0 w.0 u.1 (Has-Keeps one c w.0 w.1 w.2)) ∙ w.3)))
  same_children side one other n c k j i (Err f) single child g h is =
      let w = NonInstance-Keeps one c is in
      absurd (g.1.only c w.0 w.1 w.2 i child).1

  pub waiting_is : (k : Kind F P) → is_waiting k ≡ true → k ≡ Waiting
  waiting_is Waiting e = refl
  waiting_is Done e = let x : false ≡ true = e in cc
  waiting_is (Faulted f) e = let x : false ≡ true = e in cc
  waiting_is (Instance p) e = let x : false ≡ true = e in cc

  -- what is settled doesn't wait
  pub settled_done : (world : World N A F P) (nodes : Nodes) (n : N) (k : Kind F P) (r : Result (List (Placed N F P)) F)
      → IsSettled world nodes n k r → is_waiting k ≡ false
  settled_done world nodes n k (Ok cs) h = ap is_waiting h.0
  settled_done world nodes n k (Err f) h = ap is_waiting h.0

  pub new_not : (k : Kind F P) → IsNew k → is_instance k ≡ false → is_waiting k ≡ false → ⊥
  new_not k new i w = elim new [
    | inl e ↦ let x : true ≡ false = sym (ap is_waiting e) ∙ w in cc
    | inr p ↦ let x : true ≡ false = sym (ap is_instance p.1) ∙ i in cc
  ]

  pub kept_new : (old new : List (Placed N F P)) (depth : ℕ) (n : N) → KeptAt edit old new depth n
      → NonInstance old n × NonInstance new n
  kept_new old new zero n h = (h.0, h.1)
  kept_new old new (suc depth) n h = (h.0, h.1)

  module _ (laws : IsEdit edit) (start : Nodes) (started : IsStart edit start) where
    abbrev w : World N A F P
    w = new_world edit

    pub order : IsTotalOrder (stamps_cmp edit.mode)
    order = stamps_total edit.mode

    pub was_right : (n : N) (k : Kind F P) (a : A) → Keeps start n k a → is_instance k ≡ false
        → IsRight (old_world edit) start n k a
    was_right n k a h i = elim (started.right n k a h i) [ inl q ↦ (let x : false ≡ true = q in cc) | inr r ↦ r ]

    pub one_kind : (nodes : Nodes) (tree : IsTree w nodes) (c : N) (h g : Kind F P) → Has (members_of nodes) c h
        → Has (members_of nodes) c g → h ≡ g
    one_kind nodes tree c h g x y =
        let u = Keeps-Has nodes c h x in
        let v = Keeps-Has nodes c g y in
        (tree.distinct c c h g u.0 v.0 u.1 v.1 refl).1

    pub one_kind_old : (c : N) (h g : Kind F P) → Has (members_of start) c h → Has (members_of start) c g → h ≡ g
    one_kind_old c h g x y =
        let u = Keeps-Has start c h x in
        let v = Keeps-Has start c g y in
        (started.tree.distinct c c h g u.0 v.0 u.1 v.1 refl).1

    pub parents_same : (p q c : N) (i j : ℕ) → IsChild (edit.chain p) i (edit.chain c)
        → IsChild (edit.chain q) j (edit.chain c) → place_of w p ≡ place_of w q
    parents_same p q c i j u v =
        let path = (snoc-same (edit.chain p).path (edit.chain q).path i j (sym u.path ∙ v.path)).0 in
        let lot : (edit.chain p).lot ≡ (edit.chain q).lot = sym u.lot ∙ v.lot in
        λ x. (lot x, path x)

    pub root_no_child : (r p : N) (i : ℕ) → Among r edit.new.roots → IsChild (edit.chain p) i (edit.chain r) → ⊥
    root_no_child r p i root child = path_not_empty (edit.chain p).path i (sym child.path ∙ laws.new.root r root)

    pub first_kind_is : (k j : Kind F P) → IsNew j → is_instance k ≡ is_instance j → (is_instance j ≡ true → k ≡ j)
        → first_kind k ≡ j
    first_kind_is k j new alike same = elim new [
      | inl e ↦ waits k (alike ∙ ap is_instance e) ∙ sym e
      | inr p ↦
          let is : k ≡ j = same (ap is_instance p.1) in
          ap first_kind (is ∙ p.1) ∙ sym p.1
    ]
      where
        waits : (l : Kind F P) → is_instance l ≡ false → first_kind l ≡ Waiting
        waits Waiting e = refl
        waits Done e = refl
        waits (Faulted f) e = refl
        waits (Instance p) e = let x : true ≡ false = e in cc

    -- children that got their new priorities are those of the old outcome with them
    pub placed : (before after : Nodes) (s : N) (k : Kind F P) (a : A) → IsTree w before
        → HasRenewed edit before after s → IsSettled (old_world edit) before s k (edit.old.expand s a)
        → IsSettled w after s k (renewed edit.renew (edit.old.expand s a))
    placed before after s k a tree new h = by (edit.old.expand s a) refl h
      where
        -- a child as it was made is one of the outcome
        made : (cs : List (Placed N F P)) → edit.old.expand s a ≡ Ok cs → HasChildren (old_world edit) before s cs
            → (c : N) (j : Kind F P) → Has cs c j → (l : Kind F P) → Has (members_of before) c l
            → ((i : ℕ) × IsChild (edit.chain s) i (edit.chain c)) × (first_kind l ≡ j)
        made cs e g c j i l there =
            let u = steps.child_of (old_world edit) laws.old s a cs e c j i in
            let v = g.all c j i in
            let one = one_kind before tree c l v.0 there v.1 in
            ((u.0, u.5), first_kind_is l j u.6 (ap is_instance one ∙ v.2) (λ q. one ∙ v.3 q))

        by : (r : Result (List (Placed N F P)) F) → edit.old.expand s a ≡ r → IsSettled (old_world edit) before s k r
            → IsSettled w after s k (renewed edit.renew r)
        by (Ok cs) e g = (
          g.0,
          record {
            all = λ c j i.
                let m = Has-map edit.renew cs c j i in
                let v = g.1.all m.0.shape m.0.kind m.1 in
                let t = Keeps-Has before m.0.shape v.0 v.1 in
                let u = made cs e g.1 m.0.shape m.0.kind m.1 v.0 v.1 in
                let is : edit.renew (record { shape = m.0.shape; kind = first_kind v.0 }) ≡ edit.renew m.0 = ap (λ x. edit.renew (record { shape = m.0.shape; kind = x })) u.1 in
                let st = new.all m.0.shape v.0 t.0 u.0.0 t.1 u.0.1 in
                subst (Stands (members_of after) c) m.3 (subst (λ x. Stands (members_of after) x (edit.renew m.0).kind) m.2 (subst (λ x. Stands (members_of after) x.shape x.kind) is st));
            only = λ c j b there i child.
                let m = new.only c j b i there child in
                let o = g.1.only m.0 m.1 m.2 m.4 m.3 m.5 in
                let u = made cs e g.1 m.0 o.0 o.1 m.1 (Has-Keeps before m.0 m.1 m.2 m.4) in
                let has = map-Has edit.renew cs (record { shape = m.0; kind = first_kind m.1 }) (subst (Has cs m.0) (sym u.1) o.1) in
                ((renewed_child edit m.0 m.1).kind, subst (λ x. Has (map edit.renew cs) x (renewed_child edit m.0 m.1).kind) m.6 has);
          },
        )
        by (Err f) e g = (
          g.0,
          record {
            all = λ c j i. absurd i;
            only = λ c j b there i child.
                let m = new.only c j b i there child in
                absurd (g.1.only m.0 m.1 m.2 m.4 m.3 m.5).1;
          },
        )
