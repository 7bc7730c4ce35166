-- Removing and adding roots begins the work.
use Rattle.std.proofs.Common.{◌≡◌, ℕ, List, [], ◌∷◌, ◌++◌, map, Bool, true, false, ◌⊎◌, inl, inr, refl, ap, sym, ◌∙◌, subst}
use Rattle.std.specs.Prelude.{Some, None, Result, Ok, Err, slice_get, if◌then◌else◌}
use Rattle.cga_tree.specs.Tree.{Seen, View, IsTree}
use Rattle.cga_order.specs.Chain.{IsChild}
use Rattle.cga_order.specs.World.{World, Has, Among, is_instance}
use Rattle.cga_order.specs.declared.placed.Placed.{Placed}
use Rattle.cga_order.specs.declared.placed.Kind.{Kind}
use Rattle.cga_order.specs.declared.placed.Kind.TheVariants.{Waiting}
use Rattle.cga_order.specs.Agenda.{Node, Keeps, IsSettled, HasChildren, IsRight}
use Rattle.cga_agenda.proofs.Door.{path_not_empty}
use Rattle.cga_order.proofs.Door.{Keeps-Has, snoc-same}
use Rattle.cga_order.proofs.Door as steps
use Rattle.cga_agenda.specs.Edit.{Edit, old_world, renewed}
use Rattle.cga_agenda.specs.Work.{IsStart, IsBegun, IsFresh, SeenQueued}
use Rattle.cga_rework.specs.Rules.{Shapes, Rules, IsRulesEdit}
use Rattle.cga_rework.specs.Ranked.{Ranked, chain_of, edit_of, ranked_world}
use Rattle.cga_rework.specs.Nodes.{Content, ranked_of, nodes_of, IsBound}
use Rattle.cga_rework.specs.City.{StandsOnTop, HasTops, IsCity}
use Rattle.cga_rework.specs.Agenda.{AreQueued}
use Rattle.cga_rework.specs.Turn.{SeesWhatMeets}
use Rattle.cga_rework.specs.Begin.{IsRerooted, IsFirstAgenda}
use Rattle.cga_rework.specs.TreeLaws.{RootsBegin, RerootedIsCity}
use Rattle.cga_rework.proofs.NodeLists.{bool_cases, option_cases, some_same, none_some, true_false, keeps-node}
use Rattle.cga_rework.proofs.Place.{parent_of, path_child, child_is, same_ranked, root_among, keeps_as, is_tree}
use Rattle.cga_rework.proofs.Queue.{queued_by, are_queued}
use Rattle.cga_rework.proofs.Renewed.{ends_with, renew_same}
use Rattle.cga_rework.proofs.Worlds.{make}

one_same : (x y : ℕ) → x ∷ [] ≡ y ∷ [] → x ≡ y
one_same x y e = (snoc-same [] [] x y e).1

map-fixed : {N F P : Type 0} (f : Placed N F P → Placed N F P) (xs : List (Placed N F P))
    → ((x : Placed N F P) → Among x xs → f x ≡ x) → map f xs ≡ xs
map-fixed f [] h = refl
map-fixed f (x ∷ xs) h =
    let first = h x (inl refl) in
    let rest = map-fixed f xs (λ y i. h y (inr i)) in
    λ i. first i ∷ rest i

among-Has : {N F P : Type 0} (xs : List (Placed N F P)) (x : Placed N F P) → Among x xs → Has xs x.shape x.kind
among-Has [] x h = absurd h
among-Has (y ∷ xs) x h = elim h [ inl e ↦ inl (ap (λ z. z.shape) e, ap (λ z. z.kind) e) | inr r ↦ inr (among-Has xs x r) ]

module _ {X S A F P : Type 0} (content : Content X S A F P) (V T : View X) (gone : ℕ → Bool) (r : IsRerooted content V T gone) where
  pub stays : (c : ℕ) (d : Seen X) → V c ≡ Some d → gone c ≡ false → T c ≡ Some d
  stays c d v g = r.rest c d v ∙ ap (λ b. if b then None else Some d) g

  pub there : (c : ℕ) (d x : Seen X) → T c ≡ Some d → V c ≡ Some x → (gone c ≡ false) × (x ≡ d)
  there c d x t v = elim (bool_cases (gone c)) [
    | inl y ↦ none_some d (sym (r.rest c x v ∙ ap (λ b. if b then None else Some x) y) ∙ t)
    | inr z ↦ (z, some_same x d (sym (stays c x v z) ∙ t))
  ]

module _ {X S A B F P : Type 0} (shapes : Shapes S) (content : Content X S A F P) (old new : Rules S A B F P) (V T : View X) (gone : ℕ → Bool)
    (was : IsCity shapes content old V) (r : IsRerooted content V T gone) where
  module _ (tree : IsTree T) (created : (c : ℕ) (d : Seen X) → V c ≡ None → T c ≡ Some d → StandsOnTop shapes content d.node) (tops : HasTops shapes content new T) where
    before : (c p : ℕ) (d x : Seen X) → T c ≡ Some d → d.parent ≡ Some p → T p ≡ Some x
        → (V c ≡ Some d) × (V p ≡ Some x)
    before c p d x t up u = elim (option_cases (V c)) [
      | inl none ↦ none_some p (sym (r.top c d none t) ∙ up)
      | inr y ↦
          let v : V c ≡ Some d = y.1 ∙ ap Some (there content V T gone r c d y.0 t y.1).1 in
          let w = was.tree.up c p d v up in
          (v, w.1 ∙ ap Some (there content V T gone r p x w.0 u w.1).1)
    ]

    pub rerooted : IsCity shapes content new T
    rerooted = record {
      tree = tree;
      root = λ c d t top. elim (option_cases (V c)) [
        | inl none ↦ created c d none t
        | inr y ↦ was.root c d (y.1 ∙ ap Some (there content V T gone r c d y.0 t y.1).1) top
      ];
      child = λ c p d x t up u. let z = before c p d x t up u in was.child c p d x z.0 up z.1;
      drawn = λ c p d x t up u. let z = before c p d x t up u in was.drawn c p d x z.0 up z.1;
      tops = tops;
    }

-- where a city is rerooted to a tree, what came stands on top and the roots are the new rules', it is a city again
pub rerooted_is_city : {X S A B F P : Type 0} → RerootedIsCity X S A B F P
rerooted_is_city shapes content old new V T gone was tree r created tops = rerooted shapes content old new V T gone was r tree created tops

module _ {X S A B F P : Type 0} (shapes : Shapes S) (content : Content X S A F P) (old new : Rules S A B F P) (V T : View X) (gone : ℕ → Bool)
    (was : IsCity shapes content old V) (city : IsCity shapes content new T) (r : IsRerooted content V T gone) where
  -- a root that came was not there
  pub root_not_there : (c b : ℕ) (d x : Seen X) → V c ≡ None → T c ≡ Some d → V b ≡ Some x
      → ranked_of content x.node ≡ ranked_of content d.node → ⊥
  root_not_there c b d x none t v same = elim (option_cases x.parent) [
    | inl top ↦
        let one = (was.root b x v top).line in
        let other = (city.root c d t (r.top c d none t)).line in
        let lines = sym one ∙ ap (λ (m : Ranked S). m.priorities) same ∙ other in
        r.other c b d x none t v top (ap (λ (m : Ranked S). m.shape) same) (one_same (content.priority x.node) (content.priority d.node) lines)
    | inr up ↦
        let u = parent_of shapes content old V was b up.0 x v up.1 in
        path_not_empty (shapes.path (content.shape u.0.node)) x.index
        (sym (path_child shapes content old V was b up.0 x u.0 v up.1 u.1)
        ∙ ap (λ (m : Ranked S). shapes.path m.shape) same ∙ (city.root c d t (r.top c d none t)).path)
  ]

module _ {X S A B F P : Type 0} (shapes : Shapes S) (content : Content X S A F P) (old new : Rules S A B F P) (laws : IsRulesEdit shapes old new)
    (asks : S → Bool) (meets : S → S → Bool) (sees_is : SeesWhatMeets new asks meets)
    (V T : View X) (small great : ℕ) (gone agenda : ℕ → Bool) (within : IsBound V small) (within' : IsBound T great)
    (started : IsStart (edit_of shapes old new) (nodes_of content V small))
    (was : IsCity shapes content old V) (city : IsCity shapes content new T)
    (r : IsRerooted content V T gone) (first : IsFirstAgenda shapes content old new asks meets V T agenda)
    (queued : Ranked S → Bool) (are : AreQueued shapes content T agenda queued) where
  abbrev edit : Edit (Ranked S) A B F P
  edit = edit_of shapes old new

  abbrev w : World (Ranked S) A F P
  w = ranked_world shapes new

  abbrev rank : X → Ranked S
  rank x = ranked_of content x

  abbrev start : List (Node (Ranked S) A F P)
  start = nodes_of content V small

  abbrev nodes : List (Node (Ranked S) A F P)
  nodes = nodes_of content T great

  not_there : (c b : ℕ) (d x : Seen X) → V c ≡ None → T c ≡ Some d → V b ≡ Some x → rank x.node ≡ rank d.node → ⊥
  not_there = root_not_there shapes content old new V T gone was city r

  on : (c : ℕ) (d : Seen X) (n : Ranked S) → T c ≡ Some d → rank d.node ≡ n → agenda c ≡ true → queued n ≡ true
  on c d n t q h = ap queued (sym q) ∙ (are c d t).1 h

  seen : (m : S)
      → ((c : ℕ) (d : Seen X) → T c ≡ Some d → is_instance (content.kind d.node) ≡ false → content.asks d.node ≡ true
      → meets (content.shape d.node) m ≡ true → agenda c ≡ true)
      → (l : Ranked S) → l.shape ≡ m → SeenQueued edit nodes l queued
  seen m found l is_l n k a h solid sees =
      let y = keeps-node content T great n k a h in
      let is = sees_is n.shape m (ap (λ z. new.sees n.shape z) (sym is_l) ∙ sees) in
      let shape : content.shape y.1.node ≡ n.shape = ap (λ (l : Ranked S). l.shape) y.3 in
      let plain : is_instance (content.kind y.1.node) ≡ false = ap is_instance y.4 ∙ solid in
      elim (first.asking y.0 y.1 y.2 plain) [
        | inl q ↦ on y.0 y.1 n y.2 y.3 q
        | inr a' ↦ on y.0 y.1 n y.2 y.3 (found y.0 y.1 y.2 plain (a' ∙ ap asks shape ∙ is.0) (ap (λ z. meets z m) shape ∙ is.1))
      ]

  fresh : (c : ℕ) (d : Seen X) → V c ≡ None → T c ≡ Some d
      → IsFresh edit start nodes (rank d.node) (content.kind d.node)
  fresh c d none t = record {
    new = inl (r.waits c d none t);
    bare = λ i m j a below h.
        let x = keeps-node content T great m j a h in
        let under : IsChild (chain_of shapes (rank d.node)) i
        (chain_of shapes (rank x.1.node)) = subst (λ (y : Ranked S). IsChild (chain_of shapes (rank d.node)) i (chain_of shapes y)) (sym x.3) below in
        let is = child_is shapes content new T city x.0 c i x.1 d x.2 t under in
        none_some x.0 (ap (λ l. slice_get l i) (sym (r.leaf c d none t)) ∙ is.2);
    not_there = λ j a h alike solid. let x = keeps-node content V small (rank d.node) j a h in not_there c x.0 d x.1 none t x.2 x.3;
  }

  abbrev IsFrom : Ranked S → Kind F P → A → Type 0
  IsFrom m k a =
      Keeps start m k a
      ⊎ (Among m edit.new.roots × (k ≡ Waiting) × (queued m ≡ true) × IsFresh edit start nodes m k × SeenQueued edit nodes m queued)

  from : (m : Ranked S) (k : Kind F P) (a : A) → Keeps nodes m k a → IsFrom m k a
  from m k a h =
      let y = keeps-node content T great m k a h in
      elim (option_cases (V y.0)) [
        | inl none ↦
            let root = root_among shapes content new T city y.0 y.1 y.2 (r.top y.0 y.1 none y.2) in
            inr (
              subst (λ (l : Ranked S). Among l edit.new.roots) y.3 root,
              sym y.4 ∙ r.waits y.0 y.1 none y.2,
              on y.0 y.1 m y.2 y.3 (first.created y.0 y.1 none y.2),
              subst (λ j. IsFresh edit start nodes m j) y.4 (subst (λ (l : Ranked S). IsFresh edit start nodes l (content.kind y.1.node)) y.3 (fresh y.0 y.1 none y.2)),
              seen (content.shape y.1.node) (λ c d t plain does meet. first.arrived y.0 c y.1 d none y.2 t plain does meet) m (ap (λ (l : Ranked S). l.shape) (sym y.3)),
            )
        | inr x ↦
            let is = there content V T gone r y.0 y.1 x.0 y.2 x.1 in
            let v : V y.0 ≡ Some y.1 = x.1 ∙ ap Some is.1 in
            inl (keeps_as shapes content old V was small within y.0 y.1 m k a v y.3 y.4 y.5)
      ]

  to : (m : Ranked S) (k : Kind F P) (a : A) → Keeps start m k a
      → Keeps nodes m k a ⊎ (((p : Ranked S) (i : ℕ) → IsChild (chain_of shapes p) i (chain_of shapes m)
      → (j : Kind F P) (b : A) → Keeps start p j b → Keeps nodes p j b → ⊥) × SeenQueued edit nodes m queued)
  to m k a h =
      let y = keeps-node content V small m k a h in
      elim (bool_cases (gone y.0)) [
        | inr stay ↦ inl (keeps_as shapes content new T city great within' y.0 y.1 m k a (stays content V T gone r y.0 y.1 y.2 stay) y.3 y.4 y.5)
        | inl goes ↦
            let away : T y.0 ≡ None = r.rest y.0 y.1 y.2 ∙ ap (λ b. if b then None else Some y.1) goes in
            inr (
              λ p i below j b g g'.
                  let x = keeps-node content V small p j b g in
                  let z = keeps-node content T great p j b g' in
                  let under : IsChild (chain_of shapes (rank x.1.node)) i (chain_of shapes (rank y.1.node)) =
                  subst (λ (l : Ranked S). IsChild (chain_of shapes l) i (chain_of shapes (rank y.1.node)))
                  (sym x.3) (subst (λ (l : Ranked S). IsChild (chain_of shapes p) i (chain_of shapes l)) (sym y.3) below) in
                  let is = child_is shapes content old V was y.0 x.0 i y.1 x.1 y.2 x.2 under in
                  let parent_goes : gone x.0 ≡ true = sym (r.along y.0 x.0 y.1 y.2 is.0) ∙ goes in
                  elim (option_cases (V z.0)) [
                    | inl none ↦ not_there z.0 x.0 z.1 x.1 none z.2 x.2 (x.3 ∙ sym z.3)
                    | inr u ↦
                        let e = there content V T gone r z.0 z.1 u.0 z.2 u.1 in
                        let v : V z.0 ≡ Some z.1 = u.1 ∙ ap Some e.1 in
                        let q = (same_ranked shapes content old V was z.0 x.0 z.1 x.1 v x.2 (z.3 ∙ sym x.3)).0 in
                        true_false (gone x.0) parent_goes (ap gone (sym q) ∙ e.0)
                  ],
              seen (content.shape y.1.node) (λ c d t plain does meet. first.removed y.0 c y.1 d y.2 away t plain does meet) m (ap (λ (l : Ranked S). l.shape) (sym y.3)),
            )
      ]

  -- where the node isn't on the agenda, renewing its children changes nothing
  renews : (c : ℕ) (d : Seen X) → V c ≡ Some d → T c ≡ Some d → gone c ≡ false
      → is_instance (content.kind d.node) ≡ false → agenda c ≡ false
      → renewed edit.renew (edit.old.expand (rank d.node) (content.answers d.node)) ≡ edit.old.expand (rank d.node)
      (content.answers d.node)
  renews c d v t g solid off = by (edit.old.expand n (content.answers d.node)) refl
      (settled (started.right n (content.kind d.node) (content.answers d.node)
      (keeps_as shapes content old V was small within c d n (content.kind d.node) (content.answers d.node) v refl refl refl) solid))
    where
      n : Ranked S
      n = rank d.node

      settled : (false ≡ true) ⊎ IsRight (old_world edit) start (rank d.node) (content.kind d.node)
          (content.answers d.node)
          → IsSettled (old_world edit) start (rank d.node) (content.kind d.node)
          (edit.old.expand (rank d.node) (content.answers d.node))
      settled (inl q) = let z : false ≡ true = q in absurd (cc)
      settled (inr x) = x.1

      fixed : (cs : List (Placed (Ranked S) F P)) → edit.old.expand (rank d.node) (content.answers d.node) ≡ Ok cs
          → HasChildren (old_world edit) start (rank d.node) cs → (x : Placed (Ranked S) F P) → Among x cs
          → edit.renew x ≡ x
      fixed cs e has x i =
          let found = has.all x.shape x.kind (among-Has cs x i) in
          let k = Keeps-Has start x.shape found.0 found.1 in
          let y = keeps-node content V small x.shape found.0 k.0 k.1 in
          let u = steps.child_of (old_world edit) (make shapes old new laws).old (rank d.node) (content.answers d.node) cs e x.shape x.kind (among-Has cs x i) in
          let under : IsChild (chain_of shapes (rank d.node)) u.0
          (chain_of shapes (rank y.1.node)) = subst (λ (l : Ranked S). IsChild (chain_of shapes (rank d.node)) u.0 (chain_of shapes l)) (sym y.3) u.5 in
          let is = child_is shapes content old V was y.0 c u.0 y.1 d y.2 v under in
          let here = stays content V T gone r y.0 y.1 y.2 (r.along y.0 c y.1 y.2 is.0 ∙ g) in
          let ends = ends_with shapes content old V was y.0 y.1 y.2 in
          let line : x.shape.priorities ≡ ends.0 ++ content.priority y.1.node ∷ [] = ap (λ (l : Ranked S). l.priorities) (sym y.3) ∙ ends.1 in
          renew_same new.priority x.shape x.kind ends.0 (content.priority y.1.node) line
          (λ plain. elim (first.priced y.0 c y.1 d here is.0 t (ap is_instance y.4 ∙ found.2 ∙ plain)) [
            | inl q ↦ true_false (agenda c) q off
            | inr p ↦ p ∙ ap (λ (l : Ranked S). new.priority l.shape) y.3
          ])

      by : (o : Result (List (Placed (Ranked S) F P)) F) → edit.old.expand (rank d.node) (content.answers d.node) ≡ o
          → IsSettled (old_world edit) start (rank d.node) (content.kind d.node) o → renewed edit.renew o ≡ o
      by (Ok cs) e h = ap Ok (map-fixed edit.renew cs (fixed cs e h.1))
      by (Err f) e h = refl

  changed : (n : Ranked S) (k : Kind F P) (a : A) → Keeps nodes n k a → is_instance k ≡ false
      → (queued n ≡ true) ⊎ ((edit.old.setting n ≡ edit.new.setting n)
      × (renewed edit.renew (edit.old.expand n a) ≡ edit.old.expand n a))
  changed n k a h solid =
      let y = keeps-node content T great n k a h in
      let plain : is_instance (content.kind y.1.node) ≡ false = ap is_instance y.4 ∙ solid in
      elim (bool_cases (agenda y.0)) [
        | inl q ↦ inl (on y.0 y.1 n y.2 y.3 q)
        | inr off ↦ elim (option_cases (V y.0)) [
          | inl none ↦ inl (on y.0 y.1 n y.2 y.3 (first.created y.0 y.1 none y.2))
          | inr x ↦ elim (first.changed y.0 y.1 y.2 plain) [
            | inl q ↦ inl (on y.0 y.1 n y.2 y.3 q)
            | inr same ↦
                let is = there content V T gone r y.0 y.1 x.0 y.2 x.1 in
                let v : V y.0 ≡ Some y.1 = x.1 ∙ ap Some is.1 in
                let kept = renews y.0 y.1 v y.2 is.0 plain off in
                inr (
                  ap (λ (l : Ranked S). old.setting l.shape) (sym y.3) ∙ same ∙ ap (λ (l : Ranked S). new.setting l.shape) y.3,
                  subst (λ b. renewed edit.renew (edit.old.expand n b) ≡ edit.old.expand n b) y.5
                      (subst (λ (l : Ranked S). renewed edit.renew (edit.old.expand l (content.answers y.1.node))
                      ≡ edit.old.expand l (content.answers y.1.node)) y.3 kept),
                )
          ]
        ]
      ]

  pub begun : IsBegun edit start nodes queued
  begun = record { tree = is_tree shapes content new T city great within'; from = from; to = to; changed = changed }

-- where a tree that stands is rerooted, with the first agenda, it is underway, and the work of the edit has begun
pub roots_begin : {X S A B F P : Type 0} → RootsBegin X S A B F P
roots_begin {A = A} {F = F} {P = P} shapes content old new laws was asks meets sees_is V T small great gone agenda within within' stood city r first =
    let queued = queued_by shapes content T agenda great in
    let are = are_queued shapes content T agenda new city great within' in
    let started = stood.started small within in (
      record { city = city; priced = first.priced; asking = first.asking },
      (
        queued,
        are,
        begun shapes content old new laws asks meets sees_is V T small great gone agenda within within' (record { tree = started.tree; right = started.right }) stood.city city r first queued are,
      ),
    )
