-- The record of a turn, and of the roots that went.
use Rattle.std.proofs.Common.{◌≡◌, ◌≢◌, ℕ, List, [], ◌++◌, Bool, true, false, ◌⊎◌, inl, inr, refl, ap, sym, ◌∙◌}
use Rattle.std.specs.Prelude.{Some, None, if◌then◌else◌}
use Rattle.cga_tree.specs.Tree.{Seen, View}
use Rattle.cga_order.specs.World.{Among, is_instance}
use Rattle.cga_order.specs.declared.placed.Kind.TheVariants.{Instance}
use Rattle.cga_order.specs.Agenda.{Node, members_of}
use Rattle.cga_agenda.proofs.Door.{Has-drawn, count_append, drawn-Has, once-drawn}
use Rattle.cga_order.proofs.Door.{Among-append, Among-left, Among-right, Has-Keeps, Keeps-Has, Once-append, count-once}
use Rattle.cga_order.specs.Once.{Once}
use Rattle.cga_agenda.specs.Known.{shapes_of}
use Rattle.cga_agenda.specs.Record.{Drawn, drawn, Draws, IsChange}
use Rattle.cga_rework.specs.Rules.{Shapes, Rules, IsRulesEdit}
use Rattle.cga_rework.specs.Ranked.{Ranked}
use Rattle.cga_rework.specs.Nodes.{Content, ranked_of, nodes_of, IsBound}
use Rattle.cga_rework.specs.City.{IsCity}
use Rattle.cga_rework.specs.Begin.{IsRerooted}
use Rattle.cga_rework.specs.Changes.{ListsLost}
use Rattle.cga_rework.specs.TreeLaws.{ListsAreChanges}
use Rattle.cga_rework.proofs.NodeLists.{bool_cases, option_cases, none_some, true_false, keeps-node}
use Rattle.cga_rework.proofs.Place.{same_ranked, keeps_as}
use Rattle.cga_rework.proofs.Views.{once}
use Rattle.cga_rework.proofs.Replaced.{Replacing, comer, where_from, rank_old, stayed, city_after}
use Rattle.cga_rework.proofs.Removed.{gone_away, not_there}
use Rattle.cga_rework.proofs.Whole.{replacing}
use Rattle.cga_rework.proofs.Begun.{stays, there}

module _ {N A F P : Type 0} (before after : List (Node N A F P)) (gone come : List (Drawn N P)) where
  draws : (nodes : List (Node N A F P)) (d : Drawn N P) → Among d (drawn (members_of nodes)) → Draws nodes d
  draws nodes d h = let k = Keeps-Has nodes d.shape (Instance d.solid) (drawn-Has (members_of nodes) d h) in (k.0, k.1)

  drawn_there : (nodes : List (Node N A F P)) (d : Drawn N P) → Draws nodes d → Among d (drawn (members_of nodes))
  drawn_there nodes d h = Has-drawn (members_of nodes) d (Has-Keeps nodes d.shape (Instance d.solid) h.0 h.1)

  -- what is listed once, and is all, balances
  pub change : Once (shapes_of (members_of before)) → Once (shapes_of (members_of after)) → Once gone → Once come
      → ((d : Drawn N P) → Among d gone → Draws before d × (Draws after d → ⊥))
      → ((d : Drawn N P) → Among d come → Draws after d × (Draws before d → ⊥))
      → ((d : Drawn N P) → Draws before d → Draws after d ⊎ Among d gone)
      → ((d : Drawn N P) → Draws after d → Draws before d ⊎ Among d come)
      → IsChange before after gone come
  change ob oa og oc each_gone each_come lost found = record {
    removed_once = og;
    created_once = oc;
    each_removed = each_gone;
    each_created = each_come;
    balance = λ test.
        let xs = drawn (members_of before) in
        let ys = drawn (members_of after) in
        let ox : Once (xs ++ come) = Once-append xs come (once-drawn (members_of before) ob) oc (λ d i j. (each_come d j).1 (draws before d i)) in
        let oy : Once (ys ++ gone) = Once-append ys gone (once-drawn (members_of after) oa) og (λ d i j. (each_gone d j).1 (draws after d i)) in
        let one = count-once test (xs ++ come) (ys ++ gone) ox oy
        (λ d h. elim (Among-append xs come d h) [
          | inl i ↦ elim (lost d (draws before d i)) [ inl s ↦ Among-left ys gone d (drawn_there after d s) | inr g ↦ Among-right ys gone d g ]
          | inr c ↦ Among-left ys gone d (drawn_there after d (each_come d c).0)
        ])
        (λ d h. elim (Among-append ys gone d h) [
          | inl i ↦ elim (found d (draws after d i)) [ inl s ↦ Among-left xs come d (drawn_there before d s) | inr g ↦ Among-right xs come d g ]
          | inr g ↦ Among-left xs come d (drawn_there before d (each_gone d g).0)
        ]) in
        sym (count_append test xs come) ∙ one ∙ count_append test ys gone;
  }

module _ {X S A B F P : Type 0} (shapes : Shapes S) (content : Content X S A F P) (rules : Rules S A B F P) (V : View X) (city : IsCity shapes content rules V) (n : ℕ) (bound : IsBound V n) where
  pub keeps_drawn : (c : ℕ) (d : Seen X) (x : Drawn (Ranked S) P) → V c ≡ Some d → ranked_of content d.node ≡ x.shape
      → content.kind d.node ≡ Instance x.solid → Draws (nodes_of content V n) x
  keeps_drawn c d x v q k = (content.answers d.node, keeps_as shapes content rules V city n bound c d x.shape (Instance x.solid) (content.answers d.node) v q k refl)

module _ {X S A B F P : Type 0} (shapes : Shapes S) (content : Content X S A F P) (old rules : Rules S A B F P) (laws : IsRulesEdit shapes old rules) (t : Replacing shapes content rules)
    (small great : ℕ) (within : IsBound t.V small) (within' : IsBound t.T great)
    (removed created : List (Drawn (Ranked S) P)) (lost : ListsLost content t.V t.T removed) (found : ListsLost content t.T t.V created) where
  city : IsCity shapes content rules t.T
  city = city_after shapes content rules t

  abbrev before : List (Node (Ranked S) A F P)
  before = nodes_of content t.V small

  abbrev after : List (Node (Ranked S) A F P)
  after = nodes_of content t.T great

  each_removed : (x : Drawn (Ranked S) P) → Among x removed → Draws before x × (Draws after x → ⊥)
  each_removed x h =
      let y = (lost.each x).0 h in
      let goes : t.gone y.0 ≡ true = elim (bool_cases (t.gone y.0)) [
        | inl g ↦ g
        | inr f ↦ let z = stayed shapes content rules t y.0 y.1 y.2 f in none_some z.seen (sym y.3 ∙ z.here)
      ] in
      let f = sym y.4 in
      let here = keeps_drawn shapes content rules t.V t.start small within y.0 y.1 x y.2 y.4 y.5 in (
        here,
        λ g. gone_away shapes content old rules laws t small great within within' y.0 y.1 y.2 goes x.shape
            (ap (λ (l : Ranked S). shapes.lot l.shape) f, ap (λ (l : Ranked S). shapes.path l.shape) f) (Instance x.solid) here.0 g.0 here.1 g.1,
      )

  each_created : (x : Drawn (Ranked S) P) → Among x created → Draws after x × (Draws before x → ⊥)
  each_created x h =
      let y = (found.each x).0 h in
      let n = comer shapes content rules t y.0 y.1 y.3 y.2 in (
        keeps_drawn shapes content rules t.T city great within' y.0 y.1 x y.2 y.4 y.5,
        λ g.
            let z = keeps-node content t.V small x.shape (Instance x.solid) g.0 g.1 in
            not_there shapes content old rules laws t small great within within' y.0 z.0 y.1 z.1 y.2 n z.2 (z.3 ∙ sym y.4) (ap is_instance (z.4 ∙ sym y.5)) (λ i. z.4 ∙ sym y.5),
      )

  stays_or_removed : (x : Drawn (Ranked S) P) → Draws before x → Draws after x ⊎ Among x removed
  stays_or_removed x g =
      let z = keeps-node content t.V small x.shape (Instance x.solid) g.0 g.1 in
      elim (bool_cases (t.gone z.0)) [
        | inr f ↦
            let y = stayed shapes content rules t z.0 z.1 z.2 f in
            let q = rank_old shapes content rules t z.0 z.1 y.seen z.2 f y.here in
            inl (keeps_drawn shapes content rules t.T city great within' z.0 y.seen x y.here (q ∙ z.3) (y.same.solid (ap is_instance z.4) ∙ z.4))
        | inl goes ↦
            let apart : z.0 ≢ t.id = λ q. true_false (t.gone z.0) goes (ap t.gone q ∙ t.r.self) in
            inr ((lost.each x).1 (z.0, z.1, z.2, t.r.rest z.0 z.1 apart z.2 ∙ ap (λ b. if b then None else Some z.1) goes, z.3, z.4))
      ]

  was_or_created : (x : Drawn (Ranked S) P) → Draws after x → Draws before x ⊎ Among x created
  was_or_created x g =
      let z = keeps-node content t.T great x.shape (Instance x.solid) g.0 g.1 in
      elim (where_from shapes content rules t z.0 z.1 z.2) [
        | inl i ↦ true_false (is_instance (content.kind t.now.node)) (ap (λ (y : Seen X). is_instance (content.kind y.node)) (sym i.1) ∙ ap is_instance z.4) t.self.is
        | inr o ↦ elim o [
          | inl s ↦ inl (keeps_drawn shapes content rules t.V t.start small within z.0 z.1 x s.1 z.3 z.4)
          | inr n ↦ inr ((found.each x).1 (z.0, z.1, z.2, n.vacant, z.3, z.4))
        ]
      ]

  pub turn_change : IsChange before after removed created
  turn_change = change before after removed created (once shapes content rules t.V t.start small)
      (once shapes content rules t.T city great) lost.once found.once each_removed each_created stays_or_removed was_or_created

module _ {X S A B F P : Type 0} (shapes : Shapes S) (content : Content X S A F P) (old new : Rules S A B F P) (V T : View X) (small great : ℕ) (gone : ℕ → Bool)
    (within : IsBound V small) (within' : IsBound T great) (was : IsCity shapes content old V) (city : IsCity shapes content new T) (r : IsRerooted content V T gone)
    (removed : List (Drawn (Ranked S) P)) (lost : ListsLost content V T removed) where
  abbrev start : List (Node (Ranked S) A F P)
  start = nodes_of content V small

  abbrev nodes : List (Node (Ranked S) A F P)
  nodes = nodes_of content T great

  -- an instance that is there was there
  was_there : (c : ℕ) (d : Seen X) (p : P) → T c ≡ Some d → content.kind d.node ≡ Instance p → V c ≡ Some d
  was_there c d p t kind = elim (option_cases (V c)) [
    | inl none ↦ let z : false ≡ true = ap is_instance (sym (r.waits c d none t) ∙ kind) in absurd (cc)
    | inr y ↦ y.1 ∙ ap Some (there content V T gone r c d y.0 t y.1).1
  ]

  pub roots_change : IsChange start nodes removed []
  roots_change = change start nodes removed [] (once shapes content old V was small) (once shapes content new T city great) lost.once tt
      (λ x h.
      let y = (lost.each x).0 h in (
        keeps_drawn shapes content old V was small within y.0 y.1 x y.2 y.4 y.5,
        λ g.
            let z = keeps-node content T great x.shape (Instance x.solid) g.0 g.1 in
            let v = was_there z.0 z.1 x.solid z.2 z.4 in
            let q = (same_ranked shapes content old V was z.0 y.0 z.1 y.1 v y.2 (z.3 ∙ sym y.4)).0 in
            none_some z.1 (sym y.3 ∙ ap T (sym q) ∙ z.2),
      ))
      (λ x h. absurd h)
      (λ x g.
      let z = keeps-node content V small x.shape (Instance x.solid) g.0 g.1 in
      elim (bool_cases (gone z.0)) [
        | inr f ↦ inl (keeps_drawn shapes content new T city great within' z.0 z.1 x (stays content V T gone r z.0 z.1 z.2 f) z.3 z.4)
        | inl goes ↦ inr ((lost.each x).1 (z.0, z.1, z.2, r.rest z.0 z.1 z.2 ∙ ap (λ b. if b then None else Some z.1) goes, z.3, z.4))
      ])
      (λ x g.
      let z = keeps-node content T great x.shape (Instance x.solid) g.0 g.1 in
      inl (keeps_drawn shapes content old V was small within z.0 z.1 x (was_there z.0 z.1 x.solid z.2 z.4) z.3 z.4))

-- the instances that went and came in a turn, or went with roots, are a change; nothing is one where nothing changes
pub lists_are_changes : {X S A B F P : Type 0} → ListsAreChanges X S A B F P
lists_are_changes = record {
  turn = λ shapes content old new laws by_symbol fits asks meets is_fit V T small great id news e now gone agenda rest after expanded within within' under turn removed created lost found.
      turn_change shapes content old new laws (replacing shapes content old new laws by_symbol fits asks meets
      is_fit V T small great id news e now gone agenda rest after expanded within within' under turn) small great within within' removed created lost found;
  roots = λ shapes content old new V T small great gone within within' was city r removed lost. roots_change shapes content old new V T small great gone within within' was city r removed lost;
  quiet = λ content V n. record { removed_once = tt; created_once = tt; each_removed = λ d h. absurd h; each_created = λ d h. absurd h; balance = λ test. refl };
}
