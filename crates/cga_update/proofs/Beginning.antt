-- The work as it begins.
use Rattle.std.proofs.Common.{◌≡◌, ◌⊎◌, inl, inr, ℕ, List, [], ◌∷◌, ◌++◌, map, length, Bool, true, false, not, ◌||◌, refl, sym, ap, ◌∙◌, subst, ◌&&◌, Option, Some, None}
use Rattle.std.specs.Prelude.{is_some, nat_eq, if◌then◌else◌}
use Rattle.std.specs.List.{list_any}
use Rattle.std.proofs.lemmas.Option.{slice_get_within}
use lib.Pointwise.{bytes_decides}
use Rattle.cga_frame.specs.Box.{box_of, meets}
use Rattle.cga_word.specs.declared.mode.Mode.{Mode}
use Rattle.cga_word.specs.declared.answers.Answers.{Answers}
use Rattle.cga_word.specs.declared.primitive.Primitive.{Primitive}
use Rattle.cga_word.specs.declared.target.Target.{Target}
use Rattle.cga_word.specs.declared.target.Target.TheVariants.{Noparent, Active}
use Rattle.cga_rule.specs.declared.grammar.Grammar.{Grammar}
use Rattle.cga_check.specs.Uses.{same_name}
use Rattle.cga_order.specs.World.{Among, is_instance}
use Rattle.cga_agenda.specs.Loop.{IsReady, LoopState}
use Rattle.cga_agenda.specs.Record.{Drawn}
use Rattle.cga_agenda.specs.Work.{IsBegun}
use Rattle.cga_depend.specs.Pairs.{DependentsView, nodes_in}
use Rattle.cga_expand.proofs.Door.{root_is, root_among}
use Rattle.cga_fraction.proofs.Door.{None-not-Some as none_some, eq_from_nat_eq as same_number, same_Ok as ok_same}
use Rattle.cga_rework.proofs.Door.{lists_are_changes, rerooted_is_city, roots_begin, stands_again}
use Rattle.cga_expand.specs.Asked.{asks_for, group_asks}
use Rattle.cga_expand.specs.Derivation.{priority_of}
use Rattle.cga_expand.specs.Settings.{Setting, setting_of}
use Rattle.cga_rework.specs.Agenda.{AreQueued}
use Rattle.cga_rework.specs.Begin as theory
use Rattle.cga_rework.specs.Changes.{ListsLost}
use Rattle.cga_rework.specs.City as tree
use Rattle.cga_rework.specs.Ranked.{Ranked}
use Rattle.cga_rework.specs.Rules.{Shapes}
use Rattle.cga_frame.specs.declared.scope_fault.ScopeFault.{ScopeFault}
use Rattle.cga_shape.specs.Root.{root_of}
use Rattle.cga_shape.specs.declared.shape.Shape.{Shape}
use Rattle.cga_shape.specs.declared.shape_fault.ShapeFault.{ShapeFault}
use Rattle.cga_shape.specs.declared.sources.Sources.{Sources}
use Rattle.cga_forest.specs.declared.node_change.NodeChange.{NodeChange}
use Rattle.cga_forest.specs.NodeChange.{moved_of, primitive_of}
use Rattle.cga_forest.specs.Node.{bounds}
use Rattle.cga_forest.specs.View.{Seen}
use Rattle.cga_forest.specs.Tree.{ForestView, marked_at, node_at}
use Rattle.cga_queue.specs.Agenda.{AgendaView, HasAll}
use Rattle.cga_update.specs.Askers.{IsAsker}
use Rattle.cga_update.specs.Edit.{asks_by, content, kept_nodes, meets_box, rules_of, shapes_of, the_edit}
use Rattle.cga_depend.specs.Log.{noted_all}
use Rattle.cga_update.specs.Log.{created_of, drawn_before, drawn_of, is_of, IsLogged, StayAlike, removed_of}
use Rattle.cga_update.specs.Means.{ArePriced, told_ranked}
use Rattle.cga_update.specs.Near.{KeepsPriorities}
use Rattle.cga_update.specs.Plain.{IsPlain}
use Rattle.cga_update.specs.Queue.{chains_of, on_of}
use Rattle.cga_update.proofs.DueNodes.{may_be_on}
use Rattle.cga_update.proofs.RootShapes.{among_root}
use Rattle.cga_update.proofs.Rooting.{IsRooted}
use Rattle.cga_update.proofs.Drawing.{lists_lost}
use Rattle.cga_update.proofs.Edits.{is_edit, is_rules_edit}
use Rattle.cga_update.proofs.Logged.{logged_more}
use Rattle.cga_update.proofs.Lots.{root_name, same_lot}
use Rattle.cga_update.proofs.Meeting.{sees_what_meets}
use Rattle.cga_update.proofs.Nodes.{kept_bound}
use Rattle.cga_update.proofs.Places.{same_node}

-- ---- what of the grammars is the same

asks_same : (old new : Grammar) (symbol : List ℕ) (target : Target) → setting_of old symbol ≡ setting_of new symbol
    → asks_for old symbol target ≡ asks_for new symbol target
unfolding asks_for setting_of
asks_same old new symbol target e = ap (λ (s : Setting). group_asks s.group target) e

asks_by_same : (old new : Grammar) (s : Shape) → setting_of old s.symbol ≡ setting_of new s.symbol
    → asks_by old s ≡ asks_by new s
asks_by_same old new s e =
    ap (λ b. b || asks_for old s.symbol Active) (asks_same old new s.symbol Noparent e)
    ∙ ap (λ b. asks_for new s.symbol Noparent || b) (asks_same old new s.symbol Active e)

shapes_same : (old new : Sources) → old.mode ≡ new.mode → shapes_of old ≡ shapes_of new
shapes_same old new e = ap (λ (m : Mode). record { mode = m; lot = λ (s : Shape). s.lot; path = λ (s : Shape). s.path }) e

member_first : (x : ℕ) (xs : List ℕ) (c : ℕ) → (list_any (nat_eq c) xs ≡ true → Among c xs) → (b : Bool)
    → nat_eq c x ≡ b → list_any (nat_eq c) (x ∷ xs) ≡ true → Among c (x ∷ xs)
member_first x xs c more true is h = inl (sym (same_number c x is))
member_first x xs c more false is h = inr (more (ap (λ b. b || list_any (nat_eq c) xs) (sym is) ∙ h))

member_of : (xs : List ℕ) (c : ℕ) → list_any (nat_eq c) xs ≡ true → Among c xs
member_of [] c h = let z : false ≡ true = h in absurd (cc)
member_of (x ∷ xs) c h = member_first x xs c (member_of xs c) (nat_eq c x) refl h

logged_none : (V : ℕ → Option Seen) → IsLogged V V []
unfolding noted_all
logged_none V s c = refl

drawn_none : (ms : List NodeChange) → ((m : NodeChange) → Among m ms → m.primitive ≡ None) → drawn_of ms ≡ []
unfolding drawn_of
drawn_none [] none = refl
drawn_none (m ∷ ms) none = ap (λ o. drawn_before m o (drawn_of ms)) (none m (inl refl)) ∙ drawn_none ms (λ x h. none x (inr h))

module _ {old new : Sources} {first v : ForestView} {d : DependentsView} {removed created : List NodeChange} {a : AgendaView} (start : IsRooted old new first v d removed created a) where
  abbrev V : ℕ → Option Seen
  V = node_at first

  abbrev T : ℕ → Option Seen
  T = node_at v

  abbrev gone : ℕ → Bool
  gone c = not (is_some (T c))

  pub city : tree.Stands (shapes_of new) content (rules_of old) (asks_by old.grammar) V
  city = subst (λ (s : Shapes Shape). tree.Stands s content (rules_of old) (asks_by old.grammar) V) (shapes_same old new start.stands.old_mode) start.stands.nodes

  rerooted : theory.IsRerooted content V T gone
  rerooted = record {
    rest = λ c x vc. elim (start.roots.rest c x vc) [
      | inl t ↦ t ∙ sym (ap (λ o. if not (is_some o) then None else Some x) t)
      | inr t ↦ t ∙ sym (ap (λ o. if not (is_some o) then None else Some x) t)
    ];
    along = λ c p x vc up. ap not (start.roots.along c p x vc up);
    top = λ c x none at. (start.roots.created c x none at).top;
    leaf = λ c x none at. (start.roots.created c x none at).leaf;
    waits = λ c x none at. (start.roots.created c x none at).waits;
    other = λ c b x y none at vb top shape priority. (start.roots.created c x none at).other b y vb top shape priority;
  }

  -- a node that was there is as it was
  pub was_there : (c : ℕ) (x : Seen) → T c ≡ Some x → (o : Option Seen) → V c ≡ o → (V c ≡ None) ⊎ (V c ≡ Some x)
  was_there c x at None is = inl is
  was_there c x at (Some y) is = elim (start.roots.rest c y is) [
    | inl t ↦ inr (is ∙ (sym t ∙ at))
    | inr t ↦ none_some x (sym t ∙ at)
  ]

  pub created_on : (c : ℕ) (x : Seen) → V c ≡ None → T c ≡ Some x → on_of v a c ≡ true
  created_on c x none at =
      start.agenda.moved.roots c (moved_of c x, (start.listed.each (moved_of c x)).1 (c, x, at, none, refl), refl) (may_be_on v c x at (ap is_instance (start.roots.created c x none at).waits))

  -- who asks near is on the agenda: it came, or was there at the mark
  near_on : (list : List NodeChange) (m : NodeChange) → Among m list → HasAll (chains_of v) (IsAsker v list) a
      → (c : ℕ) (x : Seen) → T c ≡ Some x → is_instance x.node.kind ≡ false → x.node.asks ≡ true
      → meets (box_of x.node.shape.scope) (box_of m.scope) ≡ true → on_of v a c ≡ true
  unfolding bounds
  near_on list m among near c x at inner asks meet = elim (was_there c x at (V c) refl) [
    | inl none ↦ created_on c x none at
    | inr vc ↦
        let k : IsAsker v list c = record { seen = x; there = at; marked = ap is_some (start.roots.marked c ∙ vc); asks = asks; one = m; among = among; near = meet } in
        near c k (may_be_on v c x at inner)
  ]

  pub listed_under : (c : ℕ) (x : Seen) → V c ≡ Some x → is_instance x.node.kind ≡ false
      → Among c (nodes_in d x.node.shape.symbol)
  listed_under c x vc inner = member_of (nodes_in d x.node.shape.symbol) c
      (start.stands.dependents x.node.shape.symbol c
      ∙ (ap (λ o. is_of o x.node.shape.symbol) vc
      ∙ (ap (λ b. not b && same_name x.node.shape.symbol x.node.shape.symbol) inner ∙ (bytes_decides x.node.shape.symbol x.node.shape.symbol).1 refl)))

  changed_on : (c : ℕ) (x : Seen) → T c ≡ Some x → is_instance x.node.kind ≡ false
      → (on_of v a c ≡ true) ⊎ (setting_of old.grammar x.node.shape.symbol ≡ setting_of new.grammar x.node.shape.symbol)
  changed_on c x at inner = elim (was_there c x at (V c) refl) [
    | inl none ↦ inl (created_on c x none at)
    | inr vc ↦ elim (start.agenda.changed x.node.shape.symbol) [
      | inl these ↦ inl (these c (listed_under c x vc inner) (may_be_on v c x at inner))
      | inr same ↦ inr same
    ]
  ]

  is_first : theory.IsFirstAgenda (shapes_of new) content (rules_of old) (rules_of new) (asks_by new.grammar) meets_box
      V T (on_of v a)
  is_first = record {
    created = created_on;
    removed = λ b c x y vb tb tc inner asks meet. near_on removed (moved_of b x)
        ((start.roots.removed.each (moved_of b x)).1 (b, x, vb, tb, refl)) start.agenda.moved.near_removed c y tc inner asks meet;
    arrived = λ b c x y vb tb tc inner asks meet. near_on created (moved_of b x) ((start.listed.each (moved_of b x)).1 (b, x, tb, vb, refl)) start.agenda.moved.near_created c y tc inner asks meet;
    changed = changed_on;
    priced = λ c p x e tc up te inner. elim (was_there c x tc (V c) refl) [
      | inl none ↦ none_some p (sym (start.roots.created c x none tc).top ∙ up)
      | inr vc ↦ elim (start.agenda.priced x.node.shape.symbol) [
        | inl parents ↦ inl (parents p (c, listed_under c x vc inner, (x, tc, up)) (may_be_on v p e te (start.laws.present.places.child c p x e tc up te).inner))
        | inr same ↦ inr (city.priced c x vc inner ∙ same)
      ]
    ];
    asking = λ c x tc inner. elim (was_there c x tc (V c) refl) [
      | inl none ↦ inl (created_on c x none tc)
      | inr vc ↦ elim (changed_on c x tc inner) [
        | inl on ↦ inl on
        | inr same ↦ inr (city.asking c x vc inner ∙ asks_by_same old.grammar new.grammar x.node.shape same)
      ]
    ];
  }

  has_tops : tree.HasTops (shapes_of new) content (rules_of new) T
  has_tops = record {
    top = λ c x tc up.
        let w = start.wanted c x tc up in
        let z = root_is w.lot x.node.shape w.root.shape in (
          root_among new.lots w.place w.lot x.node.shape w.listed w.root.shape,
          w.root.priority ∙ ap (priority_of new.grammar) (ap (λ (s : Shape). s.symbol) z.1),
        );
    tops = λ s among.
        let q = among_root new.lots s among in
        let within = slice_get_within new.lots q.0 q.1 q.2 in
        let t = start.there q.0 q.1 within q.2 in
        let w = start.wanted t.0 t.1 t.2.0 t.2.1 in
        let same : w.lot ≡ q.1 = same_lot new.lots start.names w.place q.0 w.lot q.1 w.listed q.2 (sym (root_name w.lot t.1.node.shape w.root.shape) ∙ t.2.2) in
        (t.0, t.1, t.2.0, t.2.1, ok_same {F = ScopeFault} t.1.node.shape s (sym w.root.shape ∙ (ap root_of same ∙ q.3)));
    one_top = λ c b x y tc tb up up' lots.
        (same_node v start.laws c b x y tc tb (lots, (start.laws.present.places.root c x tc up).path ∙ sym (start.laws.present.places.root b y tb up').path)).0;
  }

  new_city : tree.IsCity (shapes_of new) content (rules_of new) T
  new_city = rerooted_is_city (shapes_of new) content (rules_of old) (rules_of new) V T gone city.city start.laws.present.tree rerooted
      (λ c x none at. let z = start.laws.present.places.root c x at (start.roots.created c x none at).top in record { inner = z.inner; path = z.path; line = z.line })
      has_tops

  pub begins : tree.IsUnderway (shapes_of new) content (rules_of new) (asks_by new.grammar) T (on_of v a)
      × ((queued : Ranked Shape → Bool) × AreQueued (shapes_of new) content T (on_of v a) queued
      × IsBegun (the_edit old new) (kept_nodes first) (kept_nodes v) queued)
  begins = roots_begin (shapes_of new) content (rules_of old) (rules_of new)
      (is_rules_edit old new start.old_names start.names) (asks_by old.grammar) (asks_by new.grammar) meets_box (sees_what_meets new)
      V T (length first.slots) (length v.slots) gone (on_of v a) (kept_bound first) (kept_bound v) city new_city rerooted is_first

  pub lost : (list : List (Drawn (Ranked Shape) Primitive)) × ListsLost content V T list
      × (map told_ranked list ≡ drawn_of removed)
  lost = lists_lost V T (λ c b x y at of same. (same_node first start.first_laws c b x y at of (ap (λ (s : Shape). s.lot) same, ap (λ (s : Shape). s.path) same)).0) removed start.roots.removed

  abbrev pub first_state : LoopState (Ranked Shape) Answers ShapeFault Primitive
  first_state = record { nodes = kept_nodes v; queued = begins.1.0; gone = lost.0; come = [] }

  pub is_ready : IsReady (the_edit old new) (kept_nodes first) first_state (length (the_edit old new).new.roots)
  is_ready = record {
    laws = is_edit old new start.old_names start.names;
    started = stands_again.start (shapes_of new) content (rules_of old) (rules_of new) (asks_by old.grammar) V (length first.slots) (kept_bound first) city;
    begun = begins.1.2;
    gone = lists_are_changes.roots (shapes_of new) content (rules_of old) (rules_of new) V T (length first.slots)
        (length v.slots) gone (kept_bound first) (kept_bound v) city.city new_city rerooted lost.0 lost.1;
    come = refl;
    roots = refl;
  }

  pub silent_now : (c : ℕ) (x : Seen) → T c ≡ Some x → is_instance x.node.kind ≡ true → x.node.asks ≡ false
  silent_now c x at drawn = elim (was_there c x at (V c) refl) [
    | inl none ↦ (let z : false ≡ true = sym (ap is_instance (start.roots.created c x none at).waits) ∙ drawn in absurd (cc))
    | inr vc ↦ start.stands.silent c x vc drawn
  ]

  pub priced_now : KeepsPriorities old.grammar new.grammar d → ArePriced new.grammar v
  priced_now same c x at inner = elim (was_there c x at (V c) refl) [
    | inl none ↦ (has_tops.top c x at (start.roots.created c x none at).top).1
    | inr vc ↦ city.priced c x vc inner ∙ same x.node.shape.symbol c (listed_under c x vc inner)
  ]

  pub plain_now : (c : ℕ) (x : Seen) → T c ≡ Some x → IsPlain x
  plain_now c x at = elim (was_there c x at (V c) refl) [
    | inl none ↦ (
        let n = start.roots.created c x none at in record {
          bare = λ drawn. (let z : false ≡ true = sym (ap is_instance n.waits) ∙ drawn in absurd (cc));
          childless = inr n.leaf;
        })
    | inr vc ↦ start.stands.plain c x vc
  ]

  pub created_drawn : drawn_of created ≡ []
  created_drawn = drawn_none created (λ m h. let w = (start.listed.each m).0 h in
      ap (λ (x : NodeChange). x.primitive) w.4 ∙ ap primitive_of (start.roots.created w.0 w.1 w.3 w.2).waits)

  pub logged : IsLogged (marked_at v) T (([] ++ removed_of removed) ++ created_of created)
  logged s c =
      logged_more V V T [] removed created (logged_none V) start.roots.removed start.listed alike s c
      ∙ ap (λ o. noted_all (([] ++ removed_of removed) ++ created_of created) s c (is_of o s)) (sym (start.roots.marked c))
    where
      alike : StayAlike V T
      alike k x y t vc tc = elim (was_there k y tc (V k) refl) [
        | inl none ↦ none_some x (sym none ∙ vc)
        | inr same ↦ ap (λ o. is_of o t) (sym same ∙ vc)
      ]
