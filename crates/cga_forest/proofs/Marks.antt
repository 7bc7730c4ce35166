-- A slot's present and marked node, under each change.
use Rattle.std.proofs.Common.{◌≡◌, ◌≢◌, ℕ, List, [], ◌∷◌, ◌++◌, length, Bool, true, false, refl, ap, sym, subst, ◌∙◌, rules, inl, inr, arith}
use Rattle.std.specs.Prelude.{Option, Some, None, if◌then◌else◌}
use Rattle.cga_forest.specs.declared.slot_entry.SlotEntry.{SlotEntry}
use Rattle.cga_kept_hulls.specs.declared.hulls.Hulls.{Hulls}
use Rattle.cga_forest.specs.declared.node.Node.{Node}
use Rattle.cga_kept_hulls.specs.Hull.{over}
use Rattle.cga_forest.specs.Hull.{own_hulls, hulls_known}
use Rattle.cga_forest.proofs.Known.{known_own, known_restored}
use Rattle.cga_forest.specs.View.{Seen, IsPlain, IsNewEntry, last_from, kids, flag_if, present_of, marked_of, hulls_of, marked_hulls_of, settled, rolled, restored, former_hulls, seen}
use Rattle.cga_forest.specs.Node.{IsTop}
use Rattle.cga_forest.proofs.Places.{InPlace-same, InPlace-part, InPlace-root}
use Rattle.cga_forest.proofs.Few.{few-part, few-root}
use Rattle.cga_forest.specs.Tree.{ForestView, IsForest, InPlace, IsWhole, IsRight, AllRight, HaveFew, slot_at, node_at, marked_at, hulls_at, marked_hulls_at, children_at, under}
use Rattle.cga_tree.specs.Tree.{IsTree}
use Rattle.cga_fraction.proofs.Door.{eq_or_ne as nat_cases}
use Rattle.std.proofs.lemmas.Bool.{cases_Bool as bool_cases}
use Rattle.cga_forest.proofs.Tree.{IsTree-same, IsTree-cut, IsTree-root, cut_some}
use Rattle.cga_forest.proofs.Walk.{under_into, under_onto, under_same, under_self}
use Rattle.cga_marked.proofs.Door.{apart_moved}
use Rattle.cga_forest.proofs.Tops.{HasRoots-same, HasRoots-added, HasRoots-cut, HasRoots-moved, under_parent}
use Rattle.cga_forest.specs.Roots.{HasRoots}
use Rattle.cga_marked.specs.Map.{Named, AreApart}
use Rattle.std.specs.List.Sorted.{IsPermutation}
use Rattle.cga_forest.proofs.Present.{kids_present}
use Rattle.cga_forest.proofs.Right.{AllRight-part, right_exact, right_same, over_zero}

pub present_flag : (b : Bool) (s : Option SlotEntry) → present_of (flag_if b s) ≡ (if b then None else present_of s)
present_flag false s = refl
present_flag true None = refl
present_flag true (Some e) = refl

pub marked_flag : (b : Bool) (s : Option SlotEntry) → marked_of (flag_if b s) ≡ marked_of s
marked_flag false s = refl
marked_flag true None = refl
marked_flag true (Some e) = elim e.former as (λ o.
    (if e.created then None else Some (seen (restored (record e { aside = true; touched = true }) o)))
    ≡ (if e.created then None else Some (seen (restored e o)))) [ None ↦ refl | Some f ↦ refl ]

pub present_settled : (s : Option SlotEntry) → present_of (settled s) ≡ present_of s
present_settled None = refl
present_settled (Some e) = search rules

pub present_rolled : (s : Option SlotEntry) → present_of (rolled s) ≡ marked_of s
present_rolled None = refl
present_rolled (Some e) = search rules

pub settled_plain : (s : Option SlotEntry) (e : SlotEntry) → settled s ≡ Some e → IsPlain e
settled_plain None e h = absurd (cc)
settled_plain (Some x) e h = search rules

pub rolled_plain : (s : Option SlotEntry) (e : SlotEntry) → rolled s ≡ Some e → IsPlain e
rolled_plain None e h = absurd (cc)
rolled_plain (Some x) e h = search rules

pub marked_plain : (s : Option SlotEntry) → ((e : SlotEntry) → s ≡ Some e → IsPlain e) → marked_of s ≡ present_of s
marked_plain None h = refl
marked_plain (Some e) h = let p = h e refl in search (rules, p.here, p.old, p.same)

pub hulls_flag : (b : Bool) (s : Option SlotEntry) → hulls_of (flag_if b s) ≡ hulls_of s
hulls_flag false s = refl
hulls_flag true None = refl
hulls_flag true (Some e) = refl

pub marked_hulls_flag : (b : Bool) (s : Option SlotEntry) → marked_hulls_of (flag_if b s) ≡ marked_hulls_of s
marked_hulls_flag false s = refl
marked_hulls_flag true None = refl
marked_hulls_flag true (Some e) = refl

-- the hulls of a present slot stay
pub hulls_settled : (s : Option SlotEntry) (d : Seen) → present_of s ≡ Some d → hulls_of (settled s) ≡ hulls_of s
hulls_settled None d h = refl
hulls_settled (Some e) d h = elim (bool_cases e.aside) [
  | inl y ↦ (let z : None ≡ Some d = ap (λ b. if b then None else Some (seen e)) (sym y) ∙ h in absurd (cc))
  | inr n ↦ ap (λ b. hulls_of (if b then None else Some (record e { created = false; touched = false; former = None; former_hulls = None }))) n
]

pub hulls_rolled : (s : Option SlotEntry) → hulls_of (rolled s) ≡ marked_hulls_of s
hulls_rolled None = refl
hulls_rolled (Some e) = elim e.created as (λ b. hulls_of
    (if b then None else Some (record (restored e e.former) {
      hulls = former_hulls e.hulls e.former_hulls;
      aside = false;
      created = false;
      touched = false;
      former = None;
      former_hulls = None;
    }))
    ≡ (if b then None else Some (hulls_known e.node (former_hulls e.hulls e.former_hulls)))) [
      | true ↦ refl
      | false ↦ ap (λ h. Some h) (known_restored e e.former (former_hulls e.hulls e.former_hulls))
    ]

pub marked_hulls_plain : (s : Option SlotEntry) → ((e : SlotEntry) → s ≡ Some e → IsPlain e)
    → marked_hulls_of s ≡ hulls_of s
marked_hulls_plain None h = refl
marked_hulls_plain (Some e) h = let p = h e refl in let a = p.old in let b = p.hulls in search (rules, a, b)

-- the same nodes, with the same hulls
pub IsWhole-same : (S T : ℕ → Option Seen) (H J : ℕ → Option Hulls) → ((c : ℕ) → T c ≡ S c)
    → ((c : ℕ) (e : Seen) → S c ≡ Some e → J c ≡ H c) → IsWhole S H → IsWhole T J
IsWhole-same S T H J t h w = record {
  tree = IsTree-same S T t w.tree;
  places = InPlace-same S T t w.places;
  right = AllRight-part S T H J (λ c e x. sym (t c) ∙ x) h w.tree w.right;
  few = few-part S T (λ c e x. sym (t c) ∙ x) w.few;
}

pub IsForest-settled : (old new : ForestView) → ((c : ℕ) → slot_at new c ≡ settled (slot_at old c))
    → new.marking ≡ false → IsWhole (node_at old) (hulls_at old) → HasRoots (node_at old) new.roots
    → new.marked_roots ≡ new.roots → IsForest new
IsForest-settled old new h off whole tops same = record {
  unmarked = λ _. same;
  tops = HasRoots-same (node_at old) (node_at new) new.roots (λ c. ap present_of (h c) ∙ present_settled (slot_at old c)) tops;
  marked_tops = λ q. absurd (cc);
  present = IsWhole-same (node_at old) (node_at new) (hulls_at old) (hulls_at new) (λ c. ap present_of (h c)
      ∙ present_settled (slot_at old c)) (λ c e t. ap hulls_of (h c) ∙ hulls_settled (slot_at old c) e t) whole;
  marked = λ q. absurd (cc);
  plain = λ _ id e t. settled_plain (slot_at old id) e (sym (h id) ∙ t);
}

pub IsForest-rolled : (old new : ForestView) → ((c : ℕ) → slot_at new c ≡ rolled (slot_at old c)) → new.marking ≡ false
    → IsWhole (marked_at old) (marked_hulls_at old) → HasRoots (marked_at old) new.roots → new.marked_roots ≡ new.roots
    → IsForest new
IsForest-rolled old new h off whole tops same = record {
  unmarked = λ _. same;
  tops = HasRoots-same (marked_at old) (node_at new) new.roots (λ c. ap present_of (h c) ∙ present_rolled (slot_at old c)) tops;
  marked_tops = λ q. absurd (cc);
  present = IsWhole-same (marked_at old) (node_at new) (marked_hulls_at old) (hulls_at new)
      (λ c. ap present_of (h c) ∙ present_rolled (slot_at old c)) (λ c e t. ap hulls_of (h c) ∙ hulls_rolled (slot_at old c)) whole;
  marked = λ q. absurd (cc);
  plain = λ _ id e t. rolled_plain (slot_at old id) e (sym (h id) ∙ t);
}

pub IsForest-begun : (v : ForestView) → v.marking ≡ false → IsForest v → IsForest (record v { marking = true })
IsForest-begun v off f = record {
  unmarked = λ q. absurd (cc);
  present = f.present;
  marked = λ q. IsWhole-same (node_at v) (marked_at v) (hulls_at v) (marked_hulls_at v)
      (λ c. marked_plain (slot_at v c) (f.plain off c)) (λ c e t. marked_hulls_plain (slot_at v c) (f.plain off c)) f.present;
  tops = f.tops;
  marked_tops = λ q. HasRoots-same (node_at v) (marked_at v) v.marked_roots (λ c. marked_plain (slot_at v c) (f.plain off c)) (subst (HasRoots (node_at v)) (sym (f.unmarked off)) f.tops);
  plain = λ q. absurd (cc);
}

pub IsForest-marked : (old new : ForestView) → IsForest old → IsWhole (node_at new) (hulls_at new) → old.marking ≡ true
    → new.marking ≡ true → ((c : ℕ) → marked_at new c ≡ marked_at old c)
    → ((c : ℕ) → marked_hulls_at new c ≡ marked_hulls_at old c) → HasRoots (node_at new) new.roots
    → new.marked_roots ≡ old.marked_roots → IsForest new
IsForest-marked old new f whole on still same hulls tops kept = record {
  unmarked = λ q. let z : true ≡ false = sym still ∙ q in absurd (cc);
  tops = tops;
  marked_tops = λ q. rw kept (HasRoots-same (marked_at old) (marked_at new) old.marked_roots same (f.marked_tops on));
  present = whole;
  marked = λ q. IsWhole-same (marked_at old) (marked_at new) (marked_hulls_at old) (marked_hulls_at new) same (λ c e t. hulls c) (f.marked on);
  plain = λ q. absurd (cc);
}

pub IsWhole-from : (S T : ℕ → Option Seen) (J : ℕ → Option Hulls) → ((c : ℕ) → T c ≡ S c) → AllRight T J → InPlace S
    → IsTree S → HaveFew S → IsWhole T J
IsWhole-from S T J t r p s f = record {
  tree = IsTree-same S T t s;
  places = InPlace-same S T t p;
  right = r;
  few = few-part S T (λ c e x. sym (t c) ∙ x) f;
}

pub new_root : (s : Option SlotEntry) (node : Node) (marking : Bool) → IsTop node
    → IsNewEntry s None node (length node.shape.path) (last_from 0 node.shape.path) marking
    → IsNewEntry s None node 0 0 marking
new_root s node marking top made = subst (λ (p : List ℕ). IsNewEntry s None node (length p) (last_from 0 p) marking) top.path made

-- an entry for a new root comes
module _ (old new : ForestView) (id : ℕ) (node : Node) (fresh : slot_at old id ≡ None)
    (made : IsNewEntry (slot_at new id) None node 0 0 old.marking) (others : (c : ℕ) → c ≢ id → slot_at new c ≡ slot_at old c)
    (top : IsTop node) (m : new.marking ≡ old.marking)
    (pushed : IsPermutation (old.roots ++ (node.shape.lot, id) ∷ []) new.roots) (one_each : AreApart new.roots)
    (kept : new.marked_roots ≡ (if old.marking then old.marked_roots else new.roots)) (f : IsForest old) where
  pub added_here : node_at new id ≡ Some (seen made.entry)
  added_here = ap present_of made.here ∙ ap (λ b. if b then None else Some (seen made.entry)) made.shows

  pub added_node : node_at new id ≡ Some (record { node = node; depth = 0; parent = None; index = 0; children = [] })
  added_node = added_here ∙ (λ i. Some (record { node = made.node i; depth = made.deep i; parent = made.parent i; index = made.index i; children = made.leaf i }))

  pub added_mark : old.marking ≡ true → (c : ℕ) → marked_at new c ≡ marked_at old c
  added_mark on c = elim (nat_cases c id) [
    | inl q ↦ ap (marked_at new) q ∙ ap marked_of made.here
        ∙ ap (λ b. if b then None else Some (seen (restored made.entry made.entry.former))) (made.comes ∙ on) ∙ sym (ap (marked_at old) q ∙ ap marked_of fresh)
    | inr n ↦ ap marked_of (others c n)
  ]

  added_mark_hulls : old.marking ≡ true → (c : ℕ) → marked_hulls_at new c ≡ marked_hulls_at old c
  added_mark_hulls on c = elim (nat_cases c id) [
    | inl q ↦ ap (marked_hulls_at new) q ∙ ap marked_hulls_of made.here
        ∙ ap (λ b. if b then None else Some
        (hulls_known made.entry.node (former_hulls made.entry.hulls made.entry.former_hulls))) (made.comes ∙ on)
        ∙ sym (ap (marked_hulls_at old) q ∙ ap marked_hulls_of fresh)
    | inr n ↦ ap marked_hulls_of (others c n)
  ]

  apart : (c : ℕ) (d : Seen) → node_at old c ≡ Some d → c ≢ id
  apart c d t q = let z : None ≡ Some d = sym (ap present_of fresh) ∙ ap (node_at old) (sym q) ∙ t in (cc)

  leaf_right : (c : ℕ) (d : Seen) → c ≡ id → node_at new c ≡ Some d → IsRight (hulls_at new) c d
  leaf_right c d q t =
      let z : Some (seen made.entry) ≡ Some d = sym added_here ∙ ap (node_at new) (sym q) ∙ t in
      let w : seen made.entry ≡ d = (cc) in
      let n : d.node ≡ node = ap (λ (x : Seen). x.node) (sym w) ∙ made.node in
      let l : d.children ≡ [] = ap (λ (x : Seen). x.children) (sym w) ∙ made.leaf in
      right_exact (hulls_at new) c d (ap (hulls_at new) q ∙ ap hulls_of made.here
      ∙ ap (λ h. Some h) (known_own made.entry node made.node made.hulls ∙ ap own_hulls (sym n)
      ∙ sym (over_zero (hulls_at new) (own_hulls d.node) d.children) ∙ ap (λ xs. over (hulls_at new) (own_hulls d.node) d.children (length xs)) (sym l)))

  pub added_whole : IsWhole (node_at new) (hulls_at new)
  added_whole = record {
    places = InPlace-root (node_at old) (node_at new) id (seen made.entry) (ap present_of fresh) added_here
        made.parent (subst IsTop (sym made.node) top) (λ c n. ap present_of (others c n)) f.present.tree f.present.places;
    tree = IsTree-root (node_at old) (node_at new) id (seen made.entry) (ap present_of fresh) added_here made.parent made.deep made.leaf (λ c n. ap present_of (others c n)) f.present.tree;
    right = λ c d t. elim (nat_cases c id) [
      | inl q ↦ leaf_right c d q t
      | inr n ↦ (let u = sym (ap present_of (others c n)) ∙ t in right_same (node_at old) (hulls_at old)
          (hulls_at new) (λ k x w. ap hulls_of (others k (apart k x w))) f.present.tree c d u (f.present.right c d u))
    ];
    few = few-root (node_at old) (node_at new) id (seen made.entry) added_here made.leaf (λ c n. ap present_of (others c n)) f.present.few;
  }

  pub IsForest-added : IsForest new
  IsForest-added = record {
    present = added_whole;
    tops = HasRoots-moved (node_at new) _ new.roots pushed one_each
        (HasRoots-added (node_at old) (node_at new) old.roots f.tops id node.shape.lot (seen made.entry)
        (ap present_of fresh) added_here made.parent (ap (λ (n : Node). n.shape.lot) made.node)
        (λ c n. ap present_of (others c n)) (apart_moved _ new.roots one_each pushed));
    unmarked = λ q. kept ∙ ap (λ b. if b then old.marked_roots else new.roots) (sym m ∙ q);
    marked_tops = λ q. let on : old.marking ≡ true = sym m ∙ q in subst (HasRoots (marked_at new))
        (sym (kept ∙ ap (λ b. if b then old.marked_roots else new.roots) on))
        (HasRoots-same (marked_at old) (marked_at new) old.marked_roots (added_mark on) (f.marked_tops on));
    marked = λ q. let on : old.marking ≡ true = sym m ∙ q in IsWhole-same (marked_at old) (marked_at new)
        (marked_hulls_at old) (marked_hulls_at new) (added_mark on) (λ c e t. added_mark_hulls on c) (f.marked on);
    plain = λ q k x t. let off : old.marking ≡ false = sym m ∙ q in elim (nat_cases k id) [
      | inl y ↦ (let z : Some made.entry ≡ Some x = sym made.here ∙ ap (slot_at new) (sym y) ∙ t in let w : made.entry ≡ x = (cc) in
          record {
            here = ap (λ (r : SlotEntry). r.aside) (sym w)
                ∙ made.shows;
            old = ap (λ (r : SlotEntry). r.created) (sym w) ∙ made.comes
                ∙ off;
            same = ap (λ (r : SlotEntry). r.former) (sym w) ∙ made.nothing;
            hulls = ap (λ (r : SlotEntry). r.former_hulls) (sym w) ∙ made.no_hulls;
          })
      | inr n ↦ f.plain off k x (sym (others k n) ∙ t)
    ];
  }

-- a root's nodes are flagged
module _ (old new : ForestView) (id : ℕ) (root : Seen) (is : node_at old id ≡ Some root) (top : root.parent ≡ None)
    (h : (c : ℕ) → slot_at new c ≡ flag_if (under (λ d. kids (slot_at old d)) 257 id c) (slot_at old c)) (f : IsForest old) where
  pub cut_present : (c : ℕ)
      → node_at new c ≡ (if under (λ d. kids (slot_at old d)) 257 id c then None else node_at old c)
  cut_present c = ap present_of (h c) ∙ present_flag _ (slot_at old c)

  pub cut_seen : (c : ℕ) → node_at new c ≡ (if under (children_at old) 257 id c then None else node_at old c)
  cut_seen c = cut_present c ∙ ap (λ b. if b then None else node_at old c)
      (under_same (λ d. kids (slot_at old d)) (node_at old) f.present.tree (λ k e w. kids_present (slot_at old k) e w) 257 id c root is)

  pub without_root : IsWhole (node_at new) (hulls_at new)
  without_root = record {
    tree = IsTree-cut (node_at old) (node_at new) (under (λ d. kids (slot_at old d)) 257 id) cut_present
        (λ c p d t g u. elim (under_into (λ d. kids (slot_at old d)) (node_at old) f.present.tree (λ k e w. kids_present (slot_at old k) e w) 257 id c p root d is t g u) [
          | inl q ↦ (let same : Some root ≡ Some d = sym is ∙ ap (node_at old) q ∙ t in let e : root ≡ d = (cc) in let z : None ≡ Some p = sym top ∙ ap (λ (x : Seen). x.parent) e ∙ g in absurd (cc))
          | inr y ↦ y
        ])
        (λ c p d t g u. let low = f.present.tree.shallow c d t in
        under_onto (λ d. kids (slot_at old d)) (node_at old) f.present.tree (λ k e w. kids_present (slot_at old k) e w) 257 id c p root d is t g (omega arith) u)
        f.present.tree;
    places = InPlace-part (node_at old) (node_at new) (λ c e t. (cut_some _ (node_at old c) e (sym (cut_present c) ∙ t)).1) f.present.places;
    right = AllRight-part (node_at old) (node_at new) (hulls_at old) (hulls_at new)
        (λ c e t. (cut_some _ (node_at old c) e (sym (cut_present c) ∙ t)).1) (λ c e t. ap hulls_of (h c)
        ∙ hulls_flag _ (slot_at old c)) f.present.tree f.present.right;
    few = few-part (node_at old) (node_at new) (λ c e t. (cut_some _ (node_at old c) e (sym (cut_present c) ∙ t)).1) f.present.few;
  }

  pub marks_kept : (c : ℕ) → marked_at new c ≡ marked_at old c
  marks_kept c = ap marked_of (h c) ∙ marked_flag _ (slot_at old c)

  pub tops_left : (name : List ℕ) (left : Named) → IsPermutation old.roots ((name, id) ∷ left) → AreApart left
      → HasRoots (node_at new) left
  tops_left name left out apart = HasRoots-cut (node_at old) (node_at new) old.roots f.tops id name left out apart
      (under (λ d. kids (slot_at old d)) 257 id) cut_present (under_self (λ d. kids (slot_at old d)) 257 id (omega arith))
      (λ c d t up g. under_parent (λ d. kids (slot_at old d)) (node_at old) f.present.tree (λ k e w. kids_present (slot_at old k) e w) 257 id c root d is t up g)

  pub IsForest-without_root : old.marking ≡ true → new.marking ≡ true → HasRoots (node_at new) new.roots
      → new.marked_roots ≡ old.marked_roots → IsForest new
  IsForest-without_root on still tops kept = IsForest-marked old new f without_root on still marks_kept (λ c. ap marked_hulls_of (h c) ∙ marked_hulls_flag _ (slot_at old c)) tops kept
