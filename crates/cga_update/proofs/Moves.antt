-- What a turn takes off the agenda and puts on it, in the words of the theory.
use Rattle.std.proofs.Common.{◌≡◌, ◌≢◌, ℕ, sym, ap, ◌∙◌, subst, inl, inr, Option, Some, None, true, false}
use Rattle.std.specs.declared.cmp.Ordering.TheVariants.{Less, Equal}
use Rattle.std.proofs.lemmas.Cmp.{tied_itself}
use Rattle.cga_order.specs.Chain.{Chain}
use Rattle.cga_order.specs.Stamp.{stamp_cmp}
use Rattle.cga_order.specs.World.{is_instance}
use Rattle.cga_order.specs.Total.{stamp_total}
use Rattle.cga_queue.proofs.Door.{on_from}
use Rattle.cga_shape.specs.declared.sources.Sources.{Sources}
use Rattle.cga_forest.specs.Node.{chain_kept}
use Rattle.cga_forest.specs.View.{Seen}
use Rattle.cga_forest.specs.Tree.{ForestView, marked_at, node_at}
use Rattle.cga_rework.specs.Agenda.{IsTaken}
use Rattle.cga_queue.specs.Agenda.{AgendaView, Chains, IsLeast}
use Rattle.cga_queue.specs.Remembered.{AreOn, IsRemembered, RememberedView}
use Rattle.cga_update.specs.Due.{AreDue}
use Rattle.cga_update.specs.Edit.{content, shapes_of}
use Rattle.cga_update.specs.Queue.{chains_of, on_of}
use Rattle.cga_update.proofs.DueNodes.{due_is, due_of}

pub some_one : {X : Type 0} (o : Option X) (x y : X) → o ≡ Some x → o ≡ Some y → x ≡ y
some_one o x y e f = let z : Some x ≡ Some y = sym e ∙ f in cc

-- a node on the agenda is there and is no instance
pub on_node : (v : ForestView) (a : AgendaView) (c : ℕ) → on_of v a c ≡ true
    → (d : Seen) × (node_at v c ≡ Some d) × (is_instance d.node.kind ≡ false)
on_node v a c h =
    let z = on_from (chains_of v) a c h in
    let d = due_of (node_at v c) z.0 z.1 in
    (d.0, d.1, d.2)

-- its chain is the one that it is found by
pub chain_at : (v : ForestView) (a : AgendaView) (c : ℕ) (d : Seen) → node_at v c ≡ Some d → on_of v a c ≡ true
    → chains_of v c ≡ Some (chain_kept d.node)
chain_at v a c d here h =
    let z = on_node v a c h in
    due_is (node_at v c) d here (ap (λ (x : Seen). is_instance x.node.kind) (some_one (node_at v c) d z.0 here z.1) ∙ z.2)

pub not_itself : (x : Chain) (new : Sources) → stamp_cmp new.mode x x ≡ Less → ⊥
not_itself x new e = let z : Equal ≡ Less = sym (tied_itself (stamp_total new.mode) x) ∙ e in cc

pub is_taken : (v : ForestView) (new : Sources) (old rest : AgendaView) (id : ℕ) (x : Chain) → old.mode ≡ new.mode
    → IsLeast (chains_of v) old rest id x
    → (e : Seen) × (is_instance e.node.kind ≡ false)
    × IsTaken (shapes_of new) content (node_at v) id e (on_of v old) (on_of v rest)
is_taken v new old rest id x mode least =
    let e = due_of (node_at v id) x least.here in
    let later = λ (c : ℕ) (d : Seen) (here : node_at v c ≡ Some d) (h : on_of v rest c ≡ true).
    subst (λ m. stamp_cmp m (chain_kept e.0.node) (chain_kept d.node) ≡ Less) mode
    (subst (λ y. stamp_cmp old.mode y (chain_kept d.node) ≡ Less) (sym e.3) (least.later c (chain_kept d.node) (chain_at v rest c d here h) h)) in (
      e.0,
      e.2,
      record {
        here = e.1;
        there = least.there;
        left = λ c d here h. (
          λ same. not_itself (chain_kept e.0.node) new
              (subst (λ (y : Seen). stamp_cmp new.mode (chain_kept e.0.node) (chain_kept y.node) ≡ Less)
              (some_one (node_at v c) d e.0 here (ap (node_at v) same ∙ e.1)) (later c d here h)),
          least.left c h,
          later c d here h,
        );
        stay = λ c d here h other. elim (least.stay c h) [ inl s ↦ absurd (other s) | inr y ↦ y ];
      },
    )

-- the same of the node that is found under the number
pub taken_at : (v : ForestView) (new : Sources) (old rest : AgendaView) (id : ℕ) (x : Chain) (e : Seen)
    → old.mode ≡ new.mode → IsLeast (chains_of v) old rest id x → node_at v id ≡ Some e
    → (is_instance e.node.kind ≡ false) × IsTaken (shapes_of new) content (node_at v) id e (on_of v old) (on_of v rest)
taken_at v new old rest id x e mode least here =
    let z = is_taken v new old rest id x mode least in
    subst (λ (d : Seen). (is_instance d.node.kind ≡ false) × IsTaken (shapes_of new) content (node_at v) id d (on_of v old) (on_of v rest)) (some_one (node_at v id) z.0 e z.2.here here) (z.1, z.2)

-- a node of which P tells, that is no instance and comes later than e
pub record IsLater (P : ℕ → Seen → Type 0) (v : ForestView) (new : Sources) (e : Seen) (c : ℕ) (d : Seen) : Type 0 where
  pub here : node_at v c ≡ Some d
  pub one : P c d
  pub solid : is_instance d.node.kind ≡ false
  pub less : stamp_cmp new.mode (chain_kept e.node) (chain_kept d.node) ≡ Less

-- it stays on the agenda when e is taken
pub stay_due : (P : ℕ → Seen → Type 0) (v : ForestView) (new : Sources) (old rest : AgendaView) (id : ℕ) (x : Chain)
    (e : Seen) → IsLeast (chains_of v) old rest id x → node_at v id ≡ Some e → AreDue P new.mode v old
    → (c : ℕ) (d : Seen) → IsLater P v new e c d → on_of v rest c ≡ true
stay_due P v new old rest id x e least at due c d k = elim (least.stay c (due id c e d at least.there k.here k.one k.solid k.less)) [
  | inl same ↦ absurd (not_itself (chain_kept e.node) new
      (subst (λ (y : Seen). stamp_cmp new.mode (chain_kept e.node) (chain_kept y.node) ≡ Less)
      (some_one (node_at v c) d e k.here (ap (node_at v) same ∙ at)) k.less))
  | inr on ↦ on
]

-- what is remembered stays on the agenda when a node is taken, which is forgotten
pub remembered_rest : (D : Chains) (ns less : RememberedView) (old rest : AgendaView) (id : ℕ) (x : Chain)
    → IsLeast D old rest id x → AreOn D ns old
    → ((c : ℕ) → IsRemembered less c → (c ≢ id) × IsRemembered ns c) → AreOn D less rest
remembered_rest D ns less old rest id x least are forgot c is =
    let left = forgot c is in
    elim (least.stay c (are c left.1)) [ inl same ↦ absurd (left.0 same) | inr on ↦ on ]
