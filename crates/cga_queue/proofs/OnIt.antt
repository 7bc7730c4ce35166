-- Which nodes are on the agenda, and what putting one on it and taking one off it does.
use Rattle.std.proofs.Common.{◌≡◌, ℕ, List, [], ◌∷◌, refl, sym, ap, ◌∙◌, subst, inl, inr, Option, Some, None, Bool, true, false, eq-eqb}
use Rattle.std.specs.Prelude.{◌&&◌, ◌||◌, nat_eq}
use borrow.Author.Tests.{eqb-true}
use Rattle.std.specs.declared.cmp.Ordering.TheVariants.{Less, Equal}
use Rattle.std.specs.List.{list_any}
use Rattle.std.specs.Ordering.{is_eq}
use Rattle.std.proofs.lemmas.Cmp.{alike_right}
use Rattle.cga_word.specs.declared.mode.Mode.{Mode}
use Rattle.cga_order.specs.Chain.{Chain}
use Rattle.cga_order.specs.Stamp.{stamp_cmp}
use Rattle.cga_order.specs.World.{Among}
use Rattle.cga_order.specs.Total.{stamp_total}
use Rattle.cga_order.specs.declared.stamp_key.StampKey.{StampKey}
use Rattle.cga_order.specs.Key.{chain_of_key}
use Rattle.cga_queue.specs.Agenda.{AgendaView, Names, IsPut, IsPopped, NamesNone, NoneOn, Chains, is_due, on, OneEach, Grows, IsLeast, SameOn}
use Rattle.cga_queue.proofs.Cases.{and_left, and_right, and_both, or_either}
pub use Rattle.cga_fraction.proofs.Door.{Equal_from_is_eq as is_eq_is}
use Rattle.std.proofs.lemmas.Bool.{or_right}

module _ {E : Type 0} (p : E → Bool) where
  pub any_from : (es : List E) → list_any p es ≡ true → (e : E) × Among e es × (p e ≡ true)
  any_from [] h = let x : false ≡ true = h in cc
  any_from (x ∷ es) h = elim (or_either (p x) (list_any p es) h) [
    | inl a ↦ (x, inl refl, a)
    | inr b ↦ let z = any_from es b in (z.0, inr z.1, z.2)
  ]

  pub any_to : (es : List E) (e : E) → Among e es → p e ≡ true → list_any p es ≡ true
  any_to [] e h t = absurd h
  any_to (x ∷ es) e h t = elim h [
    | inl a ↦ ap (λ b. b || list_any p es) (ap p a ∙ t)
    | inr b ↦ or_right (p x) (list_any p es) (any_to es e b t)
  ]

-- where a node is due at a key, it has a chain, whose stamp equals the key's
pub due_from : (mode : Mode) (k : StampKey) (o : Option Chain) → is_due mode k o ≡ true
    → (x : Chain) × (o ≡ Some x) × (stamp_cmp mode (chain_of_key k) x ≡ Equal)
due_from mode k None e = let x : false ≡ true = e in cc
due_from mode k (Some x) e = (x, refl, is_eq_is (stamp_cmp mode (chain_of_key k) x) e)

due_to : (mode : Mode) (k : StampKey) (o : Option Chain) (x : Chain) → o ≡ Some x
    → stamp_cmp mode (chain_of_key k) x ≡ Equal → is_due mode k o ≡ true
due_to mode k o x e s = ap (is_due mode k) e ∙ ap is_eq s

module _ (D : Chains) where
  -- on it: at the node's stamp an entry names it
  pub on_from : (a : AgendaView) (c : ℕ) → on D a c ≡ true → (x : Chain) × (D c ≡ Some x) × Names a x c
  unfolding on
  on_from a c h =
      let z = any_from (λ (e : StampKey × ℕ). nat_eq e.1 c && is_due a.mode e.0 (D c)) a.entries h in
      let same : z.0.1 ≡ c = eqb-true z.0.1 c (and_left _ _ z.2) in
      let due = due_from a.mode z.0.0 (D c) (and_right (nat_eq z.0.1 c) _ z.2) in
      (due.0, due.1, (z.0.0, subst (λ i. Among (z.0.0, i) a.entries) same z.1, due.2))

  -- where an entry at the stamp of a node's chain names it, the node is on the agenda
  pub on_to : (a : AgendaView) (c : ℕ) (x : Chain) → D c ≡ Some x → Names a x c → on D a c ≡ true
  unfolding on
  on_to a c x e h =
      any_to (λ (y : StampKey × ℕ). nat_eq y.1 c && is_due a.mode y.0 (D c)) a.entries (h.0, c) h.1 (and_both _ _ (eq-eqb c c refl) (due_to a.mode h.0 (D c) x e h.2))

  one_chain : (c : ℕ) (x y : Chain) → D c ≡ Some x → D c ≡ Some y → x ≡ y
  one_chain c x y e f = let z : Some x ≡ Some y = sym e ∙ f in cc

  names_at : (a : AgendaView) (i : ℕ) (x y : Chain) → stamp_cmp a.mode x y ≡ Equal → Names a x i → Names a y i
  names_at a i x y e h = (h.0, h.1, sym (alike_right (stamp_total a.mode) x y (chain_of_key h.0) e) ∙ h.2)

  pub same_itself : (a : AgendaView) → SameOn D a a
  same_itself a = record { mode = refl; there = λ c h. h; back = λ c h. h }

  -- an agenda that stays the same grows, whatever may come on it
  pub grows_not : (P : ℕ → Type 0) (a : AgendaView) → Grows D P a a
  grows_not P a = record { mode = refl; kept = λ c h. h; only = λ c h. inl h }

  -- where an agenda grows twice by nodes of one property, it grows so in all
  pub grows_on : (P : ℕ → Type 0) (a b d : AgendaView) → Grows D P a b → Grows D P b d → Grows D P a d
  grows_on P a b d g h = record {
    mode = h.mode ∙ g.mode;
    kept = λ c x. h.kept c (g.kept c x);
    only = λ c x. elim (h.only c x) [ inl y ↦ g.only c y | inr p ↦ inr p ];
  }

  -- where an agenda grows by nodes of one property, and these have another, it grows by nodes of the other
  pub grows_by : (P Q : ℕ → Type 0) (a b : AgendaView) → ((c : ℕ) → P c → Q c) → Grows D P a b → Grows D Q a b
  grows_by P Q a b f g = record {
    mode = g.mode;
    kept = g.kept;
    only = λ c x. elim (g.only c x) [ inl y ↦ inl y | inr p ↦ inr (f c p) ];
  }

  module _ (old new : AgendaView) (chain : Chain) (id : ℕ) where
    -- a node was put on it at its stamp
    pub put_there : D id ≡ Some chain → IsPut old new chain id → on D new id ≡ true
    put_there here put = on_to new id chain here put.there

    pub put_grows : OneEach D → D id ≡ Some chain → IsPut old new chain id → Grows D (λ c. c ≡ id) old new
    put_grows one here put = record {
      mode = put.mode;
      kept = λ c h.
          let z = on_from old c h in
          elim (put.kept z.0 c z.2) [
            | inl e ↦ subst (λ b. on D new b ≡ true) (one old.mode id c chain z.0 here z.1 e) (put_there here put)
            | inr n ↦ on_to new c z.0 z.1 n
          ];
      only = λ c h.
          let z = on_from new c h in
          elim (put.only z.0 c z.2) [
            | inl e ↦ inr e.0
            | inr n ↦ inl (on_to old c z.0 z.1 n)
          ];
    }

  -- an entry was taken off it that names a node at its stamp
  module _ (old new : AgendaView) (key : StampKey) (id : ℕ) (popped : IsPopped old new (chain_of_key key) id) where
    pub is_least : (x : Chain) → D id ≡ Some x → stamp_cmp old.mode (chain_of_key key) x ≡ Equal
        → IsLeast D old new id x
    is_least x here at = record {
      mode = popped.mode;
      here = here;
      there = on_to old id x here (names_at old id (chain_of_key key) x at popped.there);
      left = λ c h. let z = on_from new c h in on_to old c z.0 z.1 (popped.only z.0 c z.2);
      later = λ c y e h.
          let z = on_from new c h in
          let less : stamp_cmp old.mode (chain_of_key key) z.0 ≡ Less = popped.later z.0 c z.2 in
          subst (λ w. stamp_cmp old.mode x w ≡ Less) (one_chain c z.0 y z.1 e) (sym ((stamp_total old.mode).congr (chain_of_key key) x z.0 at) ∙ less);
      stay = λ c h.
          let z = on_from old c h in
          elim (popped.kept z.0 c z.2) [
            | inl e ↦ inl e.0
            | inr n ↦ inr (on_to new c z.0 z.1 n)
          ];
    }

    -- one that names none was passed over
    pub passed_over : (is_due old.mode key (D id) ≡ true → ⊥) → SameOn D old new
    passed_over dead = record {
      mode = popped.mode;
      there = λ c h.
          let z = on_from old c h in
          elim (popped.kept z.0 c z.2) [
            | inl e ↦ absurd (dead (due_to old.mode key (D id) z.0 (ap D (sym e.0) ∙ z.1) e.1))
            | inr n ↦ on_to new c z.0 z.1 n
          ];
      back = λ c h. let z = on_from new c h in on_to old c z.0 z.1 (popped.only z.0 c z.2);
    }

  pub same_on : (a b d : AgendaView) → SameOn D a b → SameOn D b d → SameOn D a d
  same_on a b d g h = record {
    mode = h.mode ∙ g.mode;
    there = λ c x. h.there c (g.there c x);
    back = λ c x. g.back c (h.back c x);
  }

  pub least_after : (a b d : AgendaView) (id : ℕ) (x : Chain) → SameOn D a b → IsLeast D b d id x → IsLeast D a d id x
  least_after a b d id x s l = record {
    mode = l.mode ∙ s.mode;
    here = l.here;
    there = s.back id l.there;
    left = λ c h. s.back c (l.left c h);
    later = λ c y e h. subst (λ m. stamp_cmp m x y ≡ Less) s.mode (l.later c y e h);
    stay = λ c h. l.stay c (s.there c h);
  }

  pub none_on : (a : AgendaView) → NamesNone a → NoneOn D a
  none_on a none c h = let z = on_from a c h in none z.0 c z.2

  pub none_after : (a b : AgendaView) → SameOn D a b → NoneOn D b → NoneOn D a
  none_after a b s none c h = none c (s.there c h)
