-- The agenda by stamps, from the entries of its lines.
use Rattle.std.proofs.Common.{◌≡◌, ℕ, List, [], ◌∷◌, ◌++◌, refl, sym, ap, ◌∙◌, subst, inl, inr}
use Rattle.std.specs.Prelude.{suc, length, Option, Some, None, Result, Ok, Err, IfSome, IfNone, OnOk, OnErr}
use Rattle.std.specs.declared.cmp.Ordering.TheVariants.{Less}
use Rattle.std.specs.BTreeMap.{insert_entry}
use Rattle.std.proofs.lemmas.Cmp.{tied_itself, tied_back, alike_right}
use Rattle.cga_word.specs.declared.mode.Mode.{Mode}
use Rattle.cga_order.specs.Chain.{Chain}
use Rattle.cga_order.specs.Stamp.{stamp_cmp}
use Rattle.cga_order.specs.World.{Among}
use Rattle.cga_order.proofs.Door.{agrees}
use Rattle.cga_order.specs.Total.{stamp_total}
use Rattle.cga_order.specs.declared.stamp_key.StampKey.{StampKey}
use Rattle.cga_order.specs.Key.{chain_of_key, key_cmp}
use Rattle.cga_order.specs.KeyLaws.{key_total}
use Rattle.cga_queue.specs.Agenda.{AgendaView, NamesNone, OfOneMode, IsPut, IsPopped}
use Rattle.cga_queue.specs.Lines.{AllBehind, Rises, IsPutIn, IsTakenOut, counted, spare}
use Rattle.cga_queue.proofs.Entries.{Takes, created_or_was}
use Rattle.cga_queue.proofs.TwoLines.{IsOut, PutsIn, among_either, counted_from, left_behind, puts_in, rises_after, rises_left, taken_out}

abbrev Entries : Type 0
Entries = List (StampKey × ℕ)

abbrev Counted : Entries → Entries → Entries
Counted = counted key_cmp

module _ (mode : Mode) where
  -- both lines are of one mode, so what counts is
  pub counted_own : (es ls : Entries) → OfOneMode mode es → OfOneMode mode ls → OfOneMode mode (Counted es ls)
  counted_own es ls a b k i h = elim (counted_from key_cmp key_total es ls (k, i) h) [ inl x ↦ a k i x | inr y ↦ b k i y ]

  -- and they still are when an entry was put in
  module _ (es ls es' ls' : Entries) (key : StampKey) (id : ℕ) (m : key.mode ≡ mode) (a : OfOneMode mode es) (b : OfOneMode mode ls) where
    takes_mode : (k : StampKey) → Takes key_cmp key es k → k.mode ≡ mode
    takes_mode k (inl e) = ap (λ (x : StampKey). x.mode) e ∙ m
    takes_mode k (inr h) = a k h.1.0 h.1.1

    map_own : OfOneMode mode (insert_entry key_cmp es key id)
    map_own k i h = elim (created_or_was key_cmp key id es k i h) [ inl x ↦ takes_mode k x.1 | inr y ↦ a k i y ]

    late_own : OfOneMode mode (ls ++ (key, id) ∷ [])
    late_own k i h = elim (among_either ls ((key, id) ∷ []) (k, i) h) [
      | inl x ↦ b k i x
      | inr y ↦ elim y [ inl e ↦ ap (λ (p : StampKey × ℕ). p.0.mode) (sym e) ∙ m | inr f ↦ absurd f ]
    ]

    pub put_own : IsPutIn key_cmp es ls es' ls' key id → OfOneMode mode es' × OfOneMode mode ls'
    put_own (inl h) = (subst (OfOneMode mode) (sym h.0) a, subst (OfOneMode mode) (sym h.1) late_own)
    put_own (inr h) = (subst (OfOneMode mode) (sym h.0) map_own, subst (OfOneMode mode) (sym h.1) b)

  -- or the first was taken out
  pub left_own : (es ls es' ls' : Entries) (p : StampKey × ℕ) → OfOneMode mode es → OfOneMode mode ls
      → IsTakenOut key_cmp es ls es' ls' p → OfOneMode mode es' × OfOneMode mode ls'
  left_own es ls es' ls' p a b (inl h) = ((λ k i x. a k i (subst (Among (k, i)) (sym h.0) (inr x))), subst (OfOneMode mode) (sym h.1) b)
  left_own es ls es' ls' p a b (inr (inl h)) = ((λ k i x. a k i (subst (Among (k, i)) (sym h.0) (inr x))), (λ k i x. b k i (subst (Among (k, i)) (sym h.2) (inr x))))
  left_own es ls es' ls' p a b (inr (inr h)) = (subst (OfOneMode mode) (sym h.0) a, (λ k i x. b k i (subst (Among (k, i)) (sym h.1) (inr x))))

  -- ---- the entries before and after

  module _ (old new : Entries) (own : OfOneMode mode old) (after : OfOneMode mode new) where
    -- a number was put on the agenda
    pub is_put : (key : StampKey) (id : ℕ) → key.mode ≡ mode → PutsIn key_cmp key id old new → (chain : Chain)
        → chain_of_key key ≡ chain
        → IsPut (record { mode = mode; entries = old }) (record { mode = mode; entries = new }) chain id
    is_put key id m puts chain is = subst (λ c. IsPut (record { mode = mode; entries = old }) (record { mode = mode; entries = new }) c id) is (record {
      mode = refl;
      there = let z = puts.there in (z.0, z.1, tied_back (stamp_total mode) (chain_of_key key) (chain_of_key z.0) (sym (agrees mode key z.0 m (after z.0 id z.1)) ∙ z.2));
      kept = λ c i h. elim (puts.kept h.0 i h.1) [
        | inl e ↦ inl ((stamp_total mode).congr (chain_of_key key) (chain_of_key h.0) c (sym (agrees mode key h.0 m (own h.0 i h.1)) ∙ e) ∙ h.2)
        | inr b ↦ inr (h.0, b, h.2)
      ];
      only = λ c i h. elim (puts.only h.0 i h.1) [
        | inl a ↦ inl (a.0, (stamp_total mode).congr (chain_of_key key) (chain_of_key h.0) c (sym (agrees mode key h.0 m (after h.0 i h.1)) ∙ a.1) ∙ h.2)
        | inr b ↦ inr (h.0, b, h.2)
      ];
    })

    -- the first entry was taken off it
    pub is_popped : (key : StampKey) (id : ℕ) → IsOut (key, id) old new → AllBehind key_cmp key new
        → IsPopped (record { mode = mode; entries = old }) (record { mode = mode; entries = new }) (chain_of_key key) id
    is_popped key id out above = record {
      mode = refl;
      there = (key, out.there, tied_itself (stamp_total mode) (chain_of_key key));
      kept = λ c i h. elim (out.either (h.0, i) h.1) [
        | inl a ↦ inl (sym (ap (λ p. p.1) a), ap (λ p. stamp_cmp mode (chain_of_key p.0) c) a ∙ h.2)
        | inr b ↦ inr (h.0, b, h.2)
      ];
      only = λ c i h. (h.0, out.only (h.0, i) h.1, h.2);
      later = λ c i h.
          let less : key_cmp key h.0 ≡ Less = above h.0 i h.1 in
          sym (alike_right (stamp_total mode) (chain_of_key h.0) c (chain_of_key key) h.2) ∙ (sym (agrees mode key h.0 (own key id out.there) (after h.0 i h.1)) ∙ less);
    }

-- ---- what the calls tell

-- what an agenda keeps of its lines
abbrev pub AreLines : Mode → Entries → Entries → Type 0
AreLines mode es ls = OfOneMode mode es × OfOneMode mode ls × Rises key_cmp ls

abbrev pub viewed : Mode → Entries → Entries → AgendaView
viewed mode es ls = record { mode = mode; entries = Counted es ls }

module _ (mode : Mode) (es ls es' ls' : Entries) (are : AreLines mode es ls) where
  module _ {T E : Type 0} (key : StampKey) (id : ℕ) (m : key.mode ≡ mode) where
    pub put_lines : (r : Result T E) → OnOk r (IsPutIn key_cmp es ls es' ls' key id) → OnErr r (es' ≡ es)
        → OnErr r (ls' ≡ ls) → AreLines mode es' ls'
    put_lines (Ok x) put a b = let z = put_own mode es ls es' ls' key id m are.0 are.1 put in (z.0, z.1, rises_after key_cmp key_total es ls es' ls' key id are.2 put)
    put_lines (Err e) put a b = (subst (OfOneMode mode) (sym a) are.0, subst (OfOneMode mode) (sym b) are.1, subst (Rises key_cmp) (sym b) are.2)

    pub put_viewed : (r : Result T E) (chain : Chain) → chain_of_key key ≡ chain
        → OnOk r (IsPutIn key_cmp es ls es' ls' key id)
        → OnOk r (IsPut (viewed mode es ls) (viewed mode es' ls') chain id)
    put_viewed (Ok x) chain is put =
        let z = put_own mode es ls es' ls' key id m are.0 are.1 put in
        is_put mode (Counted es ls) (Counted es' ls') (counted_own mode es ls are.0 are.1) (counted_own mode es' ls' z.0 z.1) key id m (puts_in key_cmp key_total es ls es' ls' key id put) chain is
    put_viewed (Err e) chain is put = put

  pub pop_lines : (r : Option (StampKey × ℕ)) → IfSome r (λ p. IsTakenOut key_cmp es ls es' ls' p) → IfNone r (es' ≡ es)
      → IfNone r (ls' ≡ ls) → AreLines mode es' ls'
  pop_lines None taken a b = (subst (OfOneMode mode) (sym a) are.0, subst (OfOneMode mode) (sym b) are.1, subst (Rises key_cmp) (sym b) are.2)
  pop_lines (Some p) taken a b = let z = left_own mode es ls es' ls' p are.0 are.1 taken in (z.0, z.1, rises_left key_cmp key_total es ls es' ls' p are.2 taken)

  pub pop_viewed : (r : Option (StampKey × ℕ)) → IfSome r (λ p. IsTakenOut key_cmp es ls es' ls' p)
      → IfSome r (λ p. IsPopped (viewed mode es ls) (viewed mode es' ls') (chain_of_key p.0) p.1)
  pop_viewed None taken = taken
  pop_viewed (Some p) taken =
      let z = left_own mode es ls es' ls' p are.0 are.1 taken in
      is_popped mode (Counted es ls) (Counted es' ls') (counted_own mode es ls are.0 are.1)
      (counted_own mode es' ls' z.0 z.1) p.0 p.1 (taken_out key_cmp key_total es ls es' ls' p are.2 taken)
      (left_behind key_cmp key_total es ls es' ls' p are.2 taken)

  pub pop_shorter : (r : Option (StampKey × ℕ)) → IfSome r (λ p. IsTakenOut key_cmp es ls es' ls' p)
      → IfSome r (λ p. length (Counted es ls) ≡ suc (length (Counted es' ls')))
  pop_shorter None taken = taken
  pop_shorter (Some p) taken = (taken_out key_cmp key_total es ls es' ls' p are.2 taken).shorter

  pub pop_none : (r : Option (StampKey × ℕ)) → IfNone r ((es ≡ []) × (ls ≡ []))
      → IfNone r (NamesNone (viewed mode es ls))
  pop_none None none = λ c i h. elim (counted_from key_cmp key_total es ls (h.0, i) h.1) [
    | inl x ↦ absurd (subst (Among (h.0, i)) none.0 x)
    | inr y ↦ absurd (subst (Among (h.0, i)) none.1 y)
  ]
  pop_none (Some p) none = none

  pub pop_same : (r : Option (StampKey × ℕ)) → IfNone r (es' ≡ es) → IfNone r (ls' ≡ ls)
      → IfNone r (viewed mode es' ls' ≡ viewed mode es ls)
  pop_same None a b = ap (λ (xs : Entries). viewed mode xs ls') a ∙ ap (viewed mode es) b
  pop_same (Some p) a b = a

pub viewed_none : (mode : Mode) → viewed mode [] [] ≡ record { mode = mode; entries = [] }
unfolding spare
viewed_none mode = refl
