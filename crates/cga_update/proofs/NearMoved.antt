-- Who asks near what moved.
use Rattle.std.proofs.Common.{◌≡◌, inl, inr, ℕ, List, [], ◌∷◌, ◌++◌, Bool, true, false, ◌||◌, Option, Some, None, refl, sym, ap, subst, ◌∙◌}
use Rattle.std.specs.Prelude.{is_some}
use Rattle.std.specs.List.{filter, list_any}
use Rattle.std.proofs.lemmas.Bool.{and_from, and_parts, or_left, or_right}
use Rattle.cga_frame.specs.Box.{Box, box_of, meets}
use Rattle.cga_order.specs.World.{Among}
use Rattle.cga_index.specs.Near.{ListsNear}
use Rattle.cga_index.specs.Tree.{Member, all_nodes}
use Rattle.cga_index.proofs.Door.{caller_in, in_lasting}
use Rattle.cga_forest.specs.declared.node_change.NodeChange.{NodeChange}
use Rattle.cga_forest.specs.View.{Seen}
use Rattle.cga_forest.specs.Tree.{ForestView, IsForest, marked_at, node_at}
use Rattle.cga_forest.specs.Walked.{asks_of, forest_tree, lasting_tree, own_of, was_marked}
use Rattle.cga_forest.proofs.Door.{inside}
use Rattle.cga_update.specs.Askers.{IsAsker, IsLasting, ListsAskers, boxes_of}
use Rattle.cga_update.proofs.Members.{among_member, member_among}
use Rattle.cga_order.proofs.Door.{Among-left as among_left, Among-right as among_right}

pub near_some : (own : Box) (moved : List NodeChange) (m : NodeChange) → Among m moved
    → meets own (box_of m.scope) ≡ true → list_any (meets own) (boxes_of moved) ≡ true
near_some own [] m h e = absurd h
near_some own (x ∷ xs) m (inl s) e =
    or_left (meets own (box_of x.scope)) (list_any (meets own) (boxes_of xs)) (ap (λ (k : NodeChange). meets own (box_of k.scope)) s ∙ e)
near_some own (x ∷ xs) m (inr h) e =
    or_right (meets own (box_of x.scope)) (list_any (meets own) (boxes_of xs)) (near_some own xs m h e)

near_first : (own : Box) (x : NodeChange) (xs : List NodeChange)
    → (list_any (meets own) (boxes_of xs) ≡ true → (m : NodeChange) × Among m xs × (meets own (box_of m.scope) ≡ true))
    → (b : Bool) → meets own (box_of x.scope) ≡ b → list_any (meets own) (boxes_of (x ∷ xs)) ≡ true
    → (m : NodeChange) × Among m (x ∷ xs) × (meets own (box_of m.scope) ≡ true)
near_first own x xs more true is h = (x, inl refl, is)
near_first own x xs more false is h =
    let w = more (ap (λ b. b || list_any (meets own) (boxes_of xs)) (sym is) ∙ h) in (w.0, inr w.1, w.2)

near_one : (own : Box) (moved : List NodeChange) → list_any (meets own) (boxes_of moved) ≡ true
    → (m : NodeChange) × Among m moved × (meets own (box_of m.scope) ≡ true)
near_one own [] h = let z : false ≡ true = h in absurd (cc)
near_one own (x ∷ xs) h = near_first own x xs (near_one own xs) (meets own (box_of x.scope)) refl h

-- who asks is there
asking : (o : Option Seen) → asks_of o ≡ true → (d : Seen) × (o ≡ Some d) × (d.node.asks ≡ true)
asking None h = let z : false ≡ true = h in absurd (cc)
asking (Some d) h = (d, refl, h)

pub lists_askers : (v : ForestView) → IsForest v → (moved : List NodeChange) (list : List ℕ)
    → ListsNear (lasting_tree v) (boxes_of moved) list → ListsAskers v moved list
lists_askers v f moved list lists = record {
  all = λ c k. member_among list c (lists.all c (record {
    inside = in_lasting (forest_tree v) (was_marked v) c (inside v f c (k.seen, k.there));
    asks = and_from (is_some (marked_at v c)) (asks_of (node_at v c)) k.marked (ap asks_of k.there ∙ k.asks);
    near = near_some (own_of (node_at v c)) moved k.one k.among
        (ap (λ o. meets (own_of o) (box_of k.one.scope)) k.there ∙ k.near);
  }));
  only = λ c h.
      let k = lists.only c (among_member list c h) in
      let both = and_parts (is_some (marked_at v c)) (asks_of (node_at v c)) k.asks in
      let d = asking (node_at v c) both.1 in
      let m = near_one (own_of (node_at v c)) moved k.near in record {
        seen = d.0;
        there = d.1;
        marked = both.0;
        asks = d.2;
        one = m.0;
        among = m.1;
        near = ap (λ o. meets (own_of o) (box_of m.0.scope)) (sym d.1) ∙ m.2;
      };
}

-- of all nodes those of the mark that ask
pub lists_lasting : (v : ForestView) → IsForest v → (list : List ℕ)
    → list ≡ filter (lasting_tree v).asks (all_nodes (forest_tree v)) → (c : ℕ) → IsLasting v c → Among c list
lists_lasting v f list is c k =
    let asks = and_from (is_some (marked_at v c)) (asks_of (node_at v c)) k.marked (ap asks_of k.there ∙ k.asks) in
    let among = caller_in (lasting_tree v).asks (all_nodes (forest_tree v)) c (inside v f c (k.seen, k.there)) asks in
    member_among list c (subst (λ l. Member l c) (sym is) among)

-- the boxes of both lists
pub boxes_join : (removed created : List NodeChange)
    → boxes_of (removed ++ created) ≡ boxes_of removed ++ boxes_of created
boxes_join [] created = refl
boxes_join (m ∷ removed) created = ap (λ (boxes : List Box). box_of m.scope ∷ boxes) (boxes_join removed created)

-- who asks near what went or near what came asks near either
module _ (v : ForestView) (removed created : List NodeChange) (c : ℕ) where
  pub asker_removed : IsAsker v removed c → IsAsker v (removed ++ created) c
  asker_removed k = record {
    seen = k.seen;
    there = k.there;
    marked = k.marked;
    asks = k.asks;
    one = k.one;
    among = among_left removed created k.one k.among;
    near = k.near;
  }

  pub asker_created : IsAsker v created c → IsAsker v (removed ++ created) c
  asker_created k = record {
    seen = k.seen;
    there = k.there;
    marked = k.marked;
    asks = k.asks;
    one = k.one;
    among = among_right removed created k.one k.among;
    near = k.near;
  }

-- the list is lent
module _ (v : ForestView) (moved : List NodeChange) (list lent : List ℕ) (same : lent ≡ list) (lists : ListsAskers v moved list) where
  pub asker_from : (c : ℕ) → Among c lent → IsAsker v moved c
  asker_from c h = lists.only c (subst (λ l. Among c l) same h)

  pub asker_in : (c : ℕ) → IsAsker v moved c → Among c lent
  asker_in c k = subst (λ l. Among c l) (sym same) (lists.all c k)
