-- Those that ask and meet an area.
use Rattle.std.proofs.Common.{◌≡◌, ℕ, zero, suc, ◌+◌, ◌-◌, ◌≤◌, ◌<◌, inl, inr, List, [], ◌∷◌, ◌++◌, length, drop}
use Rattle.std.proofs.Common.{Bool, true, false, cond, ◌&&◌, refl, ap, sym, subst, ◌∙◌, arith, Option, Some, None}
use Rattle.std.specs.List.{flat_map, filter}
use Rattle.std.specs.Prelude.{slice_get}
use Rattle.std.proofs.lemmas.List.{append_assoc, append-nil}
use Rattle.std.proofs.lemmas.List.Elements.{filter-append}
use Rattle.cga_frame.specs.Box.{Box}
use Rattle.cga_frame.specs.Box.{touches, meets}
use Rattle.cga_index.specs.Tree.{TreeView, Member, Apart, LiesIn, below, all_nodes, InTree, IsHullTree, is_asker, askers, touches_some, ListsAskers}
use Rattle.cga_frame.proofs.Door.{holds_trans, meets_touches, touches_up}
use Rattle.cga_index.proofs.Members.{in_split, in_some, drop_at, drop_all}
use Rattle.cga_index.proofs.Levels.{below_more, root_in}
use Rattle.std.proofs.lemmas.Bool.{and_parts as both, cases_Bool as either}

pub askers_split : (v : TreeView) (area : Box) (xs ys : List ℕ)
    → askers v area (xs ++ ys) ≡ askers v area xs ++ askers v area ys
unfolding askers
askers_split v area xs ys = filter-append (is_asker v area) xs ys

pub askers_one_in : (v : TreeView) (area : Box) (n : ℕ) → v.asks n ≡ true → meets (v.own n) area ≡ true
    → askers v area (n ∷ []) ≡ n ∷ []
unfolding askers
askers_one_in v area n a m = ap (λ b. cond (b && meets (v.own n) area) (n ∷ []) []) a ∙ ap (λ b. cond b (n ∷ []) []) m

pub askers_one_quiet : (v : TreeView) (area : Box) (n : ℕ) → v.asks n ≡ false → askers v area (n ∷ []) ≡ []
unfolding askers
askers_one_quiet v area n a = ap (λ b. cond (b && meets (v.own n) area) (n ∷ []) []) a

pub askers_one_far : (v : TreeView) (area : Box) (n : ℕ) → v.asks n ≡ true → meets (v.own n) area ≡ false
    → askers v area (n ∷ []) ≡ []
unfolding askers
askers_one_far v area n a m = ap (λ b. cond (b && meets (v.own n) area) (n ∷ []) []) a ∙ ap (λ b. cond b (n ∷ []) []) m

pub ruleset askers_one = (askers_one_in, askers_one_quiet, askers_one_far)

-- membership

pub caller_in : (p : ℕ → Bool) (xs : List ℕ) (n : ℕ) → Member xs n → p n ≡ true → Member (filter p xs) n
caller_in p [] n h e = absurd h
caller_in p (x ∷ xs) n h e = elim h [
  | inl w ↦
      let t : p x ≡ true = ap p w ∙ e in
      subst (λ l. Member l n) (sym (ap (λ b. cond b (x ∷ filter p xs) (filter p xs)) t)) (inl w)
  | inr r ↦ elim (p x) as (λ b. Member (cond b (x ∷ filter p xs) (filter p xs)) n) [
    | true ↦ inr (caller_in p xs n r e)
    | false ↦ caller_in p xs n r e
  ]
]

pub caller_out : (p : ℕ → Bool) (xs : List ℕ) (n : ℕ) → Member (filter p xs) n → Member xs n × (p n ≡ true)
caller_out p [] n h = absurd h
caller_out p (x ∷ xs) n h = elim (either (p x)) [
  | inl t ↦ elim (subst (λ l. Member l n) (ap (λ b. cond b (x ∷ filter p xs) (filter p xs)) t) h) [
    | inl e ↦ (inl e, ap p (sym e) ∙ t)
    | inr r ↦ let w = caller_out p xs n r in (inr w.0, w.1)
  ]
  | inr f ↦ let w = caller_out p xs n (subst (λ l. Member l n) (ap (λ b. cond b (x ∷ filter p xs) (filter p xs)) f) h) in (inr w.0, w.1)
]

-- who asks below a node has its box in the node's asking hull
pub asking_reach : (v : TreeView) → IsHullTree v → (m r n : ℕ) → InTree v r → Member (below v m r) n → v.asks n ≡ true
    → InTree v n × LiesIn (v.asking_hull r) (v.own n)
unfolding below
asking_reach v laws zero r n h w a = absurd w
asking_reach v laws (suc m) r n h w a = elim w [
  | inl e ↦ let i : InTree v n = subst (λ t. InTree v t) e h in (i, subst (λ t. LiesIn (v.asking_hull t) (v.own n)) (sym e) (laws.asks_own n i a))
  | inr u ↦
      let p = in_some (below v m) (v.children r) n u in
      let q = asking_reach v laws m p.0 n (laws.closed r p.0 h p.1) p.2 a in
      let l = q.1 in
      let up = laws.asks_below r p.0 l.0 h p.1 l.1 in
      (q.0, (up.0, up.1, holds_trans up.0 l.0 (v.own n) up.2 l.2))
]

no_member : (xs : List ℕ) → ((n : ℕ) → Member xs n → ⊥) → xs ≡ []
no_member [] h = refl
no_member (x ∷ xs) h = absurd (h x (inl refl))

-- the hull that stands there, if any, doesn't touch the area
abbrev pub IsFar : Option Box → Box → Type 0
IsFar None area = 0 ≤ 0
IsFar (Some h) area = touches h area ≡ false

pub nobody_far : (v : TreeView) → IsHullTree v → (area : Box) (m r : ℕ) → InTree v r
    → ((h : Box) → v.asking_hull r ≡ Some h → touches h area ≡ false) → askers v area (below v m r) ≡ []
unfolding askers
nobody_far v laws area m r h far = no_member (filter (is_asker v area) (below v m r)) (λ n w.
    let o = caller_out (is_asker v area) (below v m r) n w in
    let b = both (v.asks n) (meets (v.own n) area) o.1 in
    let q = asking_reach v laws m r n h o.0 b.0 in
    let l = q.1 in
    let yes = touches_up (v.own n) l.0 area l.2 (meets_touches (v.own n) area (laws.boxed n q.0) b.1) in
    let x : true ≡ false = sym yes ∙ far l.0 l.1 in
    cc)

pub nobody_near : (v : TreeView) → IsHullTree v → (area : Box) (m r : ℕ) → InTree v r
    → touches_some (v.asking_hull r) area ≡ false → askers v area (below v m r) ≡ []
nobody_near v laws area m r h far = nobody_far v laws area m r h (λ hull here. sym (ap (λ o. touches_some o area) here) ∙ far)

pub ruleset nobody = (nobody_near)

-- two lists joined have each member once where each has, and they share none
pub apart_join : (xs ys : List ℕ) → Apart xs → Apart ys → ((n : ℕ) → Member xs n → Member ys n → ⊥) → Apart (xs ++ ys)
apart_join [] ys a b h = b
apart_join (x ∷ xs) ys a b h = (
  (λ w. elim (in_split xs ys x w) [ inl i ↦ a.0 i | inr j ↦ h x (inl refl) j ]),
  apart_join xs ys a.1 b (λ n i j. h n (inr i) j),
)

-- so have the lists of all members of a list
pub apart_flat : (f : ℕ → List ℕ) (cs : List ℕ) → Apart cs → ((c : ℕ) → Member cs c → Apart (f c))
    → ((a b n : ℕ) → Member cs a → Member cs b → Member (f a) n → Member (f b) n → a ≡ b) → Apart (flat_map f cs)
apart_flat f [] a e s = tt
apart_flat f (c ∷ cs) a e s = apart_join (f c) (flat_map f cs) (e c (inl refl)) (apart_flat f cs a.1 (λ d i. e d (inr i)) (λ x y n i j. s x y n (inr i) (inr j))) (λ n i j.
    let p = in_some f cs n j in
    let q = s c p.0 n (inl refl) (inr p.1) i p.2 in
    a.0 (subst (Member cs) (sym q) p.1))

pub apart_filter : (p : ℕ → Bool) (xs : List ℕ) → Apart xs → Apart (filter p xs)
apart_filter p [] a = tt
apart_filter p (x ∷ xs) a = elim (p x) as (λ b. Apart (cond b (x ∷ filter p xs) (filter p xs))) [
  | true ↦ ((λ w. a.0 (caller_out p xs x w).0), apart_filter p xs a.1)
  | false ↦ apart_filter p xs a.1
]

deeper : (v : TreeView) → IsHullTree v → (m r n : ℕ) → InTree v r → Member (below v m r) n → v.depth r ≤ v.depth n
unfolding below
deeper v laws zero r n h w = absurd w
deeper v laws (suc m) r n h w = elim w [
  | inl e ↦ let d : v.depth r ≡ v.depth n = ap v.depth e in omega (arith, d)
  | inr u ↦
      let p = in_some (below v m) (v.children r) n u in
      let q = deeper v laws m p.0 n (laws.closed r p.0 h p.1) p.2 in
      omega (arith, q, laws.at_child r p.0 h p.1)
]

same_top : (v : TreeView) → IsHullTree v → (m a b n : ℕ) → InTree v a → InTree v b → v.depth a ≡ v.depth b
    → Member (below v m a) n → Member (below v m b) n → a ≡ b
unfolding below
same_top v laws zero a b n i j d x y = absurd x
same_top v laws (suc m) a b n i j d x y = elim x [
  | inl e ↦ elim y [
    | inl f ↦ e ∙ sym f
    | inr u ↦
        let p = in_some (below v m) (v.children b) n u in
        let q = deeper v laws m p.0 n (laws.closed b p.0 j p.1) p.2 in
        let t : v.depth a ≡ v.depth n = ap v.depth e in
        absurd (omega (arith, q, laws.at_child b p.0 j p.1, t, d))
  ]
  | inr w ↦
      let o = in_some (below v m) (v.children a) n w in
      let c = laws.closed a o.0 i o.1 in
      elim y [
        | inl f ↦
            let q = deeper v laws m o.0 n c o.2 in
            let t : v.depth b ≡ v.depth n = ap v.depth f in
            absurd (omega (arith, q, laws.at_child a o.0 i o.1, t, d))
        | inr u ↦
            let p = in_some (below v m) (v.children b) n u in
            let k = laws.closed b p.0 j p.1 in
            let t : v.depth o.0 ≡ v.depth p.0 = laws.at_child a o.0 i o.1 ∙ ap (λ z. z + 1) d ∙ sym (laws.at_child b p.0 j p.1) in
            let s = same_top v laws m o.0 p.0 n c k t o.2 p.2 in
            laws.one_parent a b o.0 i j o.1 (subst (Member (v.children b)) (sym s) p.1)
      ]
]

once_below : (v : TreeView) → IsHullTree v → (m r : ℕ) → InTree v r → Apart (below v m r)
unfolding below
once_below v laws zero r h = tt
once_below v laws (suc m) r h = (
  (λ u.
      let p = in_some (below v m) (v.children r) r u in
      let q = deeper v laws m p.0 r (laws.closed r p.0 h p.1) p.2 in
      absurd (omega (arith, q, laws.at_child r p.0 h p.1))),
  apart_flat (below v m) (v.children r) (laws.children_once r h) (λ c i. once_below v laws m c (laws.closed r c h i)) (λ a b n i j x y.
      same_top v laws m a b n (laws.closed r a h i) (laws.closed r b h j) (laws.at_child r a h i ∙ sym (laws.at_child r b h j)) x y),
)

pub all_once : (v : TreeView) → IsHullTree v → Apart (all_nodes v)
unfolding all_nodes
all_once v laws = apart_flat (below v 257) v.roots laws.roots_once (λ c i. once_below v laws 257 c (root_in v c i)) (λ a b n i j x y.
    same_top v laws 257 a b n (root_in v a i) (root_in v b j) (laws.at_root a i ∙ sym (laws.at_root b j)) x y)

-- the steps of the listing

pub from_end : (v : TreeView) (area : Box) (left node : ℕ) (a b c : List ℕ) → 0 < left
    → b ≡ a ++ askers v area (node ∷ []) → c ≡ b ++ askers v area (flat_map (below v (left - 1)) (v.children node))
    → c ≡ a ++ askers v area (below v left node)
from_end v area left node a b c h p q =
    let kids = flat_map (below v (left - 1)) (v.children node) in
    q ∙ ap (λ t. t ++ askers v area kids) p
    ∙ append_assoc a (askers v area (node ∷ [])) (askers v area kids)
    ∙ ap (λ t. a ++ t) (sym (askers_split v area (node ∷ []) kids))
    ∙ ap (λ t. a ++ askers v area t) (sym (below_more v left node h))

pub from_skip : (v : TreeView) (area : Box) (ns a : List ℕ) → askers v area ns ≡ [] → a ≡ a ++ askers v area ns
from_skip v area ns a e = sym (ap (λ t. a ++ t) e ∙ append-nil a)

pub list_step : (v : TreeView) (area : Box) (m : ℕ) (cs : List ℕ) (k c : ℕ) (a b whole : List ℕ)
    → slice_get cs k ≡ Some c → b ≡ a ++ askers v area (below v m c)
    → a ++ askers v area (flat_map (below v m) (drop k cs)) ≡ whole
    → b ++ askers v area (flat_map (below v m) (drop (k + 1) cs)) ≡ whole
list_step v area m cs k c a b whole e p q =
    let rest = flat_map (below v m) (drop (k + 1) cs) in
    ap (λ t. t ++ askers v area rest) p
    ∙ append_assoc a (askers v area (below v m c)) (askers v area rest)
    ∙ ap (λ t. a ++ t) (sym (askers_split v area (below v m c) rest))
    ∙ ap (λ t. a ++ askers v area (flat_map (below v m) t)) (sym (drop_at cs k c e))
    ∙ q

askers_nil : (v : TreeView) (area : Box) → askers v area [] ≡ []
unfolding askers
askers_nil v area = refl

pub list_end : (v : TreeView) (area : Box) (m : ℕ) (cs : List ℕ) (k : ℕ) (a whole : List ℕ) → length cs ≤ k
    → a ++ askers v area (flat_map (below v m) (drop k cs)) ≡ whole → a ≡ whole
list_end v area m cs k a whole h q =
    sym (ap (λ t. a ++ askers v area (flat_map (below v m) t)) (drop_all cs k h) ∙ ap (λ t. a ++ t) (askers_nil v area) ∙ append-nil a) ∙ q

pub lists_askers : (v : TreeView) → IsHullTree v → (area : Box) → ListsAskers v area (askers v area (all_nodes v))
unfolding askers
lists_askers v laws area = record {
  all = λ n i a m. caller_in (is_asker v area) (all_nodes v) n i (ap (λ b. b && meets (v.own n) area) a ∙ m);
  only = λ n w.
      let o = caller_out (is_asker v area) (all_nodes v) n w in
      let b = both (v.asks n) (meets (v.own n) area) o.1 in
      (o.0, b.0, b.1);
  once = apart_filter (is_asker v area) (all_nodes v) (all_once v laws);
}

pub quiet_same : (v : TreeView) (area : Box) (n : ℕ) (a : List ℕ) (t : Bool) → t ≡ v.asks n → t ≡ false
    → a ≡ a ++ askers v area (n ∷ [])
quiet_same v area n a t p e = from_skip v area (n ∷ []) a (askers_one_quiet v area n (sym p ∙ e))

pub far_same : (v : TreeView) (area own : Box) (n : ℕ) (a : List ℕ) (t u : Bool) → t ≡ v.asks n → t ≡ true
    → own ≡ v.own n → u ≡ meets own area → u ≡ false → a ≡ a ++ askers v area (n ∷ [])
far_same v area own n a t u p e o m f = from_skip v area (n ∷ []) a (askers_one_far v area n (sym p ∙ e) (ap (λ b. meets b area) (sym o) ∙ sym m ∙ f))
