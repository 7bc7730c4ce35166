-- The walk over a tree of hulls.
use Rattle.std.proofs.Common.{◌≡◌, ℕ, zero, suc, ◌+◌, ◌-◌, ◌≤◌, ◌<◌, inl, inr, List, [], ◌∷◌, ◌++◌, length, drop}
use Rattle.std.proofs.Common.{Bool, true, false, cond, refl, ap, sym, subst, ◌∙◌, arith, nat_eq, eq-eqb}
use Rattle.std.specs.List.{flat_map}
use Rattle.std.specs.Prelude.{slice_get, Some}
use Rattle.std.proofs.lemmas.List.{nil_from_length}
use Rattle.cga_frame.specs.Box.{Box}
use Rattle.cga_word.specs.declared.answer.Answer.{Answer}
use Rattle.cga_word.specs.declared.answer.Answer.TheVariants.{Nothing, Part, Full}
use Rattle.cga_word.specs.declared.target.Target.{Target}
use Rattle.cga_frame.specs.Box.{touches, holds}
use Rattle.cga_index.specs.Occlusion.{join}
use Rattle.cga_index.specs.Tree.{TreeView, Member, below, all_nodes, InTree, IsHullTree, answer_over, total, open_children, near, reads, visits}
use Rattle.cga_frame.proofs.Door.{holds_trans, meets_touches, touches_itself, touches_up}
use Rattle.cga_index.proofs.Members.{in_some, in_flat, in_at, drop_at, drop_all}
use Rattle.cga_index.proofs.Over.{over_append, over_none, over_apart, over_unheld}

-- where a level is left, a node and all below it are the node, and its children with all below them, a level less
pub below_more : (v : TreeView) (n node : ℕ) → 0 < n
    → below v n node ≡ node ∷ flat_map (below v (n - 1)) (v.children node)
unfolding below
below_more v zero node h = absurd (omega (arith, h))
below_more v (suc n) node h = let e : suc n - 1 ≡ n = omega arith in rw e refl

reads_more : (v : TreeView) (by n node : ℕ) → 0 < n
    → reads v by n node ≡ cond (nat_eq node by) 0 1 + cond (touches (v.hull node) (v.own by))
    (total (reads v by (n - 1)) (v.children node)) 0
unfolding reads
reads_more v by zero node h = absurd (omega (arith, h))
reads_more v by (suc n) node h = let e : suc n - 1 ≡ n = omega arith in rw e refl

-- each root is in the tree
pub root_in : (v : TreeView) (r : ℕ) → Member v.roots r → InTree v r
unfolding all_nodes
root_in v r h = in_flat (below v 257) v.roots r r h (subst (λ t. Member t r) (sym (below_more v 257 r (omega arith))) (inl refl))

-- all below a node are the tree's, and their boxes lie in its hull
pub reach : (v : TreeView) → IsHullTree v → (m r n : ℕ) → InTree v r → Member (below v m r) n
    → InTree v n × (holds (v.hull r) (v.own n) ≡ true)
unfolding below
reach v laws zero r n h w = absurd w
reach v laws (suc m) r n h w = elim w [
  | inl e ↦ subst (λ t. InTree v t × (holds (v.hull r) (v.own t) ≡ true)) e (h, laws.holds_own r h)
  | inr u ↦
      let p = in_some (below v m) (v.children r) n u in
      let q = reach v laws m p.0 n (laws.closed r p.0 h p.1) p.2 in
      (q.0, holds_trans (v.hull r) (v.hull p.0) (v.own n) (laws.holds_children r p.0 h p.1) q.1)
]

-- neither a node whose hull doesn't touch the box nor what is below it meets the box
pub none_below : (v : TreeView) → IsHullTree v → (by : ℕ) (target : Target) (m r : ℕ) → InTree v r
    → touches (v.hull r) (v.own by) ≡ false → answer_over v by target (below v m r) ≡ Nothing
none_below v laws by target m r h f = over_apart v by target (below v m r) (λ n w t.
    let q = reach v laws m r n h w in
    let yes = touches_up (v.own n) (v.hull r) (v.own by) q.1 (meets_touches (v.own n) (v.own by) (laws.boxed n q.0) t) in
    let x : true ≡ false = sym yes ∙ f in
    cc)

-- where a node's hull doesn't hold the box, neither it nor what is below it does
pub none_full : (v : TreeView) → IsHullTree v → (by : ℕ) (target : Target) (m r : ℕ) → InTree v r
    → holds (v.hull r) (v.own by) ≡ false → answer_over v by target (below v m r) ≡ Full → ⊥
none_full v laws by target m r h f = over_unheld v by target (below v m r) (λ n w t.
    let q = reach v laws m r n h w in
    let x : true ≡ false = sym (holds_trans (v.hull r) (v.own n) (v.own by) q.1 t) ∙ f in
    cc)

pub unheld : (v : TreeView) (by node : ℕ) (hull area : Box) (held : Bool) → hull ≡ v.hull node → area ≡ v.own by
    → held ≡ holds hull area → held ≡ false → holds (v.hull node) (v.own by) ≡ false
unheld v by node hull area held h a e f = rw (← h, ← a) (sym e ∙ f)

-- the steps of the walk

join_assoc : (a b c : Answer) → join (join a b) c ≡ join a (join b c)
join_assoc Full b c = refl
join_assoc Part Full c = refl
join_assoc Part Part Full = refl
join_assoc Part Part Part = refl
join_assoc Part Part Nothing = refl
join_assoc Part Nothing c = refl
join_assoc Nothing b c = refl

join_nothing : (a : Answer) → join a Nothing ≡ a
join_nothing Full = refl
join_nothing Part = refl
join_nothing Nothing = refl

pub visit_found : (v : TreeView) (by : ℕ) (target : Target) (left node : ℕ) (before first rest : Answer) → 0 < left
    → first ≡ join before (answer_over v by target (node ∷ []))
    → rest ≡ join first (answer_over v by target (flat_map (below v (left - 1)) (v.children node)))
    → rest ≡ join before (answer_over v by target (below v left node))
visit_found v by target left node before first rest h p q =
    let own = answer_over v by target (node ∷ []) in
    let under = answer_over v by target (flat_map (below v (left - 1)) (v.children node)) in
    q ∙ ap (λ t. join t under) p ∙ join_assoc before own under
    ∙ ap (join before) (sym (over_append v by target (node ∷ []) (flat_map (below v (left - 1)) (v.children node)))
    ∙ ap (answer_over v by target) (sym (below_more v left node h)))

-- what answers nothing adds nothing
pub passed_by : (before found : Answer) → found ≡ Nothing → before ≡ join before found
passed_by before found e = sym (join_nothing before) ∙ ap (join before) (sym e)

-- where something was found, what isn't full adds nothing
pub held_back : (before found : Answer) → (before ≡ Nothing → ⊥) → (found ≡ Full → ⊥) → before ≡ join before found
held_back Full found some most = refl
held_back Part Full some most = absurd (most refl)
held_back Part Part some most = refl
held_back Part Nothing some most = refl
held_back Nothing found some most = absurd (some refl)

-- what a test of a node's hull against the asking box told, where the box was handed in
pub touched : (v : TreeView) (by node : ℕ) (area : Box) (t seen : Bool) → area ≡ v.own by
    → t ≡ touches (v.hull node) area → t ≡ seen → touches (v.hull node) (v.own by) ≡ seen
touched v by node area t seen is tested told = ap (touches (v.hull node)) (sym is) ∙ sym tested ∙ told

pub visit_counted : (v : TreeView) (by left node a b c : ℕ) → 0 < left → touches (v.hull node) (v.own by) ≡ true
    → b ≤ a + cond (nat_eq node by) 0 1 → c ≤ b + total (reads v by (left - 1)) (v.children node)
    → c ≤ a + reads v by left node
visit_counted v by left node a b c h touch p q =
    let all = total (reads v by (left - 1)) (v.children node) in
    let s : ◌≡◌ {A = ℕ} (cond (touches (v.hull node) (v.own by)) all 0) all = ap (λ x. cond x all 0) touch in
    omega (arith, p, q, s, reads_more v by left node h)

-- where nobody is below a node, its own answer is that of all from it on
pub visit_leaf : (v : TreeView) (by : ℕ) (target : Target) (left node : ℕ) (before first : Answer) → 0 < left
    → length (v.children node) ≡ 0 → first ≡ join before (answer_over v by target (node ∷ []))
    → first ≡ join before (answer_over v by target (below v left node))
visit_leaf v by target left node before first h none p =
    let e = nil_from_length (v.children node) none in
    p ∙ ap (join before) (ap (λ cs. answer_over v by target (node ∷ flat_map (below v (left - 1)) cs)) (sym e) ∙ ap (answer_over v by target) (sym (below_more v left node h)))

pub visit_alone : (v : TreeView) (by left node a b : ℕ) → 0 < left → b ≤ a + cond (nat_eq node by) 0 1
    → b ≤ a + reads v by left node
visit_alone v by left node a b h p = omega (arith, p, reads_more v by left node h)

-- where the node's own answer is full, so is that of all from it on
pub visit_full : (v : TreeView) (by : ℕ) (target : Target) (left node : ℕ) (before first : Answer) → 0 < left
    → first ≡ join before (answer_over v by target (node ∷ [])) → first ≡ Full
    → first ≡ join before (answer_over v by target (below v left node))
visit_full v by target left node before first h p full =
    let rest = answer_over v by target (flat_map (below v (left - 1)) (v.children node)) in
    full ∙ sym (ap (λ t. join t rest) full) ∙ visit_found v by target left node before first (join first rest) h p refl

pub visit_fewer : (v : TreeView) (by left node a b : ℕ) → 0 < left → touches (v.hull node) (v.own by) ≡ true
    → b ≤ a + cond (nat_eq node by) 0 1 → b ≤ a + reads v by left node
visit_fewer v by left node a b h touch p = visit_counted v by left node a b b h touch p (omega arith)

-- what is full stays so, whatever else is joined
pub full_stays : (found rest whole : Answer) → found ≡ Full → whole ≡ join found rest → found ≡ whole
full_stays found rest whole full is = full ∙ sym (is ∙ ap (λ t. join t rest) full)

pub full_joined : (before a b : Answer) → before ≡ Full → join before a ≡ join before b
full_joined before a b full = ap (λ t. join t a) full ∙ sym (ap (λ t. join t b) full)

pub step_found : (v : TreeView) (by : ℕ) (target : Target) (m : ℕ) (cs : List ℕ) (k c : ℕ) (found one whole : Answer)
    → slice_get cs k ≡ Some c → one ≡ join found (answer_over v by target (below v m c))
    → whole ≡ join found (answer_over v by target (flat_map (below v m) (drop k cs)))
    → whole ≡ join one (answer_over v by target (flat_map (below v m) (drop (k + 1) cs)))
step_found v by target m cs k c found one whole e p q =
    let rest = flat_map (below v m) (drop (k + 1) cs) in
    q ∙ ap (λ t. join found (answer_over v by target (flat_map (below v m) t))) (drop_at cs k c e)
    ∙ ap (join found) (over_append v by target (below v m c) rest)
    ∙ sym (join_assoc found (answer_over v by target (below v m c)) (answer_over v by target rest))
    ∙ ap (λ t. join t (answer_over v by target rest)) (sym p)

pub step_counted : (f : ℕ → ℕ) (cs : List ℕ) (k c a b whole : ℕ) → slice_get cs k ≡ Some c → b ≤ a + f c
    → a + total f (drop k cs) ≤ whole → b + total f (drop (k + 1) cs) ≤ whole
step_counted f cs k c a b whole e p q =
    let t : total f (drop k cs) ≡ f c + total f (drop (k + 1) cs) = ap (total f) (drop_at cs k c e) in
    omega (arith, p, q, t)

pub end_found : (v : TreeView) (by : ℕ) (target : Target) (m : ℕ) (cs : List ℕ) (k : ℕ) (found whole : Answer)
    → length cs ≤ k → whole ≡ join found (answer_over v by target (flat_map (below v m) (drop k cs))) → found ≡ whole
end_found v by target m cs k found whole h q =
    sym (q ∙ ap (λ t. join found (answer_over v by target (flat_map (below v m) t))) (drop_all cs k h)
    ∙ ap (join found) (over_none v by target) ∙ join_nothing found)

-- counts

total_most : (f g : ℕ → ℕ) (xs : List ℕ) → ((x : ℕ) → f x ≤ g x) → total f xs ≤ total g xs
total_most f g [] h = omega arith
total_most f g (x ∷ xs) h = omega (arith, h x, total_most f g xs h)

total_less : (f g : ℕ → ℕ) (xs : List ℕ) (x : ℕ) → ((y : ℕ) → f y ≤ g y) → Member xs x → f x + 1 ≤ g x
    → total f xs + 1 ≤ total g xs
total_less f g [] x h w e = absurd w
total_less f g (y ∷ ys) x h w e = elim w [
  | inl p ↦
      let e2 : f y + 1 ≤ g y = subst (λ t. f t + 1 ≤ g t) (sym p) e in
      omega (arith, e2, total_most f g ys h)
  | inr t ↦ omega (arith, h y, total_less f g ys x h t e)
]

total_split : (f : ℕ → ℕ) (xs ys : List ℕ) → total f (xs ++ ys) ≡ total f xs + total f ys
total_split f [] ys = omega arith
total_split f (x ∷ xs) ys = let e = total_split f xs ys in omega (arith, e)

total_flat : (f k : ℕ → ℕ) (g : ℕ → List ℕ) (xs : List ℕ) → ((x : ℕ) → f x ≤ 1 + total k (g x))
    → total f xs ≤ length xs + total k (flat_map g xs)
total_flat f k g [] h = omega arith
total_flat f k g (x ∷ xs) h = omega (arith, h x, total_flat f k g xs h, total_split k (g x) (flat_map g xs))

cond_most : (b : Bool) (x y : ℕ) → x ≤ y → cond b x 0 ≤ cond b y 0
cond_most true x y h = h
cond_most false x y h = omega arith

cond_more : (b : Bool) (x y z : ℕ) → x ≤ y + z → cond b x 0 ≤ cond b y 0 + z
cond_more true x y z h = h
cond_more false x y z h = omega arith

skip_most : (b : Bool) → cond b 0 1 ≤ 1
skip_most true = omega arith
skip_most false = omega arith

reads_most : (v : TreeView) (by m r : ℕ) → reads v by m r ≤ visits v by m r
unfolding reads visits
reads_most v by zero r = omega arith
reads_most v by (suc m) r =
    let t = total_most (reads v by m) (visits v by m) (v.children r) (λ c. reads_most v by m c) in
    omega (arith, skip_most (nat_eq r by), cond_most (touches (v.hull r) (v.own by)) _ _ t)

visits_most : (v : TreeView) (by m r : ℕ) → visits v by m r ≤ 1 + total (open_children v (v.own by)) (below v m r)
unfolding visits below
visits_most v by zero r = omega arith
visits_most v by (suc m) r =
    let t = total_flat (visits v by m) (open_children v (v.own by)) (below v m) (v.children r) (λ c. visits_most v by m c) in
    omega (arith, cond_more (touches (v.hull r) (v.own by)) _ _ _ t)

-- the asking node is among those that the walk comes to, and isn't read there
reads_less : (v : TreeView) → IsHullTree v → (by m r : ℕ) → InTree v r → Member (below v m r) by
    → reads v by m r + 1 ≤ visits v by m r
unfolding reads visits below
reads_less v laws by zero r h w = absurd w
reads_less v laws by (suc m) r h w = elim w [
  | inl e ↦
      let s : ◌≡◌ {A = ℕ} (cond (nat_eq r by) 0 1) 0 = ap (λ b. cond b 0 1) (eq-eqb r by e) in
      let t = total_most (reads v by m) (visits v by m) (v.children r) (λ c. reads_most v by m c) in
      omega (arith, s, cond_most (touches (v.hull r) (v.own by)) _ _ t)
  | inr u ↦
      let p = in_some (below v m) (v.children r) by u in
      let i = laws.closed r p.0 h p.1 in
      let q = reach v laws m p.0 by i p.2 in
      let up = holds_trans (v.hull r) (v.hull p.0) (v.own by) (laws.holds_children r p.0 h p.1) q.1 in
      let yes = touches_up (v.own by) (v.hull r) (v.own by) up (touches_itself (v.own by) (laws.boxed by q.0)) in
      let t = total_less (reads v by m) (visits v by m) (v.children r) p.0 (λ c. reads_most v by m c) p.1 (reads_less v laws by m p.0 i p.2) in
      let s1 = ap (λ b. cond b (total (reads v by m) (v.children r)) 0) yes in
      let s2 = ap (λ b. cond b (total (visits v by m) (v.children r)) 0) yes in
      omega (arith, t, s1, s2, skip_most (nat_eq r by))
]

pub reads_near : (v : TreeView) → IsHullTree v → (by : ℕ) → InTree v by → total (reads v by 257) v.roots + 1 ≤ near v by
unfolding near all_nodes
reads_near v laws by h =
    let p = in_some (below v 257) v.roots by h in
    let a = total_less (reads v by 257) (visits v by 257) v.roots p.0 (λ c. reads_most v by 257 c) p.1 (reads_less v laws by 257 p.0 (root_in v p.0 p.1) p.2) in
    let b = total_flat (visits v by 257) (open_children v (v.own by)) (below v 257) v.roots (λ c. visits_most v by 257 c) in
    omega (arith, a, b)

pub child_in : (v : TreeView) → IsHullTree v → (n k c : ℕ) → InTree v n → slice_get (v.children n) k ≡ Some c
    → InTree v c
child_in v laws n k c h e = laws.closed n c h (in_at (v.children n) k c e)

pub child_depth : (v : TreeView) → IsHullTree v → (n k c : ℕ) → InTree v n → slice_get (v.children n) k ≡ Some c
    → v.depth c ≡ v.depth n + 1
child_depth v laws n k c h e = laws.at_child n c h (in_at (v.children n) k c e)

pub root_inside : (v : TreeView) (k r : ℕ) → slice_get v.roots k ≡ Some r → InTree v r
root_inside v k r e = root_in v r (in_at v.roots k r e)

pub root_depth : (v : TreeView) → IsHullTree v → (k r : ℕ) → slice_get v.roots k ≡ Some r → v.depth r ≡ 0
root_depth v laws k r e = laws.at_root r (in_at v.roots k r e)

pub reads_within : (v : TreeView) → IsHullTree v → (by a b k : ℕ) → InTree v by → length v.roots ≤ k
    → b + total (reads v by 257) (drop k v.roots) ≤ a + 1 + total (reads v by 257) v.roots → b ≤ a + near v by
reads_within v laws by a b k h e q = omega (arith, q, reads_near v laws by h)
