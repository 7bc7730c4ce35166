-- The tree of two roots keeps the laws.
use Rattle.std.proofs.Common.{◌≡◌, ◌∙◌, ℕ, ◌+◌, ◌≤◌, inl, inr, List, [], ◌∷◌, refl, subst, sym, arith, true, false, nat_eq, Some}
use Rattle.std.specs.Prelude.{nat_lt, Option, if◌then◌else◌}
use Rattle.cga_fraction.specs.Order.{rat_le}
use Rattle.cga_frame.specs.Box.{Box, holds, touches, is_box}
use Rattle.cga_index.specs.Tree.{Apart, Member, InTree, IsHullTree, LiesIn, all_nodes, below, near}
use Rattle.cga_calls.specs.TwoRoots.{two_roots, box_at, leaves_of, depth_at}

pub nodes_are : all_nodes two_roots ≡ 0 ∷ 2 ∷ 3 ∷ 1 ∷ 4 ∷ 5 ∷ []
unfolding all_nodes below
nodes_are = refl

each : (P : ℕ → Type 0) → P 0 → P 1 → P 2 → P 3 → P 4 → P 5 → (n : ℕ) → InTree two_roots n → P n
each P p0 p1 p2 p3 p4 p5 n h =
    let m : Member (0 ∷ 2 ∷ 3 ∷ 1 ∷ 4 ∷ 5 ∷ []) n = subst (λ (ns : List ℕ). Member ns n) nodes_are h in
    elim m [
      | inl e ↦ subst P e p0
      | inr m ↦ elim m [
        | inl e ↦ subst P e p2
        | inr m ↦ elim m [
          | inl e ↦ subst P e p3
          | inr m ↦ elim m [
            | inl e ↦ subst P e p1
            | inr m ↦ elim m [
              | inl e ↦ subst P e p4
              | inr m ↦ elim m [
                | inl e ↦ subst P e p5
                | inr m ↦ absurd m
              ]
            ]
          ]
        ]
      ]
    ]

pub near_is : ◌≡◌ {A = ℕ} (near two_roots 2) 4
unfolding near all_nodes below touches rat_le
near_is = refl

-- ---- who stands below whom

abbrev parent_at : ℕ → ℕ
parent_at c = if nat_lt c 4 then 0 else 1

two_of : (P : ℕ → Type 0) (a b : ℕ) → P a → P b → (c : ℕ) → Member (a ∷ b ∷ []) c → P c
two_of P a b pa pb c m = elim m [
  | inl e ↦ subst P e pa
  | inr m ↦ elim m [ inl e ↦ subst P e pb | inr m ↦ absurd m ]
]

below_is : (P : ℕ → ℕ → Type 0) → P 0 2 → P 0 3 → P 1 4 → P 1 5 → (n c : ℕ) → InTree two_roots n
    → Member (leaves_of n) c → P n c
below_is P p2 p3 p4 p5 n c h = each (λ k. Member (leaves_of k) c → P k c)
    (two_of (P 0) 2 3 p2 p3 c) (two_of (P 1) 4 5 p4 p5 c) (λ m. absurd m) (λ m. absurd m) (λ m. absurd m) (λ m. absurd m) n h

parent_is : (n c : ℕ) → InTree two_roots n → Member (leaves_of n) c → parent_at c ≡ n
parent_is = below_is (λ n c. parent_at c ≡ n) refl refl refl refl

two_apart : (a b : ℕ) → nat_eq b a ≡ false → Apart (a ∷ b ∷ [])
two_apart a b h = (λ m. elim m [ inl e ↦ grind (arith) | inr m ↦ m ], (λ m. m, tt))

inside : (n : ℕ) → Member (0 ∷ 2 ∷ 3 ∷ 1 ∷ 4 ∷ 5 ∷ []) n → InTree two_roots n
inside n m = subst (λ (ns : List ℕ). Member ns n) (sym nodes_are) m

pub first_leaf : InTree two_roots 2
first_leaf = inside 2 (inr (inl refl))

lies : (n c : ℕ) → holds (box_at n) (box_at c) ≡ true → LiesIn (Some (box_at n)) (box_at c)
lies n c h = (box_at n, refl, h)

same_box : (b h : Box) → ◌≡◌ {A = Option Box} (Some b) (Some h) → b ≡ h
same_box b h e = cc

pub keeps_laws : IsHullTree two_roots
unfolding holds rat_le
keeps_laws = record {
  roots_once = two_apart 0 1 refl;
  children_once = each (λ n. Apart (leaves_of n)) (two_apart 2 3 refl) (two_apart 4 5 refl) tt tt tt tt;
  one_parent = λ a b c ha hb ma mb. sym (parent_is a c ha ma) ∙ parent_is b c hb mb;
  at_root = two_of (λ r. depth_at r ≡ 0) 0 1 refl refl;
  at_child = below_is (λ n c. depth_at c ≡ depth_at n + 1) refl refl refl refl;
  closed = below_is (λ n c. InTree two_roots c) (inside 2 (inr (inl refl))) (inside 3 (inr (inr (inl refl))))
      (inside 4 (inr (inr (inr (inr (inl refl)))))) (inside 5 (inr (inr (inr (inr (inr (inl refl)))))));
  shallow = each (λ n. depth_at n ≤ 256) (omega arith) (omega arith) (omega arith) (omega arith) (omega arith) (omega arith);
  boxed = each (λ n. is_box (box_at n) ≡ true) refl refl refl refl refl refl;
  holds_own = each (λ n. holds (box_at n) (box_at n) ≡ true) refl refl refl refl refl refl;
  holds_children = below_is (λ n c. holds (box_at n) (box_at c) ≡ true) refl refl refl refl;
  asks_own = λ n h e. each (λ n. LiesIn (Some (box_at n)) (box_at n)) (lies 0 0 refl) (lies 1 1 refl) (lies 2 2 refl) (lies 3 3 refl) (lies 4 4 refl) (lies 5 5 refl) n h;
  asks_below = λ n c b h m e. subst (LiesIn (Some (box_at n))) (same_box (box_at c) b e)
      (below_is (λ n c. LiesIn (Some (box_at n)) (box_at c)) (lies 0 2 refl) (lies 0 3 refl) (lies 1 4 refl) (lies 1 5 refl) n c h m);
}
