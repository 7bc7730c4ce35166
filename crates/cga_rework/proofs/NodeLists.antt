-- The list of a view, by its nodes.
use Rattle.std.proofs.Common.{◌≡◌, ℕ, zero, suc, ◌<◌, inl, inr, refl, ap, sym, ◌∙◌, arith}
use Rattle.std.specs.Prelude.{Option, Some, None}
use Rattle.cga_tree.specs.Tree.{Seen, View}
use Rattle.cga_order.specs.declared.placed.Kind.{Kind}
use Rattle.cga_order.specs.Agenda.{Keeps}
use Rattle.cga_rework.specs.Ranked.{Ranked}
use Rattle.cga_rework.specs.Nodes.{Content, ranked_of, with_node, nodes_of}
pub use Rattle.std.proofs.lemmas.Bool.{cases_Bool as bool_cases}
pub use Rattle.cga_fraction.proofs.Door.{None-not-Some as none_some, cases_Option as option_cases, eq_or_ne as nat_cases, same_Some as some_same, true-and-false as true_false}

module _ {X S A F P : Type 0} (content : Content X S A F P) (T : View X) where
  -- a number below the bound names a node that is this one
  abbrev pub IsNodeOf : ℕ → Ranked S → Kind F P → A → Type 0
  IsNodeOf b n k a =
      (c : ℕ) × (d : Seen X) × (T c ≡ Some d) × (ranked_of content d.node ≡ n) × (content.kind d.node ≡ k) × (content.answers d.node ≡ a) × (c < b)

  -- a node of the list up to a bound is one under some number below it, with its kind and answers
  pub keeps-node : (b : ℕ) (n : Ranked S) (k : Kind F P) (a : A) → Keeps (nodes_of content T b) n k a → IsNodeOf b n k a
  unfolding nodes_of
  keeps-node zero n k a h = absurd h
  keeps-node (suc b) n k a h = by (λ g. keeps-node b n k a g) (T b) refl h
    where
      more : IsNodeOf b n k a → IsNodeOf (suc b) n k a
      more y = let lt = y.6 in (y.0, y.1, y.2, y.3, y.4, y.5, omega (arith, lt))

      by : (Keeps (nodes_of content T b) n k a → IsNodeOf b n k a) → (o : Option (Seen X)) → T b ≡ o
          → Keeps (with_node content o (nodes_of content T b)) n k a → IsNodeOf (suc b) n k a
      by rec None e g = more (rec g)
      by rec (Some d) e g = elim g [
        | inl q ↦ (b, d, e, q.0, q.1, q.2, omega arith)
        | inr r ↦ more (rec r)
      ]

  pub node-keeps : (b c : ℕ) (d : Seen X) → c < b → T c ≡ Some d
      → Keeps (nodes_of content T b) (ranked_of content d.node) (content.kind d.node) (content.answers d.node)
  unfolding nodes_of
  node-keeps zero c d lt t = absurd (omega arith)
  node-keeps (suc b) c d lt t = by (λ l. node-keeps b c d l t) (T b) refl
    where
      here : (o : Option (Seen X)) → T b ≡ o → c ≡ b
          → Keeps (with_node content o (nodes_of content T b)) (ranked_of content d.node) (content.kind d.node)
          (content.answers d.node)
      here None e q = none_some d (sym e ∙ ap T (sym q) ∙ t)
      here (Some x) e q =
          let same : x ≡ d = some_same x d (sym e ∙ ap T (sym q) ∙ t) in
          inl (ap (λ (y : Seen X). ranked_of content y.node) same, ap (λ (y : Seen X). content.kind y.node) same, ap (λ (y : Seen X). content.answers y.node) same)

      before : Keeps (nodes_of content T b) (ranked_of content d.node) (content.kind d.node) (content.answers d.node)
          → (o : Option (Seen X))
          → Keeps (with_node content o (nodes_of content T b)) (ranked_of content d.node) (content.kind d.node)
          (content.answers d.node)
      before g None = g
      before g (Some x) = inr g

      by : (c < b → Keeps (nodes_of content T b) (ranked_of content d.node) (content.kind d.node)
          (content.answers d.node))
          → (o : Option (Seen X)) → T b ≡ o
          → Keeps (with_node content o (nodes_of content T b)) (ranked_of content d.node) (content.kind d.node)
          (content.answers d.node)
      by rec o e = elim (nat_cases c b) [ inl q ↦ here o e q | inr ne ↦ before (rec (omega arith)) o ]
