-- Trees seen as a function from ids, and what each change leaves of them.
use Rattle.std.proofs.Common.{◌≡◌, ◌≢◌, ℕ, [], Bool, true, false, ◌⊎◌, inl, inr, refl, ap, sym, ◌∙◌, arith}
use Rattle.std.specs.Prelude.{Option, Some, None, slice_get, if◌then◌else◌}
use Rattle.cga_forest.specs.View.{Seen}
use Rattle.cga_tree.specs.Tree.{IsTree}
use Rattle.cga_fraction.proofs.Door.{eq_or_ne as nat_cases}
use Rattle.std.proofs.lemmas.Bool.{cases_Bool as bool_cases}

-- the same nodes
pub IsTree-same : (S T : ℕ → Option Seen) → ((c : ℕ) → T c ≡ S c) → IsTree S → IsTree T
IsTree-same S T h s = record {
  down = λ id i c e t g. let r = s.down id i c e (sym (h id) ∙ t) g in (r.0, h c ∙ r.1, r.2, r.3, r.4);
  up = λ c p d t g. let r = s.up c p d (sym (h c) ∙ t) g in (r.0, h p ∙ r.1, r.2);
  shallow = λ id e t. s.shallow id e (sym (h id) ∙ t);
  at_root = λ id e t. s.at_root id e (sym (h id) ∙ t);
}

pub cut_some : (b : Bool) (s : Option Seen) (e : Seen) → (if b then None else s) ≡ Some e → (b ≡ false) × (s ≡ Some e)
cut_some true s e h = absurd (cc)
cut_some false s e h = (refl, h)

-- a set of nodes goes that holds the parents of its members but roots, and the children
pub IsTree-cut : (S T : ℕ → Option Seen) (gone : ℕ → Bool) → ((c : ℕ) → T c ≡ (if gone c then None else S c))
    → ((c p : ℕ) (d : Seen) → S c ≡ Some d → d.parent ≡ Some p → gone c ≡ true → gone p ≡ true)
    → ((c p : ℕ) (d : Seen) → S c ≡ Some d → d.parent ≡ Some p → gone p ≡ true → gone c ≡ true)
    → IsTree S → IsTree T
IsTree-cut S T gone h into onto s =
    let was = λ (c : ℕ) (e : Seen) (t : T c ≡ Some e). cut_some (gone c) (S c) e (sym (h c) ∙ t) in
    let stays = λ (c : ℕ) (e : Seen) (t : S c ≡ Some e) (g : gone c ≡ false). h c ∙ ap (λ b. if b then None else S c) g ∙ t in
    record {
      down = λ id i c e t g.
          let w = was id e t in
          let r = s.down id i c e w.1 g in
          let here : gone c ≡ false = elim (bool_cases (gone c)) [ inl y ↦ (let z = into c id r.0 r.1 r.2 y in let w0 = w.0 in absurd (cc)) | inr n ↦ n ] in
          (r.0, stays c r.0 r.1 here, r.2, r.3, r.4);
      up = λ c p d t g.
          let w = was c d t in
          let r = s.up c p d w.1 g in
          let here : gone p ≡ false = elim (bool_cases (gone p)) [ inl y ↦ (let z = onto c p d w.1 g y in let w0 = w.0 in absurd (cc)) | inr n ↦ n ] in
          (r.0, stays p r.0 r.1 here, r.2);
      shallow = λ id e t. s.shallow id e (was id e t).1;
      at_root = λ id e t. s.at_root id e (was id e t).1;
    }

-- a node of the new tree is the one that came, or was there
created_or_was : (S T : ℕ → Option Seen) (id : ℕ) (e : Seen) → T id ≡ Some e → ((c : ℕ) → c ≢ id → T c ≡ S c)
    → (c : ℕ) (d : Seen) → T c ≡ Some d → (d ≡ e) ⊎ (S c ≡ Some d)
created_or_was S T id e here others c d t = elim (nat_cases c id) [
  | inl q ↦ inl (let z : T id ≡ Some d = rw (← q) t in (cc))
  | inr n ↦ inr (sym (others c n) ∙ t)
]

-- a root without children comes
pub IsTree-root : (S T : ℕ → Option Seen) (id : ℕ) (e : Seen) → S id ≡ None → T id ≡ Some e → e.parent ≡ None
    → e.depth ≡ 0 → e.children ≡ []
    → ((c : ℕ) → c ≢ id → T c ≡ S c) → IsTree S → IsTree T
IsTree-root S T id e fresh here root depth leaf others s =
    let apart = λ (c : ℕ) (d : Seen) (t : S c ≡ Some d). let ne : c ≢ id = (λ q. let z : S id ≡ Some d = rw (← q) t in absurd (cc)) in ne in
    let kept = λ (c : ℕ) (d : Seen) (t : S c ≡ Some d). others c (apart c d t) ∙ t in
    let split = λ (c : ℕ) (d : Seen) (t : T c ≡ Some d). created_or_was S T id e here others c d t in
    record {
      down = λ n i c d t g. elim (split n d t) [
        | inl w ↦ (let z : slice_get [] i ≡ Some c = ap (λ xs. slice_get xs i) (sym leaf ∙ ap (λ (q : Seen). q.children) (sym w)) ∙ g in absurd (cc))
        | inr w ↦ (let r = s.down n i c d w g in (r.0, kept c r.0 r.1, r.2, r.3, r.4))
      ];
      up = λ c p d t g. elim (split c d t) [
        | inl w ↦ (let z : e.parent ≡ Some p = ap (λ (q : Seen). q.parent) (sym w) ∙ g in absurd (cc))
        | inr w ↦ (let r = s.up c p d w g in (r.0, kept p r.0 r.1, r.2))
      ];
      shallow = λ n d t. elim (split n d t) [
        | inl w ↦ (rw w (omega (arith, depth)))
        | inr w ↦ s.shallow n d w
      ];
      at_root = λ n d t g. elim (split n d t) [
        | inl w ↦ (rw w depth)
        | inr w ↦ s.at_root n d w g
      ];
    }
