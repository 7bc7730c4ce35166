-- What is below a node, and flags.
use Rattle.std.proofs.Common.{◌≡◌, ◌≢◌, ℕ, zero, suc, ◌+◌, ◌-◌, ◌≤◌, ◌<◌, List, [], ◌∷◌, length, Bool, true, false, ◌||◌, refl, ap, sym, ◌∙◌, arith, take, nat_eq, eq-eqb, get_or}
use Rattle.std.specs.List.{list_any}
use Rattle.std.proofs.lemmas.Bool.{ne_eqb}
use Rattle.std.proofs.lemmas.List.Folds.{list_any_more}
use Rattle.std.proofs.lemmas.List.{take_all}
use Rattle.std.proofs.lemmas.Option.{get_or_from_slice_get, slice_get_cases}
use Rattle.std.proofs.Common.{inl, inr}
use Rattle.std.specs.Prelude.{slice_get, Option, Some, None}
use Rattle.cga_forest.specs.declared.slot_entry.SlotEntry.{SlotEntry}
use Rattle.cga_forest.specs.declared.node_change.NodeChange.{NodeChange}
use Rattle.cga_forest.specs.declared.node.Node.{Node}
use Rattle.cga_forest.specs.NodeChange.{is_listed}
use Rattle.cga_forest.specs.View.{kids, flag_if}
use Rattle.cga_forest.specs.Tree.{under, stay_of}
pub use Rattle.cga_fraction.proofs.Door.{or-false as or_false}
use Rattle.cga_fraction.proofs.Door.{lt-length_from_slice_get_nat as slice_get_in, eq_or_ne}

pub any_ext : {X : Type 0} (p q : X → Bool) → ((x : X) → p x ≡ q x) → (xs : List X) → list_any p xs ≡ list_any q xs
any_ext p q h [] = refl
any_ext p q h (x ∷ xs) = rw (h x, any_ext p q h xs) refl

pub under_ext : (a b : ℕ → List ℕ) → ((d : ℕ) → a d ≡ b d) → (n id c : ℕ) → under a n id c ≡ under b n id c
unfolding under
under_ext a b h zero id c = refl
under_ext a b h (suc n) id c = rw (h id) (ap (λ t. nat_eq id c || t) (any_ext (λ k. under a n k c) (λ k. under b n k c) (λ k. under_ext a b h n k c) (b id)))

pub under_zero : (a : ℕ → List ℕ) (n id c : ℕ) → n ≤ 0 → under a n id c ≡ false
unfolding under
under_zero a zero id c h = refl
under_zero a (suc n) id c h = absurd (omega arith)

-- What is below a node is the node, or below one of its children.
pub under_step : (a : ℕ → List ℕ) (n id c : ℕ) → 0 < n
    → under a n id c ≡ (nat_eq id c || list_any (λ k. under a (n - 1) k c) (a id))
unfolding under
under_step a zero id c h = absurd (omega arith)
under_step a (suc n) id c h = let e : suc n - 1 ≡ n = omega arith in rw e refl

pub kids_flag : (b : Bool) (s : Option SlotEntry) → kids (flag_if b s) ≡ kids s
kids_flag false s = refl
kids_flag true None = refl
kids_flag true (Some e) = refl

pub flag_flag : (a b : Bool) (s : Option SlotEntry) → flag_if b (flag_if a s) ≡ flag_if (a || b) s
flag_flag false b s = refl
flag_flag true false s = refl
flag_flag true true None = refl
flag_flag true true (Some e) = refl

pub any_take_all : {X : Type 0} (p : X → Bool) (xs : List X) (n : ℕ) → length xs ≤ n
    → list_any p (take n xs) ≡ list_any p xs
any_take_all p xs n h = rw (take_all n xs h) refl

slice_get_out : (xs : List ℕ) (i : ℕ) → slice_get xs i ≡ None → length xs ≤ i
slice_get_out xs i h = elim (slice_get_cases xs i).1 [ inl w ↦ (cc) | inr w ↦ w.0 ]

-- one more child in a walk over the children
pub any_take_next : (p : ℕ → Bool) (xs : List ℕ) (i k : ℕ) → slice_get xs i ≡ Some k
    → list_any p (take (i + 1) xs) ≡ (list_any p (take i xs) || p k)
any_take_next p xs i k h = list_any_more p xs i k (slice_get_in xs i k h) ∙ ap (λ y. list_any p (take i xs) || p y) (get_or_from_slice_get xs i k k h)

pub any_take_none : (p : ℕ → Bool) (xs : List ℕ) (i : ℕ) → slice_get xs i ≡ None
    → list_any p (take (i + 1) xs) ≡ list_any p (take i xs)
any_take_none p xs i h = let out : length xs ≤ i = slice_get_out xs i h in rw (take_all i xs out, take_all (i + 1) xs (omega arith)) refl

pub or_assoc : (a b c : Bool) → ((a || b) || c) ≡ (a || (b || c))
or_assoc false b c = refl
or_assoc true b c = refl

-- a step of the walk that sets aside: what the child's call flags, on top of what is flagged so far
pub flags_next : (ch : ℕ → List ℕ) (old now new : ℕ → Option SlotEntry) (n id i k : ℕ) → slice_get (ch id) i ≡ Some k
    → ((d : ℕ) → kids (old d) ≡ ch d)
    → ((c : ℕ) → now c ≡ flag_if (nat_eq id c || list_any (λ k. under ch n k c) (take i (ch id))) (old c))
    → ((c : ℕ) → new c ≡ flag_if (under (λ d. kids (now d)) n k c) (now c))
    → (c : ℕ) → new c ≡ flag_if (nat_eq id c || list_any (λ k. under ch n k c) (take (i + 1) (ch id))) (old c)
flags_next ch old now new n id i k at same h called c =
    let p = λ (j : ℕ). under ch n j c in
    let done = nat_eq id c || list_any p (take i (ch id)) in
    let e1 : under (λ d. kids (now d)) n k c ≡ under ch n k c = under_ext (λ d. kids (now d)) ch (λ d. ap kids (h d) ∙ kids_flag _ (old d) ∙ same d) n k c in
    called c ∙ ap (λ b. flag_if b (now c)) e1 ∙ ap (flag_if (under ch n k c)) (h c)
    ∙ flag_flag done (under ch n k c) (old c)
    ∙ ap (λ b. flag_if b (old c)) (or_assoc (nat_eq id c) (list_any p (take i (ch id))) (under ch n k c)
    ∙ ap (λ b. nat_eq id c || b) (sym (any_take_next p (ch id) i k at)))

pub flags_none : (ch : ℕ → List ℕ) (old now : ℕ → Option SlotEntry) (n id i : ℕ) → slice_get (ch id) i ≡ None
    → ((c : ℕ) → now c ≡ flag_if (nat_eq id c || list_any (λ k. under ch n k c) (take i (ch id))) (old c))
    → (c : ℕ) → now c ≡ flag_if (nat_eq id c || list_any (λ k. under ch n k c) (take (i + 1) (ch id))) (old c)
flags_none ch old now n id i at h c = h c ∙ ap (λ b. flag_if (nat_eq id c || b) (old c)) (sym (any_take_none (λ k. under ch n k c) (ch id) i at))

pub stay_flag : (b : Bool) (s : Option SlotEntry) (w : Option Node) → stay_of (flag_if b s) w ≡ stay_of s w
stay_flag false s w = refl
stay_flag true None w = refl
stay_flag true (Some e) w = refl

-- one flag more, on top of what is flagged so far
pub flag_one : (old now new : ℕ → Option SlotEntry) (test : ℕ → Bool) (k : ℕ)
    → ((c : ℕ) → now c ≡ flag_if (test c) (old c))
    → new k ≡ flag_if true (now k) → ((c : ℕ) → c ≢ k → new c ≡ now c)
    → (c : ℕ) → new c ≡ flag_if (test c || nat_eq k c) (old c)
flag_one old now new test k so_far here others c = elim (eq_or_ne c k) [
  | inl q ↦ (
      let told : nat_eq k c ≡ true = eq-eqb k c (sym q) in
      ap new q ∙ here ∙ ap (flag_if true) (so_far k) ∙ flag_flag (test k) true (old k)
      ∙ ap (λ d. flag_if (test d || true) (old d)) (sym q) ∙ ap (λ b. flag_if (test c || b) (old c)) (sym told))
  | inr n ↦ (
      let told : nat_eq k c ≡ false = ne_eqb k c (λ q. n (sym q)) in
      others c n ∙ so_far c ∙ ap (λ b. flag_if b (old c)) (sym (or_false (test c))) ∙ ap (λ b. flag_if (test c || b) (old c)) (sym told))
]

-- one node more of a list
pub listed_more : (list : List NodeChange) (i c : ℕ) (m : NodeChange) → i < length list → m ≡ get_or list i m
    → (is_listed (take i list) c || nat_eq m.id c) ≡ is_listed (take (i + 1) list) c
listed_more list i c m here is =
    ap (λ (x : NodeChange). is_listed (take i list) c || nat_eq x.id c) is
    ∙ sym (list_any_more (λ (x : NodeChange). nat_eq x.id c) list i m here)
