-- Numbers that are taken stay so while a mark stands.
use Rattle.std.proofs.Common.{◌≡◌, ◌≢◌, ℕ, List, Bool, true, false, inl, inr, refl, ap, sym, ◌∙◌}
use Rattle.std.specs.Prelude.{Option, Some, None, IsSome, is_some}
use Rattle.cga_forest.specs.declared.slot_entry.SlotEntry.{SlotEntry}
use Rattle.cga_kept_hulls.specs.declared.hulls.Hulls.{Hulls}
use Rattle.cga_forest.specs.declared.node.Node.{Node}
use Rattle.cga_forest.specs.Numbers.{StaysTaken}
use Rattle.cga_forest.specs.View.{Seen, present_of, hulls_of, rehulled, flag_if}
use Rattle.cga_forest.specs.Tree.{IsPlaced}
use Rattle.cga_fraction.proofs.Door.{eq_or_ne as nat_cases}

-- ---- what keeps slots taken

pub rehulled_there : (x y : Option SlotEntry) (h : Hulls) → hulls_of y ≡ rehulled h (hulls_of x) → is_some y ≡ is_some x
rehulled_there None None h e = refl
rehulled_there None (Some y) h e = absurd (cc)
rehulled_there (Some x) None h e = absurd (cc)
rehulled_there (Some x) (Some y) h e = refl

same_hulls_there : (x y : Option SlotEntry) → hulls_of y ≡ hulls_of x → is_some y ≡ is_some x
same_hulls_there None None e = refl
same_hulls_there None (Some y) e = absurd (cc)
same_hulls_there (Some x) None e = absurd (cc)
same_hulls_there (Some x) (Some y) e = refl

flag_there : (b : Bool) (x : Option SlotEntry) → is_some (flag_if b x) ≡ is_some x
flag_there false x = refl
flag_there true None = refl
flag_there true (Some e) = refl

-- one slot's hulls change
pub there_but : (old new : ℕ → Option SlotEntry) (id : ℕ) → ((c : ℕ) → c ≢ id → new c ≡ old c)
    → is_some (new id) ≡ is_some (old id) → (c : ℕ) → is_some (new c) ≡ is_some (old c)
there_but old new id others here c = elim (nat_cases c id) [
  | inl same ↦ ap (λ (n : ℕ). is_some (new n)) same ∙ here ∙ ap (λ (n : ℕ). is_some (old n)) (sym same)
  | inr other ↦ ap is_some (others c other)
]

-- the entries while a node's children are replaced: some are set aside, some come, its content changes, and then hulls do
pub record AreReplaced (old dropped placed written last : ℕ → Option SlotEntry) (id depth : ℕ) (marking : Bool) (olds : List ℕ) (news : List Node) (made : List ℕ) (goes : ℕ → Bool) : Type 0 where
  pub cut : (c : ℕ) → dropped c ≡ flag_if (goes c) (old c)
  pub placing : IsPlaced dropped placed id depth marking olds news made
  pub others : (c : ℕ) → c ≢ id → written c ≡ placed c
  pub here : hulls_of (written id) ≡ hulls_of (placed id)
  pub all : (c : ℕ) → is_some (last c) ≡ is_some (written c)

-- a number that is taken stays so
abbrev pub StayThere : (ℕ → Option SlotEntry) → (ℕ → Option SlotEntry) → Type 0
StayThere old last = (c : ℕ) → IsSome (old c) → IsSome (last c)

pub kept_taken : (old dropped placed written last : ℕ → Option SlotEntry) (id depth : ℕ) (marking : Bool)
    (olds : List ℕ)
    (news : List Node) (made : List ℕ) (goes : ℕ → Bool)
    → AreReplaced old dropped placed written last id depth marking olds news made goes → StayThere old last
kept_taken old dropped placed written last id depth marking olds news made goes are c there =
    let aside : is_some (dropped c) ≡ true = ap is_some (are.cut c) ∙ flag_there (goes c) (old c) ∙ there in
    are.all c ∙ there_but placed written id are.others (same_hulls_there (placed id) (written id) are.here) c ∙ stays (dropped c) refl aside
  where
    stays : (x : Option SlotEntry) → dropped c ≡ x → is_some x ≡ true → is_some (placed c) ≡ true
    stays None e h = absurd (cc)
    stays (Some x) e h = ap is_some (are.placing.rest c x e)

-- ---- numbers

pub taken_same : (old new : ℕ → Option SlotEntry) → ((c : ℕ) → new c ≡ old c) → (c : ℕ) → StaysTaken (old c) (new c)
taken_same old new same c there = (ap is_some (same c) ∙ there, λ none. ap present_of (same c) ∙ none)

-- a number that wasn't taken is given to a node
pub taken_added : (old new : ℕ → Option SlotEntry) (id : ℕ) → old id ≡ None → ((c : ℕ) → c ≢ id → new c ≡ old c)
    → (c : ℕ)
    → StaysTaken (old c) (new c)
taken_added old new id vacant others c there = elim (nat_cases c id) [
  | inl same ↦ absurd (let e : old c ≡ None = ap old same ∙ vacant in let f : is_some (old c) ≡ false = ap is_some e in cc)
  | inr other ↦ (ap is_some (others c other) ∙ there, λ none. ap present_of (others c other) ∙ none)
]

-- nodes are set aside
pub taken_cut : (b : Bool) (x : Option SlotEntry) → StaysTaken x (flag_if b x)
taken_cut false x there = (there, λ none. none)
taken_cut true None there = absurd (cc)
taken_cut true (Some e) there = (refl, λ none. refl)

-- nodes are set aside, and others come under numbers that weren't taken
pub taken_replaced : (old new : ℕ → Option SlotEntry) → ((c : ℕ) → IsSome (old c) → IsSome (new c))
    → ((c : ℕ) (d : Seen) → present_of (old c) ≡ None → present_of (new c) ≡ Some d → old c ≡ None)
    → (c : ℕ) → StaysTaken (old c) (new c)
taken_replaced old new kept vacant c there = (kept c there, λ none. gone (present_of (new c)) refl none)
  where
    gone : (o : Option Seen) → present_of (new c) ≡ o → present_of (old c) ≡ None → present_of (new c) ≡ None
    gone None e none = e
    gone (Some d) e none = absurd (let v : old c ≡ None = vacant c d none e in let f : is_some (old c) ≡ false = ap is_some v in cc)
