-- The two small derivations, step by step.
use Rattle.std.proofs.Common.{◌≡◌, ℕ, zero, suc, List, [], ◌∷◌, ◌++◌, true, false, refl, sym, ap, subst, inl, inr, Result, Ok, Option, Some, None}
use Rattle.std.specs.Prelude.{slice_get}
use Rattle.std.specs.declared.cmp.Ordering.{Ordering}
use Rattle.std.specs.declared.cmp.Ordering.TheVariants.{Less, Equal, Greater}
use Rattle.cga_word.specs.declared.mode.Mode.{Mode}
use Rattle.cga_word.specs.declared.mode.Mode.TheVariants.{Breadth, Depth}
use Rattle.cga_order.specs.Rank.{rank_cmp}
use Rattle.cga_order.specs.Chain.{Chain, IsWhole, IsChild, rank}
use Rattle.cga_order.specs.World.{World, IsWorld, Placed, Kind, Waiting, Done, Has, IsNew}
use Rattle.cga_order.specs.Run.{IsStep}
use Rattle.cga_order.specs.FourShapes.{Four, a, b, c, d, waiting, done, all_done, chain_under_b, chain_under_c, children_under_b, children_under_c, world_of, FourShapesInOrder, TwoModes}

-- what makes a world of chains and children
record IsFamily (chain : Four → Chain) (children : Four → List (Placed Four ℕ ℕ)) : Type 0 where
  whole : (n : Four) → IsWhole (chain n)
  root : (chain a).path ≡ []
  child : (s : Four) (i : ℕ) (m : Placed Four ℕ ℕ) → slice_get (children s) i ≡ Some m
      → IsChild (chain s) i (chain m.shape) × IsNew m.kind

ok_same : (x y : List (Placed Four ℕ ℕ)) → ◌≡◌ {A = Result (List (Placed Four ℕ ℕ)) ℕ} (Ok x) (Ok y) → x ≡ y
ok_same x y e = cc

one_index : (i j : ℕ) (n m : Four) → slice_get (a ∷ []) i ≡ Some n → slice_get (a ∷ []) j ≡ Some m → i ≡ j
one_index zero zero n m h g = refl
one_index zero (suc j) n m h g = let x : ◌≡◌ {A = Option Four} None (Some m) = g in cc
one_index (suc i) j n m h g = let x : ◌≡◌ {A = Option Four} None (Some n) = h in cc

is_world : (mode : Mode) (chain : Four → Chain) (children : Four → List (Placed Four ℕ ℕ)) → IsFamily chain children
    → IsWorld (world_of mode chain children)
is_world mode chain children family = record {
  whole = family.whole;
  root = λ n h. elim h [ inl e ↦ subst (λ x. (chain x).path ≡ []) e family.root | inr r ↦ absurd r ];
  roots_apart = λ i j n m h g e. one_index i j n m h g;
  child = λ s answers cs e i m g. family.child s i m (subst (λ x. slice_get x i ≡ Some m) (sym (ok_same (children s) cs e)) g);
  unseen = λ n m e. let x : false ≡ true = e in cc;
  local = λ n e w e' w' h g. refl;
}

some_same : (x y : Placed Four ℕ ℕ) → ◌≡◌ {A = Option (Placed Four ℕ ℕ)} (Some x) (Some y) → x ≡ y
some_same x y e = cc

none_some : {X : Type 0} (m : Placed Four ℕ ℕ) → ◌≡◌ {A = Option (Placed Four ℕ ℕ)} None (Some m) → X
none_some m e = cc

-- a waiting child at its place
child_is : (chain : Four → Chain) (s n : Four) (i : ℕ) (m : Placed Four ℕ ℕ) → IsChild (chain s) i (chain n)
    → Some (waiting n) ≡ Some m → IsChild (chain s) i (chain m.shape) × IsNew m.kind
child_is chain s n i m h e =
    let is = some_same (waiting n) m e in
    (subst (λ x. IsChild (chain s) i (chain x)) (ap (λ x. x.shape) is) h, inl (sym (ap (λ x. x.kind) is)))

below : (parent child : Chain) (i own : ℕ) → child.lot ≡ parent.lot → child.path ≡ parent.path ++ i ∷ []
    → child.priorities ≡ parent.priorities ++ own ∷ [] → IsChild parent i child
below parent child i own lot path priorities = record { lot = lot; path = path; priorities = (own, priorities) }

under_c : IsFamily chain_under_c children_under_c
under_c = record { whole = whole; root = refl; child = child }
  where
    whole : (n : Four) → IsWhole (chain_under_c n)
    whole a = refl
    whole b = refl
    whole c = refl
    whole d = refl

    child : (s : Four) (i : ℕ) (m : Placed Four ℕ ℕ) → slice_get (children_under_c s) i ≡ Some m
        → IsChild (chain_under_c s) i (chain_under_c m.shape) × IsNew m.kind
    child a zero m e = child_is chain_under_c a b 0 m (below _ _ 0 3 refl refl refl) e
    child a (suc zero) m e = child_is chain_under_c a c 1 m (below _ _ 1 2 refl refl refl) e
    child a (suc (suc i)) m e = none_some m e
    child b i m e = none_some m e
    child c zero m e = child_is chain_under_c c d 0 m (below _ _ 0 1 refl refl refl) e
    child c (suc i) m e = none_some m e
    child d i m e = none_some m e

under_b : IsFamily chain_under_b children_under_b
under_b = record { whole = whole; root = refl; child = child }
  where
    whole : (n : Four) → IsWhole (chain_under_b n)
    whole a = refl
    whole b = refl
    whole c = refl
    whole d = refl

    child : (s : Four) (i : ℕ) (m : Placed Four ℕ ℕ) → slice_get (children_under_b s) i ≡ Some m
        → IsChild (chain_under_b s) i (chain_under_b m.shape) × IsNew m.kind
    child a zero m e = child_is chain_under_b a b 0 m (below _ _ 0 1 refl refl refl) e
    child a (suc zero) m e = child_is chain_under_b a c 1 m (below _ _ 1 1 refl refl refl) e
    child a (suc (suc i)) m e = none_some m e
    child b zero m e = child_is chain_under_b b d 0 m (below _ _ 0 1 refl refl refl) e
    child b (suc i) m e = none_some m e
    child c i m e = none_some m e
    child d i m e = none_some m e

-- each waiting member has a fact
abbrev AllWaiting : (Four → Type 0) → List (Placed Four ℕ ℕ) → Type 0
AllWaiting P [] = Unit {0}
AllWaiting P (m ∷ ms) = (m.kind ≡ Waiting → P m.shape) × AllWaiting P ms

of_all : (P : Four → Type 0) (ms : List (Placed Four ℕ ℕ)) → AllWaiting P ms → (w : Four) → Has ms w Waiting → P w
of_all P [] all w h = absurd h
of_all P (m ∷ ms) all w h = elim h [ inl e ↦ subst P e.0 (all.0 e.1) | inr r ↦ of_all P ms all.1 w r ]

is_done : {X : Type 0} → ◌≡◌ {A = Kind ℕ ℕ} Done Waiting → X
is_done e = cc

-- the shape itself, and one of greater rank
itself : ◌≡◌ {A = Ordering} Equal Less → ⊥
itself e = cc

greater : ◌≡◌ {A = Ordering} Greater Less → ⊥
greater e = cc

abbrev NotBefore : World Four ℕ ℕ ℕ → Four → Four → Type 0
NotBefore world s w = rank_cmp world.mode (rank (world.chain w)) (rank (world.chain s)) ≡ Less → ⊥

abbrev first : List (Placed Four ℕ ℕ)
first = waiting a ∷ []

abbrev second : List (Placed Four ℕ ℕ)
second = done a ∷ waiting b ∷ waiting c ∷ []

pub four_shapes : FourShapesInOrder
four_shapes =
    let world = world_of Breadth chain_under_c children_under_c in
    let third = done a ∷ waiting b ∷ done c ∷ waiting d ∷ [] in
    let fourth = done a ∷ waiting b ∷ done c ∷ done d ∷ [] in
    let one : IsStep world first second a = record { waits = inl (refl, refl); least = of_all (NotBefore world a) first (λ e. itself, tt); told = refl } in
    let two : IsStep world second third c = record {
      waits = inr (inr (inl (refl, refl)));
      least = of_all (NotBefore world c) second (λ e. is_done e, (λ e. greater, (λ e. itself, tt)));
      told = refl;
    } in
    let three : IsStep world third fourth d = record {
      waits = inr (inr (inr (inl (refl, refl))));
      least = of_all (NotBefore world d) third (λ e. is_done e, (λ e. greater, (λ e. is_done e, (λ e. itself, tt))));
      told = refl;
    } in
    let four : IsStep world fourth all_done b = record {
      waits = inr (inl (refl, refl));
      least = of_all (NotBefore world b) fourth (λ e. is_done e, (λ e. itself, (λ e. is_done e, (λ e. is_done e, tt))));
      told = refl;
    } in
    (is_world Breadth chain_under_c children_under_c under_c, (fourth, (third, (second, (first, refl, one), two), three), four))

pub two_modes : TwoModes
two_modes =
    let breadth = world_of Breadth chain_under_b children_under_b in
    let depth = world_of Depth chain_under_b children_under_b in
    let third = done a ∷ done b ∷ waiting c ∷ waiting d ∷ [] in
    let but_d = done a ∷ done b ∷ done c ∷ waiting d ∷ [] in
    let but_c = done a ∷ done b ∷ waiting c ∷ done d ∷ [] in
    let one : IsStep breadth first second a = record { waits = inl (refl, refl); least = of_all (NotBefore breadth a) first (λ e. itself, tt); told = refl } in
    let two : IsStep breadth second third b = record { waits = inr (inl (refl, refl)); least = of_all (NotBefore breadth b) second (λ e. is_done e, (λ e. itself, (λ e. greater, tt))); told = refl } in
    let three : IsStep breadth third but_d c = record {
      waits = inr (inr (inl (refl, refl)));
      least = of_all (NotBefore breadth c) third (λ e. is_done e, (λ e. is_done e, (λ e. itself, (λ e. greater, tt))));
      told = refl;
    } in
    let four : IsStep breadth but_d all_done d = record {
      waits = inr (inr (inr (inl (refl, refl))));
      least = of_all (NotBefore breadth d) but_d (λ e. is_done e, (λ e. is_done e, (λ e. is_done e, (λ e. itself, tt))));
      told = refl;
    } in
    let first_down : IsStep depth first second a = record { waits = inl (refl, refl); least = of_all (NotBefore depth a) first (λ e. itself, tt); told = refl } in
    let second_down : IsStep depth second third b = record {
      waits = inr (inl (refl, refl));
      least = of_all (NotBefore depth b) second (λ e. is_done e, (λ e. itself, (λ e. greater, tt)));
      told = refl;
    } in
    let third_down : IsStep depth third but_c d = record {
      waits = inr (inr (inr (inl (refl, refl))));
      least = of_all (NotBefore depth d) third (λ e. is_done e, (λ e. is_done e, (λ e. greater, (λ e. itself, tt))));
      told = refl;
    } in
    let fourth_down : IsStep depth but_c all_done c = record {
      waits = inr (inr (inl (refl, refl)));
      least = of_all (NotBefore depth c) but_c (λ e. is_done e, (λ e. is_done e, (λ e. itself, (λ e. is_done e, tt))));
      told = refl;
    } in
    record {
      breadth = (is_world Breadth chain_under_b children_under_b under_b, (but_d, (third, (second, (first, refl, one), two), three), four));
      depth = (is_world Depth chain_under_b children_under_b under_b, (but_c, (third, (second, (first, refl, first_down), second_down), third_down), fourth_down));
    }
