-- Rules make worlds and edits over ranked shapes.
use Rattle.std.proofs.Common.{◌≡◌, ℕ, ◌+◌, List, [], ◌∷◌, ◌++◌, map, length, true, false, refl, sym, ap, ◌∙◌, subst, Result, Ok, Err, Some, arith, length-append}
use Rattle.std.specs.Prelude.{slice_get}
use Rattle.cga_order.specs.Chain.{IsChild}
use Rattle.cga_order.specs.World.{World, IsWorld, Among, is_instance, place_of, IsNew}
use Rattle.cga_order.specs.declared.placed.Placed.{Placed}
use Rattle.cga_order.specs.declared.placed.Kind.{Kind}
use Rattle.cga_order.specs.declared.placed.Kind.TheVariants.{Waiting, Done, Faulted, Instance}
use Rattle.cga_agenda.specs.Edit.{Edit, IsEdit, renewed}
use Rattle.cga_rework.specs.Ranked.{Ranked, last_of, with_last_from, with_last, renewed_as, placed_as, placed, all_placed, chain_of, edit_of, ranked_world}
use Rattle.cga_derivation.proofs.Door.{err_ok, fitted-same, length-fitted}
use Rattle.cga_fraction.proofs.Door.{same_Ok as ok_same}
use Rattle.cga_order.proofs.Door.{slice_get-map}
use Rattle.cga_rework.proofs.Lists.{Among-map, map-Among}
use Rattle.cga_derivation.specs.Derivation.{IsDerivation}
use Rattle.cga_rework.specs.Rules.{Shapes, Rules, derivation_of, IsRulesEdit}

with_last_from-snoc : (last own p : ℕ) (ps : List ℕ) → with_last_from last p (ps ++ own ∷ []) ≡ p ∷ (ps ++ last ∷ [])
with_last_from-snoc last own p [] = refl
with_last_from-snoc last own p (q ∷ ps) = ap (λ qs. p ∷ qs) (with_last_from-snoc last own q ps)

pub with_last-snoc : (last own : ℕ) (ps : List ℕ) → with_last last (ps ++ own ∷ []) ≡ ps ++ last ∷ []
with_last-snoc last own [] = refl
with_last-snoc last own (p ∷ ps) = with_last_from-snoc last own p ps

abbrev pub shape_of : {S : Type 0} → Ranked S → S
shape_of n = n.shape

module _ {S A B F P : Type 0} (shapes : Shapes S) where
  module _ (rules : Rules S A B F P) (are : IsDerivation (derivation_of shapes rules)) where
    abbrev world : World (Ranked S) A F P
    world = ranked_world shapes rules

    abbrev pub root_ranked : S → Ranked S
    root_ranked s = record { shape = s; priorities = rules.priority s ∷ [] }

    -- a child that is placed below these priorities
    child_of : (s : Ranked S) (i : ℕ) (own : ℕ) (e : S) → (shapes.lot e ≡ shapes.lot s.shape)
        → (shapes.path e ≡ shapes.path s.shape ++ i ∷ [])
        → IsChild (chain_of shapes s) i
        (chain_of shapes (record { shape = e; priorities = (chain_of shapes s).priorities ++ own ∷ [] }))
    child_of s i own e lot path =
        let above = length-fitted (length (shapes.path s.shape) + 1) s.priorities in
        let size = length-append (chain_of shapes s).priorities (own ∷ []) in
        let longer : length (shapes.path e) ≡ length (shapes.path s.shape) + 1 = ap length path ∙ length-append (shapes.path s.shape) (i ∷ []) in
        record { lot = lot; path = path; priorities = (own, fitted-same (length (shapes.path e) + 1) ((chain_of shapes s).priorities ++ own ∷ []) (omega (arith, above, size, longer))) }

    child_as : (s : Ranked S) (i : ℕ) (e : S) (kind : Kind F P) → IsNew kind → (shapes.lot e ≡ shapes.lot s.shape)
        → (shapes.path e ≡ shapes.path s.shape ++ i ∷ [])
        → let c : Placed (Ranked S) F P = placed_as rules.priority (chain_of shapes s).priorities e kind in IsChild
        (chain_of shapes s) i (chain_of shapes c.shape) × IsNew c.kind
    child_as s i e Waiting fresh lot path = (child_of s i (rules.priority e) e lot path, fresh)
    child_as s i e Done fresh lot path = (child_of s i (rules.priority e) e lot path, fresh)
    child_as s i e (Faulted f) fresh lot path = (child_of s i (rules.priority e) e lot path, fresh)
    child_as s i e (Instance p) fresh lot path = (child_of s i (last_of (chain_of shapes s).priorities) e lot path, fresh)

    child : (s : Ranked S) (a : A) (r : Result (List (Placed S F P)) F) → rules.expand s.shape a ≡ r
        → (cs : List (Placed (Ranked S) F P)) → all_placed rules.priority (chain_of shapes s).priorities r ≡ Ok cs
        → (i : ℕ) (c : Placed (Ranked S) F P) → slice_get cs i ≡ Some c
        → IsChild (chain_of shapes s) i (chain_of shapes c.shape) × IsNew c.kind
    child s a (Err f) e cs is i c g = err_ok f cs is
    child s a (Ok es) e cs is i c g =
        let same = ok_same (map (placed rules.priority (chain_of shapes s).priorities) es) cs is in
        let w = slice_get-map (placed rules.priority (chain_of shapes s).priorities) es i c (subst (λ x. slice_get x i ≡ Some c) (sym same) g) in
        let law = are.child s.shape a es e i w.0 w.1 in
        subst (λ (x : Placed (Ranked S) F P). IsChild (chain_of shapes s) i (chain_of shapes x.shape) × IsNew x.kind) w.2 (child_as s i w.0.shape w.0.kind law.2 law.0 law.1)

    whole : (n : Ranked S) → length (chain_of shapes n).priorities ≡ length (chain_of shapes n).path + 1
    whole n = length-fitted (length (shapes.path n.shape) + 1) n.priorities

    seen : (n : Ranked S) (xs ys : List (Ranked S))
        → ((m : Ranked S) → rules.sees n.shape m.shape ≡ true → Among m xs → Among m ys) → (t : S)
        → rules.sees n.shape t ≡ true → Among t (map shape_of xs) → Among t (map shape_of ys)
    seen n xs ys same t v h =
        let w = Among-map shape_of xs t h in
        subst (λ x. Among x (map shape_of ys)) w.2 (map-Among shape_of ys w.0 (same w.0 (subst (λ x. rules.sees n.shape x ≡ true) (sym w.2) v) w.1))

    -- where rules make a derivation, ranked shapes make a world by them
    pub is_world : IsWorld world
    is_world = record {
      whole = whole;
      root = λ n h.
          let w = Among-map root_ranked rules.roots n h in
          subst (λ (x : Ranked S). shapes.path x.shape ≡ []) w.2 (are.root w.0 w.1);
      roots_apart = λ i j n m h g e.
          let a = slice_get-map root_ranked rules.roots i n h in
          let b = slice_get-map root_ranked rules.roots j m g in
          are.roots_apart i j a.0 b.0 a.1 b.1 (ap (place_of world) a.2 ∙ (e ∙ sym (ap (place_of world) b.2)));
      child = λ s a cs e i c g. child s a (rules.expand s.shape a) refl cs e i c g;
      unseen = λ n m v. are.unseen n.shape m.shape v;
      local = λ n xs ws xs' ws' h g.
          are.local n.shape (map shape_of xs) (map shape_of ws) (map shape_of xs') (map shape_of ws')
          (λ t v. (seen n xs xs' (λ m u. (h m u).0) t v, seen n xs' xs (λ m u. (h m u).1) t v))
          (λ t v. (seen n ws ws' (λ m u. (g m u).0) t v, seen n ws' ws (λ m u. (g m u).1) t v));
    }

  module _ (old new : Rules S A B F P) where
    abbrev edit : Edit (Ranked S) A B F P
    edit = edit_of shapes old new

    renew_placed : (above : List ℕ) (s : S) (kind : Kind F P)
        → let c : Placed (Ranked S) F P = placed_as old.priority above s kind in renewed_as new.priority c.shape c.kind
        ≡ placed_as new.priority above s kind
    renew_placed above s Waiting = ap (λ ps. record { shape = record { shape = s; priorities = ps }; kind = Waiting }) (with_last-snoc (new.priority s) (old.priority s) above)
    renew_placed above s Done = ap (λ ps. record { shape = record { shape = s; priorities = ps }; kind = Done }) (with_last-snoc (new.priority s) (old.priority s) above)
    renew_placed above s (Faulted f) = ap (λ ps. record { shape = record { shape = s; priorities = ps }; kind = Faulted f }) (with_last-snoc (new.priority s) (old.priority s) above)
    renew_placed above s (Instance p) = refl

    renew_all : (above : List ℕ) (es : List (Placed S F P))
        → map (placed new.priority above) es ≡ map edit.renew (map (placed old.priority above) es)
    renew_all above [] = refl
    renew_all above (e ∷ es) = λ i. sym (renew_placed above e.shape e.kind) i ∷ renew_all above es i

    pub outcome : (above : List ℕ) (r : Result (List (Placed S F P)) F)
        → all_placed new.priority above r ≡ renewed edit.renew (all_placed old.priority above r)
    outcome above (Ok es) = ap Ok (renew_all above es)
    outcome above (Err f) = refl

    kinds : (n : Ranked S) (k : Kind F P) → let c : Placed (Ranked S) F P = renewed_as new.priority n k in c.kind ≡ k
    kinds n Waiting = refl
    kinds n Done = refl
    kinds n (Faulted f) = refl
    kinds n (Instance p) = refl

    solids : (n : Ranked S) (k : Kind F P) → is_instance k ≡ true
        → renewed_as new.priority n k ≡ record { shape = n; kind = k }
    solids n Waiting e = let x : false ≡ true = e in cc
    solids n Done e = let x : false ≡ true = e in cc
    solids n (Faulted f) e = let x : false ≡ true = e in cc
    solids n (Instance p) e = refl

    -- old and new rules that meet what an edit needs make an edit over ranked shapes
    pub make : IsRulesEdit shapes old new → IsEdit edit
    make laws = record {
      old = is_world old laws.was;
      new = is_world new laws.is;
      answers = λ n xs ws e. laws.answers n.shape (map shape_of xs) (map shape_of ws) e;
      outcome = λ n a e. ap (all_placed new.priority (chain_of shapes n).priorities) (sym (laws.outcome n.shape a e)) ∙ outcome (chain_of shapes n).priorities (old.expand n.shape a);
      kinds = λ c. kinds c.shape c.kind;
      solids = λ c e. solids c.shape c.kind e;
    }
