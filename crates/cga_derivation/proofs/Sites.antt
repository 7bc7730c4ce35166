-- Over sites a derivation is that of a world.
use Rattle.std.proofs.Common.{◌≡◌, ℕ, zero, suc, List, [], ◌∷◌, ◌++◌, length, map, true, refl, sym, ap, ◌∙◌, subst, inl, inr, Result, Ok, Err, Some, arith, length-append}
use Rattle.std.specs.Prelude.{slice_get, slice_index}
use Rattle.std.proofs.Math.Seq.{take-length, get_or-append_seam}
use Rattle.cga_order.specs.Chain.{IsWhole, IsChild, rank}
use Rattle.cga_order.specs.declared.placed.Placed.{Placed}
use Rattle.cga_order.specs.World.{World, IsWorld, IsNew, Among}
use Rattle.cga_order.specs.World as worlds
use Rattle.cga_order.proofs.Door.{slice_get-map}
use Rattle.cga_derivation.proofs.Lists.{ok_same, err_ok}
use Rattle.cga_derivation.specs.Derivation.{Derivation, IsDerivation, place_of, rank_of, SameSeen}
use Rattle.cga_derivation.specs.Sites.{Site, fitted, sited, all_sited, chain_of, world_of}

-- a list fitted to a length has that length
pub length-fitted : (n : ℕ) (xs : List ℕ) → length (fitted n xs) ≡ n
length-fitted zero xs = refl
length-fitted (suc n) [] = let e = length-fitted n [] in omega (arith, e)
length-fitted (suc n) (x ∷ xs) = let e = length-fitted n xs in omega (arith, e)

-- a list that has the length already stays the same when it is fitted
pub fitted-same : (n : ℕ) (xs : List ℕ) → length xs ≡ n → fitted n xs ≡ xs
fitted-same zero [] e = refl
fitted-same zero (x ∷ xs) e = absurd (omega (arith, e))
fitted-same (suc n) [] e = absurd (omega (arith, e))
fitted-same (suc n) (x ∷ xs) e = ap (λ l. x ∷ l) (fitted-same n xs (omega (arith, e)))

-- what was sited
module _ {N F P : Type 0} where
  all_sited-ok : (ps : List ℕ) (r : Result (List (Placed N F P)) F) (cs : List (Placed (Site N) F P))
      → all_sited ps r ≡ Ok cs → (ds : List (Placed N F P)) × (r ≡ Ok ds) × (cs ≡ map (sited ps) ds)
  all_sited-ok ps (Ok ds) cs e = (ds, refl, sym (ok_same _ _ e))
  all_sited-ok ps (Err f) cs e = err_ok f cs e

module _ {N : Type 0} where
  abbrev rooted : N → Site N
  rooted n = record { shape = n; above = [] }

  -- where a site is among those of some roots, its shape is among the roots, and it is that root's site
  pub Among-rooted : (ns : List N) (s : Site N) → Among s (map rooted ns) → Among s.shape ns × (s ≡ rooted s.shape)
  Among-rooted [] s h = absurd h
  Among-rooted (n ∷ ns) s h = elim h [
    | inl e ↦ (inl (ap (λ x. x.shape) e), sym e ∙ ap (λ x. rooted x.shape) e)
    | inr r ↦ let w = Among-rooted ns s r in (inr w.0, w.1)
  ]

  Among-shapes : (ss : List (Site N)) (n : N) → Among n (map (λ m. m.shape) ss)
      → (s : Site N) × Among s ss × (s.shape ≡ n)
  Among-shapes [] n h = absurd h
  Among-shapes (s ∷ ss) n h = elim h [
    | inl e ↦ (s, inl refl, e)
    | inr r ↦ let w = Among-shapes ss n r in (w.0, inr w.1, w.2)
  ]

  shapes-Among : (ss : List (Site N)) (s : Site N) → Among s ss → Among s.shape (map (λ m. m.shape) ss)
  shapes-Among [] s h = absurd h
  shapes-Among (t ∷ ss) s h = elim h [
    | inl e ↦ inl (ap (λ x. x.shape) e)
    | inr r ↦ inr (shapes-Among ss s r)
  ]

module _ {N A F P : Type 0} (derivation : Derivation N A F P) where
  pub whole : (s : Site N) → IsWhole (chain_of derivation s)
  whole s =
      let front = length-fitted (length (derivation.path s.shape)) s.above in
      let size = length-append (fitted (length (derivation.path s.shape)) s.above) (derivation.priority s.shape ∷ []) in
      omega (arith, front, size)

  -- the rank of a site is that of its shape
  pub rank-site : (s : Site N) → rank (chain_of derivation s) ≡ rank_of derivation s.shape
  rank-site s =
      let path = derivation.path s.shape in
      let front = fitted (length path) s.above in
      let at : slice_index (front ++ derivation.priority s.shape ∷ []) (length path) ≡ derivation.priority s.shape =
      ap (slice_index (front ++ derivation.priority s.shape ∷ [])) (sym (length-fitted (length path) s.above)) ∙ get_or-append_seam front (derivation.priority s.shape) [] 0 in
      λ i. record { priority = at i; lot = derivation.lot s.shape; path = take-length path i }

  -- with the priorities of its parent's chain above it a child is sited below it
  pub IsChild-sited : (s : Site N) (i : ℕ) (c : N) → derivation.lot c ≡ derivation.lot s.shape
      → derivation.path c ≡ derivation.path s.shape ++ i ∷ []
      → IsChild (chain_of derivation s) i
      (chain_of derivation (record { shape = c; above = (chain_of derivation s).priorities }))
  IsChild-sited s i c lot path =
      let above = (chain_of derivation s).priorities in
      let size : length above ≡ length (derivation.path c) =
      whole s ∙ (sym (length-append (derivation.path s.shape) (i ∷ [])) ∙ ap length (sym path)) in
      record {
        lot = lot;
        path = path;
        priorities = (derivation.priority c, ap (λ l. l ++ derivation.priority c ∷ []) (fitted-same (length (derivation.path c)) above size));
      }

  module _ (laws : IsDerivation derivation) where
    SameSeen-shapes : (n : Site N) (xs ys : List (Site N)) → worlds.SameSeen (world_of derivation) n xs ys
        → SameSeen derivation n.shape (map (λ m. m.shape) xs) (map (λ m. m.shape) ys)
    SameSeen-shapes n xs ys h m sees = (
      λ a.
          let w = Among-shapes xs m a in
          let seen : derivation.sees n.shape w.0.shape ≡ true = ap (derivation.sees n.shape) w.2 ∙ sees in
          subst (λ x. Among x (map (λ m. m.shape) ys)) w.2 (shapes-Among ys w.0 ((h w.0 seen).0 w.1)),
      λ a.
          let w = Among-shapes ys m a in
          let seen : derivation.sees n.shape w.0.shape ≡ true = ap (derivation.sees n.shape) w.2 ∙ sees in
          subst (λ x. Among x (map (λ m. m.shape) xs)) w.2 (shapes-Among xs w.0 ((h w.0 seen).1 w.1)),
    )

    -- where the laws of derivations hold, the derivation over sites is a world
    pub world : IsWorld (world_of derivation)
    world = record {
      whole = whole;
      root = λ n h. laws.root n.shape (Among-rooted derivation.roots n h).0;
      roots_apart = λ i j n m h g e.
          let a = slice_get-map rooted derivation.roots i n h in
          let b = slice_get-map rooted derivation.roots j m g in
          let at-n : a.0 ≡ n.shape = ap (λ (s : Site N). s.shape) a.2 in
          let at-m : b.0 ≡ m.shape = ap (λ (s : Site N). s.shape) b.2 in
          laws.roots_apart i j a.0 b.0 a.1 b.1 (ap (place_of derivation) at-n ∙ (e ∙ sym (ap (place_of derivation) at-m)));
      child = λ s a children e i c g.
          let w = all_sited-ok (chain_of derivation s).priorities (derivation.expand s.shape a) children e in
          let at = slice_get-map (sited (chain_of derivation s).priorities) w.0 i c (subst (λ l. slice_get l i ≡ Some c) w.2 g) in
          let law = laws.child s.shape a w.0 w.1 i at.0 at.1 in (
            subst (λ (x : Placed (Site N) F P). IsChild (chain_of derivation s) i (chain_of derivation x.shape))
                at.2 (IsChild-sited s i at.0.shape law.0 law.1),
            subst (λ (x : Placed (Site N) F P). IsNew x.kind) at.2 law.2,
          );
      unseen = λ n m e. laws.unseen n.shape m.shape e;
      local = λ n existing waiting existing' waiting' e w.
          laws.local n.shape _ _ _ _ (SameSeen-shapes n existing existing' e) (SameSeen-shapes n waiting waiting' w);
    }
