-- A map from the stamps of the waiting members: its least key is that of the next member.
use Rattle.std.proofs.Common.{◌≡◌, ℕ, zero, suc, ◌+◌, List, [], ◌∷◌, ◌++◌, length, map, true, false, cond, refl, sym, ap, ◌∙◌, subst, ◌⊎◌, inl, inr, Some, arith}
use Rattle.std.specs.Prelude.{slice_get, slice_set}
use Rattle.std.specs.List.{All}
use Rattle.std.specs.declared.cmp.Ordering.{Ordering}
use Rattle.std.specs.declared.cmp.Ordering.TheVariants.{Less, Equal, Greater}
use Rattle.std.specs.Ordering.{match_ordering}
use Rattle.std.specs.Map.{keys_of}
use Rattle.std.specs.BTreeMap.{insert_entry}
use Rattle.std.specs.BTreeMap.Range.{IsLtBy}
use Rattle.std.proofs.lemmas.Cmp.{tied_itself}
use lib.Pointwise.{bytes_decides}
use Rattle.cga_word.specs.declared.mode.Mode.{Mode}
use Rattle.cga_order.specs.Chain.{Chain}
use Rattle.cga_order.specs.Stamp.{stamp_cmp}
use Rattle.cga_order.specs.declared.placed.Placed.{Placed}
use Rattle.cga_order.specs.declared.placed.Kind.{Kind}
use Rattle.cga_order.specs.declared.placed.Kind.TheVariants.{Waiting}
use Rattle.cga_order.specs.World.{Has, Among, IsEarlier, stamp_of}
use Rattle.cga_order.specs.Run as run
use Rattle.cga_order.proofs.Door as steps
use Rattle.cga_order.specs.Total.{stamp_total}
use Rattle.cga_order.proofs.Door.{Among-All, Has-index, slice_get-Has, slice_get-append, slice_get-map, slice_get-within, stamps-place}
use Rattle.std.proofs.lemmas.Bool.{cases_Bool as either}
use Rattle.cga_derivation.proofs.Lists.{some_same, none_some}
use Rattle.cga_derivation.specs.Derivation.{Derivation, place_of, same_place, become, AllApart}
use Rattle.cga_derivation.specs.Sites.{Site, chain_of, world_of, next_site, SitesApart}
use Rattle.cga_derivation.specs.Turns.{HasWaiting}
use Rattle.cga_derivation.proofs.Along.{both}
use Rattle.cga_derivation.proofs.Least.{next-is, both_make}
use Rattle.cga_fraction.proofs.Door.{slice_get-append_left, slice_get-map_Some}

module _ {X : Type 0} where
  pub slice_get-seam : (xs ys : List X) (x : X) → slice_get (xs ++ x ∷ ys) (length xs) ≡ Some x
  slice_get-seam [] ys x = refl
  slice_get-seam (z ∷ xs) ys x = slice_get-seam xs ys x

module _ {K X : Type 0} (cmp : K → K → Ordering) where
  -- what is among the entries after an insertion
  Among-inserted : (k : K) (v : X) (es : List (K × X)) (q : K) (w : X)
      → ((a : K) (b : X) → Among (a, b) es → cmp k a ≡ Equal → ⊥) → Among (q, w) (insert_entry cmp es k v)
      → (◌≡◌ {A = K × X} (k, v) (q, w)) ⊎ Among (q, w) es
  Among-inserted k v [] q w new h = elim h [ inl e ↦ inl e | inr r ↦ absurd r ]
  Among-inserted k v (e ∷ es) q w new h = elim (cmp k e.0) as (λ o. cmp k e.0 ≡ o
      → Among (q, w) (match_ordering o ((k, v) ∷ e ∷ es) ((e.0, v) ∷ es) (e ∷ insert_entry cmp es k v))
      → (◌≡◌ {A = K × X} (k, v) (q, w)) ⊎ Among (q, w) (e ∷ es)) [
        | Less ↦ λ c g. elim g [ inl a ↦ inl a | inr r ↦ inr r ]
        | Equal ↦ λ c g. absurd (new e.0 e.1 (inl refl) c)
        | Greater ↦ λ c g. elim g [
          | inl a ↦ inr (inl a)
          | inr r ↦ elim (Among-inserted k v es q w (λ a b i. new a b (inr i)) r) [ inl a ↦ inl a | inr b ↦ inr (inr b) ]
        ]
      ] refl h

  inserted-Among : (k : K) (v : X) (es : List (K × X)) → ((a : K) (b : X) → Among (a, b) es → cmp k a ≡ Equal → ⊥)
      → Among (k, v) (insert_entry cmp es k v)
  inserted-Among k v [] new = inl refl
  inserted-Among k v (e ∷ es) new = elim (cmp k e.0) as (λ o. cmp k e.0 ≡ o → Among (k, v) (match_ordering o ((k, v) ∷ e ∷ es) ((e.0, v) ∷ es) (e ∷ insert_entry cmp es k v))) [
    | Less ↦ λ c. inl refl
    | Equal ↦ λ c. absurd (new e.0 e.1 (inl refl) c)
    | Greater ↦ λ c. inr (inserted-Among k v es (λ a b i. new a b (inr i)))
  ] refl

  kept-Among : (k : K) (v : X) (es : List (K × X)) (q : K) (w : X)
      → ((a : K) (b : X) → Among (a, b) es → cmp k a ≡ Equal → ⊥) → Among (q, w) es
      → Among (q, w) (insert_entry cmp es k v)
  kept-Among k v [] q w new h = absurd h
  kept-Among k v (e ∷ es) q w new h = elim (cmp k e.0) as (λ o. cmp k e.0 ≡ o → Among (q, w) (match_ordering o ((k, v) ∷ e ∷ es) ((e.0, v) ∷ es) (e ∷ insert_entry cmp es k v))) [
    | Less ↦ λ c. inr h
    | Equal ↦ λ c. absurd (new e.0 e.1 (inl refl) c)
    | Greater ↦ λ c. elim h [ inl a ↦ inl a | inr r ↦ inr (kept-Among k v es q w (λ a b i. new a b (inr i)) r) ]
  ] refl

module _ {N A F P : Type 0} (derivation : Derivation N A F P) where
  abbrev Members : Type 0
  Members = List (Placed (Site N) F P)

  -- where the test for one place is true, the places are equal
  pub same_place-is : (n m : N) → same_place derivation n m ≡ true → place_of derivation n ≡ place_of derivation m
  same_place-is n m e =
      let parts = both _ _ e in
      λ i. ((bytes_decides (derivation.lot n) (derivation.lot m)).0 parts.0 i, (bytes_decides (derivation.path n) (derivation.path m)).0 parts.1 i)

  same_place-make : (n m : N) → place_of derivation n ≡ place_of derivation m → same_place derivation n m ≡ true
  same_place-make n m e =
      both_make _ _ ((bytes_decides (derivation.lot n) (derivation.lot m)).1 (ap (λ p. p.0) e)) ((bytes_decides (derivation.path n) (derivation.path m)).1 (ap (λ p. p.1) e))

  same_place-not : (n m : N) → (place_of derivation n ≡ place_of derivation m → ⊥) → same_place derivation n m ≡ false
  same_place-not n m h = elim (either (same_place derivation n m)) [ inl t ↦ absurd (h (same_place-is n m t)) | inr f ↦ f ]

  become-there : (s : N) (k : Kind F P) (m : Placed N F P) → place_of derivation m.shape ≡ place_of derivation s
      → become derivation s k m ≡ record { shape = m.shape; kind = k }
  become-there s k m e = ap (λ b. cond b (record { shape = m.shape; kind = k }) m) (same_place-make m.shape s e)

  become-elsewhere : (s : N) (k : Kind F P) (m : Placed N F P)
      → (place_of derivation m.shape ≡ place_of derivation s → ⊥) → become derivation s k m ≡ m
  become-elsewhere s k m e = ap (λ b. cond b (record { shape = m.shape; kind = k }) m) (same_place-not m.shape s e)

  becomes-none : (s : N) (k : Kind F P) (xs : List (Placed N F P))
      → ((j : ℕ) (n : Placed N F P) → slice_get xs j ≡ Some n → place_of derivation n.shape ≡ place_of derivation s → ⊥)
      → map (become derivation s k) xs ≡ xs
  becomes-none s k [] h = refl
  becomes-none s k (x ∷ xs) h = λ i. become-elsewhere s k x (h 0 x refl) i ∷ becomes-none s k xs (λ j n e. h (suc j) n e) i

  becomes-set : (s : N) (k : Kind F P) (xs : List (Placed N F P)) (i : ℕ) (m : Placed N F P) → slice_get xs i ≡ Some m
      → place_of derivation m.shape ≡ place_of derivation s
      → ((j : ℕ) (n : Placed N F P) → slice_get xs j ≡ Some n → place_of derivation n.shape ≡ place_of derivation s
      → j ≡ i)
      → map (become derivation s k) xs ≡ slice_set xs i (record { shape = m.shape; kind = k })
  becomes-set s k [] i m e at h = none_some m e
  becomes-set s k (x ∷ xs) zero m e at h =
      let is = some_same x m e in
      let here : become derivation s k x ≡ record { shape = m.shape; kind = k } = ap (become derivation s k) is ∙ become-there s k m at in
      let rest = becomes-none s k xs (λ j n f same. let z : suc j ≡ 0 = h (suc j) n f same in absurd (omega (arith, z))) in
      λ t. here t ∷ rest t
  becomes-set s k (x ∷ xs) (suc i) m e at h =
      let here = become-elsewhere s k x (λ same. let z : 0 ≡ suc i = h 0 x refl same in absurd (omega (arith, z))) in
      let rest = becomes-set s k xs i m e at (λ j n f same. let z : suc j ≡ suc i = h (suc j) n f same in omega (arith, z)) in
      λ t. here t ∷ rest t

  -- what one place of a list becomes is what is written there
  pub become-set : (list : List (Placed N F P)) (i : ℕ) (m : Placed N F P) (k : Kind F P) → AllApart derivation list
      → slice_get list i ≡ Some m
      → map (become derivation m.shape k) list ≡ slice_set list i (record { shape = m.shape; kind = k })
  become-set list i m k apart e = becomes-set m.shape k list i m e refl (λ j n f same. apart j i n m f e same)

  module _ {K : Type 0} (mode_of : K → Mode) (key_chain : K → Chain) (cmp : K → K → Ordering) (agrees : (a b : K)
      → mode_of a ≡ derivation.mode → mode_of b ≡ derivation.mode → cmp a b ≡ stamp_cmp derivation.mode (key_chain a) (key_chain b)) where
    abbrev HasKeys : Members → List (K × ℕ) → Type 0
    HasKeys C es = HasWaiting derivation mode_of key_chain C es

    -- two keys compare as the stamps of their members
    agrees-at : (a b : K) (n m : Site N) → mode_of a ≡ derivation.mode → mode_of b ≡ derivation.mode
        → key_chain a ≡ chain_of derivation n → key_chain b ≡ chain_of derivation m
        → cmp a b ≡ stamp_cmp derivation.mode (chain_of derivation n) (chain_of derivation m)
    agrees-at a b n m p q c d = agrees a b p q ∙ (λ i. stamp_cmp derivation.mode (c i) (d i))

    -- the least key is that of the next member
    pub key-next : (C : Members) → steps.IsOrdered (world_of derivation) C → (k : K) (i : ℕ) (es : List (K × ℕ))
        → HasKeys C ((k, i) ∷ es) → All (IsLtBy cmp k) (keys_of es)
        → (m : Placed (Site N) F P) × (slice_get C i ≡ Some m) × (m.kind ≡ Waiting)
        × (key_chain k ≡ chain_of derivation m.shape) × (next_site derivation C ≡ Some m)
    key-next C good k i es has above =
        let w = has.entry k i (inl refl) in
        let m = w.1.0 in
        let was : Has C m.shape Waiting = subst (Has C m.shape) w.1.2 (slice_get-Has C i m w.1.1) in
        (m, w.1.1, w.1.2, w.1.3, next-is derivation C good m was (least m w.1.1 w.0 w.1.3) w.1.2)
      where
        least : (m : Placed (Site N) F P) → slice_get C i ≡ Some m → mode_of k ≡ derivation.mode
            → key_chain k ≡ chain_of derivation m.shape → (s : Site N) → Has C s Waiting
            → steps.SamePlace (world_of derivation) s m.shape
            ⊎ IsEarlier (world_of derivation) (stamp_of (world_of derivation) m.shape)
            (stamp_of (world_of derivation) s)
        least m at mode chain s h =
            let p = Has-index C s Waiting h in
            let key = has.waits p.0 p.1 p.2 p.4 in
            elim key.1 [
              | inl e ↦
                  let index : i ≡ p.0 = ap (λ x. x.1) e in
                  let one = some_same m p.1 (sym at ∙ (ap (slice_get C) index ∙ p.2)) in
                  inl (ap (λ (x : Site N). place_of derivation x.shape) (sym p.3 ∙ ap (λ (x : Placed (Site N) F P). x.shape) (sym one)))
              | inr r ↦
                  let less = Among-All (IsLtBy cmp k) es key.0 p.0 above r in
                  let w = has.entry key.0 p.0 (inr r) in
                  let one = some_same w.1.0 p.1 (sym w.1.1 ∙ p.2) in
                  let chains : key_chain key.0 ≡ chain_of derivation s = w.1.3 ∙ ap (chain_of derivation) (ap (λ (x : Placed (Site N) F P). x.shape) one ∙ p.3) in
                  inr (sym (agrees-at k key.0 m.shape s mode w.0 chain chains) ∙ less)
            ]

    become-site : (s : Site N) (kind : Kind F P) (m : Placed (Site N) F P)
        → (place_of derivation m.shape.shape ≡ place_of derivation s.shape → ⊥)
        → run.become (world_of derivation) s kind m ≡ m
    become-site s kind m e = ap (λ b. cond b (record { shape = m.shape; kind = kind }) m) (same_place-not m.shape.shape s.shape e)

    become-kind : (s : Site N) (kind : Kind F P) (m : Placed (Site N) F P)
        → place_of derivation m.shape.shape ≡ place_of derivation s.shape
        → (run.become (world_of derivation) s kind m).kind ≡ kind
    become-kind s kind m e = ap (λ b. (cond b (record { shape = m.shape; kind = kind }) m).kind) (same_place-make m.shape.shape s.shape e)

    -- without its key, where its member waits no more
    pub key-pop : (C : Members) → SitesApart derivation C → (k : K) (i : ℕ) (es : List (K × ℕ))
        → HasKeys C ((k, i) ∷ es) → All (IsLtBy cmp k) (keys_of es) → (m : Placed (Site N) F P) → slice_get C i ≡ Some m
        → (kind : Kind F P) → (kind ≡ Waiting → ⊥) → HasKeys (map (run.become (world_of derivation) m.shape kind) C) es
    key-pop C apart k i es has above m at kind done = record {
      entry = λ q j h.
          let w = has.entry q j (inr h) in
          let other : place_of derivation w.1.0.shape.shape ≡ place_of derivation m.shape.shape → ⊥ =
          (λ same. let index : j ≡ i = apart j i w.1.0 m w.1.1 at same in clash q j h index) in
          let stays = become-site m.shape kind w.1.0 other in
          (w.0, (w.1.0, slice_get-map_Some (run.become (world_of derivation) m.shape kind) C j w.1.0 w.1.1 ∙ ap Some stays, w.1.2, w.1.3));
      waits = λ j n e wait.
          let w = slice_get-map (run.become (world_of derivation) m.shape kind) C j n e in
          elim (either (same_place derivation w.0.shape.shape m.shape.shape)) [
            | inl t ↦
                let now : n.kind ≡ kind = sym (ap (λ (x : Placed (Site N) F P). x.kind) w.2) ∙ become-kind m.shape kind w.0 (same_place-is w.0.shape.shape m.shape.shape t) in
                absurd (done (sym now ∙ wait))
            | inr f ↦
                let apart_here : place_of derivation w.0.shape.shape ≡ place_of derivation m.shape.shape → ⊥ =
                (λ same. let x : false ≡ true = sym f ∙ same_place-make w.0.shape.shape m.shape.shape same in cc) in
                let was : w.0 ≡ n = sym (become-site m.shape kind w.0 apart_here) ∙ w.2 in
                let key = has.waits j w.0 w.1 (ap (λ (x : Placed (Site N) F P). x.kind) was ∙ wait) in
                elim key.1 [
                  | inl e ↦
                      let index : i ≡ j = ap (λ x. x.1) e in
                      let one = some_same m w.0 (sym at ∙ (ap (slice_get C) index ∙ w.1)) in
                      absurd (apart_here (ap (λ (x : Placed (Site N) F P). place_of derivation x.shape.shape) (sym one)))
                  | inr r ↦ (key.0, r)
                ]
          ];
    }
      where
        clash : (q : K) (j : ℕ) → Among (q, j) es → j ≡ i → ⊥
        clash q j h index =
            let less = Among-All (IsLtBy cmp k) es q j above h in
            let a = has.entry k i (inl refl) in
            let b = has.entry q j (inr h) in
            let one = some_same b.1.0 a.1.0 (sym b.1.1 ∙ (ap (slice_get C) index ∙ a.1.1)) in
            let chains : key_chain q ≡ chain_of derivation a.1.0.shape = b.1.3 ∙ ap (λ (x : Placed (Site N) F P). chain_of derivation x.shape) one in
            let tie = agrees-at k q a.1.0.shape a.1.0.shape a.0 b.0 a.1.3 chains ∙ tied_itself (stamp_total derivation.mode) (chain_of derivation a.1.0.shape) in
            let x : Less ≡ Equal = sym less ∙ tie in
            cc

    -- with the key of one more member, which waits
    pub key-push : (C : Members) (x : Placed (Site N) F P) → SitesApart derivation (C ++ x ∷ []) → (es : List (K × ℕ))
        → HasKeys C es → x.kind ≡ Waiting → (k : K) → mode_of k ≡ derivation.mode
        → key_chain k ≡ chain_of derivation x.shape → HasKeys (C ++ x ∷ []) (insert_entry cmp es k (length C))
    key-push C x apart es has wait k mode chain = record {
      entry = λ q j h. elim (Among-inserted cmp k (length C) es q j new h) [
        | inl e ↦ (
          ap mode_of (sym (ap (λ p. p.0) e)) ∙ mode,
          (x, subst (λ n. slice_get (C ++ x ∷ []) n ≡ Some x) (ap (λ p. p.1) e) (slice_get-seam C [] x), wait, ap key_chain (sym (ap (λ p. p.0) e)) ∙ chain),
        )
        | inr r ↦ let w = has.entry q j r in (w.0, (w.1.0, slice_get-append_left C (x ∷ []) j w.1.0 w.1.1, w.1.2, w.1.3))
      ];
      waits = λ j n e w. elim (slice_get-append C (x ∷ []) j n e) [
        | inl a ↦ let key = has.waits j n a.1 w in (key.0, kept-Among cmp k (length C) es key.0 j new key.1)
        | inr b ↦ (k, subst (λ n. Among (k, n) (insert_entry cmp es k (length C))) (sym (b.1 ∙ last b.0 n b.2)) (inserted-Among cmp k (length C) es new))
      ];
    }
      where
        last : (i : ℕ) (n : Placed (Site N) F P) → slice_get (x ∷ []) i ≡ Some n → length C + i ≡ length C
        last zero n e = omega arith
        last (suc i) n e = none_some n e

        new : (a : K) (b : ℕ) → Among (a, b) es → cmp k a ≡ Equal → ⊥
        new a b h e =
            let w = has.entry a b h in
            let tie = sym (agrees-at k a x.shape w.1.0.shape mode w.0 chain w.1.3) ∙ e in
            let same = stamps-place derivation.mode (chain_of derivation x.shape) (chain_of derivation w.1.0.shape) tie in
            let index = apart (length C) b x w.1.0 (slice_get-seam C [] x) (slice_get-append_left C (x ∷ []) b w.1.0 w.1.1) same in
            let within = slice_get-within C b w.1.0 w.1.1 in
            omega (arith, index, within)

    -- with one more member that doesn't wait
    pub key-skip : (C : Members) (x : Placed (Site N) F P) → (es : List (K × ℕ)) → HasKeys C es → (x.kind ≡ Waiting → ⊥)
        → HasKeys (C ++ x ∷ []) es
    key-skip C x es has done = record {
      entry = λ q j h. let w = has.entry q j h in (w.0, (w.1.0, slice_get-append_left C (x ∷ []) j w.1.0 w.1.1, w.1.2, w.1.3));
      waits = λ j n e w. elim (slice_get-append C (x ∷ []) j n e) [
        | inl a ↦ has.waits j n a.1 w
        | inr b ↦ last b.0 n b.2 w
      ];
    }
      where
        last : {Y : Type 0} (i : ℕ) (n : Placed (Site N) F P) → slice_get (x ∷ []) i ≡ Some n → n.kind ≡ Waiting → Y
        last zero n e w = absurd (done (ap (λ (y : Placed (Site N) F P). y.kind) (some_same x n e) ∙ w))
        last (suc i) n e w = none_some n e
