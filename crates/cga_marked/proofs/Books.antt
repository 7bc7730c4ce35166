-- What the slab keeps beside its entries: the list of those that were touched, and the count of those set aside.
use Rattle.std.proofs.Common.{◌≡◌, ◌≢◌, inl, inr, ℕ, ◌+◌, ◌<◌, ◌≤◌, List, [], ◌∷◌, ◌++◌, length, length-append, Bool, true, false, refl, ap, sym, ◌∙◌, arith, subst}
use Rattle.std.specs.Prelude.{Option, Some, None, is_some, not, option_map}
use Rattle.cga_marked.specs.Count.{tally}
use Rattle.cga_marked.specs.Marked.{AreMarks, IsCalm, KeepsBooks}
use Rattle.cga_marked.specs.Slab.{slot, IsStore, Listed, OnlyTouched, Relates, passes}
use Rattle.cga_marked.proofs.Count.{bool_cases, tally_mono, tally_same, tally_none, tally_more}
use Rattle.cga_marked.proofs.Slots.{nat_cases, get_kept, get_last, relates_some, relates_passes, relates_from, books_refl, not_passes, same_again, some_map, passes_some}

-- what is the same of one slot is of all, where no other changes
same_but : {E X : Type 0} (f : Option E → X) (slots now : List (Option E)) (id : ℕ)
    → ((c : ℕ) → c ≢ id → slot now c ≡ slot slots c) → f (slot now id) ≡ f (slot slots id) → (c : ℕ)
    → f (slot now c) ≡ f (slot slots c)
same_but f slots now id others here c = elim (nat_cases c id) [
  | inl q ↦ ap (λ (i : ℕ). f (slot now i)) q ∙ here ∙ ap (λ (i : ℕ). f (slot slots i)) (sym q)
  | inr n ↦ ap f (others c n)
]

module _ {E : Type 0} {touched aside : E → Bool} {Plain : E → Type 0} {slots : List (Option E)} {list : List ℕ}
    {cap gone : ℕ} (b : IsStore touched aside Plain slots list cap gone) (now : List (Option E)) where
  pub is_listed : Listed touched Plain slots list
  is_listed id e t = elim (bool_cases (touched e)) [
    | inl y ↦ inl (b.listed id e t y)
    | inr n ↦ inr (record { untouched = n; plain = b.plain id e t n })
  ]

  -- the same is kept of each slot
  pub kept : ((c : ℕ) → Relates (KeepsBooks touched aside Plain) (slot slots c) (slot now c))
      → IsStore touched aside Plain now list cap gone
  kept h = record {
    listed = λ id e t on. let w = relates_from (KeepsBooks touched aside Plain) (slot slots id) (slot now id) e (h id) t in b.listed id w.0 w.1 (sym w.2.touches ∙ on);
    plain = λ id e t off. let w = relates_from (KeepsBooks touched aside Plain) (slot slots id) (slot now id) e (h id) t in w.2.plain off (b.plain id w.0 w.1 (sym w.2.touches ∙ off));
    counted = b.counted ∙ sym (tally_same (passes touched) refl slots now (λ c. relates_passes (KeepsBooks touched aside Plain) touched (λ x y k. k.touches) (slot slots c) (slot now c) (h c)));
    asides = b.asides ∙ sym (tally_same (passes aside) refl slots now (λ c. relates_passes (KeepsBooks touched aside Plain) aside (λ x y k. k.hides) (slot slots c) (slot now c) (h c)));
    room = let e = tally_same is_some refl slots now (λ c. relates_some (KeepsBooks touched aside Plain) (slot slots c) (slot now c) (h c)) in let r = b.room in omega arith;
  }

  -- all is swept
  module _ (calm : (id : ℕ) (e : E) → slot now id ≡ Some e → IsCalm touched Plain e) (shown : (e : E) → Plain e
      → aside e ≡ false) (fewer : (c : ℕ) → is_some (slot now c) ≡ true → is_some (slot slots c) ≡ true) where
    swept_none : (p : E → Bool) → ((e : E) → IsCalm touched Plain e → p e ≡ false) → (c : ℕ) (s : Option E)
        → slot now c ≡ s → passes p (slot now c) ≡ false
    swept_none p h c None q = ap (passes p) q
    swept_none p h c (Some e) q = ap (passes p) q ∙ h e (calm c e q)

    pub swept : IsStore touched aside Plain now [] cap 0
    swept = record {
      listed = λ id e t on. let w = (calm id e t).untouched in absurd (cc);
      plain = λ id e t off. (calm id e t).plain;
      counted = sym (tally_none (passes touched) refl now (λ c. swept_none touched (λ e w. w.untouched) c (slot now c) refl));
      asides = sym (tally_none (passes aside) refl now (λ c. swept_none aside (λ e w. shown e w.plain) c (slot now c) refl));
      room = let m = tally_mono is_some is_some refl now slots refl fewer in let r = b.room in omega arith;
    }

  -- one slot changes
  module _ (id : ℕ) (others : (c : ℕ) → c ≢ id → slot now c ≡ slot slots c) where
    still : slot now id ≡ slot slots id → IsStore touched aside Plain now list cap gone
    still h = kept (λ c. books_refl touched aside Plain (slot slots c) (slot now c) (same_but (λ s. s) slots now id others h c))

    pub some_same : is_some (slot now id) ≡ is_some (slot slots id) → tally is_some now ≡ tally is_some slots
    some_same h = tally_same is_some refl slots now (same_but is_some slots now id others h)

    pub written : Relates (KeepsBooks touched aside Plain) (slot slots id) (slot now id)
        → IsStore touched aside Plain now list cap gone
    written h = kept (λ c. elim (nat_cases c id) [
      | inl q ↦ subst (λ i. Relates (KeepsBooks touched aside Plain) (slot slots i) (slot now i)) (sym q) h
      | inr n ↦ books_refl touched aside Plain (slot slots c) (slot now c) (others c n)
    ])

    -- an entry is there that was another one or none
    module _ (y : E) (is : slot now id ≡ Some y) where
      here_is : (k : ℕ) (e : E) → k ≡ id → slot now k ≡ Some e → y ≡ e
      here_is k e q t = let z : Some y ≡ Some e = sym is ∙ ap (slot now) (sym q) ∙ t in (cc)

      -- which comes on the list
      module _ (on : touched y ≡ true) (off : passes touched (slot slots id) ≡ false) (hidden : passes aside (slot slots id) ≡ aside y) where
        pub more_touched : tally (passes touched) now ≡ tally (passes touched) slots + 1
        more_touched = tally_more (passes touched) refl slots now id off (ap (passes touched) is ∙ on) (λ c n. ap (passes touched) (others c n))

        pub listed_books : tally is_some now ≤ cap → IsStore touched aside Plain now (list ++ id ∷ []) cap gone
        listed_books fits = record {
          listed = λ k e t on2. elim (nat_cases k id) [
            | inl q ↦ (length list, get_last list id ∙ ap (λ i. Some i) (sym q))
            | inr n ↦ (let w = b.listed k e (sym (others k n) ∙ t) on2 in (w.0, get_kept list id w.0 k w.1))
          ];
          plain = λ k e t off2. elim (nat_cases k id) [
            | inl q ↦ (let w : true ≡ false = sym on ∙ ap touched (here_is k e q t) ∙ off2 in absurd (cc))
            | inr n ↦ b.plain k e (sym (others k n) ∙ t) off2
          ];
          counted = let a = more_touched in let k = b.counted in omega (arith, length-append list (id ∷ []));
          asides = b.asides ∙ sym (tally_same (passes aside) refl slots now (same_but (passes aside) slots now id others (ap (passes aside) is ∙ sym hidden)));
          room = fits;
        }

      -- which keeps nothing
      pub joined_books : tally is_some now ≤ cap → touched y ≡ false → Plain y → passes touched (slot slots id) ≡ false
          → passes aside (slot slots id) ≡ aside y → IsStore touched aside Plain now list cap gone
      joined_books fits off p was hidden = record {
        listed = λ k e t on. elim (nat_cases k id) [
          | inl q ↦ (let w : false ≡ true = sym off ∙ ap touched (here_is k e q t) ∙ on in absurd (cc))
          | inr n ↦ b.listed k e (sym (others k n) ∙ t) on
        ];
        plain = λ k e t off2. elim (nat_cases k id) [
          | inl q ↦ subst Plain (here_is k e q t) p
          | inr n ↦ b.plain k e (sym (others k n) ∙ t) off2
        ];
        counted = b.counted ∙ sym (tally_same (passes touched) refl slots now (same_but (passes touched) slots now id others (ap (passes touched) is ∙ off ∙ sym was)));
        asides = b.asides ∙ sym (tally_same (passes aside) refl slots now (same_but (passes aside) slots now id others (ap (passes aside) is ∙ sym hidden)));
        room = fits;
      }

      -- which is set aside
      module _ (x : E) (was : slot slots id ≡ Some x) (on : touched x ≡ true) (shown : aside x ≡ false) (touches : touched y ≡ touched x) (hides : aside y ≡ true) where
        pub more_aside : tally (passes aside) now ≡ tally (passes aside) slots + 1
        more_aside = tally_more (passes aside) refl slots now id (ap (passes aside) was ∙ shown) (ap (passes aside) is ∙ hides) (λ c n. ap (passes aside) (others c n))

        as_many : tally is_some now ≡ tally is_some slots
        as_many = some_same (ap is_some is ∙ sym (ap is_some was))

        pub gone_fits : gone < cap
        gone_fits =
            let a = more_aside in let e = as_many in
            let m = tally_mono (passes aside) is_some refl now now refl (λ c h. passes_some aside (slot now c) h) in
            let r = b.room in let k = b.asides in omega arith

        pub hidden_books : IsStore touched aside Plain now list cap (gone + 1)
        hidden_books = record {
          listed = λ k e t on2. elim (nat_cases k id) [
            | inl q ↦ (let w = b.listed id x was on in (w.0, w.1 ∙ ap (λ i. Some i) (sym q)))
            | inr n ↦ b.listed k e (sym (others k n) ∙ t) on2
          ];
          plain = λ k e t off. elim (nat_cases k id) [
            | inl q ↦ (let w : true ≡ false = sym on ∙ sym touches ∙ ap touched (here_is k e q t) ∙ off in absurd (cc))
            | inr n ↦ b.plain k e (sym (others k n) ∙ t) off
          ];
          counted = b.counted ∙ sym (tally_same (passes touched) refl slots now (same_but (passes touched) slots now id others (ap (passes touched) is ∙ touches ∙ sym (ap (passes touched) was))));
          asides = let a = more_aside in let k = b.asides in omega arith;
          room = let e = as_many in let r = b.room in omega arith;
        }

    -- an entry is touched, or set aside
    module _ {touching hiding : E → E} {settled rolled : E → Option E} (m : AreMarks touched aside Plain touching hiding settled rolled) where
      module _ (here : slot now id ≡ option_map touching (slot slots id)) where
        pub touch_room : tally is_some now ≡ tally is_some slots
        touch_room = some_same (ap is_some here ∙ some_map touching (slot slots id))

        pub touch_fits : passes (λ e. not (touched e)) (slot slots id) ≡ true → length list < cap
        touch_fits h =
            let w = not_passes touched (slot slots id) h in
            let a = more_touched (touching w.0) (here ∙ ap (option_map touching) w.1) (m.touches w.0) (ap (passes touched) w.1 ∙ w.2) (ap (passes aside) w.1 ∙ sym (m.touch_shows w.0)) in
            let e = touch_room in
            let l = tally_mono (passes touched) is_some refl now now refl (λ c t. passes_some touched (slot now c) t) in
            let r = b.room in let k = b.counted in omega arith

        pub touch_books : passes (λ e. not (touched e)) (slot slots id) ≡ true
            → IsStore touched aside Plain now (list ++ id ∷ []) cap gone
        touch_books h =
            let w = not_passes touched (slot slots id) h in
            let e = touch_room in let r = b.room in
            listed_books (touching w.0) (here ∙ ap (option_map touching) w.1) (m.touches w.0) (ap (passes touched) w.1 ∙ w.2) (ap (passes aside) w.1 ∙ sym (m.touch_shows w.0)) (omega arith)

        pub touch_still : passes (λ e. not (touched e)) (slot slots id) ≡ false
            → IsStore touched aside Plain now list cap gone
        touch_still h = still (here ∙ same_again touching touched m.touch_again (slot slots id) h)

      module _ (here : slot now id ≡ option_map hiding (slot slots id)) where
        pub hide_room : tally is_some now ≡ tally is_some slots
        hide_room = some_same (ap is_some here ∙ some_map hiding (slot slots id))

        pub hide_fits : OnlyTouched touched (slot slots id) → passes (λ e. not (aside e)) (slot slots id) ≡ true
            → gone < cap
        hide_fits on h = let w = not_passes aside (slot slots id) h in
            gone_fits (hiding w.0) (here ∙ ap (option_map hiding) w.1) w.0 w.1 (on w.0 w.1) w.2 (m.hide_touches w.0) (m.hides w.0)

        pub hide_books : OnlyTouched touched (slot slots id) → passes (λ e. not (aside e)) (slot slots id) ≡ true
            → IsStore touched aside Plain now list cap (gone + 1)
        hide_books on h = let w = not_passes aside (slot slots id) h in
            hidden_books (hiding w.0) (here ∙ ap (option_map hiding) w.1) w.0 w.1 (on w.0 w.1) w.2 (m.hide_touches w.0) (m.hides w.0)

        pub hide_still : passes (λ e. not (aside e)) (slot slots id) ≡ false
            → IsStore touched aside Plain now list cap gone
        hide_still h = still (here ∙ same_again hiding aside m.hide_again (slot slots id) h)
