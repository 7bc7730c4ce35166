-- A lot in the place of the one of its name, and where the lots stand then.
use Rattle.std.proofs.Common.{◌≡◌, ℕ, suc, ◌+◌, ◌<◌, Bool, true, false, cond, List, [], ◌∷◌, ◌++◌, length, Option, Some, None, refl, ap, sym, ◌∙◌, arith, if◌then◌else◌, true≢false}
use Rattle.std.specs.BTreeMap.{BTreeMap, Updates, get}
use Rattle.std.specs.Cmp.Lexicographic.{slice_cmp, texts_ties}
use Rattle.std.specs.Map.{lookup}
use Rattle.std.specs.Ordering.{is_eq, nat_cmp}
use Rattle.std.specs.Prelude.{slice_set}
use Rattle.cga_syntax.specs.Lexemes.{is}
use Rattle.cga_shape.specs.declared.lot.Lot.{Lot}
use Rattle.cga_script.specs.CityLines.{with_lot}
use Rattle.cga_script.specs.Places.{ArePlaces, further_by, lot_index}
use Rattle.cga_fraction.proofs.Door.{eq_from_pointwise as name_sound, pointwise-same as name_own}

abbrev here_or : Bool → Option ℕ → Option ℕ
here_or t o = if t then Some 0 else further_by 1 o

set_further : (lot l : Lot) (ls more : List Lot) (o : Option ℕ) (i : ℕ) → further_by 1 o ≡ Some i
    → ((j : ℕ) → o ≡ Some j → slice_set ls j lot ≡ more) → slice_set (l ∷ ls) i lot ≡ l ∷ more
set_further lot l ls more None i e h = absurd (cc)
set_further lot l ls more (Some j) i e h =
    let q : 1 + j ≡ i = cc in
    let p : i ≡ suc j = omega (arith, q) in
    ap (λ n. slice_set (l ∷ ls) n lot) p ∙ ap (λ z. l ∷ z) (h j refl)

set_here : (lot l : Lot) (ls : List Lot) (i : ℕ) → ◌≡◌ {A = Option ℕ} (Some 0) (Some i)
    → slice_set (l ∷ ls) i lot ≡ lot ∷ ls
set_here lot l ls i e = let q : 0 ≡ i = cc in ap (λ n. slice_set (l ∷ ls) n lot) (sym q)

set_by : (lot l : Lot) (ls more : List Lot) (o : Option ℕ) (i : ℕ) (t : Bool) → here_or t o ≡ Some i
    → ((j : ℕ) → o ≡ Some j → slice_set ls j lot ≡ more) → slice_set (l ∷ ls) i lot ≡ (if t then lot ∷ ls else l ∷ more)
set_by lot l ls more o i true e h = set_here lot l ls i e
set_by lot l ls more o i false e h = set_further lot l ls more o i e h

pub placed : (lot : Lot) (lots : List Lot) (i : ℕ) → lot_index lot.name lots ≡ Some i
    → slice_set lots i lot ≡ with_lot lot lots
unfolding lot_index with_lot
placed lot [] i e = absurd (cc)
placed lot (l ∷ ls) i e = set_by lot l ls (with_lot lot ls) (lot_index lot.name ls) i (is l.name lot.name) e (λ j q. placed lot ls j q)

none_by : (lot l : Lot) (ls more : List Lot) (o : Option ℕ) (t : Bool) → here_or t o ≡ None
    → (o ≡ None → ls ++ lot ∷ [] ≡ more) → l ∷ (ls ++ lot ∷ []) ≡ (if t then lot ∷ ls else l ∷ more)
none_by lot l ls more o true e h = absurd (cc)
none_by lot l ls more None false e h = ap (λ z. l ∷ z) (h refl)
none_by lot l ls more (Some j) false e h = absurd (cc)

pub behind : (lot : Lot) (lots : List Lot) → lot_index lot.name lots ≡ None → lots ++ lot ∷ [] ≡ with_lot lot lots
unfolding lot_index with_lot
behind lot [] e = refl
behind lot (l ∷ ls) e = none_by lot l ls (with_lot lot ls) (lot_index lot.name ls) (is l.name lot.name) e (λ q. behind lot ls q)

within_by : (n : ℕ) (o : Option ℕ) (i : ℕ) (t : Bool) → here_or t o ≡ Some i → ((j : ℕ) → o ≡ Some j → j < n)
    → i < suc n
within_by n o i true e h = let q : 0 ≡ i = cc in omega (arith, q)
within_by n None i false e h = absurd (cc)
within_by n (Some j) i false e h = let q : 1 + j ≡ i = cc in omega (arith, q, h j refl)

pub within : (name : List ℕ) (lots : List Lot) (i : ℕ) → lot_index name lots ≡ Some i → i < length lots
unfolding lot_index
within name [] i e = absurd (cc)
within name (l ∷ ls) i e = within_by (length ls) (lot_index name ls) i (is l.name name) e (λ j q. within name ls j q)

-- ---- where the lots stand, once one is put

not_both : (a b c : List ℕ) → is a b ≡ false → is a c ≡ true → is b c ≡ true → ⊥
not_both a b c f p q =
    let s : a ≡ b = name_sound a c p ∙ sym (name_sound b c q) in
    absurd (true≢false (sym (name_own a) ∙ (ap (is a) s ∙ f)))

replaced_by : (lot l : Lot) (ls more : List Lot) (name : List ℕ) (i : ℕ) (o : Option ℕ) (t : Bool)
    → is l.name lot.name ≡ t → here_or t o ≡ Some i → ((j : ℕ) → o ≡ Some j → lot_index name more ≡ lot_index name ls)
    → lot_index name (if t then lot ∷ ls else l ∷ more) ≡ here_or (is l.name name) (lot_index name ls)
unfolding lot_index
replaced_by lot l ls more name i o true t e h = ap (λ n. here_or (is n name) (lot_index name ls)) (sym (name_sound l.name lot.name t))
replaced_by lot l ls more name i None false t e h = absurd (cc)
replaced_by lot l ls more name i (Some j) false t e h = ap (here_or (is l.name name)) (h j refl)

replaced : (lot : Lot) (lots : List Lot) (i : ℕ) → lot_index lot.name lots ≡ Some i → (name : List ℕ)
    → lot_index name (with_lot lot lots) ≡ lot_index name lots
unfolding lot_index with_lot
replaced lot [] i e name = absurd (cc)
replaced lot (l ∷ ls) i e name = replaced_by lot l ls (with_lot lot ls) name i (lot_index lot.name ls) (is l.name lot.name) refl e (λ j q. replaced lot ls j q name)

here_both : (a b : Bool) (n : ℕ) (r : Option ℕ) → (a ≡ true → b ≡ true → ⊥)
    → here_or a (cond b (Some n) r) ≡ cond b (Some (suc n)) (here_or a r)
here_both true true n r h = absurd (h refl refl)
here_both true false n r h = refl
here_both false true n r h = let e : 1 + n ≡ suc n = omega arith in ap Some e
here_both false false n r h = refl

appended_by : (lot l : Lot) (ls : List Lot) (name : List ℕ) (t : Bool) (o : Option ℕ) → is l.name lot.name ≡ t
    → here_or t o ≡ None
    → (o ≡ None → lot_index name (ls ++ lot ∷ []) ≡ cond (is lot.name name) (Some (length ls)) (lot_index name ls))
    → here_or (is l.name name) (lot_index name (ls ++ lot ∷ [])) ≡ cond (is lot.name name) (Some (suc (length ls)))
    (here_or (is l.name name) (lot_index name ls))
appended_by lot l ls name true o t e h = absurd (cc)
appended_by lot l ls name false (Some j) t e h = absurd (cc)
appended_by lot l ls name false None t e h =
    ap (here_or (is l.name name)) (h refl) ∙ here_both (is l.name name) (is lot.name name) (length ls) (lot_index name ls) (λ p q. not_both l.name lot.name name t p q)

appended : (lot : Lot) (lots : List Lot) → lot_index lot.name lots ≡ None → (name : List ℕ)
    → lot_index name (lots ++ lot ∷ []) ≡ cond (is lot.name name) (Some (length lots)) (lot_index name lots)
unfolding lot_index
appended lot [] e name = refl
appended lot (l ∷ ls) e name = appended_by lot l ls name (is l.name lot.name) (lot_index lot.name ls) refl e (λ q. appended lot ls q name)

-- they stay where a lot takes the place of the one of its name
pub same_places : (lot : Lot) (lots : List Lot) (places : BTreeMap (List ℕ) ℕ) (i : ℕ)
    → lot_index lot.name lots ≡ Some i
    → ArePlaces places lots → ArePlaces places (slice_set lots i lot)
same_places lot lots places i e are = λ name. are name ∙ (sym (replaced lot lots i e name) ∙ ap (lot_index name) (sym (placed lot lots i e)))

-- there is one more where its name is new
pub one_more_place : (lot : Lot) (lots : List Lot) (old new : BTreeMap (List ℕ) ℕ) → lot_index lot.name lots ≡ None
    → ArePlaces old lots → Updates (slice_cmp nat_cmp) old new lot.name (Some (length lots))
    → ArePlaces new (lots ++ lot ∷ [])
one_more_place lot lots old new none are updates = λ name.
    updates.0 name
    ∙ (ap (λ b. cond b (Some (length lots)) (get (slice_cmp nat_cmp) old name)) (sym (texts_ties lot.name name))
    ∙ (ap (cond (is lot.name name) (Some (length lots))) (are name) ∙ sym (appended lot lots none name)))

pub no_places : (lots : List Lot) (places : BTreeMap (List ℕ) ℕ) → lots ≡ [] → places.entries ≡ []
    → ArePlaces places lots
unfolding lot_index
no_places lots places l p = λ name. ap (λ es. lookup (λ k. is_eq (slice_cmp nat_cmp name k)) es) p ∙ ap (lot_index name) (sym l)
