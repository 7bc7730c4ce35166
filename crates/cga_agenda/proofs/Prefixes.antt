-- A shape is kept where each prefix of its path is.
use Rattle.std.proofs.Common.{◌≡◌, ℕ, zero, suc, ◌+◌, ◌-◌, ◌≤◌, ◌<◌, List, [], ◌∷◌, length, take, refl, sym, ap, ◌∙◌, ◌⊎◌, inl, inr, arith, length-append}
use Rattle.std.proofs.Math.Seq.{take-length}
use Rattle.std.proofs.lemmas.List.{take-append-le}
use Rattle.cga_order.specs.Chain.{IsChild}
use Rattle.cga_order.specs.declared.placed.Placed.{Placed}
use Rattle.cga_order.specs.Run.{Reached}
use Rattle.cga_order.proofs.Door as steps
use Rattle.cga_agenda.specs.Edit.{Edit, IsEdit, new_world, NonInstance, KeptAt, Kept}

last_or_less : (i n : ℕ) → i ≤ n → (i ≡ n) ⊎ (i < n)
last_or_less i n h = elim (zero_or (n - i)) [ inl e ↦ inl (omega (arith, e, h)) | inr e ↦ inr (omega (arith, e)) ]
  where
    zero_or : (d : ℕ) → (d ≡ 0) ⊎ (0 < d)
    zero_or zero = inl refl
    zero_or (suc d) = inr (omega arith)

module _ {N A B F P : Type 0} (edit : Edit N A B F P) where
  -- kept, said by prefixes: each prefix of the path, itself included, names a non-instance of both
  -- lists, as the same shape with the same priorities
  abbrev pub KeptByPrefix : List (Placed N F P) → List (Placed N F P) → N → Type 0
  KeptByPrefix old new n =
      NonInstance old n × NonInstance new n
      × ((i : ℕ) → i ≤ length (edit.chain n).path
      → (m : N) × ((edit.chain m).lot ≡ (edit.chain n).lot)
      × ((edit.chain m).path ≡ take i (edit.chain n).path) × NonInstance old m × NonInstance new m)

module _ {N A B F P : Type 0} (edit : Edit N A B F P) (laws : IsEdit edit) (old new : List (Placed N F P)) (taken : List N) (run : Reached (new_world edit) taken new) where
  good : steps.IsOrdered (new_world edit) new
  good = steps.in_order (new_world edit) laws.new taken new run

  abbrev Named : N → ℕ → Type 0
  Named n i =
      (m : N) × ((edit.chain m).lot ≡ (edit.chain n).lot) × ((edit.chain m).path ≡ take i (edit.chain n).path) × NonInstance old m × NonInstance new m

  both : (depth : ℕ) (n : N) → KeptAt edit old new depth n → NonInstance old n × NonInstance new n
  both zero n h = (h.0, h.1)
  both (suc depth) n h = (h.0, h.1)

  itself : (n : N) (i : ℕ) → NonInstance old n → NonInstance new n → i ≡ length (edit.chain n).path → Named n i
  itself n i was is e = (n, refl, sym (ap (λ j. take j (edit.chain n).path) e ∙ take-length (edit.chain n).path), was, is)

  size : (p n : N) (i : ℕ) → IsChild (edit.chain p) i (edit.chain n)
      → length (edit.chain n).path ≡ length (edit.chain p).path + 1
  size p n i child = ap length child.path ∙ length-append (edit.chain p).path (i ∷ [])

  prefix_up : (p n : N) (j i : ℕ) → IsChild (edit.chain p) j (edit.chain n) → i ≤ length (edit.chain p).path
      → take i (edit.chain n).path ≡ take i (edit.chain p).path
  prefix_up p n j i child le = ap (take i) child.path ∙ take-append-le i (edit.chain p).path (j ∷ []) le

  named : (depth : ℕ) (n : N) → KeptAt edit old new depth n → (i : ℕ) → i ≤ length (edit.chain n).path → Named n i
  named zero n h i le =
      let none : length (edit.chain n).path ≡ 0 = ap length h.2 in
      itself n i h.0 h.1 (omega (arith, le, none))
  named (suc depth) n h i le = elim (last_or_less i (length (edit.chain n).path) le) [
    | inl e ↦ itself n i h.0 h.1 e
    | inr lt ↦
        let p = h.2 in
        let within : i ≤ length (edit.chain p.0).path = omega (arith, lt, size p.0 n p.1 p.2) in
        let m = named depth p.0 p.3 i within in
        (m.0, m.1 ∙ sym p.2.lot, m.2 ∙ sym (prefix_up p.0 n p.1 i p.2 within), m.3, m.4)
  ]

  -- where a shape is kept, it and a shape at each prefix of its path in its lot are non-instances of both lists
  pub to_prefixes : (n : N) → Kept edit old new n → KeptByPrefix edit old new n
  to_prefixes n h = let b = both h.0 n h.1 in (b.0, b.1, named h.0 n h.1)
