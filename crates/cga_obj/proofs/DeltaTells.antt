-- No two instances have one text.
use Rattle.std.proofs.Common.{◌≡◌, ◌∙◌, ℕ, List, [], ◌∷◌, ◌++◌, drop, refl, sym, ap, append_assoc}
use Rattle.cga_fraction.specs.Texts.{exact_text_of}
use Rattle.cga_frame.specs.Axes.{Frame}
use Rattle.cga_frame.specs.declared.point.Point.{Point}
use Rattle.cga_shape.specs.declared.drawn.Drawn.{Drawn}
use Rattle.cga_obj.specs.DeltaLaws.{IsExact, TextTellsInstance}
use Rattle.cga_obj.specs.Delta.{axes_text, drawn_text, point_text}
use Rattle.cga_obj.specs.DeltaWords.{primitive_word}
use Rattle.cga_obj.proofs.DeltaCuts.{cut_once, name_lacks}
use Rattle.cga_obj.proofs.DeltaFields.{exact_lacks, frame_one, number_one, solid_lacks, solid_one, ways, ways_lack}

-- three numbers, and then a text
abbrev numbers : Point → List ℕ → List ℕ
numbers p r = 32 ∷ (exact_text_of p.x ++ 32 ∷ (exact_text_of p.y ++ 32 ∷ (exact_text_of p.z ++ r)))

point_then : (p : Point) (r : List ℕ) → point_text p ++ r ≡ numbers p r
unfolding point_text
point_then p r =
    let x = exact_text_of p.x in let y = exact_text_of p.y in let z = exact_text_of p.z in
    append_assoc ((((32 ∷ x) ++ 32 ∷ []) ++ y) ++ 32 ∷ []) z r
    ∙ append_assoc (((32 ∷ x) ++ 32 ∷ []) ++ y) (32 ∷ []) (z ++ r)
    ∙ append_assoc ((32 ∷ x) ++ 32 ∷ []) y (32 ∷ (z ++ r))
    ∙ append_assoc (32 ∷ x) (32 ∷ []) (y ++ 32 ∷ (z ++ r))

-- the last number has a blank behind it here
numbers_one : (p q : Point) (r s : List ℕ) → IsExact p → IsExact q → numbers p (32 ∷ r) ≡ numbers q (32 ∷ s)
    → (p ≡ q) × (r ≡ s)
numbers_one p q r s h k e =
    let x = cut_once 32 (exact_text_of p.x) (exact_text_of q.x) _ _ (exact_lacks p.x h.x) (exact_lacks q.x k.x) (ap (drop 1) e) in
    let y = cut_once 32 (exact_text_of p.y) (exact_text_of q.y) _ _ (exact_lacks p.y h.y) (exact_lacks q.y k.y) x.1 in
    let z = cut_once 32 (exact_text_of p.z) (exact_text_of q.z) _ _ (exact_lacks p.z h.z) (exact_lacks q.z k.z) y.1 in
    let same-x = number_one p.x q.x h.x k.x x.0 in
    let same-y = number_one p.y q.y h.y k.y y.0 in
    let same-z = number_one p.z q.z h.z k.z z.0 in
    ((λ i. record { x = same-x i; y = same-y i; z = same-z i }), z.1)

-- the scope, and then a text
abbrev scope_then : Drawn → List ℕ → List ℕ
scope_then d r = numbers d.scope.at (32 ∷ (ways d.scope.frame ++ numbers d.scope.size r))

abbrev spread : Drawn → List ℕ → List ℕ
spread d r = d.lot ++ 32 ∷ (d.symbol ++ 32 ∷ (primitive_word d.primitive ++ scope_then d r))

axes_then : (f : Frame) (r : List ℕ) → axes_text f ++ r ≡ 32 ∷ (ways f ++ r)
unfolding axes_text
axes_then f r = refl

inner : (d : Drawn) (r : List ℕ)
    → point_text d.scope.at ++ (axes_text d.scope.frame ++ (point_text d.scope.size ++ r)) ≡ scope_then d r
inner d r =
    ap (λ l. point_text d.scope.at ++ (axes_text d.scope.frame ++ l)) (point_then d.scope.size r)
    ∙ ap (λ l. point_text d.scope.at ++ l) (axes_then d.scope.frame (numbers d.scope.size r))
    ∙ point_then d.scope.at (32 ∷ (ways d.scope.frame ++ numbers d.scope.size r))

spread_text : (d : Drawn) (r : List ℕ) → drawn_text d ++ r ≡ spread d r
unfolding drawn_text
spread_text d r =
    let word = primitive_word d.primitive in
    let at = point_text d.scope.at in let axes = axes_text d.scope.frame in let size = point_text d.scope.size in
    let one = d.lot ++ 32 ∷ [] in let two = one ++ d.symbol in let three = two ++ 32 ∷ [] in let four = three ++ word in
    append_assoc ((four ++ at) ++ axes) size r
    ∙ append_assoc (four ++ at) axes (size ++ r)
    ∙ append_assoc four at (axes ++ (size ++ r))
    ∙ append_assoc three word (at ++ (axes ++ (size ++ r)))
    ∙ append_assoc two (32 ∷ []) (word ++ (at ++ (axes ++ (size ++ r))))
    ∙ append_assoc one d.symbol (32 ∷ (word ++ (at ++ (axes ++ (size ++ r)))))
    ∙ append_assoc d.lot (32 ∷ []) (d.symbol ++ 32 ∷ (word ++ (at ++ (axes ++ (size ++ r)))))
    ∙ ap (λ l. d.lot ++ 32 ∷ (d.symbol ++ 32 ∷ (word ++ l))) (inner d r)

pub text_tells_instance : TextTellsInstance
text_tells_instance d e h k is =
    let whole = sym (spread_text d (32 ∷ [])) ∙ ap (λ l. l ++ 32 ∷ []) is ∙ spread_text e (32 ∷ []) in
    let lot = cut_once 32 d.lot e.lot _ _ (name_lacks d.lot h.lot) (name_lacks e.lot k.lot) whole in
    let symbol = cut_once 32 d.symbol e.symbol _ _ (name_lacks d.symbol h.symbol) (name_lacks e.symbol k.symbol) lot.1 in
    let word = cut_once 32 (primitive_word d.primitive) (primitive_word e.primitive) _ _ in
    let solid = word (solid_lacks d.primitive) (solid_lacks e.primitive) symbol.1 in
    let at = numbers_one d.scope.at e.scope.at _ _ h.at k.at (ap (λ l. 32 ∷ l) solid.1) in
    let frame = cut_once 32 (ways d.scope.frame) (ways e.scope.frame) _ _ (ways_lack d.scope.frame) (ways_lack e.scope.frame) at.1 in
    let size = numbers_one d.scope.size e.scope.size [] [] h.size k.size (ap (λ l. 32 ∷ l) frame.1) in
    let same-solid = solid_one d.primitive e.primitive solid.0 in
    let same-frame = frame_one d.scope.frame e.scope.frame h.frame k.frame frame.0 in
    λ i. record {
      lot = lot.0 i;
      symbol = symbol.0 i;
      primitive = same-solid i;
      scope = record { at = at.0 i; frame = same-frame i; size = size.0 i };
    }
