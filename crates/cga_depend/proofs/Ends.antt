-- Lists of attributes that share what stands at both ends agree where what stands between agrees.
use Rattle.std.proofs.Common.{◌≡◌, ℕ, List, [], ◌∷◌, ◌++◌, refl, sym, ap, ◌∙◌, cond, Bool, true, false, Some, None}
use Rattle.std.proofs.lemmas.List.{append-nil, append_assoc}
use Rattle.std.specs.Prelude.{Option, find}
use Rattle.std.specs.Option.{option_map}
use Rattle.cga_fraction.specs.Rat.{Rat}
use Rattle.cga_rule.specs.declared.grammar.Attribute.{Attribute}
use Rattle.cga_rule.specs.declared.grammar.Group.{Group}
use Rattle.cga_expr.specs.Names.{attribute_of, same_name}
use Rattle.cga_depend.specs.Agreement.{AgreeOn}
use Rattle.cga_depend.specs.Ends.{AreApart}

pub apart_itself : (xs ys : List Attribute) → AreApart xs ys xs ys
apart_itself xs ys = record { front = []; back = []; old_is = sym (append-nil xs); new_is = sym (append-nil ys) }

pub apart_behind : (a b : Attribute) (xs ys m n : List Attribute) → a ≡ b → AreApart xs ys m n
    → AreApart (a ∷ xs) (b ∷ ys) m n
apart_behind a b xs ys m n same apart = record {
  front = a ∷ apart.front;
  back = apart.back;
  old_is = ap (λ l. a ∷ l) apart.old_is;
  new_is = λ i. sym same i ∷ apart.new_is i;
}

behind_end : (front mid back more : List Attribute)
    → (front ++ (mid ++ back)) ++ more ≡ front ++ (mid ++ (back ++ more))
behind_end front mid back more =
    append_assoc front (mid ++ back) more ∙ ap (λ l. front ++ l) (append_assoc mid back more)

pub apart_before : (a b : Attribute) (xs ys m n : List Attribute) → a ≡ b → AreApart xs ys m n
    → AreApart (xs ++ a ∷ []) (ys ++ b ∷ []) m n
apart_before a b xs ys m n same apart = record {
  front = apart.front;
  back = apart.back ++ a ∷ [];
  old_is = ap (λ l. l ++ a ∷ []) apart.old_is ∙ behind_end apart.front m apart.back (a ∷ []);
  new_is = (λ i. apart.new_is i ++ sym same i ∷ []) ∙ behind_end apart.front n apart.back (a ∷ []);
}

within : (front mid back inner_front inner inner_back : List Attribute) → mid ≡ inner_front ++ (inner ++ inner_back)
    → front ++ (mid ++ back) ≡ (front ++ inner_front) ++ (inner ++ (inner_back ++ back))
within front mid back inner_front inner inner_back is =
    ap (λ l. front ++ (l ++ back)) is
    ∙ ap (λ l. front ++ l) (behind_end inner_front inner inner_back back)
    ∙ sym (append_assoc front inner_front (inner ++ (inner_back ++ back)))

pub apart_within : (old new m n k l : List Attribute) → AreApart old new m n → AreApart m n k l → AreApart old new k l
apart_within old new m n k l outer inner = record {
  front = outer.front ++ inner.front;
  back = inner.back ++ outer.back;
  old_is = outer.old_is ∙ within outer.front m outer.back inner.front k inner.back inner.old_is;
  new_is = outer.new_is ∙ within outer.front n outer.back inner.front l inner.back inner.new_is;
}

-- ---- values

abbrev first_of : Option Rat → Option Rat → Option Rat
first_of None other = other
first_of (Some x) other = Some x

value_next : (a : Attribute) (rest one : Option Attribute) (more : Option Rat) (b : Bool)
    → option_map (λ (x : Attribute). x.value) rest ≡ first_of (option_map (λ (x : Attribute). x.value) one) more
    → option_map (λ (x : Attribute). x.value) (cond b (Some a) rest)
    ≡ first_of (option_map (λ (x : Attribute). x.value) (cond b (Some a) one)) more
value_next a rest one more true h = refl
value_next a rest one more false h = h

value_along : (name : List ℕ) (xs ys : List Attribute)
    → attribute_of (xs ++ ys) name ≡ first_of (attribute_of xs name) (attribute_of ys name)
value_along name [] ys = refl
value_along name (a ∷ xs) ys =
    value_next a (find (λ (x : Attribute). same_name x.name name) (xs ++ ys)) (find (λ (x : Attribute). same_name x.name name) xs) (attribute_of ys name) (same_name a.name name)
    (value_along name xs ys)

along_both : (name : List ℕ) (front mid back : List Attribute)
    → attribute_of (front ++ (mid ++ back)) name
    ≡ first_of (attribute_of front name) (first_of (attribute_of mid name) (attribute_of back name))
along_both name front mid back =
    value_along name front (mid ++ back) ∙ ap (first_of (attribute_of front name)) (value_along name mid back)

pub agree_apart : (rules : Option Group) (old new m n : List Attribute) → AreApart old new m n → AgreeOn rules m n
    → AgreeOn rules old new
agree_apart rules old new m n apart agree name is =
    ap (λ l. attribute_of l name) apart.old_is
    ∙ along_both name apart.front m apart.back
    ∙ ap (λ v. first_of (attribute_of apart.front name) (first_of v (attribute_of apart.back name))) (agree name is)
    ∙ sym (along_both name apart.front n apart.back)
    ∙ ap (λ l. attribute_of l name) (sym apart.new_is)
