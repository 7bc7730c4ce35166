-- What a city draws of lots, each of which has its own.
use Rattle.std.proofs.Common.{◌≡◌, ℕ, List, [], ◌∷◌, ◌++◌, ◌∙◌, ap, refl, sym, subst}
use Rattle.std.specs.List.{AllByRecursion, flat_map}
use Rattle.cga_shape.specs.declared.drawn.Drawn.{Drawn}
use Rattle.cga_city.specs.City.{CityState}
use Rattle.cga_city.specs.Derived.{members}
use Rattle.cga_city.specs.Order.{members_of}
use Rattle.cga_city.specs.Reports.{drawn_in, drawn_of}
use Rattle.cga_city.proofs.Door.{one_drawn, own_drawn, stands}
use Rattle.cga_expand.specs.Children.{Member}
use Rattle.cga_top.specs.Prints.{in_lots}
use Rattle.cga_top.proofs.LotTexts.{EachOwn}

first_own : (lot : List ℕ) (lots : List (List ℕ)) (list : List Member)
    → drawn_in (lot ∷ lots) list ≡ flat_map drawn_of (members_of lot list) ++ drawn_in lots list
unfolding drawn_in
first_own lot lots list = refl

pub each_own : (city : CityState) → EachOwn (in_lots city)
each_own city =
    let list = members city.budget city.sources in
    record {
      more = λ lot lots. first_own lot lots list ∙ ap (λ (own : List Drawn). own ++ drawn_in lots list) (sym (one_drawn lot list));
      own = λ lot. subst (AllByRecursion (λ (d : Drawn). d.lot ≡ lot)) (sym (one_drawn lot list)) (own_drawn lot list);
      stands = λ lots. stands lots list;
    }
