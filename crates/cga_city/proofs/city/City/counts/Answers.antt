use Rattle.std.proofs.Common.{◌∙◌, arith}
use Rattle.std.proofs.lemmas.List.Sums.{count_by-le-length}
use Rattle.cga_order.specs.World.{is_instance}
use Rattle.cga_city.specs.Derived.{members}
use Rattle.cga_city.specs.Reports.{is_faulted}
use Rattle.cga_city.proofs.Kept.{few_there, has_members, warm_inside}
use Rattle.cga_city.proofs.Shown.{kinds_counted, nodes_counted}
use Rattle.cga_city.proofs.city.City.counts.Goals as goal

pub overflow_cast-result-2 : goal.overflow_cast-result-2
overflow_cast-result-2 c =
    let is = c.self.inside in
    let has = has_members is.sources is.budget is.warm is.kept c.self.invariant (warm_inside _ c.args.self.now c.self.view_is c.requires) in
    let all = c.count.ensures ∙ nodes_counted is.kept.forest c.laws.ensures _ has in
    let few = few_there is.sources is.budget is.warm is.kept c.self.invariant in
    omega arith

pub overflow_cast-result-3 : goal.overflow_cast-result-3
overflow_cast-result-3 c =
    let is = c.self.inside in
    let has = has_members is.sources is.budget is.warm is.kept c.self.invariant (warm_inside _ c.args.self.now c.self.view_is c.requires) in
    let all = c.instances.ensures ∙ kinds_counted is.kept.forest c.laws.ensures _ has is_instance in
    let few = few_there is.sources is.budget is.warm is.kept c.self.invariant in
    let part = count_by-le-length (λ m. is_instance m.kind) (members is.budget is.sources) in
    omega arith

pub overflow_cast-result-4 : goal.overflow_cast-result-4
overflow_cast-result-4 c =
    let is = c.self.inside in
    let has = has_members is.sources is.budget is.warm is.kept c.self.invariant (warm_inside _ c.args.self.now c.self.view_is c.requires) in
    let all = c.faults.ensures ∙ kinds_counted is.kept.forest c.laws.ensures _ has is_faulted in
    let few = few_there is.sources is.budget is.warm is.kept c.self.invariant in
    let part = count_by-le-length (λ m. is_faulted m.kind) (members is.budget is.sources) in
    omega arith

pub returns-clause-shapes : goal.returns-clause-shapes
returns-clause-shapes c =
    let is = c.self.inside in
    let has = has_members is.sources is.budget is.warm is.kept c.self.invariant (warm_inside _ c.args.self.now c.self.view_is c.requires) in
    rw (← c.self.view_is) (c.count.ensures ∙ nodes_counted is.kept.forest c.laws.ensures _ has)

pub returns-clause-instances : goal.returns-clause-instances
returns-clause-instances c =
    let is = c.self.inside in
    let has = has_members is.sources is.budget is.warm is.kept c.self.invariant (warm_inside _ c.args.self.now c.self.view_is c.requires) in
    rw (← c.self.view_is) (c.instances.ensures ∙ kinds_counted is.kept.forest c.laws.ensures _ has is_instance)

pub returns-clause-faults : goal.returns-clause-faults
returns-clause-faults c =
    let is = c.self.inside in
    let has = has_members is.sources is.budget is.warm is.kept c.self.invariant (warm_inside _ c.args.self.now c.self.view_is c.requires) in
    rw (← c.self.view_is) (c.faults.ensures ∙ kinds_counted is.kept.forest c.laws.ensures _ has is_faulted)
