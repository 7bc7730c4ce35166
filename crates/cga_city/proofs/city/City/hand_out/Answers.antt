use Rattle.std.proofs.Common.{◌≡◌, ◌∙◌, ap, Err, subst, sym}
use Rattle.cga_shape.specs.declared.sources.Sources.{Sources}
use Rattle.cga_update.specs.ChangedLots.{AreChanged}
use Rattle.cga_update.specs.declared.changed_lots.ChangedLots.{ChangedLots}
use Rattle.cga_city.specs.Apply.{changed}
use Rattle.cga_city.specs.City.{Changes, CityState, IsDone}
use Rattle.cga_city.specs.Kept.{IsCity}
use Rattle.cga_city.proofs.Names.{names_differ}
use Rattle.cga_city.proofs.Differing.{are_changed}
use Rattle.cga_city.proofs.Sound.{changed_sound}
use Rattle.cga_city.proofs.Valid.{sound_valid}
use Rattle.cga_city.proofs.Deriving.{refused_gives}
use Rattle.cga_city.proofs.Kept.{done_gives, over_gives, now_within, warm_inside}
use Rattle.cga_city.proofs.city.City.hand_out.Goals as goal

pub returns-in-Err : goal.returns-in-Err
returns-in-Err g c =
    let sources_are : c.self.inside.sources ≡ c.args.self.now.sources = ap (λ (v : CityState). v.sources) c.self.view_is in
    refused_gives c.args.self.now c.args.edit c.args.expansions.now c.in-Err.refused (subst (λ (s : Sources). Changes (changed s c.args.edit) (Err c.in-Err.refused)) sources_are c.in-Err.ensures)

pub invariant_of-renewal : goal.invariant_of-renewal
invariant_of-renewal g c =
    let sound = changed_sound c.self.inside.sources c.in-Ok.edited.sources c.args.edit c.self.invariant.sound c.requires.lots c.in-Ok.ensures.0 in
    record {
      old_names = names_differ c.self.inside.sources.lots c.self.invariant.sound.names;
      names = names_differ c.in-Ok.edited.sources.lots sound.names;
      roots = (sound_valid c.in-Ok.edited.sources sound).roots;
      told = subst (λ (lots : ChangedLots). AreChanged lots c.self.inside.sources c.in-Ok.edited.sources) (sym c.in-Ok.ensures.1) (are_changed c.self.inside.sources c.in-Ok.edited.sources c.args.edit c.in-Ok.ensures.0);
    }

pub invariant_of-self : goal.invariant_of-self
invariant_of-self g c = subst (λ (s : Sources). IsCity s c.self.inside.budget c.self.inside.warm c.update.new.kept) (sym c.replace.ensures.after) (record {
  sound = changed_sound c.self.inside.sources c.in-Ok.edited.sources c.args.edit c.self.invariant.sound c.requires.lots c.in-Ok.ensures.0;
  within = now_within c.self.inside.sources c.in-Ok.edited.sources c.self.inside.budget c.in-Ok-update.count _ c.in-Ok-update.ensures.exact;
  stands = λ on. c.in-Ok-update.ensures.stands;
})

pub returns-in-Ok-update : goal.returns-in-Ok-update
returns-in-Ok-update g c =
    let former : c.self.inside.sources ≡ c.args.self.now.sources = ap (λ (v : CityState). v.sources) c.self.view_is in
    let new : Sources → CityState = λ s. record { sources = s; budget = c.self.inside.budget; warm = c.self.inside.warm; expanded = c.in-Ok-update.count; changes = c.update.new.changes } in
    let done : IsDone c.args.self.now c.args.edit (new c.in-Ok.edited.sources) c.args.expansions.now c.update.new.expansions =
    rw (← c.self.view_is) (done_gives c.self.inside.sources c.in-Ok.edited.sources c.args.edit c.self.inside.budget c.in-Ok-update.count _ _ c.self.inside.expanded c.self.inside.warm c.self.invariant.within.0 c.self.inside.changes _
    (record {
      sound = c.self.invariant.sound;
      fits = c.self.invariant.within.1;
      made = c.in-Ok.ensures.0;
      exact = c.in-Ok-update.ensures.exact;
      spent = c.in-Ok-update.ensures.spent;
      on = warm_inside _ c.args.self.now c.self.view_is c.requires.warm;
    })) in
    (c.replace.ensures.value ∙ former, subst (λ (s : Sources). IsDone c.args.self.now c.args.edit (new s) c.args.expansions.now c.update.new.expansions) (sym c.replace.ensures.after) done)

pub returns-in-Err-OverBudget : goal.returns-in-Err-OverBudget
returns-in-Err-OverBudget g c =
    let over = rw c.in-Err-OverBudget.field-0-is at c.in-Err-OverBudget.ensures.over in
    let most = rw c.in-Err-OverBudget.field-0-is at c.in-Err-OverBudget.ensures.most in
    rw (← c.self.view_is) (over_gives c.self.inside.sources c.in-Ok.edited.sources c.args.edit c.self.inside.budget _ _ c.self.inside.expanded c.self.inside.warm c.self.inside.changes c.in-Ok.ensures.0 over c.in-Err-OverBudget.ensures.counted most)
