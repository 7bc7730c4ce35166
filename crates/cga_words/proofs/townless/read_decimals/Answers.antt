use Rattle.std.proofs.Common.{◌≡◌, ◌∙◌, inl, inr, ap, sym, ℕ, Some, None, Result, Ok, Err, true}
use Rattle.std.specs.Prelude.{unwrap_or}
use Rattle.cga_words.specs.declared.wanted.Wanted.{Wanted}
use Rattle.cga_words.specs.declared.words_fault.WordsFault.{WordsFault}
use Rattle.cga_words.specs.declared.words_fault.WordsFault.TheVariants.{NoMemory}
use Rattle.cga_words.proofs.townless.read_decimals.Goals as goal

pub returns-in-Err-clause-plain : goal.returns-in-Err-clause-plain
returns-in-Err-clause-plain c = λ name decimals few words.
    elim (c.in-Err.ensures.plain name true decimals None (record { decimals_fit = few; town_some = tt; town_fits = tt }) words) [
      | inl bad ↦ absurd (cc)
      | inr is ↦ let same : c.in-Err.fault ≡ NoMemory = cc in inr (ap (λ (w : WordsFault). let r : Result ℕ WordsFault = Err w in r) same)
    ]

pub returns-in-None-clause-plain : goal.returns-in-None-clause-plain
returns-in-None-clause-plain c = λ name decimals few words.
    elim (c.in-Ok.ensures.plain name true decimals None (record { decimals_fit = few; town_some = tt; town_fits = tt }) words) [
      | inl is ↦ let same : c.in-Ok.wanted ≡ record { decimals = unwrap_or decimals 6; town = None } = cc in inl (ap (λ (w : Wanted). let r : Result ℕ WordsFault = Ok w.decimals in r) same)
      | inr bad ↦ absurd (cc)
    ]

pub returns-in-Some-clause-plain : goal.returns-in-Some-clause-plain
returns-in-Some-clause-plain c = λ name decimals few words.
    elim (c.in-Ok.ensures.plain name true decimals None (record { decimals_fit = few; town_some = tt; town_fits = tt }) words) [
      | inl is ↦
          let same : c.in-Ok.wanted ≡ record { decimals = unwrap_or decimals 6; town = None } = cc in
          let town : c.in-Ok.wanted.town ≡ None = ap (λ (w : Wanted). w.town) same in
          absurd (let bad : Some c.in-Some.field-0 ≡ None = sym c.in-Some.is ∙ town in cc)
      | inr bad ↦ absurd (cc)
    ]
