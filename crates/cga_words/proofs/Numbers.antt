-- What `get_one` reads.
use Rattle.std.proofs.Common.{◌≡◌, ℕ, ◌+◌, ◌<◌, ◌≤◌, ◌^◌, true, false, List, Option, Some, None, Result, Ok, Err, refl, sym, ap, subst, arith, min, max}
use Rattle.std.specs.Prelude.{IfSome, option_and_then, option_map, pos, unwrap_or, if◌then◌else◌}
use Rattle.std.specs.Str.Parse.{ParsesUnsigned, digits_value, without_leading_plus}
use Rattle.clap.specs.Lexer.{without_minus}
use Rattle.clap.specs.Values.{IsSignedIn}
use Rattle.clap.specs.Words.{Text, ReadsOne}
use Rattle.clap.proofs.CallerReads.{signed_reads}
use Rattle.clap.specs.ValueTests.{accepts}
use Rattle.clap.proofs.ValueTestLemmas.{accepts-Accepts, Accepts-accepts}
use Rattle.clap.specs.declared.builder.value_parser.ValueParser.TheVariants as parser
use Rattle.cga_words.specs.Words.{number_in, IsTown}

module _ (E : Type 0) (G : List ℕ → Result ℕ E → Type 0) (k most : ℕ) (only : (u : List ℕ) (x : Result ℕ E) → G u x → ParsesUnsigned k 10 u x) (top : most + 1 ≡ 2 ^ k) (small : most < 2 ^ 64) where
  number_read : (t : List ℕ) (r : Option ℕ) → ReadsOne G t r → r ≡ number_in most t
  number_read t (Some v) read =
      let p = only t (Ok v) read in
      let fits : accepts false (parser.Unsigned 0 most) t ≡ true = Accepts-accepts false (parser.Unsigned 0 most) t (p.0.0, omega (arith, p.0.1, top, small), omega arith, omega (arith, p.0.1, top)) in
      rw fits (ap (λ (n : ℕ). Some n) p.1)
  number_read t None read =
      let p = only t (Err read.0) read.1 in
      elim (accepts false (parser.Unsigned 0 most) t) as (λ b. (accepts false (parser.Unsigned 0 most) t ≡ b)
      → ◌≡◌ {A = Option ℕ} None (if b then Some (digits_value 10 (without_leading_plus t)) else None)) [
        | true ↦ λ e. let a = accepts-Accepts false (parser.Unsigned 0 most) t e in absurd (p (a.0, omega (arith, a.3, top)))
        | false ↦ λ e. refl
      ] refl

  pub number_got : (o : Option Text) (r : Option ℕ) → (o ≡ None → r ≡ None)
      → ((t : List ℕ) → o ≡ Some t → ReadsOne G t r) → r ≡ option_and_then (number_in most) o
  number_got None r none value = none refl
  number_got (Some t) r none value = number_read t r (value t refl)

-- what is read of a range lies in it
abbrev pub Between : ℕ → ℕ → Option ℕ → Type 0
Between low high None = Unit {0}
Between low high (Some n) = (low ≤ n) × (n ≤ high)

module _ (E : Type 0) (G : List ℕ → Result ℕ E → Type 0) (k low high : ℕ) (only : (u : List ℕ) (x : Result ℕ E) → G u x → ParsesUnsigned k 10 u x) (fits : high < 2 ^ k) where
  pub read_between : (o : Option Text) (r : Option ℕ)
      → ((t : Text) → o ≡ Some t → (u : Text) × (t ≡ without_minus u) × IsSignedIn (pos low) (pos high) u)
      → (o ≡ None → r ≡ None) → ((t : List ℕ) → o ≡ Some t → ReadsOne G t r) → Between low high r
  read_between None r within none value = subst (Between low high) (sym (none refl)) tt
  read_between (Some t) r within none value =
      let w = within t refl in
      let s = signed_reads E G k low high w.0 r (subst (λ (x : List ℕ). ReadsOne G x r) w.1 (value t refl)) only fits w.2 in
      subst (Between low high) (sym s.1) (s.2, s.3)

pub six_or : (r : Option ℕ) → Between 0 9 r → unwrap_or r 6 ≤ 9
six_or None b = omega arith
six_or (Some n) b = b.1

pub as_least : (n : ℕ) → n ≤ 9 → n ≡ min n 9
as_least n h = omega arith

pub as_between : (r : Option ℕ) → Between 1 200 r → r ≡ option_map (λ n. min (max n 1) 200) r
as_between None b = refl
as_between (Some n) b = let few = b.1 in let some = b.0 in let e : n ≡ min (max n 1) 200 = omega (arith, few, some) in ap (λ (i : ℕ). Some i) e

pub a_town : (r : Option ℕ) → Between 1 200 r → IfSome r IsTown
a_town None b = tt
a_town (Some n) b = record { some = b.0; few = b.1 }
