-- Memory that is wanting before anything is read.
use Rattle.std.proofs.Common.{◌≡◌, ◌∙◌, ap, inr, ℕ, List, refl, arith}
use Rattle.cga_top.proofs.Door.{unbegun_run}
use Rattle.cga_top.specs.Outside.{Outside}
use Rattle.cga_words.proofs.Door.{memory_not_used, plain_says}
use Rattle.cga_words.specs.Exits.{line_of}
use Rattle.cga_words.specs.Words.{decimals_of, town_of}
use Rattle.cga_words.specs.declared.program_name.ProgramName.TheVariants.{City}
use Rattle.cga_words.specs.declared.status.Status.TheVariants.{NoMemory}
use Rattle.clap.specs.Words.{Text}
use Rattle.cga_main.specs.Program.{IsEnd}

pub wanting : (texts : List Text) (o : Outside) (number : ℕ) (line : List ℕ) → number ≡ 6
    → line ≡ line_of City NoMemory → IsEnd texts o o number line
wanting texts o number line n l = record {
  status = NoMemory;
  number_is = n;
  line_is = l;
  means = unbegun_run (decimals_of texts) (town_of texts) o;
  given = λ zero. absurd (omega (arith, n, zero));
  headline = λ zero. absurd (omega (arith, n, zero));
  usage = λ e. absurd (memory_not_used e);
  refused = λ fault. inr refl;
  plain = λ name first decimals town fits words.
      let says = plain_says name first decimals town fits in
      (memory_not_used, ap decimals_of words ∙ says.decimals_are, ap town_of words ∙ says.town_is);
  complete = λ fine few reads writes. inr refl;
}
