-- Memory that is wanting before anything is read.
use Rattle.std.proofs.Common.{◌≡◌, inr, ℕ, List, refl, arith}
use Rattle.cga_top.specs.Hulls.{usual}
use Rattle.cga_top.specs.Outside.{Outside}
use Rattle.cga_words.proofs.Door.{memory_not_used}
use Rattle.cga_words.specs.Exits.{line_of}
use Rattle.cga_words.specs.declared.program_name.ProgramName.TheVariants.{Live}
use Rattle.cga_words.specs.declared.status.Status.TheVariants.{NoMemory}
use Rattle.clap.specs.Words.{Text}
use Rattle.cga_live.proofs.Living.{unbegun_means}
use Rattle.cga_live.specs.Program.{IsEnd}

pub wanting : (texts : List Text) (o : Outside) (number : ℕ) (line : List ℕ) → number ≡ 6
    → line ≡ line_of Live NoMemory → IsEnd texts o o number line
wanting texts o number line n l = record {
  status = NoMemory;
  number_is = n;
  line_is = l;
  means = unbegun_means usual o;
  given = λ zero. absurd (omega (arith, n, zero));
  headline = λ zero. absurd (omega (arith, n, zero));
  usage = λ e. absurd (memory_not_used e);
  refused = λ fault. inr refl;
  alone = λ name is. memory_not_used;
  complete = λ fine few reads writes. inr refl;
}
