-- Memory that is wanting before anything is read.
use Rattle.std.proofs.Common.{◌≡◌, inr, ℕ, List, None, refl, arith}
use Rattle.cga_top.proofs.Door.{unbegun_run}
use Rattle.cga_top.specs.Outside.{Outside}
use Rattle.cga_words.proofs.Door.{memory_not_used, townless_says}
use Rattle.cga_words.specs.Exits.{line_of}
use Rattle.cga_words.specs.Words.{decimals_of}
use Rattle.cga_words.specs.declared.program_name.ProgramName.TheVariants.{Hulls}
use Rattle.cga_words.specs.declared.status.Status.TheVariants.{NoMemory}
use Rattle.cga_hulls.specs.Program.{IsEnd}

pub wanting : (texts : List (List ℕ)) (o : Outside) (number : ℕ) (line : List ℕ) → number ≡ 6
    → line ≡ line_of Hulls NoMemory → IsEnd texts o o number line
wanting texts o number line n l = record {
  status = NoMemory;
  number_is = n;
  line_is = l;
  means = unbegun_run (decimals_of texts) None o;
  told = λ zero. absurd (omega (arith, n, zero));
  usage = λ e. absurd (memory_not_used e);
  refused = λ town. inr refl;
  plain = λ name decimals few words. (memory_not_used, townless_says texts name decimals few words);
  complete = λ fine few reads writes. inr refl;
}
