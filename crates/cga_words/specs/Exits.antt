-- The exit statuses of a run, and its lines on standard error.
use Rattle.std.specs.Prelude.{ℕ, List, [], ◌++◌, codes}
use Rattle.std.specs.declared.io.ErrorKind.{ErrorKind}
use Rattle.std.specs.declared.io.ErrorKind.TheVariants as kind
use Rattle.cga_words.specs.declared.exit.Exit.{Exit}
use Rattle.cga_words.specs.declared.program_name.ProgramName.{ProgramName}
use Rattle.cga_words.specs.declared.program_name.ProgramName.TheVariants.{City, Hulls, Live}
use Rattle.cga_words.specs.declared.status.Status.{Status}
use Rattle.cga_words.specs.declared.status.Status.TheVariants.{Done, Usage, ReadFault, WriteFault, TooLong, NoMemory}

-- the exit status for each end of a run
abbrev pub number_of : Status → ℕ
number_of Done = 0
number_of Usage = 2
number_of ReadFault = 3
number_of WriteFault = 4
number_of TooLong = 5
number_of NoMemory = 6

abbrev pub name_of : ProgramName → List ℕ
name_of City = codes "cga_city"
name_of Hulls = codes "cga_hulls"
name_of Live = codes "cga_live"

-- what stands behind the name where the words are wrong
abbrev pub options_of : ProgramName → List ℕ
options_of City = codes " [--decimals N] [--town N]"
options_of Hulls = codes " [--decimals N]"
options_of Live = []

-- the line on standard error at each end, which is none where all is well
abbrev pub line_of : ProgramName → Status → List ℕ
line_of name Done = []
line_of name Usage = codes "usage: " ++ name_of name ++ options_of name
line_of name ReadFault = name_of name ++ codes ": cannot read"
line_of name WriteFault = name_of name ++ codes ": cannot write"
line_of name TooLong = name_of name ++ codes ": script too long"
line_of name NoMemory = name_of name ++ codes ": out of memory"

-- the line where the words of the command line aren't text
abbrev pub unreadable_line : ProgramName → List ℕ
unreadable_line name = name_of name ++ codes ": cannot read the command line"

-- the exit status where the system doesn't give the words: it finds no memory, or they aren't text
abbrev pub refusal_of : ErrorKind → ℕ
refusal_of kind.OutOfMemory = 6
refusal_of _ = 7

-- and its line
abbrev pub refusal_line : ProgramName → ErrorKind → List ℕ
refusal_line name kind.OutOfMemory = line_of name NoMemory
refusal_line name _ = unreadable_line name

-- the line of an exit
abbrev pub line_in : Exit → List ℕ
line_in exit = exit.before.now ++ exit.name.now ++ exit.behind.now
