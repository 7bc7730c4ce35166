-- What other crates may cite of cga_script. All other pages of its proofs are its own.

-- The lines of a block of a whole city are a form
pub use Rattle.cga_script.proofs.CityForm.{city_form}
-- The commands of both versions are forms
pub use Rattle.cga_script.proofs.Commands.{command_form}
-- How a list of bytes is cut into lines, piece by piece
pub use Rattle.cga_script.proofs.Cuts.{kept_append, last_kept, lines_append, rest_is_one, kept_one}
-- What a piece does to the lines that are read
pub use Rattle.cga_script.proofs.Feeds.{kept_twice, no_lines, one_more, rest_of_part, takes_line, nothing_kept}
-- What is kept of a line
pub use Rattle.cga_script.proofs.Kept.{take_room}
-- What a line tells of commands: one thing
pub use Rattle.cga_script.proofs.OneCommand.{one_command}
-- What was read may be printed
pub use Rattle.cga_script.proofs.Printable.{city_prints, put_prints}
-- What a line says as a line of one kind of block, it says as one of another where both are written alike
pub use Rattle.cga_script.proofs.Said.{tokens_tell}
