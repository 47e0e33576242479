-- Which words of the command line are accepted.
use Rattle.std.specs.Prelude.{ℕ, List, [], ◌∷◌, codes, Result, Ok, Err, if◌then◌else◌, string_bytes}
use Rattle.std.specs.Str.{bytes_eq}
use Rattle.std.specs.declared.string.String.{String}
use Rattle.std.proofs.Common.{Global}
use Rattle.graph_tool.specs.declared.command.Command.{Command}
use Rattle.graph_tool.specs.declared.command.Command.TheVariants.{Run, Replay}
use Rattle.graph_tool.specs.declared.status.UsageCause.{UsageCause}
use Rattle.graph_tool.specs.declared.status.UsageCause.TheVariants.{NoCommand, UnknownCommand, UnknownOption}

-- the command of a name
abbrev pub command_by_name : List ℕ → Result Command UsageCause
command_by_name name =
    if bytes_eq name (codes "run") then Ok Run
    else (if bytes_eq name (codes "replay") then Ok Replay else Err UnknownCommand)

-- no word may stand behind a command
abbrev pub refused_option : Result Command UsageCause → Result Command UsageCause
refused_option (Ok command) = Err UnknownOption
refused_option (Err cause) = Err cause

-- the command of the words, or the first fault from the left
abbrev pub command_of : List (String Global) → Result Command UsageCause
command_of [] = Err NoCommand
command_of (word ∷ []) = command_by_name (string_bytes word)
command_of (word ∷ other ∷ words) = refused_option (command_by_name (string_bytes word))
