-- Which command the words of a command line ask for, by clap's own definition.
use Rattle.std.specs.Prelude.{List, [], ◌∷◌, codes, true, bytes_eq, if◌then◌else◌, Option, Some, None, is_some, option_map, option_and_then}
use Rattle.clap.specs.Simple.{on_top}
use Rattle.clap.specs.Kinds.{Kinds, or_else}
use Rattle.clap.specs.Words.{App, Shape, Text, fault_of, new_app, subcommand_of, with_subcommand}
use Rattle.clap.specs.declared.error.kind.ErrorKind.TheVariants.{MissingSubcommand}
use Rattle.topo_cli.specs.declared.Verb.{Verb}
use Rattle.topo_cli.specs.declared.Verb.TheVariants.{Run, Replay, Check, Serve, Planarize}

-- a command must be named, no word at all asks for help, and there is a version
abbrev pub planar_shape : Shape → Shape
planar_shape s = record s { has_version = true; subcommand_required = true; arg_required_else_help = true }

abbrev pub with_command : App → Text → App
with_command app name = with_subcommand app (new_app name).top

-- the program with its commands
abbrev pub planar_app : App
planar_app = with_command (with_command
    (with_command (with_command (with_command (on_top planar_shape (new_app (codes "planar"))) (codes "run")) (codes "replay")) (codes "check")) (codes "serve"))
    (codes "planarize")

abbrev pub verb_named : Text → Option Verb
verb_named name = if bytes_eq name (codes "run") then Some Run else (if bytes_eq name (codes "replay") then Some Replay else
    (if bytes_eq name (codes "check") then Some Check else (if bytes_eq name (codes "serve") then Some Serve else
    (if bytes_eq name (codes "planarize") then Some Planarize else None))))

-- the command that the words name
abbrev pub asked_verb : List Text → Option Verb
asked_verb words = option_and_then verb_named (option_map (λ p. p.0) (subcommand_of planar_app words))

-- The kinds of error that the words have: those of clap's own definition, and where it has none, that no command is
-- named. Where they have none, the words are a command line of the program.
abbrev pub word_faults : List Text → Kinds
word_faults words = or_else (fault_of planar_app words) (if is_some (asked_verb words) then [] else MissingSubcommand ∷ [])
