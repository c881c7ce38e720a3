-- Which lists of words are commands: `render` and `check` alone, and `gen` with its options. Own.
use Rattle.std.specs.Prelude.{ℕ, ◌≤◌, Bool, true, not, ◌&&◌, ◌||◌, if◌then◌else◌, List, [], ◌∷◌, Option, None, Some, codes}
use Rattle.std.specs.List.{list_all}
use Rattle.std.specs.Str.{bytes_eq}
use Rattle.vt_check.specs.Written.{has_twice}
use Rattle.vt_cli.specs.declared.command.Command.{Command}
use Rattle.vt_cli.specs.declared.command.Command.TheVariants.{Render, Check, Gen}
use Rattle.vt_cli.specs.Options.{Written, number_or, options_of, value_of}

-- the command without options
abbrev pub alone : Command → List (List ℕ) → Option Command
alone command [] = Some command
alone command (word ∷ more) = None

-- the name of an option of `gen`
abbrev pub is_gen_option : List ℕ → Bool
is_gen_option name =
    bytes_eq (codes "--seed") name || bytes_eq (codes "--loops") name || bytes_eq (codes "--beats") name || bytes_eq (codes "--print") name

-- what is written is the session: so it is said, or nothing is
abbrev pub prints_session : Option (List ℕ) → Bool
prints_session None = true
prints_session (Some word) = bytes_eq word (codes "session")

-- `gen` with these numbers, where each is one
abbrev pub gen_with : Option ℕ → Option ℕ → Option ℕ → Option Command
gen_with (Some seed) (Some loops) (Some beats) = Some (Gen seed loops beats)
gen_with (Some seed) (Some loops) None = None
gen_with (Some seed) None beats = None
gen_with None loops beats = None

-- A seed from 0 to 2^64 - 1, or else 0; from 1 to 64 loops, or else 4; from 1 to 1024 beats, or else 16.
unfoldable pub gen_of_values : List Written → Option Command
gen_of_values options = gen_with
    (number_or 0 18446744073709551615 0 (value_of (codes "--seed") options))
    (number_or 1 64 4 (value_of (codes "--loops") options))
    (number_or 1 1024 16 (value_of (codes "--beats") options))

-- `gen` with these options, where they are its own, each at most once
abbrev pub gen_of : List Written → Option Command
gen_of options =
    if list_all (λ option. is_gen_option option.0) options && not (has_twice (λ option. option.0) options) && prints_session (value_of (codes "--print") options)
    then gen_of_values options
    else None

abbrev pub gen_of_words : Option (List Written) → Option Command
gen_of_words None = None
gen_of_words (Some options) = gen_of options

-- the command that the words are; each other list of words is none
abbrev pub command_of : List (List ℕ) → Option Command
command_of [] = None
command_of (word ∷ more) =
    if bytes_eq word (codes "render") then alone Render more
    else (if bytes_eq word (codes "check") then alone Check more
    else (if bytes_eq word (codes "gen") then gen_of_words (options_of more)
    else None))

-- the numbers of a command are within their limits
abbrev pub IsInLimits : Command → Type 0
IsInLimits Render = Unit {0}
IsInLimits Check = Unit {0}
IsInLimits (Gen seed loops beats) = (1 ≤ loops) × (loops ≤ 64) × (1 ≤ beats) × (beats ≤ 1024)
