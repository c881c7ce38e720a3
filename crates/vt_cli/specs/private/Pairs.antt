-- Options and commands as the program has them while it reads words. Own.
use Rattle.std.specs.Prelude.{◌≡◌, ◌≤◌, ℕ, ⊤, List, map, Option, None, Some, Result, Ok, Err, Vec}
use Rattle.std.specs.declared.alloc.Global.{Global}
use Rattle.vt_cli.specs.declared.command.Command.{Command}
use Rattle.vt_cli.specs.declared.options.Pair.{Pair}
use Rattle.vt_cli.specs.declared.words.WordsFault.{WordsFault}
use Rattle.vt_cli.specs.declared.words.WordsFault.TheVariants.{Usage, NoMemory}
use Rattle.vt_cli.specs.Options.{Written}

-- options by their bytes
abbrev pub written : List Pair → List Written
written options = map (λ (option : Pair). (option.name.now, option.value.now)) options

-- a number is within limits
abbrev pub IsBetween : ℕ → ℕ → ℕ → Type 0
IsBetween least most number = (least ≤ number) × (number ≤ most)

-- a command is answered, or that there is none; want of memory has no cause
abbrev pub IsCommandRead : Option Command → Result Command WordsFault → Type 0
IsCommandRead read (Ok command) = read ≡ Some command
IsCommandRead read (Err Usage) = read ≡ None
IsCommandRead read (Err NoMemory) = ⊤

-- and so of options
abbrev pub AreOptionsRead : Option (List Written) → Result (Vec Pair Global) WordsFault → Type 0
AreOptionsRead read (Ok options) = read ≡ Some (written options.items)
AreOptionsRead read (Err Usage) = read ≡ None
AreOptionsRead read (Err NoMemory) = ⊤
