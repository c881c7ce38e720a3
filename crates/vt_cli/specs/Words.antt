-- The words of the command line as the program has them, and what of them counts. Own.
use Rattle.std.specs.Prelude.{ℕ, List, map, String, string_bytes, ◌≡◌, true, false, None}
use Rattle.std.specs.declared.alloc.Global.{Global}
use Rattle.vt_cli.specs.Commands.{command_of}
use Rattle.vt_cli.specs.Outcome.{AnswerView, outcome, wants_input, IsBadSession, IsFaulty, IsTooLong}

-- the words after the program's name
abbrev pub Words : Type 0
Words = List (String Global)

-- each word by its bytes
abbrev pub bytes_of : Words → List (List ℕ)
bytes_of words = map string_bytes words

-- the one status and the one text of the words and an input
abbrev pub outcome_of_words : Words → List ℕ → AnswerView
outcome_of_words words input = outcome (bytes_of words) input

-- the words are no command
abbrev pub IsNoCommand : Words → Type 0
IsNoCommand words = command_of (bytes_of words) ≡ None

-- the words ask for the input
abbrev pub WantInput : Words → Type 0
WantInput words = wants_input (command_of (bytes_of words)) ≡ true

-- the words do not ask for the input
abbrev pub WantNoInput : Words → Type 0
WantNoInput words = wants_input (command_of (bytes_of words)) ≡ false

-- the words ask for an input that is longer than allowed
abbrev pub WantTooMuch : Words → List ℕ → Type 0
WantTooMuch words input = IsTooLong (bytes_of words) input

-- the words ask for a session, and the input, within the limit, is none
abbrev pub HaveBadSession : Words → List ℕ → Type 0
HaveBadSession words input = IsBadSession (bytes_of words) input

-- the answer to the words and the input reports a fault of the input
abbrev pub HaveFaultyAnswer : Words → List ℕ → Type 0
HaveFaultyAnswer words input = IsFaulty (bytes_of words) input
