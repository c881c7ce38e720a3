-- How a run may end. Own.
use Rattle.std.specs.Prelude.{ℕ, ◌<◌, ◌≡◌, ◌⊎◌, List, Option, length, take}
use Rattle.std.specs.Io.KnownBytes.{Appends}
use Rattle.vt_cli.specs.declared.status.Status.{Status}
use Rattle.vt_cli.specs.declared.status.Status.TheVariants.{Fine, Usage, TooLong, BadSession, ReadFault, WriteFault, NoMemory, Faulty}

-- the exit status of a program that ends so
abbrev pub code_of : Status → ℕ
code_of Fine = 0
code_of Usage = 1
code_of TooLong = 2
code_of BadSession = 3
code_of ReadFault = 5
code_of WriteFault = 6
code_of NoMemory = 7
code_of Faulty = 8

-- the status is one that the words and the input decide: none of ReadFault, WriteFault and NoMemory
abbrev pub IsDecided : Status → Type 0
IsDecided Fine = Unit {0}
IsDecided Usage = Unit {0}
IsDecided TooLong = Unit {0}
IsDecided BadSession = Unit {0}
IsDecided ReadFault = ⊥
IsDecided WriteFault = ⊥
IsDecided NoMemory = ⊥
IsDecided Faulty = Unit {0}

-- the status, or one that may come in the place of each: a read fault, a write fault or want of memory
abbrev pub Yields : Status → Status → Type 0
Yields result status = (result ≡ status) ⊎ ((result ≡ ReadFault) ⊎ ((result ≡ WriteFault) ⊎ (result ≡ NoMemory)))

-- A status comes only where its cause holds, and there it comes, or one that may come in its place. When those come is
-- said by clauses of their own.
pub record ExactlyWhere (result status : Status) (cause : Type 0) : Type 0 where
  pub only : result ≡ status → cause
  pub always : cause → Yields result status

-- where a sink tells, it took a proper prefix of the text
abbrev pub AppendsPart : Option (List ℕ) → Option (List ℕ) → List ℕ → Type 0
AppendsPart old new text = (n : ℕ) × (n < length text) × Appends old new (take n text)

-- the whole answer was formed, and what is left to go wrong is the write
abbrev pub IsAnswerFormed : Status → Type 0
IsAnswerFormed Fine = Unit {0}
IsAnswerFormed Usage = Unit {0}
IsAnswerFormed TooLong = Unit {0}
IsAnswerFormed BadSession = Unit {0}
IsAnswerFormed ReadFault = ⊥
IsAnswerFormed WriteFault = Unit {0}
IsAnswerFormed NoMemory = ⊥
IsAnswerFormed Faulty = Unit {0}
