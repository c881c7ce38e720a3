-- The words of faults in a score. The project's own.
use Rattle.std.specs.Prelude.{ℕ, List, codes}
use Rattle.vt_value.specs.declared.fault.FaultKind.{FaultKind}
use Rattle.vt_value.specs.declared.fault.FaultKind.TheVariants.{Overflow, ZeroDivisor, WrongKind, BadValue, BadNote, BadPath, EmptyRing, TooLarge, TooDeep, TooNested, UnknownName, WrongCount, NoSleep, Lex, Syntax, Check}

-- one word a kind
abbrev pub fault_word : FaultKind → List ℕ
fault_word Overflow = codes "overflow"
fault_word ZeroDivisor = codes "zero_divisor"
fault_word WrongKind = codes "wrong_kind"
fault_word BadValue = codes "bad_value"
fault_word BadNote = codes "bad_note"
fault_word BadPath = codes "bad_path"
fault_word EmptyRing = codes "empty_ring"
fault_word TooLarge = codes "too_large"
fault_word TooDeep = codes "too_deep"
fault_word TooNested = codes "too_nested"
fault_word UnknownName = codes "unknown_name"
fault_word WrongCount = codes "wrong_count"
fault_word NoSleep = codes "no_sleep"
fault_word Lex = codes "lex"
fault_word Syntax = codes "syntax"
fault_word Check = codes "check"
