-- What a call asks of an argument: its kind, and the range of its number. The project's own.
--
-- Where an argument could have several faults, or several arguments one, a call's definition asks in this order: the count of the arguments; their kinds, from left to right; their ranges, in the same order. Overflow comes after all of these, and too_large last.
use Rattle.std.specs.Prelude.{ℕ, ℤ, pos, negsuc, cond, ◌&&◌, nat_le, ok_or, Result, Ok, Err}
use Rattle.vt_value.specs.declared.fault.FaultKind.{FaultKind}
use Rattle.vt_value.specs.declared.fault.FaultKind.TheVariants.{WrongKind, BadValue}
use Rattle.vt_value.specs.declared.value.Value.{Value}
use Rattle.vt_value.specs.Kinds.{whole_of}

-- the whole number that a value is, or wrong_kind
abbrev pub whole_argument : Value → Result ℤ FaultKind
whole_argument value = ok_or (whole_of value) WrongKind

-- a whole number of at least 0, or bad_value
abbrev pub count_from : ℤ → Result ℕ FaultKind
count_from (pos n) = Ok n
count_from (negsuc n) = Err BadValue

-- a whole number from the least to the most that is allowed, or bad_value
abbrev pub between : ℕ → ℕ → ℤ → Result ℕ FaultKind
between least most (pos n) = cond (nat_le least n && nat_le n most) (Ok n) (Err BadValue)
between least most (negsuc n) = Err BadValue
