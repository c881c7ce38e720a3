-- What calls take: how many arguments, and of which kinds. The project's own.
use Rattle.std.specs.Prelude.{ℕ, bytes_eq, ℤ, pos, List, [], ◌∷◌, Option, Some, None, ok_or, Result, Ok, Err, find}
use Rattle.std.specs.Option.{option_map}
use Rattle.vt_frac.specs.Fraction.{Fraction, whole}
use Rattle.vt_table.specs.Notes.{note_number}
use Rattle.vt_value.specs.declared.fault.FaultKind.{FaultKind}
use Rattle.vt_value.specs.declared.fault.FaultKind.TheVariants.{WrongKind, WrongCount, BadNote}
use Rattle.vt_value.specs.declared.value.Value.{Value, out-Value}
use Rattle.vt_value.specs.declared.value.Value.TheOpen.{Value-F}
use Rattle.vt_value.specs.declared.value.Value.TheVariants.{Whole, Part}
use Rattle.vt_value.specs.Kinds.{number_of, symbol_of, ring_of}
use Rattle.vt_ring.specs.Answers.{and_then}
use Rattle.vt_ring.specs.Arguments.{whole_argument}

-- options: names with values
abbrev pub Options : Type 0
Options = List (List ℕ × Value)

-- the value of the option of this name, if it is given
abbrev pub option_named : List ℕ → Options → Option Value
option_named name options = option_map (λ (option : List ℕ × Value). option.1) (find (λ (option : List ℕ × Value). bytes_eq option.0 name) options)

-- one argument
abbrev pub one_of : List Value → Result Value FaultKind
one_of (a ∷ []) = Ok a
one_of _ = Err WrongCount

-- one argument, or none
abbrev pub one_or_none_of : List Value → Result (Option Value) FaultKind
one_or_none_of [] = Ok None
one_or_none_of (a ∷ []) = Ok (Some a)
one_or_none_of _ = Err WrongCount

-- two arguments
abbrev pub two_of : List Value → Result (Value × Value) FaultKind
two_of (a ∷ b ∷ []) = Ok (a, b)
two_of _ = Err WrongCount

-- one argument, and perhaps a second
abbrev pub one_or_two_of : List Value → Result (Value × Option Value) FaultKind
one_or_two_of (a ∷ []) = Ok (a, None)
one_or_two_of (a ∷ b ∷ []) = Ok (a, Some b)
one_or_two_of _ = Err WrongCount

-- three arguments
abbrev pub three_of : List Value → Result (Value × Value × Value) FaultKind
three_of (a ∷ b ∷ c ∷ []) = Ok (a, b, c)
three_of _ = Err WrongCount

-- two arguments, and perhaps a third
abbrev pub two_or_three_of : List Value → Result (Value × Value × Option Value) FaultKind
two_or_three_of (a ∷ b ∷ []) = Ok (a, b, None)
two_or_three_of (a ∷ b ∷ c ∷ []) = Ok (a, b, Some c)
two_or_three_of _ = Err WrongCount

-- the items of a ring, or wrong_kind
abbrev pub ring_argument : Value → Result (List Value) FaultKind
ring_argument value = ok_or (ring_of value) WrongKind

-- the fraction that a number is worth, or wrong_kind
abbrev pub number_argument : Value → Result Fraction FaultKind
number_argument value = ok_or (number_of value) WrongKind

-- the name of a symbol, or wrong_kind
abbrev pub symbol_argument : Value → Result (List ℕ) FaultKind
symbol_argument value = ok_or (symbol_of value) WrongKind

-- the note of a name, as a value
abbrev pub named_note : Option ℤ → Result Value FaultKind
named_note (Some number) = Ok (Whole number)
named_note None = Err BadNote

-- a note by its kind: a number as it is, and a symbol as the note of its name, where it names one
abbrev pub note_layer : {A : Type 0} → Value-F A → Option (Result Value FaultKind)
note_layer (Value-F.Whole n) = Some (Ok (Whole n))
note_layer (Value-F.Part f) = Some (Ok (Part f))
note_layer (Value-F.Sym name) = Some (named_note (note_number name))
note_layer _ = None

-- a number or a symbol, or wrong_kind; and of it the note, or bad_note
abbrev pub note_argument : Value → Result (Result Value FaultKind) FaultKind
note_argument value = ok_or (note_layer (out-Value value)) WrongKind

-- a whole number that need not be given
abbrev pub whole_or : ℤ → Option Value → Result ℤ FaultKind
whole_or other None = Ok other
whole_or other (Some value) = whole_argument value

-- a number that need not be given
abbrev pub number_or : Fraction → Option Value → Result Fraction FaultKind
number_or other None = Ok other
number_or other (Some value) = number_argument value

-- `r`
abbrev pub a_ring : List Value → Result (List Value) FaultKind
a_ring args = and_then (one_of args) ring_argument

-- `N`
abbrev pub a_number : List Value → Result Fraction FaultKind
a_number args = and_then (one_of args) number_argument

-- `n`
abbrev pub a_whole : List Value → Result ℤ FaultKind
a_whole args = and_then (one_of args) whole_argument

-- `r, n`
abbrev pub a_ring_and_a_whole : List Value → Result (List Value × ℤ) FaultKind
a_ring_and_a_whole args =
    and_then (two_of args) (λ (r, n).
    and_then (ring_argument r) (λ items.
    and_then (whole_argument n) (λ number.
    Ok (items, number))))

-- `r` or `r, n`, where n is 1 if it is not given
abbrev pub a_ring_and_perhaps_a_whole : List Value → Result (List Value × ℤ) FaultKind
a_ring_and_perhaps_a_whole args =
    and_then (one_or_two_of args) (λ (r, n).
    and_then (ring_argument r) (λ items.
    and_then (whole_or (pos 1) n) (λ number.
    Ok (items, number))))

-- nothing or `n`, with what n is if it is not given
abbrev pub perhaps_a_whole : ℤ → List Value → Result ℤ FaultKind
perhaps_a_whole other args = and_then (one_or_none_of args) (whole_or other)

-- nothing or `N`, where N is 1 if it is not given
abbrev pub perhaps_a_number : List Value → Result Fraction FaultKind
perhaps_a_number args = and_then (one_or_none_of args) (number_or (whole (pos 1)))

-- `N, N`
abbrev pub two_numbers : List Value → Result (Fraction × Fraction) FaultKind
two_numbers args =
    and_then (two_of args) (λ (a, b).
    and_then (number_argument a) (λ f.
    and_then (number_argument b) (λ g.
    Ok (f, g))))

-- `n, n`
abbrev pub two_wholes : List Value → Result (ℤ × ℤ) FaultKind
two_wholes args =
    and_then (two_of args) (λ (a, b).
    and_then (whole_argument a) (λ m.
    and_then (whole_argument b) (λ n.
    Ok (m, n))))

-- `V, :x`, where V is to be a note
abbrev pub a_note_and_a_symbol : List Value → Result (Result Value FaultKind × List ℕ) FaultKind
a_note_and_a_symbol args =
    and_then (two_of args) (λ (v, x).
    and_then (note_argument v) (λ note.
    and_then (symbol_argument x) (λ name.
    Ok (note, name))))

-- `V, n`, where V is to be a note
abbrev pub a_note_and_a_whole : List Value → Result (Result Value FaultKind × ℤ) FaultKind
a_note_and_a_whole args =
    and_then (two_of args) (λ (v, n).
    and_then (note_argument v) (λ note.
    and_then (whole_argument n) (λ number.
    Ok (note, number))))

-- `n, V, :x`, where V is to be a note
abbrev pub a_whole_a_note_and_a_symbol : List Value → Result (ℤ × Result Value FaultKind × List ℕ) FaultKind
a_whole_a_note_and_a_symbol args =
    and_then (three_of args) (λ (n, v, x).
    and_then (whole_argument n) (λ number.
    and_then (note_argument v) (λ note.
    and_then (symbol_argument x) (λ name.
    Ok (number, note, name)))))
