-- Which fields an event has, by its kind: own.
use Rattle.std.specs.Prelude.{ℤ, pos, negsuc, ◌^◌, Bool, true, false, ◌||◌, nat_lt, Option, Some, None, is_some}
use Rattle.vt_value.specs.declared.value.Value.{Value}
use Rattle.vt_value.specs.Kinds.{is_nil, number_of, symbol_of, text_bytes, whole_of}
use Rattle.vt_event.specs.declared.kind.Kind.{Kind}
use Rattle.vt_event.specs.declared.kind.Kind.TheVariants.{Play, Synth, Sample, Fx, Cue, Set, Log, Took, Fault, Body, Defined, Started, Ended}

-- the events that a score shows: all but the inner ones
abbrev pub is_shown : Kind → Bool
is_shown Body = false
is_shown Defined = false
is_shown Started = false
is_shown Ended = false
is_shown _ = true

-- `path`: what is published, set or taken, and where an inner event is kept
abbrev pub has_path : Kind → Bool
has_path Cue = true
has_path Set = true
has_path Took = true
has_path Body = true
has_path Defined = true
has_path Started = true
has_path Ended = true
has_path _ = false

-- `name`: of a synth or an effect
abbrev pub has_name : Kind → Bool
has_name Play = true
has_name Synth = true
has_name Fx = true
has_name _ = false

-- `options` and `fx`: what sounds has options, and may stand in an effect
abbrev pub has_options : Kind → Bool
has_options Play = true
has_options Synth = true
has_options Sample = true
has_options Fx = true
has_options _ = false

-- `body`: of a live loop or a function
abbrev pub has_body : Kind → Bool
has_body Body = true
has_body Defined = true
has_body _ = false

-- `line`: of a fault, or of the statement of a live loop
abbrev pub has_line : Kind → Bool
has_line (Fault fault) = true
has_line Body = true
has_line _ = false

-- a note is a number
abbrev pub is_note : Value → Bool
is_note value = is_some (number_of value)

-- a sample is named by a symbol or a text
abbrev pub is_sample_name : Value → Bool
is_sample_name value = is_some (symbol_of value) || is_some (text_bytes value)

-- there is a whole number, and it is one of 32 bits
abbrev pub is_count : Option ℤ → Bool
is_count None = false
is_count (Some (pos n)) = nat_lt n (2 ^ 32)
is_count (Some (negsuc n)) = false

-- an effect's number is a whole number of 32 bits
abbrev pub is_effect_number : Value → Bool
is_effect_number value = is_count (whole_of value)

-- `value`: the sort that goes with the kind. Nil stands where there is none
abbrev pub goes_with : Kind → Value → Bool
goes_with Play value = is_note value
goes_with Sample value = is_sample_name value
goes_with Fx value = is_effect_number value
goes_with Cue value = true
goes_with Set value = true
goes_with Log value = true
goes_with Took value = true
goes_with _ value = is_nil value
