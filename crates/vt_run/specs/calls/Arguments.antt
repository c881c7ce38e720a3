-- What a call is given, and what `P`, a path or a pattern, stands for. Names of cues, sets and live loops are after the Sonic Pi tutorial, chapter 10; kinds and faults are own.
use Rattle.std.specs.Prelude.{ℕ, pos, List, [], ◌∷◌, ◌++◌, length, map, Bool, true, nat_lt, cond, option_to_list, ok_or, unwrap_or, Option, Some, None, Result, Ok, Err, slice_get}
use Rattle.std.specs.List.{filter_map}
use Rattle.vt_frac.specs.Fraction.{Fraction}
use Rattle.vt_check.specs.Conditions.{begins_with_slash}
use Rattle.vt_path.specs.declared.pattern.Segment.{Segment}
use Rattle.vt_path.specs.AnyOf.{any_of_name}
use Rattle.vt_path.proofs.PathDecided.{path_of}
use Rattle.vt_path.proofs.PatternDecided.{pattern_of}
use Rattle.vt_ring.specs.Answers.{and_then, all_of}
use Rattle.vt_ring.specs.Items.{indices, wrapped}
use Rattle.vt_ring.specs.Signatures.{number_argument, one_of, ring_argument, symbol_argument}
use Rattle.vt_value.specs.declared.fault.FaultKind.{FaultKind}
use Rattle.vt_value.specs.declared.fault.FaultKind.TheVariants.{BadPath, WrongKind}
use Rattle.vt_value.specs.declared.value.Value.{Value, out-Value}
use Rattle.vt_value.specs.declared.value.Value.TheOpen.{Value-F}
use Rattle.vt_value.specs.Kinds.{ring_of}
use Rattle.vt_frac.specs.Names.{is_symbol_name}
use Rattle.vt_event.specs.Pairs.{Pairs}

-- what a call is given: the value before its dot, the positional arguments, and the options
pub record Given : Type 0 where
  pub receiver : Option Value
  pub args : List Value
  pub options : Pairs

-- nothing is given
abbrev pub no_arguments : Given
no_arguments = record { receiver = None; args = []; options = [] }

-- the arguments, of which the receiver is the first
abbrev pub all_args : Given → List Value
all_args given = option_to_list given.receiver ++ given.args

-- one argument, the name of a symbol
abbrev pub a_symbol : List Value → Result (List ℕ) FaultKind
a_symbol args = and_then (one_of args) symbol_argument

-- the items of a ring, and else the value alone
abbrev pub each_of : Value → List Value
each_of value = unwrap_or (ring_of value) (value ∷ [])

-- a number, or a ring of numbers: each of them, or wrong_kind
abbrev pub numbers_of : Value → Result (List Fraction) FaultKind
numbers_of value = all_of (map number_argument (each_of value))

-- a ring that need not be given
abbrev pub ring_if_given : Option Value → Result (Option (List Value)) FaultKind
ring_if_given None = Ok None
ring_if_given (Some value) = and_then (ring_argument value) (λ items. Ok (Some items))

-- no ring is given, or it has an item
abbrev pub has_item : Option (List Value) → Bool
has_item None = true
has_item (Some items) = nat_lt 0 (length items)

-- so many items of a ring, which is gone through again and again; none where it has none
abbrev pub items_round : ℕ → List Value → List Value
items_round n items = filter_map (λ i. slice_get items (wrapped (pos i) (length items))) (indices n)

-- a text as a path: with a leading `/` the path that it is, and else the name of one under this word
abbrev pub path_text_of : List ℕ → List ℕ → Result (List (List ℕ)) FaultKind
path_text_of word bytes =
    cond (begins_with_slash bytes)
    (ok_or (path_of bytes) BadPath)
    (cond (is_symbol_name bytes) (Ok (word ∷ bytes ∷ [])) (Err BadPath))

abbrev pub path_layer : {A : Type 0} → List ℕ → Value-F A → Option (Result (List (List ℕ)) FaultKind)
path_layer word (Value-F.Sym name) = Some (Ok (word ∷ name ∷ []))
path_layer word (Value-F.Text bytes) = Some (path_text_of word bytes)
path_layer word _ = None

-- what an argument of `cue` or `set` stands for, by its kind or wrong_kind, and then the path or bad_path
unfoldable pub path_argument : List ℕ → Value → Result (Result (List (List ℕ)) FaultKind) FaultKind
path_argument word value = ok_or (path_layer word (out-Value value)) WrongKind

-- a text as a pattern: with a leading `/` the pattern that it is, and else the name of a cue, a set or a live loop
abbrev pub pattern_text_of : List ℕ → Result (List Segment) FaultKind
pattern_text_of bytes =
    cond (begins_with_slash bytes)
    (ok_or (pattern_of bytes) BadPath)
    (cond (is_symbol_name bytes) (Ok (any_of_name bytes)) (Err BadPath))

abbrev pub pattern_layer : {A : Type 0} → Value-F A → Option (Result (List Segment) FaultKind)
pattern_layer (Value-F.Sym name) = Some (Ok (any_of_name name))
pattern_layer (Value-F.Text bytes) = Some (pattern_text_of bytes)
pattern_layer _ = None

-- what an argument of `get` or `sync` stands for, in the same way
unfoldable pub pattern_argument : Value → Result (Result (List Segment) FaultKind) FaultKind
pattern_argument value = ok_or (pattern_layer (out-Value value)) WrongKind
