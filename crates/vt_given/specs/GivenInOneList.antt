-- What a call is given, with all its arguments in one list: own.
use Rattle.std.specs.Prelude.{List, [], ◌∷◌, Bool, true, false, Option, Some, None}
use Rattle.vt_value.specs.declared.value.Value.{Value}
use Rattle.vt_event.specs.Pairs.{Pairs}
use Rattle.vt_run.specs.calls.Arguments.{Given}

-- after a dot, the first of all arguments is the value before it
abbrev pub receiver_of : Bool → List Value → Option Value
receiver_of true (receiver ∷ args) = Some receiver
receiver_of true [] = None
receiver_of false args = None

-- and the others are the call's own
abbrev pub args_of : Bool → List Value → List Value
args_of true (receiver ∷ args) = args
args_of true [] = []
args_of false args = args

abbrev pub given_of : Bool → List Value → Pairs → Given
given_of dotted args options = record { receiver = receiver_of dotted args; args = args_of dotted args; options = options }
