-- What a call is given, with all its arguments in one list.
use Rattle.std.proofs.Common.{◌≡◌, List, [], ◌∷◌, Bool, true, false, refl}
use Rattle.vt_value.specs.declared.value.Value.{Value}
use Rattle.vt_event.specs.Pairs.{Pairs}
use Rattle.vt_run.specs.calls.Arguments.{all_args}
use Rattle.vt_given.specs.GivenInOneList.{given_of}

pub all_of_given : (dotted : Bool) (args : List Value) (options : Pairs) → all_args (given_of dotted args options) ≡ args
all_of_given true [] options = refl
all_of_given true (receiver ∷ args) options = refl
all_of_given false args options = refl
