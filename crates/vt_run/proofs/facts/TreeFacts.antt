-- What the names of a tree are, and what a node is given, within the limits of the language.
use Rattle.std.proofs.Common.{ℕ, List, [], ◌∷◌, Bool, true, false, Option, Some, None, IfSome, refl, true≢false, sym}
use Rattle.std.specs.Prelude.{◌&&◌, ◌||◌, ◌++◌, ◌==◌, option_to_list, IsTrue}
use Rattle.std.specs.Int.{is_in_range}
use Rattle.vt_value.specs.declared.value.Value.{Value}
use Rattle.vt_value.specs.Limits.{AreWithin, IsWithin}
use Rattle.vt_frac.specs.Names.{begins, begins_name, begins_symbol, is_label_name, is_symbol_name}
use Rattle.vt_event.specs.Pairs.{Pairs}
use Rattle.vt_run.specs.calls.Arguments.{no_arguments}
use Rattle.vt_run.specs.Limits.{ArePairsWithin}
use Rattle.vt_run.proofs.facts.Known.{IsGivenWithin}

prefix_kept : (a b c : Bool) → (IsTrue a → IsTrue b) → IsTrue (a && c) → IsTrue (b && c)
prefix_kept true b true f h = let t : IsTrue b = f refl in and_there b t
  where
    and_there : (b : Bool) → IsTrue b → IsTrue (b && true)
    and_there true t = refl
    and_there false t = absurd (true≢false (sym t))
prefix_kept true b false f h = absurd (true≢false (sym h))
prefix_kept false b c f h = absurd (true≢false (sym h))

wider : (large small u : Bool) → IsTrue (small || u) → IsTrue ((large || small) || u)
wider true small u h = refl
wider false small u h = h

begins_wider : (bytes : List ℕ) → IsTrue (begins begins_name bytes) → IsTrue (begins begins_symbol bytes)
begins_wider [] h = h
begins_wider (b ∷ bytes) h = wider (is_in_range 65 90 b) (is_in_range 97 122 b) (b == 95) h

-- the name of a label is one of a symbol
pub label_symbol : (name : List ℕ) → IsTrue (is_label_name name) → IsTrue (is_symbol_name name)
unfolding is_label_name is_symbol_name
label_symbol name h = prefix_kept _ _ _ (prefix_kept _ _ _ (begins_wider name)) h

receiver_with : (receiver : Option Value) (args : List Value) → IfSome receiver IsWithin → AreWithin args → AreWithin (option_to_list receiver ++ args)
receiver_with None args r h = h
receiver_with (Some value) args r h = (r, h)

-- what a call is given, by its parts
pub given_within : (receiver : Option Value) (args : List Value) (options : Pairs) → IfSome receiver IsWithin → AreWithin args → ArePairsWithin options →
    IsGivenWithin (record { receiver = receiver; args = args; options = options })
given_within receiver args options r h o = record { args = receiver_with receiver args r h; options = o }

pub nothing_given : IsGivenWithin no_arguments
nothing_given = record { args = tt; options = tt }
