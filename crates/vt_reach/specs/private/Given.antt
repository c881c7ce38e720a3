-- What a call is given, as it stands in the text.
use Rattle.std.specs.Prelude.{ℕ, List, map, Option}
use Rattle.std.specs.Option.{option_map}
use Rattle.vt_tree.specs.declared.expression.Call.{Call, out-Call}
use Rattle.vt_tree.specs.declared.expression.Expr.{Expr}
use Rattle.vt_check.specs.Written.{first_of, literal_of}
use Rattle.vt_tree.specs.declared.statement.Block.{Block}
use Rattle.vt_reach.specs.declared.found.Found.{Found}
use Rattle.vt_reach.specs.Founds.{in_block}
use Rattle.vt_reach.specs.Mentions.{Argument, block_key, block_mentions}
use Rattle.vt_reach.specs.TreeMentions.{expr_seen, inside_found}

-- an argument, as it stands in the text
abbrev pub argument_of : Expr → Argument
argument_of e = literal_of e

-- the first argument of a call
abbrev pub first_argument : Call → Option Argument
first_argument call = option_map argument_of (first_of (out-Call call).args)

abbrev pub labelled_argument : List ℕ × Expr → List ℕ × Argument
labelled_argument option = (option.0, argument_of option.1)

-- the options of a call, with their labels
abbrev pub options_given : Call → List (List ℕ × Argument)
options_given call = map labelled_argument (out-Call call).options

-- what is found in an expression
abbrev pub found_in_expr : Expr → Found
found_in_expr e = (expr_seen e).found

-- what is found in an option
abbrev pub found_in_option : List ℕ × Expr → Found
found_in_option option = (expr_seen option.1).found

-- the block of a call, with what is found inside it
abbrev pub block_of_call : Call → Block → Found
block_of_call call block =
    in_block (block_key (out-Call call).name (first_argument call)) (block_mentions (out-Call call).name (first_argument call) (options_given call)) (inside_found block)
