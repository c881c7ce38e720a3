-- The nine checks, each as a condition on a call where it stands; all are the project's own.
use Rattle.std.specs.Prelude.{◌≡◌, ℕ, Bool, true, false, ◌&&◌, ◌||◌, ◌==◌, not, cond, nat_lt, List, [], ◌∷◌, ◌⊎◌, length, codes, bytes_eq, Option, Some, None, is_some, is_none}
use Rattle.std.specs.List.{list_any}
use Rattle.std.specs.Bool.{MatchBool}
use Rattle.vt_path.specs.Path.{IsPathText}
use Rattle.vt_path.specs.Pattern.{IsPatternText}
use Rattle.vt_table.specs.Calls.{call_row}
use Rattle.vt_table.specs.declared.calls.CallRow.{CallRow}
use Rattle.vt_table.specs.declared.calls.Need.{Need}
use Rattle.vt_table.specs.declared.calls.Need.TheVariants.{None as Without, Must, May}
use Rattle.vt_tree.specs.declared.expression.Expr.{Expr}
use Rattle.vt_tree.specs.declared.statement.Block.{Block, out-Block}
use Rattle.vt_frac.specs.Names.{is_symbol_name}
use Rattle.vt_tree.specs.Parts.{Site}
use Rattle.vt_check.specs.Written.{is_call, is_among, row_of, args_of, options_of, block_of, has_arguments, is_written_out, count_of, symbol_of, text_of, first_of, has_twice, methods}

-- 1. `define` is no statement of the text itself. With a condition after it, it is one; in a branch or after a dot it is none.
unfoldable pub is_misplaced : Site → Bool
is_misplaced s = is_call (codes "define") s && not s.context.outermost

-- there is such an argument, and it is no literal symbol
abbrev pub is_other_than_symbol : Option Expr → Bool
is_other_than_symbol None = false
is_other_than_symbol (Some e) = is_none (symbol_of e)

-- a value under this label is no literal symbol
abbrev pub has_label_without_symbol : List ℕ → List (List ℕ × Expr) → Bool
has_label_without_symbol label options = list_any (λ option. bytes_eq label option.0 && is_none (symbol_of option.1)) options

-- 2. The first argument of `define` or `live_loop`, or a `name:` of `in_thread`, is there and is no literal symbol.
unfoldable pub is_misnamed : Site → Bool
is_misnamed s =
    (is_among (codes "define" ∷ codes "live_loop" ∷ []) s && is_other_than_symbol (first_of (args_of s)))
    || (is_call (codes "in_thread") s && has_label_without_symbol (codes "name") (options_of s))

-- there is such a name, and it is that of a call of the table
abbrev pub is_in_table : Option (List ℕ) → Bool
is_in_table None = false
is_in_table (Some name) = is_some (call_row name)

-- there is such an argument, and it is the literal symbol of such a name
abbrev pub is_table_symbol : Option Expr → Bool
is_table_symbol None = false
is_table_symbol (Some e) = is_in_table (symbol_of e)

-- 3. `define` of a name in the call table
unfoldable pub is_taken : Site → Bool
is_taken s = is_call (codes "define") s && is_table_symbol (first_of (args_of s))

-- no row, or one of a call that is not made after a dot
abbrev pub has_no_dot : Option CallRow → Bool
has_no_dot None = true
has_no_dot (Some row) = not row.dot

-- 4. After a dot a name that is in no table, or that the table has without a dot; or `times`, `each` or `map` with
-- arguments or parentheses and without a dot
unfoldable pub is_no_method : Site → Bool
is_no_method s = cond s.context.dotted (has_no_dot (row_of s)) (is_among methods s && has_arguments s)

-- the greatest count of positional arguments: `tick` and `look` have one less without a dot
abbrev pub most_of : Site → CallRow → ℕ
most_of s row = cond (not s.context.dotted && is_among (codes "tick" ∷ codes "look" ∷ []) s) 1 row.most

-- fewer than the least count, or more than the greatest, where 255 is any number
abbrev pub is_miscounted_by : Site → Option CallRow → Bool
is_miscounted_by s None = false
is_miscounted_by s (Some row) = nat_lt (count_of s) row.least || (not (row.most == 255) && nat_lt (most_of s row) (count_of s))

-- 5. A call of the table, written with arguments, parentheses or a dot, has fewer or more positional arguments than its row.
unfoldable pub is_miscounted : Site → Bool
is_miscounted s = is_written_out s && is_miscounted_by s (row_of s)

-- the calls that take every option
abbrev pub open_calls : List (List ℕ)
open_calls =
    codes "play" ∷ codes "play_pattern" ∷ codes "play_pattern_timed" ∷ codes "sample" ∷ codes "synth" ∷ codes "use_synth_defaults"
    ∷ codes "with_fx" ∷ []

-- the options that the other calls take, each with its call
abbrev pub single_options : List (List ℕ × List ℕ)
single_options =
    (codes "in_thread", codes "name") ∷ (codes "live_loop", codes "sync") ∷ (codes "live_loop", codes "init") ∷ (codes "range", codes "step")
    ∷ (codes "line", codes "steps") ∷ (codes "scale", codes "num_octaves") ∷ []

-- the call takes this option
abbrev pub takes_option : Site → List ℕ → Bool
takes_option s label = is_among open_calls s || list_any (λ row. is_call row.0 s && bytes_eq row.1 label) single_options

-- 6. An option that the row of the call does not list, or one given twice, which is so on any call
unfoldable pub has_bad_option : Site → Bool
has_bad_option s = (is_some (row_of s) && list_any (λ option. not (takes_option s option.0)) (options_of s)) || has_twice (λ option. option.0) (options_of s)

-- Whether a block is missing or one too many: by whether it is there, whether the call is written out, and what its row asks of a block; a name without a row takes none.
abbrev pub is_block_wrong : Bool → Bool → Option Need → Bool
is_block_wrong there written None = there
is_block_wrong there written (Some Must) = not there && written
is_block_wrong there written (Some Without) = there
is_block_wrong there written (Some May) = false

-- what a row asks of a block, if there is a row
abbrev pub need_of : Option CallRow → Option Need
need_of None = None
need_of (Some row) = Some row.block

-- 7. A block is missing on a call that must have one and is written with arguments, parentheses or a dot; or a block stands
-- where the row has none, or on a name that is in no table.
unfoldable pub has_wrong_block : Site → Bool
has_wrong_block s = is_block_wrong (is_some (block_of s)) (is_written_out s) (need_of (row_of s))

-- the calls that give one parameter to their block
abbrev pub giving_calls : List (List ℕ)
giving_calls = codes "times" ∷ codes "each" ∷ codes "map" ∷ codes "at" ∷ codes "density" ∷ codes "live_loop" ∷ []

-- how many parameters a call gives to its block at most
abbrev pub given_by : Site → ℕ
given_by s = cond (is_call (codes "define") s) 16 (cond (is_among giving_calls s) 1 0)

-- there is such a block, and it has more parameters than its call gives, or two of one name
abbrev pub has_wrong_params_in : Site → Option Block → Bool
has_wrong_params_in s None = false
has_wrong_params_in s (Some block) = nat_lt (given_by s) (length (out-Block block).params) || has_twice (λ name. name) (out-Block block).params

-- 8. The block has more parameters than its call gives, or two of one name.
unfoldable pub has_wrong_params : Site → Bool
has_wrong_params s = has_wrong_params_in s (block_of s)

-- the first byte is `/`
abbrev pub begins_with_slash : List ℕ → Bool
begins_with_slash [] = false
begins_with_slash (b ∷ bytes) = b == 47

-- A text that stands for no path or pattern: after a leading `/` it is none, and without one it is no symbol's name.
abbrev pub IsRefused : (List ℕ → Type 0) → List ℕ → Type 0
IsRefused IsGood text = MatchBool (begins_with_slash text) (IsGood text → ⊥) (is_symbol_name text ≡ false)

-- there is a text, and this holds of it
abbrev pub IfText : Option (List ℕ) → (List ℕ → Type 0) → Type 0
IfText None P = ⊥
IfText (Some text) P = P text

-- the literal text that such an argument is
abbrev pub first_text : Option Expr → Option (List ℕ)
first_text None = None
first_text (Some e) = text_of e

-- the first argument is a literal text that is refused
abbrev pub IsFirstRefused : (List ℕ → Type 0) → Site → Type 0
IsFirstRefused IsGood s = IfText (first_text (first_of (args_of s))) (IsRefused IsGood)

-- an option of this label is a literal text that is refused
abbrev pub IsRefusedOption : (List ℕ → Type 0) → List ℕ → List ℕ × Expr → Type 0
IsRefusedOption IsGood label option = (bytes_eq label option.0 ≡ true) × IfText (text_of option.1) (IsRefused IsGood)

-- one of the options is such a one
abbrev pub HasRefusedOption : (List ℕ → Type 0) → List ℕ → List (List ℕ × Expr) → Type 0
HasRefusedOption IsGood label [] = ⊥
HasRefusedOption IsGood label (option ∷ options) = IsRefusedOption IsGood label option ⊎ HasRefusedOption IsGood label options

-- 9. A literal text is refused: as first argument of `cue` or `set` as a path, as first argument of `get` or `sync` as a
-- pattern, or as a `sync:` of `live_loop` as a pattern.
unfoldable pub HasRefusedPath : Site → Type 0
HasRefusedPath s =
    MatchBool (is_among (codes "cue" ∷ codes "set" ∷ []) s) (IsFirstRefused IsPathText s)
    (MatchBool (is_among (codes "get" ∷ codes "sync" ∷ []) s) (IsFirstRefused IsPatternText s)
    (MatchBool (is_call (codes "live_loop") s) (HasRefusedOption IsPatternText (codes "sync") (options_of s)) ⊥))
