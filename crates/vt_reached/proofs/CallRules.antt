-- Each call keeps the rules of the reach, where what it mentions is reached and its block is a row.
use Rattle.std.proofs.Common.{◌≡◌, ℕ, zero, suc, arith, List, [], ◌∷◌, ◌++◌, map, Bool, true, false, cond, not, nat_eq, Option, Some, None, IfSome, IsTrue, IfOk, Result, Ok, Err, refl, sym, ap, ◌∙◌, subst, inl, inr, true≢false}
use Rattle.std.specs.Prelude.{codes, ◌&&◌, ◌||◌, is_none, option_and_then, find}
use Rattle.std.specs.Option.{option_map}
use Rattle.std.specs.List.{Contains, flat_map, list_any}
use Rattle.std.specs.Str.{bytes_eq}
use Rattle.std.proofs.lemmas.Bool.{eqb-true}
use Rattle.std.proofs.lemmas.List.Elements.{All-head, Contains-append_left, Contains-append_right}
use Rattle.std.proofs.lemmas.Result.{IfOk-at_ok}
use Rattle.std.proofs.lemmas.Slice.Eq.{bytes_eq-Decides}
use Rattle.vt_frac.specs.Fraction.{Fraction}
use Rattle.vt_frac.specs.Names.{is_symbol_name}
use Rattle.vt_path.specs.declared.inner_path.InnerKind.TheVariants.{Body as BodyPath, Def as DefPath, Named as NamedPath, Looped as LoopedPath}
use Rattle.vt_path.specs.Byte.{IsPathByte}
use Rattle.vt_path.specs.Inner.{inner_of}
use Rattle.vt_path.specs.Match.{is_inner}
use Rattle.vt_path.specs.Path.{IsPath, IsSegment}
use Rattle.vt_path.proofs.ByteLemmas.{not_path_byte}
use Rattle.vt_ring.specs.Answers.{and_then}
use Rattle.vt_ring.specs.Signatures.{one_of, option_named, symbol_argument}
use Rattle.vt_table.specs.Calls.{call_named, call_row}
use Rattle.vt_table.specs.declared.calls.CallName.TheVariants.{At, Cue, Define, InThread, LiveLoop, Set as SetCall}
use Rattle.vt_tree.specs.declared.expression.Call.{Call, out-Call}
use Rattle.vt_tree.specs.declared.expression.Expr.{Expr}
use Rattle.vt_tree.specs.declared.expression.Literal.{Literal}
use Rattle.vt_tree.specs.declared.expression.Literal.TheVariants as literal
use Rattle.vt_tree.specs.declared.expression.Node.TheOpen.{Call-F}
use Rattle.vt_tree.specs.declared.statement.Block.{Block, out-Block}
use Rattle.vt_tree.specs.Layers.{OfTrees}
use Rattle.vt_tree.specs.Parts.{Context, Site}
use Rattle.vt_value.specs.declared.fault.FaultKind.{FaultKind}
use Rattle.vt_value.specs.declared.value.Value.{Value}
use Rattle.vt_value.specs.declared.value.Value.TheVariants.{Sym}
use Rattle.vt_value.specs.Limits.{AreWithin, IsWithin}
use Rattle.vt_check.specs.Allowed.{IsSound, checks}
use Rattle.vt_check.specs.Conditions.{has_label_without_symbol, has_no_dot, is_misnamed, is_other_than_symbol}
use Rattle.vt_check.specs.Written.{first_of, is_among, literal_of, symbol_in, symbol_of}
use Rattle.vt_event.specs.declared.place.Place.{Place}
use Rattle.vt_event.specs.EventsByKind.{body_event, cue_event, defined_event, set_event, started_event}
use Rattle.vt_event.specs.Pairs.{Pairs}
use Rattle.vt_reach.specs.declared.found.BlockUse.{BlockUse}
use Rattle.vt_reach.specs.declared.found.Row.{Row}
use Rattle.vt_reach.specs.declared.mention.Key.{Key}
use Rattle.vt_reach.specs.declared.mention.Key.TheVariants.{Function, Loop}
use Rattle.vt_reach.specs.declared.mention.Mention.{Mention}
use Rattle.vt_reach.specs.declared.mention.Mention.TheVariants.{Writes, Runs}
use Rattle.vt_reach.specs.Mentions.{Argument, block_key, block_mentions, call_mentions, defines, if_named, key_by, loops, name_given, name_in, name_of, names_by, names_thread, runs_name, sends}
use Rattle.vt_reach.specs.Reach.{Reaches, mentioned, row}
use Rattle.vt_reach.specs.TreeMentions.{inside_found}
use Rattle.vt_reach.specs.private.Given.{labelled_argument}
use Rattle.vt_reach.proofs.Places.{at_contains, none_some, one_some}
use Rattle.vt_run.specs.declared.role.Role.{Role}
use Rattle.vt_run.specs.declared.role.Role.TheVariants.{Plain, Named, Looped, Timed}
use Rattle.vt_run.specs.declared.texts.Texts.{Texts}
use Rattle.vt_run.specs.Actions.{name_path}
use Rattle.vt_run.specs.calls.Arguments.{Given, a_symbol, all_args, path_argument}
use Rattle.vt_run.specs.calls.ThreadCalls.{LoopParts, loop_parts, loop_role, thread_role, wait_option}
use Rattle.vt_run.proofs.facts.ArgumentFacts.{IsWrittenPath, path_argument_gives, role_fact, symbol_fact}
use Rattle.vt_run.proofs.facts.Known.{IsGivenWithin}
use Rattle.vt_run.proofs.facts.NameFacts.{cue_segment, set_segment}
use Rattle.vt_run.proofs.growth.Rules.{AreAsWritten, IsAsWritten, IsGivenAs, MayCall, MayDo, MayStart, OptionsAsWritten, number_in, ref_of}
use Rattle.vt_reached.specs.Fit.{FitsRole, IsRow, rows_of_texts}
use Rattle.vt_reached.proofs.AllowedCalls.{args_alone, first_written, function_mentions, here, may_name, ok_one, rules, sent_by, symbol_named, symbol_within, tells_at, writes_path}
use Rattle.vt_reached.proofs.CallNames.{cue_alone, cue_name, define_alone, define_name, in_thread_name, live_loop_alone, live_loop_name, set_alone, set_name}
use Rattle.vt_reached.proofs.ReachRules.{AllReached, IsCovered, reach_rules}
use Rattle.vt_reached.proofs.TextRows.{reached_by}

-- a path that a user may write is no inner one
path_outer : (path : List (List ℕ)) → IsPath path → is_inner path ≡ false
path_outer [] good = refl
path_outer ([] ∷ path) good = refl
path_outer ((b ∷ bytes) ∷ path) good = go (nat_eq b 33) refl
  where
    go : (t : Bool) → nat_eq b 33 ≡ t → t ≡ false
    go true e = absurd (not_path_byte b (inr (inl (eqb-true b 33 e))) (All-head IsPathByte b bytes (All-head IsSegment (b ∷ bytes) path good.segments).bytes))
    go false e = refl

written_outer : (value : Value) (path : List (List ℕ)) (word : List ℕ) → IsSegment word → IsWithin value → path_argument word value ≡ Ok (Ok path) → is_inner path ≡ false
written_outer value path word w within e =
    let named = IfOk-at_ok (λ (named : Result (List (List ℕ)) FaultKind). IfOk named (IsWrittenPath (Unit {0}))) e (path_argument_gives (Unit {0}) word w value (λ l. within)) in
    path_outer path (named.good tt)

-- what calls by these names mention
cue_mentions : (first : Option Argument) → call_mentions (codes "cue") first ≡ sends (codes "cue") first
unfolding call_mentions
cue_mentions first = refl

set_mentions : (first : Option Argument) → call_mentions (codes "set") first ≡ sends (codes "set") first
unfolding call_mentions
set_mentions first = refl

define_mentions : (first : Option Argument) → call_mentions (codes "define") first ≡ if_named defines (name_given first)
unfolding call_mentions
define_mentions first = refl

define_key : (first : Option Argument) → block_key (codes "define") first ≡ key_by Function (name_given first)
unfolding block_key
define_key first = refl

loop_key : (first : Option Argument) → block_key (codes "live_loop") first ≡ key_by Loop (name_given first)
unfolding block_key
loop_key first = refl

loop_mentions : (first : Option Argument) (options : List (List ℕ × Argument)) → block_mentions (codes "live_loop") first options ≡ if_named loops (name_given first)
unfolding block_mentions
loop_mentions first options = refl

thread_mentions : (first : Option Argument) (options : List (List ℕ × Argument)) → block_mentions (codes "in_thread") first options ≡ flat_map names_by options
unfolding block_mentions
thread_mentions first options = refl

-- a name that is called by its argument

one_symbol : (args : List Value) (name : List ℕ) → a_symbol args ≡ Ok name → (value : Value) × (args ≡ value ∷ []) × (symbol_argument value ≡ Ok name)
one_symbol [] name e = absurd cc
one_symbol (value ∷ []) name e = (value, refl, e)
one_symbol (a ∷ b ∷ args) name e = absurd cc

symbol_literal : (o : Option Literal) (name : List ℕ) → option_and_then symbol_in o ≡ Some name → o ≡ Some (literal.Sym name)
symbol_literal None name e = absurd (none_some e)
symbol_literal (Some literal.Nil) name e = absurd (none_some e)
symbol_literal (Some (literal.Bool b)) name e = absurd (none_some e)
symbol_literal (Some (literal.Whole n)) name e = absurd (none_some e)
symbol_literal (Some (literal.Decimal f)) name e = absurd (none_some e)
symbol_literal (Some (literal.Text bytes)) name e = absurd (none_some e)
symbol_literal (Some (literal.Sym other)) name e = ap (λ (n : List ℕ). Some (literal.Sym n)) (one_some e)

-- an argument that the checks allow as a name is the literal symbol of the name that its value has
symbol_as_written : (e : Expr) (value : Value) (name : List ℕ) → IsAsWritten (literal_of e) value → symbol_argument value ≡ Ok name → (symbol_of e ≡ None → ⊥) → literal_of e ≡ Some (literal.Sym name)
symbol_as_written e value name written is there = go (symbol_of e) refl
  where
    named : (other : List ℕ) → literal_of e ≡ Some (literal.Sym other) → literal_of e ≡ Some (literal.Sym name)
    named other is_literal =
        let value_is : value ≡ Sym other = subst (λ o. IsAsWritten o value) is_literal written in
        let same : other ≡ name = symbol_named other name (subst (λ v. symbol_argument v ≡ Ok name) value_is is) in
        is_literal ∙ ap (λ (n : List ℕ). Some (literal.Sym n)) same

    go : (o : Option (List ℕ)) → symbol_of e ≡ o → literal_of e ≡ Some (literal.Sym name)
    go None none = absurd (there none)
    go (Some other) some = named other (symbol_literal (literal_of e) other some)

name_of_symbol : (name : List ℕ) (b : Bool) → b ≡ true → cond b (Some name) None ≡ Some name
name_of_symbol name true e = refl
name_of_symbol name false e = absurd (true≢false (sym e))

misnamed_by : (names : Bool) (other : Bool) (options : Bool) → names ≡ true → other ≡ true → (names && other || options) ≡ true
misnamed_by true true options e f = refl
misnamed_by true false options e f = absurd (true≢false (sym f))
misnamed_by false other options e f = absurd (true≢false (sym e))

misnamed_label : (first call label : Bool) → call ≡ true → label ≡ true → (first || call && label) ≡ true
misnamed_label true call label e f = refl
misnamed_label false true true e f = refl
misnamed_label false true false e f = absurd (true≢false (sym f))
misnamed_label false false label e f = absurd (true≢false (sym e))

module _ (call : Call) (context : Context) (sound : IsSound (record { context = context; call = call })) where
  abbrev c : OfTrees Call-F
  c = out-Call call

  abbrev pub first : Option Argument
  first = option_map literal_of (first_of c.args)

  not_misnamed : is_misnamed (record { context = context; call = call }) ≡ true → ⊥
  unfolding IsSound checks
  not_misnamed e = sound.1.0 e

  symbol_there : is_among (codes "define" ∷ codes "live_loop" ∷ []) (record { context = context; call = call }) ≡ true → (e : Expr) (more : List Expr) → c.args ≡ e ∷ more → symbol_of e ≡ None → ⊥
  unfolding is_misnamed
  symbol_there there e more are none = not_misnamed (misnamed_by _ _ _ there (ap (λ (xs : List Expr). is_other_than_symbol (first_of xs)) are ∙ ap is_none none))

  label_there : c.name ≡ codes "in_thread" → has_label_without_symbol (codes "name") c.options ≡ true → ⊥
  unfolding is_misnamed
  label_there name_is label = not_misnamed (misnamed_label _ _ _ (ap (bytes_eq (codes "in_thread")) name_is) label)

  define_there : c.name ≡ codes "define" → is_among (codes "define" ∷ codes "live_loop" ∷ []) (record { context = context; call = call }) ≡ true
  define_there name_is = ap (λ (n : List ℕ). list_any (λ name. bytes_eq name n) (codes "define" ∷ codes "live_loop" ∷ [])) name_is

  loop_there : c.name ≡ codes "live_loop" → is_among (codes "define" ∷ codes "live_loop" ∷ []) (record { context = context; call = call }) ≡ true
  loop_there name_is = ap (λ (n : List ℕ). list_any (λ name. bytes_eq name n) (codes "define" ∷ codes "live_loop" ∷ [])) name_is

  -- the name by which a function or a live loop is called
  called_name : is_among (codes "define" ∷ codes "live_loop" ∷ []) (record { context = context; call = call }) ≡ true → (args : List Value) → AreAsWritten c.args args → (name : List ℕ) → a_symbol args ≡ Ok name → is_symbol_name name ≡ true → name_given first ≡ Some name
  called_name there args written name is symbol =
      let one = one_symbol args name is in
      let at = first_written c.args args one.0 [] written one.1 in
      let literal_is = symbol_as_written at.0 one.0 name at.3 one.2 (symbol_there there at.0 at.1 at.2) in
      ap (λ (xs : List Expr). name_given (option_map literal_of (first_of xs))) at.2 ∙ ap name_of literal_is ∙ name_of_symbol name (is_symbol_name name) symbol

-- the option by which a thread is named
thread_named : (options : List (List ℕ × Expr)) (pairs : Pairs) (value : Value) (name : List ℕ) → OptionsAsWritten options pairs → option_named (codes "name") pairs ≡ Some value → symbol_argument value ≡ Ok name → is_symbol_name name ≡ true →
    (has_label_without_symbol (codes "name") options ≡ true → ⊥) → Contains (flat_map names_by (map labelled_argument options)) (Writes (inner_of NamedPath name))
thread_named [] [] value name written is named symbol all = absurd (none_some is)
thread_named [] (pair ∷ pairs) value name written is named symbol all = absurd written
thread_named (option ∷ options) [] value name written is named symbol all = absurd written
thread_named (option ∷ options) (pair ∷ pairs) value name written is named symbol all =
    go (bytes_eq pair.0 (codes "name")) refl is (λ later. thread_named options pairs value name written.2 later named symbol (λ label. all (or_later _ _ label)))
  where
    or_later : (a b : Bool) → b ≡ true → (a || b) ≡ true
    or_later true b e = refl
    or_later false b e = e

    or_first : (a b : Bool) → a ≡ true → (a || b) ≡ true
    or_first true b e = refl
    or_first false b e = absurd (true≢false (sym e))

    both_so : (a b : Bool) → a ≡ true → b ≡ true → (a && b) ≡ true
    both_so true b e f = f
    both_so false b e f = absurd (true≢false (sym e))

    mention : List Mention
    mention = names_by (labelled_argument option)

    labelled_is : bytes_eq (codes "name") option.0 ≡ true → literal_of option.1 ≡ Some (literal.Sym name) → mention ≡ names_thread name
    labelled_is label literal_is =
        ap (λ (b : Bool). cond b (if_named names_thread (name_of (literal_of option.1))) []) label
        ∙ ap (λ (o : Option Literal). if_named names_thread (name_of o)) literal_is
        ∙ ap (if_named names_thread) (name_of_symbol name (is_symbol_name name) symbol)

    found_here : bytes_eq pair.0 (codes "name") ≡ true → pair.1 ≡ value → Contains (mention ++ flat_map names_by (map labelled_argument options)) (Writes (inner_of NamedPath name))
    found_here e value_is =
        let label_is : option.0 ≡ codes "name" = sym written.0 ∙ (bytes_eq-Decides pair.0 (codes "name")).0 e in
        let label : bytes_eq (codes "name") option.0 ≡ true = ap (bytes_eq (codes "name")) label_is in
        let literal_is = symbol_as_written option.1 value name (subst (IsAsWritten (literal_of option.1)) value_is written.1) named (λ none. all (or_first _ _ (both_so _ _ label (ap is_none none)))) in
        Contains-append_left mention (flat_map names_by (map labelled_argument options)) (Writes (inner_of NamedPath name))
        (subst (λ ms. Contains ms (Writes (inner_of NamedPath name))) (sym (labelled_is label literal_is)) (here (Writes (inner_of NamedPath name)) []))

    go : (b : Bool) → bytes_eq pair.0 (codes "name") ≡ b → option_map (λ (option : List ℕ × Value). option.1) (cond b (Some pair) (find (λ (option : List ℕ × Value). bytes_eq option.0 (codes "name")) pairs)) ≡ Some value →
        (option_named (codes "name") pairs ≡ Some value → Contains (flat_map names_by (map labelled_argument options)) (Writes (inner_of NamedPath name))) →
        Contains (mention ++ flat_map names_by (map labelled_argument options)) (Writes (inner_of NamedPath name))
    go true e is later = found_here e (one_some is)
    go false e is later = Contains-append_right mention (flat_map names_by (map labelled_argument options)) (Writes (inner_of NamedPath name)) (later is)

parts_name : (given : Given) (parts : LoopParts) → loop_parts given ≡ Ok parts → a_symbol (all_args given) ≡ Ok parts.name
parts_name given parts e = named (a_symbol (all_args given)) refl e
  where
    waits : (name : List ℕ) (wait : _) → and_then wait (λ wait. Ok (record { name = name; wait = wait; init = option_named (codes "init") given.options })) ≡ Ok parts → name ≡ parts.name
    waits name (Ok wait) e = ap (λ (p : LoopParts). p.name) (ok_one e)
    waits name (Err kind) e = absurd (let z : Err kind ≡ Ok parts = e in cc)

    named : (o : Result (List ℕ) FaultKind) → a_symbol (all_args given) ≡ o →
        and_then o (λ name. and_then (wait_option (option_named (codes "sync") given.options)) (λ wait. Ok (record { name = name; wait = wait; init = option_named (codes "init") given.options }))) ≡ Ok parts → o ≡ Ok parts.name
    named (Ok name) is e = ap (λ (n : List ℕ). Ok n) (waits name (wait_option (option_named (codes "sync") given.options)) e)
    named (Err kind) is e = absurd (let z : Err kind ≡ Ok parts = e in cc)

-- the second byte of the first word of a path
abbrev mark : List (List ℕ) → ℕ
mark ((a ∷ b ∷ bytes) ∷ words) = b
mark _ = 0

abbrev last : List (List ℕ) → List ℕ
last (word ∷ name ∷ rest) = name
last _ = []

module _ (texts : Texts) (from : Row) (text : ℕ) where
  -- the block of a call, as the reach has it
  pub record IsFoundBlock (key : Option Key) (mentions : List Mention) (block : Block) : Type 0 where
    pub is : IsRow texts (ref_of text (out-Block block).number) (row text (out-Block block).number (record { body_of = key; mentions = mentions ++ (inside_found block).mentions }))
    pub reached : AllReached texts from (mentions ++ (inside_found block).mentions)

  abbrev pub IsFoundIn : Option Key → List Mention → Option Block → Type 0
  IsFoundIn key mentions None = Unit {0}
  IsFoundIn key mentions (Some block) = IsFoundBlock key mentions block

  -- so of the block with this number
  record IsFoundAt (key : Option Key) (mentions : List Mention) (number : ℕ) : Type 0 where
    covered : IsCovered texts from (ref_of text number)
    key_is : covered.block.body_of ≡ key
    own : (m : Mention) → Contains mentions m → Contains covered.block.mentions m
    reached : AllReached texts from mentions

  found_at : (key : Option Key) (mentions : List Mention) (o : Option Block) → IsFoundIn key mentions o → (number : ℕ) → number_in o ≡ Some number → IsFoundAt key mentions number
  found_at key mentions None h number is = absurd (none_some is)
  found_at key mentions (Some block) h number is =
      let inside = (inside_found block).mentions in
      let block_row = row text (out-Block block).number (record { body_of = key; mentions = mentions ++ inside }) in
      subst (IsFoundAt key mentions) (one_some is)
      (record {
        covered = record { block = block_row; is = h.is; covers = λ m r. reached_by block_row m h.reached r };
        key_is = refl;
        own = λ m c. Contains-append_left mentions inside m c;
        reached = λ m c. h.reached m (Contains-append_left mentions inside m c);
      })

  module _ (call : Call) (context : Context) (sound : IsSound (record { context = context; call = call })) where
    abbrev own_options : List (List ℕ × Argument)
    own_options = map labelled_argument (out-Call call).options

    abbrev own_key : Option Key
    own_key = block_key (out-Call call).name (first call context sound)

    abbrev own_mentions : List Mention
    own_mentions = block_mentions (out-Call call).name (first call context sound) own_options

    module _ (all : AllReached texts from (call_mentions (out-Call call).name (first call context sound))) (h : IsFoundIn own_key own_mentions (out-Call call).block) (given : Given) (g : IsGivenAs (reach_rules texts from) (out-Call call) given) where
      abbrev name : List ℕ
      name = (out-Call call).name

      abbrev starter : Option Argument
      starter = first call context sound

      alone : (word : List ℕ) → name ≡ word → has_no_dot (call_row word) ≡ true → all_args given ≡ given.args
      alone word name_is no_dot = args_alone name given (ap (λ (n : List ℕ). has_no_dot (call_row n)) name_is ∙ no_dot) g.receiver

      first_within : (to : Value) (rest : List Value) → all_args given ≡ to ∷ rest → IsWithin to
      first_within to rest are = (subst AreWithin are g.within.args).0

      symbol_is : (function : List ℕ) → a_symbol (all_args given) ≡ Ok function → is_symbol_name function ≡ true
      symbol_is function e = symbol_fact given function e g.within

      named_by : (word function : List ℕ) → name ≡ word → has_no_dot (call_row word) ≡ true → is_among (codes "define" ∷ codes "live_loop" ∷ []) (record { context = context; call = call }) ≡ true → a_symbol (all_args given) ≡ Ok function → name_given starter ≡ Some function
      named_by word function name_is no_dot there e =
          called_name call context sound there given.args g.args function (subst (λ args. a_symbol args ≡ Ok function) (alone word name_is no_dot) e) (symbol_is function e)

      block_at : (number : ℕ) → number_in (out-Call call).block ≡ Some number → IsFoundAt own_key own_mentions number
      block_at number is = found_at own_key own_mentions (out-Call call).block h number is

      cues : call_named name ≡ Some Cue → (to : Value) (rest : List Value) (path : List (List ℕ)) → all_args given ≡ to ∷ rest → path_argument (codes "cue") to ≡ Ok (Ok path) → (place : Place) (value : Value) → (rules texts from).Tells (cue_event place path value)
      cues which to rest path are e place value =
          let name_is = cue_name name which in
          let outer = written_outer to path (codes "cue") cue_segment (first_within to rest are) e in
          let reached = subst (AllReached texts from) (ap (λ (n : List ℕ). call_mentions n starter) name_is ∙ cue_mentions starter) all in
          tells_at texts from (cue_event place path value) path refl tt (sent_by texts from (codes "cue") (out-Call call).args given.args to rest path g.args (sym (alone (codes "cue") name_is cue_alone) ∙ are) (first_within to rest are) e outer reached)

      sets : call_named name ≡ Some SetCall → (to : Value) (rest : List Value) (path : List (List ℕ)) → all_args given ≡ to ∷ rest → path_argument (codes "set") to ≡ Ok (Ok path) → (place : Place) (value : Value) → (rules texts from).Tells (set_event place path value)
      sets which to rest path are e place value =
          let name_is = set_name name which in
          let outer = written_outer to path (codes "set") set_segment (first_within to rest are) e in
          let reached = subst (AllReached texts from) (ap (λ (n : List ℕ). call_mentions n starter) name_is ∙ set_mentions starter) all in
          tells_at texts from (set_event place path value) path refl tt (sent_by texts from (codes "set") (out-Call call).args given.args to rest path g.args (sym (alone (codes "set") name_is set_alone) ∙ are) (first_within to rest are) e outer reached)

      told : call_named name ≡ Some Define → (function : List ℕ) (number : ℕ) → a_symbol (all_args given) ≡ Ok function → number_in (out-Call call).block ≡ Some number → (place : Place) (locals : Pairs) → (rules texts from).Tells (defined_event place (inner_of DefPath function) (ref_of text number) locals)
      told which function number e is place locals =
          let name_is = define_name name which in
          let named = named_by (codes "define") function name_is define_alone (define_there call context sound name_is) e in
          let mentions_are = ap (λ (n : List ℕ). call_mentions n starter) name_is ∙ define_mentions starter ∙ ap (if_named defines) named in
          let key_is = ap (λ (n : List ℕ). block_key n starter) name_is ∙ define_key starter ∙ ap (key_by Function) named in
          let found = block_at number is in
          tells_at texts from (defined_event place (inner_of DefPath function) (ref_of text number) locals) (inner_of DefPath function) refl (
            found.covered.block,
            found.covered.is,
            record {
              loop = λ other same. absurd (let z : ◌≡◌ {A = ℕ} 100 98 = ap mark (one_some same) in omega (arith, z));
              function = λ other same. found.key_is ∙ key_is ∙ ap (λ (n : List ℕ). Some (Function n)) (ap last (one_some same));
            },
          )
          (writes_path texts from (inner_of DefPath function) (subst (AllReached texts from) mentions_are all (Writes (inner_of DefPath function)) (here (Writes (inner_of DefPath function)) [])))

      started : (role : Role) (number : ℕ) → thread_role (option_named (codes "name") given.options) ≡ Ok role → IsFoundAt own_key (flat_map names_by own_options) number → name ≡ codes "in_thread" → MayStart (rules texts from) role (ref_of text number)
      started role number e found name_is = go (option_named (codes "name") given.options) refl e
        where
          named : (value : Value) (thread : List ℕ) → option_named (codes "name") given.options ≡ Some value → symbol_argument value ≡ Ok thread → is_symbol_name thread ≡ true → MayStart (rules texts from) (Named thread) (ref_of text number)
          named value thread is named_so symbol =
              let among = thread_named (out-Call call).options given.options value thread g.options is named_so symbol (label_there call context sound name_is) in
              record {
                starts = (found.covered, found.own (Writes (inner_of NamedPath thread)) among);
                tells = λ path at place. tells_at texts from (started_event place path) path refl tt (writes_path texts from path (subst (λ p. Reaches (rows_of_texts texts) from (Writes p)) (one_some at) (found.reached (Writes (inner_of NamedPath thread)) among)));
              }

          by_symbol : (value : Value) (o : Result (List ℕ) FaultKind) → symbol_argument value ≡ o → option_named (codes "name") given.options ≡ Some value → and_then o (λ name. Ok (Named name)) ≡ Ok role → MayStart (rules texts from) role (ref_of text number)
          by_symbol value (Ok thread) named_so is e =
              let same : Named thread ≡ role = ok_one e in
              let symbol = role_fact given (Named thread) (ap thread_role is ∙ ap (λ (r : Result (List ℕ) FaultKind). and_then r (λ name. Ok (Named name))) named_so) g.within in
              subst (λ (r : Role). MayStart (rules texts from) r (ref_of text number)) same (named value thread is named_so symbol)
          by_symbol value (Err kind) named_so is e = absurd (let z : Err kind ≡ Ok role = e in cc)

          go : (o : Option Value) → option_named (codes "name") given.options ≡ o → thread_role o ≡ Ok role → MayStart (rules texts from) role (ref_of text number)
          go None is e = subst (λ (r : Role). MayStart (rules texts from) r (ref_of text number)) (ok_one e) (record { starts = (found.covered, tt); tells = λ path at. absurd (none_some at) })
          go (Some value) is e = by_symbol value (symbol_argument value) refl is e

      threads : call_named name ≡ Some InThread → (role : Role) (number : ℕ) → thread_role (option_named (codes "name") given.options) ≡ Ok role → number_in (out-Call call).block ≡ Some number → MayStart (rules texts from) role (ref_of text number)
      threads which role number e is =
          let name_is = in_thread_name name which in
          let mentions_are = ap (λ (n : List ℕ). block_mentions n starter own_options) name_is ∙ thread_mentions starter own_options in
          started role number e (subst (λ ms. IsFoundAt own_key ms number) mentions_are (block_at number is)) name_is

      loop_found : call_named name ≡ Some LiveLoop → (parts : LoopParts) (number : ℕ) → loop_parts given ≡ Ok parts → number_in (out-Call call).block ≡ Some number → IsFoundAt (Some (Loop parts.name)) (loops parts.name) number
      loop_found which parts number e is =
          let name_is = live_loop_name name which in
          let named = named_by (codes "live_loop") parts.name name_is live_loop_alone (loop_there call context sound name_is) (parts_name given parts e) in
          let mentions_are = ap (λ (n : List ℕ). block_mentions n starter own_options) name_is ∙ loop_mentions starter own_options ∙ ap (if_named loops) named in
          let key_is = ap (λ (n : List ℕ). block_key n starter) name_is ∙ loop_key starter ∙ ap (key_by Loop) named in
          subst (λ key. IsFoundAt key (loops parts.name) number) key_is (subst (λ ms. IsFoundAt own_key ms number) mentions_are (block_at number is))

      bodies : call_named name ≡ Some LiveLoop → (parts : LoopParts) (number : ℕ) → loop_parts given ≡ Ok parts → number_in (out-Call call).block ≡ Some number → (place : Place) (locals : Pairs) (line : ℕ) → (rules texts from).Tells (body_event place (inner_of BodyPath parts.name) (ref_of text number) locals line)
      bodies which parts number e is place locals line =
          let found = loop_found which parts number e is in
          tells_at texts from (body_event place (inner_of BodyPath parts.name) (ref_of text number) locals line) (inner_of BodyPath parts.name) refl (
            found.covered.block,
            found.covered.is,
            record {
              loop = λ other same. found.key_is ∙ ap (λ (n : List ℕ). Some (Loop n)) (ap last (one_some same));
              function = λ other same. absurd (let z : ◌≡◌ {A = ℕ} 98 100 = ap mark (one_some same) in omega (arith, z));
            },
          )
          (writes_path texts from (inner_of BodyPath parts.name) (found.reached (Writes (inner_of BodyPath parts.name)) (at_contains (loops parts.name) 1 _ refl)))

      looped : call_named name ≡ Some LiveLoop → (parts : LoopParts) (number : ℕ) → loop_parts given ≡ Ok parts → number_in (out-Call call).block ≡ Some number → MayStart (rules texts from) (loop_role parts) (ref_of text number)
      looped which parts number e is =
          let found = loop_found which parts number e is in
          record {
            starts = (found.covered, found.key_is);
            tells = λ path at place. tells_at texts from (started_event place path) path refl tt (writes_path texts from path (subst (λ p. Reaches (rows_of_texts texts) from (Writes p)) (one_some at) (found.reached (Writes (inner_of LoopedPath parts.name)) (at_contains (loops parts.name) 2 _ refl))));
          }

      may_call : MayCall (rules texts from) text (call_named name) name given (number_in (out-Call call).block)
      may_call = record {
        runs = λ none. may_name texts from name (subst (AllReached texts from) (function_mentions texts from name starter none) all) none;
        cues = cues;
        sets = sets;
        defines = told;
        threads = threads;
        bodies = bodies;
        loops = looped;
        timed = λ which number is rest value line. ((block_at number is).covered, tt);
      }

    pub may_do : AllReached texts from (call_mentions (out-Call call).name (first call context sound)) → IsFoundIn own_key own_mentions (out-Call call).block → MayDo (reach_rules texts from) text (out-Call call)
    may_do all h given g = may_call all h given g
