-- A call whose mentions are reached keeps the rules of the reach.
use Rattle.std.proofs.Common.{◌≡◌, ◌≢◌, ℕ, zero, suc, arith, List, [], ◌∷◌, ◌++◌, Bool, true, false, cond, nat_eq, Option, Some, None, IfSome, IsTrue, Result, Ok, Err, refl, sym, ap, ◌∙◌, subst, inl, inr, true≢false}
use Rattle.std.specs.Prelude.{codes, ok_or, option_to_list, ◌&&◌, ◌||◌}
use Rattle.std.specs.Option.{option_map}
use Rattle.std.specs.List.{Contains, flat_map, AllByRecursion, All}
use Rattle.std.specs.Str.{bytes_eq}
use Rattle.std.proofs.lemmas.List.Elements.{Contains-append_left, Contains-append_right}
use Rattle.std.proofs.lemmas.Slice.Eq.{bytes_eq-Decides}
use Rattle.vt_frac.specs.Fraction.{Fraction}
use Rattle.vt_frac.specs.Names.{is_symbol_name}
use Rattle.vt_path.specs.declared.inner_path.InnerKind.{InnerKind}
use Rattle.vt_path.specs.declared.inner_path.InnerKind.TheVariants.{Body as BodyPath, Def as DefPath, Named as NamedPath, Looped as LoopedPath}
use Rattle.vt_path.specs.Inner.{inner_of}
use Rattle.vt_path.specs.Match.{is_inner, literal_of as literal_pattern}
use Rattle.vt_path.proofs.LiteralLemmas.{literal_alone}
use Rattle.vt_path.proofs.PathDecided.{path_of}
use Rattle.vt_ring.specs.Answers.{and_then}
use Rattle.vt_ring.specs.Signatures.{one_of, option_named, symbol_argument}
use Rattle.vt_table.specs.Calls.{call_named, call_row}
use Rattle.vt_table.specs.declared.calls.CallName.{CallName}
use Rattle.vt_table.specs.declared.calls.CallName.TheVariants.{At, Cue, Define, InThread, LiveLoop, Set as SetCall}
use Rattle.vt_tree.specs.declared.expression.Expr.{Expr}
use Rattle.vt_tree.specs.declared.expression.Literal.{Literal}
use Rattle.vt_tree.specs.declared.expression.Literal.TheVariants as literal
use Rattle.vt_tree.specs.declared.statement.AssignOp.{AssignOp}
use Rattle.vt_tree.specs.declared.statement.AssignOp.TheVariants as assign_by
use Rattle.vt_value.specs.declared.fault.FaultKind.{FaultKind}
use Rattle.vt_value.specs.declared.fault.FaultKind.TheVariants.{BadPath, WrongKind}
use Rattle.vt_value.specs.declared.value.Value.{Value, out-Value, out-roll-Value}
use Rattle.vt_value.specs.declared.value.Value.TheOpen.{Value-F}
use Rattle.vt_value.specs.declared.value.Value.TheFolds.{every_here-Value}
use Rattle.vt_value.specs.declared.value.Value.TheVariants.{Sym, Text, rolls-Sym, rolls-Text}
use Rattle.vt_value.specs.Kinds.{symbol_layer}
use Rattle.vt_value.specs.Limits.{IsWithin, WithinLayer}
use Rattle.vt_check.specs.Written.{first_of, literal_of}
use Rattle.vt_check.specs.Conditions.{begins_with_slash, has_no_dot}
use Rattle.vt_event.specs.declared.place.Place.{Place}
use Rattle.vt_event.specs.declared.references.BlockRef.{BlockRef}
use Rattle.vt_event.specs.Event.{EventView}
use Rattle.vt_event.specs.Pairs.{Pairs}
use Rattle.vt_reach.specs.declared.found.Row.{Row}
use Rattle.vt_reach.specs.declared.mention.Key.TheVariants.{Function, Loop}
use Rattle.vt_reach.specs.declared.mention.Mention.{Mention}
use Rattle.vt_reach.specs.declared.mention.Mention.TheVariants.{Writes, WritesAny, Runs}
use Rattle.vt_reach.specs.Mentions.{Argument, assigns, call_mentions, named_path, runs_name, runs_unless, sends, sends_argument, sends_literal, text_path, writes_if}
use Rattle.vt_reach.specs.Reach.{Reaches}
use Rattle.vt_reach.proofs.Places.{at_contains, none_some, one_some}
use Rattle.vt_run.specs.declared.action.Answer.TheVariants.{Found}
use Rattle.vt_run.specs.declared.texts.Texts.{Texts}
use Rattle.vt_run.specs.calls.Arguments.{Given, all_args, path_argument, path_layer, path_text_of}
use Rattle.vt_run.specs.Operators.{literal_value}
use Rattle.vt_run.proofs.facts.ArgumentFacts.{path_argument_gives}
use Rattle.vt_run.proofs.facts.Known.{IsGivenWithin}
use Rattle.vt_run.proofs.growth.Rules.{AreAsWritten, IsAsWritten, MayAssign, MayName, MayRun, MayRunBy, Rules}
use Rattle.vt_reached.specs.Fit.{FitsBody, rows_of_texts}
use Rattle.vt_reached.proofs.CallNames.{cue_called, define_called, no_row, set_called}
use Rattle.vt_reached.proofs.ReachRules.{AllReached, IsCovered, MayTell, WritesPath, reach_rules}
use Rattle.vt_reached.proofs.TextRows.{reached_through}

pub here : {X : Type 0} (x : X) (xs : List X) → Contains (x ∷ xs) x
here x xs = at_contains (x ∷ xs) 0 x refl

pub ok_one : {A E : Type 0} {x y : A} → ◌≡◌ {A = Result A E} (Ok x) (Ok y) → x ≡ y
ok_one e = cc

-- of what a call is given the first argument, as it is written
pub first_written : (exprs : List Expr) (values : List Value) (to : Value) (rest : List Value) → AreAsWritten exprs values → values ≡ to ∷ rest → (e : Expr) × (more : List Expr) × (exprs ≡ e ∷ more) × IsAsWritten (literal_of e) to
first_written [] [] to rest h is = absurd (let z : [] ≡ to ∷ rest = is in cc)
first_written [] (value ∷ values) to rest h is = absurd h
first_written (e ∷ exprs) [] to rest h is = absurd h
first_written (e ∷ exprs) (value ∷ values) to rest h is = let same : value ≡ to = cc in (e, exprs, refl, subst (IsAsWritten (literal_of e)) same h.0)

-- a call that stands after no dot has no receiver
pub args_alone : (name : List ℕ) (given : Given) → has_no_dot (call_row name) ≡ true → IfSome given.receiver (λ value. has_no_dot (call_row name) ≡ false) → all_args given ≡ given.args
args_alone name given alone h = go given.receiver h
  where
    go : (o : Option Value) → IfSome o (λ value. has_no_dot (call_row name) ≡ false) → option_to_list o ++ given.args ≡ given.args
    go None h = refl
    go (Some value) h = absurd (true≢false (sym alone ∙ h))

symbol_value : (name : List ℕ) → out-Value (Sym name) ≡ Value-F.Sym name
symbol_value name = ap out-Value (sym (rolls-Sym name)) ∙ out-roll-Value (Value-F.Sym name)

text_value : (bytes : List ℕ) → out-Value (Text bytes) ≡ Value-F.Text bytes
text_value bytes = ap out-Value (sym (rolls-Text bytes)) ∙ out-roll-Value (Value-F.Text bytes)

-- the name of a symbol within the limits has its form
pub symbol_within : (name : List ℕ) → IsWithin (Sym name) → is_symbol_name name ≡ true
unfolding IsWithin
symbol_within name h = subst WithinLayer (symbol_value name) (every_here-Value WithinLayer (Sym name) h)

-- what a literal symbol names
pub symbol_named : (name other : List ℕ) → symbol_argument (Sym name) ≡ Ok other → name ≡ other
symbol_named name other e = ok_one (sym (ap (λ (l : Value-F Value). ok_or (symbol_layer l) WrongKind) (symbol_value name)) ∙ e)

text_written : (word bytes : List ℕ) (b c : Bool) (p : Option (List (List ℕ))) (path : List (List ℕ)) → cond b (ok_or p BadPath) (cond c (Ok (word ∷ bytes ∷ [])) (Err BadPath)) ≡ Ok path →
    cond b p (cond c (Some (word ∷ bytes ∷ [])) None) ≡ Some path
text_written word bytes true c None path e = absurd (let z : Err BadPath ≡ Ok path = e in cc)
text_written word bytes true c (Some p) path e = ap (λ (x : List (List ℕ)). Some x) (ok_one e)
text_written word bytes false true p path e = ap (λ (x : List (List ℕ)). Some x) (ok_one e)
text_written word bytes false false p path e = absurd (let z : Err BadPath ≡ Ok path = e in cc)

symbol_path : (word name : List ℕ) (b : Bool) → b ≡ true → cond b (Some (word ∷ name ∷ [])) None ≡ Some (word ∷ name ∷ [])
symbol_path word name true e = refl
symbol_path word name false e = absurd (true≢false (sym e))

module _ (texts : Texts) (from : Row) where
  abbrev rows : List Row
  rows = rows_of_texts texts

  abbrev pub rules : Rules
  rules = reach_rules texts from

  pub writes_path : (path : List (List ℕ)) → Reaches rows from (Writes path) → WritesPath texts from path
  writes_path path r = record { mention = Writes path; reached = r; is = refl }

  -- an event at this path
  pub tells_at : (event : EventView) (path : List (List ℕ)) → event.path ≡ Some path → FitsBody texts event.path event.body → WritesPath texts from path → rules.Tells event
  tells_at event path at known w took = record { known = λ other is. known; writes = λ other is. subst (WritesPath texts from) (one_some (sym at ∙ is)) w }

  -- a function and a live loop that are run
  pub may_run : (name : List ℕ) → Reaches rows from (Runs (Function name)) → MayRun rules name
  may_run name r event kept heard is =
      let h = heard event refl in
      let there = (literal_alone (inner_of DefPath name) h.path).0 h.matched in
      let fits = subst (FitsBody texts event.path) is h.known in
      let body_of = fits.2.function name (h.at ∙ ap (λ (x : List (List ℕ)). Some x) there) in
      record { block = fits.0; is = fits.1; covers = λ mention s. reached_through from (Runs (Function name)) r refl fits.1.among body_of mention s }

  pub may_loop : (name : List ℕ) → Reaches rows from (Runs (Loop name)) → MayRunBy rules (literal_pattern (inner_of BodyPath name))
  may_loop name r event kept heard is =
      let h = heard event refl in
      let there = (literal_alone (inner_of BodyPath name) h.path).0 h.matched in
      let fits = subst (FitsBody texts event.path) is h.known in
      let body_of = fits.2.loop name (h.at ∙ ap (λ (x : List (List ℕ)). Some x) there) in
      record { block = fits.0; is = fits.1; covers = λ mention s. reached_through from (Runs (Loop name)) r refl fits.1.among body_of mention s }

  -- a name that is called
  pub may_name : (name : List ℕ) → AllReached texts from (runs_name name) → MayName rules name
  may_name name all none = may_run name (all (Runs (Function name)) (subst (λ o. Contains (runs_unless o name) (Runs (Function name))) (sym (no_row name none)) (here (Runs (Function name)) [])))

  pub may_assign : (op : AssignOp) (name : List ℕ) → AllReached texts from (assigns op name) → MayAssign rules op name
  may_assign assign_by.Set name all = tt
  may_assign assign_by.Add name all = may_name name all
  may_assign assign_by.Sub name all = may_name name all
  may_assign assign_by.Mul name all = may_name name all

  -- what a call of a function mentions
  other_name : (word name : List ℕ) (which : CallName) → call_named word ≡ Some which → call_named name ≡ None → bytes_eq word name ≡ false
  other_name word name which is none = go (bytes_eq word name) refl
    where
      go : (b : Bool) → bytes_eq word name ≡ b → b ≡ false
      go true e = absurd (none_some (sym none ∙ ap call_named (sym ((bytes_eq-Decides word name).0 e)) ∙ is))
      go false e = refl

  pub function_mentions : (name : List ℕ) (first : Option Argument) → call_named name ≡ None → call_mentions name first ≡ runs_name name
  unfolding call_mentions
  function_mentions name first none =
      rw (other_name (codes "cue") name Cue cue_called none, other_name (codes "set") name SetCall set_called none, other_name (codes "define") name Define define_called none) refl

  any_path : (path : List (List ℕ)) → is_inner path ≡ false → AllReached texts from (WritesAny ∷ []) → WritesPath texts from path
  any_path path outer all = record { mention = WritesAny; reached = all WritesAny (here WritesAny []); is = outer }

  some_path : (path : List (List ℕ)) (o : Option (List (List ℕ))) → o ≡ Some path → AllReached texts from (writes_if o) → WritesPath texts from path
  some_path path o is all = writes_path path (subst (λ p. AllReached texts from (writes_if p)) is all (Writes path) (here (Writes path) []))

  -- what `cue` and `set` write, by the argument as it is written
  sent : (word : List ℕ) (argument : Argument) (to : Value) (path : List (List ℕ)) → IsWithin to → IsAsWritten argument to → path_argument word to ≡ Ok (Ok path) → is_inner path ≡ false → AllReached texts from (sends_argument word argument) → WritesPath texts from path
  unfolding path_argument
  sent word None to path within is e outer all = any_path path outer all
  sent word (Some literal.Nil) to path within is e outer all = any_path path outer all
  sent word (Some (literal.Bool b)) to path within is e outer all = any_path path outer all
  sent word (Some (literal.Whole n)) to path within is e outer all = any_path path outer all
  sent word (Some (literal.Decimal f)) to path within is e outer all = any_path path outer all
  sent word (Some (literal.Text bytes)) to path within is e outer all =
      let layer : out-Value to ≡ Value-F.Text bytes = ap out-Value is ∙ text_value bytes in
      let named : path_text_of word bytes ≡ Ok path = ok_one (sym (ap (λ (l : Value-F Value). ok_or (path_layer word l) WrongKind) layer) ∙ e) in
      some_path path (text_path word bytes) (text_written word bytes (begins_with_slash bytes) (is_symbol_name bytes) (path_of bytes) path named) all
  sent word (Some (literal.Sym name)) to path within is e outer all =
      let layer : out-Value to ≡ Value-F.Sym name = ap out-Value is ∙ symbol_value name in
      let named : word ∷ name ∷ [] ≡ path = ok_one (ok_one (sym (ap (λ (l : Value-F Value). ok_or (path_layer word l) WrongKind) layer) ∙ e)) in
      let symbol : is_symbol_name name ≡ true = symbol_within name (subst IsWithin is within) in
      some_path path (named_path word name) (symbol_path word name (is_symbol_name name) symbol ∙ ap (λ (x : List (List ℕ)). Some x) named) all

  -- by the arguments as they are written
  pub sent_by : (word : List ℕ) (exprs : List Expr) (values : List Value) (to : Value) (rest : List Value) (path : List (List ℕ)) → AreAsWritten exprs values → values ≡ to ∷ rest → IsWithin to → path_argument word to ≡ Ok (Ok path) → is_inner path ≡ false →
      AllReached texts from (sends word (option_map literal_of (first_of exprs))) → WritesPath texts from path
  sent_by word exprs values to rest path written are within e outer all =
      let first = first_written exprs values to rest written are in
      sent word (literal_of first.0) to path within first.3 e outer (subst (λ (xs : List Expr). AllReached texts from (sends word (option_map literal_of (first_of xs)))) first.2 all)
