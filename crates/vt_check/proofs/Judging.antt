-- Each tree is allowed or refused, by the decision of each check; and so its verdict is a function.
use Rattle.std.specs.Prelude.{◌≡◌, ◌⊎◌, ℕ, Bool, true, false, List, [], ◌∷◌, Option, Some, None, bytes_eq, codes}
use Rattle.std.specs.List.{All}
use Rattle.std.specs.Bool.{MatchBool}
use Rattle.std.proofs.Common.{inl, inr, refl, ap, true≢false}
use Rattle.std.proofs.lemmas.List.Elements.{All-cons, All-nil}
use Rattle.vt_frac.proofs.Decision.{Decision, holds, fails, both, one_of, denied, is_true}
use Rattle.vt_path.specs.Path.{IsPathText}
use Rattle.vt_path.proofs.PathDecided.{path_decided}
use Rattle.vt_path.specs.Pattern.{IsPatternText}
use Rattle.vt_path.proofs.PatternDecided.{pattern_decided}
use Rattle.vt_tree.specs.declared.expression.Expr.{Expr}
use Rattle.vt_tree.specs.declared.statement.Block.{Block}
use Rattle.vt_frac.specs.Names.{is_symbol_name}
use Rattle.vt_tree.specs.Parts.{Site, sites}
use Rattle.vt_check.specs.Written.{is_call, is_among, args_of, options_of, text_of, first_of}
use Rattle.vt_check.specs.Conditions.{is_misplaced, is_misnamed, is_taken, is_no_method, is_miscounted, has_bad_option, has_wrong_block, has_wrong_params, begins_with_slash, first_text, IfText, IsRefused, IsFirstRefused, HasRefusedOption, HasRefusedPath}
use Rattle.vt_check.specs.Laws.{AlwaysOne}
use Rattle.vt_check.specs.Verdict.{Judged, judged_by}
use Rattle.vt_check.specs.Allowed.{checks, CheckRefuses, Fails, FirstFault, HasFirst, HasNone, IsAllowed, IsFaultOf, IsSound}
use Rattle.vt_check.specs.declared.fault.CheckKind.{CheckKind}
use Rattle.vt_check.specs.declared.fault.CheckKind.TheVariants.{DefinePlace, Name, Taken, Method, Count, Opt, Block as WrongBlock, Params, Path}

-- Texts that are refused

by_test : (P Q : Type 0) (b : Bool) → Decision P → Decision Q → Decision (MatchBool b P Q)
by_test P Q true p q = p
by_test P Q false p q = q

is_false : (b : Bool) → Decision (b ≡ false)
is_false true = fails true≢false
is_false false = holds refl

refused : (IsGood : List ℕ → Type 0) → ((text : List ℕ) → Decision (IsGood text)) → (text : List ℕ) → Decision (IsRefused IsGood text)
refused IsGood good text = by_test (IsGood text → ⊥) (is_symbol_name text ≡ false) (begins_with_slash text) (denied (good text)) (is_false (is_symbol_name text))

if_text : (o : Option (List ℕ)) (P : List ℕ → Type 0) → ((text : List ℕ) → Decision (P text)) → Decision (IfText o P)
if_text None P d = fails (λ h. h)
if_text (Some text) P d = d text

first_refused : (IsGood : List ℕ → Type 0) → ((text : List ℕ) → Decision (IsGood text)) → (s : Site) → Decision (IsFirstRefused IsGood s)
first_refused IsGood good s = if_text (first_text (first_of (args_of s))) (IsRefused IsGood) (refused IsGood good)

option_refused : (IsGood : List ℕ → Type 0) → ((text : List ℕ) → Decision (IsGood text)) → (label : List ℕ) (options : List (List ℕ × Expr)) → Decision (HasRefusedOption IsGood label options)
option_refused IsGood good label [] = fails (λ h. h)
option_refused IsGood good label (option ∷ options) =
    one_of (both (is_true (bytes_eq label option.0)) (if_text (text_of option.1) (IsRefused IsGood) (refused IsGood good))) (option_refused IsGood good label options)

path_refused : (s : Site) → Decision (HasRefusedPath s)
unfolding HasRefusedPath
path_refused s =
    by_test _ _ (is_among (codes "cue" ∷ codes "set" ∷ []) s) (first_refused IsPathText path_decided s)
    (by_test _ _ (is_among (codes "get" ∷ codes "sync" ∷ []) s) (first_refused IsPatternText pattern_decided s)
    (by_test _ _ (is_call (codes "live_loop") s) (option_refused IsPatternText pattern_decided (codes "sync") (options_of s)) (fails (λ h. h))))

-- Calls

fails_decided : (kind : CheckKind) (s : Site) → Decision (Fails kind s)
fails_decided DefinePlace s = is_true (is_misplaced s)
fails_decided Name s = is_true (is_misnamed s)
fails_decided Taken s = is_true (is_taken s)
fails_decided Method s = is_true (is_no_method s)
fails_decided Count s = is_true (is_miscounted s)
fails_decided Opt s = is_true (has_bad_option s)
fails_decided WrongBlock s = is_true (has_wrong_block s)
fails_decided Params s = is_true (has_wrong_params s)
fails_decided Path s = path_refused s

-- a call has none of these faults, or a first
abbrev IsJudgedBy : List CheckKind → Site → Type 0
IsJudgedBy kinds s = HasNone kinds s ⊎ ((kind : CheckKind) × HasFirst kinds s kind)

after_check : (kind : CheckKind) (kinds : List CheckKind) (s : Site) → Decision (Fails kind s) → IsJudgedBy kinds s → IsJudgedBy (kind ∷ kinds) s
after_check kind kinds s (holds f) j = inr (kind, inl (f, refl))
after_check kind kinds s (fails n) (inl none) = inl (n, none)
after_check kind kinds s (fails n) (inr (found, first)) = inr (found, inr (n, first))

kinds_judged : (kinds : List CheckKind) (s : Site) → IsJudgedBy kinds s
kinds_judged [] s = inl tt
kinds_judged (kind ∷ kinds) s = after_check kind kinds s (fails_decided kind s) (kinds_judged kinds s)

sound_or_fault : (s : Site) → IsSound s ⊎ ((kind : CheckKind) × IsFaultOf s kind)
unfolding IsSound IsFaultOf
sound_or_fault s = kinds_judged checks s

-- calls are without a fault, or there is a first
abbrev AreJudged : List Site → Type 0
AreJudged calls = All IsSound calls ⊎ ((line : ℕ) × (kind : CheckKind) × FirstFault calls line kind)

after_call : (call : Site) (calls : List Site) → IsSound call ⊎ ((kind : CheckKind) × IsFaultOf call kind) → AreJudged calls → AreJudged (call ∷ calls)
after_call call calls (inr (kind, fault)) j = inr (
  call.context.line,
  kind,
  record {
    before = [];
    call = call;
    after = calls;
    whole = refl;
    sound = All-nil IsSound;
    fault = fault;
    here = refl;
  },
)
after_call call calls (inl sound) (inl all) = inl (All-cons IsSound call calls sound all)
after_call call calls (inl sound) (inr (line, kind, f)) = inr (
  line,
  kind,
  record {
    before = call ∷ f.before;
    call = f.call;
    after = f.after;
    whole = ap (λ cs. call ∷ cs) f.whole;
    sound = All-cons IsSound call f.before sound f.sound;
    fault = f.fault;
    here = f.here;
  },
)

calls_judged : (calls : List Site) → AreJudged calls
calls_judged [] = inl (All-nil IsSound)
calls_judged (call ∷ calls) = after_call call calls (sound_or_fault call) (calls_judged calls)

pub always_one : AlwaysOne
unfolding IsAllowed CheckRefuses
always_one tree = calls_judged (sites tree)

-- The verdict

-- that the tree is allowed, or else the line and the kind of its first fault
unfoldable pub judged_of : Block → Judged
judged_of tree = judged_by tree (always_one tree)
