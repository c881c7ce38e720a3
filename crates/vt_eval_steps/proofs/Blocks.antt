-- Blocks of the texts, as code finds them by their numbers, and as calls run them.
use Rattle.std.proofs.Common.{◌≡◌, ℕ, zero, suc, List, [], ◌∷◌, length, Bool, true, false, Option, Some, None, IfSome, option_copied, Bor, refl, sym, ap, ◌∙◌, subst, arith}
use Rattle.std.specs.Prelude.{◌+◌, ◌-◌, ◌==◌, ◌&&◌, MatchOption, option_and_then, slice_get}
use Rattle.std.proofs.lemmas.Bool.{eq-eqb, ne_eqb}
use Rattle.vt_check.specs.Checked.{block_at}
use Rattle.vt_frac.specs.Fraction.{Fraction}
use Rattle.vt_tree.specs.declared.statement.Block.{Block, out-Block}
use Rattle.vt_event.specs.declared.references.BlockRef.{BlockRef}
use Rattle.vt_event.specs.Event.{EventView}
use Rattle.vt_event.specs.Pairs.{Pairs}
use Rattle.vt_run.specs.declared.action.Answer.{Answer}
use Rattle.vt_run.specs.declared.action.Answer.TheVariants.{Found as FoundEvent, Nothing}
use Rattle.vt_run.specs.declared.start.Start.{Start}
use Rattle.vt_run.specs.declared.texts.Texts.{Texts}
use Rattle.vt_run.specs.declared.texts.Verdict.{Verdict}
use Rattle.vt_value.specs.declared.value.Value.{Value}
use Rattle.vt_run.specs.calls.Arguments.{Given, all_args}
use Rattle.vt_run.specs.calls.FunctionCalls.{body_found, found_at, found_with, is_none_given, takes_given}
use Rattle.vt_run.specs.Environment.{Body, Env}
use Rattle.vt_run.specs.Limits.{AreChecked}
use Rattle.vt_run.specs.Scopes.{BlockMeaning}
use Rattle.vt_run.specs.Threads.{block_of, body_by, body_in, bounded_body, called, env_of, text_at, tree_in, tree_of}
use Rattle.vt_run.specs.TreeMeaning.{block_meaning}
use Rattle.vt_run.proofs.facts.BlocksOfTexts.{IsFitBlock, blocks_fit}
use Rattle.vt_run.proofs.growth.TreeGrowth.{block_is}
use Rattle.vt_eval_steps.specs.declared.calls.Found.{Found}
use Rattle.vt_eval_steps.specs.declared.scene.Scene.{Scene}
use Rattle.vt_eval_steps.specs.Calls.{body_within, found_within}

-- the text with a number that is not 0
text_before : (texts : Texts) (n : ℕ) → (n ≡ 0 → ⊥) → text_at texts n ≡ slice_get texts (n - 1)
text_before texts zero some = absurd (some refl)
text_before texts (suc k) some = ap (slice_get texts) (before k)
  where
    before : (k : ℕ) → k ≡ suc k - 1
    before k = omega arith

-- there is no text 0
pub no_text : (texts : Texts) (ref : BlockRef) → ref.text ≡ 0 → None ≡ block_of texts ref
no_text texts ref is = sym (ap (λ n. option_and_then (λ tree. block_at tree ref.block) (tree_in (text_at texts n))) is)

-- a block of a text, as it is found in the text
pub in_text : (texts : Texts) (ref : BlockRef) (text : Option (Fraction × Verdict)) → (ref.text ≡ 0 → ⊥) → slice_get texts (ref.text - 1) ≡ text →
    option_and_then (λ tree. block_at tree ref.block) (tree_in text) ≡ block_of texts ref
in_text texts ref text some is =
    sym (ap (λ (text : Option (Fraction × Verdict)). option_and_then (λ tree. block_at tree ref.block) (tree_in text)) (text_before texts ref.text some ∙ is))

-- each block of the texts fits
pub fits_where : (texts : Texts) (ref : BlockRef) (found : Option (Bor Block)) → AreChecked texts → option_copied found ≡ block_of texts ref → IfSome found (λ block. IsFitBlock texts ref.text block.now)
fits_where texts ref None checked is = tt
fits_where texts ref (Some block) checked is = blocks_fit texts checked ref block.now (sym is)

-- the parameters of a block
params_of : (block : Block) → (block_meaning block).params ≡ (out-Block block).params
unfolding block_meaning
params_of block = ap (λ (m : BlockMeaning). m.params) (block_is block)

-- the number of a block
pub number_of : (block : Block) → (block_meaning block).number ≡ (out-Block block).number
unfolding block_meaning
number_of block = ap (λ (m : BlockMeaning). m.number) (block_is block)

-- a reference to a block, by its meaning
pub ref_of : (text : ℕ) (block : Block) (ref : BlockRef) → ref ≡ record { text = text; block = (out-Block block).number } → ref ≡ record { text = text; block = (block_meaning block).number }
ref_of text block ref is = is ∙ ap (at text) (sym (number_of block))
  where
    at : ℕ → ℕ → BlockRef
    at text n = record { text = text; block = n }

params_within : (scene : Scene) (found : Found) (n : ℕ) → (body_within scene found n).params ≡ (out-Block found.block.now).params
params_within scene found zero = params_of found.block.now
params_within scene found (suc n) = params_of found.block.now

-- whether a block takes what is given
no_option : (options : Pairs) → (length options == 0) ≡ is_none_given options
no_option [] = refl
no_option (option ∷ options) = ne_eqb (suc (length options)) 0 (λ (e : suc (length options) ≡ 0). absurd (omega (arith, e)))

counts : (scene : Scene) (found : Found) (n : ℕ) (given : Given) (args : List Value) (count : ℕ) → args ≡ all_args given → count ≡ length (out-Block found.block.now).params →
    (length args == count) ≡ (length (all_args given) == length (body_within scene found n).params)
counts scene found n given args count all is =
    ap (λ (args : List Value). length args == count) all
    ∙ ap (λ count. length (all_args given) == count) (is ∙ ap (λ (names : List (List ℕ)). length names) (sym (params_within scene found n)))

pub takes_as_many : (scene : Scene) (found : Found) (n : ℕ) (given : Given) (args : List Value) (count : ℕ) (options : Pairs) (takes : Bool) → args ≡ all_args given → count ≡ length (out-Block found.block.now).params → length args ≡ count →
    options ≡ given.options → takes ≡ (length options == 0) → takes ≡ takes_given (found_within scene found n) given
takes_as_many scene found n given args count options takes all is same own given_none =
    given_none ∙ ap (λ (options : Pairs). length options == 0) own ∙ no_option given.options
    ∙ sym (ap (λ t. t && is_none_given given.options) (sym (counts scene found n given args count all is) ∙ eq-eqb (length args) count same))

pub takes_others : (scene : Scene) (found : Found) (n : ℕ) (given : Given) (args : List Value) (count : ℕ) → args ≡ all_args given → count ≡ length (out-Block found.block.now).params → (length args ≡ count → ⊥) →
    (length args == count) ≡ takes_given (found_within scene found n) given
takes_others scene found n given args count all is other =
    ne_eqb (length args) count other
    ∙ sym (ap (λ t. t && is_none_given given.options) (sym (counts scene found n given args count all is) ∙ ne_eqb (length args) count other))

-- a block that the texts have, as calls run it
body_at : (scene : Scene) (found : Found) (n : ℕ) (ref : BlockRef) → block_of scene.texts.now ref ≡ Some found.block.now → ref.text ≡ found.text →
    called scene.texts.now scene.start.now scene.answers.now n ref ≡ Some (body_within scene found n)
body_at scene found zero ref at same = ap (body_by bounded_body) at
body_at scene found (suc n) ref at same =
    ap (body_by (body_in (env_of scene.start.now ref.text scene.answers.now (suc n) (called scene.texts.now scene.start.now scene.answers.now n)))) at
    ∙ ap (λ text. Some (body_in (env_of scene.start.now text scene.answers.now (suc n) (called scene.texts.now scene.start.now scene.answers.now n)) (block_meaning found.block.now))) same

no_body_at : (scene : Scene) (n : ℕ) (ref : BlockRef) → block_of scene.texts.now ref ≡ None → called scene.texts.now scene.start.now scene.answers.now n ref ≡ None
no_body_at scene zero ref at = ap (body_by bounded_body) at
no_body_at scene (suc n) ref at =
    ap (body_by (body_in (env_of scene.start.now ref.text scene.answers.now (suc n) (called scene.texts.now scene.start.now scene.answers.now n)))) at

-- the environment in which a read finds a body
abbrev pub reader : Scene → ℕ → Env
reader scene n = env_of scene.start.now scene.text scene.answers.now (scene.left + 1) (called scene.texts.now scene.start.now scene.answers.now n)

-- what a read found: by its answer, the body of that, and the block
pub nothing_found : (env : Env) (answer : Answer) → answer ≡ Nothing → body_found env answer ≡ None
nothing_found env answer is = ap (body_found env) is

pub no_body_found : (env : Env) (answer : Answer) (event : EventView) → answer ≡ FoundEvent event → event.body ≡ None → body_found env answer ≡ None
no_body_found env answer event is none = ap (body_found env) is ∙ ap (found_at env event.line) none

pub no_block_found : (scene : Scene) (n : ℕ) (answer : Answer) (event : EventView) (ref : BlockRef) (locals : Pairs) → answer ≡ FoundEvent event → event.body ≡ Some (ref, locals) → block_of scene.texts.now ref ≡ None →
    body_found (reader scene n) answer ≡ None
no_block_found scene n answer event ref locals is some at =
    ap (body_found (reader scene n)) is ∙ ap (found_at (reader scene n) event.line) some ∙ ap (found_with event.line locals) (no_body_at scene n ref at)

pub block_found : (scene : Scene) (found : Found) (n : ℕ) (answer : Answer) (event : EventView) (ref : BlockRef) → answer ≡ FoundEvent event → event.body ≡ Some (ref, found.locals.now) →
    block_of scene.texts.now ref ≡ Some found.block.now → ref.text ≡ found.text → event.line ≡ found.line →
    body_found (reader scene n) answer ≡ Some (found_within scene found n)
block_found scene found n answer event ref is some at same line =
    ap (body_found (reader scene n)) is
    ∙ ap (found_at (reader scene n) event.line) some
    ∙ ap (found_with event.line found.locals.now) (body_at scene found n ref at same)
    ∙ ap (λ line. Some (record { body = body_within scene found n; locals = found.locals.now; line = line })) line

pub none_found : (scene : Scene) (answer : Answer) (found : Option Found) → found ≡ None → ((n : ℕ) → body_found (reader scene n) answer ≡ None) →
    MatchOption found ((n : ℕ) → body_found (reader scene n) answer ≡ None) (λ found. (n : ℕ) → body_found (reader scene n) answer ≡ Some (found_within scene found n))
none_found scene answer found is h =
    subst (λ (found : Option Found). MatchOption found ((n : ℕ) → body_found (reader scene n) answer ≡ None) (λ found. (n : ℕ) → body_found (reader scene n) answer ≡ Some (found_within scene found n))) (sym is) h
