-- Calls with a block, and starts of threads, as ways.
use Rattle.std.proofs.Common.{◌≡◌, ℕ, List, [], ◌∷◌, Bool, true, false, cond, Option, Some, None, Result, Ok, Err, refl, sym, ap, ◌∙◌, subst}
use Rattle.std.specs.Prelude.{length, nat_lt, ok_or}
use Rattle.vt_frac.specs.Fraction.{Fraction}
use Rattle.vt_path.specs.declared.pattern.Segment.{Segment}
use Rattle.vt_path.specs.Match.{literal_of}
use Rattle.vt_value.specs.declared.fault.FaultKind.{FaultKind}
use Rattle.vt_value.specs.declared.fault.FaultKind.TheVariants.{TooNested, WrongCount}
use Rattle.vt_value.specs.declared.value.Value.{Value}
use Rattle.vt_value.specs.declared.value.Value.TheVariants.{Nil}
use Rattle.vt_event.specs.EventsByKind.{started_event}
use Rattle.vt_run.specs.declared.action.Answer.{Answer}
use Rattle.vt_run.specs.declared.role.Role.{Role}
use Rattle.vt_run.specs.declared.state.State.{State}
use Rattle.vt_run.specs.Actions.{emits, fails, name_path, or_fails, reads}
use Rattle.vt_run.specs.Environment.{Env}
use Rattle.vt_run.specs.Evaluation.{Ran, Spot, gives}
use Rattle.vt_run.specs.Notes.{Notes}
use Rattle.vt_run.specs.Scopes.{BlockMeaning}
use Rattle.vt_run.specs.calls.SettingCalls.{with_block}
use Rattle.vt_run.specs.calls.ThreadCalls.{is_alive, spawns, spawns_timed, starts, starts_at, starts_timed, unless_nested}
use Rattle.vt_eval_steps.specs.declared.run.Run.{Run}
use Rattle.vt_eval_steps.specs.Making.{Comes, Makes}
use Rattle.vt_eval_steps.specs.private.Beginning.{tells_start}
use Rattle.vt_eval_steps.proofs.Ways.{comes_from, makes_at, makes_trans}

-- a call without the block that it must have
pub comes_without : {E : Type 0} (o : Option BlockMeaning) (env : Env) (at : Spot) (st : State) (go : BlockMeaning → Ran) (old : Notes) (r : Result Value E) (z : Run) → o ≡ None →
    Comes (fails WrongCount env at st) old r z → Comes (with_block o env at st go) old r z
comes_without o env at st go old r z is way = comes_from z r (makes_at old (ap (λ (o : Option BlockMeaning). with_block o env at st go) is)) way

-- a call with its block
pub comes_with : {E : Type 0} (o : Option BlockMeaning) (block : BlockMeaning) (env : Env) (at : Spot) (st : State) (go : BlockMeaning → Ran) (old : Notes) (r : Result Value E) (z : Run) → o ≡ Some block →
    Comes (go block) old r z → Comes (with_block o env at st go) old r z
comes_with o block env at st go old r z is way = comes_from z r (makes_at old (ap (λ (o : Option BlockMeaning). with_block o env at st go) is)) way

-- what comes of an answer: its value, or its fault
pub comes_of : {A E : Type 0} (answer : Result A FaultKind) (value : A) (env : Env) (at : Spot) (st : State) (go : A → Ran) (old : Notes) (r : Result Value E) (z : Run) → answer ≡ Ok value →
    Comes (go value) old r z → Comes (or_fails answer env at st go) old r z
comes_of answer value env at st go old r z is way = comes_from z r (makes_at old (ap (λ answer. or_fails answer env at st go) is)) way

pub comes_failing : {A E : Type 0} (answer : Result A FaultKind) (kind : FaultKind) (env : Env) (at : Spot) (st : State) (go : A → Ran) (old : Notes) (r : Result Value E) (z : Run) → answer ≡ Err kind →
    Comes (fails kind env at st) old r z → Comes (or_fails answer env at st go) old r z
comes_failing answer kind env at st go old r z is way = comes_from z r (makes_at old (ap (λ answer. or_fails answer env at st go) is)) way

-- a child without a name
pub starts_unnamed : {E : Type 0} (role : Role) (handed : ℕ) (body : BlockMeaning) (env : Env) (at : Spot) (st : State) (old : Notes) (r : Result Value E) (z : Run) → name_path role ≡ None →
    Comes (unless_nested env at st (λ st. tells_start None env st (λ st. spawns role handed body env st (gives Nil)))) old r z →
    Comes (starts role handed body env at st) old r z
starts_unnamed role handed body env at st old r z is way = comes_from z r (makes_at old (ap (λ path. starts_at path role handed body env at st) is)) way

-- a child with a name: what is read of it first
starts_named : (role : Role) (path : List (List ℕ)) (pattern : List Segment) (handed : ℕ) (body : BlockMeaning) (env : Env) (at : Spot) (st : State) → name_path role ≡ Some path → pattern ≡ literal_of path →
    starts role handed body env at st
    ≡ reads pattern env st (λ answer st. cond (is_alive answer) (gives Nil st) (unless_nested env at st (λ st. tells_start (Some path) env st (λ st. spawns role handed body env st (gives Nil)))))
starts_named role path pattern handed body env at st is same =
    ap (λ path. starts_at path role handed body env at st) is
    ∙ ap (λ pattern. reads pattern env st (λ answer st. cond (is_alive answer) (gives Nil st) (unless_nested env at st (λ st. tells_start (Some path) env st (λ st. spawns role handed body env st (gives Nil)))))) (sym same)

-- the read has no answer
pub starts_unread : (role : Role) (path : List (List ℕ)) (pattern : List Segment) (handed : ℕ) (body : BlockMeaning) (env : Env) (at : Spot) (st : State) (old new : Notes) (to : Ran) → name_path role ≡ Some path → pattern ≡ literal_of path →
    ((go : Answer → State → Ran) (to : Ran) → Makes (reads pattern env st go) old to new) →
    Makes (starts role handed body env at st) old to new
starts_unread role path pattern handed body env at st old new to is same way = makes_trans (makes_at old (starts_named role path pattern handed body env at st is same)) (way _ to)

-- one of the name is alive
pub starts_alive : (role : Role) (path : List (List ℕ)) (pattern : List Segment) (handed : ℕ) (body : BlockMeaning) (env : Env) (at : Spot) (st end : State) (answer : Answer) (old new : Notes) → name_path role ≡ Some path → pattern ≡ literal_of path →
    ((go : Answer → State → Ran) → Makes (reads pattern env st go) old (go answer end) new) → is_alive answer ≡ true →
    Makes (starts role handed body env at st) old (gives Nil end) new
starts_alive role path pattern handed body env at st end answer old new is same way alive =
    makes_trans (makes_at old (starts_named role path pattern handed body env at st is same))
    (makes_trans (way _)
    (makes_at new (ap (λ alive. cond alive (gives Nil end) (unless_nested env at end (λ st. tells_start (Some path) env st (λ st. spawns role handed body env st (gives Nil))))) alive)))

-- none of the name is alive
pub starts_again : {E : Type 0} (role : Role) (path : List (List ℕ)) (pattern : List Segment) (handed : ℕ) (body : BlockMeaning) (env : Env) (at : Spot) (st end : State) (answer : Answer) (old new : Notes) (r : Result Value E) (z : Run) →
    name_path role ≡ Some path → pattern ≡ literal_of path →
    ((go : Answer → State → Ran) → Makes (reads pattern env st go) old (go answer end) new) → is_alive answer ≡ false →
    Comes (unless_nested env at end (λ st. tells_start (Some path) env st (λ st. spawns role handed body env st (gives Nil)))) new r z →
    Comes (starts role handed body env at st) old r z
starts_again role path pattern handed body env at st end answer old new r z is same way alive later =
    comes_from z r
    (makes_trans (makes_at old (starts_named role path pattern handed body env at st is same))
    (makes_trans (way _)
    (makes_at new (ap (λ alive. cond alive (gives Nil end) (unless_nested env at end (λ st. tells_start (Some path) env st (λ st. spawns role handed body env st (gives Nil))))) alive))))
    later

-- the children of `at`, where there is one and the list is not too long
pub timed_starts : (timings left : List (Fraction × Value)) (rest : Fraction) (value : Value) (body : BlockMeaning) (env : Env) (at : Spot) (st : State) → timings ≡ (rest, value) ∷ left → nat_lt (length env.start.place.thread) 32 ≡ true →
    starts_timed timings body env at st ≡ spawns_timed timings body env at st
timed_starts timings left rest value body env at st is few =
    ap (λ t. starts_timed t body env at st) is
    ∙ ap (λ few. cond few (spawns_timed ((rest, value) ∷ left) body env at st) (fails TooNested env at st)) few
    ∙ sym (ap (λ t. spawns_timed t body env at st) is)

-- a call with its block, and what comes of an answer, from one place to another
pub makes_with : (o : Option BlockMeaning) (block : BlockMeaning) (env : Env) (at : Spot) (st : State) (go : BlockMeaning → Ran) (old new : Notes) (to : Ran) → o ≡ Some block → Makes (go block) old to new → Makes (with_block o env at st go) old to new
makes_with o block env at st go old new to is way = makes_trans (makes_at old (ap (λ (o : Option BlockMeaning). with_block o env at st go) is)) way

pub makes_of : {A : Type 0} (answer : Result A FaultKind) (value : A) (env : Env) (at : Spot) (st : State) (go : A → Ran) (old new : Notes) (to : Ran) → answer ≡ Ok value → Makes (go value) old to new → Makes (or_fails answer env at st go) old to new
makes_of answer value env at st go old new to is way = makes_trans (makes_at old (ap (λ answer. or_fails answer env at st go) is)) way
