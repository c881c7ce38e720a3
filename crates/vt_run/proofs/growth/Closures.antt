-- What a relation between two runs must keep, so that it holds of the runs of every part of a text; and the two environments in which a part is evaluated.
use Rattle.std.proofs.Common.{◌≡◌, ◌≢◌, ◌≤◌, ◌<◌, ℕ, zero, suc, ◌-◌, ◌+◌, List, [], ◌∷◌, length, Bool, true, false, cond, Option, Some, None, Result, Ok, Err, refl, arith}
use Rattle.std.specs.Prelude.{nat_lt, is_some, IsOk, IsTrue}
use Rattle.std.specs.List.{AllByRecursion}
use Rattle.vt_frac.specs.Fraction.{Fraction, IsFraction}
use Rattle.vt_path.specs.declared.pattern.Segment.{Segment}
use Rattle.vt_path.specs.declared.inner_path.InnerKind.TheVariants.{Stop as StopPath}
use Rattle.vt_path.specs.Inner.{IsInner, inner_of}
use Rattle.vt_path.specs.Pattern.{IsPattern}
use Rattle.vt_ring.specs.Exact.{exact_sum}
use Rattle.vt_value.specs.declared.fault.FaultKind.{FaultKind}
use Rattle.vt_value.specs.declared.fault.FaultKind.TheVariants.{TooDeep}
use Rattle.vt_value.specs.declared.value.Value.{Value}
use Rattle.vt_value.specs.Limits.{IsWithin}
use Rattle.vt_frac.specs.Names.{IsName, is_symbol_name}
use Rattle.vt_event.specs.declared.place.Place.{Place}
use Rattle.vt_event.specs.declared.references.BlockRef.{BlockRef}
use Rattle.vt_event.specs.Event.{EventView}
use Rattle.vt_event.specs.EventsByKind.{ended_event, fx_event, took_event}
use Rattle.vt_event.specs.Pairs.{Pairs}
use Rattle.vt_run.specs.declared.action.Action.TheVariants.{Emit, End}
use Rattle.vt_run.specs.declared.action.Answer.{Answer}
use Rattle.vt_run.specs.declared.action.EndReason.{EndReason}
use Rattle.vt_run.specs.declared.action.EndReason.TheVariants.{Faulted}
use Rattle.vt_run.specs.declared.role.Role.{Role}
use Rattle.vt_run.specs.declared.start.Start.{Start}
use Rattle.vt_run.specs.declared.state.State.{State}
use Rattle.vt_run.specs.declared.texts.Texts.{Texts}
use Rattle.vt_run.specs.Actions.{acted, emits_all, ends, fails, name_path, or_fails, reads, rests, tells_end, waits, woken}
use Rattle.vt_run.specs.Costs.{emit_cost}
use Rattle.vt_run.specs.calls.Deeds.{Deed, done}
use Rattle.vt_run.specs.Environment.{Body, Env, Meaning}
use Rattle.vt_run.specs.Limits.{ArePairsWithin, IsAnswerWithin, IsEventWithin, IsPathWithin, IsPatternWithin, IsRestWithin, IsRoleWithin, IsStartWithin}
use Rattle.vt_run.specs.Scopes.{BlockMeaning, enters}
use Rattle.vt_run.specs.Evaluation.{Evaluation, Left, Next, Ran, Spot, after, charges, does, gives, halts, spends}
use Rattle.vt_run.specs.calls.ThreadCalls.{has_spawned, spawns}
use Rattle.vt_run.specs.Threads.{block_of, env_of}
use Rattle.vt_run.proofs.facts.EventFacts.{ended_told, fault_told, name_path_inner, name_path_unstopped}
use Rattle.vt_run.proofs.facts.Known.{IsDeed, IsLike, IsStateWithin, IsTold, Quiet, place_in}
use Rattle.vt_run.proofs.growth.Rules.{IsAllowed, MayBegin, Rules, ref_of}
use Rattle.vt_tree.specs.declared.statement.Block.{Block}

-- The thread that a relation speaks of: the texts and the answers of its reads and waits, each in two versions, and how the thread starts. Under L all that it is given is within the limits of the language, and it keeps the rules.
pub record Subject : Type 1 where
  pub L : Type 0
  pub rules : Rules
  pub texts : Texts
  pub texts' : Texts
  pub start : Start
  pub answers : List Answer
  pub answers' : List Answer
  pub within : L → IsStartWithin start
  -- of an event without a path, and of one that is taken, the rules ask nothing
  pub quiet : Quiet L rules.Tells
  pub taken : L → (place : Place) (path : List (List ℕ)) (value : Value) → rules.Tells (took_event place path value)
  pub begins : L → MayBegin rules start
  -- what stands in a block that may be run keeps the rules, and the block is the same in both versions
  pub blocks : L → (ref : BlockRef) (block : Block) → rules.Runs ref → block_of texts ref ≡ Some block → IsAllowed rules texts ref.text block
  pub same : (ref : BlockRef) → (L → rules.Runs ref) → block_of texts ref ≡ block_of texts' ref

-- after an answer: it is used
abbrev pub answered_state : State → State
answered_state st = record (acted st) { used = st.used + 1 }

-- after an effect was begun and told
abbrev pub effected_state : State → State
effected_state st = record (acted st) { effects = st.effects + 1 }

-- the event of an effect, and what comes next
abbrev pub effect_step : Start → List ℕ → Pairs → State → Ran → Ran
effect_step start name options st ran =
    does (emit_cost (fx_event (place_in start st) name (st.effects + 1) options st.settings.fx)) (Emit (fx_event (place_in start st) name (st.effects + 1) options st.settings.fx)) ran

-- What a relation between two runs from one state has to keep. The second run has the greater bound, and may have other answers.
pub record Closure (R : ℕ → State → Ran → Ran → Type 0) (e : Subject) : Type 0 where
  pub less : {n m : ℕ} {st : State} {a b : Ran} → m ≤ n → R n st a b → R m st a b
  pub alike : {n : ℕ} {st other : State} {a b : Ran} → IsLike st other → R n other a b → R n st a b
  pub given : (n : ℕ) (value : Value) (st : State) → (e.L → IsWithin value) → (e.L → IsStateWithin st) → R n st (gives value st) (gives value st)
  pub bound : (st : State) (b : Ran) → R 0 st halts b
  pub spent : {n : ℕ} {st : State} {a b : Ran} (cost : ℕ) → 1 ≤ cost → R n st a b → R (suc n) st (spends cost a) (spends cost b)
  pub emitted : {n : ℕ} {st : State} {a b : Ran} (event : EventView) → IsTold e.L e.rules.Tells (place_in e.start st) event → (e.L → IsStateWithin st) →
      R n (acted st) a b → R (suc n) st (does (emit_cost event) (Emit event) a) (does (emit_cost event) (Emit event) b)
  pub effected : {n : ℕ} {st : State} {a b : Ran} (name : List ℕ) (options : Pairs) → (e.L → IsTrue (is_symbol_name name)) → (e.L → ArePairsWithin options) → (e.L → IsStateWithin st) →
      R n (effected_state st) a b → R (suc n) st (effect_step e.start name options st a) (effect_step e.start name options st b)
  pub ended : (n : ℕ) (st : State) (reason : EndReason) → (e.L → IsStateWithin st) →
      R n st (does 1 (End (place_in e.start st) reason) halts) (does 1 (End (place_in e.start st) reason) halts)
  pub followed : {n : ℕ} {st : State} (a b : Ran) (k k' : Next) → R n st a b →
      ((l : Left) → a.left ≡ Some l → (e.L → IsWithin l.value) → (e.L → IsStateWithin l.state) → R n l.state (k l.value l.state) (k' l.value l.state)) →
      R n st (after a k) (after b k')
  pub asked : (n text turns turns' : ℕ) (body body' : BlockRef → Option Body) (pattern : List Segment) (st : State) (go go' : Answer → State → Ran) →
      (e.L → IsPatternWithin pattern) → (e.L → IsStateWithin st) →
      ((answer : Answer) → (e.L → IsAnswerWithin answer) → (e.L → e.rules.Hears pattern answer) → R n (answered_state st) (go answer (answered_state st)) (go' answer (answered_state st))) →
      R (suc n) st (reads pattern (env_of e.start text e.answers turns body) st go) (reads pattern (env_of e.start text e.answers' turns' body') st go')
  pub waited : (n text turns turns' : ℕ) (body body' : BlockRef → Option Body) (pattern : List Segment) (st : State) (go go' : List (List ℕ) → EventView → State → Ran) →
      (e.L → IsPattern pattern) → (e.L → IsStateWithin st) →
      ((path : List (List ℕ)) (event : EventView) → (e.L → IsPathWithin path) → (e.L → IsEventWithin event) →
      R n (woken event.place (answered_state st)) (go path event (woken event.place (answered_state st))) (go' path event (woken event.place (answered_state st)))) →
      R (suc n) st (waits pattern (env_of e.start text e.answers turns body) st go) (waits pattern (env_of e.start text e.answers' turns' body') st go')
  pub rested : (n text turns turns' : ℕ) (body body' : BlockRef → Option Body) (seconds : Fraction) (st : State) →
      IsOk (exact_sum st.time seconds) → (e.L → IsRestWithin seconds) → (e.L → IsStateWithin st) →
      R n st (rests seconds (env_of e.start text e.answers turns body) st) (rests seconds (env_of e.start text e.answers' turns' body') st)
  pub spawned : (n text turns turns' : ℕ) (body body' : BlockRef → Option Body) (role : Role) (handed : ℕ) (block : BlockMeaning) (st : State) (go go' : State → Ran) →
      length e.start.place.thread < 32 → (e.L → IsRoleWithin role) → (e.L → IsTrue (is_some (block_of e.texts (record { text = text; block = block.number })))) → (e.L → e.rules.Starts role (ref_of text block.number)) → (e.L → IsStateWithin st) →
      R n (has_spawned st) (go (has_spawned st)) (go' (has_spawned st)) →
      R (suc n) st (spawns role handed block (env_of e.start text e.answers turns body) st go) (spawns role handed block (env_of e.start text e.answers' turns' body') st go')

-- related from every state in which what the thread holds is within the limits
abbrev pub SpotGrows : (ℕ → State → Ran → Ran → Type 0) → Type 0 → ℕ → Evaluation → Evaluation → Type 0
SpotGrows R L n f g = (at : Spot) (st : State) → (L → IsStateWithin st) → R n st (f at st) (g at st)

-- the same block, with two meanings that are related; or none
pub data BodyGrows (R : ℕ → State → Ran → Ran → Type 0) (L : Type 0) (n : ℕ) : Option Body → Option Body → Type 0 where
  neither : BodyGrows R L n None None
  both : (params : List (List ℕ)) (f g : Evaluation) → (L → AllByRecursion IsName params) → SpotGrows R L n f g →
      BodyGrows R L n (Some (record { params = params; run = f })) (Some (record { params = params; run = g }))

-- two environments for one thread, of which the second has the greater bound
pub record Two : Type 1 where
  pub R : ℕ → State → Ran → Ran → Type 0
  pub e : Subject
  pub has : Closure R e
  pub text : ℕ
  pub n : ℕ
  pub turns : ℕ
  pub turns' : ℕ
  pub body : BlockRef → Option Body
  pub body' : BlockRef → Option Body
  pub enough : n ≤ turns
  pub more : turns ≤ turns'
  pub bodies : (ref : BlockRef) → (e.L → e.rules.Runs ref) → BodyGrows R e.L (n - 1) (body ref) (body' ref)

abbrev pub low : Two → Env
low two = env_of two.e.start two.text two.e.answers two.turns two.body

abbrev pub high : Two → Env
high two = env_of two.e.start two.text two.e.answers' two.turns' two.body'

-- related in the two environments, at every spot and from every state
abbrev pub MeaningGrows : Two → Meaning → Type 0
MeaningGrows two part = (at : Spot) (st : State) → (two.e.L → IsStateWithin st) → two.R two.n st (part (low two) at st) (part (high two) at st)

module _ (two : Two) where
  -- what comes next, whatever was left
  pub follows : {n : ℕ} {st : State} (a b : Ran) (k k' : Next) → two.R n st a b →
      ((l : Left) → (two.e.L → IsWithin l.value) → (two.e.L → IsStateWithin l.state) → two.R n l.state (k l.value l.state) (k' l.value l.state)) →
      two.R n st (after a k) (after b k')
  follows a b k k' h next = two.has.followed a b k k' h (λ l left v s. next l v s)

  pub spends_keeps : {n : ℕ} {st : State} {a b : Ran} (cost : ℕ) → 1 ≤ cost → two.R n st a b → two.R n st (spends cost a) (spends cost b)
  spends_keeps cost le h = two.has.less (omega arith) (two.has.spent cost le h)

  pub tick_keeps : {n : ℕ} {st : State} {a b : Ran} → two.R n st a b → two.R n st (spends 1 a) (spends 1 b)
  tick_keeps h = spends_keeps 1 (omega arith) h

  pub emit_keeps : {n : ℕ} {st : State} {a b : Ran} (event : EventView) → IsTold two.e.L two.e.rules.Tells (place_in two.e.start st) event → (two.e.L → IsStateWithin st) →
      two.R n (acted st) a b → two.R n st (does (emit_cost event) (Emit event) a) (does (emit_cost event) (Emit event) b)
  emit_keeps event told s h = two.has.less (omega arith) (two.has.emitted event told s h)

  pub charges_keep : {n : ℕ} {st : State} {a b : Ran} (size : ℕ) → two.R n st a b → two.R n st (charges size a) (charges size b)
  charges_keep zero h = h
  charges_keep (suc size) h = spends_keeps (suc size) (omega arith) h

  pub cond_keeps : {n : ℕ} {st : State} (c : Bool) {a a' b b' : Ran} → two.R n st a a' → two.R n st b b' → two.R n st (cond c a b) (cond c a' b')
  cond_keeps true g h = g
  cond_keeps false g h = h

  -- the same, where what the test tells is needed
  pub if_keeps : {n : ℕ} {st : State} (c : Bool) {a a' b b' : Ran} → (c ≡ true → two.R n st a a') → two.R n st b b' → two.R n st (cond c a b) (cond c a' b')
  if_keeps true g h = g refl
  if_keeps false g h = h

  tells_end_keeps : {n : ℕ} (reason : EndReason) (path : Option (List (List ℕ))) (st : State) → ((p : List (List ℕ)) → path ≡ Some p → (name : List ℕ) → p ≢ inner_of StopPath name) → ((p : List (List ℕ)) → path ≡ Some p → two.e.L → IsInner p) → ((p : List (List ℕ)) → path ≡ Some p → two.e.L → two.e.rules.Tells (ended_event (place_in two.e.start st) p)) → (two.e.L → IsStateWithin st) →
      two.R n st (tells_end path (low two) st (λ st. does 1 (End (place_in two.e.start st) reason) halts)) (tells_end path (high two) st (λ st. does 1 (End (place_in two.e.start st) reason) halts))
  tells_end_keeps reason None st outside inner told s = two.has.ended _ st reason s
  tells_end_keeps reason (Some path) st outside inner told s =
      emit_keeps _ (ended_told two.e.L two.e.rules.Tells path (place_in two.e.start st) (outside path refl) (inner path refl) (λ l. (s l).fraction) (told path refl)) s (two.has.ended _ (acted st) reason s)

  pub ends_keep : {n : ℕ} (reason : EndReason) (st : State) → (two.e.L → IsStateWithin st) → two.R n st (ends reason (low two) st) (ends reason (high two) st)
  ends_keep reason st s = tells_end_keeps reason (name_path two.e.start.role) st (λ path is. name_path_unstopped two.e.start.role path is) (λ path is l. name_path_inner two.e.start.role path (two.e.within l).role is) (λ path is l. (two.e.begins l).ends path is (place_in two.e.start st)) s

  pub fails_keep : {n : ℕ} (kind : FaultKind) (at : Spot) (st : State) → (two.e.L → IsStateWithin st) → two.R n st (fails kind (low two) at st) (fails kind (high two) at st)
  fails_keep kind at st s = emit_keeps _ (fault_told two.e.L two.e.rules.Tells kind at.line (place_in two.e.start st) (λ l. (s l).fraction) two.e.quiet) s (ends_keep Faulted (acted st) s)

  pub or_fails_keeps : {n : ℕ} {A : Type 0} (answer : Result A FaultKind) (at : Spot) (st : State) (go go' : A → Ran) → (two.e.L → IsStateWithin st) →
      ((x : A) → answer ≡ Ok x → two.R n st (go x) (go' x)) → two.R n st (or_fails answer (low two) at st go) (or_fails answer (high two) at st go')
  or_fails_keeps (Ok x) at st go go' s h = h x refl
  or_fails_keeps (Err kind) at st go go' s h = fails_keep kind at st s

  pub enters_keep : {n : ℕ} (at : Spot) (st : State) (go go' : Spot → Ran) → (two.e.L → IsStateWithin st) → ((at : Spot) → two.R n st (go at) (go' at)) →
      two.R n st (enters (low two) at st go) (enters (high two) at st go')
  enters_keep at st go go' s h = cond_keeps (nat_lt at.depth 256) (h _) (fails_keep TooDeep at st s)

  -- a value where the thread stands alike
  pub gives_like : {n : ℕ} {st : State} (value : Value) (other : State) → IsLike st other → (two.e.L → IsWithin value) → (two.e.L → IsStateWithin other) →
      two.R n st (gives value other) (gives value other)
  gives_like value other is v s = two.has.alike is (two.has.given _ value other v s)

  -- events, and what comes next of a state that holds the same
  pub emits_all_keep : {n : ℕ} (events : List (Place → EventView)) (st : State) (go go' : State → Ran) → (two.e.L → IsStateWithin st) →
      AllByRecursion (λ event. (place : Place) → (two.e.L → IsFraction place.time) → IsTold two.e.L two.e.rules.Tells place (event place)) events →
      ((end : State) → (two.e.L → IsStateWithin end) → two.R n end (go end) (go' end)) →
      two.R n st (emits_all events (low two) st go) (emits_all events (high two) st go')
  emits_all_keep [] st go go' s told h = h st s
  emits_all_keep (event ∷ events) st go go' s told h =
      emit_keeps (event (place_in two.e.start st)) (told.0 (place_in two.e.start st) (λ l. (s l).fraction)) s (emits_all_keep events (acted st) go go' s told.1 h)

  pub done_keeps : {n : ℕ} (deed : Result Deed FaultKind) (at : Spot) (st : State) → (two.e.L → IsStateWithin st) → ((d : Deed) → deed ≡ Ok d → IsDeed two.e.L two.e.rules.Tells st d) →
      two.R n st (done deed (low two) at st) (done deed (high two) at st)
  done_keeps deed at st s h =
      or_fails_keeps deed at st (λ d. emits_all d.events (low two) d.state (gives d.value)) (λ d. emits_all d.events (high two) d.state (gives d.value)) s (λ d is.
      two.has.alike (h d is).alike (emits_all_keep d.events d.state (gives d.value) (gives d.value) (h d is).state (h d is).events (λ end t. two.has.given _ d.value end (h d is).value t)))
