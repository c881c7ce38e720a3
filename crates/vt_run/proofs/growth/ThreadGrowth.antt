-- What is kept by the parts of a run holds of whole threads.
use Rattle.std.proofs.Common.{◌≡◌, ◌≤◌, inr, ℕ, zero, suc, ◌-◌, List, [], ◌∷◌, Option, Some, None, refl, sym, subst, arith}
use Rattle.std.specs.Prelude.{◌++◌, codes, IsOk, IsTrue}
use Rattle.std.specs.List.{AllByRecursion}
use Rattle.std.proofs.lemmas.List.Elements.{recursion_from_All}
use Rattle.vt_path.specs.declared.pattern.Segment.{Segment}
use Rattle.vt_path.specs.declared.inner_path.InnerKind.TheVariants.{Body as BodyPath, Stop as StopPath}
use Rattle.vt_path.specs.Inner.{inner_of}
use Rattle.vt_path.specs.Match.{literal_of}
use Rattle.vt_tree.specs.declared.expression.Node.TheFolds.{every_here-Block}
use Rattle.vt_tree.specs.declared.statement.Block.{Block}
use Rattle.vt_value.specs.declared.fault.FaultKind.TheVariants.{NoSleep}
use Rattle.vt_value.specs.declared.value.Value.{Value}
use Rattle.vt_value.specs.declared.value.Value.TheVariants.{Ring}
use Rattle.vt_frac.specs.Fraction.{Fraction, IsFraction}
use Rattle.vt_frac.specs.Names.{IsName, is_symbol_name}
use Rattle.vt_ring.specs.Exact.{exact_sum}
use Rattle.vt_value.specs.Limits.{AreWithin, IsWithin}
use Rattle.vt_run.specs.Delays.{is_delay}
use Rattle.vt_event.specs.declared.references.BlockRef.{BlockRef}
use Rattle.vt_event.specs.EventsByKind.{cue_event}
use Rattle.vt_event.specs.Pairs.{Pairs}
use Rattle.vt_run.specs.declared.action.Answer.{Answer}
use Rattle.vt_run.specs.declared.action.Answer.TheVariants.{Nothing, Found}
use Rattle.vt_run.specs.declared.action.EndReason.TheVariants.{Done, Stopped}
use Rattle.vt_run.specs.declared.role.Role.{Role}
use Rattle.vt_run.specs.declared.role.Role.TheVariants.{Plain, Named, Looped, Timed}
use Rattle.vt_run.specs.declared.state.State.{State}
use Rattle.vt_run.specs.declared.texts.Texts.{Texts}
use Rattle.vt_run.specs.Actions.{acted, ends, rests}
use Rattle.vt_run.specs.Costs.{pair_sizes}
use Rattle.vt_run.specs.Environment.{Body, Env}
use Rattle.vt_run.specs.calls.FunctionCalls.{body_found, found_at, found_with}
use Rattle.vt_run.specs.Limits.{AreChecked, ArePairsWithin, IsAnswerWithin, IsBodyWithin, IsRoleWithin, IsStartWithin, IsWaitWithin}
use Rattle.vt_run.specs.calls.LiveLoops.{is_stopped, live_turns, stops_or, turn_body, turn_of, waits_first}
use Rattle.vt_run.specs.Scopes.{BlockMeaning, params_with, with_locals}
use Rattle.vt_run.specs.Evaluation.{Evaluation, Next, Ran, Spot, after, halts}
use Rattle.vt_run.specs.Threads.{block_of, body_by, by_role, called, env_of, first_block, first_spot, opening, rests_first, thread}
use Rattle.vt_run.specs.TreeMeaning.{block_meaning}
use Rattle.vt_run.specs.calls.LoopCalls.{turn_begun, unless_idle}
use Rattle.vt_run.proofs.facts.BlocksOfTexts.{blocks_fit}
use Rattle.vt_run.proofs.growth.Rules.{IsAllowed, MayTurn, Rules, allowed_layers, freely_allowed, no_rules}
use Rattle.vt_event.specs.Event.{EventView}
use Rattle.vt_run.proofs.growth.CallGrowth.{BlockFits, reads_keep, runs_found_keep, syncs_keep, with_pairs}
use Rattle.vt_run.proofs.growth.Closures.{follows, BodyGrows, neither, both, Closure, Subject, SpotGrows, Two, answered_state, charges_keep, cond_keeps, emit_keeps, ends_keep, fails_keep, high, low, or_fails_keeps}
use Rattle.vt_run.proofs.facts.ArgumentFacts.{delay_rest}
use Rattle.vt_run.proofs.facts.EventFacts.{inner_path, turn_told}
use Rattle.vt_run.proofs.facts.Known.{IsStateWithin, like, place_in}
use Rattle.vt_run.proofs.facts.PairFacts.{pairs_append, params_within}
use Rattle.vt_run.proofs.growth.TreeGrowth.{block_is, tree_grows}
use Rattle.vt_run.specs.declared.start.Start.{Start}

-- the parameters of a block of the texts are names
names_of : (rules : Rules) (texts : Texts) (text : ℕ) (block : Block) → IsAllowed rules texts text block → AllByRecursion IsName (block_meaning block).params
unfolding block_meaning
names_of rules texts text block h =
    let layers = allowed_layers rules texts text in
    subst (λ (m : BlockMeaning). AllByRecursion IsName m.params) (sym (block_is block))
    (recursion_from_All IsName _ (every_here-Block layers.node layers.simple layers.form layers.call layers.expr layers.link layers.arm layers.block layers.stmt block h).0)

module _ (two : Two) where
  abbrev Stays : State → Type 0
  Stays st = two.e.L → IsStateWithin st

  meaning_grows : (block : Block) → (two.e.L → IsAllowed two.e.rules two.e.texts two.text block) → BlockFits two (block_meaning block)
  unfolding block_meaning
  meaning_grows block h = tree_grows two block h

  -- what comes next of the value of a turn, in at most j steps that matter
  abbrev NextKeeps : ℕ → Next → Next → Type 0
  NextKeeps j go go' = (value : Value) → (two.e.L → IsWithin value) → (st : State) → Stays st → two.R j st (go value st) (go' value st)

  -- a turn of a live loop, of at most j steps that matter
  turn_keeps : (o o' : Option Body) → BodyGrows two.R two.e.L (two.n - 1) o o' → (line : ℕ) (locals : Pairs) → (two.e.L → ArePairsWithin locals) → (j : ℕ) → j ≤ two.n - 1 → (value : Value) → (two.e.L → IsWithin value) → (st : State) → Stays st → (go go' : Next) → NextKeeps j go go' →
      two.R j st (turn_of (found_with line locals o) value (low two) st go) (turn_of (found_with line locals o') value (high two) st go')
  turn_keeps _ _ neither line locals p j le value v st s go go' k = ends_keep two Stopped st s
  turn_keeps _ _ (both params f g names h) line locals p j le value v st s go go' k =
      let spot : Spot = record { depth = 0; line = line } in
      let next = λ (env : Env) (go : Next) (value : Value) (end : State). unless_idle env spot end (go value) in
      charges_keep two (pair_sizes locals) (follows two _ _ (next (low two) go) (next (high two) go') (two.has.less le (runs_found_keep two params f g names h locals p line (value ∷ []) (λ x. (v x, tt)) spot st s)) (λ l w t.
      cond_keeps two l.state.moved (k l.value w l.state t) (fails_keep two NoSleep spot l.state t)))

  kept_turn_keeps : (kept : Option (BlockRef × Pairs)) (line j : ℕ) → (two.e.L → IsBodyWithin kept) → ((k : BlockRef × Pairs) → kept ≡ Some k → two.e.L → two.e.rules.Runs k.0) → j ≤ two.n - 1 → (value : Value) → (two.e.L → IsWithin value) → (st : State) → Stays st → (go go' : Next) → NextKeeps j go go' →
      two.R j st (turn_of (found_at (low two) line kept) value (low two) st go) (turn_of (found_at (high two) line kept) value (high two) st go')
  kept_turn_keeps None line j p may le value v st s go go' k = ends_keep two Stopped st s
  kept_turn_keeps (Some kept) line j p may le value v st s go go' k = turn_keeps (two.body kept.0) (two.body' kept.0) (two.bodies kept.0 (may kept refl)) line kept.1 p j le value v st s go go' k

  answer_turn_keeps : (answer : Answer) (j : ℕ) → (two.e.L → IsAnswerWithin answer) → ((event : EventView) (k : BlockRef × Pairs) → answer ≡ Found event → event.body ≡ Some k → two.e.L → two.e.rules.Runs k.0) → j ≤ two.n - 1 → (value : Value) → (two.e.L → IsWithin value) → (st : State) → Stays st → (go go' : Next) → NextKeeps j go go' →
      two.R j st (turn_of (body_found (low two) answer) value (low two) st go) (turn_of (body_found (high two) answer) value (high two) st go')
  answer_turn_keeps Nothing j a may le value v st s go go' k = ends_keep two Stopped st s
  answer_turn_keeps (Found event) j a may le value v st s go go' k = kept_turn_keeps event.body event.line j (λ x. (a x).body) (λ k is. may event k refl is) le value v st s go go' k

  -- a turn that is not stopped
  turn_body_keeps : (j : ℕ) → j ≤ two.n - 1 → (name : List ℕ) → (two.e.L → MayTurn two.e.rules name) → (two.e.L → IsTrue (is_symbol_name name)) → (value : Value) → (two.e.L → IsWithin value) → (st : State) → Stays st → (go go' : Next) → NextKeeps j go go' →
      two.R j st (turn_body name value (low two) st go) (turn_body name value (high two) st go')
  turn_body_keeps j le name may symbol value v st s go go' k =
      let next = λ (env : Env) (go : Next) (answer : Answer) (st : State). turn_of (body_found env answer) value env st go in
      let read = acted st in
      let path = codes "live_loop" ∷ name ∷ [] in
      emit_keeps two (cue_event (place_in two.e.start st) path (Ring []))
      (turn_told two.e.L two.e.rules.Tells name (place_in two.e.start st) symbol (λ x. (s x).fraction) (λ x. (may x).tells (place_in two.e.start st))) s
      (two.has.less (omega arith) (reads_keep two {n = j} (literal_of (inner_of BodyPath name)) read (next (low two) go) (next (high two) go') (λ x. inr (record { path = inner_of BodyPath name; inner = inner_path BodyPath name (symbol x); whole = refl })) s (λ answer a heard.
      answer_turn_keeps answer j a (λ event k is body x. (may x).runs event k (subst (two.e.rules.Hears (literal_of (inner_of BodyPath name))) is (heard x)) body) le value v (answered_state read) s go go' k)))

  live_turns_keep : (j turns turns' : ℕ) → j ≤ turns → turns ≤ turns' → j ≤ two.n → (name : List ℕ) → (two.e.L → MayTurn two.e.rules name) → (two.e.L → IsTrue (is_symbol_name name)) → (value : Value) → (two.e.L → IsWithin value) → (st : State) → Stays st →
      two.R j st (live_turns turns name (low two) value st) (live_turns turns' name (high two) value st)
  live_turns_keep j zero turns' p q r name may symbol value v st s = two.has.less p (two.has.bound st _)
  live_turns_keep j (suc u) zero p q r name may symbol value v st s = absurd (omega arith)
  live_turns_keep j (suc u) (suc u') p q r name may symbol value v st s =
      let go = λ (env : Env) (u : ℕ) (answer : Answer) (st : State). stops_or answer env st (turn_body name value env st (live_turns u name env)) in
      let le : j - 1 ≤ two.n - 1 = omega arith in
      let few : j - 1 ≤ u = omega arith in
      let fewer : u ≤ u' = omega arith in
      let few' : j - 1 ≤ two.n = omega arith in
      let begun = turn_begun st in
      two.has.less (omega arith) (two.has.spent {n = j - 1} 1 (omega arith) (two.has.alike {other = begun} (like _ _ _ _ _)
      (two.has.less (omega arith) (reads_keep two {n = j - 1} (literal_of (inner_of StopPath name)) begun (go (low two) u) (go (high two) u') (λ x. inr (record { path = inner_of StopPath name; inner = inner_path StopPath name (symbol x); whole = refl })) s (λ answer a heard.
      cond_keeps two (is_stopped two.e.start.place answer) (ends_keep two Stopped (answered_state begun) s)
      (turn_body_keeps (j - 1) le name may symbol value v (answered_state begun) s (live_turns u name (low two)) (live_turns u' name (high two)) (λ value v st s. live_turns_keep (j - 1) u u' few fewer few' name may symbol value v st s)))))))

  first_block_keeps : (values : List Value) → (two.e.L → AreWithin values) → (o o' : Option Body) → BodyGrows two.R two.e.L two.n o o' → (st : State) → Stays st → two.R two.n st (first_block values o (low two) st) (first_block values o' (high two) st)
  first_block_keeps values v _ _ neither st s = ends_keep two Done st s
  first_block_keeps values v _ _ (both params f g names h) st s =
      let next = λ (env : Env) (value : Value) (end : State). ends Done env end in
      let inside = with_locals (st.locals ++ params_with params values) st in
      follows two _ _ (next (low two)) (next (high two))
      (two.has.alike {other = inside} (like _ _ _ _ _) (h first_spot inside (λ x. with_pairs _ (s x) (pairs_append st.locals _ (s x).pairs (params_within params values (names x) (v x))))))
      (λ l v t. ends_keep two Done l.state t)

  waits_first_keeps : (wait : Option (List Segment)) → (two.e.L → IsWaitWithin wait) → (st : State) → Stays st → (go go' : State → Ran) → ((st : State) → Stays st → two.R two.n st (go st) (go' st)) → two.R two.n st (waits_first wait (low two) st go) (waits_first wait (high two) st go')
  waits_first_keeps None w st s go go' h = h st s
  waits_first_keeps (Some pattern) w st s go go' h =
      let next = λ (go : State → Ran) (value : Value) (st : State). go st in
      follows two _ _ (next go) (next go') (syncs_keep two pattern st w s) (λ l v t. h l.state t)

  rests_first_keeps : (rest : Fraction) (line : ℕ) → (two.e.L → IsFraction rest × IsTrue (is_delay rest)) → (st : State) → Stays st → (go go' : State → Ran) → ((st : State) → Stays st → two.R two.n st (go st) (go' st)) →
      two.R two.n st (rests_first rest line (low two) st go) (rests_first rest line (high two) st go')
  rests_first_keeps rest line r st s go go' h =
      let next = λ (go : State → Ran) (value : Value) (st : State). go st in
      let then = λ (env : Env) (go : State → Ran) (time : Fraction). after (rests rest env st) (next go) in
      or_fails_keeps two (exact_sum st.time rest) (record { depth = 0; line = line }) st (then (low two) go) (then (high two) go') s (λ time is.
      follows two _ _ (next go) (next go')
      (two.has.rested _ two.text two.turns two.turns' two.body two.body' rest st (subst IsOk (sym is) refl) (λ x. delay_rest rest (r x).0 (r x).1) s)
      (λ l w t. h l.state t))

  by_role_keeps : (role : Role) → two.e.start.role ≡ role → (two.e.L → IsRoleWithin role) → BodyGrows two.R two.e.L two.n (two.body two.e.start.block) (two.body' two.e.start.block) → (st : State) → Stays st → two.R two.n st (by_role role (low two) st) (by_role role (high two) st)
  by_role_keeps Plain is r h st s = first_block_keeps [] (λ x. tt) _ _ h st s
  by_role_keeps (Named name) is r h st s = first_block_keeps [] (λ x. tt) _ _ h st s
  by_role_keeps (Looped name wait init) is r h st s =
      let le : two.n ≤ two.n = omega arith in
      waits_first_keeps wait (λ x. (r x).1) st s (live_turns two.turns name (low two) init) (live_turns two.turns' name (high two) init) (λ st s. live_turns_keep two.n two.turns two.turns' two.enough two.more le name (λ x. (two.e.begins x).turns name wait init is) (λ x. (r x).0) init (λ x. (r x).2) st s)
  by_role_keeps (Timed rest given line) is r h st s =
      let go = λ (env : Env) (st : State). first_block (given ∷ []) (env.body two.e.start.block) env st in
      rests_first_keeps rest line (λ x. ((r x).0, (r x).1)) st s (go (low two)) (go (high two)) (λ st s. first_block_keeps (given ∷ []) (λ x. ((r x).2, tt)) _ _ h st s)

module _ (R : ℕ → State → Ran → Ran → Type 0) (e : Subject) (has : Closure R e) where
  body_less : {n m : ℕ} (o o' : Option Body) → m ≤ n → BodyGrows R e.L n o o' → BodyGrows R e.L m o o'
  body_less _ _ le neither = neither
  body_less _ _ le (both params f g names h) = both params f g names (λ at st s. has.less le (h at st s))

  body_by_grows : (n : ℕ) (ref : BlockRef) → (e.L → e.rules.Runs ref) → (f g : BlockMeaning → Evaluation) (block : Option Block) → block ≡ block_of e.texts ref → ((b : Block) → (e.L → IsAllowed e.rules e.texts ref.text b) → SpotGrows R e.L n (f (block_meaning b)) (g (block_meaning b))) →
      BodyGrows R e.L n (body_by (λ block. record { params = block.params; run = f block }) block) (body_by (λ block. record { params = block.params; run = g block }) block)
  body_by_grows n ref may f g None is h = neither
  body_by_grows n ref may f g (Some block) is h =
      let kept : e.L → IsAllowed e.rules e.texts ref.text block = λ x. e.blocks x ref block (may x) (sym is) in
      both (block_meaning block).params (f (block_meaning block)) (g (block_meaning block)) (λ x. names_of e.rules e.texts ref.text block (kept x)) (h block kept)

  -- the same, by the blocks of both versions
  bodies_grow : (n : ℕ) (ref : BlockRef) → (e.L → e.rules.Runs ref) → (f g : BlockMeaning → Evaluation) → ((b : Block) → (e.L → IsAllowed e.rules e.texts ref.text b) → SpotGrows R e.L n (f (block_meaning b)) (g (block_meaning b))) →
      BodyGrows R e.L n (body_by (λ block. record { params = block.params; run = f block }) (block_of e.texts ref)) (body_by (λ block. record { params = block.params; run = g block }) (block_of e.texts' ref))
  bodies_grow n ref may f g h =
      subst (λ (o : Option Block). BodyGrows R e.L n (body_by (λ block. record { params = block.params; run = f block }) (block_of e.texts ref)) (body_by (λ block. record { params = block.params; run = g block }) o))
      (e.same ref may) (body_by_grows n ref may f g (block_of e.texts ref) refl h)

  abbrev run_in : Texts → List Answer → ℕ → ℕ → BlockMeaning → Evaluation
  run_in texts answers text n block = block.run (env_of e.start text answers (suc n) (called texts e.start answers n))

  called_grows : (n m : ℕ) → n ≤ m → (ref : BlockRef) → (e.L → e.rules.Runs ref) → BodyGrows R e.L n (called e.texts e.start e.answers n ref) (called e.texts' e.start e.answers' m ref)
  called_grows zero zero le ref may = bodies_grow 0 ref may (λ block at st. halts) (λ block at st. halts) (λ block kept at st s. has.bound st _)
  called_grows zero (suc m) le ref may = bodies_grow 0 ref may (λ block at st. halts) (run_in e.texts' e.answers' ref.text m) (λ block kept at st s. has.bound st _)
  called_grows (suc n) zero le ref may = absurd (omega arith)
  called_grows (suc n) (suc m) le ref may =
      let below : n ≤ m = omega arith in
      let whole : suc n ≤ suc n = omega arith in
      let level : n ≡ suc n - 1 = omega arith in
      let two : Two = record {
        R = R;
        e = e;
        has = has;
        text = ref.text;
        n = suc n;
        turns = suc n;
        turns' = suc m;
        body = called e.texts e.start e.answers n;
        body' = called e.texts' e.start e.answers' m;
        enough = whole;
        more = le;
        bodies = λ ref may. subst (λ j. BodyGrows R e.L j (called e.texts e.start e.answers n ref) (called e.texts' e.start e.answers' m ref)) level (called_grows n m below ref may);
      } in
      bodies_grow (suc n) ref may (run_in e.texts e.answers ref.text n) (run_in e.texts' e.answers' ref.text m) (λ block kept. (meaning_grows two block kept).grows)

  opening_within : e.L → IsStateWithin (opening e.start)
  opening_within x = let w = e.within x in record { fraction = w.time; pairs = w.locals; set = w.settings; counters = tt }

  -- what the relation says of a thread
  pub of_thread : (n m : ℕ) → n ≤ m → R n (opening e.start) (thread e.texts e.start e.answers n) (thread e.texts' e.start e.answers' m)
  unfolding thread
  of_thread n m le =
      let whole : n ≤ n = omega arith in
      let below : n - 1 ≤ n = omega arith in
      let two : Two = record {
        R = R;
        e = e;
        has = has;
        text = e.start.block.text;
        n = n;
        turns = n;
        turns' = m;
        body = called e.texts e.start e.answers n;
        body' = called e.texts' e.start e.answers' m;
        enough = whole;
        more = le;
        bodies = λ ref may. body_less _ _ below (called_grows n m le ref may);
      } in
      by_role_keeps two e.start.role refl (λ x. (e.within x).role) (called_grows n m le e.start.block (λ x. (e.begins x).block)) (opening e.start) opening_within

-- the evaluation of a thread of which nothing is asked but what the limits of the language say
abbrev pub free_subject : (L : Type 0) (texts : Texts) (start : Start) (answers answers' : List Answer) → (L → IsStartWithin start) → (L → AreChecked texts) → Subject
free_subject L texts start answers answers' within checked = record {
  L = L;
  rules = no_rules;
  texts = texts;
  texts' = texts;
  start = start;
  answers = answers;
  answers' = answers';
  within = within;
  quiet = λ l event none. tt;
  taken = λ l place path value. tt;
  begins = λ l. record { block = tt; ends = λ path is place. tt; turns = λ name wait init is. record { tells = λ place. tt; runs = λ event kept heard is. tt } };
  blocks = λ l ref block may is. freely_allowed texts ref.text block (blocks_fit texts (checked l) ref block is);
  same = λ ref may. refl;
}
