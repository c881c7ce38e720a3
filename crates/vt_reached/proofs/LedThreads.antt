-- The reach is sound: each step of a thread that began as the texts can is led to by them and within the reach of its start.
use Rattle.std.proofs.Common.{◌≡◌, ◌+◌, ℕ, zero, suc, arith, List, [], ◌∷◌, ◌++◌, take, drop, Option, Some, None, refl, sym, ap, ◌∙◌, subst, append_assoc}
use Rattle.std.specs.Prelude.{codes, slice_get, option_and_then}
use Rattle.std.specs.Bool.{MatchBool}
use Rattle.std.specs.List.{AllByRecursion, Contains}
use Rattle.std.proofs.lemmas.List.Elements.{Contains-append_right}
use Rattle.vt_path.specs.declared.inner_path.InnerKind.TheVariants.{Body as BodyPath, Looped as LoopedPath, Named as NamedPath}
use Rattle.vt_path.specs.declared.pattern.Segment.{Segment}
use Rattle.vt_path.specs.Inner.{inner_of}
use Rattle.vt_path.specs.Match.{Matches}
use Rattle.vt_tree.specs.declared.statement.Block.{Block}
use Rattle.vt_tree.specs.Parts.{blocks}
use Rattle.vt_event.specs.declared.place.Place.{Place}
use Rattle.vt_event.specs.declared.references.BlockRef.{BlockRef}
use Rattle.vt_event.specs.EventsByKind.{cue_event, ended_event, took_event}
use Rattle.vt_event.specs.Event.{EventView}
use Rattle.vt_value.specs.declared.value.Value.{Value}
use Rattle.vt_value.specs.declared.value.Value.TheVariants.{Ring}
use Rattle.vt_check.specs.Checked.{block_at}
use Rattle.vt_reach.specs.declared.found.BlockUse.{BlockUse}
use Rattle.vt_reach.specs.declared.found.Row.{Row}
use Rattle.vt_reach.specs.declared.mention.Key.TheVariants.{Loop}
use Rattle.vt_reach.specs.declared.mention.Mention.{Mention}
use Rattle.vt_reach.specs.declared.mention.Mention.TheVariants.{Writes, WritesAny, Runs}
use Rattle.vt_reach.specs.Mentions.{loops}
use Rattle.vt_reach.specs.Reach.{IsMet, Reaches, mentioned, row}
use Rattle.vt_reach.specs.TreeMentions.{inside_found, uses_of}
use Rattle.vt_reach.proofs.InnerLemmas.{inner_alike}
use Rattle.vt_reach.proofs.Places.{at_contains, none_some, one_some}
use Rattle.vt_reach.proofs.TreeUses.{text_found, use_at}
use Rattle.vt_run.specs.declared.action.Action.{Action}
use Rattle.vt_run.specs.declared.action.Action.TheVariants.{Emit, Rest, Read, Wait, Spawn, End}
use Rattle.vt_run.specs.declared.action.Answer.{Answer}
use Rattle.vt_run.specs.declared.action.Answer.TheVariants.{Nothing, Found}
use Rattle.vt_run.specs.declared.role.Role.{Role}
use Rattle.vt_run.specs.declared.role.Role.TheVariants.{Plain, Named, Looped, Timed}
use Rattle.vt_run.specs.declared.start.Start.{Start}
use Rattle.vt_run.specs.declared.texts.Texts.{Texts}
use Rattle.vt_run.specs.Actions.{name_path}
use Rattle.vt_run.specs.Evaluation.{Left, Step}
use Rattle.vt_run.specs.Limits.{AreChecked, IsAnswerWithin, IsStartWithin}
use Rattle.vt_run.specs.Threads.{acts, block_of, opening, text_at, thread, tree_in}
use Rattle.vt_run.proofs.facts.BlocksOfTexts.{IsFitBlock, blocks_fit}
use Rattle.vt_run.proofs.growth.Closures.{Subject}
use Rattle.vt_run.proofs.growth.Rules.{IsAllowed, MayBegin, MayTurn, ref_of}
use Rattle.vt_run.proofs.growth.ThreadGrowth.{of_thread}
use Rattle.vt_reached.specs.Fit.{FitsRole, IsFit, IsRow, MayPublish, rows_of_texts}
use Rattle.vt_reached.specs.Leading.{AreHeard, IsAnswerTo, IsEventLed, IsHeard, IsLed, IsStartLed, StepsAreLed, used_after}
use Rattle.vt_reached.proofs.AllowedBlocks.{HasLoops, all_later, all_loops}
use Rattle.vt_reached.proofs.AllowedCalls.{may_loop, tells_at, writes_path}
use Rattle.vt_reached.proofs.LedRuns.{IsAllowedBy, IsAnsweredBy, IsLedRun, Led, led}
use Rattle.vt_reached.proofs.ReachRules.{AllReached, IsCovered, IsOfPath, MayTell, WritesPath, reach_rules}
use Rattle.vt_reached.proofs.TextRows.{IsOfTexts, one_row, row_of_text, text_where}

item_at : {X : Type 0} (F : X → Type 0) (xs : List X) (k : ℕ) (x : X) → AllByRecursion F xs → slice_get xs k ≡ Some x → F x
item_at F [] k x h e = absurd (none_some e)
item_at F (y ∷ ys) zero x h e = subst F (one_some e) h.0
item_at F (y ∷ ys) (suc k) x h e = item_at F ys k x h.1 e

-- the text of a row
pub row_text : (texts : Texts) (ref : BlockRef) (found : Row) → IsRow texts ref found → (tree : Block) × (used : BlockUse) × (tree_in (text_at texts ref.text) ≡ Some tree) × (slice_get (uses_of tree) found.block ≡ Some used) × (found ≡ row found.text found.block used)
row_text texts ref found is =
    let h = text_where 1 texts found is.among in
    let at = h.text in
    let of = is.of_text in
    let k = h.place in
    let place_is : ref.text ≡ suc k = omega (arith, at, of) in
    (h.tree, h.used, ap (λ n. tree_in (text_at texts n)) place_is ∙ h.there, h.has, h.whole)

tree_fits : (texts : Texts) → AreChecked texts → (text : ℕ) (tree : Block) → tree_in (text_at texts text) ≡ Some tree → IsFitBlock texts text tree
tree_fits texts checked text tree there = blocks_fit texts checked (ref_of text 0) tree (ap (option_and_then (λ tree. block_at tree 0)) there)

-- a body of a live loop does what a live loop does
row_loops : (texts : Texts) → AreChecked texts → (ref : BlockRef) (found : Row) → IsRow texts ref found → (name : List ℕ) → found.body_of ≡ Some (Loop name) → (m : Mention) → Contains (loops name) m → Contains found.mentions m
row_loops texts checked ref found is name body m among =
    let t = row_text texts ref found is in
    let fits = item_at HasLoops (uses_of t.0) found.block t.1 (all_loops texts found ref.text t.0 (tree_fits texts checked ref.text t.0 t.2)) t.3 in
    subst (λ (r : Row). Contains r.mentions m) (sym t.4) (fits name (sym (ap (λ (r : Row). r.body_of) t.4) ∙ body) m among)

module _ (texts : Texts) (checked : AreChecked texts) (from : Row) where
  -- a block that a thread may run keeps the rules
  block_by : (ref : BlockRef) (block : Block) → IsCovered texts from ref → (o : Option Block) → tree_in (text_at texts ref.text) ≡ o → option_and_then (λ tree. block_at tree ref.block) o ≡ Some block → IsAllowed (reach_rules texts from) texts ref.text block
  block_by ref block covered None there at = absurd (none_some at)
  block_by ref block covered (Some tree) there at =
      let used = use_at (blocks tree) (uses_of tree) ref.block block (text_found tree) at in
      let whole = one_row texts ref covered.block (row ref.text ref.block used.0) covered.is (row_of_text texts ref.text tree ref.block used.0 there used.1) in
      let later = all_later texts from ref.text tree there (checked ref.text tree there) (tree_fits texts checked ref.text tree there) in
      item_at (λ b. AllReached texts from (inside_found b).mentions → IsAllowed (reach_rules texts from) texts ref.text b) (blocks tree) ref.block block later at
      (λ m c. covered.covers m (mentioned covered.block m
      (subst (λ (r : Row). Contains r.mentions m) (sym whole) (subst (λ ms. Contains ms m) (sym used.2.whole) (Contains-append_right used.2.own (inside_found block).mentions m c)))))

  reached_path : (path : List (List ℕ)) → Contains from.mentions (Writes path) → WritesPath texts from path
  reached_path path c = writes_path texts from path (mentioned from (Writes path) c)

module _ (texts : Texts) (checked : AreChecked texts) (start : Start) (answers : List Answer) (began : IsStartWithin start) (fit : IsFit texts start) where
  abbrev from : Row
  from = fit.row

  loop_mentions : (name : List ℕ) (wait : Option (List Segment)) (init : Value) → start.role ≡ Looped name wait init → (m : Mention) → Contains (loops name) m → Contains from.mentions m
  loop_mentions name wait init is m c = row_loops texts checked start.block from fit.of_texts name (subst (λ (r : Role). FitsRole r from) is fit.role) m c

  ends_told : (role : Role) → start.role ≡ role → (path : List (List ℕ)) → name_path role ≡ Some path → WritesPath texts from path
  ends_told Plain is path at = absurd (none_some at)
  ends_told (Named name) is path at = subst (WritesPath texts from) (one_some at) (reached_path texts checked from (inner_of NamedPath name) (subst (λ (r : Role). FitsRole r from) is fit.role))
  ends_told (Looped name wait init) is path at =
      subst (WritesPath texts from) (one_some at) (reached_path texts checked from (inner_of LoopedPath name) (loop_mentions name wait init is (Writes (inner_of LoopedPath name)) (at_contains (loops name) 2 _ refl)))
  ends_told (Timed rest given line) is path at = absurd (none_some at)

  begins : MayBegin (reach_rules texts from) start
  begins = record {
    block = record { block = from; is = fit.of_texts; covers = λ m r. r };
    ends = λ path is place. tells_at texts from (ended_event place path) path refl tt (ends_told start.role refl path is);
    turns = λ name wait init is. record {
      tells = λ place. tells_at texts from (cue_event place (codes "live_loop" ∷ name ∷ []) (Ring [])) (codes "live_loop" ∷ name ∷ []) refl tt
          (reached_path texts checked from (codes "live_loop" ∷ name ∷ []) (loop_mentions name wait init is (Writes (codes "live_loop" ∷ name ∷ [])) (at_contains (loops name) 0 _ refl)));
      runs = may_loop texts from name (mentioned from (Runs (Loop name)) (loop_mentions name wait init is (Runs (Loop name)) (at_contains (loops name) 3 _ refl)));
    };
  }

  subject : Subject
  subject = record {
    L = Unit {0};
    rules = reach_rules texts from;
    texts = texts;
    texts' = texts;
    start = start;
    answers = answers;
    answers' = answers;
    within = λ l. began;
    quiet = λ l event none took. record { known = λ path is. absurd (none_some (sym none ∙ is)); writes = λ path is. absurd (none_some (sym none ∙ is)) };
    taken = λ l place path value took. absurd (took refl);
    begins = λ l. begins;
    blocks = λ l ref block covered at. block_by texts checked from ref block covered (tree_in (text_at texts ref.text)) refl at;
    same = λ ref may. refl;
  }

  -- a path that is reached is one that may be published at
  met : (path : List (List ℕ)) (pattern : List Segment) → Matches pattern path → (mention : Mention) → IsOfPath mention path → IsMet pattern mention
  met path pattern matched (Writes written) is = subst (Matches pattern) (sym is) matched
  met path pattern matched WritesAny is = inner_alike pattern path matched ∙ is
  met path pattern matched (Runs key) is = is

  publishes : (path : List (List ℕ)) (pattern : List Segment) → WritesPath texts from path → Matches pattern path → MayPublish texts start pattern
  publishes path pattern w matched = (from, w.mention, fit.of_texts, w.reached, met path pattern matched w.mention w.is)

  passes : (child : Start) → IsCovered texts from child.block → (pattern : List Segment) → MayPublish texts child pattern → MayPublish texts start pattern
  passes child covered pattern h =
      let same = one_row texts child.block h.0 covered.block h.2 covered.is in
      (from, h.1, fit.of_texts, covered.covers h.1 (subst (λ (r : Row). Reaches (rows_of_texts texts) r h.1) same h.3), h.4)

  action_led : (action : Option Action) → IsAllowedBy (reach_rules texts from) action → IsLed texts start action
  action_led None h = tt
  action_led (Some (Emit event)) h = λ path is took. let may = h took in record { known = may.known path is; writes = λ at pattern is matched. publishes at pattern (may.writes at is) matched }
  action_led (Some (Spawn place child)) h = record { fit = record { row = h.0.block; of_texts = h.0.is; role = h.1 }; passes = passes child h.0 }
  action_led (Some (Read place pattern)) h = tt
  action_led (Some (Wait place pattern stop)) h = tt
  action_led (Some (Rest place seconds)) h = tt
  action_led (Some (End place reason)) h = tt

  answered_by : (action : Option Action) (answer : Option Answer) → IsAnswerTo texts action answer → IsAnsweredBy (reach_rules texts from) action answer
  answered_by None answer h = tt
  answered_by (Some (Emit event)) answer h = tt
  answered_by (Some (Spawn place child)) answer h = tt
  answered_by (Some (Read place pattern)) None h = tt
  answered_by (Some (Read place pattern)) (Some Nothing) h = λ event is. absurd (let z : Nothing ≡ Found event = is in cc)
  answered_by (Some (Read place pattern)) (Some (Found found)) h = λ event is. subst (IsHeard texts pattern) (let z : Found found ≡ Found event = is in cc) h
  answered_by (Some (Wait place pattern stop)) answer h = tt
  answered_by (Some (Rest place seconds)) answer h = tt
  answered_by (Some (End place reason)) answer h = tt

  step_led : (used : ℕ) (steps before : List Step) (step : Step) (after : List Step) (left : Option Left) → IsLedRun (reach_rules texts from) answers used steps left → steps ≡ before ++ step ∷ after → AreHeard texts answers used before → IsLed texts start step.action
  step_led used [] [] step after left run is heard = absurd (let z : [] ≡ step ∷ after = is in cc)
  step_led used [] (b ∷ before) step after left run is heard = absurd (let z : [] ≡ b ∷ (before ++ step ∷ after) = is in cc)
  step_led used (s ∷ steps) [] step after left run is heard =
      let same : s ≡ step = cc in
      action_led step.action (subst (λ (x : Step). IsAllowedBy (reach_rules texts from) x.action) same run.0)
  step_led used (s ∷ steps) (b ∷ before) step after left run is heard =
      let same : s ≡ b = cc in
      let rest : steps ≡ before ++ step ∷ after = cc in
      let asked = answered_by b.action (slice_get answers used) heard.0 in
      step_led (used_after b.action used) steps before step after left
      (subst (λ (x : Step). IsLedRun (reach_rules texts from) answers (used_after x.action used) steps left) same (run.1 (subst (λ (x : Step). IsAnsweredBy (reach_rules texts from) x.action (slice_get answers used)) (sym same) asked)))
      rest heard.1

take_drop_whole : {A : Type 0} (n : ℕ) (xs : List A) → xs ≡ take n xs ++ drop n xs
take_drop_whole zero xs = refl
take_drop_whole (suc n) [] = refl
take_drop_whole (suc n) (x ∷ xs) = ap (λ ys. x ∷ ys) (take_drop_whole n xs)

pub steps_led : StepsAreLed
unfolding acts subject
steps_led texts start answers count before after step checked began within fit is heard =
    let e = subject texts checked start answers began fit in
    let run = of_thread (Led e) e (led e tt within) count count (omega arith) in
    let steps = (thread texts start answers count).steps in
    let more = drop count steps in
    let whole : steps ≡ before ++ step ∷ (after ++ more) = take_drop_whole count steps ∙ ap (λ xs. xs ++ more) is ∙ append_assoc before (step ∷ after) more in
    step_led texts checked start answers began fit 0 steps before step (after ++ more) (thread texts start answers count).left run whole heard
