-- With the reach of their blocks the threads of checked texts have all laws that the theory of stores asks for.
use Rattle.std.proofs.Common.{◌≡◌, ℕ, suc, ◌+◌, ◌-◌, ◌≤◌, ◌<◌, List, [], ◌∷◌, ◌++◌, length, take, Bool, true, false, Option, Some, None, refl, sym, ◌∙◌, ap, subst, arith, append_assoc}
use Rattle.std.specs.Prelude.{slice_get, not, ◌&&◌}
use Rattle.std.proofs.lemmas.List.{append-nil, take-append-le}
use Rattle.std.proofs.lemmas.Option.{slice_get_within}
use Rattle.vt_frac.specs.Fraction.{Fraction, IsFraction}
use Rattle.vt_path.specs.declared.pattern.Segment.{Segment}
use Rattle.vt_path.specs.Match.{Matches}
use Rattle.vt_event.specs.declared.kind.Kind.TheVariants.{Took}
use Rattle.vt_event.specs.declared.place.Place.{Place}
use Rattle.vt_event.specs.Event.{EventView}
use Rattle.vt_run.specs.declared.action.Action.{Action}
use Rattle.vt_run.specs.declared.action.Action.TheVariants.{Emit, Rest, Read, Wait, Spawn, End}
use Rattle.vt_run.specs.declared.action.Answer.{Answer}
use Rattle.vt_run.specs.declared.action.Answer.TheVariants.{Nothing, Found}
use Rattle.vt_run.specs.declared.start.Start.{Start}
use Rattle.vt_run.specs.declared.texts.Texts.{Texts}
use Rattle.vt_run.specs.Evaluation.{Step}
use Rattle.vt_run.specs.Limits.{AreChecked}
use Rattle.vt_run.specs.Threads.{acts, text_at, tree_in}
use Rattle.vt_run.specs.laws.StepLaws.{LimitsLaw}
use Rattle.vt_reached.specs.Fit.{FitsBody, IsFit, IsKnown, IsRow}
use Rattle.vt_reached.proofs.TextRows.{row_of_text}
use Rattle.vt_reach.specs.declared.found.BlockUse.{BlockUse}
use Rattle.vt_reach.specs.Reach.{row}
use Rattle.vt_reach.specs.TreeMentions.{inside_found}
use Rattle.vt_meaning.proofs.RealOpening.{Heard, IsGivenSo, IsTextStart, Refusal, given_so, text_so}
use Rattle.vt_reached.specs.Leading.{AreHeard, IsAnswerTo, IsLed, StepsAreLed}
use Rattle.vt_meaning.specs.Laws.{MatchTestIsRight}
use Rattle.vt_meaning.specs.Leading.{OpeningsFit, TellsReach, TextsLead, TextsReach}
use Rattle.vt_meaning.specs.LookUps.{is_took, matches_event, matches_some}
use Rattle.vt_meaning.specs.Reach.{Fits, IsFed}
use Rattle.vt_meaning.specs.RealLaws.{IsLeading, IsRendered, OpeningsAreOrderly, TextsAct, TextsAreActs, threads_with}
use Rattle.vt_meaning.specs.Session.{Key, with_horizon}
use Rattle.vt_meaning.specs.ThreadLaws.{AreActs}
use Rattle.vt_meaning.specs.ThreadMeaning.{ThreadMeaning}
use Rattle.vt_meaning.specs.Traces.{Entry, Thread, paired, trace}
use Rattle.vt_meaning.proofs.Pairing.{answers_of, answers_split, left, length-paired, paired_again, take-paired}
use Rattle.vt_meaning.proofs.RealReach.{fed_within, get_first}
use Rattle.vt_meaning.proofs.RealThreads.{cut_at}
use Rattle.vt_meaning.proofs.StepLaws.{based, further_by, longer_by}
use Rattle.vt_run.specs.laws.StartLaws.{TextStartLaw, RefusalLaw, InputLaw}

-- what a pattern matches is no Took, and has a path that the pattern matches
matched_path : MatchTestIsRight → (pattern : List Segment) (event : EventView) → matches_event pattern event ≡ true → (path : List (List ℕ)) × (event.path ≡ Some path) × Matches pattern path
unfolding matches_event
matched_path right pattern event h = go (not (is_took event.kind)) event.path refl h
  where
    go : (b : Bool) (o : Option (List (List ℕ))) → event.path ≡ o → (b && matches_some pattern o) ≡ true → (path : List (List ℕ)) × (event.path ≡ Some path) × Matches pattern path
    go true None is h = absurd (let z : false ≡ true = h in cc)
    go true (Some path) is h = (path, is, (right pattern path).0 h)
    go false o is h = absurd (let z : false ≡ true = h in cc)

not_taken : (pattern : List Segment) (event : EventView) → matches_event pattern event ≡ true → event.kind ≡ Took → ⊥
unfolding matches_event
not_taken pattern event h is = let z : false ≡ true = sym (ap (λ kind. not (is_took kind) && matches_some pattern event.path) is) ∙ h in cc

-- what was found along these steps is what the texts can lead to and what was asked for
abbrev Told : Texts → List Step → List Answer → Type 0
Told texts steps answers = (k : ℕ) (entry : Entry) (event : EventView) → slice_get (paired steps answers) k ≡ Some entry → entry.answer ≡ Some (Found event) → IsKnown texts event × Fits entry.step.action event

abbrev StandAt : List Answer → ℕ → List Answer → Type 0
StandAt all used answers = (k : ℕ) → slice_get all (used + k) ≡ slice_get answers k

module _ (right : MatchTestIsRight) (texts : Texts) (all : List Answer) where
  here_at : (used : ℕ) (answers : List Answer) → StandAt all used answers → slice_get all used ≡ slice_get answers 0
  here_at used answers at = let z : used ≡ used + 0 = omega arith in ap (slice_get all) z ∙ at 0

  next_none : (used : ℕ) → StandAt all used [] → StandAt all (used + 1) []
  next_none used at k = let z : (used + 1) + k ≡ used + suc k = omega arith in ap (slice_get all) z ∙ at (suc k)

  next_at : (used : ℕ) (answer : Answer) (answers : List Answer) → StandAt all used (answer ∷ answers) → StandAt all (used + 1) answers
  next_at used answer answers at k = let z : (used + 1) + k ≡ used + suc k = omega arith in ap (slice_get all) z ∙ at (suc k)

  read_none : (place : Place) (pattern : List Segment) (used : ℕ) → slice_get all used ≡ None → IsAnswerTo texts (Some (Read place pattern)) (slice_get all used)
  read_none place pattern used is = subst (IsAnswerTo texts (Some (Read place pattern))) (sym is) tt

  read_found : (place : Place) (pattern : List Segment) (answer : Answer) → ((event : EventView) → answer ≡ Found event → IsKnown texts event × Fits (Some (Read place pattern)) event) → IsAnswerTo texts (Some (Read place pattern)) (Some answer)
  read_found place pattern Nothing told = tt
  read_found place pattern (Found event) told = let t = told event refl in let m = matched_path right pattern event t.1 in record { known = t.0; path = m.0; at = m.1; matched = m.2 }

  heard_step : (used : ℕ) (cost : ℕ) (action : Option Action) (steps : List Step) (answers : List Answer) → Told texts (record { cost = cost; action = action } ∷ steps) answers → StandAt all used answers →
      ((used : ℕ) (answers : List Answer) → Told texts steps answers → StandAt all used answers → AreHeard texts all used steps) → AreHeard texts all used (record { cost = cost; action = action } ∷ steps)
  heard_step used cost None steps [] told at next = (tt, next used [] (λ k. told (suc k)) at)
  heard_step used cost None steps (answer ∷ answers) told at next = (tt, next used (answer ∷ answers) (λ k. told (suc k)) at)
  heard_step used cost (Some (Emit event)) steps [] told at next = (tt, next used [] (λ k. told (suc k)) at)
  heard_step used cost (Some (Emit event)) steps (answer ∷ answers) told at next = (tt, next used (answer ∷ answers) (λ k. told (suc k)) at)
  heard_step used cost (Some (Spawn place child)) steps [] told at next = (tt, next used [] (λ k. told (suc k)) at)
  heard_step used cost (Some (Spawn place child)) steps (answer ∷ answers) told at next = (tt, next used (answer ∷ answers) (λ k. told (suc k)) at)
  heard_step used cost (Some (Rest place seconds)) steps [] told at next = (tt, next used [] (λ k. told (suc k)) at)
  heard_step used cost (Some (Rest place seconds)) steps (answer ∷ answers) told at next = (tt, next used (answer ∷ answers) (λ k. told (suc k)) at)
  heard_step used cost (Some (End place reason)) steps [] told at next = (tt, next used [] (λ k. told (suc k)) at)
  heard_step used cost (Some (End place reason)) steps (answer ∷ answers) told at next = (tt, next used (answer ∷ answers) (λ k. told (suc k)) at)
  heard_step used cost (Some (Wait place pattern stop)) steps [] told at next = (tt, next (used + 1) [] (λ k. told (suc k)) (next_none used at))
  heard_step used cost (Some (Wait place pattern stop)) steps (answer ∷ answers) told at next = (tt, next (used + 1) answers (λ k. told (suc k)) (next_at used answer answers at))
  heard_step used cost (Some (Read place pattern)) steps [] told at next = (read_none place pattern used (here_at used [] at), next (used + 1) [] (λ k. told (suc k)) (next_none used at))
  heard_step used cost (Some (Read place pattern)) steps (answer ∷ answers) told at next = (
    subst (IsAnswerTo texts (Some (Read place pattern))) (sym (here_at used (answer ∷ answers) at)) (read_found place pattern answer (λ event is. told 0 _ event refl (ap (λ (a : Answer). Some a) is))),
    next (used + 1) answers (λ k. told (suc k)) (next_at used answer answers at),
  )

  heard_along : (used : ℕ) (steps : List Step) (answers : List Answer) → Told texts steps answers → StandAt all used answers → AreHeard texts all used steps
  heard_along used [] answers told at = tt
  heard_along used (step ∷ steps) answers told at = heard_step used step.cost step.action steps answers told at (λ used answers told at. heard_along used steps answers told at)

-- the steps that were done begin with those that the answers before them lead to
before_entry : (m : ThreadMeaning) (a : AreActs m) (thread : Thread) (i : ℕ) (entry : Entry) → slice_get (trace m thread) i ≡ Some entry →
    (rest : List Step) × (m.acts thread.start thread.answers thread.done ≡ m.acts thread.start (answers_of (take i (trace m thread))) (suc i) ++ rest)
unfolding trace
before_entry m a thread i entry at =
    let xs = m.acts thread.start thread.answers thread.done in
    let within = slice_get_within (paired xs thread.answers) i entry at in
    let long = length-paired xs thread.answers in
    let lt : i < length xs = omega (arith, within, long) in
    let cs = answers_of (take i (paired xs thread.answers)) in
    let cs_is : cs ≡ answers_of (paired (take i xs) thread.answers) = ap answers_of (take-paired xs thread.answers i lt) in
    let s = a.short thread.start thread.answers thread.done in
    let n : suc i + (thread.done - suc i) ≡ thread.done = omega (arith, lt, s) in
    let b = longer_by m a thread.start thread.answers (suc i) (thread.done - suc i) in
    let l : thread.answers ≡ cs ++ left (take i xs) thread.answers = answers_split (take i xs) thread.answers ∙ ap (λ l. l ++ left (take i xs) thread.answers) (sym cs_is) in
    let c = further_by m a thread.start cs (left (take i xs) thread.answers) (suc i) in
    let zs = m.acts thread.start cs (suc i) in (
      c.0 ++ b.0,
      ap (m.acts thread.start thread.answers) (sym n) ∙ b.1 ∙ ap (λ l. l ++ b.0) (ap (λ l. m.acts thread.start l (suc i)) l ∙ c.1) ∙ append_assoc zs c.0 b.0,
    )

-- the trace before an entry is that of these steps with these answers
same_before : (m : ThreadMeaning) (a : AreActs m) (thread : Thread) (i : ℕ) (entry : Entry) → slice_get (trace m thread) i ≡ Some entry →
    paired (take i (m.acts thread.start (answers_of (take i (trace m thread))) (suc i))) (answers_of (take i (trace m thread))) ≡ take i (trace m thread)
unfolding trace
same_before m a thread i entry at =
    let xs = m.acts thread.start thread.answers thread.done in
    let within = slice_get_within (paired xs thread.answers) i entry at in
    let long = length-paired xs thread.answers in
    let lt : i < length xs = omega (arith, within, long) in
    let cs = answers_of (take i (paired xs thread.answers)) in
    let zs = m.acts thread.start cs (suc i) in
    let cs_is : cs ≡ answers_of (paired (take i xs ++ []) thread.answers) = ap answers_of (take-paired xs thread.answers i lt) ∙ ap (λ l. answers_of (paired l thread.answers)) (sym (append-nil (take i xs))) in
    let whole = before_entry m a thread i entry at in
    let there = slice_get_within zs i entry.step (based m a thread i entry at) in
    let few : i ≤ length zs = omega (arith, there) in
    let taken : take i zs ≡ take i xs = sym (ap (take i) whole.1 ∙ take-append-le i zs whole.0 few) in
    ap (λ l. paired l cs) taken ∙ ap (paired (take i xs)) cs_is ∙ paired_again (take i xs) [] thread.answers ∙ sym (take-paired xs thread.answers i lt)

-- a start is fit whatever its horizon
fit_at : (texts : Texts) (until : Fraction) (start : Start) → IsFit texts start → IsFit texts (with_horizon until start)
fit_at texts until start h = record { row = h.row; of_texts = h.of_texts; role = h.role }

module _ (texts_act : TextsAct) (limits : LimitsLaw) (steps_led : StepsAreLed) (right : MatchTestIsRight) (texts : Texts) (until : Fraction) (may : Start → List Segment → Bool) (fit : Start → Bool) (known : EventView → Bool) (checked : AreChecked texts) (horizon : IsFraction until)
    (tells : TellsReach texts (threads_with texts until may fit known)) where
  abbrev m : ThreadMeaning
  m = threads_with texts until may fit known

  entry_led : (thread : Thread) (i : ℕ) (entry : Entry) → IsFed m thread i → slice_get (trace m thread) i ≡ Some entry → IsLed texts (with_horizon until thread.start) entry.step.action
  entry_led thread i entry fed at =
      let a = texts_act texts until may fit known in
      let cs = answers_of (take i (trace m thread)) in
      let zs = acts texts (with_horizon until thread.start) cs (suc i) in
      let cut = cut_at zs i entry.step (based m a thread i entry at) in
      let within = fed_within texts_act limits texts until may fit known checked horizon thread i fed in
      let same = same_before m a thread i entry at in
      let told : Told texts (take i zs) cs = λ k e event there is.
      let g = get_first (trace m thread) i k e (ap (λ l. slice_get l k) (sym same) ∙ there) in
      let t = fed.told k e event g.0 g.1 is in
      ((tells.known event).0 t.0.0, t.1) in
      let heard = heard_along right texts cs 0 (take i zs) cs told (λ k. let z : 0 + k ≡ k = omega arith in ap (slice_get cs) z) in
      steps_led texts (with_horizon until thread.start) cs (suc i) (take i zs) cut.0 entry.step checked within.began within.answered (fit_at texts until thread.start ((tells.fit thread.start).0 fed.begun.0)) cut.1 heard

  texts_leading : IsLeading m
  texts_leading = record {
    knows = λ thread i entry event pattern fed at is matched.
        let path = matched_path right pattern event matched in
        let led = subst (IsLed texts (with_horizon until thread.start)) is (entry_led thread i entry fed at) in
        (tells.known event).1 (led path.0 path.1 (not_taken pattern event matched)).known;
    breeds = λ thread i entry place start fed at is.
        let led = subst (IsLed texts (with_horizon until thread.start)) is (entry_led thread i entry fed at) in
        (tells.fit start).1 led.fit;
    writes = λ thread i entry event pattern fed at is matched.
        let path = matched_path right pattern event matched in
        let led = subst (IsLed texts (with_horizon until thread.start)) is (entry_led thread i entry fed at) in
        (tells.may thread.start pattern).1 ((led path.0 path.1 (not_taken pattern event matched)).writes path.0 pattern path.1 path.2);
    passes = λ thread i entry place start pattern fed at is may.
        let led = subst (IsLed texts (with_horizon until thread.start)) is (entry_led thread i entry fed at) in
        (tells.may thread.start pattern).1 (led.passes pattern ((tells.may start pattern).0 may));
  }

pub texts_lead : TextsAct → LimitsLaw → StepsAreLed → MatchTestIsRight → TextsLead
texts_lead act limits led right texts until may fit known checked horizon tells = texts_leading act limits led right texts until may fit known checked horizon tells

pub texts_reach : TextsLead → TextsAreActs → TextsReach
texts_reach lead are texts until may fit known checked horizon tells = are texts until may fit known checked horizon (lead texts until may fit known checked horizon tells)

-- the thread of a text begins with its first block
text_fits : (key : Key) (start : Start) → IsTextStart key start → IsFit key.texts start
text_fits key start of =
    let used : BlockUse = record { body_of = None; mentions = (inside_found of.tree).mentions } in
    let there : tree_in (text_at key.texts (suc of.number)) ≡ Some of.tree = ap tree_in of.text in
    let n = of.number in
    let z : suc n ≡ 1 + n = omega arith in
    let is : IsRow key.texts (record { text = 1 + of.number; block = 0 }) (row (suc of.number) 0 used) =
    subst (λ k. IsRow key.texts (record { text = k; block = 0 }) (row (suc of.number) 0 used)) z (row_of_text key.texts (suc of.number) of.tree 0 used there refl) in
    subst (IsFit key.texts) (sym of.is) (record { row = row (suc of.number) 0 used; of_texts = is; role = tt })

given_known : (starting : TextStartLaw) (refusing : RefusalLaw) (hearing : InputLaw) (key : Key) (rendered : IsRendered key) (event : EventView) → IsGivenSo starting refusing hearing key rendered event → IsKnown key.texts event
given_known starting refusing hearing key rendered event (Refusal of low) = subst (IsKnown key.texts) (sym of.is) tt
given_known starting refusing hearing key rendered event (Heard of early) = subst (FitsBody key.texts event.path) (sym of.bodiless) tt

pub openings_fit : TextStartLaw → RefusalLaw → InputLaw → OpeningsAreOrderly → OpeningsFit
openings_fit starting refusing hearing opens key may fit known rendered tells =
    let opening = opens key rendered in
    record {
      starts = λ start has. ((tells.fit start).1 (text_fits key start (text_so starting refusing hearing key rendered start has)), (opening.known.starts start has).1);
      given = λ event has. ((tells.known event).1 (given_known starting refusing hearing key rendered event (given_so starting refusing hearing key rendered event has)), (opening.known.given event has).1);
    }
