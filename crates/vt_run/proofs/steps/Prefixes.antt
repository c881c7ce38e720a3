-- The first n steps of a thread are the same under every bound from n on.
use Rattle.std.proofs.Common.{◌≡◌, ◌≤◌, ℕ, zero, suc, List, [], ◌∷◌, take, Option, Some, None, refl, sym, ap, ◌∙◌, arith}
use Rattle.std.specs.Prelude.{slice_get}
use Rattle.vt_path.specs.declared.pattern.Segment.{Segment}
use Rattle.vt_event.specs.declared.place.Place.{Place}
use Rattle.vt_event.specs.Event.{EventView}
use Rattle.vt_run.specs.declared.action.Action.TheVariants.{Read}
use Rattle.vt_run.specs.declared.action.Answer.{Answer}
use Rattle.vt_run.specs.declared.action.Answer.TheVariants.{Nothing, Found}
use Rattle.vt_run.specs.declared.start.Start.{Start}
use Rattle.vt_run.specs.declared.state.State.{State}
use Rattle.vt_run.specs.declared.texts.Texts.{Texts}
use Rattle.vt_run.specs.Actions.{acted, answered, place_of, wakes_by, wakes_with, woken}
use Rattle.vt_run.specs.Evaluation.{Ran, Step, does, step}
use Rattle.vt_run.specs.Threads.{acts, env_of, thread}
use Rattle.vt_run.proofs.growth.Closures.{Closure, Subject, answered_state}
use Rattle.vt_run.proofs.growth.Growth.{Grows, same, less, step_grows, halts_grow, after_grows, prefix_same}
use Rattle.vt_run.proofs.growth.ThreadGrowth.{free_subject, of_thread}
use Rattle.vt_run.specs.laws.StepLaws.{PrefixLaw}

-- an evaluation of which nothing is known, with two lists of answers
abbrev pub evaluation : Texts → Start → List Answer → List Answer → Subject
evaluation texts start answers answers' = free_subject ⊥ texts start answers answers' (λ l. absurd l) (λ l. absurd l)

-- a read, where the bound grows
asked_on : (n : ℕ) (place : Place) (pattern : List Segment) (answer : Option Answer) (st : State) (go go' : Answer → State → Ran) →
    ((answer : Answer) → Grows n (go answer (answered_state st)) (go' answer (answered_state st))) →
    Grows (suc n) (does 1 (Read place pattern) (answered answer (acted st) go)) (does 1 (Read place pattern) (answered answer (acted st) go'))
asked_on n place pattern None st go go' h = same refl
asked_on n place pattern (Some answer) st go go' h = step_grows _ (h answer)

-- what a wait wakes, where the bound grows
module _ (n : ℕ) where
  path_wakes : (path : Option (List (List ℕ))) (event : EventView) (st : State) (go go' : List (List ℕ) → EventView → State → Ran) →
      ((path : List (List ℕ)) → Grows n (go path event (woken event.place st)) (go' path event (woken event.place st))) →
      Grows n (wakes_with path event st go) (wakes_with path event st go')
  path_wakes None event st go go' h = same refl
  path_wakes (Some path) event st go go' h = h path

  pub answer_wakes : (answer : Answer) (st : State) (go go' : List (List ℕ) → EventView → State → Ran) →
      ((path : List (List ℕ)) (event : EventView) → Grows n (go path event (woken event.place st)) (go' path event (woken event.place st))) →
      Grows n (wakes_by answer st go) (wakes_by answer st go')
  answer_wakes Nothing st go go' h = same refl
  answer_wakes (Found event) st go go' h = path_wakes event.path event st go go' (λ path. h path event)

-- a wait, where the bound grows
waited_on : (n : ℕ) (s : Step) (answer : Option Answer) (st : State) (go go' : List (List ℕ) → EventView → State → Ran) →
    ((path : List (List ℕ)) (event : EventView) → Grows n (go path event (woken event.place (answered_state st))) (go' path event (woken event.place (answered_state st)))) →
    Grows (suc n) (step s (answered answer (acted st) (λ answer st. wakes_by answer st go))) (step s (answered answer (acted st) (λ answer st. wakes_by answer st go')))
waited_on n s None st go go' h = same refl
waited_on n s (Some answer) st go go' h = step_grows _ (answer_wakes n answer (answered_state st) go go' h)

growth : (texts : Texts) (start : Start) (answers : List Answer) → Closure (λ n st a b. Grows n a b) (evaluation texts start answers answers)
growth texts start answers = record {
  less = λ {n} {m} {st} {a} {b} le h. less le h;
  alike = λ {n} {st} {other} {a} {b} is h. h;
  given = λ n value st v s. same refl;
  bound = λ st b. halts_grow b;
  spent = λ {n} {st} {a} {b} cost le h. step_grows _ h;
  emitted = λ {n} {st} {a} {b} event told s h. step_grows _ h;
  effected = λ {n} {st} {a} {b} name options named within s h. step_grows _ h;
  ended = λ n st reason s. same refl;
  followed = λ {n} {st} a b k k' h f. after_grows a b k k' h (λ l left. f l left (λ x. absurd x) (λ x. absurd x));
  asked = λ n text turns turns' body body' pattern st go go' p s h. asked_on n (place_of (env_of start text answers turns body) st) pattern (slice_get answers st.used) st go go' (λ answer. h answer (λ x. absurd x) (λ x. absurd x));
  waited = λ n text turns turns' body body' pattern st go go' p s h. waited_on n _ (slice_get answers st.used) st go go' (λ path event. h path event (λ x. absurd x) (λ x. absurd x));
  rested = λ n text turns turns' body body' seconds st ok r s. same refl;
  spawned = λ n text turns turns' body body' role handed block st go go' nested r b may s h. step_grows _ h;
}

-- the first n steps under any bound from n on
pub acts_stable : (texts : Texts) (start : Start) (answers : List Answer) (n m : ℕ) → n ≤ m → acts texts start answers n ≡ take n (thread texts start answers m).steps
unfolding acts
acts_stable texts start answers n m le = prefix_same (of_thread (λ n st a b. Grows n a b) (evaluation texts start answers answers) (growth texts start answers) n m le)

take-take : {A : Type 0} (n m : ℕ) (xs : List A) → n ≤ m → take n (take m xs) ≡ take n xs
take-take zero m xs le = refl
take-take (suc n) zero xs le = absurd (omega arith)
take-take (suc n) (suc m) [] le = refl
take-take (suc n) (suc m) (x ∷ xs) le = let below : n ≤ m = omega arith in ap (λ t. x ∷ t) (take-take n m xs below)

pub prefix_law : PrefixLaw
unfolding acts
prefix_law texts start answers n m le = acts_stable texts start answers n m le ∙ sym (take-take n m (thread texts start answers m).steps le)
