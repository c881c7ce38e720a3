-- Further answers only add steps at the end.
use Rattle.std.proofs.Common.{ℕ, zero, suc, List, [], ◌∷◌, ◌++◌, take, Option, Some, None, refl, sym, ap, ◌∙◌, subst, arith, append-nil}
use Rattle.std.specs.Prelude.{slice_get}
use Rattle.vt_run.specs.declared.action.Answer.{Answer}
use Rattle.vt_run.specs.declared.start.Start.{Start}
use Rattle.vt_run.specs.declared.state.State.{State}
use Rattle.vt_run.specs.declared.texts.Texts.{Texts}
use Rattle.vt_run.specs.Actions.{acted, answered, wakes_by}
use Rattle.vt_run.specs.laws.StepLaws.{AnswersLaw, IsPrefix}
use Rattle.vt_run.specs.Evaluation.{Ran, Step, step}
use Rattle.vt_run.specs.Threads.{acts}
use Rattle.vt_run.proofs.growth.Closures.{Closure, answered_state}
use Rattle.vt_run.proofs.growth.Growth.{Grows, same, cut, less, step_grows, halts_grow, after_grows}
use Rattle.vt_run.proofs.steps.Prefixes.{answer_wakes, evaluation}
use Rattle.vt_run.proofs.growth.ThreadGrowth.{of_thread}

-- the second is the first, where there is a first
data AddsTo : Option Answer → Option Answer → Type 0 where
  nothing : (answer : Option Answer) → AddsTo None answer
  found : (answer : Answer) → AddsTo (Some answer) (Some answer)

further_adds : (answers more : List Answer) (k : ℕ) → AddsTo (slice_get answers k) (slice_get (answers ++ more) k)
further_adds [] more k = nothing _
further_adds (answer ∷ answers) more zero = found answer
further_adds (answer ∷ answers) more (suc k) = further_adds answers more k

-- a run that asks: without an answer it stops, and with one it goes on with that
asked_more : (s : Step) (answer answer' : Option Answer) (st : State) (go go' : Answer → State → Ran) → AddsTo answer answer' →
    ((answer : Answer) → Grows 0 (go answer (answered_state st)) (go' answer (answered_state st))) →
    Grows 0 (step s (answered answer (acted st) go)) (step s (answered answer' (acted st) go'))
asked_more s _ _ st go go' (nothing answer) h = less (omega arith) (step_grows s (halts_grow (answered answer (acted st) go')))
asked_more s _ _ st go go' (found answer) h = less (omega arith) (step_grows s (h answer))

more_answers : (texts : Texts) (start : Start) (answers more : List Answer) → Closure (λ n st a b. Grows 0 a b) (evaluation texts start answers (answers ++ more))
more_answers texts start answers more = record {
  less = λ {n} {m} {st} {a} {b} le h. h;
  alike = λ {n} {st} {other} {a} {b} is h. h;
  given = λ n value st v s. same refl;
  bound = λ st b. halts_grow b;
  spent = λ {n} {st} {a} {b} cost le h. less (omega arith) (step_grows _ h);
  emitted = λ {n} {st} {a} {b} event told s h. less (omega arith) (step_grows _ h);
  effected = λ {n} {st} {a} {b} name options named within s h. less (omega arith) (step_grows _ h);
  ended = λ n st reason s. same refl;
  followed = λ {n} {st} a b k k' h f. after_grows a b k k' h (λ l left. f l left (λ x. absurd x) (λ x. absurd x));
  asked = λ n text turns turns' body body' pattern st go go' p s h.
      asked_more _ (slice_get answers st.used) (slice_get (answers ++ more) st.used) st go go' (further_adds answers more st.used) (λ answer. h answer (λ x. absurd x) (λ x. absurd x));
  waited = λ n text turns turns' body body' pattern st go go' p s h.
      asked_more _ (slice_get answers st.used) (slice_get (answers ++ more) st.used) st (λ answer st. wakes_by answer st go) (λ answer st. wakes_by answer st go') (further_adds answers more st.used)
      (λ answer. answer_wakes 0 answer (answered_state st) go go' (λ path event. h path event (λ x. absurd x) (λ x. absurd x)));
  rested = λ n text turns turns' body body' seconds st ok r s. same refl;
  spawned = λ n text turns turns' body body' role handed block st go go' nested r b may s h. less (omega arith) (step_grows _ h);
}

-- a prefix of a prefix
take_prefix : (n : ℕ) (first more : List Step) → IsPrefix (take n first) (take n (first ++ more))
take_prefix zero first more = record { rest = []; whole = refl }
take_prefix (suc n) [] more = record { rest = take (suc n) more; whole = refl }
take_prefix (suc n) (s ∷ first) more = let prefix = take_prefix n first more in record { rest = prefix.rest; whole = ap (λ steps. s ∷ steps) prefix.whole }

-- the first n steps of the first run are a prefix of those of the second
prefixes : (n : ℕ) {a b : Ran} → Grows 0 a b → IsPrefix (take n a.steps) (take n b.steps)
prefixes n {a} {b} (same e) = record { rest = []; whole = ap (λ (ran : Ran). take n ran.steps) (sym e) ∙ sym (append-nil (take n a.steps)) }
prefixes n {a} {b} (cut c) = subst (λ steps. IsPrefix (take n a.steps) (take n steps)) (sym c.prefix) (take_prefix n a.steps c.more)

pub answers_law : AnswersLaw
unfolding acts
answers_law texts start answers more n =
    prefixes n (of_thread (λ n st a b. Grows 0 a b) (evaluation texts start answers (answers ++ more)) (more_answers texts start answers more) n n (omega arith))
