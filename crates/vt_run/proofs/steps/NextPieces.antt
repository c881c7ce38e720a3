-- A thread that has not ended has a next piece, and only one.
use Rattle.std.proofs.Common.{◌≡◌, ◌≤◌, ◌<◌, ◌⊎◌, inl, inr, ℕ, ◌+◌, List, [], ◌∷◌, ◌++◌, length, take, drop, Bool, true, false, Option, Some, None, refl, sym, ap, ◌∙◌, subst, arith, append_assoc, append-nil, length-append}
use Rattle.std.specs.Prelude.{◌-◌, ◌^◌, min, nat_le, leb, IsTrue, cond}
use Rattle.std.specs.List.{AllByRecursion}
use Rattle.std.proofs.lemmas.List.{append_cancel_left, length-take, nil_from_length, take-append-drop}
use Rattle.std.proofs.lemmas.Bool.{leb-false}
use Rattle.std.proofs.lemmas.Bool.Decides.{leb_tells}
use Rattle.std.proofs.Math.Seq.{take-append-add, take-append_seam}
use Rattle.vt_frac.specs.Fraction.{Fraction}
use Rattle.vt_run.specs.declared.action.Action.{Action}
use Rattle.vt_run.specs.declared.action.Action.TheVariants.{Emit, Rest, Read, Wait, Spawn, End}
use Rattle.vt_run.specs.declared.action.Answer.{Answer}
use Rattle.vt_run.specs.declared.piece.Piece.{Piece}
use Rattle.vt_run.specs.declared.piece.Stop.{Stop}
use Rattle.vt_run.specs.declared.piece.Stop.TheVariants.{Past, More}
use Rattle.vt_run.specs.declared.start.Start.{Start}
use Rattle.vt_run.specs.declared.texts.Texts.{Texts}
use Rattle.vt_run.specs.Pieces.{Fewest, IsPiece, actions_of, cost_of, ends_at, given, or_more, stop_of}
use Rattle.vt_run.specs.laws.StepLaws.{AnswersLaw, AreWhole, ClosingLaw, CostsLaw, NextLaw, NextSteps, PiecesAreOne, PrefixLaw}
use Rattle.vt_run.specs.Evaluation.{Step}
use Rattle.vt_run.specs.Threads.{acts}
use Rattle.vt_run.specs.Standing.{is_last, is_last_step}

-- these steps begin with the fewest that reach a stop; `cost` is that of the steps before them
record HasStop (until : Fraction) (limit cost : ℕ) (steps : List Step) : Type 0 where
  prefix : List Step
  rest : List Step
  stop : Stop
  whole : steps ≡ prefix ++ rest
  fewest : Fewest until limit cost prefix stop

-- the action of a step, if it has one, makes no stop
abbrev IsQuiet : Fraction → Step → Type 0
IsQuiet until step = stop_of until step.action ≡ None

-- no action of these steps makes a stop, and the limit is not reached
record HasNoStop (until : Fraction) (limit cost : ℕ) (steps : List Step) : Type 0 where
  below : cost + cost_of steps < limit
  quiet : AllByRecursion (IsQuiet until) steps

no_stop : (made : Option Stop) (full : Bool) → or_more made full ≡ None → (made ≡ None) × (full ≡ false)
no_stop None true e = absurd (let z : Some More ≡ None = e in cc)
no_stop None false e = (refl, refl)
no_stop (Some stop) full e = absurd (let z : Some stop ≡ None = e in cc)

module _ (until : Fraction) (limit : ℕ) where
  with_step : (cost : ℕ) (step : Step) (steps : List Step) → or_more (stop_of until step.action) (nat_le limit (cost + step.cost)) ≡ None →
      HasStop until limit (cost + step.cost) steps ⊎ HasNoStop until limit (cost + step.cost) steps → HasStop until limit cost (step ∷ steps) ⊎ HasNoStop until limit cost (step ∷ steps)
  with_step cost step steps e (inl has) = inl (record {
    prefix = step ∷ has.prefix;
    rest = has.rest;
    stop = has.stop;
    whole = ap (λ l. step ∷ l) has.whole;
    fewest = subst (λ made. ends_at made has.prefix has.stop (Fewest until limit (cost + step.cost) has.prefix has.stop)) (sym e) has.fewest;
  })
  with_step cost step steps e (inr free) = inr (record {
    below = omega (arith, free.below);
    quiet = ((no_stop _ _ e).0, free.quiet);
  })

  -- steps that make a stop, or do not
  find_stop : (cost : ℕ) (steps : List Step) → cost < limit → HasStop until limit cost steps ⊎ HasNoStop until limit cost steps
  find_stop cost [] below = inr (record { below = omega arith; quiet = tt })
  find_stop cost (step ∷ steps) below = go (or_more (stop_of until step.action) (nat_le limit (cost + step.cost))) refl (find_stop (cost + step.cost) steps)
    where
      go : (made : Option Stop) → or_more (stop_of until step.action) (nat_le limit (cost + step.cost)) ≡ made →
          (cost + step.cost < limit → HasStop until limit (cost + step.cost) steps ⊎ HasNoStop until limit (cost + step.cost) steps) → HasStop until limit cost (step ∷ steps) ⊎ HasNoStop until limit cost (step ∷ steps)
      go (Some stop) e later = inl (record {
        prefix = step ∷ [];
        rest = steps;
        stop = stop;
        whole = refl;
        fewest = subst (λ made. ends_at made [] stop ⊥) (sym e) (refl, refl);
      })
      go None e later = with_step cost step steps e (later (leb-false limit (cost + step.cost) (no_stop _ _ e).1))

-- the last action of a thread makes a stop
rest_stops : (past : Bool) → IsTrue past → cond past (Some Past) None ≡ None → ⊥
rest_stops true last e = let z : Some Past ≡ None = e in cc
rest_stops false last e = cc

last_stops : (until : Fraction) (answers : List Answer) (action : Action) → IsTrue (is_last until answers action) → stop_of until (Some action) ≡ None → ⊥
last_stops until answers (Emit event) last e = cc
last_stops until answers (Rest place seconds) last e = rest_stops _ last e
last_stops until answers (Read place pattern) last e = cc
last_stops until answers (Wait place pattern stop) last e = cc
last_stops until answers (Spawn place start) last e = cc
last_stops until answers (End place reason) last e = cc

last_step_stops : (until : Fraction) (answers : List Answer) (action : Option Action) → IsTrue (is_last_step until answers action) → stop_of until action ≡ None → ⊥
last_step_stops until answers None last e = cc
last_step_stops until answers (Some action) last e = last_stops until answers action last e

-- what holds of all of these steps holds of the one at the end
of_end : (P : Step → Type 0) (steps prefix : List Step) (end : Step) → steps ≡ prefix ++ end ∷ [] → AllByRecursion P steps → P end
of_end P steps [] end e all = (subst (AllByRecursion P) e all).0
of_end P [] (step ∷ prefix) end e all = absurd (let z : [] ≡ step ∷ (prefix ++ end ∷ []) = e in cc)
of_end P (s ∷ steps) (step ∷ prefix) end e all = let tail : steps ≡ prefix ++ end ∷ [] = cc in of_end P steps prefix end tail all.1

-- the same, of steps behind others
of_last : (P : Step → Type 0) (before : List Step) (s : Step) (steps prefix : List Step) (end : Step) → before ++ s ∷ steps ≡ prefix ++ end ∷ [] → AllByRecursion P (s ∷ steps) → P end
of_last P [] s steps prefix end e all = of_end P (s ∷ steps) prefix end e all
of_last P (b ∷ []) s steps [] end e all = absurd (let z : b ∷ s ∷ steps ≡ end ∷ [] = e in cc)
of_last P (b ∷ c ∷ before) s steps [] end e all = absurd (let z : b ∷ c ∷ (before ++ s ∷ steps) ≡ end ∷ [] = e in cc)
of_last P (b ∷ before) s steps (step ∷ prefix) end e all = let tail : before ++ s ∷ steps ≡ prefix ++ end ∷ [] = cc in of_last P before s steps prefix end tail all

-- a list of n steps has at most n
acts_short : (texts : Texts) (start : Start) (answers : List Answer) (n : ℕ) → length (acts texts start answers n) ≤ n
unfolding acts
acts_short texts start answers n = simp length-take (omega arith)

module _ (texts : Texts) (start : Start) where
  -- steps cost at least as much as they are
  steps_cost : CostsLaw → (answers : List Answer) (n : ℕ) (prefix steps : List Step) → acts texts start answers n ≡ prefix ++ steps → length steps ≤ cost_of steps
  steps_cost costs answers n prefix [] e = omega arith
  steps_cost costs answers n prefix (step ∷ steps) e =
      let one : 1 ≤ step.cost = costs texts start answers prefix step (record { bound = n; rest = steps; whole = e }) in
      let more : length steps ≤ cost_of steps = steps_cost costs answers n (prefix ++ step ∷ []) steps (e ∙ sym (append_assoc prefix (step ∷ []) steps)) in
      omega (arith, one, more)

  -- the steps that were done are the first ones with further answers too
  same_before : AnswersLaw → (old more : List Answer) (before : ℕ) → length (acts texts start old before) ≡ before → acts texts start (old ++ more) before ≡ acts texts start old before
  same_before answers old more before long =
      let prefix = answers texts start old more before in
      let rest : prefix.rest ≡ [] = nil_from_length prefix.rest (omega (arith, long, acts_short texts start (old ++ more) before, ap (λ (l : List Step). length l) prefix.whole, length-append (acts texts start old before) prefix.rest)) in
      prefix.whole ∙ ap (λ l. acts texts start old before ++ l) rest ∙ append-nil (acts texts start old before)

  module _ (old new : List Answer) (before limit : ℕ) (long : length (acts texts start old before) ≡ before) where
    -- the steps behind those that were done
    behind : PrefixLaw → acts texts start new before ≡ acts texts start old before →
        acts texts start new (before + limit) ≡ acts texts start old before ++ drop before (acts texts start new (before + limit))
    behind extends same =
        sym (take-append-drop before (acts texts start new (before + limit)))
        ∙ ap (λ l. l ++ drop before (acts texts start new (before + limit))) (sym (extends texts start new before (before + limit) (omega arith)) ∙ same)

    -- they are at most as many as the limit
    behind_short : (steps : List Step) → acts texts start new (before + limit) ≡ acts texts start old before ++ steps → length steps ≤ limit
    behind_short steps e =
        omega (arith, long, acts_short texts start new (before + limit), ap (λ (l : List Step). length l) e, length-append (acts texts start old before) steps)

    -- fewer of them are those of a lower bound
    here : PrefixLaw → (prefix rest : List Step) → length prefix ≤ limit → acts texts start new (before + limit) ≡ acts texts start old before ++ (prefix ++ rest) →
        acts texts start new (before + length prefix) ≡ acts texts start old before ++ prefix
    here extends prefix rest few e =
        let done = acts texts start old before in
        extends texts start new (before + length prefix) (before + limit) (omega arith)
        ∙ ap (take (before + length prefix)) e
        ∙ ap (λ n. take (n + length prefix) (done ++ (prefix ++ rest))) (sym long)
        ∙ take-append-add done (prefix ++ rest) (length prefix)
        ∙ ap (λ l. done ++ l) (take-append_seam prefix rest)

    -- a list that ends with the last step of the thread makes a stop behind the steps that were done, unless it has no more
    whole_stops : (cost : ℕ) (steps : List Step) → acts texts start new (before + limit) ≡ acts texts start old before ++ steps →
        ¬ AreWhole start new (acts texts start old before) → AreWhole start new (acts texts start new (before + limit)) → HasNoStop start.until limit cost steps → ⊥
    whole_stops cost [] e goes whole free = goes (subst (AreWhole start new) (e ∙ append-nil (acts texts start old before)) whole)
    whole_stops cost (s ∷ steps) e goes whole free =
        last_step_stops start.until _ whole.step.action whole.last
        (of_last (IsQuiet start.until) (acts texts start old before) s steps whole.prefix whole.step (sym e ∙ whole.whole) free.quiet)

    -- there is a stop behind the steps that were done
    stops : ClosingLaw → CostsLaw → (steps : List Step) → acts texts start new (before + limit) ≡ acts texts start old before ++ steps →
        ¬ AreWhole start new (acts texts start old before) → HasNoStop start.until limit 0 steps → ⊥
    stops closing costs steps e goes free = go (closing texts start new (before + limit))
      where
        go : (length (acts texts start new (before + limit)) ≡ before + limit) ⊎ ((length (acts texts start new (before + limit)) < before + limit) × AreWhole start new (acts texts start new (before + limit))) → ⊥
        go (inl full) =
            omega (arith, free.below, full, long, steps_cost costs new (before + limit) (acts texts start old before) steps e, ap (λ (l : List Step). length l) e, length-append (acts texts start old before) steps)
        go (inr short) = whole_stops 0 steps e goes short.1 free

  -- the fewest steps behind those that were done that reach a stop are the next ones
  next_steps : (old new : List Answer) (before limit : ℕ) → length (acts texts start old before) ≡ before → PrefixLaw →
      (steps : List Step) → acts texts start new (before + limit) ≡ acts texts start old before ++ steps →
      HasStop start.until limit 0 steps → (next : NextSteps texts start old new before limit) × (length next.steps ≤ limit)
  next_steps old new before limit long extends steps e has =
      let few : length has.prefix ≤ limit = omega (arith, behind_short old new before limit long steps e, ap (λ (l : List Step). length l) has.whole, length-append has.prefix has.rest) in
      let next : NextSteps texts start old new before limit = record {
        steps = has.prefix;
        stop = has.stop;
        here = here old new before limit long extends has.prefix has.rest few (e ∙ ap (λ l. acts texts start old before ++ l) has.whole);
        fewest = has.fewest;
      } in
      (next, few)

pub next_law : ClosingLaw → CostsLaw → AnswersLaw → PrefixLaw → NextLaw
next_law closing costs answers extends texts start old answer before limit long goes one =
    go (find_stop start.until limit 0 steps (omega arith))
  where
    new : List Answer
    new = old ++ given answer

    steps : List Step
    steps = drop before (acts texts start new (before + limit))

    is : acts texts start new (before + limit) ≡ acts texts start old before ++ steps
    is = behind texts start old new before limit long extends (same_before texts start answers old (given answer) before long)

    go : HasStop start.until limit 0 steps ⊎ HasNoStop start.until limit 0 steps → (next : NextSteps texts start old new before limit) × (length next.steps ≤ limit)
    go (inl has) = next_steps texts start old new before limit long extends steps is has
    go (inr free) = absurd (stops texts start old new before limit long closing costs steps is goes free)

-- where a list of steps and a prefix of it both end at their first stop, they are the same
fewest_same : (until : Fraction) (limit cost : ℕ) (steps more : List Step) (stop stop' : Stop) → Fewest until limit cost steps stop → Fewest until limit cost (steps ++ more) stop' → (steps ≡ steps ++ more) × (stop ≡ stop')
fewest_same until limit cost [] more stop stop' f g = absurd f
fewest_same until limit cost (step ∷ steps) more stop stop' f g =
    go (or_more (stop_of until step.action) (nat_le limit (cost + step.cost))) f g (fewest_same until limit (cost + step.cost) steps more stop stop')
  where
    go : (made : Option Stop) → ends_at made steps stop (Fewest until limit (cost + step.cost) steps stop) → ends_at made (steps ++ more) stop' (Fewest until limit (cost + step.cost) (steps ++ more) stop') →
        (Fewest until limit (cost + step.cost) steps stop → Fewest until limit (cost + step.cost) (steps ++ more) stop' → (steps ≡ steps ++ more) × (stop ≡ stop')) →
        (step ∷ steps ≡ step ∷ (steps ++ more)) × (stop ≡ stop')
    go None f g later = let e = later f g in (ap (λ l. step ∷ l) e.0, e.1)
    go (Some made) f g later = (ap (λ l. step ∷ l) (f.1 ∙ sym g.1), sym f.0 ∙ g.0)

-- the next steps up to a stop, of which the first ones are not more
next_same : PrefixLaw → (texts : Texts) (start : Start) (old new : List Answer) (before limit : ℕ) (one other : NextSteps texts start old new before limit) → length one.steps ≤ length other.steps →
    (one.steps ≡ other.steps) × (one.stop ≡ other.stop)
next_same extends texts start old new before limit one other le =
    let done = acts texts start old before in
    let k = before + length one.steps in
    let prefix : done ++ one.steps ≡ take k (done ++ other.steps) = sym one.here ∙ extends texts start new k (before + length other.steps) (omega arith) ∙ ap (take k) other.here in
    let more = drop k (done ++ other.steps) in
    let whole : other.steps ≡ one.steps ++ more = append_cancel_left done other.steps (one.steps ++ more) (sym (take-append-drop k (done ++ other.steps)) ∙ ap (λ l. l ++ more) (sym prefix) ∙ append_assoc done one.steps more) in
    let both = fewest_same start.until limit 0 one.steps more one.stop other.stop one.fewest (subst (λ l. Fewest start.until limit 0 l other.stop) whole other.fewest) in
    (both.0 ∙ sym whole, both.1)

next_is_one : PrefixLaw → (texts : Texts) (start : Start) (old new : List Answer) (before limit : ℕ) (one other : NextSteps texts start old new before limit) → (one.steps ≡ other.steps) × (one.stop ≡ other.stop)
next_is_one extends texts start old new before limit one other = go (leb_tells (length one.steps) (length other.steps))
  where
    go : ((leb (length one.steps) (length other.steps) ≡ true) × (length one.steps ≤ length other.steps)) ⊎ ((leb (length one.steps) (length other.steps) ≡ false) × (length other.steps < length one.steps)) →
        (one.steps ≡ other.steps) × (one.stop ≡ other.stop)
    go (inl le) = next_same extends texts start old new before limit one other le.1
    go (inr lt) = let e = next_same extends texts start old new before limit other one (omega (arith, lt.1)) in (sym e.0, sym e.1)

-- the steps of a piece are next steps
steps_of_piece : (texts : Texts) (start : Start) (old new : List Answer) (before limit now : ℕ) (piece : Piece) → IsPiece texts start old new before limit piece now → NextSteps texts start old new before limit
steps_of_piece texts start old new before limit now piece is = record {
  steps = is.steps;
  stop = piece.stop;
  here = subst (λ (n : ℕ). acts texts start new n ≡ acts texts start old before ++ is.steps) is.count is.here;
  fewest = is.fewest;
}

pub pieces_law : PrefixLaw → PiecesAreOne
unfolding steps_of_piece
pieces_law extends texts start old new before limit now other piece same one two =
    let e = next_is_one extends texts start old new before limit (steps_of_piece texts start old new before limit now piece one) (steps_of_piece texts start old new before limit other same two) in
    let actions : piece.actions ≡ same.actions = one.actions ∙ ap actions_of e.0 ∙ sym two.actions in
    let cost : piece.cost ≡ same.cost = one.cost ∙ ap (λ (steps : List Step). min (cost_of steps) (2 ^ 64 - 1)) e.0 ∙ sym two.cost in (
      ap (λ x. record piece { actions = x }) actions ∙ ap (λ (x : ℕ). record piece { actions = same.actions; cost = x }) cost ∙ ap (λ x. record same { stop = x }) e.1,
      one.count ∙ ap (λ (steps : List Step). before + length steps) e.0 ∙ sym two.count,
    )
