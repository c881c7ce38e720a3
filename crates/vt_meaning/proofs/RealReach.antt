-- What a thread of checked texts does that was fed so is within the limits of the language, and its rests move it on.
use Rattle.std.proofs.Common.{◌≡◌, ℕ, zero, suc, ◌*◌, ◌<◌, List, [], ◌∷◌, ◌++◌, take, refl, sym, ◌∙◌, ap, inl, inr, arith, Bool, true, false, cond, ℤ, pos, negsuc, Option, Some, None, mul-one}
use Rattle.std.specs.Prelude.{slice_get, int_lt, is_some, not, ◌&&◌, ◌+ℤ◌, ◌*ℤ◌, ◌<ℤ◌, unsigned_abs}
use Rattle.std.specs.List.{AllByRecursion}
use Rattle.std.proofs.lemmas.Bool.{ltb-false, ltb-true}
use Rattle.std.proofs.lemmas.Int.{ints}
use Rattle.vt_frac.specs.Arithmetic.{sum_of}
use Rattle.vt_frac.specs.Divisor.{gcd}
use Rattle.vt_frac.specs.Fraction.{Fraction, IsFraction, over}
use Rattle.vt_frac.proofs.FractionLemmas.{over-self}
use Rattle.vt_frac.proofs.GcdLemmas.{gcd-step, gcd-zero}
use Rattle.vt_frac.proofs.SumLemmas.{sum-rises}
use Rattle.vt_path.specs.declared.pattern.Segment.{Segment}
use Rattle.vt_ring.specs.Exact.{is_positive}
use Rattle.vt_event.specs.declared.place.Place.{Place}
use Rattle.vt_event.specs.declared.kind.Kind.TheVariants.{Fx}
use Rattle.vt_event.specs.Event.{EventView}
use Rattle.vt_event.specs.Kinds.{has_path}
use Rattle.vt_event.proofs.Order.{before-place}
use Rattle.vt_run.specs.declared.action.Action.{Action}
use Rattle.vt_run.specs.declared.action.Action.TheVariants.{Emit, Rest, Spawn}
use Rattle.vt_run.specs.declared.action.Answer.{Answer}
use Rattle.vt_run.specs.declared.action.Answer.TheVariants.{Nothing, Found}
use Rattle.vt_run.specs.declared.start.Start.{Start}
use Rattle.vt_run.specs.declared.texts.Texts.{Texts}
use Rattle.vt_run.specs.Limits.{AreChecked, IsActionWithin, IsAnswerWithin, IsEventWithin, IsStartWithin}
use Rattle.vt_run.specs.Standing.{next_step}
use Rattle.vt_run.specs.Threads.{acts}
use Rattle.vt_run.specs.laws.StepFacts.{IsActionSmall, IsThreadWithin}
use Rattle.vt_run.specs.laws.StepLaws.{EventPathsLaw, IsStep, LimitsLaw}
use Rattle.vt_meaning.specs.LookUps.{is_took, matches_event, matches_some}
use Rattle.vt_meaning.specs.Places.{Before}
use Rattle.vt_meaning.specs.RealLaws.{AllIsWithin, IsLeading, OpeningsAreOrderly, RenderedIsSession, TextsAct, TextsAreActs, TextsBreed, TextsMove, TextsTell, threads_with}
use Rattle.vt_meaning.specs.Reach.{IsFed}
use Rattle.vt_meaning.specs.Session.{threads_of, with_horizon}
use Rattle.vt_meaning.specs.ThreadMeaning.{ThreadMeaning}
use Rattle.vt_meaning.specs.Traces.{Entry, MovesOn, Thread, trace}
use Rattle.vt_meaning.proofs.Pairing.{answers_of, one_answer}
use Rattle.vt_meaning.proofs.StepLaws.{based}
use Rattle.vt_meaning.proofs.RealThreads.{cut_at}

none_some : {A : Type 0} {x : A} → ◌≡◌ {A = Option A} None (Some x) → ⊥
none_some h = cc

-- the answers of entries are within the limits, where each event among them is
one_within : (answer : Option Answer) (answers : List Answer) → ((event : EventView) → answer ≡ Some (Found event) → IsEventWithin event) →
    AllByRecursion IsAnswerWithin answers → AllByRecursion IsAnswerWithin (one_answer answer ++ answers)
one_within None answers told rest = rest
one_within (Some Nothing) answers told rest = (tt, rest)
one_within (Some (Found event)) answers told rest = (told event refl, rest)

answers_within : (entries : List Entry) → ((k : ℕ) (entry : Entry) (event : EventView) → slice_get entries k ≡ Some entry → entry.answer ≡ Some (Found event) → IsEventWithin event) →
    AllByRecursion IsAnswerWithin (answers_of entries)
answers_within [] told = tt
answers_within (x ∷ xs) told =
    one_within x.answer (answers_of xs) (λ event is. told 0 x event refl is) (answers_within xs (λ k entry event at is. told (suc k) entry event at is))

pub get_first : {A : Type 0} (xs : List A) (i k : ℕ) (x : A) → slice_get (take i xs) k ≡ Some x → (k < i) × (slice_get xs k ≡ Some x)
get_first xs zero k x h = absurd (none_some h)
get_first [] (suc i) k x h = absurd (none_some h)
get_first (y ∷ ys) (suc i) zero x h = (omega arith, h)
get_first (y ∷ ys) (suc i) (suc k) x h = let r = get_first ys i k x h in ((let lt = r.0 in omega (arith, lt)), r.1)

-- a start with another horizon is within the limits as it was
horizon_within : (until : Fraction) (start : Start) → IsFraction until → IsStartWithin start → IsStartWithin (with_horizon until start)
horizon_within until start horizon w = record { time = w.time; locals = w.locals; settings = w.settings; seed = w.seed; role = w.role; until = horizon }

-- a whole number that is neither below 0 nor above it
above_zero : (n : ℤ) → int_lt (pos 0) n ≡ true → pos 0 <ℤ n
above_zero (pos n) h = omega (arith, ints, ltb-true 0 n h)
above_zero (negsuc n) h = absurd (let z : false ≡ true = h in cc)

zero_number : (n : ℤ) → int_lt (pos 0) n ≡ false → int_lt n (pos 0) ≡ false → n ≡ pos 0
zero_number (pos n) above below = let e : n ≡ 0 = omega (arith, ltb-false 0 n above) in ap pos e
zero_number (negsuc n) above below = absurd (let z : true ≡ false = below in cc)

gcd_of_zero : (d : ℕ) → 0 < d → gcd 0 d ≡ d
gcd_of_zero d h = gcd-step 0 d h ∙ ap (gcd d) (omega arith) ∙ gcd-zero d

whole_sum : (n : ℤ) (d : ℕ) → (n *ℤ pos 1) +ℤ (pos 0 *ℤ pos d) ≡ n
whole_sum n d = omega (arith, ints)

-- 0 more is the same
sum_zero : (time seconds : Fraction) → IsFraction time → IsFraction seconds → seconds.numer ≡ pos 0 → time ≡ sum_of time seconds
unfolding sum_of
sum_zero time seconds t s none =
    let one : seconds.denom ≡ 1 = sym (gcd_of_zero seconds.denom s.positive) ∙ ap (λ n. gcd (unsigned_abs n) seconds.denom) (sym none) ∙ s.lowest in
    sym (over-self time t)
    ∙ ap (λ n. over n time.denom) (sym (whole_sum time.numer time.denom))
    ∙ ap (over ((time.numer *ℤ pos 1) +ℤ (pos 0 *ℤ pos time.denom))) (sym (mul-one time.denom))
    ∙ ap (λ n. over ((time.numer *ℤ pos 1) +ℤ (n *ℤ pos time.denom)) (time.denom * 1)) (sym none)
    ∙ ap (λ d. over ((time.numer *ℤ pos d) +ℤ (seconds.numer *ℤ pos time.denom)) (time.denom * d)) (sym one)

-- a rest within the limits moves its thread on
rest_moves : (place : Place) (seconds : Fraction) → IsActionWithin (Rest place seconds) → MovesOn place seconds
unfolding Before
rest_moves place seconds within = go (is_positive seconds) refl
  where
    later : Place
    later = record { time = sum_of place.time seconds; micro = 0; thread = place.thread; step = place.step }

    moved : (positive : Bool) → is_positive seconds ≡ positive → Before place (next_step (cond positive later place)) × ((next_step (cond positive later place)).time ≡ sum_of place.time seconds)
    moved true is = (before-place place (next_step later) (inl (sum-rises place.time seconds within.0.positive within.1.fraction.positive (above_zero seconds.numer is))), refl)
    moved false is = (
      before-place place (next_step place) (inr (refl, inr (refl, inr (refl, omega arith)))),
      sum_zero place.time seconds within.0 within.1.fraction (zero_number seconds.numer is within.1.forward),
    )

    go : (positive : Bool) → is_positive seconds ≡ positive → MovesOn place seconds
    go positive is = let m = moved (is_positive seconds) refl in record { above = m.0; time = m.1 }

module _ (texts_act : TextsAct) (limits : LimitsLaw) (texts : Texts) (until : Fraction) (may : Start → List Segment → Bool) (fit : Start → Bool) (known : EventView → Bool) (checked : AreChecked texts) (horizon : IsFraction until) where
  abbrev meaning_here : ThreadMeaning
  meaning_here = threads_with texts until may fit known

  -- the answers that a thread had at an entry
  abbrev answers_before : Thread → ℕ → List Answer
  answers_before thread i = answers_of (take i (trace meaning_here thread))

  pub fed_within : (thread : Thread) (i : ℕ) → IsFed meaning_here thread i → IsThreadWithin texts (with_horizon until thread.start) (answers_before thread i)
  fed_within thread i fed = record {
    checked = checked;
    began = horizon_within until thread.start horizon fed.begun.1;
    answered = answers_within (take i (trace meaning_here thread)) (λ k entry event at is.
        let g = get_first (trace meaning_here thread) i k entry at in
        (fed.told k entry event g.0 g.1 is).0.1);
  }

  -- with these alone it does the step
  fed_step : (thread : Thread) (i : ℕ) (entry : Entry) → slice_get (trace meaning_here thread) i ≡ Some entry →
      IsStep texts (with_horizon until thread.start) (answers_before thread i) (take i (acts texts (with_horizon until thread.start) (answers_before thread i) (suc i))) entry.step
  fed_step thread i entry at =
      let c = cut_at (acts texts (with_horizon until thread.start) (answers_before thread i) (suc i)) i entry.step (based meaning_here (texts_act texts until may fit known) thread i entry at) in
      record { bound = suc i; rest = c.0; whole = c.1 }

  action_within : (thread : Thread) (i : ℕ) (entry : Entry) (action : Action) → IsFed meaning_here thread i → slice_get (trace meaning_here thread) i ≡ Some entry → entry.step.action ≡ Some action →
      IsActionSmall (with_horizon until thread.start) action → IsActionWithin action
  action_within thread i entry action fed at is small =
      limits texts (with_horizon until thread.start) (answers_before thread i) (take i (acts texts (with_horizon until thread.start) (answers_before thread i) (suc i))) entry.step action
      (fed_within thread i fed) (fed_step thread i entry at) is small

pub texts_move : TextsAct → LimitsLaw → TextsMove
texts_move texts_act limits texts until may fit known checked horizon thread i entry place seconds fed at is =
    rest_moves place seconds (action_within texts_act limits texts until may fit known checked horizon thread i entry (Rest place seconds) fed at is tt)

pub texts_breed : TextsAct → LimitsLaw → TextsBreed
texts_breed texts_act limits texts until may fit known checked horizon thread i entry place start fed at is =
    (action_within texts_act limits texts until may fit known checked horizon thread i entry (Spawn place start) fed at is tt).1

-- what can be found has a path
has_some_path : (pattern : List Segment) (event : EventView) → matches_event pattern event ≡ true → is_some event.path ≡ true
unfolding matches_event
has_some_path pattern event h = go (not (is_took event.kind)) event.path h
  where
    go : (b : Bool) (path : Option (List (List ℕ))) → (b && matches_some pattern path) ≡ true → is_some path ≡ true
    go true None h = absurd (let z : false ≡ true = h in cc)
    go true (Some path) h = refl
    go false path h = absurd (let z : false ≡ true = h in cc)

-- .. and so it is no effect
no_effect : (event : EventView) → is_some event.path ≡ true → is_some event.path ≡ has_path event.kind → event.kind ≡ Fx → ⊥
no_effect event some by is = let z : false ≡ true = sym (ap has_path is) ∙ sym by ∙ some in cc

pub texts_tell : TextsAct → LimitsLaw → EventPathsLaw → TextsTell
texts_tell texts_act limits paths texts until may fit known checked horizon thread i entry event pattern fed at is matched =
    let step = fed_step texts_act limits texts until may fit known checked horizon thread i entry at in
    action_within texts_act limits texts until may fit known checked horizon thread i entry (Emit event) fed at is
    (λ effect. absurd
    (no_effect event (has_some_path pattern event matched)
    (paths texts (with_horizon until thread.start) (answers_of (take i (trace (threads_with texts until may fit known) thread)))
    (take i (acts texts (with_horizon until thread.start) (answers_of (take i (trace (threads_with texts until may fit known) thread))) (suc i))) entry.step event step is) effect))

pub texts_are_acts : TextsAct → TextsMove → TextsBreed → TextsTell → TextsAreActs
texts_are_acts act move breed tell texts until may fit known checked horizon leads = record {
  acts = act texts until may fit known;
  reach = record {
    knows = λ thread i entry event pattern fed at is matched. (leads.knows thread i entry event pattern fed at is matched, tell texts until may fit known checked horizon thread i entry event pattern fed at is matched);
    breeds = λ thread i entry place start fed at is. (leads.breeds thread i entry place start fed at is, breed texts until may fit known checked horizon thread i entry place start fed at is);
    moves = move texts until may fit known checked horizon;
    writes = leads.writes;
    passes = leads.passes;
  };
}

-- where each thread may write everything, and the texts lead to everything, nothing more is to be shown
all_lead : (texts : Texts) (until : Fraction) → IsLeading (threads_of texts until)
all_lead texts until = record {
  knows = λ thread i entry event pattern fed at is matched. refl;
  breeds = λ thread i entry place start fed at is. refl;
  writes = λ thread i entry event pattern fed at is matched. refl;
  passes = λ thread i entry place start pattern fed at is may. refl;
}

pub all_is_within : OpeningsAreOrderly → AllIsWithin
all_is_within opens key rendered = record { rendered = rendered; leading = all_lead key.texts key.options.until; begun = (opens key rendered).known }

pub rendered_is_session : TextsAreActs → OpeningsAreOrderly → RenderedIsSession
rendered_is_session are opens key may fit known is =
    let opening = opens key is.rendered in
    record {
      acts = are key.texts key.options.until may fit known is.rendered.checked is.rendered.horizon is.leading;
      orderly = opening.orderly;
      given = opening.given;
      texts = opening.texts;
      known = is.begun;
    }
