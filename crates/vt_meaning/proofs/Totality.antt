-- The transitions of a session come to an end, and to one end, whatever its texts and inputs are.
use Rattle.std.proofs.Common.{◌≡◌, ℕ, ◌+◌, ◌*◌, ◌≤◌, List, [], ◌∷◌, ◌++◌, refl, sym, ◌∙◌, ap, inl, inr, arith, Bool, true, false, zero, suc, subst, Option, Some, None, length-append}
use Rattle.std.specs.Prelude.{slice_get, slice_set, cond, nat_lt}
use Rattle.vt_event.specs.declared.score.Outcome.{Outcome}
use Rattle.vt_run.specs.declared.texts.Texts.{Texts}
use Rattle.vt_event.specs.Event.{EventView}
use Rattle.vt_event.specs.declared.place.Place.{Place}
use Rattle.vt_frac.specs.Fraction.{Fraction}
use Rattle.vt_path.specs.declared.pattern.Segment.{Segment}
use Rattle.vt_run.specs.Standing.{Asks, Asleep, Over, Ready, Stance, Waits}
use Rattle.vt_run.specs.declared.action.Action.{Action}
use Rattle.vt_run.specs.declared.action.Answer.{Answer}
use Rattle.vt_run.specs.declared.action.Answer.TheVariants.{Found}
use Rattle.vt_meaning.specs.Consistent.{IsExact}
use Rattle.vt_meaning.specs.Endings.{ComesTo}
use Rattle.vt_meaning.specs.Endings.ComesTo.{AboveBudget, AfterTransition, AtEnd}
use Rattle.vt_meaning.specs.Laws.{MeaningIsOne, MeaningIsTotal, TransitionsEnd, TransitionsEndOnce}
use Rattle.vt_meaning.specs.LookUps.{answer_of, first_above, last_below}
use Rattle.vt_meaning.specs.Meaning.{ending_of, enough_transitions, goes_on, meaning, meaning_by, outcome_of, transitions}
use Rattle.vt_meaning.specs.Meaning.Ending.{OverBudget}
use Rattle.vt_meaning.specs.NextPlaces.{place_in, soonest, woken_at}
use Rattle.vt_meaning.specs.Reach.{IsReach}
use Rattle.vt_meaning.specs.Session.{opening_of, threads_of}
use Rattle.vt_meaning.specs.ThreadLaws.{AreActs, IsLawful}
use Rattle.vt_meaning.specs.ThreadMeaning.{ThreadMeaning, Wants, with_stop}
use Rattle.vt_meaning.specs.Traces.{Entry, is_ask, stance_in, standing, Thread, trace, waiting}
use Rattle.vt_meaning.specs.Transitions.{next_action, transition_by, transition_of, woken_in}
use Rattle.vt_meaning.specs.World.{events_of, moved_on, one_more, Opening, opening_world, started_by, told, total_of, World}
use Rattle.vt_meaning.proofs.StepLaws.{acts_lawful, acts_live}
use Rattle.vt_meaning.proofs.AnsweredAsks.{exact_answered}
use Rattle.vt_meaning.proofs.FrontAndBounds.{soonest_some}
use Rattle.vt_meaning.proofs.Lists.{get-append_cases, get-set_other, get-set_same, none_some}
use Rattle.vt_meaning.proofs.MovedThreads.{child_of, exact_fresh, split}
use Rattle.vt_meaning.proofs.FunctionTransitions.{not_over, over, weigh, weigh_moved, weigh_total}
use Rattle.vt_meaning.proofs.OneMoreStep.{exact_more}
use Rattle.vt_meaning.proofs.KeptByTransitions.{start_of}
use Rattle.vt_meaning.proofs.Traces.{last_read, last_step, last_wait}

-- the same threads, where nothing is said of what the texts can lead to: then the laws of the reach ask nothing
abbrev unfed : ThreadMeaning → ThreadMeaning
unfed m = record m { fit = λ start. false }

never_fit : {A : Type 0} → false ≡ true → A
never_fit h = absurd (let z : false ≡ true = h in cc)

unfed_reach : (m : ThreadMeaning) → IsReach (unfed m)
unfed_reach m =
    record {
      knows = λ t i x e q f d is matched. never_fit f.begun.0;
      breeds = λ t i x p s f d is. never_fit f.begun.0;
      moves = λ t i x p n f d is. never_fit f.begun.0;
      writes = λ t i x e q f d is matched. never_fit f.begun.0;
      passes = λ t i x p s q f d is may. never_fit f.begun.0;
    }

unfed_acts : (m : ThreadMeaning) → AreActs m → AreActs (unfed m)
unfolding trace standing
unfed_acts m a =
    record {
      short = a.short;
      longer = a.longer;
      further = a.further;
      stops = a.stops;
      placed = a.placed;
      costs = a.costs;
      later = a.later;
      named = a.named;
    }

unfed_lawful : (m : ThreadMeaning) → AreActs m → IsLawful (unfed m)
unfed_lawful m a = acts_lawful (unfed m) (record { acts = unfed_acts m a; reach = unfed_reach m })

-- what a thread did last that asks or waits, and that it has no answer yet
record IsOpen (m : ThreadMeaning) (thread : Thread) : Type 0 where
  before : List Entry
  entry : Entry
  whole : trace m thread ≡ before ++ entry ∷ []
  asks : is_ask entry.step.action ≡ true
  none : entry.answer ≡ None

open_read : (m : ThreadMeaning) → AreActs m → (thread : Thread) (place : Place) (pattern : List Segment) → stance_in m thread ≡ Asks place pattern → IsOpen m thread
unfolding trace standing
open_read m a thread place pattern e =
    let l = last_step (unfed m) (unfed_lawful m a) thread (Asks place pattern) e (λ r g. let z : Asks place pattern ≡ Ready r = g in cc) in
    let r = last_read (unfed m) thread place pattern l in
    record { before = l.before; entry = l.entry; whole = l.whole; asks = ap is_ask r.0; none = r.1 }

open_wait : (m : ThreadMeaning) → AreActs m → (thread : Thread) (place : Place) (wants : Wants) → stance_in m thread ≡ waiting place wants → IsOpen m thread
unfolding trace standing
open_wait m a thread place wants e =
    let l = last_step (unfed m) (unfed_lawful m a) thread (waiting place wants) e (λ r g. let z : Waits place wants.pattern wants.stop ≡ Ready r = g in cc) in
    let r = last_wait (unfed m) thread place wants l in
    record { before = l.before; entry = l.entry; whole = l.whole; asks = ap is_ask r.0; none = r.1 }

told_exact : (m : ThreadMeaning) → AreActs m → (thread : Thread) (answer : Answer) → IsExact m thread → IsOpen m thread → IsExact m (told answer thread)
told_exact m a thread answer exact o =
    exact_answered m thread answer o.before o.entry (record { step = o.entry.step; answer = Some answer }) exact o.whole
    ((acts_live m a).replies thread answer o.before o.entry exact o.whole o.asks o.none) o.none refl

-- each thread of a world has done as many steps as it says, and has an ask for each answer
AreExact : ThreadMeaning → World → Type 0
AreExact m these = (k : ℕ) (thread : Thread) → slice_get these k ≡ Some thread → IsExact m thread

moved_exact : (m : ThreadMeaning) → AreActs m → (these : List Thread) → AreExact m these → (i : ℕ) (thread t' : Thread) (act : Option Action) → slice_get these i ≡ Some thread → IsExact m t' → AreExact m (moved_on these i t' act)
unfolding AreExact
moved_exact m a these exact i thread t' act has e k v h =
    elim (get-append_cases (slice_set these i t') (started_by act) k v h) [
      | inl old ↦
          elim (split k i) [
            | inl same ↦
                (let z : Some t' ≡ Some v = sym (get-set_same these i thread t' has) ∙ ap (slice_get (slice_set these i t')) (sym same) ∙ old in
                subst (IsExact m) (let s : t' ≡ v = cc z in s) e)
            | inr ne ↦ exact k v (sym (get-set_other these i k t' ne) ∙ old)
          ]
      | inr new ↦
          (let c = child_of act new.0 v new.2 in
          subst (IsExact m) (sym c.3) (exact_fresh m c.1 ((acts_live m a).nothing c.1)))
    ]

-- a transition leaves exact threads, and one step or answer more
record IsTurned (m : ThreadMeaning) (these those : World) : Type 0 where
  exact : AreExact m those
  more : weigh those ≡ weigh these + 1

turned_told : (m : ThreadMeaning) → AreActs m → (these : List Thread) → AreExact m these → (i : ℕ) (thread : Thread) (answer : Answer) → slice_get these i ≡ Some thread → IsOpen m thread → IsTurned m these (moved_on these i (told answer thread) None)
unfolding AreExact
turned_told m a these exact i thread answer has o =
    record {
      exact = moved_exact m a these exact i thread (told answer thread) None has (told_exact m a thread answer (exact i thread has) o);
      more = weigh_moved these i thread (told answer thread) None has (let l = length-append thread.answers (answer ∷ []) in omega (arith, l));
    }

turned_by : (m : ThreadMeaning) → AreActs m → (opening : Opening) (these : List Thread) → AreExact m these → (i : ℕ) (thread : Thread) (place : Place) → slice_get these i ≡ Some thread → (s : Stance) → stance_in m thread ≡ s →
    place_in (events_of m opening these) s ≡ Some place → IsTurned m these (transition_by m opening these i thread s)
unfolding AreExact
turned_by m a opening these exact i thread place has (Ready r) e at =
    let g = (acts_live m a).grows thread r (exact i thread has) e in
    record {
      exact = moved_exact m a these exact i thread (one_more thread) (next_action m thread) has (exact_more m thread g.0 (exact i thread has) g.1 g.2);
      more = weigh_moved these i thread (one_more thread) (next_action m thread) has (omega arith);
    }
turned_by m a opening these exact i thread place has (Asks r q) e at = turned_told m a these exact i thread (answer_of (last_below (events_of m opening these) r q)) has (open_read m a thread r q e)
turned_by m a opening these exact i thread place has (Waits r q c) e at = wakes (first_above (events_of m opening these) r (with_stop q c)) at
  where
    wakes : (o : Option EventView) → woken_at r o ≡ Some place → IsTurned m these (woken_in these i thread o)
    wakes None g = absurd (none_some g)
    wakes (Some f) g = turned_told m a these exact i thread (Found f) has (open_wait m a thread r (record { pattern = q; stop = c }) e)
turned_by m a opening these exact i thread place has (Asleep n) e at = absurd (none_some at)
turned_by m a opening these exact i thread place has Over e at = absurd (none_some at)

turned : (m : ThreadMeaning) → AreActs m → (opening : Opening) (these : List Thread) → AreExact m these → (r : ℕ × Place) → soonest m (events_of m opening these) 0 these ≡ Some r → IsTurned m these (transition_of m opening these r.0 (slice_get these r.0))
turned m a opening these exact r e =
    let c = soonest_some m opening these r.0 r.1 e in
    subst (λ o. IsTurned m these (transition_of m opening these r.0 o)) (sym c.has) (turned_by m a opening these exact r.0 c.thread r.1 c.has (stance_in m c.thread) refl c.bound)

Enough : Opening → ℕ → World → Type 0
Enough opening n these = 2 * opening.budget + 2 ≤ n + weigh these

-- **with enough transitions a world comes to what the transitions give**
comes_to : (m : ThreadMeaning) → AreActs m → (opening : Opening) (n : ℕ) (these : List Thread) → AreExact m these → Enough opening n these → ComesTo m opening these (outcome_of m opening (transitions m opening n these))
unfolding Enough AreExact
comes_to m a opening zero these exact enough = AboveBudget these (let w = weigh_total m (acts_live m a) these exact in omega (arith, w, enough))
comes_to m a opening (suc n) these exact enough = test (comes_to m a opening n) (nat_lt opening.budget (total_of m these)) refl
  where
    next : ((those : List Thread) → AreExact m those → Enough opening n those → ComesTo m opening those (outcome_of m opening (transitions m opening n those))) → total_of m these ≤ opening.budget →
        (o : Option (ℕ × Place)) → soonest m (events_of m opening these) 0 these ≡ o → ComesTo m opening these (outcome_of m opening (goes_on (transitions m opening n) m opening these o))
    next rest le None e = AtEnd these le e
    next rest le (Some r) e =
        let t = turned m a opening these exact r e in
        let w = t.more in
        let those = transition_of m opening these r.0 (slice_get these r.0) in
        AfterTransition these r (outcome_of m opening (transitions m opening n those)) le e (rest those t.exact (omega (arith, w, enough)))

    test : ((those : List Thread) → AreExact m those → Enough opening n those → ComesTo m opening those (outcome_of m opening (transitions m opening n those))) → (c : Bool) → nat_lt opening.budget (total_of m these) ≡ c →
        ComesTo m opening these (outcome_of m opening (cond c OverBudget (goes_on (transitions m opening n) m opening these (soonest m (events_of m opening these) 0 these))))
    test rest true e = AboveBudget these (over e)
    test rest false e = next rest (not_over e) (soonest m (events_of m opening these) 0 these) refl

opening_exact : (m : ThreadMeaning) → AreActs m → (opening : Opening) → AreExact m (opening_world opening)
unfolding AreExact
opening_exact m a opening k t has = let s = start_of opening.starts k t has in subst (IsExact m) (sym s.2) (exact_fresh m s.0 ((acts_live m a).nothing s.0))

-- **transitions come to an end**
pub transitions_end : TransitionsEnd
unfolding meaning_by ending_of Enough
transitions_end m a opening = comes_to m a opening (enough_transitions opening.budget) (opening_world opening) (opening_exact m a opening) (omega arith)

-- so each session means something
pub meaning_is_total : ((texts : Texts) (until : Fraction) → AreActs (threads_of texts until)) → MeaningIsTotal
unfolding meaning
meaning_is_total acts opening = transitions_end (threads_of opening.texts opening.options.until) (acts opening.texts opening.options.until) (opening_of opening)

-- a world comes to one outcome
one_end : (m : ThreadMeaning) (opening : Opening) (these : List Thread) (x y : Outcome) → ComesTo m opening these x → ComesTo m opening these y → x ≡ y
one_end m opening _ _ _ (AboveBudget these lt) (AboveBudget _ lt') = refl
one_end m opening _ _ _ (AboveBudget these lt) (AtEnd _ le e) = absurd (omega (arith, lt, le))
one_end m opening _ _ _ (AboveBudget these lt) (AfterTransition _ next o le e c) = absurd (omega (arith, lt, le))
one_end m opening _ _ _ (AtEnd these le e) (AboveBudget _ lt) = absurd (omega (arith, lt, le))
one_end m opening _ _ _ (AtEnd these le e) (AtEnd _ le' e') = refl
one_end m opening _ _ _ (AtEnd these le e) (AfterTransition _ next o le' e' c) = absurd (none_some (sym e ∙ e'))
one_end m opening _ _ _ (AfterTransition these next o le e c) (AboveBudget _ lt) = absurd (omega (arith, lt, le))
one_end m opening _ _ _ (AfterTransition these next o le e c) (AtEnd _ le' e') = absurd (none_some (sym e' ∙ e))
one_end m opening _ _ _ (AfterTransition these next o le e c) (AfterTransition _ next' o' le' e' c') =
    let both : Some next ≡ Some next' = sym e ∙ e' in
    let same : next ≡ next' = cc in
    one_end m opening (transition_of m opening these next.0 (slice_get these next.0)) o o' c (subst (λ n. ComesTo m opening (transition_of m opening these n.0 (slice_get these n.0)) o') (sym same) c')

-- **and to one end**
pub transitions_end_once : TransitionsEndOnce
transitions_end_once m a opening outcome comes = one_end m opening (opening_world opening) outcome (meaning_by m opening) comes (transitions_end m a opening)

pub meaning_is_one : MeaningIsTotal → MeaningIsOne
meaning_is_one total opening outcome comes = one_end (threads_of opening.texts opening.options.until) (opening_of opening) (opening_world (opening_of opening)) outcome (meaning opening) comes (total opening)
