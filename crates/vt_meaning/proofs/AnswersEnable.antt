-- What becomes final by an answer: nothing by one to a read, and no wait by one to a wait.
use Rattle.std.proofs.Common.{◌≡◌, ℕ, List, [], ◌∷◌, ◌++◌, length, refl, sym, ◌∙◌, ap, inl, inr, ◌⊎◌, arith, subst, Some, None, length-append, add-zero}
use Rattle.std.specs.Prelude.{slice_get}
use Rattle.std.proofs.lemmas.Option.{slice_get_within}
use Rattle.vt_event.specs.Event.{EventView}
use Rattle.vt_event.specs.declared.place.Place.{Place}
use Rattle.vt_path.specs.declared.pattern.Segment.{Segment}
use Rattle.vt_run.specs.Standing.{Asks, Asleep, next_step, Over, Ready, Stance, Waits}
use Rattle.vt_run.specs.declared.action.Action.TheVariants.{Emit, Read}
use Rattle.vt_run.specs.declared.action.Answer.{Answer}
use Rattle.vt_run.specs.declared.action.Answer.TheVariants.{Found}
use Rattle.vt_meaning.specs.Bounds.{Clear, Disturbs, IsCandidate, Quiet, StandsBelow}
use Rattle.vt_meaning.specs.Bounds.Disturbs.{Feeds, Writes}
use Rattle.vt_meaning.specs.Consistent.{IsConsistent}
use Rattle.vt_meaning.specs.Happenings.{Happened, IsFirst, IsLast}
use Rattle.vt_meaning.specs.NextPlaces.{GoesOn}
use Rattle.vt_meaning.specs.Places.{Before, Upto}
use Rattle.vt_meaning.specs.Reach.{IsKnown}
use Rattle.vt_meaning.specs.Steps.{Follows}
use Rattle.vt_meaning.specs.Steps.Follows.{Stepped, Told, Woken}
use Rattle.vt_meaning.specs.ThreadLaws.{IsGivenApart, IsLawful, IsLive, IsOrderly}
use Rattle.vt_meaning.specs.ThreadMeaning.{ThreadMeaning, Wants}
use Rattle.vt_meaning.specs.Traces.{stance_in, Thread, trace, waiting, wake}
use Rattle.vt_meaning.specs.World.{moved_on, one_more, Opening, started_by, told}
use Rattle.vt_meaning.proofs.Order.{before-cases, before-irrefl, before-upto, upto_split, before-next_inv, not_both, three, wake-upto, before_upto, upto_same}
use Rattle.vt_meaning.proofs.Traces.{InThread, stand_in_thread, rises_after}
use Rattle.vt_meaning.proofs.Ranks.{sane}
use Rattle.vt_meaning.proofs.StoreSteps.{IsNext, happened_on, quiet_kept, last_kept, first_kept, clear_kept}
use Rattle.vt_meaning.proofs.OneMoreStep.{snoc, step_next}
use Rattle.vt_meaning.proofs.MovedThreads.{split}
use Rattle.vt_meaning.proofs.AnsweredAsks.{read_last, read_was, read_now, read_next, wait_now, wait_next}
use Rattle.vt_meaning.proofs.EventPlaces.{list_of, not_given}
use Rattle.vt_meaning.proofs.Writers.{IsHot, hot_disturbs}
use Rattle.vt_meaning.proofs.Writers.IsHot.{Itself, Fed}
use Rattle.vt_meaning.proofs.Lists.{get-append_left, get-append_right, get-set_other, get-set_same}

-- the threads, one of which was told this
module _ (these : List Thread) (i : ℕ) (thread t' : Thread) (has : slice_get these i ≡ Some thread) where
  one_there : slice_get (moved_on these i t' None) i ≡ Some t'
  one_there = get-append_left _ (started_by None) i t' (get-set_same these i thread t' has)

  rest_there : (k : ℕ) (twin : Thread) → (k ≡ i → ⊥) → slice_get these k ≡ Some twin → slice_get (moved_on these i t' None) k ≡ Some twin
  rest_there k twin ne h = get-append_left _ (started_by None) k twin (get-set_other these i k t' ne ∙ h)

-- without a new event each other thread goes on where it did
goes_on : (m : ThreadMeaning) (opening : Opening) (these those : List Thread) → ((event : EventView) → Happened m opening these event → Happened m opening those event) → (s : Stance) (place : Place) → GoesOn m opening these s place → GoesOn m opening those s place
goes_on m opening these those on (Ready p) place h = h
goes_on m opening these those on (Asks p q) place h = h
goes_on m opening these those on (Waits p q c) place h = (h.0, record { happened = on h.0 h.1.happened; matches = h.1.matches; above = h.1.above }, h.2)
goes_on m opening these those on (Asleep n) place h = h
goes_on m opening these those on Over place h = h

-- what stays of the others
by : (m : ThreadMeaning) (law : IsLawful m) (opening : Opening) (knowns : IsKnown m opening) (these those : List Thread) (place : Place) → IsNext m opening these those place →
    ((p : Place) (pattern : List Segment) (answer : Answer) → Quiet m opening these p pattern → IsLast m opening these p pattern answer → Quiet m opening those p pattern × IsLast m opening those p pattern answer)
    × ((p : Place) (wants : Wants) (event : EventView) → IsFirst m opening these p wants event → Clear m opening these event.place → IsFirst m opening those p wants event × Clear m opening those event.place)
by m law opening knowns these those place n = (
  λ p pattern answer quiet last. (quiet_kept m law opening knowns these those place n p pattern quiet, last_kept m law opening knowns these those place n p pattern answer last quiet),
  λ p wants event first clear. (first_kept m law opening knowns these those place n p wants event first clear, clear_kept m law opening knowns these those place n event.place clear),
)

not_below : (event g : EventView) → (g ≡ event) ⊎ Before event.place g.place → Upto event.place g.place
not_below event g (inl y) = upto_same event.place g.place (ap (λ h. h.place) (sym y))
not_below event g (inr l) = before_upto event.place g.place l

-- **by the answer to a wait the front passes nothing more**
pub wait_enables : (m : ThreadMeaning) (law : IsLawful m) (live : IsLive m) (opening : Opening) (knowns : IsKnown m opening) (these : List Thread) (consistent : IsConsistent m opening these)
    (i : ℕ) (thread : Thread) (has : slice_get these i ≡ Some thread) (place : Place) (wants : Wants) (e : EventView) (waits : stance_in m thread ≡ waiting place wants) (first : IsFirst m opening these place wants e) →
    (r : Place) → Clear m opening (moved_on these i (told (Found e) thread) None) r → Clear m opening these r
wait_enables m law live opening knowns these consistent i thread has place wants e waits first r clear k v b vhas on = elim (split k i) [ inl same ↦ mine (subst (λ s. GoesOn m opening these s b) (old same) on) | inr ne ↦ clear k v b (rest_there these i thread t' has k v ne vhas) (goes_on m opening these those over (stance_in m v) b on) ]
  where
    t' : Thread
    t' = told (Found e) thread

    those : List Thread
    those = moved_on these i t' None

    over : (event : EventView) → Happened m opening these event → Happened m opening those event
    over = happened_on m law opening knowns these those (wake e place) (wait_next m law live opening knowns these consistent i thread has place wants e waits first)

    old : k ≡ i → stance_in m v ≡ waiting place wants
    old same = let z : Some v ≡ Some thread = sym vhas ∙ ap (slice_get these) same ∙ has in let e : v ≡ thread = cc z in ap (stance_in m) e ∙ waits

    now : GoesOn m opening those (stance_in m t') (wake e place)
    now = subst (λ s. GoesOn m opening those s (wake e place)) (sym (wait_now m law live opening knowns these consistent i thread has place wants e waits first)) refl

    mine : GoesOn m opening these (waiting place wants) b → Before r b
    mine o =
        before-upto r (wake e place) b (clear i t' (wake e place) (one_there these i thread t' has) now)
        (subst (Upto (wake e place)) (sym o.2) (wake-upto e o.0 place (not_below e o.0 (first.least o.0 o.1))))

module _ (m : ThreadMeaning) (law : IsLawful m) (live : IsLive m) (opening : Opening) (knowns : IsKnown m opening) (ok : IsOrderly opening) (given : IsGivenApart opening) (these : List Thread) (consistent : IsConsistent m opening these)
    (i : ℕ) (thread : Thread) (has : slice_get these i ≡ Some thread) (place : Place) (pattern : List Segment) (answer : Answer) (asks : stance_in m thread ≡ Asks place pattern) where
  abbrev t' : Thread
  t' = told answer thread

  abbrev those : List Thread
  those = moved_on these i t' None

  over : (event : EventView) → Happened m opening these event → Happened m opening those event
  over = happened_on m law opening knowns these those place (read_next m law live opening knowns these consistent i thread has place pattern answer asks)

  p_list : place.thread ≡ thread.start.place.thread
  p_list = subst (InThread thread.start.place.thread) asks (stand_in_thread m law thread)

  now : GoesOn m opening those (stance_in m t') (next_step place)
  now = subst (λ s. GoesOn m opening those s (next_step place)) (sym (read_now m law live opening knowns these consistent i thread has place pattern answer asks)) refl

  the_one : (twin : Thread) → slice_get these i ≡ Some twin → twin ≡ thread
  the_one twin h = let z : Some twin ≡ Some thread = sym h ∙ has in cc z

  -- the place of an ask is no event's
  no_event : (e : EventView) → Happened m opening these e → e.place ≡ place → ⊥
  no_event e (inl g) same = not_given m law live opening knowns ok given these consistent e i thread g has (ap (λ another. another.thread) same ∙ p_list)
  no_event e (inr em) same =
      let l = read_last m law live opening knowns these consistent i thread has place pattern answer asks in
      let was = read_was m law live opening knowns these consistent i thread has place pattern answer asks in
      let n = length l.before in
      let did : slice_get (trace m thread) n ≡ Some l.entry =
      subst (λ h. slice_get h n ≡ Some l.entry) (sym l.whole) (subst (λ n. slice_get (l.before ++ l.entry ∷ []) n ≡ Some l.entry) (add-zero _) (get-append_right l.before (l.entry ∷ []) 0 l.entry refl)) in
      let here = law.placed thread n l.entry did in
      let at : em.acted.at ≡ i =
      consistent.apart em.acted.at i em.thread thread em.acted.has has (sym (list_of m law live opening knowns ok given these consistent e em) ∙ ap (λ another. another.thread) same ∙ p_list) in
      let old : em.thread ≡ thread = the_one em.thread (subst (λ n. slice_get these n ≡ Some em.thread) at em.acted.has) in
      let edid : slice_get (trace m thread) em.i ≡ Some em.entry = subst (λ twin. slice_get (trace m twin) em.i ≡ Some em.entry) old em.acted.did in
      let len = ap length l.whole in
      let more = length-append l.before (l.entry ∷ []) in
      let within = slice_get_within (trace m thread) em.i em.entry edid in
      elim (three em.i n) [
        | inl lt ↦
            (let up : Before e.place here.0 = rises_after m law thread (sane m opening these consistent i thread has) em.i n em.entry (Emit e) here.0 edid em.acted.is lt here.1 (omega (arith, len, more)) in
            before-irrefl place (subst (λ another. Before another place) same (subst (Before e.place) (sym (here.2 (Read place pattern) was.0)) up)))
        | inr (inl z) ↦
            (let y : Some em.entry ≡ Some l.entry = sym edid ∙ ap (slice_get (trace m thread)) z ∙ did in
            let x : em.entry ≡ l.entry = cc y in
            let a : Some (Emit e) ≡ Some (Read place pattern) = sym em.acted.is ∙ ap (λ another. another.step.action) x ∙ was.0 in
            absurd (let c : Emit e ≡ Read place pattern = cc a in cc))
        | inr (inr gt) ↦ absurd (let c : length (l.entry ∷ []) ≡ 1 = refl in omega (arith, len, more, within, gt, c))
      ]

  -- **nor by the answer to a read**
  pub read_enables_wait : (e : EventView) → Happened m opening these e → Clear m opening those e.place → Clear m opening these e.place
  read_enables_wait e h clear k twin c vhas on =
      elim (split k i) [
        | inl same ↦
            (let old : twin ≡ thread = the_one twin (subst (λ n. slice_get these n ≡ Some twin) same vhas) in
            let o : c ≡ place = subst (λ s. GoesOn m opening these s c) (ap (stance_in m) old ∙ asks) on in
            let lt = clear i t' (next_step place) (one_there these i thread t' has) now in
            elim (upto_split e.place place (before-next_inv e.place place lt)) [ inl z ↦ absurd (no_event e h z) | inr under ↦ subst (Before e.place) (sym o) under ])
        | inr ne ↦ clear k twin c (rest_there these i thread t' has k twin ne vhas) (goes_on m opening these those over (stance_in m twin) c on)
      ]

  -- another thread that asks
  module _ (k : ℕ) (another : Thread) (r : Place) (c : List Segment) (ne : k ≡ i → ⊥) (whas : slice_get these k ≡ Some another) (wasks : stance_in m another ≡ Asks r c) where
    other_list : r.thread ≡ place.thread → ⊥
    other_list same =
        let l : r.thread ≡ another.start.place.thread = subst (InThread another.start.place.thread) wasks (stand_in_thread m law another) in
        ne (consistent.apart k i another thread whas has (sym l ∙ same ∙ p_list))

    past : Before place r → Before (next_step place) r
    past lt =
        elim (before-cases (next_step place) r) [
          | inl up ↦ up
          | inr (inl e) ↦ absurd (other_list (ap (λ twin. twin.thread) (sym e)))
          | inr (inr gt) ↦ absurd (not_both place r lt (before-next_inv r place gt))
        ]

    abbrev Carried : Thread → Type 0
    Carried twin = Disturbs m those r c twin ⊎ ((twin ≡ thread) × Disturbs m those r c t')

    lift : (twin : Thread) → IsCandidate m these r twin → IsHot m those r c twin.start → Carried twin
    lift twin cd hot =
        elim (split cd.at i) [
          | inl same ↦
              (let old : twin ≡ thread = the_one twin (subst (λ n. slice_get these n ≡ Some twin) same cd.has) in
              let lt : StandsBelow (Asks place pattern) r = subst (λ s. StandsBelow s r) (ap (stance_in m) old ∙ asks) cd.below in
              let now_below : StandsBelow (Ready (next_step place)) r = past lt in
              let hot' : IsHot m those r c t'.start = subst (λ x. IsHot m those r c x.start) old hot in
              inr (
                old,
                hot_disturbs m those r c t'
                    (record { at = i; has = one_there these i thread t' has; below = subst (λ s. StandsBelow s r) (sym (read_now m law live opening knowns these consistent i thread has place pattern answer asks)) now_below }) hot',
              ))
          | inr away ↦ inl (hot_disturbs m those r c twin (record { at = cd.at; has = rest_there these i thread t' has cd.at twin away cd.has; below = cd.below }) hot)
        ]

    carry : (twin : Thread) → Disturbs m these r c twin → Carried twin
    carry twin (Writes _ cd may) = lift twin cd (Itself may)
    carry twin (Feeds _ u x y cd d st may) =
        elim (carry u d) [
          | inl o ↦ lift twin cd (Fed u x y o st may)
          | inr z ↦ absurd (let n : Asks place pattern ≡ Waits x y.pattern y.stop = sym asks ∙ ap (stance_in m) (sym z.0) ∙ st in cc)
        ]

    -- **and no other read becomes quiet**
    pub read_enables_read : Quiet m opening those r c → Quiet m opening these r c
    read_enables_read quiet twin d dist on lt =
        elim (carry twin dist) [
          | inl o ↦ quiet twin d o (goes_on m opening these those over (stance_in m twin) d on) lt
          | inr z ↦
              (let o : d ≡ place = subst (λ s. GoesOn m opening these s d) (ap (stance_in m) z.0 ∙ asks) on in
              quiet t' (next_step place) z.1 now (past (subst (λ x. Before x r) o lt)))
        ]

-- **what was final is so after the step, and finds the same**
pub final_stays : (m : ThreadMeaning) (law : IsLawful m) (live : IsLive m) (opening : Opening) (knowns : IsKnown m opening) → IsOrderly opening → (these those : List Thread) → IsConsistent m opening these → Follows m opening these those →
    ((place : Place) (pattern : List Segment) (answer : Answer) → Quiet m opening these place pattern → IsLast m opening these place pattern answer → Quiet m opening those place pattern × IsLast m opening those place pattern answer)
    × ((place : Place) (wants : Wants) (event : EventView) → IsFirst m opening these place wants event → Clear m opening these event.place → IsFirst m opening those place wants event × Clear m opening those event.place)
final_stays m law live opening knowns ok these those consistent (Stepped i t place x has goes grown) =
    let same : x ≡ (live.grows t place (consistent.exact i t has) goes).0 = (snoc (trace m t) (trace m t) x (live.grows t place (consistent.exact i t has) goes).0 (sym grown ∙ (live.grows t place (consistent.exact i t has) goes).1)).1 in
    by m law opening knowns these those place (subst (λ answer. IsNext m opening these (moved_on these i (one_more t) answer) place) (ap (λ wants. wants.step.action) (sym same)) (step_next m law live opening knowns ok these consistent i t place has goes))
final_stays m law live opening knowns ok these those consistent (Told i t place pattern answer has asks quiet last) = by m law opening knowns these those place (read_next m law live opening knowns these consistent i t has place pattern answer asks)
final_stays m law live opening knowns ok these those consistent (Woken i t place wants event has waits first clear) = by m law opening knowns these those (wake event place) (wait_next m law live opening knowns these consistent i t has place wants event waits first)

-- **the front never falls**: what it has passed it has passed for good
pub front_stays : (m : ThreadMeaning) (law : IsLawful m) (live : IsLive m) (opening : Opening) (knowns : IsKnown m opening) → IsOrderly opening → (these those : List Thread) → IsConsistent m opening these → Follows m opening these those →
    (r : Place) → Clear m opening these r → Clear m opening those r
front_stays m law live opening knowns ok these those consistent (Stepped i t place x has goes grown) r clear =
    let same : x ≡ (live.grows t place (consistent.exact i t has) goes).0 = (snoc (trace m t) (trace m t) x (live.grows t place (consistent.exact i t has) goes).0 (sym grown ∙ (live.grows t place (consistent.exact i t has) goes).1)).1 in
    clear_kept m law opening knowns these those place (subst (λ answer. IsNext m opening these (moved_on these i (one_more t) answer) place) (ap (λ wants. wants.step.action) (sym same)) (step_next m law live opening knowns ok these consistent i t place has goes)) r clear
front_stays m law live opening knowns ok these those consistent (Told i t place pattern answer has asks quiet last) r clear =
    clear_kept m law opening knowns these those place (read_next m law live opening knowns these consistent i t has place pattern answer asks) r clear
front_stays m law live opening knowns ok these those consistent (Woken i t place wants event has waits first passed) r clear =
    clear_kept m law opening knowns these those (wake event place) (wait_next m law live opening knowns these consistent i t has place wants event waits first) r clear
