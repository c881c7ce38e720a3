-- A change of a consistent set in which something is added and nothing taken back: what it has to show, and that the set after it is consistent.
use Rattle.std.proofs.Common.{◌≡◌, ℕ, List, refl, inl, inr, ◌⊎◌, Some, true, sym, subst}
use Rattle.std.specs.Prelude.{slice_get, Contains}
use Rattle.vt_event.specs.Event.{EventView}
use Rattle.vt_event.specs.declared.place.Place.{Place}
use Rattle.vt_path.specs.declared.pattern.Segment.{Segment}
use Rattle.vt_run.specs.Standing.{action_place, Asks, Asleep, Over, Ready, Stance, Waits}
use Rattle.vt_run.specs.declared.action.Action.{Action}
use Rattle.vt_run.specs.declared.action.Action.TheVariants.{Emit, End, Read, Rest, Spawn, Wait}
use Rattle.vt_run.specs.declared.action.Answer.{Answer}
use Rattle.vt_run.specs.declared.action.Answer.TheVariants.{Found, Nothing}
use Rattle.vt_run.specs.declared.start.Start.{Start}
use Rattle.vt_meaning.specs.Bounds.{Clear, Disturbs, IsCandidate, Quiet, StandsBelow}
use Rattle.vt_meaning.specs.Bounds.Disturbs.{Feeds, Writes}
use Rattle.vt_meaning.specs.Consistent.{IsConsistent, IsExact}
use Rattle.vt_meaning.specs.Happenings.{Acted, Begun, Below, Happened, IsFirst, IsLast, Spawned}
use Rattle.vt_meaning.specs.LookUps.{matches_event}
use Rattle.vt_meaning.specs.NextPlaces.{GoesOn}
use Rattle.vt_meaning.specs.Places.{Before, Upto}
use Rattle.vt_meaning.specs.Reach.{IsKnown}
use Rattle.vt_meaning.specs.ThreadLaws.{IsLawful}
use Rattle.vt_meaning.specs.ThreadMeaning.{may_meet, meets, ThreadMeaning, Wants}
use Rattle.vt_meaning.specs.Traces.{Entry, MovesOn, stance_in, Thread, wait_for}
use Rattle.vt_meaning.specs.World.{Opening}
use Rattle.vt_meaning.proofs.Order.{before-trans, before-upto, upto-before, before-wake}
use Rattle.vt_meaning.proofs.Writers.{IsHot, hot_disturbs, hot_more, hot_calm, meets_more}
use Rattle.vt_meaning.proofs.Writers.IsHot.{Itself, Fed}

-- an action of these that was done in those as its j-th step by a thread that began alike
pub record Kept (m : ThreadMeaning) (those : List Thread) (w : Thread) (j : ℕ) (a : Action) : Type 0 where
  pub thread : Thread
  pub entry : Entry
  pub acted : Acted m those thread j entry a
  pub start : thread.start ≡ w.start

pub record Bound (m : ThreadMeaning) (opening : Opening) (these : List Thread) (place : Place) : Type 0 where
  pub at : ℕ
  pub thread : Thread
  pub has : slice_get these at ≡ Some thread
  pub on : GoesOn m opening these (stance_in m thread) place

-- a new answer is final
abbrev pub IsRight : ThreadMeaning → Opening → List Thread → Action → Answer → Type 0
IsRight m opening these (Read p q) b = IsLast m opening these p q b × Quiet m opening these p q
IsRight m opening these (Wait p q c) b = (event : EventView) × (b ≡ Found event) × IsFirst m opening these p (record { pattern = q; stop = c }) event × Clear m opening these event.place
IsRight m opening these _ b = Unit {0}

-- thread stands at place or above, and may write no more than a thread that starts at start
pub record IsMoved (m : ThreadMeaning) (place : Place) (start : Start) (thread : Thread) : Type 0 where
  pub may : (pattern : List Segment) → m.may thread.start pattern ≡ true → m.may start pattern ≡ true
  pub above : (r : Place) → StandsBelow (stance_in m thread) r → Before place r

-- a thread that starts at s may write all that this action writes or starts, and a rest moves on
abbrev pub Allowed : ThreadMeaning → Start → Action → Type 0
Allowed m s (Emit e) = (pattern : List Segment) → matches_event pattern e ≡ true → m.may s pattern ≡ true
Allowed m s (Spawn p c) = (pattern : List Segment) → m.may c pattern ≡ true → m.may s pattern ≡ true
Allowed m s (Rest p n) = MovesOn p n
Allowed m s _ = Unit {0}

-- those follows these by a step at place, a bound of these
pub record IsNext (m : ThreadMeaning) (opening : Opening) (these those : List Thread) (place : Place) : Type 0 where
  pub bound : Bound m opening these place
  -- what was done stays done; what is new is done by the thread of that bound, at place or above
  pub on : (thread : Thread) (j : ℕ) (entry : Entry) (a : Action) → Acted m these thread j entry a → Kept m those thread j a
  pub back : (thread : Thread) (j : ℕ) (entry : Entry) (a : Action) → Acted m those thread j entry a → Kept m these thread j a ⊎ (Upto place (action_place a) × Allowed m bound.thread.start a)
  pub fronts : (k : ℕ) (thread : Thread) (b : Place) → slice_get those k ≡ Some thread → GoesOn m opening those (stance_in m thread) b → Bound m opening these b ⊎ Upto place b
  -- who is there before and after
  pub threads : (k : ℕ) (thread : Thread) → slice_get those k ≡ Some thread → (slice_get these k ≡ Some thread) ⊎ IsMoved m place bound.thread.start thread
  pub begun : (start : Start) → Begun these start → Begun those start
  pub started : (start : Start) → Spawned m those start → Spawned m these start ⊎ Begun those start
  pub roots : (k : ℕ) (thread : Thread) → slice_get those k ≡ Some thread → Contains opening.starts thread.start ⊎ Spawned m those thread.start
  pub apart : (k l : ℕ) (thread twin : Thread) → slice_get those k ≡ Some thread → slice_get those l ≡ Some twin → thread.start.place.thread ≡ twin.start.place.thread → k ≡ l
  pub exact : (k : ℕ) (thread : Thread) → slice_get those k ≡ Some thread → IsExact m thread

-- an answer in those was one in these, or is right
abbrev pub Answers : ThreadMeaning → Opening → List Thread → List Thread → Type 0
Answers m opening these those =
    (thread : Thread) (j : ℕ) (entry : Entry) (a : Action) (answer : Answer) → Acted m those thread j entry a → entry.answer ≡ Some answer →
    ((twin : Thread) × (other : Entry) × Acted m these twin j other a × (other.answer ≡ Some answer)) ⊎ IsRight m opening those a answer

module _ (m : ThreadMeaning) (law : IsLawful m) (opening : Opening) (knowns : IsKnown m opening) (these those : List Thread) (place : Place) (n : IsNext m opening these those place) where
  pub happened_on : (event : EventView) → Happened m opening these event → Happened m opening those event
  happened_on event (inl g) = inl g
  happened_on event (inr em) =
      let k = n.on em.thread em.i em.entry (Emit event) em.acted in
      inr (record { thread = k.thread; i = em.i; entry = k.entry; acted = k.acted })

  -- e is new: it stands at place or above, and the thread of that bound may write it
  abbrev IsNew : EventView → Type 0
  IsNew event = Upto place event.place × ((pattern : List Segment) → matches_event pattern event ≡ true → m.may n.bound.thread.start pattern ≡ true) × ((w : Wants) → meets w event ≡ true → may_meet m n.bound.thread.start w ≡ true)

  happened_back : (event : EventView) → Happened m opening those event → Happened m opening these event ⊎ IsNew event
  happened_back event (inl g) = inl (inl g)
  happened_back event (inr em) =
      elim (n.back em.thread em.i em.entry (Emit event) em.acted) [
        | inl k ↦ inl (inr (record { thread = k.thread; i = em.i; entry = k.entry; acted = k.acted }))
        | inr up ↦
            inr (
              up.0,
              up.1,
              λ w h. meets_more m n.bound.thread.start event up.1 w h,
            )
      ]

  -- a bound that is passed stays passed
  pub clear_kept : (r : Place) → Clear m opening these r → Clear m opening those r
  clear_kept r clear k w answer has on =
      elim (n.fronts k w answer has on) [
        | inl o ↦ clear o.at o.thread answer o.has o.on
        | inr up ↦ before-upto r place answer (clear n.bound.at n.bound.thread place n.bound.has n.bound.on) up
      ]

  -- the front of these is at place or below
  under : (r : Place) → Clear m opening these r → Before r place
  under r clear = clear n.bound.at n.bound.thread place n.bound.has n.bound.on

  pub first_kept : (r : Place) (w : Wants) (event : EventView) → IsFirst m opening these r w event → Clear m opening these event.place → IsFirst m opening those r w event
  first_kept r w event h clear =
      record {
        found = record { happened = happened_on event h.found.happened; matches = h.found.matches; above = h.found.above };
        least =
            λ f g.
            elim (happened_back f g.happened) [
              | inl old ↦ h.least f (record { happened = old; matches = g.matches; above = g.above })
              | inr new ↦ inr (before-upto event.place place f.place (under event.place clear) new.0)
            ];
      }

  -- the thread that moved may write nothing that a quiet read above place wants
  not_hot : (r : Place) (pattern : List Segment) → Quiet m opening these r pattern → IsHot m these r pattern n.bound.thread.start → Before place r → ⊥
  not_hot r pattern quiet hot lt = hot_calm m opening these r pattern quiet n.bound.at n.bound.thread place n.bound.has hot n.bound.on lt

  -- a thread that moved disturbs only what it disturbed before, and so does what it started
  still : (r : Place) (pattern : List Segment) → Quiet m opening these r pattern → (w : Thread) → IsCandidate m those r w → IsHot m these r pattern w.start → Disturbs m these r pattern w
  still r pattern quiet w c hot =
      elim (n.threads c.at w c.has) [
        | inl old ↦ hot_disturbs m these r pattern w (record { at = c.at; has = old; below = c.below }) hot
        | inr mv ↦ absurd (not_hot r pattern quiet (hot_more m these r pattern w.start n.bound.thread.start mv.may hot) (mv.above r c.below))
      ]

  -- **a quiet read gets no new disturber**
  disturbs_back : (r : Place) (pattern : List Segment) → Quiet m opening these r pattern → (w : Thread) → Disturbs m those r pattern w → Disturbs m these r pattern w
  disturbs_back r pattern quiet w (Writes _ c may) = still r pattern quiet w c (Itself may)
  disturbs_back r pattern quiet w (Feeds _ u answer thread c d st may) = still r pattern quiet w c (Fed u answer thread (disturbs_back r pattern quiet u d) st may)

  -- so it stays quiet
  pub quiet_kept : (r : Place) (pattern : List Segment) → Quiet m opening these r pattern → Quiet m opening those r pattern
  quiet_kept r pattern quiet w answer d on lt = go (stance_in m w) refl on
    where
      old : Disturbs m these r pattern w
      old = disturbs_back r pattern quiet w d

      go : (s : Stance) → stance_in m w ≡ s → GoesOn m opening those s answer → ⊥
      go (Ready c) event o = quiet w answer old (subst (λ s. GoesOn m opening these s answer) (sym event) o) lt
      go (Asks c d) event o = quiet w answer old (subst (λ s. GoesOn m opening these s answer) (sym event) o) lt
      go (Waits c thread s) event o =
          elim (happened_back o.0 o.1.happened) [
            | inl h ↦
                quiet w answer old (subst (λ s. GoesOn m opening these s answer) (sym event) (o.0, record { happened = h; matches = o.1.matches; above = o.1.above }, o.2)) lt
            | inr new ↦
                not_hot r pattern quiet (Fed w c (record { pattern = thread; stop = s }) old event (new.2 (record { pattern = thread; stop = s }) o.1.matches))
                (upto-before place o.0.place r new.0 (before-trans o.0.place answer r (subst (Before o.0.place) (sym o.2) (before-wake o.0 c)) lt))
          ]
      go (Asleep k) event o = o
      go Over event o = o

  -- and finds nothing new
  old_below : (r : Place) (pattern : List Segment) (f : EventView) → Quiet m opening these r pattern → Below m opening those r pattern f → Below m opening these r pattern f
  old_below r pattern f quiet g =
      elim (happened_back f g.happened) [
        | inl old ↦ record { happened = old; matches = g.matches; below = g.below }
        | inr new ↦ absurd (not_hot r pattern quiet (Itself (new.1 pattern g.matches)) (upto-before place f.place r new.0 g.below))
      ]

  pub last_kept : (r : Place) (pattern : List Segment) (answer : Answer) → IsLast m opening these r pattern answer → Quiet m opening these r pattern → IsLast m opening those r pattern answer
  last_kept r pattern Nothing h quiet = λ f g. h f (old_below r pattern f quiet g)
  last_kept r pattern (Found event) h quiet = (
    record { happened = happened_on event h.0.happened; matches = h.0.matches; below = h.0.below },
    λ f g. h.1 f (old_below r pattern f quiet g),
  )

  -- what was answered is what would be answered now
  pub right_kept : (a : Action) (answer : Answer) → IsRight m opening these a answer → IsRight m opening those a answer
  right_kept (Read r pattern) answer h = (last_kept r pattern answer h.0 h.1, quiet_kept r pattern h.1)
  right_kept (Wait r pattern c) answer h = (h.0, h.1, first_kept r (record { pattern = pattern; stop = c }) h.0 h.2 h.3, clear_kept h.0.place h.3)
  right_kept (Emit event) answer h = tt
  right_kept (Rest r t) answer h = tt
  right_kept (Spawn r s) answer h = tt
  right_kept (End r reason) answer h = tt

  right_before : IsConsistent m opening these → (thread : Thread) (j : ℕ) (entry : Entry) (a : Action) (answer : Answer) → Acted m these thread j entry a → entry.answer ≡ Some answer → IsRight m opening these a answer
  right_before consistent thread j entry (Read r pattern) answer acted event = consistent.reads thread j entry r pattern answer acted event
  right_before consistent thread j entry (Wait r pattern c) answer acted event = consistent.waits thread j entry r (record { pattern = pattern; stop = c }) answer acted event
  right_before consistent thread j entry (Emit f) answer acted event = tt
  right_before consistent thread j entry (Rest r t) answer acted event = tt
  right_before consistent thread j entry (Spawn r s) answer acted event = tt
  right_before consistent thread j entry (End r reason) answer acted event = tt

  right_after : IsConsistent m opening these → Answers m opening these those → (w : Thread) (j : ℕ) (other : Entry) (a : Action) (answer : Answer) → Acted m those w j other a → other.answer ≡ Some answer → IsRight m opening those a answer
  right_after consistent answers w j other a answer acted event =
      elim (answers w j other a answer acted event) [
        | inl o ↦ right_kept a answer (right_before consistent o.0 j o.1 a answer o.2 o.3)
        | inr r ↦ r
      ]

  -- **the set after the change is consistent**
  pub kept : IsConsistent m opening these → Answers m opening these those → IsConsistent m opening those
  kept consistent answers =
      record {
        opened = λ s h. n.begun s (consistent.opened s h);
        spawned = λ s h. elim (n.started s h) [ inl old ↦ n.begun s (consistent.spawned s old) | inr new ↦ new ];
        rooted = n.roots;
        apart = n.apart;
        exact = n.exact;
        reads = λ w j other r pattern answer acted event. right_after consistent answers w j other (Read r pattern) answer acted event;
        waits = λ w j other r pattern answer acted event. right_after consistent answers w j other (wait_for r pattern) answer acted event;
        moves = λ w j other r t acted. elim (n.back w j other (Rest r t) acted) [ inl k ↦ consistent.moves k.thread j k.entry r t k.acted | inr up ↦ up.1 ];
      }
