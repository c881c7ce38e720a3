-- Disturbers of a read, by what they may write.
use Rattle.std.proofs.Common.{◌≡◌, ℕ, refl, sym, inl, inr, ◌⊎◌, Bool, true, false, subst, Some}
use Rattle.std.specs.Prelude.{slice_get, ◌||◌, List, [], ◌∷◌}
use Rattle.std.specs.List.{list_any}
use Rattle.vt_event.specs.Event.{EventView}
use Rattle.vt_event.specs.declared.place.Place.{Place}
use Rattle.vt_path.specs.declared.pattern.Segment.{Segment}
use Rattle.vt_run.specs.Standing.{Asks, Asleep, Over, Ready, Stance, Waits}
use Rattle.vt_run.specs.declared.start.Start.{Start}
use Rattle.vt_meaning.specs.Bounds.{Disturbs, IsCandidate, Quiet, StandsBelow}
use Rattle.vt_meaning.specs.Bounds.Disturbs.{Feeds, Writes}
use Rattle.vt_meaning.specs.LookUps.{matches_event}
use Rattle.vt_meaning.specs.NextPlaces.{GoesOn, NoneSooner}
use Rattle.vt_meaning.specs.Places.{Before}
use Rattle.vt_meaning.specs.ThreadMeaning.{may_meet, meets, patterns_of, ThreadMeaning, Wants}
use Rattle.vt_meaning.specs.Traces.{stance_in, Thread, waiting}
use Rattle.vt_meaning.specs.World.{Opening}
use Rattle.vt_meaning.proofs.Order.{before-trans, before-wake, not_both}

pub either : (a b : Bool) → (a || b) ≡ true → (a ≡ true) ⊎ (b ≡ true)
either true b h = inl refl
either false b h = inr h

pub or_left : (a b : Bool) → a ≡ true → (a || b) ≡ true
or_left true b h = refl
or_left false b h = absurd (let z : false ≡ true = h in cc)

pub or_right : (a b : Bool) → b ≡ true → (a || b) ≡ true
or_right true b h = refl
or_right false b h = h

-- wants are met by what meets one of them
pub any_mono : (f g : List Segment → Bool) → ((pattern : List Segment) → f pattern ≡ true → g pattern ≡ true) → (qs : List (List Segment)) → list_any f qs ≡ true → list_any g qs ≡ true
any_mono f g le [] h = h
any_mono f g le (pattern ∷ qs) h =
    elim (either (f pattern) (list_any f qs) h) [
      | inl a ↦ or_left (g pattern) (list_any g qs) (le pattern a)
      | inr b ↦ or_right (g pattern) (list_any g qs) (any_mono f g le qs b)
    ]

pub may_more : (m : ThreadMeaning) (start beginning : Start) → ((pattern : List Segment) → m.may start pattern ≡ true → m.may beginning pattern ≡ true) → (wants : Wants) → may_meet m start wants ≡ true → may_meet m beginning wants ≡ true
unfolding may_meet
may_more m start beginning le wants h = any_mono (λ pattern. m.may start pattern) (λ pattern. m.may beginning pattern) le (patterns_of wants) h

-- who published an event may write what that event matches
pub meets_more : (m : ThreadMeaning) (start : Start) (event : EventView) → ((pattern : List Segment) → matches_event pattern event ≡ true → m.may start pattern ≡ true) → (wants : Wants) → meets wants event ≡ true → may_meet m start wants ≡ true
unfolding meets may_meet
meets_more m start event le wants h = any_mono (λ pattern. matches_event pattern event) (λ pattern. m.may start pattern) le (patterns_of wants) h

-- nobody goes on below where it stands
pub stands_below : (m : ThreadMeaning) (opening : Opening) (these : List Thread) (s : Stance) (place p : Place) → GoesOn m opening these s place → Before place p → StandsBelow s p
stands_below m opening these (Ready r) place p on lt = subst (λ w. Before w p) on lt
stands_below m opening these (Asks r q) place p on lt = subst (λ w. Before w p) on lt
stands_below m opening these (Waits r q c) place p on lt =
    before-trans r on.0.place p on.1.above (before-trans on.0.place place p (subst (Before on.0.place) (sym on.2) (before-wake on.0 r)) lt)
stands_below m opening these (Asleep n) place p on lt = absurd on
stands_below m opening these Over place p on lt = absurd on

-- hot: it may write a match of the read, or wake a disturber
pub data IsHot (m : ThreadMeaning) (these : List Thread) (place : Place) (pattern : List Segment) (start : Start) : Type 0 where
  Itself : m.may start pattern ≡ true → IsHot m these place pattern start
  Fed : (thread : Thread) (r : Place) (wants : Wants) → Disturbs m these place pattern thread → stance_in m thread ≡ waiting r wants → may_meet m start wants ≡ true → IsHot m these place pattern start

-- a disturber is a hot candidate
pub hot_disturbs : (m : ThreadMeaning) (these : List Thread) (place : Place) (pattern : List Segment) (thread : Thread) → IsCandidate m these place thread → IsHot m these place pattern thread.start → Disturbs m these place pattern thread
hot_disturbs m these place pattern thread c (Itself may) = Writes thread c may
hot_disturbs m these place pattern thread c (Fed u r w d st may) = Feeds thread u r w c d st may

pub disturbs_hot : (m : ThreadMeaning) (these : List Thread) (place : Place) (pattern : List Segment) (thread : Thread) → Disturbs m these place pattern thread → IsHot m these place pattern thread.start
disturbs_hot m these place pattern thread (Writes _ c may) = Itself may
disturbs_hot m these place pattern thread (Feeds _ u r w c d st may) = Fed u r w d st may

pub is_candidate : (m : ThreadMeaning) (these : List Thread) (place : Place) (pattern : List Segment) (thread : Thread) → Disturbs m these place pattern thread → IsCandidate m these place thread
is_candidate m these place pattern thread (Writes _ c may) = c
is_candidate m these place pattern thread (Feeds _ u r w c d st may) = c

pub hot_more : (m : ThreadMeaning) (these : List Thread) (place : Place) (pattern : List Segment) (start beginning : Start) → ((wanted : List Segment) → m.may start wanted ≡ true → m.may beginning wanted ≡ true) → IsHot m these place pattern start → IsHot m these place pattern beginning
hot_more m these place pattern start beginning le (Itself may) = Itself (le pattern may)
hot_more m these place pattern start beginning le (Fed u b w d st may) = Fed u b w d st (may_more m start beginning le w may)

-- below a quiet read no hot thread goes on
pub hot_calm : (m : ThreadMeaning) (opening : Opening) (these : List Thread) (place : Place) (pattern : List Segment) → Quiet m opening these place pattern → (k : ℕ) (thread : Thread) (b : Place) → slice_get these k ≡ Some thread →
    IsHot m these place pattern thread.start → GoesOn m opening these (stance_in m thread) b → Before b place → ⊥
hot_calm m opening these place pattern quiet k thread b has hot on lt =
    quiet thread b (hot_disturbs m these place pattern thread (record { at = k; has = has; below = stands_below m opening these (stance_in m thread) b place on lt }) hot) on lt

-- **the front is enough for a read to be final**
pub final_quiet : (m : ThreadMeaning) (opening : Opening) (these : List Thread) (place : Place) (pattern : List Segment) → NoneSooner m opening these place → Quiet m opening these place pattern
final_quiet m opening these place pattern final t b d on lt = let c = is_candidate m these place pattern t d in not_both b place lt (final c.at t b c.has on)

-- **and needed, with every write allowed**
pub quiet_final : (m : ThreadMeaning) (opening : Opening) (these : List Thread) (place : Place) (pattern : List Segment) → ((start : Start) (wanted : List Segment) → m.may start wanted ≡ true) → Quiet m opening these place pattern →
    (k : ℕ) (thread : Thread) (b : Place) → slice_get these k ≡ Some thread → GoesOn m opening these (stance_in m thread) b → Before b place → ⊥
quiet_final m opening these place pattern all quiet k thread b has on lt = hot_calm m opening these place pattern quiet k thread b has (Itself (all thread.start pattern)) on lt

-- **a read that nobody may write for needs no front**
pub unwritten_quiet : (m : ThreadMeaning) (opening : Opening) (these : List Thread) (place : Place) (pattern : List Segment) → ((start : Start) → m.may start pattern ≡ true → ⊥) → Quiet m opening these place pattern
unwritten_quiet m opening these place pattern never t b d on lt = none t d
  where
    none : (thread : Thread) → Disturbs m these place pattern thread → ⊥
    none thread (Writes _ c may) = never thread.start may
    none thread (Feeds _ v r w c e st may) = none v e

-- **marks to which nothing is to be added are on all disturbers**: so a loop may end that adds nothing
pub disturbs_least : (m : ThreadMeaning) (these : List Thread) (place : Place) (pattern : List Segment) (Marked : Thread → Type 0) →
    ((thread : Thread) → IsCandidate m these place thread → m.may thread.start pattern ≡ true → Marked thread) →
    ((thread twin : Thread) (r : Place) (wants : Wants) → IsCandidate m these place thread → Marked twin → stance_in m twin ≡ waiting r wants → may_meet m thread.start wants ≡ true → Marked thread) →
    (thread : Thread) → Disturbs m these place pattern thread → Marked thread
disturbs_least m these place pattern Marked one two thread (Writes _ c may) = one thread c may
disturbs_least m these place pattern Marked one two thread (Feeds _ twin r wants c d st may) = two thread twin r wants c (disturbs_least m these place pattern Marked one two twin d) st may

-- .. and without a bound below the read on them it is final
pub marks_quiet : (m : ThreadMeaning) (opening : Opening) (these : List Thread) (place : Place) (pattern : List Segment) (Marked : Thread → Type 0) →
    ((thread : Thread) → IsCandidate m these place thread → m.may thread.start pattern ≡ true → Marked thread) →
    ((thread twin : Thread) (r : Place) (wants : Wants) → IsCandidate m these place thread → Marked twin → stance_in m twin ≡ waiting r wants → may_meet m thread.start wants ≡ true → Marked thread) →
    ((thread : Thread) (b : Place) → Marked thread → GoesOn m opening these (stance_in m thread) b → Before b place → ⊥) → Quiet m opening these place pattern
marks_quiet m opening these place pattern Marked one two none thread b d on lt = none thread b (disturbs_least m these place pattern Marked one two thread d) on lt

-- **who stands below the read goes on below it, or waits**
pub bound_or_waits : (m : ThreadMeaning) (opening : Opening) (these : List Thread) (place : Place) (thread : Thread) → IsCandidate m these place thread →
    ((b : Place) × GoesOn m opening these (stance_in m thread) b × Before b place) ⊎ ((r : Place) × (wants : Wants) × (stance_in m thread ≡ waiting r wants))
bound_or_waits m opening these place thread c = go (stance_in m thread) refl c.below
  where
    go : (s : Stance) → stance_in m thread ≡ s → StandsBelow s place → ((b : Place) × GoesOn m opening these (stance_in m thread) b × Before b place) ⊎ ((r : Place) × (wants : Wants) × (stance_in m thread ≡ waiting r wants))
    go (Ready r) e lt = inl (r, subst (λ s. GoesOn m opening these s r) (sym e) refl, lt)
    go (Asks r c) e lt = inl (r, subst (λ s. GoesOn m opening these s r) (sym e) refl, lt)
    go (Waits r q c) e lt = inr (r, record { pattern = q; stop = c }, e)
    go (Asleep n) e lt = absurd lt
    go Over e lt = absurd lt
