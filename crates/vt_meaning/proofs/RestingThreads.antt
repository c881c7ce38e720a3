-- Threads at the end; the first event for two patterns; the test of the front.
use Rattle.std.proofs.Common.{ap, ◌≡◌, ℕ, List, refl, sym, ◌∙◌, inl, inr, ◌⊎◌, Bool, true, false, subst, Option, Some, None}
use Rattle.std.specs.Prelude.{is_some, ◌||◌, slice_get, cond}
use Rattle.vt_event.specs.Event.{EventView}
use Rattle.vt_event.specs.declared.place.Place.{Place}
use Rattle.vt_frac.specs.Arithmetic.{sum_of}
use Rattle.vt_frac.specs.Fraction.{Fraction}
use Rattle.vt_path.specs.declared.pattern.Segment.{Segment}
use Rattle.vt_run.specs.Actions.{is_past}
use Rattle.vt_run.specs.Standing.{Asks, Asleep, next_step, Over, Ready, Stance, Waits}
use Rattle.vt_run.specs.declared.action.Action.{Action}
use Rattle.vt_run.specs.declared.action.Action.TheVariants.{Emit, End, Read, Rest, Spawn, Wait}
use Rattle.vt_run.specs.declared.action.Answer.{Answer}
use Rattle.vt_run.specs.declared.action.Answer.TheVariants.{Found, Nothing}
use Rattle.vt_meaning.specs.Bounds.{Clear}
use Rattle.vt_meaning.specs.Disturbers.{is_above, is_clear}
use Rattle.vt_meaning.specs.Happenings.{Above, FirstOr, IsFirst}
use Rattle.vt_meaning.specs.LookUps.{matches_event}
use Rattle.vt_meaning.specs.NextPlaces.{GoesOn, IsFinished, soonest}
use Rattle.vt_meaning.specs.Places.{Before, is_before}
use Rattle.vt_meaning.specs.Theorems.{lesser, Rests}
use Rattle.vt_meaning.specs.Theorems.Rests.{HasEnded, Sleeping, Waiting}
use Rattle.vt_meaning.specs.ThreadLaws.{IsLawful}
use Rattle.vt_meaning.specs.ThreadMeaning.{meets, ThreadMeaning, Wants}
use Rattle.vt_meaning.specs.Traces.{after_rest, after_step, rested, stance_in, Thread, wake, woken_by}
use Rattle.vt_meaning.specs.World.{events_of, Opening}
use Rattle.vt_meaning.proofs.Order.{before-cases, before-trans, before-upto, is_before-true, true-is_before}
use Rattle.vt_meaning.proofs.Traces.{last_step}
use Rattle.vt_meaning.proofs.Writers.{either, or_left, or_right}
use Rattle.vt_meaning.proofs.FrontAndBounds.{IsApart, soonest_some, soonest_none}

-- a thread sleeps to a time at the horizon or past it
asleep_by : (u n : Fraction) (place : Place) (act : Option Action) (ans : Option Answer) → after_step u (Ready place) act ans ≡ Asleep n → is_past u n ≡ true
asleep_by u n place None ans h = absurd (let z : Ready place ≡ Asleep n = h in cc)
asleep_by u n place (Some (Emit e)) ans h = absurd (let z : Ready (next_step e.place) ≡ Asleep n = h in cc)
asleep_by u n place (Some (Rest b k)) ans h = rest (is_past u (sum_of b.time k)) refl h
  where
    rest : (c : Bool) → is_past u (sum_of b.time k) ≡ c → after_rest c b k ≡ Asleep n → is_past u n ≡ true
    rest false e g = absurd (let z : Ready (rested b k) ≡ Asleep n = g in cc)
    rest true e g =
        let same : sum_of b.time k ≡ n = cc in
        ap (is_past u) (sym same) ∙ e
asleep_by u n place (Some (Read b q)) None h = absurd (let z : Asks b q ≡ Asleep n = h in cc)
asleep_by u n place (Some (Read b q)) (Some a) h = absurd (let z : Ready (next_step b) ≡ Asleep n = h in cc)
asleep_by u n place (Some (Wait b q c)) None h = absurd (let z : Waits b q c ≡ Asleep n = h in cc)
asleep_by u n place (Some (Wait b q c)) (Some Nothing) h = absurd (let z : Over ≡ Asleep n = h in cc)
asleep_by u n place (Some (Wait b q c)) (Some (Found e)) h = wakes (is_some e.path) h
  where
    wakes : (awake : Bool) → woken_by e awake b ≡ Asleep n → is_past u n ≡ true
    wakes true k = absurd (let z : Ready (wake e b) ≡ Asleep n = k in cc)
    wakes false k = absurd (let z : Over ≡ Asleep n = k in cc)
asleep_by u n place (Some (Spawn b s)) ans h = absurd (let z : Ready (next_step b) ≡ Asleep n = h in cc)
asleep_by u n place (Some (End b reason)) ans h = absurd (let z : Over ≡ Asleep n = h in cc)

pub asleep_late : (m : ThreadMeaning) (law : IsLawful m) (thread : Thread) (n : Fraction) → stance_in m thread ≡ Asleep n → is_past m.until n ≡ true
asleep_late m law thread n e = let l = last_step m law thread (Asleep n) e (λ r g. let z : Asleep n ≡ Ready r = g in cc) in asleep_by m.until n l.place l.entry.step.action l.entry.answer l.after

-- **each thread of a finished set is over, asleep past the horizon, or waits for nothing that is there**
pub rests : (m : ThreadMeaning) (law : IsLawful m) (opening : Opening) (these : List Thread) → IsFinished m opening these → (k : ℕ) (thread : Thread) → slice_get these k ≡ Some thread → Rests m opening these thread
rests m law opening these finished k thread has = go (stance_in m thread) refl
  where
    go : (s : Stance) → stance_in m thread ≡ s → Rests m opening these thread
    go (Ready p) e = absurd (finished k thread p has (subst (λ s. GoesOn m opening these s p) (sym e) refl))
    go (Asks p q) e = absurd (finished k thread p has (subst (λ s. GoesOn m opening these s p) (sym e) refl))
    go (Waits p q c) e = Waiting p (record { pattern = q; stop = c }) e (λ f a. finished k thread (wake f p) has (subst (λ s. GoesOn m opening these s (wake f p)) (sym e) (f, a, refl)))
    go (Asleep n) e = Sleeping n e (asleep_late m law thread n e)
    go Over e = HasEnded e

abbrev both : List Segment → List Segment → Wants
both q c = record { pattern = q; stop = Some c }

abbrev only : List Segment → Wants
only q = record { pattern = q; stop = None }

module _ (pattern wanted : List Segment) (event : EventView) where
  meets_left : meets (only pattern) event ≡ true → meets (both pattern wanted) event ≡ true
  unfolding meets
  meets_left h = elim (either (matches_event pattern event) false h) [ inl a ↦ or_left (matches_event pattern event) (matches_event wanted event || false) a | inr b ↦ absurd (let z : false ≡ true = b in cc) ]

  meets_right : meets (only wanted) event ≡ true → meets (both pattern wanted) event ≡ true
  unfolding meets
  meets_right h = or_right (matches_event pattern event) (matches_event wanted event || false) h

  meets_cases : meets (both pattern wanted) event ≡ true → (meets (only pattern) event ≡ true) ⊎ (meets (only wanted) event ≡ true)
  unfolding meets
  meets_cases h = elim (either (matches_event pattern event) (matches_event wanted event || false) h) [ inl a ↦ inl (or_left (matches_event pattern event) false a) | inr b ↦ inr b ]

module _ (m : ThreadMeaning) (opening : Opening) (these : List Thread) (apart : IsApart m opening these) (place : Place) (pattern wanted : List Segment) where
  above_left : (event : EventView) → Above m opening these place (only pattern) event → Above m opening these place (both pattern wanted) event
  above_left event a = record { happened = a.happened; matches = meets_left pattern wanted event a.matches; above = a.above }

  above_right : (event : EventView) → Above m opening these place (only wanted) event → Above m opening these place (both pattern wanted) event
  above_right event a = record { happened = a.happened; matches = meets_right pattern wanted event a.matches; above = a.above }

  above_cases : (event : EventView) → Above m opening these place (both pattern wanted) event → Above m opening these place (only pattern) event ⊎ Above m opening these place (only wanted) event
  above_cases event a =
      elim (meets_cases pattern wanted event a.matches) [
        | inl h ↦ inl (record { happened = a.happened; matches = h; above = a.above })
        | inr h ↦ inr (record { happened = a.happened; matches = h; above = a.above })
      ]

  -- **who waits for two patterns finds the lower of the two events**
  pub first_of_two : (a b : Option EventView) → FirstOr m opening these place (only pattern) a → FirstOr m opening these place (only wanted) b → FirstOr m opening these place (both pattern wanted) (lesser a b)
  first_of_two None None h k = λ event a. elim (above_cases event a) [ inl x ↦ h event x | inr x ↦ k event x ]
  first_of_two None (Some f) h k =
      record { found = above_right f k.found; least = λ g a. elim (above_cases g a) [ inl x ↦ absurd (h g x) | inr x ↦ k.least g x ] }
  first_of_two (Some event) None h k =
      record { found = above_left event h.found; least = λ g a. elim (above_cases g a) [ inl x ↦ h.least g x | inr x ↦ absurd (k g x) ] }
  first_of_two (Some event) (Some f) h k = pick (is_before f.place event.place) refl
    where
      after : (g d b : EventView) → (g ≡ d) ⊎ Before d.place g.place → Before b.place d.place → Before b.place g.place
      after g d b (inl z) lt = subst (λ x. Before b.place x.place) (sym z) lt
      after g d b (inr up) lt = before-trans b.place d.place g.place lt up

      pick : (v : Bool) → is_before f.place event.place ≡ v → IsFirst m opening these place (both pattern wanted) (cond v f event)
      pick true t =
          let lt = true-is_before f.place event.place t in
          record { found = above_right f k.found; least = λ g a. elim (above_cases g a) [ inl x ↦ inr (after g event f (h.least g x) lt) | inr x ↦ k.least g x ] }
      pick false t =
          record {
            found = above_left event h.found;
            least =
                λ g a.
                elim (above_cases g a) [
                  | inl x ↦ h.least g x
                  | inr x ↦
                      elim (before-cases event.place f.place) [
                        | inl lt ↦ inr (after g f event (k.least g x) lt)
                        | inr (inl z) ↦ (let same : event ≡ f = apart event f h.found.happened k.found.happened z in subst (λ d. (g ≡ d) ⊎ Before d.place g.place) (sym same) (k.least g x))
                        | inr (inr gt) ↦ absurd (let z : true ≡ false = sym (is_before-true f.place event.place gt) ∙ t in cc)
                      ]
                ];
          }

-- **what is tested is what is meant**
pub clear_true : (m : ThreadMeaning) (opening : Opening) (these : List Thread) (place : Place) → is_clear m opening these place ≡ true → Clear m opening these place
unfolding is_clear
clear_true m opening these place h = go (soonest m (events_of m opening these) 0 these) refl h
  where
    go : (o : Option (ℕ × Place)) → soonest m (events_of m opening these) 0 these ≡ o → is_above place o ≡ true → Clear m opening these place
    go None e k = λ j t b has on. absurd (soonest_none m opening these e j t b has on)
    go (Some r) e k = λ j t b has on. let a = soonest_some m opening these r.0 r.1 e in before-upto place r.1 b (true-is_before place r.1 k) (a.final j t b has on)

pub true_clear : (m : ThreadMeaning) (opening : Opening) (these : List Thread) (place : Place) → Clear m opening these place → is_clear m opening these place ≡ true
unfolding is_clear
true_clear m opening these place clear = go (soonest m (events_of m opening these) 0 these) refl
  where
    go : (o : Option (ℕ × Place)) → soonest m (events_of m opening these) 0 these ≡ o → is_above place o ≡ true
    go None e = refl
    go (Some r) e = let a = soonest_some m opening these r.0 r.1 e in is_before-true place r.1 (clear r.0 a.thread r.1 a.has a.on)
