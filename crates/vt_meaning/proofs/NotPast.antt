-- No thread of a consistent set stands at or past the horizon.
use Rattle.std.proofs.Common.{◌≡◌, ℕ, List, [], ◌∷◌, ◌++◌, length, refl, sym, ◌∙◌, ap, arith, subst, Some, length-append}
use Rattle.std.specs.Prelude.{slice_get}
use Rattle.vt_path.specs.declared.pattern.Segment.{Segment}
use Rattle.vt_event.specs.declared.place.Place.{Place}
use Rattle.vt_run.specs.declared.action.Action.{Action}
use Rattle.vt_run.specs.declared.action.Action.TheVariants.{Read}
use Rattle.vt_run.specs.Standing.{Stance, Ready, Asks, Waits, Asleep, Over, action_place}
use Rattle.vt_meaning.specs.Causal.{IsWithin}
use Rattle.vt_meaning.specs.Consistent.{IsConsistent}
use Rattle.vt_meaning.specs.Disturbers.{standing_at}
use Rattle.vt_meaning.specs.Places.{Earlier}
use Rattle.vt_meaning.specs.RealLaws.{NoneStandsPast}
use Rattle.vt_meaning.specs.ThreadLaws.{IsLawful, IsSession}
use Rattle.vt_meaning.specs.ThreadMeaning.{ThreadMeaning, Wants}
use Rattle.vt_meaning.specs.Traces.{Entry, Thread, stance_in, trace, wait_for, waiting}
use Rattle.vt_meaning.specs.World.{Opening}
use Rattle.vt_meaning.proofs.StepLaws.{acts_lawful}
use Rattle.vt_meaning.proofs.Lists.{none_some}
use Rattle.vt_meaning.proofs.Traces.{last_read, last_step, last_wait, stand_at}
use Rattle.vt_meaning.proofs.BelowHorizon.{within}

at_end : {A : Type 0} (xs : List A) (x : A) → slice_get (xs ++ x ∷ []) (length xs) ≡ Some x
at_end [] x = refl
at_end (y ∷ xs) x = at_end xs x

module _ (m : ThreadMeaning) (opening : Opening) (session : IsSession m opening) (early : IsWithin m opening) (threads : List Thread) (con : IsConsistent m opening threads) (k : ℕ) (thread : Thread) (has : slice_get threads k ≡ Some thread) where
  law : IsLawful m
  law = acts_lawful m session.acts

  ready_early : (place : Place) → stance_in m thread ≡ Ready place → Earlier place.time m.until
  ready_early place is =
      within m law opening early threads con k (length (trace m thread)) thread place has (omega arith) (sym (stand_at m thread (length (trace m thread)) (omega arith)) ∙ is)

  -- where its last step is this action
  acted_early : (before : List Entry) (entry : Entry) (action : Action) → trace m thread ≡ before ++ entry ∷ [] → entry.step.action ≡ Some action → Earlier (action_place action).time m.until
  acted_early before entry action whole is =
      let at : slice_get (trace m thread) (length before) ≡ Some entry = ap (λ l. slice_get l (length before)) whole ∙ at_end before entry in
      let here = law.placed thread (length before) entry at in
      let long = ap length whole ∙ length-append before (entry ∷ []) in
      subst (λ (p : Place). Earlier p.time m.until) (sym (here.2 action is)) (within m law opening early threads con k (length before) thread here.0 has (omega (arith, long)) here.1)

  asks_early : (place : Place) (pattern : List Segment) → stance_in m thread ≡ Asks place pattern → Earlier place.time m.until
  asks_early place pattern is =
      let last = last_step m law thread (Asks place pattern) is (λ r e. absurd (let z : Asks place pattern ≡ Ready r = e in cc)) in
      acted_early last.before last.entry (Read place pattern) last.whole (last_read m thread place pattern last).0

  waits_early : (place : Place) (wants : Wants) → stance_in m thread ≡ waiting place wants → Earlier place.time m.until
  waits_early place wants is =
      let last = last_step m law thread (waiting place wants) is (λ r e. absurd (let z : Waits place wants.pattern wants.stop ≡ Ready r = e in cc)) in
      acted_early last.before last.entry (wait_for place wants) last.whole (last_wait m thread place wants last).0

  stands_early : (stance : Stance) → stance_in m thread ≡ stance → (place : Place) → standing_at stance ≡ Some place → Earlier place.time m.until
  stands_early (Ready at) is place stands = let same : at ≡ place = cc in subst (λ (p : Place). Earlier p.time m.until) same (ready_early at is)
  stands_early (Asks at pattern) is place stands = let same : at ≡ place = cc in subst (λ (p : Place). Earlier p.time m.until) same (asks_early at pattern is)
  stands_early (Waits at pattern stop) is place stands = let same : at ≡ place = cc in subst (λ (p : Place). Earlier p.time m.until) same (waits_early at (record { pattern = pattern; stop = stop }) is)
  stands_early (Asleep time) is place stands = absurd (none_some stands)
  stands_early Over is place stands = absurd (none_some stands)

pub none_stands_past : NoneStandsPast
none_stands_past m opening session early threads con k thread place has stands = stands_early m opening session early threads con k thread has (stance_in m thread) refl place stands
