-- With every write allowed the front is above each read that was answered.
use Rattle.std.proofs.Common.{◌≡◌, ℕ, List, [], ◌∷◌, ◌++◌, length, refl, sym, ◌∙◌, ap, inl, inr, arith, true, subst, Some, None, length-append, add-zero}
use Rattle.std.specs.Prelude.{slice_get}
use Rattle.std.proofs.lemmas.Option.{slice_get_within}
use Rattle.vt_event.specs.declared.place.Place.{Place}
use Rattle.vt_path.specs.declared.pattern.Segment.{Segment}
use Rattle.vt_run.specs.Standing.{action_place, Asks, Asleep, Over, Ready, Stance, Waits}
use Rattle.vt_run.specs.declared.action.Action.{Action}
use Rattle.vt_run.specs.declared.action.Action.TheVariants.{Read}
use Rattle.vt_run.specs.declared.action.Answer.{Answer}
use Rattle.vt_run.specs.declared.start.Start.{Start}
use Rattle.vt_meaning.specs.Bounds.{Clear}
use Rattle.vt_meaning.specs.Consistent.{IsConsistent}
use Rattle.vt_meaning.specs.Happenings.{Acted}
use Rattle.vt_meaning.specs.NextPlaces.{GoesOn}
use Rattle.vt_meaning.specs.Places.{Before}
use Rattle.vt_meaning.specs.ThreadLaws.{IsLawful}
use Rattle.vt_meaning.specs.ThreadMeaning.{ThreadMeaning, Wants}
use Rattle.vt_meaning.specs.Traces.{Entry, stance_in, Thread, trace, wait_for, waiting, wake}
use Rattle.vt_meaning.specs.World.{Opening}
use Rattle.vt_meaning.proofs.Order.{before-cases, before-trans, before-irrefl, before-wake, three}
use Rattle.vt_meaning.proofs.Traces.{At, InThread, in_thread, stand_in_thread, stand_at, rises_after, Last, last_step, last_read, last_wait}
use Rattle.vt_meaning.proofs.Ranks.{sane}
use Rattle.vt_meaning.proofs.Writers.{quiet_final}
use Rattle.vt_meaning.proofs.Lists.{get-append_right}

on_thread : (m : ThreadMeaning) (opening : Opening) (these : List Thread) (l : List ℕ) (s : Stance) (place : Place) → InThread l s → GoesOn m opening these s place → place.thread ≡ l
on_thread m opening these l (Ready p) place h on = ap (λ w. w.thread) on ∙ h
on_thread m opening these l (Asks p q) place h on = ap (λ w. w.thread) on ∙ h
on_thread m opening these l (Waits p q c) place h on = ap (λ w. w.thread) on.2 ∙ h
on_thread m opening these l (Asleep n) place h on = absurd on
on_thread m opening these l Over place h on = absurd on

module _ (m : ThreadMeaning) (law : IsLawful m) (opening : Opening) (these : List Thread) (consistent : IsConsistent m opening these) (k i : ℕ) (thread : Thread) (entry : Entry) (c : Action) (answer : Answer)
    (has : slice_get these k ≡ Some thread) (did : slice_get (trace m thread) i ≡ Some entry) (is : entry.step.action ≡ Some c) (ans : entry.answer ≡ Some answer) where
  -- the open ask of a thread is above its answered ones
  open_above : (s : Stance) (l : Last m thread s) (d : Action) → l.entry.step.action ≡ Some d → l.entry.answer ≡ None → Before (action_place c) (action_place d)
  open_above s l d lis none =
      let n = length l.before in
      let ldid : slice_get (trace m thread) n ≡ Some l.entry =
      subst (λ h. slice_get h n ≡ Some l.entry) (sym l.whole) (subst (λ n. slice_get (l.before ++ l.entry ∷ []) n ≡ Some l.entry) (add-zero _) (get-append_right l.before (l.entry ∷ []) 0 l.entry refl)) in
      let here = law.placed thread n l.entry ldid in
      let len = ap length l.whole in
      let more = length-append l.before (l.entry ∷ []) in
      let one : length (l.entry ∷ []) ≡ 1 = refl in
      let within = slice_get_within (trace m thread) i entry did in
      elim (three i n) [
        | inl lt ↦
            subst (Before (action_place c)) (sym (here.2 d lis))
            (rises_after m law thread (sane m opening these consistent k thread has) i n entry c here.0 did is lt here.1 (omega (arith, len, more)))
        | inr (inl e) ↦
            absurd
            (let y : Some entry ≡ Some l.entry = sym did ∙ ap (slice_get (trace m thread)) e ∙ ldid in
            let z : entry ≡ l.entry = cc y in
            let w : None ≡ Some answer = sym none ∙ ap (λ v. v.answer) (sym z) ∙ ans in
            cc)
        | inr (inr gt) ↦ absurd (omega (arith, len, more, one, within, gt))
      ]

  -- so is the place at which it goes on
  bound_above : (place : Place) → GoesOn m opening these (stance_in m thread) place → Before (action_place c) place
  bound_above place on = go (stance_in m thread) refl on
    where
      go : (s : Stance) → stance_in m thread ≡ s → GoesOn m opening these s place → Before (action_place c) place
      go (Ready p) e o =
          let within = slice_get_within (trace m thread) i entry did in
          subst (Before (action_place c)) (sym o)
          (rises_after m law thread (sane m opening these consistent k thread has) i (length (trace m thread)) entry c p did is within (sym (stand_at m thread (length (trace m thread)) (omega arith)) ∙ e) (omega arith))
      go (Asks p q) e o =
          let l = last_step m law thread (Asks p q) e (λ r g. let z : Asks p q ≡ Ready r = g in cc) in
          let r = last_read m thread p q l in
          subst (Before (action_place c)) (sym o) (open_above (Asks p q) l (Read p q) r.0 r.1)
      go (Waits p q d) e o =
          let w : Wants = record { pattern = q; stop = d } in
          let l = last_step m law thread (waiting p w) e (λ r g. let z : Waits p q d ≡ Ready r = g in cc) in
          let r = last_wait m thread p w l in
          subst (Before (action_place c)) (sym o.2)
          (before-trans (action_place c) p (wake o.0 p) (open_above (waiting p w) l (wait_for p w) r.0 r.1) (before-trans p o.0.place (wake o.0 p) o.1.above (before-wake o.0 p)))
      go (Asleep n) e o = absurd o
      go Over e o = absurd o

-- **so the front has passed it**
pub read_passed : (m : ThreadMeaning) (law : IsLawful m) (opening : Opening) (these : List Thread) → IsConsistent m opening these → ((start : Start) (c : List Segment) → m.may start c ≡ true) →
    (thread : Thread) (i : ℕ) (entry : Entry) (place : Place) (pattern : List Segment) (answer : Answer) → Acted m these thread i entry (Read place pattern) → entry.answer ≡ Some answer → Clear m opening these place
read_passed m law opening these consistent all thread i entry place pattern answer acted ans k w b whas on =
    elim (before-cases place b) [
      | inl lt ↦ lt
      | inr (inl e) ↦ absurd (not_there e)
      | inr (inr gt) ↦ absurd (quiet_final m opening these place pattern all (consistent.reads thread i entry place pattern answer acted ans).1 k w b whas on gt)
    ]
  where
    here : (r : Place) × At m thread i r × ((c : Action) → entry.step.action ≡ Some c → action_place c ≡ r)
    here = law.placed thread i entry acted.did

    p_list : place.thread ≡ thread.start.place.thread
    p_list =
        let within = slice_get_within (trace m thread) i entry acted.did in
        ap (λ v. v.thread) (here.2 (Read place pattern) acted.is) ∙ subst (InThread thread.start.place.thread) here.1 (in_thread m law thread i (omega arith))

    not_there : place ≡ b → ⊥
    not_there e =
        let b_list = on_thread m opening these w.start.place.thread (stance_in m w) b (stand_in_thread m law w) on in
        let at : k ≡ acted.at = consistent.apart k acted.at w thread whas acted.has (sym b_list ∙ ap (λ v. v.thread) (sym e) ∙ p_list) in
        let z : Some w ≡ Some thread = sym whas ∙ ap (slice_get these) at ∙ acted.has in
        let same : w ≡ thread = cc z in
        let on' : GoesOn m opening these (stance_in m thread) b = subst (λ v. GoesOn m opening these (stance_in m v) b) same on in
        before-irrefl place (subst (Before place) (sym e) (bound_above m law opening these consistent acted.at i thread entry (Read place pattern) answer acted.has acted.did acted.is ans b on'))
