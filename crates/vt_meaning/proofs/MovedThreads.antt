-- One thread is replaced by itself with more done, and behind the others a thread may be added: what that does to a consistent set.
use Rattle.std.proofs.Common.{◌≡◌, ℕ, ◌+◌, List, [], length, refl, sym, ◌∙◌, ap, inl, inr, ◌⊎◌, arith, true, zero, suc, subst, Option, Some, None}
use Rattle.std.specs.Prelude.{slice_get, Contains, slice_set, count_by}
use Rattle.vt_event.specs.Event.{EventView}
use Rattle.vt_event.specs.declared.place.Place.{Place}
use Rattle.vt_run.specs.Standing.{action_place, Asks, Asleep, Over, Ready, Stance, Waits}
use Rattle.vt_run.specs.declared.action.Action.{Action}
use Rattle.vt_run.specs.declared.action.Action.TheVariants.{Emit, End, Read, Rest, Spawn, Wait}
use Rattle.vt_run.specs.declared.action.Answer.{Answer}
use Rattle.vt_run.specs.declared.start.Start.{Start}
use Rattle.vt_meaning.specs.Bounds.{StandsBelow}
use Rattle.vt_meaning.specs.Consistent.{has_answer, IsConsistent, IsExact}
use Rattle.vt_meaning.specs.Happenings.{Acted, Begun, Happened, Spawned}
use Rattle.vt_meaning.specs.NextPlaces.{GoesOn}
use Rattle.vt_meaning.specs.Places.{Before, Upto}
use Rattle.vt_meaning.specs.Reach.{IsKnown}
use Rattle.vt_meaning.specs.ThreadLaws.{IsLawful}
use Rattle.vt_meaning.specs.ThreadMeaning.{ThreadMeaning}
use Rattle.vt_meaning.specs.Traces.{Entry, stance_in, standing, Thread, trace, wake}
use Rattle.vt_meaning.specs.World.{begun, moved_on, Opening, started_by}
use Rattle.vt_meaning.proofs.Order.{before-wake, before-trans, upto-before, upto-trans, before_upto}
use Rattle.vt_meaning.proofs.Traces.{at_nothing}
use Rattle.vt_meaning.proofs.StoreSteps.{Kept, Bound, IsRight, IsMoved, Allowed, IsNext, Answers}
use Rattle.vt_meaning.proofs.Lists.{get-append_cases, get-append_left, get-append_right, get-set_other, get-set_same, length-slice_set, none_some}

pub split : (a b : ℕ) → (a ≡ b) ⊎ (a ≡ b → ⊥)
split zero zero = inl refl
split zero (suc b) = inr (λ e. omega arith)
split (suc a) zero = inr (λ e. omega arith)
split (suc a) (suc b) = elim (split a b) [ inl e ↦ inl (ap suc e) | inr ne ↦ inr (λ e. ne (omega arith)) ]

-- what it is for thread to go on as t', with an action that may be a Spawn
pub record GoesOver (m : ThreadMeaning) (opening : Opening) (these those : List Thread) (thread t' : Thread) (act : Option Action) (place : Place) : Type 0 where
  pub start : t'.start ≡ thread.start
  pub exact : IsExact m t'
  pub bound : GoesOn m opening these (stance_in m thread) place
  pub on : (j : ℕ) (entry : Entry) (a : Action) → slice_get (trace m thread) j ≡ Some entry → entry.step.action ≡ Some a →
      (other : Entry) × (slice_get (trace m t') j ≡ Some other) × (other.step.action ≡ Some a)
  pub back : (j : ℕ) (other : Entry) (a : Action) → slice_get (trace m t') j ≡ Some other → other.step.action ≡ Some a →
      ((entry : Entry) × (slice_get (trace m thread) j ≡ Some entry) × (entry.step.action ≡ Some a)) ⊎ (Upto place (action_place a) × (act ≡ Some a))
  pub acts : (a : Action) → act ≡ Some a → (j : ℕ) × (other : Entry) × (slice_get (trace m t') j ≡ Some other) × (other.step.action ≡ Some a) × Upto place (action_place a)
  pub child : (r : Place) (s : Start) → act ≡ Some (Spawn r s) → (trace m (begun s) ≡ []) × Before r s.place
  pub alone : (r : Place) (s : Start) → act ≡ Some (Spawn r s) → (k : ℕ) (twin : Thread) → slice_get these k ≡ Some twin → twin.start.place.thread ≡ s.place.thread → ⊥
  pub fronts : (b : Place) → GoesOn m opening those (stance_in m t') b → Upto place b
  pub above : (r : Place) → StandsBelow (stance_in m t') r → Before place r
  pub within : (a : Action) → act ≡ Some a → Allowed m thread.start a

-- the later thread was told nothing wrong that the earlier one was not told
abbrev pub AnswersRight : ThreadMeaning → Opening → List Thread → Thread → Thread → Type 0
AnswersRight m opening those t t' =
    (j : ℕ) (entry : Entry) (a : Action) (answer : Answer) → slice_get (trace m t') j ≡ Some entry → entry.step.action ≡ Some a → entry.answer ≡ Some answer →
    ((other : Entry) × (slice_get (trace m t) j ≡ Some other) × (other.step.action ≡ Some a) × (other.answer ≡ Some answer)) ⊎ IsRight m opening those a answer

pub exact_fresh : (m : ThreadMeaning) (start : Start) → trace m (begun start) ≡ [] → IsExact m (begun start)
exact_fresh m start e = record { done = ap length e; used = sym (ap (count_by has_answer) e) }

stand_fresh : (m : ThreadMeaning) (start : Start) → trace m (begun start) ≡ [] → stance_in m (begun start) ≡ Ready start.place
stand_fresh m start e = ap (standing m start) e ∙ at_nothing m start

pub child_of : (act : Option Action) (j : ℕ) (thread : Thread) → slice_get (started_by act) j ≡ Some thread → (place : Place) × (start : Start) × (act ≡ Some (Spawn place start)) × (thread ≡ begun start) × (j ≡ 0)
child_of None j thread h = absurd (none_some h)
child_of (Some (Emit e)) j thread h = absurd (none_some h)
child_of (Some (Rest _ _)) j thread h = absurd (none_some h)
child_of (Some (Read _ _)) j thread h = absurd (none_some h)
child_of (Some (Wait _ _ _)) j thread h = absurd (none_some h)
child_of (Some (End _ _)) j thread h = absurd (none_some h)
child_of (Some (Spawn place start)) zero thread h = (place, start, refl, (let e : begun start ≡ thread = cc in sym e), refl)
child_of (Some (Spawn place start)) (suc j) thread h = absurd (none_some h)

module _ (m : ThreadMeaning) (law : IsLawful m) (opening : Opening) (knowns : IsKnown m opening) (these : List Thread) (consistent : IsConsistent m opening these) (i : ℕ) (thread t' : Thread) (act : Option Action) (place : Place)
    (has : slice_get these i ≡ Some thread) (g : GoesOver m opening these (moved_on these i t' act) thread t' act place) where
  abbrev pub those : List Thread
  those = moved_on these i t' act

  here : slice_get those i ≡ Some t'
  here = get-append_left (slice_set these i t') (started_by act) i t' (get-set_same these i thread t' has)

  other : (k : ℕ) (twin : Thread) → (k ≡ i → ⊥) → slice_get these k ≡ Some twin → slice_get those k ≡ Some twin
  other k twin ne h = get-append_left (slice_set these i t') (started_by act) k twin (get-set_other these i k t' ne ∙ h)

  unfoldable Child : ℕ → Thread → Type 0
  Child k twin = (r : Place) × (s : Start) × (act ≡ Some (Spawn r s)) × (twin ≡ begun s) × (k ≡ length these)

  -- the threads of those
  cases : (k : ℕ) (twin : Thread) → slice_get those k ≡ Some twin → ((k ≡ i) × (twin ≡ t')) ⊎ (((k ≡ i → ⊥) × (slice_get these k ≡ Some twin)) ⊎ Child k twin)
  unfolding Child
  cases k twin h =
      elim (get-append_cases (slice_set these i t') (started_by act) k twin h) [
        | inl l ↦ decide k twin l
        | inr r ↦
            (let c = child_of act r.0 twin r.2 in
            let e = r.1 in
            let z = c.4 in
            let n = length-slice_set these i t' in
            inr (inr (c.0, c.1, c.2, c.3, omega arith)))
      ]
    where
      decide : (k : ℕ) (twin : Thread) → slice_get (slice_set these i t') k ≡ Some twin → ((k ≡ i) × (twin ≡ t')) ⊎ (((k ≡ i → ⊥) × (slice_get these k ≡ Some twin)) ⊎ Child k twin)
      decide k twin l =
          elim (split k i) [
            | inl e ↦
                (let a : slice_get (slice_set these i t') k ≡ Some t' = rw e (get-set_same these i thread t' has) in
                inl (e, (let z : Some twin ≡ Some t' = sym l ∙ a in cc)))
            | inr ne ↦ inr (inl (ne, sym (get-set_other these i k t' ne) ∙ l))
          ]

  same_old : (twin : Thread) → slice_get these i ≡ Some twin → twin ≡ thread
  same_old twin h = let z : Some twin ≡ Some thread = sym h ∙ has in cc

  next_on : (twin : Thread) (j : ℕ) (entry : Entry) (a : Action) → Acted m these twin j entry a → Kept m those twin j a
  next_on twin j entry a acted =
      elim (split acted.at i) [
        | inl e ↦
            (let old : twin ≡ thread = same_old twin (subst (λ n. slice_get these n ≡ Some twin) e acted.has) in
            let y = g.on j entry a (subst (λ another. slice_get (trace m another) j ≡ Some entry) old acted.did) acted.is in
            record {
              thread = t';
              entry = y.0;
              acted = record { at = i; has = here; did = y.1; is = y.2 };
              start = g.start ∙ ap (λ another. another.start) (sym old);
            })
        | inr ne ↦
            record {
              thread = twin;
              entry = entry;
              acted = record { at = acted.at; has = other acted.at twin ne acted.has; did = acted.did; is = acted.is };
              start = refl;
            }
      ]

  no_child : (j : ℕ) (entry : Entry) (k : ℕ) (twin : Thread) → Child k twin → slice_get (trace m twin) j ≡ Some entry → ⊥
  unfolding Child
  no_child j entry k twin c did =
      let e : trace m twin ≡ [] = ap (trace m) c.3 ∙ (g.child c.0 c.1 c.2).0 in
      let z : slice_get [] j ≡ Some entry = subst (λ l. slice_get l j ≡ Some entry) e did in
      none_some z

  -- what was done in those: by t', by another of these, or it is new
  pub was : (twin : Thread) (j : ℕ) (entry : Entry) (a : Action) → Acted m those twin j entry a → Kept m these twin j a ⊎ (Upto place (action_place a) × (act ≡ Some a))
  was twin j entry a acted =
      elim (cases acted.at twin acted.has) [
        | inl c ↦
            (elim (g.back j entry a (subst (λ another. slice_get (trace m another) j ≡ Some entry) c.1 acted.did) acted.is) [
              | inl o ↦
                  inl
                  (record {
                    thread = thread;
                    entry = o.0;
                    acted = record { at = i; has = has; did = o.1; is = o.2 };
                    start = sym g.start ∙ ap (λ another. another.start) (sym c.1);
                  })
              | inr new ↦ inr new
            ])
        | inr (inl c) ↦
            inl (record { thread = twin; entry = entry; acted = record { at = acted.at; has = c.1; did = acted.did; is = acted.is }; start = refl })
        | inr (inr c) ↦ absurd (no_child j entry acted.at twin c acted.did)
      ]

  next_back : (twin : Thread) (j : ℕ) (entry : Entry) (a : Action) → Acted m those twin j entry a → Kept m these twin j a ⊎ (Upto place (action_place a) × Allowed m thread.start a)
  next_back twin j entry a acted = elim (was twin j entry a acted) [ inl k ↦ inl k | inr new ↦ inr (new.0, g.within a new.1) ]

  event_back : (e : EventView) → Happened m opening those e → Happened m opening these e ⊎ Upto place e.place
  event_back e (inl h) = inl (inl h)
  event_back e (inr em) =
      elim (next_back em.thread em.i em.entry (Emit e) em.acted) [
        | inl k ↦ inl (inr (record { thread = k.thread; i = em.i; entry = k.entry; acted = k.acted }))
        | inr up ↦ inr up.0
      ]

  event_on : (e : EventView) → Happened m opening these e → Happened m opening those e
  event_on e (inl h) = inl h
  event_on e (inr em) =
      let k = next_on em.thread em.i em.entry (Emit e) em.acted in
      inr (record { thread = k.thread; i = em.i; entry = k.entry; acted = k.acted })

  next_fronts : (k : ℕ) (twin : Thread) (b : Place) → slice_get those k ≡ Some twin → GoesOn m opening those (stance_in m twin) b → Bound m opening these b ⊎ Upto place b
  unfolding Child
  next_fronts k twin b whas on =
      elim (cases k twin whas) [
        | inl c ↦ inr (g.fronts b (subst (λ another. GoesOn m opening those (stance_in m another) b) c.1 on))
        | inr (inl c) ↦ still (stance_in m twin) refl on c.1
        | inr (inr c) ↦
            (let new = g.child c.0 c.1 c.2 in
            let e : stance_in m twin ≡ Ready c.1.place = ap (stance_in m) c.3 ∙ stand_fresh m c.1 new.0 in
            let z : b ≡ c.1.place = subst (λ s. GoesOn m opening those s b) e on in
            let y = g.acts (Spawn c.0 c.1) c.2 in
            inr (subst (Upto place) (sym z) (upto-trans place c.0 c.1.place y.4 (before_upto c.0 c.1.place new.1))))
      ]
    where
      still : (s : Stance) → stance_in m twin ≡ s → GoesOn m opening those s b → slice_get these k ≡ Some twin → Bound m opening these b ⊎ Upto place b
      still (Ready r) e o h = inl (record { at = k; thread = twin; has = h; on = subst (λ s. GoesOn m opening these s b) (sym e) o })
      still (Asks r q) e o h = inl (record { at = k; thread = twin; has = h; on = subst (λ s. GoesOn m opening these s b) (sym e) o })
      still (Waits r q c) e o h =
          elim (event_back o.0 o.1.happened) [
            | inl old ↦
                inl
                (record {
                  at = k;
                  thread = twin;
                  has = h;
                  on =
                      subst (λ s. GoesOn m opening these s b) (sym e)
                      (o.0, record { happened = old; matches = o.1.matches; above = o.1.above }, o.2);
                })
            | inr up ↦ inr (subst (Upto place) (sym o.2) (upto-trans place o.0.place (wake o.0 r) up (before_upto o.0.place (wake o.0 r) (before-wake o.0 r))))
          ]
      still (Asleep n) e o h = absurd o
      still Over e o h = absurd o

  next_threads : (k : ℕ) (twin : Thread) → slice_get those k ≡ Some twin → (slice_get these k ≡ Some twin) ⊎ IsMoved m place thread.start twin
  unfolding Child
  next_threads k twin whas =
      elim (cases k twin whas) [
        | inl c ↦
            inr
            (record {
              may = λ q h. subst (λ s. m.may s q ≡ true) (ap (λ another. another.start) c.1 ∙ g.start) h;
              above = λ r b. g.above r (subst (λ another. StandsBelow (stance_in m another) r) c.1 b);
            })
        | inr (inl c) ↦ inl c.1
        | inr (inr c) ↦
            (let new = g.child c.0 c.1 c.2 in
            let e : stance_in m twin ≡ Ready c.1.place = ap (stance_in m) c.3 ∙ stand_fresh m c.1 new.0 in
            let y = g.acts (Spawn c.0 c.1) c.2 in
            inr
            (record {
              may = λ q h. g.within (Spawn c.0 c.1) c.2 q (subst (λ s. m.may s q ≡ true) (ap (λ another. another.start) c.3) h);
              above =
                  λ r b.
                  upto-before place c.0 r y.4
                  (before-trans c.0 c.1.place r new.1 (let z : StandsBelow (Ready c.1.place) r = subst (λ s. StandsBelow s r) e b in z));
            }))
      ]

  next_begun : (s : Start) → Begun these s → Begun those s
  next_begun s b =
      elim (split b.at i) [
        | inl e ↦
            (let old : b.thread ≡ thread = same_old b.thread (subst (λ n. slice_get these n ≡ Some b.thread) e b.has) in
            record { at = i; thread = t'; has = here; start = g.start ∙ ap (λ another. another.start) (sym old) ∙ b.start })
        | inr ne ↦ record { at = b.at; thread = b.thread; has = other b.at b.thread ne b.has; start = b.start }
      ]

  next_started : (s : Start) → Spawned m those s → Spawned m these s ⊎ Begun those s
  next_started s h =
      elim (was h.thread h.i h.entry (Spawn h.place s) h.acted) [
        | inl k ↦ inl (record { thread = k.thread; i = h.i; entry = k.entry; place = h.place; acted = k.acted })
        | inr new ↦
            (let one : slice_get (started_by (Some (Spawn h.place s))) 0 ≡ Some (begun s) = refl in
            let two : slice_get (started_by act) 0 ≡ Some (begun s) = subst (λ o. slice_get (started_by o) 0 ≡ Some (begun s)) (sym new.1) one in
            inr (record { at = length (slice_set these i t') + 0; thread = begun s; has = get-append_right (slice_set these i t') (started_by act) 0 (begun s) two; start = refl }))
      ]

  spawned_on : (s : Start) → Spawned m these s → Spawned m those s
  spawned_on s h =
      let k = next_on h.thread h.i h.entry (Spawn h.place s) h.acted in
      record { thread = k.thread; i = h.i; entry = k.entry; place = h.place; acted = k.acted }

  root_on : (s : Start) → Contains opening.starts s ⊎ Spawned m these s → Contains opening.starts s ⊎ Spawned m those s
  root_on s (inl o) = inl o
  root_on s (inr h) = inr (spawned_on s h)

  next_roots : (k : ℕ) (twin : Thread) → slice_get those k ≡ Some twin → Contains opening.starts twin.start ⊎ Spawned m those twin.start
  unfolding Child
  next_roots k twin whas =
      elim (cases k twin whas) [
        | inl c ↦
            (let e : thread.start ≡ twin.start = sym g.start ∙ ap (λ another. another.start) (sym c.1) in
            subst (λ s. Contains opening.starts s ⊎ Spawned m those s) e (root_on thread.start (consistent.rooted i thread has)))
        | inr (inl c) ↦ root_on twin.start (consistent.rooted k twin c.1)
        | inr (inr c) ↦
            (let y = g.acts (Spawn c.0 c.1) c.2 in
            let e : c.1 ≡ twin.start = ap (λ another. another.start) (sym c.3) in
            inr
            (subst (Spawned m those) e
            (record { thread = t'; i = y.0; entry = y.1; place = c.0; acted = record { at = i; has = here; did = y.2; is = y.3 } })))
      ]

  -- where twin stands in these, if it is no child
  in_ts : (k : ℕ) (twin : Thread) → slice_get those k ≡ Some twin → ((another : Thread) × (slice_get these k ≡ Some another) × (twin.start ≡ another.start)) ⊎ Child k twin
  in_ts k twin whas =
      elim (cases k twin whas) [
        | inl c ↦ inl (thread, subst (λ n. slice_get these n ≡ Some thread) (sym c.0) has, ap (λ another. another.start) c.1 ∙ g.start)
        | inr (inl c) ↦ inl (twin, c.1, refl)
        | inr (inr c) ↦ inr c
      ]

  next_apart : (k l : ℕ) (twin another : Thread) → slice_get those k ≡ Some twin → slice_get those l ≡ Some another → twin.start.place.thread ≡ another.start.place.thread → k ≡ l
  unfolding Child
  next_apart k l twin another whas vhas same =
      elim (in_ts k twin whas) [
        | inl a ↦
            (elim (in_ts l another vhas) [
              | inl b ↦ consistent.apart k l a.0 b.0 a.1 b.1 (ap (λ s. s.place.thread) (sym a.2) ∙ same ∙ ap (λ s. s.place.thread) b.2)
              | inr c ↦
                  absurd
                  (g.alone c.0 c.1 c.2 k a.0 a.1 (ap (λ s. s.place.thread) (sym a.2) ∙ same ∙ ap (λ u. u.start.place.thread) c.3))
            ])
        | inr c ↦
            (elim (in_ts l another vhas) [
              | inl b ↦
                  absurd
                  (g.alone c.0 c.1 c.2 l b.0 b.1 (ap (λ s. s.place.thread) (sym b.2) ∙ sym same ∙ ap (λ u. u.start.place.thread) c.3))
              | inr d ↦ c.4 ∙ sym d.4
            ])
      ]

  next_exact : (k : ℕ) (twin : Thread) → slice_get those k ≡ Some twin → IsExact m twin
  unfolding Child
  next_exact k twin whas =
      elim (cases k twin whas) [
        | inl c ↦ subst (IsExact m) (sym c.1) g.exact
        | inr (inl c) ↦ consistent.exact k twin c.1
        | inr (inr c) ↦ subst (IsExact m) (sym c.3) (exact_fresh m c.1 (g.child c.0 c.1 c.2).0)
      ]

  pub next_answers : AnswersRight m opening those thread t' → Answers m opening these those
  next_answers right twin j entry a b acted ans =
      elim (cases acted.at twin acted.has) [
        | inl c ↦
            (elim (right j entry a b (subst (λ another. slice_get (trace m another) j ≡ Some entry) c.1 acted.did) acted.is ans) [
              | inl o ↦ inl (thread, o.0, record { at = i; has = has; did = o.1; is = o.2 }, o.3)
              | inr r ↦ inr r
            ])
        | inr (inl c) ↦ inl (twin, entry, record { at = acted.at; has = c.1; did = acted.did; is = acted.is }, ans)
        | inr (inr c) ↦ absurd (no_child j entry acted.at twin c acted.did)
      ]

  pub next : IsNext m opening these those place
  next =
      record {
        bound = record { at = i; thread = thread; has = has; on = g.bound };
        on = next_on;
        back = next_back;
        fronts = next_fronts;
        threads = next_threads;
        begun = next_begun;
        started = next_started;
        roots = next_roots;
        apart = next_apart;
        exact = next_exact;
      }
