-- What is early depends on nothing late: the laws of causality, by agreement at times below a limit.
use Rattle.std.proofs.Common.{◌≡◌, ℕ, ◌++◌, ◌≤◌, List, length, Some, refl, sym, ◌∙◌, ap, arith, suc, Bool, subst}
use Rattle.std.specs.Prelude.{slice_get, Contains, ◌↔◌}
use Rattle.std.proofs.lemmas.List.Elements.{Contains-append_left, Contains-append_right}
use Rattle.vt_event.specs.Event.{EventView}
use Rattle.vt_event.specs.declared.place.Place.{Place}
use Rattle.vt_frac.specs.Fraction.{Fraction}
use Rattle.vt_run.specs.Standing.{action_place, Ready}
use Rattle.vt_run.specs.declared.start.Start.{Start}
use Rattle.vt_meaning.specs.Causal.{AgreeBelow, IsWithin, lines_below, living, score, SessionsAgree, StoresWithin, AgreeThere, SessionsAgreeByReach}
use Rattle.vt_meaning.specs.Consistent.{IsConsistent}
use Rattle.vt_meaning.specs.Meaning.{Ending, ending_of, is_event_before}
use Rattle.vt_meaning.specs.Meaning.Ending.{Ends, OverBudget}
use Rattle.vt_meaning.specs.Means.{Means}
use Rattle.vt_meaning.specs.Places.{Earlier, NoLater}
use Rattle.vt_meaning.specs.Theorems.{StoresAgree}
use Rattle.vt_meaning.specs.ThreadLaws.{IsLawful, IsLive, IsSession}
use Rattle.vt_meaning.specs.ThreadMeaning.{ThreadMeaning}
use Rattle.vt_meaning.specs.Traces.{stance_in, standing, stands, Thread, trace}
use Rattle.vt_meaning.specs.World.{events_of, Opening, opening_world, total_of}
use Rattle.vt_meaning.proofs.StepLaws.{acts_lawful, acts_live}
use Rattle.vt_meaning.proofs.EventPlaces.{apart, same_trace_by}
use Rattle.vt_meaning.proofs.FrontAndBounds.{IsApart, unlisted}
use Rattle.vt_meaning.proofs.ScoresInOrder.{events_never, events_onward, ordered_from, living_same}
use Rattle.vt_meaning.proofs.Order.{earlier-no_later, no_later_same}
use Rattle.vt_meaning.proofs.FinishedStores.{means}
use Rattle.vt_meaning.proofs.KeptByTransitions.{opening_consistent}
use Rattle.vt_meaning.proofs.Traces.{At}
use Rattle.vt_meaning.proofs.SharedSessions.{itself, Shares, flip}
use Rattle.vt_meaning.proofs.Agreement.{overlap}
use Rattle.vt_meaning.proofs.Ranks.{all_places, covers, rank}
use Rattle.vt_meaning.proofs.FinishedAgree.{agree, agree_by, begun_by, total_by}
use Rattle.vt_meaning.proofs.BelowHorizon.{within, event_below}
use Rattle.vt_meaning.proofs.FreeThreads.{freely, freely_means, freely_score, freely_living, freely_total, session_freely, within_freely, agree_freely}
use Rattle.vt_meaning.proofs.EarlyEvents.{shares_below, shares_reached, score_below, all_below}
use Rattle.vt_meaning.proofs.TransitionsEnded.{IsRight, ends_right, ends_if}

-- the ending of a session where everything may be written
module _ (m : ThreadMeaning) (opening : Opening) (s : IsSession m opening) where
  free : IsSession (freely m) opening
  free = session_freely m opening s

  law : IsLawful (freely m)
  law = acts_lawful (freely m) free.acts

  live : IsLive (freely m)
  live = acts_live (freely m) free.acts.acts

  meant : Means (freely m) opening (opening_world opening) (ending_of (freely m) opening)
  meant = means (freely m) law live opening free.known free.orderly free.given free.texts

  right : (ws : List Thread) → ending_of m opening ≡ Ends ws → IsRight (freely m) opening ws
  right ws event = ends_right (freely m) law live opening free.known free.orderly (opening_world opening) (ending_of (freely m) opening) (opening_consistent (freely m) live opening free.texts) meant ws (freely_means m opening ∙ event)

  ends : ((those : List Thread) → IsConsistent (freely m) opening those → total_of (freely m) those ≤ opening.budget) → (ws : List Thread) × (ending_of m opening ≡ Ends ws)
  ends few =
      let r = ends_if (freely m) law live opening free.known free.orderly (opening_world opening) (ending_of (freely m) opening) (opening_consistent (freely m) live opening free.texts) meant few in
      (r.0, sym (freely_means m opening) ∙ r.1)

  alone : (ws : List Thread) → IsConsistent (freely m) opening ws → IsApart (freely m) opening ws
  alone ws consistent = apart (freely m) law live opening free.known free.orderly free.given ws consistent

  -- **a score has nothing at or past its horizon**
  pub all_within : IsWithin m opening → (ws : List Thread) → ending_of m opening ≡ Ends ws → (event : EventView) → Contains (score m opening ws) event → Earlier event.place.time m.until
  all_within w ws q event h =
      let h' : Contains (score (freely m) opening ws) event = subst (λ l. Contains l event) (sym (freely_score m opening ws)) h in
      event_below (freely m) law opening (within_freely m opening w) ws (right ws q).consistent event (unlisted (freely m) opening ws event (ordered_from is_event_before events_onward events_never (events_of (freely m) opening ws) event h'))

module _ (t : Fraction) (fit : Start → Bool) (known : EventView → Bool) (m m' : ThreadMeaning) (opening opening' : Opening) (s : IsSession m opening) (s' : IsSession m' opening') (g : AgreeBelow t fit known m m' opening opening') where
  shares : Shares (λ n. Earlier n t) (freely m) (freely m') opening opening'
  shares = shares_below t fit known (freely m) (freely m') opening opening' (agree_freely t fit known m m' opening opening' g) (law m opening s) (law m' opening' s') (λ r q. refl) (λ r q. refl)

  -- **the early events are one**
  pub causal : (ws ws' : List Thread) → ending_of m opening ≡ Ends ws → ending_of m' opening' ≡ Ends ws' → lines_below t (score m opening ws) ≡ lines_below t (score m' opening' ws')
  causal ws ws' e e' =
      let a = right m opening s ws e in
      let b = right m' opening' s' ws' e' in
      ap (lines_below t) (sym (freely_score m opening ws))
      ∙ score_below t (freely m) (freely m') opening opening' shares ws ws' a.consistent b.consistent a.finished b.finished (alone m opening s ws a.consistent) (alone m' opening' s' ws' b.consistent)
      ∙ ap (lines_below t) (freely_score m' opening' ws')

-- threads that never come to the limit cost at most what the world at the end costs, of a session that shares what stands below it
costs_less : (t : Fraction) (m m' : ThreadMeaning) (opening opening' : Opening) (s : IsSession m opening) (s' : IsSession m' opening') → Shares (λ n. Earlier n t) (freely m) (freely m') opening opening' → IsWithin m opening → NoLater m.until t →
    (those : List Thread) → IsConsistent (freely m) opening those → (ws' : List Thread) → IsRight (freely m') opening' ws' → total_of (freely m) those ≤ total_of (freely m') ws'
costs_less t m m' opening opening' s s' shared w le those consistent ws' r =
    total_by (λ n. Earlier n t) (freely m) (freely m') opening opening' shared those ws' consistent r.consistent r.finished
    (λ k i a p has l at. earlier-no_later p.time m.until t (within (freely m) (law m opening s) opening (within_freely m opening w) those consistent k i a p has l at) le)

-- **the horizon may be nearer**
pub nearer : (fit : Start → Bool) (known : EventView → Bool) (m m' : ThreadMeaning) (opening opening' : Opening) (s : IsSession m opening) (s' : IsSession m' opening') → IsWithin m opening → AgreeBelow m.until fit known m m' opening opening' →
    opening'.budget ≤ opening.budget → (ws' : List Thread) → ending_of m' opening' ≡ Ends ws' →
    (ws : List Thread) × (ending_of m opening ≡ Ends ws) × (total_of m ws ≤ total_of m' ws') × (score m opening ws ≡ lines_below m.until (score m' opening' ws'))
nearer fit known m m' opening opening' s s' w g le ws' e' =
    let shared = shares m.until fit known m m' opening opening' s s' g in
    let b = right m' opening' s' ws' e' in
    let few = λ (those : List Thread) (consistent : IsConsistent (freely m) opening those). costs_less m.until m m' opening opening' s s' shared w (no_later_same m.until m.until refl) those consistent ws' b in
    let r = ends m opening s (λ those consistent. let c = few those consistent in let d = b.within in omega (arith, c, d)) in
    let a = right m opening s r.0 r.1 in
    let cost = few r.0 a.consistent in (
      r.0,
      r.1,
      subst (λ n. n ≤ total_of m' ws') (freely_total m r.0) (subst (λ n. total_of (freely m) r.0 ≤ n) (freely_total m' ws') cost),
      sym (all_below m.until (score m opening r.0) (all_within m opening s w r.0 r.1)) ∙ causal m.until fit known m m' opening opening' s s' g r.0 ws' r.1 e',
    )

stand_same : (m m' : ThreadMeaning) (thread twin : Thread) → m.until ≡ m'.until → thread.start ≡ twin.start → trace m thread ≡ trace m' twin → stance_in m thread ≡ stance_in m' twin
unfolding standing
stand_same m m' thread twin u st tr = ap (λ n. stands n (Ready thread.start.place) (trace m thread)) u ∙ ap (λ r. stands m'.until (Ready r.place) (trace m thread)) st ∙ ap (stands m'.until (Ready twin.start.place)) tr

-- of one horizon the worlds at the end leave the same threads alive
lives_same : (m m' : ThreadMeaning) (opening opening' : Opening) (s : IsSession m opening) (s' : IsSession m' opening') → Shares (λ n. Earlier n m.until) (freely m) (freely m') opening opening' → IsWithin m opening → IsWithin m' opening' → m.until ≡ m'.until →
    (ws ws' : List Thread) → IsRight (freely m) opening ws → IsRight (freely m') opening' ws' → living (freely m) ws ≡ living (freely m') ws'
lives_same m m' opening opening' s s' shared w w' u ws ws' a b =
    living_same (freely m) (freely m') ws ws' a.consistent.apart b.consistent.apart
    (λ k thread has.
    let c = begun_by (λ n. Earlier n m.until) (freely m) (freely m') opening opening' shared ws ws' a.consistent b.consistent b.finished all k thread has in
    let e = same_trace_by (λ n. Earlier n m.until) (freely m) (freely m') opening opening' shared ws ws' a.consistent b.consistent a.finished b.finished all all' k c.at thread c.thread has c.has (sym c.start) in
    (c.at, c.thread, c.has, ap (λ r. r.place.thread) (sym c.start), stand_same (freely m) (freely m') thread c.thread u (sym c.start) e))
    (λ l v has.
    let c = begun_by (λ n. Earlier n m.until) (freely m') (freely m) opening' opening back ws' ws b.consistent a.consistent a.finished all' l v has in
    let e = same_trace_by (λ n. Earlier n m.until) (freely m') (freely m) opening' opening back ws' ws b.consistent a.consistent b.finished a.finished all' all l c.at v c.thread has c.has (sym c.start) in
    (c.at, c.thread, c.has, ap (λ r. r.place.thread) (sym c.start), stand_same (freely m') (freely m) v c.thread (sym u) (sym c.start) e))
  where
    back : Shares (λ n. Earlier n m.until) (freely m') (freely m) opening' opening
    back = flip (λ n. Earlier n m.until) (freely m) (freely m') opening opening' shared

    all : (k i : ℕ) (thread : Thread) (place : Place) → slice_get ws k ≡ Some thread → i ≤ length (trace (freely m) thread) → At (freely m) thread i place → Earlier place.time m.until
    all k i thread place has le at = within (freely m) (law m opening s) opening (within_freely m opening w) ws a.consistent k i thread place has le at

    all' : (k i : ℕ) (thread : Thread) (place : Place) → slice_get ws' k ≡ Some thread → i ≤ length (trace (freely m') thread) → At (freely m') thread i place → Earlier place.time m.until
    all' k i thread place has le at = subst (λ n. Earlier place.time n) (sym u) (within (freely m') (law m' opening' s') opening' (within_freely m' opening' w') ws' b.consistent k i thread place has le at)

spent_not : (o : Ending) (ws : List Thread) → o ≡ OverBudget → o ≡ Ends ws → ⊥
spent_not o ws a b = let z : OverBudget ≡ Ends ws = sym a ∙ b in cc

spent_if : (o o' : Ending) → ((ws : List Thread) → o ≡ Ends ws → (ws' : List Thread) × (o' ≡ Ends ws')) → o' ≡ OverBudget → o ≡ OverBudget
spent_if OverBudget o' f e = refl
spent_if (Ends ws) o' f e = let r = f ws refl in absurd (spent_not o' r.0 e r.1)

-- **what begins too late has no part**
pub left_out : (fit : Start → Bool) (known : EventView → Bool) (m m' : ThreadMeaning) (opening opening' : Opening) (s : IsSession m opening) (s' : IsSession m' opening') → IsWithin m opening → IsWithin m' opening' → m.until ≡ m'.until →
    AgreeBelow m.until fit known m m' opening opening' → opening.budget ≡ opening'.budget →
    ((ending_of m opening ≡ OverBudget) ↔ (ending_of m' opening' ≡ OverBudget))
    × ((ws ws' : List Thread) → ending_of m opening ≡ Ends ws → ending_of m' opening' ≡ Ends ws' → (score m opening ws ≡ score m' opening' ws') × (living m ws ≡ living m' ws'))
left_out fit known m m' opening opening' s s' w w' u g bud = (
  (spent_if (ending_of m' opening') (ending_of m opening) (λ ws' e'. let r = nearer fit known m m' opening opening' s s' w g (omega (arith, bud)) ws' e' in (r.0, r.1)), spent_if (ending_of m opening) (ending_of m' opening') back),
  λ ws ws' e e'. (
    sym (all_below m.until (score m opening ws) (all_within m opening s w ws e)) ∙ causal m.until fit known m m' opening opening' s s' g ws ws' e e'
        ∙ all_below m.until (score m' opening' ws') (λ f h. subst (λ n. Earlier f.place.time n) (sym u) (all_within m' opening' s' w' ws' e' f h)),
    sym (freely_living m ws)
        ∙ lives_same m m' opening opening' s s' (shares m.until fit known m m' opening opening' s s' g) w w' u ws ws' (right m opening s ws e) (right m' opening' s' ws' e')
        ∙ freely_living m' ws',
  ),
)
  where
    back : (ws : List Thread) → ending_of m opening ≡ Ends ws → (ws' : List Thread) × (ending_of m' opening' ≡ Ends ws')
    back ws e =
        let shared = flip (λ n. Earlier n m.until) (freely m) (freely m') opening opening' (shares m.until fit known m m' opening opening' s s' g) in
        let a = right m opening s ws e in
        ends m' opening' s'
        (λ those consistent. let c = costs_less m.until m' m opening' opening s' s shared w' (no_later_same m'.until m.until (sym u)) those consistent ws a in let d = a.within in omega (arith, c, d, bud))

-- two stores of sessions that share what stands below a time agree there
agree_there : (t : Fraction) (m m' : ThreadMeaning) (opening opening' : Opening) → Shares (λ n. Earlier n t) m m' opening opening' → (these those : List Thread) → IsConsistent m opening these → IsConsistent m' opening' those → AgreeThere t m m' opening' these those
agree_there t m m' opening opening' shared these those these_hold those_hold = (
  λ k l i a b p r ah bh st la lb pa rb lt.
      overlap (λ n. Earlier n t) places (suc (rank places p)) m m' opening opening' shared these those these_hold those_hold
      (λ c j y d h. Contains-append_left (all_places m these) (all_places m' those) (action_place d) (covers m these c j y d h))
      (λ c j y d h. Contains-append_right (all_places m these) (all_places m' those) (action_place d) (covers m' those c j y d h))
      k l i a b p r ah bh st la lb pa rb lt (omega arith),
  λ k i a x p ah xd pa lt clear.
      let d = agree_by (λ n. Earlier n t) m m' opening opening' shared these those these_hold those_hold k i a x p ah xd pa lt clear in
      (d.at, d.thread, d.entry, d.has, d.start, d.before, d.did, d.step),
)
  where
    places : List Place
    places = all_places m these ++ all_places m' those

-- **where everything may be written**
pub sessions_agree : SessionsAgree
sessions_agree t fit known m m' opening opening' s s' g all all' these those these_hold those_hold =
    agree_there t m m' opening opening' (shares_below t fit known m m' opening opening' g (acts_lawful m s.acts) (acts_lawful m' s'.acts) all all') these those these_hold those_hold

-- **and by reach**
pub sessions_agree_by_reach : SessionsAgreeByReach
sessions_agree_by_reach t fit known m m' opening opening' s s' g g' may may' these those these_hold those_hold =
    agree_there t m m' opening opening' (shares_reached t fit known m m' opening opening' g g' may may' (acts_lawful m s.acts) (acts_lawful m' s'.acts)) these those these_hold those_hold

-- **two stores of one session agree**
pub stores_agree : StoresAgree
stores_agree m opening s these those these_hold those_hold = (
  λ k l i a b p r ah bh st la lb pa rb.
      overlap (λ n. Unit {0}) places (suc (rank places p)) m m opening opening shared these those these_hold those_hold
      (λ c j y d h. Contains-append_left (all_places m these) (all_places m those) (action_place d) (covers m these c j y d h))
      (λ c j y d h. Contains-append_right (all_places m these) (all_places m those) (action_place d) (covers m those c j y d h))
      k l i a b p r ah bh st la lb pa rb tt (omega arith),
  λ k i a x p ah xd pa clear.
      let d = agree m (acts_lawful m s.acts) opening s.known these those these_hold those_hold k i a x p ah xd pa clear in
      record { at = d.at; twin = d.thread; done = d.entry; has = d.has; start = d.start; before = d.before; did = d.did; same = d.step },
)
  where
    shared : Shares (λ n. Unit {0}) m m opening opening
    shared = itself m (acts_lawful m s.acts) opening s.known

    places : List Place
    places = all_places m these ++ all_places m those

-- **no store has anything at or past the horizon**
pub stores_within : StoresWithin
stores_within m opening s w these consistent = (
  λ e h. event_below m (acts_lawful m s.acts) opening w these consistent e h,
  λ k i t p has le at. within m (acts_lawful m s.acts) opening w these consistent k i t p has le at,
)
