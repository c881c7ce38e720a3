-- The events below a time, of two sessions that agree below it; everything may be written here.
use Rattle.std.proofs.Common.{◌≡◌, ℕ, List, [], ◌∷◌, ◌++◌, refl, sym, ◌∙◌, ap, inl, inr, arith, Bool, true, false, subst}
use Rattle.std.specs.Prelude.{Contains, cond, Some, slice_get}
use Rattle.std.proofs.lemmas.Option.{slice_get_within}
use Rattle.vt_event.specs.Event.{EventView}
use Rattle.vt_frac.specs.Fraction.{Fraction}
use Rattle.vt_path.specs.declared.pattern.Segment.{Segment}
use Rattle.vt_run.specs.declared.action.Action.TheVariants.{Emit, Spawn}
use Rattle.vt_run.specs.declared.start.Start.{Start}
use Rattle.vt_run.specs.declared.action.Action.{Action}
use Rattle.vt_run.specs.Standing.{action_place}
use Rattle.vt_event.specs.declared.place.Place.{Place}
use Rattle.vt_meaning.specs.Reach.{IsFedBy}
use Rattle.vt_meaning.specs.Causal.{AgreeBelow, lines_below, score, MayToo}
use Rattle.vt_meaning.specs.Consistent.{IsConsistent}
use Rattle.vt_meaning.specs.Disturbers.{sift}
use Rattle.vt_meaning.specs.Happenings.{Happened}
use Rattle.vt_meaning.specs.Meaning.{in_order, is_event_before}
use Rattle.vt_meaning.specs.NextPlaces.{IsFinished}
use Rattle.vt_meaning.specs.Places.{Earlier, is_earlier, NoLater}
use Rattle.vt_meaning.specs.ThreadLaws.{IsLawful}
use Rattle.vt_meaning.specs.ThreadMeaning.{ThreadMeaning}
use Rattle.vt_meaning.specs.Traces.{Thread, trace, Entry}
use Rattle.vt_meaning.specs.World.{events_of, Opening}
use Rattle.vt_meaning.proofs.Order.{upto_time, before_upto, true-is_before, earlier-cases, earlier-irrefl, earlier-no_later, earlier_no_later, is_earlier-true, no_later-earlier, no_later-trans, no_later_same, true-is_earlier}
use Rattle.vt_meaning.proofs.Ranks.{acted_at}
use Rattle.vt_meaning.proofs.FedThreads.{fed_by}
use Rattle.vt_meaning.proofs.SharedSessions.{Shares, flip}
use Rattle.vt_meaning.proofs.Agreement.{did_act}
use Rattle.vt_meaning.proofs.FinishedAgree.{agree_by}
use Rattle.vt_meaning.proofs.FrontAndBounds.{IsApart, listed, unlisted, contains_cons, contains_here, contains_there}
use Rattle.vt_meaning.proofs.ScoresInOrder.{events_never, events_onward, same_place, Rises, rising_same, ordered_rises, ordered_from, ordered_has}
use Rattle.vt_meaning.proofs.ListedDisturbers.{sift_from, sift_has}

pub shares_below : (t : Fraction) (fit : Start → Bool) (known : EventView → Bool) (m m' : ThreadMeaning) (opening opening' : Opening) → AgreeBelow t fit known m m' opening opening' → IsLawful m → IsLawful m' →
    ((start : Start) (pattern : List Segment) → m.may start pattern ≡ true) → ((start : Start) (pattern : List Segment) → m'.may start pattern ≡ true) → Shares (λ n. Earlier n t) m m' opening opening'
shares_below t fit known m m' opening opening' g law law' all all' =
    record {
      law = law;
      law_back = law';
      earlier = λ n k le lt. no_later-earlier n k t le lt;
      horizon = g.horizon;
      starts = λ start lt. (g.starts start lt).0;
      starts_back = λ start lt. (g.starts start lt).1;
      given = λ e lt. (g.given e lt).0;
      given_back = λ e lt. (g.given e lt).1;
      same =
          λ these those these_hold those_hold k l i a b x y p r ah bh st al xd yd pa ra ps rs.
          let w = slice_get_within (trace m a) i x xd in
          let f = fed_by (λ n. Earlier n t) (λ n h le lt. no_later-earlier n h t le lt) fit known m law opening (λ start lt h. g.early start lt h) (λ e lt h. g.heard e lt h) (λ b j z e pattern f d is lt matched. g.knows b j z e pattern f d is lt matched) (λ b j z c start f d is lt. g.breeds b j z c start f d is lt) these these_hold k i a p ah (omega (arith, w)) pa ps in
          g.same a b i x y p st f al xd yd pa ps;
      writes = λ those those_hold l i b x f pattern bh d is lt matched. all b.start pattern;
      passes = λ those those_hold l i b x p start pattern bh d is lt may. all b.start pattern;
      writes_back = λ those those_hold l i b x f pattern bh d is lt matched. all' b.start pattern;
      passes_back = λ those those_hold l i b x p start pattern bh d is lt may. all' b.start pattern;
    }

-- a thread that acts at such a time was told what stands below it
fed_acting : (t : Fraction) (fit : Start → Bool) (known : EventView → Bool) (m m' : ThreadMeaning) (opening opening' : Opening) → AgreeBelow t fit known m m' opening opening' → IsLawful m → (these : List Thread) → IsConsistent m opening these →
    (k i : ℕ) (thread : Thread) (entry : Entry) (action : Action) → slice_get these k ≡ Some thread → slice_get (trace m thread) i ≡ Some entry → entry.step.action ≡ Some action → Earlier (action_place action).time t → IsFedBy fit known m thread i
fed_acting t fit known m m' opening opening' g law these hold k i thread entry action has did is lt =
    let here = law.placed thread i entry did in
    let w = slice_get_within (trace m thread) i entry did in
    let soon : Earlier here.0.time t = subst (λ (p : Place). Earlier p.time t) (here.2 action is) lt in
    fed_by (λ n. Earlier n t) (λ n h le lt. no_later-earlier n h t le lt) fit known m law opening (λ start lt h. g.early start lt h) (λ e lt h. g.heard e lt h) (λ b j z e pattern f d is lt matched. g.knows b j z e pattern f d is lt matched) (λ b j z c start f d is lt. g.breeds b j z c start f d is lt) these hold k i thread here.0 has (omega (arith, w)) here.1 soon

pub shares_reached : (t : Fraction) (fit : Start → Bool) (known : EventView → Bool) (m m' : ThreadMeaning) (opening opening' : Opening) → AgreeBelow t fit known m m' opening opening' → AgreeBelow t fit known m' m opening' opening → MayToo t fit known m m' → MayToo t fit known m' m →
    IsLawful m → IsLawful m' → Shares (λ n. Earlier n t) m m' opening opening'
shares_reached t fit known m m' opening opening' g g' may may' law law' =
    record {
      law = law;
      law_back = law';
      earlier = λ n k le lt. no_later-earlier n k t le lt;
      horizon = g.horizon;
      starts = λ start lt. (g.starts start lt).0;
      starts_back = λ start lt. (g.starts start lt).1;
      given = λ e lt. (g.given e lt).0;
      given_back = λ e lt. (g.given e lt).1;
      same =
          λ these those these_hold those_hold k l i a b x y p r ah bh st al xd yd pa ra ps rs.
          let w = slice_get_within (trace m a) i x xd in
          let f = fed_by (λ n. Earlier n t) (λ n h le lt. no_later-earlier n h t le lt) fit known m law opening (λ start lt h. g.early start lt h) (λ e lt h. g.heard e lt h) (λ b j z e pattern f d is lt matched. g.knows b j z e pattern f d is lt matched) (λ b j z c start f d is lt. g.breeds b j z c start f d is lt) these these_hold k i a p ah (omega (arith, w)) pa ps in
          g.same a b i x y p st f al xd yd pa ps;
      writes = λ those those_hold l i b x f pattern bh d is lt matched. may.writes b i x f pattern (fed_acting t fit known m' m opening' opening g' law' those those_hold l i b x (Emit f) bh d is lt) d is lt matched;
      passes = λ those those_hold l i b x p start pattern bh d is lt own. may.passes b i x p start pattern (fed_acting t fit known m' m opening' opening g' law' those those_hold l i b x (Spawn p start) bh d is lt) d is lt own;
      writes_back = λ those those_hold l i b x f pattern bh d is lt matched. may'.writes b i x f pattern (fed_acting t fit known m m' opening opening' g law those those_hold l i b x (Emit f) bh d is lt) d is lt matched;
      passes_back = λ those those_hold l i b x p start pattern bh d is lt own. may'.passes b i x p start pattern (fed_acting t fit known m m' opening opening' g law those those_hold l i b x (Spawn p start) bh d is lt) d is lt own;
    }

-- **a finished set has each such event of another one**
pub event_over : (Soon : Fraction → Type 0) (m m' : ThreadMeaning) (opening opening' : Opening) → Shares Soon m m' opening opening' → (these those : List Thread) → IsConsistent m opening these → IsConsistent m' opening' those → IsFinished m' opening' those →
    (event : EventView) → Soon event.place.time → Happened m opening these event → Happened m' opening' those event
event_over Soon m m' opening opening' shared these those these_hold those_hold those_end event now (inl g) = inl (shared.given event now g)
event_over Soon m m' opening opening' shared these those these_hold those_hold those_end event now (inr em) =
    let d = agree_by Soon m m' opening opening' shared these those these_hold those_hold em.acted.at em.i em.thread em.entry event.place em.acted.has em.acted.did
    (acted_at m shared.law em.thread em.i em.entry (Emit event) em.acted.did em.acted.is) now (λ k t b has on. absurd (those_end k t b has on)) in
    inr (record { thread = d.thread; i = em.i; entry = d.entry; acted = did_act m' m those em.thread em.i em.entry (Emit event) d em.acted.is })

sift_rises : (f : EventView → Bool) (xs : List EventView) → Rises is_event_before events_onward events_never xs → Rises is_event_before events_onward events_never (sift f xs)
sift_rises f [] r = tt
sift_rises f (y ∷ ys) r = go (f y) (sift_rises f ys r.1)
  where
    go : (c : Bool) → Rises is_event_before events_onward events_never (sift f ys) → Rises is_event_before events_onward events_never (cond c (y ∷ sift f ys) (sift f ys))
    go true rest = (λ g h. r.0 g (sift_from f ys g h).0, rest)
    go false rest = rest

-- **two lists with the same early events have one list of them, in order**
pub below_same : (t : Fraction) (xs ys : List EventView) → ((event f : EventView) → Contains xs event → Contains xs f → event.place ≡ f.place → event ≡ f) → ((event f : EventView) → Contains ys event → Contains ys f → event.place ≡ f.place → event ≡ f) →
    ((event : EventView) → Earlier event.place.time t → Contains xs event → Contains ys event) → ((event : EventView) → Earlier event.place.time t → Contains ys event → Contains xs event) →
    lines_below t (in_order is_event_before xs) ≡ lines_below t (in_order is_event_before ys)
below_same t xs ys ax ay there back =
    rising_same is_event_before events_onward events_never (lines_below t (in_order is_event_before xs)) (lines_below t (in_order is_event_before ys))
    (sift_rises (λ event. is_earlier event.place.time t) (in_order is_event_before xs) (ordered_rises is_event_before events_onward events_never xs)) (sift_rises (λ event. is_earlier event.place.time t) (in_order is_event_before ys) (ordered_rises is_event_before events_onward events_never ys))
    (over xs ys ay there) (over ys xs ax back)
  where
    over : (vs ws : List EventView) → ((event f : EventView) → Contains ws event → Contains ws f → event.place ≡ f.place → event ≡ f) → ((event : EventView) → Earlier event.place.time t → Contains vs event → Contains ws event) →
        (f : EventView) → Contains (lines_below t (in_order is_event_before vs)) f → Contains (lines_below t (in_order is_event_before ws)) f
    over vs ws aw to f h =
        let a = sift_from (λ event. is_earlier event.place.time t) (in_order is_event_before vs) f h in
        sift_has (λ event. is_earlier event.place.time t) (in_order is_event_before ws) f
        (ordered_has is_event_before events_onward events_never ws (λ a b x y s t. aw a b x y (same_place a b s t)) f (to f (true-is_earlier f.place.time t a.1) (ordered_from is_event_before events_onward events_never vs f a.0))) a.1

-- of a list that is early throughout nothing is left out
pub all_below : (t : Fraction) (xs : List EventView) → ((event : EventView) → Contains xs event → Earlier event.place.time t) → lines_below t xs ≡ xs
all_below t [] all = refl
all_below t (x ∷ xs) all = go (is_earlier x.place.time t) (is_earlier-true x.place.time t (all x (contains_here x xs))) (all_below t xs (λ event h. all event (contains_there x xs event h)))
  where
    go : (c : Bool) → c ≡ true → lines_below t xs ≡ xs → cond c (x ∷ lines_below t xs) (lines_below t xs) ≡ x ∷ xs
    go true event rest = ap (λ l. x ∷ l) rest
    go false event rest = absurd (let z : false ≡ true = event in cc)

not_earlier : (a b : Fraction) → is_earlier a b ≡ false → NoLater b a
not_earlier a b h =
    elim (earlier-cases a b) [
      | inl lt ↦ absurd (let z : true ≡ false = sym (is_earlier-true a b lt) ∙ h in cc)
      | inr (inl e) ↦ no_later_same b a (sym e)
      | inr (inr gt) ↦ earlier_no_later b a gt
    ]

lines_none : (u : Fraction) (xs : List EventView) → ((event : EventView) → Contains xs event → NoLater u event.place.time) → lines_below u xs ≡ []
lines_none u [] late = refl
lines_none u (x ∷ xs) late = go (is_earlier x.place.time u) refl (lines_none u xs (λ event h. late event (contains_there x xs event h)))
  where
    go : (c : Bool) → is_earlier x.place.time u ≡ c → lines_below u xs ≡ [] → cond c (x ∷ lines_below u xs) (lines_below u xs) ≡ []
    go true event rest = absurd (earlier-irrefl u (no_later-earlier u x.place.time u (late x (contains_here x xs)) (true-is_earlier x.place.time u event)))
    go false event rest = rest

-- in order of place the early part comes first
pub split_below : (u : Fraction) (xs : List EventView) → Rises is_event_before events_onward events_never xs → (r : List EventView) × (xs ≡ lines_below u xs ++ r) × ((event : EventView) → Contains r event → NoLater u event.place.time)
split_below u [] rise = ([], refl, λ event h. absurd (let z = h.1 in omega arith))
split_below u (x ∷ xs) rise = go (is_earlier x.place.time u) refl (split_below u xs rise.1)
  where
    late : NoLater u x.place.time → (event : EventView) → Contains (x ∷ xs) event → NoLater u event.place.time
    late le event h =
        elim (contains_cons x xs event h) [
          | inl z ↦ subst (λ w. NoLater u w.place.time) z le
          | inr k ↦ no_later-trans u x.place.time event.place.time le (upto_time x.place event.place (before_upto x.place event.place (true-is_before x.place event.place (rise.0 event k))))
        ]

    go : (c : Bool) → is_earlier x.place.time u ≡ c → (r : List EventView) × (xs ≡ lines_below u xs ++ r) × ((event : EventView) → Contains r event → NoLater u event.place.time) →
        (r : List EventView) × (x ∷ xs ≡ cond c (x ∷ lines_below u xs) (lines_below u xs) ++ r) × ((event : EventView) → Contains r event → NoLater u event.place.time)
    go true event rest = (rest.0, ap (λ l. x ∷ l) rest.1, rest.2)
    go false event rest =
        let all = late (not_earlier x.place.time u event) in
        let none = lines_none u xs (λ f h. all f (contains_there x xs f h)) in
        (x ∷ xs, ap (λ l. l ++ x ∷ xs) (sym none), all)

lines_append : (v : Fraction) (xs ys : List EventView) → lines_below v (xs ++ ys) ≡ lines_below v xs ++ lines_below v ys
lines_append v [] ys = refl
lines_append v (x ∷ xs) ys = go (is_earlier x.place.time v) (lines_append v xs ys)
  where
    go : (c : Bool) → lines_below v (xs ++ ys) ≡ lines_below v xs ++ lines_below v ys →
        cond c (x ∷ lines_below v (xs ++ ys)) (lines_below v (xs ++ ys)) ≡ cond c (x ∷ lines_below v xs) (lines_below v xs) ++ lines_below v ys
    go true rest = ap (λ l. x ∷ l) rest
    go false rest = rest

-- **so the early part by a nearer time begins that by a further one**
pub lines_begin : (u v : Fraction) → NoLater u v → (xs : List EventView) → Rises is_event_before events_onward events_never xs → (r : List EventView) × (lines_below v xs ≡ lines_below u xs ++ r)
lines_begin u v le xs rise =
    let s = split_below u xs rise in (
      lines_below v s.0,
      ap (lines_below v) s.1 ∙ lines_append v (lines_below u xs) s.0
          ∙ ap (λ l. l ++ lines_below v s.0)
          (all_below v (lines_below u xs) (λ e h. earlier-no_later e.place.time u v (true-is_earlier e.place.time u (sift_from (λ w. is_earlier w.place.time u) xs e h).1) le)),
    )

pub score_begins : (u v : Fraction) → NoLater u v → (m : ThreadMeaning) (opening : Opening) (ws : List Thread) →
    ((r : List EventView) × (lines_below v (score m opening ws) ≡ lines_below u (score m opening ws) ++ r))
    × ((r : List EventView) × (score m opening ws ≡ lines_below u (score m opening ws) ++ r) × ((event : EventView) → Contains r event → NoLater u event.place.time))
score_begins u v le m opening ws =
    let rise = ordered_rises is_event_before events_onward events_never (events_of m opening ws) in
    (lines_begin u v le (score m opening ws) rise, split_below u (score m opening ws) rise)

pub score_below : (t : Fraction) (m m' : ThreadMeaning) (opening opening' : Opening) → Shares (λ n. Earlier n t) m m' opening opening' → (these those : List Thread) → IsConsistent m opening these → IsConsistent m' opening' those → IsFinished m opening these → IsFinished m' opening' those →
    IsApart m opening these → IsApart m' opening' those → lines_below t (score m opening these) ≡ lines_below t (score m' opening' those)
score_below t m m' opening opening' shared these those these_hold those_hold these_end those_end ta ua =
    below_same t (events_of m opening these) (events_of m' opening' those)
    (λ e f a b s. ta e f (unlisted m opening these e a) (unlisted m opening these f b) s)
    (λ e f a b s. ua e f (unlisted m' opening' those e a) (unlisted m' opening' those f b) s)
    (λ e lt h. listed m' opening' those e (event_over (λ n. Earlier n t) m m' opening opening' shared these those these_hold those_hold those_end e lt (unlisted m opening these e h)))
    (λ e lt h. listed m opening these e (event_over (λ n. Earlier n t) m' m opening' opening (flip (λ n. Earlier n t) m m' opening opening' shared) those these those_hold these_hold these_end e lt (unlisted m' opening' those e h)))
