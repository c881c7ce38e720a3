-- Transitions keep a world consistent. So the world at the end is one of the finished sets, and agrees with each.
use Rattle.std.proofs.Common.{◌≡◌, ℕ, ◌≤◌, List, [], ◌∷◌, length, map, refl, sym, ◌∙◌, ap, inl, inr, ◌⊎◌, arith, zero, suc, subst, Option, Some, None}
use Rattle.std.specs.Prelude.{slice_get, Contains}
use Rattle.std.proofs.lemmas.Option.{slice_get_within, slice_get-map, slice_get_read, get_or_from_slice_get}
use Rattle.std.specs.Option.{option_map}
use Rattle.vt_run.specs.declared.action.Action.{Action}
use Rattle.vt_run.specs.declared.action.Action.TheVariants.{Read, Rest, Spawn}
use Rattle.vt_run.specs.declared.start.Start.{Start}
use Rattle.vt_meaning.specs.Consistent.{IsConsistent, IsExact}
use Rattle.vt_meaning.specs.Happenings.{Acted}
use Rattle.vt_meaning.specs.Meaning.{Ending}
use Rattle.vt_meaning.specs.Meaning.Ending.{Ends, OverBudget}
use Rattle.vt_meaning.specs.Means.{Means, Transition}
use Rattle.vt_meaning.specs.Means.Means.{ends, goes, spends}
use Rattle.vt_meaning.specs.Means.Transition.{Reads, Steps, Wakes}
use Rattle.vt_meaning.specs.NextPlaces.{IsFinished}
use Rattle.vt_meaning.specs.Reach.{IsKnown}
use Rattle.vt_meaning.specs.ThreadLaws.{IsLawful, IsLive, IsOrderly}
use Rattle.vt_meaning.specs.ThreadMeaning.{ThreadMeaning}
use Rattle.vt_meaning.specs.Traces.{Entry, stands, Thread, trace, wait_for, wake}
use Rattle.vt_meaning.specs.World.{begun, moved_on, one_more, Opening, opening_world, total_of}
use Rattle.vt_meaning.proofs.Order.{before-upto, before-wake}
use Rattle.vt_meaning.proofs.MovedThreads.{exact_fresh}
use Rattle.vt_meaning.proofs.OneMoreStep.{step_kept, snoc}
use Rattle.vt_meaning.proofs.AnsweredAsks.{read_kept, wait_kept}
use Rattle.vt_meaning.proofs.FinishedAgree.{total_there}
use Rattle.vt_meaning.proofs.Writers.{final_quiet}

pub transition_kept : (m : ThreadMeaning) (law : IsLawful m) (live : IsLive m) (opening : Opening) (knowns : IsKnown m opening) → IsOrderly opening → (these those : List Thread) → IsConsistent m opening these → Transition m opening these those → IsConsistent m opening those
transition_kept m law live opening knowns ok these those consistent (Steps i t p x has stands final grown) =
    let same : x ≡ (live.grows t p (consistent.exact i t has) stands).0 = (snoc (trace m t) (trace m t) x (live.grows t p (consistent.exact i t has) stands).0 (sym grown ∙ (live.grows t p (consistent.exact i t has) stands).1)).1 in
    subst (λ a. IsConsistent m opening (moved_on these i (one_more t) a)) (ap (λ w. w.step.action) (sym same)) (step_kept m law live opening knowns ok these consistent i t p has stands)
transition_kept m law live opening knowns ok these those consistent (Reads i t p q a has stands final last) = read_kept m law live opening knowns these consistent i t has p q a stands (final_quiet m opening these p q final) last
transition_kept m law live opening knowns ok these those consistent (Wakes i t p q e has stands first final) =
    wait_kept m law live opening knowns these consistent i t has p q e stands first (λ k w c whas on. before-upto e.place (wake e p) c (before-wake e p) (final k w c whas on))

-- **transitions that begin consistent end so, unless the budget is spent, and no set of the session that is finished and within it lets that happen**
pub means_ends : (m : ThreadMeaning) (law : IsLawful m) (live : IsLive m) (opening : Opening) (knowns : IsKnown m opening) → IsOrderly opening → (those : List Thread) → IsConsistent m opening those → IsFinished m opening those → total_of m those ≤ opening.budget →
    (these : List Thread) (o : Ending) → IsConsistent m opening these → Means m opening these o → (ws : List Thread) × (o ≡ Ends ws) × IsConsistent m opening ws × IsFinished m opening ws
means_ends m law live opening knowns ok those those_hold finished le these o consistent (spends _ over) = (let more = total_there m law opening knowns these those consistent those_hold finished in absurd (omega arith))
means_ends m law live opening knowns ok those those_hold finished le these o consistent (ends _ within done) = (these, refl, consistent, done)
means_ends m law live opening knowns ok those those_hold finished le these o consistent (goes _ vs _ within transition rest) =
    means_ends m law live opening knowns ok those those_hold finished le vs o (transition_kept m law live opening knowns ok these vs consistent transition) rest

-- **a session that ends within its budget has no consistent set above it**
pub within_budget : (m : ThreadMeaning) (law : IsLawful m) (live : IsLive m) (opening : Opening) (knowns : IsKnown m opening) → IsOrderly opening → (those : List Thread) → IsConsistent m opening those →
    (these : List Thread) (o : Ending) → IsConsistent m opening these → Means m opening these o → (o ≡ OverBudget) ⊎ (total_of m those ≤ opening.budget)
within_budget m law live opening knowns ok those those_hold these o consistent (spends _ over) = inl refl
within_budget m law live opening knowns ok those those_hold these o consistent (ends _ within done) =
    inr (let less = total_there m law opening knowns those these those_hold consistent done in omega arith)
within_budget m law live opening knowns ok those those_hold these o consistent (goes _ vs _ within transition rest) =
    within_budget m law live opening knowns ok those those_hold vs o (transition_kept m law live opening knowns ok these vs consistent transition) rest

pub get_of : {A : Type 0} (xs : List A) (x : A) → (has : Contains xs x) → slice_get xs has.0 ≡ Some x
get_of xs x has = slice_get_read xs (length xs) has.0 x refl has.1 (sym has.2)

pub has_of : {A : Type 0} (xs : List A) (k : ℕ) (x : A) → slice_get xs k ≡ Some x → Contains xs x
has_of xs k x e = (k, slice_get_within xs k x e, get_or_from_slice_get xs k x x e)

pub start_of : (starts : List Start) (k : ℕ) (thread : Thread) → slice_get (map begun starts) k ≡ Some thread → (start : Start) × (slice_get starts k ≡ Some start) × (thread ≡ begun start)
start_of [] k thread h = absurd (let z : ◌≡◌ {A = Option Thread} None (Some thread) = h in cc)
start_of (start ∷ ss) zero thread h = (start, refl, (let z : Some (begun start) ≡ Some thread = h in cc))
start_of (start ∷ ss) (suc k) thread h = start_of ss k thread h

nothing_done : (m : ThreadMeaning) (live : IsLive m) (opening : Opening) (thread : Thread) (i : ℕ) (entry : Entry) (a : Action) → Acted m (opening_world opening) thread i entry a → ⊥
nothing_done m live opening thread i entry a acted =
    let s = start_of opening.starts acted.at thread acted.has in
    let e : trace m thread ≡ [] = ap (trace m) s.2 ∙ live.nothing s.0 in
    let z : ◌≡◌ {A = Option Entry} None (Some entry) = subst (λ l. slice_get l i ≡ Some entry) e acted.did in cc

-- before any transition all is consistent
pub opening_consistent : (m : ThreadMeaning) (live : IsLive m) (opening : Opening) →
    ((k l : ℕ) (start beginning : Start) → slice_get opening.starts k ≡ Some start → slice_get opening.starts l ≡ Some beginning → start.place.thread ≡ beginning.place.thread → k ≡ l) →
    IsConsistent m opening (opening_world opening)
opening_consistent m live opening apart =
    record {
      opened =
          λ start has.
          record {
            at = has.0;
            thread = begun start;
            has = slice_get-map begun opening.starts has.0 ∙ ap (option_map begun) (get_of opening.starts start has);
            start = refl;
          };
      spawned = λ start h. absurd (nothing_done m live opening h.thread h.i h.entry (Spawn h.place start) h.acted);
      rooted =
          λ k t has.
          let start = start_of opening.starts k t has in
          inl (subst (Contains opening.starts) (ap (λ w. w.start) (sym start.2)) (has_of opening.starts k start.0 start.1));
      apart =
          λ k l t u a b e.
          let start = start_of opening.starts k t a in
          let beginning = start_of opening.starts l u b in
          apart k l start.0 beginning.0 start.1 beginning.1 (ap (λ w. w.start.place.thread) (sym start.2) ∙ e ∙ ap (λ w. w.start.place.thread) beginning.2);
      exact = λ k t has. let start = start_of opening.starts k t has in subst (IsExact m) (sym start.2) (exact_fresh m start.0 (live.nothing start.0));
      moves = λ t i x p n acted. absurd (nothing_done m live opening t i x (Rest p n) acted);
      reads = λ t i x p q a acted e. absurd (nothing_done m live opening t i x (Read p q) acted);
      waits = λ t i x p q a acted e. absurd (nothing_done m live opening t i x (wait_for p q) acted);
    }
