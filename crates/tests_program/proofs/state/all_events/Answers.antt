use Rattle.std.proofs.Common.{◌≡◌, ℕ, zero, suc, ◌+◌, ◌<◌, ◌≤◌, List, [], ◌∷◌, ◌++◌, length, Some, ◌⊎◌, inl, inr, slice_get, refl, sym, ap, ◌∙◌, arith, length-append}
use Rattle.std.proofs.lemmas.Bool.{cases_lt}
use Rattle.std.proofs.lemmas.Option.{same_Some, slice_get_within}
use Rattle.vt_event.specs.declared.place.Place.{Place}
use Rattle.vt_event.specs.Event.{EventView}
use Rattle.tests_program.proofs.state.all_events.Goals as goal

-- each event has its number for its step
abbrev AreStepped : List EventView → Type 0
AreStepped events = (k : ℕ) (event : EventView) → slice_get events k ≡ Some event → event.place.step ≡ k

left : (events : List EventView) (event : EventView) (k : ℕ) → k < length events → slice_get events k ≡ slice_get (events ++ event ∷ []) k
left [] event k less = absurd (omega arith)
left (e ∷ es) event zero less = refl
left (e ∷ es) event (suc k) less = left es event k (omega arith)

last : (events : List EventView) (event : EventView) → slice_get (events ++ event ∷ []) (length events) ≡ Some event
last [] event = refl
last (e ∷ es) event = last es event

-- one event more
stepped_more : (events grown : List EventView) (event : EventView) → grown ≡ events ++ event ∷ [] → event.place.step ≡ length events → AreStepped events → AreStepped grown
stepped_more events grown event is step stepped k other at = go (cases_lt k (length events))
  where
    there : slice_get (events ++ event ∷ []) k ≡ Some other
    there = ap (λ (es : List EventView). slice_get es k) (sym is) ∙ at

    go : (k < length events) ⊎ (length events ≤ k) → other.place.step ≡ k
    go (inl less) = stepped k other (left events event k less ∙ there)
    go (inr late) =
        let within : k < length (events ++ event ∷ []) = slice_get_within (events ++ event ∷ []) k other there in
        let n : length (events ++ event ∷ []) ≡ length events + 1 = length-append events (event ∷ []) in
        let same : k ≡ length events = omega arith in
        let own : event ≡ other = same_Some event other (sym (last events event) ∙ (ap (λ (i : ℕ). slice_get (events ++ event ∷ []) i) (sym same) ∙ there)) in
        ap (λ (e : EventView). e.place.step) (sym own) ∙ (step ∙ sym same)

pub loop-line-preserved : goal.loop-line-preserved
loop-line-preserved c = stepped_more c.loop-line.events c.in_ok-grown.grown c.in_ok-grown.ensures.0 c.in_ok-grown.ensures.1 c.in_ok-grown.ensures.2 c.loop-line.invariant

pub returns : goal.returns
returns c = λ i j event other at at' same. sym (c.loop-line.invariant i event at) ∙ (ap (λ (p : Place). p.step) same ∙ c.loop-line.invariant j other at')
