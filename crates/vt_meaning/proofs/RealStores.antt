-- The stores of a rendered session against what it means.
use Rattle.std.proofs.Common.{◌≡◌, List, refl, ◌∙◌, ap, inl, inr, arith, Bool, true, sym}
use Rattle.vt_path.specs.declared.pattern.Segment.{Segment}
use Rattle.vt_event.specs.declared.score.Outcome.TheVariants.{Scored, Spent}
use Rattle.vt_event.specs.Event.{EventView}
use Rattle.vt_run.specs.declared.start.Start.{Start}
use Rattle.vt_event.specs.declared.score.Score.{Score}
use Rattle.vt_meaning.specs.ThreadMeaning.{ThreadMeaning}
use Rattle.vt_meaning.specs.Meaning.Ending.{Ends, OverBudget}
use Rattle.vt_meaning.specs.Causal.{OnePart, lines_below, score}
use Rattle.vt_meaning.specs.Meaning.{ending_of, meaning, meaning_by, outcome_of, score_of, Ending}
use Rattle.vt_meaning.specs.RealLaws.{AboveIsSpent, FinishedIsMeant, RenderedIsSession, threads_with, AllIsWithin, EarlyTextsFix, TextsAreActs, TextsArePrompt}
use Rattle.vt_meaning.specs.Session.{Key, opening_of, threads_of}
use Rattle.vt_meaning.specs.Theorems.{FinishedHolds, NeverAbove}
use Rattle.vt_meaning.specs.Traces.{cost_in, Thread, standing, trace}
use Rattle.vt_meaning.specs.World.{total_of, Opening}

-- what a session means does not ask what its threads may write
meant : (key : Key) (may : Start → List Segment → Bool) (fit : Start → Bool) (known : EventView → Bool) →
    meaning key ≡ outcome_of (threads_with key.texts key.options.until may fit known) (opening_of key) (ending_of (threads_with key.texts key.options.until may fit known) (opening_of key))
unfolding meaning meaning_by ending_of total_of cost_in score_of standing trace
meant key may fit known = refl

pub finished_is_meant : RenderedIsSession → FinishedHolds → FinishedIsMeant
finished_is_meant sessions holds key may fit known threads store finished within =
    let m = threads_with key.texts key.options.until may fit known in
    let found = holds m (opening_of key) (sessions key may fit known store.session) threads store.consistent finished within in
    meant key may fit known ∙ ap (outcome_of m (opening_of key)) found.1 ∙ ap (λ score. Scored score) found.2.score

pub above_is_spent : RenderedIsSession → NeverAbove → AboveIsSpent
above_is_spent sessions never key may fit known threads store above =
    let m = threads_with key.texts key.options.until may fit known in
    elim (never m (opening_of key) (sessions key may fit known store.session) threads store.consistent) [
      | inl spent ↦ meant key may fit known ∙ ap (outcome_of m (opening_of key)) spent
      | inr within ↦ absurd (omega (arith, above, within))
    ]

-- what is scored has ended in a world, and the score is that of the world
ended_in : (m : ThreadMeaning) (opening : Opening) (ending : Ending) (score : Score) → outcome_of m opening ending ≡ Scored score → (world : List Thread) × (ending ≡ Ends world) × (score_of m opening world ≡ score)
ended_in m opening OverBudget score e = absurd (let z : Spent ≡ Scored score = e in cc)
ended_in m opening (Ends world) score e = (world, refl, (let z : Scored (score_of m opening world) ≡ Scored score = e in cc z))

events_are : (m : ThreadMeaning) (opening : Opening) (world : List Thread) → (score_of m opening world).events ≡ score m opening world
unfolding score_of
events_are m opening world = refl

pub early_texts_fix : TextsAreActs → TextsArePrompt → AllIsWithin → RenderedIsSession → OnePart → EarlyTextsFix
early_texts_fix acts prompt all sessions one time early key other may fit known rendered rendered' is first second e e' =
    let m = threads_with early time may fit known in
    let m1 = threads_of key.texts key.options.until in
    let m2 = threads_of other.texts other.options.until in
    let a = ended_in m1 (opening_of key) (ending_of m1 (opening_of key)) first (sym (meant key (λ start pattern. true) (λ start. true) (λ event. true)) ∙ e) in
    let b = ended_in m2 (opening_of other) (ending_of m2 (opening_of other)) second (sym (meant other (λ start pattern. true) (λ start. true) (λ event. true)) ∙ e') in
    let same = one m m1 m2 (opening_of key) (opening_of other) (acts early time may fit known is.checked is.horizon is.leading) (prompt early time may fit known) is.begun
    (sessions key (λ start pattern. true) (λ start. true) (λ event. true) (all key rendered)) (sessions other (λ start pattern. true) (λ start. true) (λ event. true) (all other rendered')) is.part is.other_part is.same a.0 b.0 a.1 b.1 in
    ap (λ (s : Score). lines_below time s.events) (sym a.2)
    ∙ ap (lines_below time) (events_are m1 (opening_of key) a.0)
    ∙ same
    ∙ ap (lines_below time) (sym (events_are m2 (opening_of other) b.0))
    ∙ ap (λ (s : Score). lines_below time s.events) b.2
