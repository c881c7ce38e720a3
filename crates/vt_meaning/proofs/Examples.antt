-- The definitions on small sessions: what they give is seen by computing.
use Rattle.std.proofs.Common.{◌≡◌, ℕ, ◌+◌, List, [], ◌∷◌, take, refl, pos, true, false, Bool, zero, suc, Some, None}
use Rattle.std.specs.Prelude.{codes, cond, nat_eq}
use Rattle.vt_frac.specs.Fraction.{whole}
use Rattle.vt_frac.specs.Order.{order_of, value_order}
use Rattle.vt_path.specs.declared.pattern.Segment.{Segment}
use Rattle.vt_path.specs.Match.{literal_of}
use Rattle.vt_value.specs.declared.value.Value.TheVariants.{Nil}
use Rattle.vt_event.specs.declared.place.Place.{Place}
use Rattle.vt_event.specs.declared.score.LivingState.TheVariants.{Waiting}
use Rattle.vt_event.specs.declared.score.Outcome.TheVariants.{Scored, Spent}
use Rattle.vt_event.specs.Event.{EventView}
use Rattle.vt_event.specs.EventsByKind.{cue_event, log_event}
use Rattle.vt_run.specs.declared.action.Action.TheVariants.{Emit, End, Read, Wait}
use Rattle.vt_run.specs.declared.action.Answer.{Answer}
use Rattle.vt_run.specs.declared.action.Answer.TheVariants.{Found}
use Rattle.vt_run.specs.declared.action.EndReason.TheVariants.{Done}
use Rattle.vt_run.specs.declared.start.Start.{Start}
use Rattle.vt_run.specs.Evaluation.{Step}
use Rattle.vt_run.specs.RenderLimits.{OptionsView}
use Rattle.vt_run.specs.TextStarts.{text_start}
use Rattle.vt_meaning.specs.Disturbers.{disturbers, is_disturber, is_quiet}
use Rattle.vt_meaning.specs.LookUps.{matches_event, matches_path}
use Rattle.vt_meaning.specs.Meaning.{ending_of, meaning_by, score_of}
use Rattle.vt_meaning.specs.Places.{is_before}
use Rattle.vt_meaning.specs.ThreadMeaning.{may_meet, meets, ThreadMeaning}
use Rattle.vt_meaning.specs.Traces.{cost_in, standing, Thread, trace}
use Rattle.vt_meaning.specs.World.{Opening, total_of}

abbrev options : OptionsView
options = record { workers = 1; until = whole (pos 9); budget = 9; seed = 0 }

-- what a thread does is told by the number of its block
abbrev start_at : ℕ → ℕ → ℕ → Start
start_at time text block = record (text_start text (whole (pos time)) options) { block = record { text = text; block = block } }

abbrev path_a : List (List ℕ)
path_a = codes "a" ∷ []

abbrev path_b : List (List ℕ)
path_b = codes "b" ∷ []

abbrev one_step : ℕ → Step → List Step
one_step zero step = []
one_step (suc n) step = step ∷ []

-- block 1 reads `/a`; block 2 waits for `/b`, and may set `/a`; any other goes on, and may set `/b`
abbrev steps_of : Start → ℕ → List Step
steps_of start n =
    cond (nat_eq start.block.block 1) (one_step n (record { cost = 1; action = Some (Read start.place (literal_of path_a)) }))
    (cond (nat_eq start.block.block 2) (one_step n (record { cost = 1; action = Some (Wait start.place (literal_of path_b) None) })) [])

abbrev writes : Start → List Segment → Bool
writes start pattern =
    cond (nat_eq start.block.block 1) false (cond (nat_eq start.block.block 2) (matches_path pattern path_a) (matches_path pattern path_b))

abbrev chain : ThreadMeaning
chain = record { until = whole (pos 9); acts = λ start answers n. steps_of start n; may = writes; fit = λ start. true; known = λ event. true }

abbrev thread_at : ℕ → ℕ → ℕ → ℕ → Thread
thread_at time text block done = record { start = start_at time text block; answers = []; done = done }

abbrev inputs : List EventView → Opening
inputs events = record { starts = []; given = events; budget = 9 }

-- the place of a read at 5 in text 1
abbrev reads_at : Place
reads_at = (start_at 5 1 1).place

abbrev cue_at : ℕ → EventView
cue_at time = cue_event (record { time = whole (pos time); micro = 0; thread = 0 ∷ []; step = 1 }) path_b Nil

-- one that waits and may write has no bound, but one that may wake it has: the read is not final
feeds_count : is_quiet chain (inputs []) (thread_at 5 1 1 1 ∷ thread_at 0 2 2 1 ∷ thread_at 1 3 3 0 ∷ []) reads_at (literal_of path_a) ≡ false
unfolding is_quiet disturbers is_disturber may_meet meets standing trace is_before matches_event order_of value_order
feeds_count = refl

-- nobody may wake it: the read is final, though the front is below it where a thread that writes nothing goes on
nobody_feeds : is_quiet chain (inputs []) (thread_at 5 1 1 1 ∷ thread_at 0 2 2 1 ∷ []) reads_at (literal_of path_a) ≡ true
unfolding is_quiet disturbers is_disturber may_meet meets standing trace is_before matches_event order_of value_order
nobody_feeds = refl

-- an input will wake it, which no thread published: not final
inputs_count : is_quiet chain (inputs (cue_at 2 ∷ [])) (thread_at 5 1 1 1 ∷ thread_at 0 2 2 1 ∷ []) reads_at (literal_of path_a) ≡ false
unfolding is_quiet disturbers is_disturber may_meet meets standing trace is_before matches_event order_of value_order
inputs_count = refl

-- an input after the read will wake it later: final
later_inputs_do_not : is_quiet chain (inputs (cue_at 6 ∷ [])) (thread_at 5 1 1 1 ∷ thread_at 0 2 2 1 ∷ []) reads_at (literal_of path_a) ≡ true
unfolding is_quiet disturbers is_disturber may_meet meets standing trace is_before matches_event order_of value_order
later_inputs_do_not = refl

-- ---- a cue wakes a thread that waits

-- the place after the cue, at which text 1 goes on
abbrev woken_at : Place → EventView → Place
woken_at place event = record { time = event.place.time; micro = event.place.micro + 1; thread = place.thread; step = place.step + 1 }

-- block 1 waits for `/b`, logs and ends; any other cues `/b` and ends
abbrev waits_then : Start → List Answer → List Step
waits_then start (Found event ∷ answers) =
    record { cost = 1; action = Some (Wait start.place (literal_of path_b) None) }
    ∷ record { cost = 1; action = Some (Emit (log_event (woken_at start.place event) Nil)) }
    ∷ record { cost = 1; action = Some (End (record (woken_at start.place event) { step = 3 }) Done) } ∷ []
waits_then start _ = record { cost = 1; action = Some (Wait start.place (literal_of path_b) None) } ∷ []

abbrev cues_then : Start → List Step
cues_then start =
    record { cost = 1; action = Some (Emit (cue_event start.place path_b Nil)) }
    ∷ record { cost = 1; action = Some (End (record start.place { step = 2 }) Done) } ∷ []

abbrev pair_of : ThreadMeaning
pair_of =
    record {
      until = whole (pos 9);
      acts = λ start answers n. take n (cond (nat_eq start.block.block 1) (waits_then start answers) (cues_then start));
      may = λ start pattern. true;
      fit = λ start. true;
      known = λ event. true;
    }

abbrev first_text : Start
first_text = start_at 0 1 1

abbrev second_text : Start
second_text = start_at 1 2 2

abbrev cue_of_second : EventView
cue_of_second = cue_event second_text.place path_b Nil

-- the cue at 1, and then what the first text does one micro step later
cue_wakes : meaning_by pair_of (record { starts = first_text ∷ second_text ∷ []; given = []; budget = 9 })
    ≡ Scored (record { events = cue_of_second ∷ log_event (woken_at first_text.place cue_of_second) Nil ∷ []; living = [] })
unfolding meaning_by ending_of total_of cost_in score_of standing trace is_before matches_event order_of value_order
cue_wakes = refl

-- without a cue it waits for good
waits_on : meaning_by pair_of (record { starts = first_text ∷ []; given = []; budget = 9 })
    ≡ Scored (record { events = []; living = record { thread = 1 ∷ []; state = Waiting (literal_of path_b) } ∷ [] })
unfolding meaning_by ending_of total_of cost_in score_of standing trace is_before matches_event order_of value_order
waits_on = refl

-- a budget of 4 is spent by the fifth step
spends_all : meaning_by pair_of (record { starts = first_text ∷ second_text ∷ []; given = []; budget = 4 }) ≡ Spent
unfolding meaning_by ending_of total_of cost_in score_of standing trace is_before matches_event order_of value_order
spends_all = refl
