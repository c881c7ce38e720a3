-- A session as it is rendered, what its threads mean, and what stands there before any of them acts: own.
use Rattle.std.specs.Prelude.{ℕ, ◌+◌, List, [], ◌∷◌, ◌++◌, cond, not, filter, true}
use Rattle.vt_frac.specs.Fraction.{Fraction}
use Rattle.vt_event.specs.Event.{EventView}
use Rattle.vt_run.specs.declared.start.Start.{Start}
use Rattle.vt_run.specs.declared.texts.Texts.{Texts}
use Rattle.vt_run.specs.declared.texts.Verdict.{Verdict}
use Rattle.vt_run.specs.declared.texts.Verdict.TheVariants.{Good, Bad}
use Rattle.vt_run.specs.Actions.{is_past}
use Rattle.vt_run.specs.RenderLimits.{OptionsView}
use Rattle.vt_run.specs.TextStarts.{refused_event, text_start}
use Rattle.vt_run.specs.Threads.{acts}
use Rattle.vt_meaning.specs.ThreadMeaning.{ThreadMeaning}
use Rattle.vt_meaning.specs.World.{Opening}

-- what a rendering is asked for: the texts with their times and verdicts, the inputs, and the options
pub record Key : Type 0 where
  pub texts : Texts
  pub inputs : List EventView
  pub options : OptionsView

-- where the thread of a text starts: a good text has one, a refused text has none
abbrev pub start_of : OptionsView → ℕ → Fraction → Verdict → List Start
start_of options number time (Good tree) = text_start number time options ∷ []
start_of options number time (Bad kind line) = []

-- what is published of a text from the beginning: the fault of a refused text
abbrev pub refusal_of : ℕ → Fraction → Verdict → List EventView
refusal_of number time (Good tree) = []
refusal_of number time (Bad kind line) = refused_event number time kind line ∷ []

-- what each of these texts gives, in their order: they are numbered from this number, and those at or past the horizon give nothing
abbrev pub of_texts : {A : Type 0} → Fraction → (ℕ → Fraction → Verdict → List A) → ℕ → Texts → List A
of_texts until of_text number [] = []
of_texts until of_text number (text ∷ texts) =
    cond (is_past until text.0) [] (of_text number text.0 text.1) ++ of_texts until of_text (number + 1) texts

-- how the threads of the opening start: one for each good text below the horizon
abbrev pub opening_starts : Key → List Start
opening_starts key = of_texts key.options.until (start_of key.options) 1 key.texts

-- what has happened before any thread acts: the fault of each refused text below the horizon, and each input below it
abbrev pub given_events : Key → List EventView
given_events key =
    of_texts key.options.until refusal_of 1 key.texts
    ++ filter (λ input. not (is_past key.options.until input.place.time)) key.inputs

-- what a session begins with
abbrev pub opening_of : Key → Opening
opening_of key = record { starts = opening_starts key; given = given_events key; budget = key.options.budget }

-- a start with this horizon
abbrev pub with_horizon : Fraction → Start → Start
with_horizon until start = record start { until = until }

-- What texts mean to their threads, up to this horizon. Here each thread may write everything: the meaning of a session does not ask.
abbrev pub threads_of : Texts → Fraction → ThreadMeaning
threads_of texts until = record {
  until = until;
  acts = λ start answers n. acts texts (with_horizon until start) answers n;
  may = λ start pattern. true;
  fit = λ start. true;
  known = λ event. true;
}
