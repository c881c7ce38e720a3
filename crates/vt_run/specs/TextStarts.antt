-- How the thread of a text starts, and what stands for a text that is refused: the tempo and the synth are those of Sonic Pi, the rest is own.
use Rattle.std.specs.Prelude.{ℕ, [], ◌∷◌, codes, None}
use Rattle.vt_frac.specs.Fraction.{Fraction}
use Rattle.vt_value.specs.declared.fault.FaultKind.{FaultKind}
use Rattle.vt_event.specs.Event.{EventView}
use Rattle.vt_event.specs.EventsByKind.{fault_event}
use Rattle.vt_run.specs.declared.role.Role.TheVariants.{Plain}
use Rattle.vt_run.specs.declared.settings.Settings.{Settings}
use Rattle.vt_run.specs.declared.start.Start.{Start}
use Rattle.vt_run.specs.RenderLimits.{OptionsView}
use Rattle.vt_run.specs.Tempo.{first_tempo}

-- 60 beats per minute, the synth `beep`, no defaults and no effect
abbrev pub first_settings : Settings
first_settings = record { bpm = first_tempo; synth = codes "beep"; defaults = []; fx = None }

-- the thread of the text with this number, from 1, at this time: without locals, with the seed of the options
abbrev pub text_start : ℕ → Fraction → OptionsView → Start
text_start number time options = record {
  place = record { time = time; micro = 0; thread = number ∷ []; step = 1 };
  block = record { text = number; block = 0 };
  locals = [];
  settings = first_settings;
  seed = options.seed;
  role = Plain;
  until = options.until;
}

-- a refused text has no thread: its fault, with its line, stands at its time before all actions of a text with this number
abbrev pub refused_event : ℕ → Fraction → FaultKind → ℕ → EventView
refused_event number time kind line = fault_event (record { time = time; micro = 0; thread = number ∷ []; step = 0 }) kind line
