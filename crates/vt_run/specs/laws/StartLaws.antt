-- What holds of the thread of a text as it starts, of the event that stands for a text that is refused, and of the inputs: own.
use Rattle.std.specs.Prelude.{◌≡◌, ℕ, ◌<◌, ◌^◌, List, Some, slice_get}
use Rattle.vt_frac.specs.Fraction.{Fraction, IsFraction}
use Rattle.vt_value.specs.declared.fault.FaultKind.{FaultKind}
use Rattle.vt_event.specs.Event.{EventView, IsEvent}
use Rattle.vt_event.specs.Order.{IsBefore}
use Rattle.vt_event.specs.Orderly.{AreOrderly}
use Rattle.vt_run.specs.declared.start.Start.{Start}
use Rattle.vt_run.specs.Limits.{IsEventWithin, IsStartWithin}
use Rattle.vt_run.specs.RenderLimits.{OptionsView}
use Rattle.vt_run.specs.TextStarts.{refused_event, text_start}
use Rattle.vt_run.specs.WellMade.{IsWellMade}

-- how the thread of a text starts is within the limits of the language, at any time and with any seed and horizon that a type holds
abbrev pub TextStartLaw : Type 0
TextStartLaw =
    (number : ℕ) (time : Fraction) (options : OptionsView) →
    IsFraction time → IsFraction options.until → options.seed < 2 ^ 64 → IsStartWithin (text_start number time options)

-- an event that may stand before a thread that starts so
pub record IsRefusal (event : EventView) (start : Start) : Type 0 where
  pub made : IsWellMade event
  pub within : IsEventWithin event
  pub first : IsBefore event.place start.place

-- the event of a refused text is well made and within the limits, and stands before all that a text with its number and time would do
abbrev pub RefusalLaw : Type 0
RefusalLaw =
    (number : ℕ) (time : Fraction) (kind : FaultKind) (line : ℕ) (options : OptionsView) →
    IsFraction time → IsRefusal (refused_event number time kind line) (text_start number time options)

-- each of the inputs, where they are orderly, has the fields of its kind and is within the limits of the language
abbrev pub InputLaw : Type 0
InputLaw =
    (text_times : List Fraction) (inputs : List EventView) (k : ℕ) (input : EventView) →
    AreOrderly text_times inputs → slice_get inputs k ≡ Some input → IsEvent input × IsEventWithin input
