-- The thread of a text starts within the limits of the language, and a refusal stands before it.
use Rattle.std.proofs.Common.{inr, refl, lit<}
use Rattle.std.specs.Prelude.{IsTrue, codes, pos}
use Rattle.vt_frac.specs.Fraction.{IsFraction}
use Rattle.vt_event.proofs.Order.{before-place}
use Rattle.vt_frac.specs.Names.{is_symbol_name}
use Rattle.vt_run.specs.laws.StartLaws.{RefusalLaw, TextStartLaw}
use Rattle.vt_run.specs.Limits.{AreSettingsWithin}
use Rattle.vt_run.specs.TextStarts.{first_settings, refused_event, text_start}
use Rattle.vt_run.proofs.facts.EventFacts.{fault_told}
use Rattle.vt_ring.proofs.limits.Values.{whole_fraction}

first_synth : IsTrue (is_symbol_name (codes "beep"))
unfolding is_symbol_name
first_synth = refl

settings_within : AreSettingsWithin first_settings
settings_within = record { bpm = whole_fraction (pos 60) (lit< tt); tempo = refl; synth = first_synth; defaults = tt }

pub text_start_law : TextStartLaw
text_start_law number time options fraction until seed =
    record { time = fraction; locals = tt; settings = settings_within; seed = seed; role = tt; until = until }

pub refusal_law : RefusalLaw
refusal_law number time kind line options fraction =
    let event = refused_event number time kind line in
    let told = fault_told (IsFraction time) (λ event. Unit {0}) kind line event.place (λ known. known) (λ known event none. tt) in
    record { made = told.made; within = told.within fraction; first = before-place event.place (text_start number time options).place (inr (refl, inr (refl, inr (refl, lit< tt)))) }
