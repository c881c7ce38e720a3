-- The event of each kind has the fields of its kind, and no others.
use Rattle.std.proofs.Common.{◌≡◌, ◌<◌, ℕ, List, [], true, false, Option, Some, None, refl, sym, ap, ◌∙◌, true≢false}
use Rattle.std.specs.Prelude.{IsTrue, ◌^◌, is_some, pos}
use Rattle.std.proofs.lemmas.Bool.{lt-ltb}
use Rattle.vt_value.specs.declared.fault.FaultKind.{FaultKind}
use Rattle.vt_value.specs.declared.value.Value.{Value, out-Value, out-roll-Value}
use Rattle.vt_value.specs.declared.value.Value.TheOpen.{Value-F}
use Rattle.vt_value.specs.declared.value.Value.TheVariants.{Nil, Whole, rolls-Nil, rolls-Whole}
use Rattle.vt_value.specs.Kinds.{is_nil, nil_layer, whole_layer}
use Rattle.vt_event.specs.declared.kind.Kind.{Kind}
use Rattle.vt_event.specs.declared.kind.Kind.TheVariants.{Play, Synth, Sample, Fx, Cue, Set, Log, Took, Fault, Body, Defined, Started, Ended}
use Rattle.vt_event.specs.declared.place.Place.{Place}
use Rattle.vt_event.specs.declared.references.BlockRef.{BlockRef}
use Rattle.vt_event.specs.declared.references.FxId.{FxId}
use Rattle.vt_event.specs.Event.{IsEvent}
use Rattle.vt_event.specs.EventsByKind.{body_event, cue_event, defined_event, ended_event, fault_event, fx_event, log_event, nameless_event, play_event, sample_event, set_event, sound_event, started_event, synth_event, took_event}
use Rattle.vt_event.specs.Kinds.{goes_with, has_body, has_line, has_name, has_options, has_path, is_count, is_effect_number, is_note, is_sample_name}
use Rattle.vt_event.specs.Pairs.{Pairs}

nil_is : IsTrue (is_nil Nil)
nil_is = ap (λ (layer : Value-F Value). nil_layer layer) (sym (ap out-Value rolls-Nil) ∙ out-roll-Value Value-F.Nil)

number_is : (number : ℕ) → number < 2 ^ 32 → IsTrue (is_effect_number (Whole (pos number)))
number_is number small =
    ap (λ (layer : Value-F Value). is_count (whole_layer layer)) (sym (ap out-Value (rolls-Whole (pos number))) ∙ out-roll-Value (Value-F.Whole (pos number)))
    ∙ lt-ltb number (2 ^ 32) small

-- an event without a name, options and effect
nameless_fields : (place : Place) (kind : Kind) (path : Option (List (List ℕ))) (value : Value) (body : Option (BlockRef × Pairs)) (line : ℕ) →
    is_some path ≡ has_path kind → IsTrue (goes_with kind value) → is_some body ≡ has_body kind → (has_line kind ≡ false → line ≡ 0) → IsEvent (nameless_event place kind path value body line)
nameless_fields place kind path value body line path_fits value_fits body_fits line_fits = record {
  path_with_kind = path_fits;
  no_name = λ e. refl;
  value_with_kind = value_fits;
  no_options = λ e. refl;
  no_fx = λ e. refl;
  body_with_kind = body_fits;
  no_line = line_fits;
}

-- what sounds
sound_fields : (place : Place) (kind : Kind) (name : List ℕ) (value : Value) (options : Pairs) (fx : Option FxId) →
    has_path kind ≡ false → has_body kind ≡ false → has_options kind ≡ true → (has_name kind ≡ false → name ≡ []) → IsTrue (goes_with kind value) → IsEvent (sound_event place kind name value options fx)
sound_fields place kind name value options fx no_path no_body sounds name_fits value_fits = record {
  path_with_kind = sym no_path;
  no_name = name_fits;
  value_with_kind = value_fits;
  no_options = λ e. absurd (true≢false (sym sounds ∙ e));
  no_fx = λ e. absurd (true≢false (sym sounds ∙ e));
  body_with_kind = sym no_body;
  no_line = λ e. refl;
}

pub fault_fields : (place : Place) (fault : FaultKind) (line : ℕ) → IsEvent (fault_event place fault line)
fault_fields place fault line = nameless_fields place (Fault fault) None Nil None line refl nil_is refl (λ e. absurd (true≢false e))

pub ended_fields : (place : Place) (path : List (List ℕ)) → IsEvent (ended_event place path)
ended_fields place path = nameless_fields place Ended (Some path) Nil None 0 refl nil_is refl (λ e. refl)

pub started_fields : (place : Place) (path : List (List ℕ)) → IsEvent (started_event place path)
started_fields place path = nameless_fields place Started (Some path) Nil None 0 refl nil_is refl (λ e. refl)

pub body_fields : (place : Place) (path : List (List ℕ)) (block : BlockRef) (locals : Pairs) (line : ℕ) → IsEvent (body_event place path block locals line)
body_fields place path block locals line = nameless_fields place Body (Some path) Nil (Some (block, locals)) line refl nil_is refl (λ e. absurd (true≢false e))

pub defined_fields : (place : Place) (path : List (List ℕ)) (block : BlockRef) (locals : Pairs) → IsEvent (defined_event place path block locals)
defined_fields place path block locals = nameless_fields place Defined (Some path) Nil (Some (block, locals)) 0 refl nil_is refl (λ e. refl)

pub took_fields : (place : Place) (path : List (List ℕ)) (value : Value) → IsEvent (took_event place path value)
took_fields place path value = nameless_fields place Took (Some path) value None 0 refl refl refl (λ e. refl)

pub cue_fields : (place : Place) (path : List (List ℕ)) (value : Value) → IsEvent (cue_event place path value)
cue_fields place path value = nameless_fields place Cue (Some path) value None 0 refl refl refl (λ e. refl)

pub set_fields : (place : Place) (path : List (List ℕ)) (value : Value) → IsEvent (set_event place path value)
set_fields place path value = nameless_fields place Set (Some path) value None 0 refl refl refl (λ e. refl)

pub log_fields : (place : Place) (value : Value) → IsEvent (log_event place value)
log_fields place value = nameless_fields place Log None value None 0 refl refl refl (λ e. refl)

pub play_fields : (place : Place) (synth : List ℕ) (note : Value) (options : Pairs) (fx : Option FxId) → IsTrue (is_note note) → IsEvent (play_event place synth note options fx)
play_fields place synth note options fx number = sound_fields place Play synth note options fx refl refl refl (λ e. absurd (true≢false e)) number

pub synth_fields : (place : Place) (name : List ℕ) (options : Pairs) (fx : Option FxId) → IsEvent (synth_event place name options fx)
synth_fields place name options fx = sound_fields place Synth name Nil options fx refl refl refl (λ e. absurd (true≢false e)) nil_is

pub sample_fields : (place : Place) (sample : Value) (options : Pairs) (fx : Option FxId) → IsTrue (is_sample_name sample) → IsEvent (sample_event place sample options fx)
sample_fields place sample options fx named = sound_fields place Sample [] sample options fx refl refl refl (λ e. refl) named

-- an effect, whose number is one of 32 bits
pub fx_fields : (place : Place) (name : List ℕ) (number : ℕ) (options : Pairs) (fx : Option FxId) → number < 2 ^ 32 → IsEvent (fx_event place name number options fx)
fx_fields place name number options fx small = sound_fields place Fx name (Whole (pos number)) options fx refl refl refl (λ e. absurd (true≢false e)) (number_is number small)
