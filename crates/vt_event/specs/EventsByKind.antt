-- The events of each kind: own.
use Rattle.std.specs.Prelude.{ℕ, pos, List, [], Option, Some, None}
use Rattle.vt_path.specs.declared.path.Path.{Path}
use Rattle.vt_value.specs.declared.fault.FaultKind.{FaultKind}
use Rattle.vt_value.specs.declared.value.Value.{Value}
use Rattle.vt_value.specs.declared.value.Value.TheVariants.{Nil, Whole}
use Rattle.vt_event.specs.declared.place.Place.{Place}
use Rattle.vt_event.specs.declared.kind.Kind.{Kind}
use Rattle.vt_event.specs.declared.kind.Kind.TheVariants.{Play, Synth, Sample, Fx, Cue, Set, Log, Took, Fault, Body, Defined, Started, Ended}
use Rattle.vt_event.specs.declared.references.FxId.{FxId}
use Rattle.vt_event.specs.declared.references.BlockRef.{BlockRef}
use Rattle.vt_event.specs.Pairs.{Pairs}
use Rattle.vt_event.specs.Event.{EventView}

-- what sounds: a name or none, a value, options, and the effect in which it stands
abbrev pub sound_event : Place → Kind → List ℕ → Value → Pairs → Option FxId → EventView
sound_event place kind name value options fx = record { place = place; kind = kind; path = None; name = name; value = value; options = options; fx = fx; body = None; line = 0 }

-- a note is played by a synth
abbrev pub play_event : Place → List ℕ → Value → Pairs → Option FxId → EventView
play_event place synth note options fx = sound_event place Play synth note options fx

-- a synth is started without a note
abbrev pub synth_event : Place → List ℕ → Pairs → Option FxId → EventView
synth_event place name options fx = sound_event place Synth name Nil options fx

-- a sample is played
abbrev pub sample_event : Place → Value → Pairs → Option FxId → EventView
sample_event place sample options fx = sound_event place Sample [] sample options fx

-- an effect begins, with its own number, in another one or in none
abbrev pub fx_event : Place → List ℕ → ℕ → Pairs → Option FxId → EventView
fx_event place name number options fx = sound_event place Fx name (Whole (pos number)) options fx

-- an event without a name, options and effect
abbrev pub nameless_event : Place → Kind → Option Path → Value → Option (BlockRef × Pairs) → ℕ → EventView
nameless_event place kind path value body line = record { place = place; kind = kind; path = path; name = []; value = value; options = []; fx = None; body = body; line = line }

-- what stands at a path with a value
abbrev pub path_event : Place → Kind → Path → Value → EventView
path_event place kind path value = nameless_event place kind (Some path) value None 0

-- a cue is published at a path, with a value
abbrev pub cue_event : Place → Path → Value → EventView
cue_event place path value = path_event place Cue path value

-- a value is set at a path
abbrev pub set_event : Place → Path → Value → EventView
set_event place path value = path_event place Set path value

-- a waiting thread goes on, with the path and value that it waited for
abbrev pub took_event : Place → Path → Value → EventView
took_event place path value = path_event place Took path value

-- a named thread or a live loop starts
abbrev pub started_event : Place → Path → EventView
started_event place path = path_event place Started path Nil

-- a named thread ends, or a live loop is told to stop: the path says which
abbrev pub ended_event : Place → Path → EventView
ended_event place path = path_event place Ended path Nil

-- what is written out
abbrev pub log_event : Place → Value → EventView
log_event place value = nameless_event place Log None value None 0

-- a fault, with its line in the input
abbrev pub fault_event : Place → FaultKind → ℕ → EventView
fault_event place fault line = nameless_event place (Fault fault) None Nil None line

-- a block and its locals are kept at a path
abbrev pub block_event : Place → Kind → Path → BlockRef → Pairs → ℕ → EventView
block_event place kind path block locals line = nameless_event place kind (Some path) Nil (Some (block, locals)) line

-- the body of a live loop, with the line of its statement
abbrev pub body_event : Place → Path → BlockRef → Pairs → ℕ → EventView
body_event place path block locals line = block_event place Body path block locals line

-- a defined function
abbrev pub defined_event : Place → Path → BlockRef → Pairs → EventView
defined_event place path block locals = block_event place Defined path block locals 0
