-- What actions and values cost: own.
use Rattle.std.specs.Prelude.{ℕ, ◌+◌, List, map, Bool, true, false, cond, Option, Some, None}
use Rattle.vt_value.specs.declared.value.Value.{Value, out-Value}
use Rattle.vt_value.specs.declared.value.Value.TheOpen.{Value-F}
use Rattle.vt_value.specs.Sizes.{size_of, sizes_of}
use Rattle.vt_event.specs.declared.kind.Kind.{Kind}
use Rattle.vt_event.specs.declared.kind.Kind.TheVariants.{Play, Sample, Cue, Set, Log, Took}
use Rattle.vt_event.specs.declared.references.BlockRef.{BlockRef}
use Rattle.vt_event.specs.Event.{EventView}
use Rattle.vt_event.specs.Pairs.{Pairs}

-- the sizes of the values of locals or options, together
abbrev pub pair_sizes : Pairs → ℕ
pair_sizes pairs = sizes_of (map (λ (pair : List ℕ × Value). pair.1) pairs)

abbrev pub is_sized_layer : {A : Type 0} → Value-F A → Bool
is_sized_layer (Value-F.Ring items) = true
is_sized_layer (Value-F.Text bytes) = true
is_sized_layer _ = false

-- what a node adds as its value is known: the size of a ring or a text, and nothing for another value
abbrev pub node_size : Value → ℕ
node_size value = cond (is_sized_layer (out-Value value)) (size_of value) 0

-- the size of an event's value, where the kind has one that counts
abbrev pub event_size : Kind → Value → ℕ
event_size Play value = size_of value
event_size Sample value = size_of value
event_size Cue value = size_of value
event_size Set value = size_of value
event_size Log value = size_of value
event_size Took value = size_of value
event_size _ value = 0

abbrev pub body_sizes : Option (BlockRef × Pairs) → ℕ
body_sizes None = 0
body_sizes (Some body) = pair_sizes body.1

-- an event is published: 1, and the sizes of its value, of its options and of the locals that are copied with it
abbrev pub emit_cost : EventView → ℕ
emit_cost event = 1 + (event_size event.kind event.value + (pair_sizes event.options + body_sizes event.body))

-- a thread is started: 16, the sizes of the locals that are copied, and the size of the value that is handed over with them
abbrev pub spawn_cost : Pairs → ℕ → ℕ
spawn_cost locals handed = 16 + (pair_sizes locals + handed)

-- the size of a value, where one is given
abbrev pub size_if_given : Option Value → ℕ
size_if_given None = 0
size_if_given (Some value) = size_of value
