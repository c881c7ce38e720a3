-- What an event is: own.
use Rattle.std.specs.Prelude.{◌≡◌, ℕ, List, [], false, Option, None, IsTrue, is_some}
use Rattle.vt_value.specs.declared.value.Value.{Value}
use Rattle.vt_event.specs.declared.place.Place.{Place}
use Rattle.vt_event.specs.declared.kind.Kind.{Kind}
use Rattle.vt_event.specs.declared.references.FxId.{FxId}
use Rattle.vt_event.specs.declared.references.BlockRef.{BlockRef}
use Rattle.vt_event.specs.Pairs.{Pairs}
use Rattle.vt_event.specs.Kinds.{goes_with, has_body, has_line, has_name, has_options, has_path}

-- an event as contracts see it: what happened, and where
pub record EventView : Type 0 where
  pub place : Place
  pub kind : Kind
  pub path : Option (List (List ℕ))
  pub name : List ℕ
  pub value : Value
  pub options : Pairs
  pub fx : Option FxId
  pub body : Option (BlockRef × Pairs)
  pub line : ℕ

-- The fields that belong to the kind are there, and the value is of the sort that goes with it. Every other field is
-- empty: no path, no effect, no body, the empty name, no options, nil, line 0.
pub record IsEvent (event : EventView) : Type 0 where
  pub path_with_kind : is_some event.path ≡ has_path event.kind
  pub no_name : has_name event.kind ≡ false → event.name ≡ []
  pub value_with_kind : IsTrue (goes_with event.kind event.value)
  pub no_options : has_options event.kind ≡ false → event.options ≡ []
  pub no_fx : has_options event.kind ≡ false → event.fx ≡ None
  pub body_with_kind : is_some event.body ≡ has_body event.kind
  pub no_line : has_line event.kind ≡ false → event.line ≡ 0
