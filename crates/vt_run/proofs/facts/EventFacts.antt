-- Events of each kind are well made.
use Rattle.std.proofs.Common.{◌≡◌, ◌≢◌, ◌<◌, ℕ, List, [], ◌∷◌, Option, Some, None, inl, inr, refl, sym, ap, subst, ◌∙◌, true≢false, arith}
use Rattle.std.specs.Prelude.{IsTrue, ◌^◌, codes, pos}
use Rattle.vt_frac.specs.Fraction.{IsFraction}
use Rattle.vt_path.specs.declared.inner_path.InnerKind.{InnerKind}
use Rattle.vt_path.specs.declared.inner_path.InnerKind.TheVariants.{Body as BodyPath, Def as DefPath, Named as NamedPath, Looped as LoopedPath, Stop as StopPath}
use Rattle.vt_path.specs.Inner.{IsInner, inner_of}
use Rattle.vt_value.specs.declared.fault.FaultKind.{FaultKind}
use Rattle.vt_value.specs.declared.value.Value.{Value}
use Rattle.vt_value.specs.declared.value.Value.TheVariants.{Ring}
use Rattle.vt_value.specs.Limits.{IsWithin}
use Rattle.vt_frac.specs.Names.{is_symbol_name}
use Rattle.vt_event.specs.declared.place.Place.{Place}
use Rattle.vt_event.specs.declared.references.BlockRef.{BlockRef}
use Rattle.vt_event.specs.declared.references.FxId.{FxId}
use Rattle.vt_event.specs.EventsByKind.{body_event, cue_event, defined_event, ended_event, fault_event, fx_event, log_event, play_event, sample_event, set_event, started_event, synth_event, took_event}
use Rattle.vt_event.specs.Kinds.{is_note, is_sample_name}
use Rattle.vt_event.specs.Pairs.{Pairs}
use Rattle.vt_event.proofs.EventFields.{body_fields, cue_fields, defined_fields, ended_fields, fault_fields, fx_fields, log_fields, play_fields, sample_fields, set_fields, started_fields, synth_fields, took_fields}
use Rattle.vt_run.specs.declared.role.Role.{Role}
use Rattle.vt_run.specs.declared.role.Role.TheVariants.{Plain, Named, Looped, Timed}
use Rattle.vt_run.specs.Actions.{name_path}
use Rattle.vt_run.specs.Limits.{ArePairsWithin, IsEventWithin, IsPathWithin, IsRoleWithin}
use Rattle.vt_run.specs.WellMade.{IsWellMade}
use Rattle.vt_run.proofs.facts.Known.{IsTold, Quiet}
use Rattle.vt_run.proofs.facts.NameFacts.{live_loop_segment, named_path, word_outside}
use Rattle.vt_ring.proofs.limits.Values.{within_nil, within_ring, within_whole}
use Rattle.vt_event.specs.Event.{EventView}

some_same : {X : Type 0} {x y : X} → Some x ≡ Some y → x ≡ y
some_same e = cc

no_some : {X : Type 0} {x : X} → None ≡ Some x → ⊥
no_some e = cc

pub fault_told : (L : Type 0) (T : EventView → Type 0) (kind : FaultKind) (line : ℕ) (place : Place) → (L → IsFraction place.time) → Quiet L T → IsTold L T place (fault_event place kind line)
fault_told L T kind line place time quiet = record {
  placed = refl;
  made = record {
    fields = fault_fields place kind line;
    outside = λ w. absurd (true≢false (sym w));
    unstopped = λ k name e. no_some e;
  };
  within = λ l. record { time = time l; path = tt; name = λ n. absurd (true≢false (sym n)); value = within_nil; options = tt; body = tt };
  told = λ l. quiet l _ refl;
}

pub ended_told : (L : Type 0) (T : EventView → Type 0) (path : List (List ℕ)) (place : Place) → ((name : List ℕ) → path ≢ inner_of StopPath name) → (L → IsInner path) → (L → IsFraction place.time) → (L → T (ended_event place path)) → IsTold L T place (ended_event place path)
ended_told L T path place clear inner time told = record {
  placed = refl;
  made = record {
    fields = ended_fields place path;
    outside = λ w. absurd (true≢false (sym w));
    unstopped = λ k name e. clear name (some_same e);
  };
  within = λ l. record { time = time l; path = inr (inner l); name = λ n. absurd (true≢false (sym n)); value = within_nil; options = tt; body = tt };
  told = told;
}

pub started_told : (L : Type 0) (T : EventView → Type 0) (path : List (List ℕ)) (place : Place) → ((name : List ℕ) → path ≢ inner_of StopPath name) → (L → IsInner path) → (L → IsFraction place.time) → (L → T (started_event place path)) → IsTold L T place (started_event place path)
started_told L T path place clear inner time told = record {
  placed = refl;
  made = record {
    fields = started_fields place path;
    outside = λ w. absurd (true≢false (sym w));
    unstopped = λ k name e. clear name (some_same e);
  };
  within = λ l. record { time = time l; path = inr (inner l); name = λ n. absurd (true≢false (sym n)); value = within_nil; options = tt; body = tt };
  told = told;
}

pub body_told : (L : Type 0) (T : EventView → Type 0) (path : List (List ℕ)) (block : BlockRef) (locals : Pairs) (line : ℕ) (place : Place) →
    ((name : List ℕ) → path ≢ inner_of StopPath name) → (L → IsInner path) → (L → ArePairsWithin locals) → (L → IsFraction place.time) → (L → T (body_event place path block locals line)) → IsTold L T place (body_event place path block locals line)
body_told L T path block locals line place clear inner pairs time told = record {
  placed = refl;
  made = record {
    fields = body_fields place path block locals line;
    outside = λ w. absurd (true≢false (sym w));
    unstopped = λ k name e. clear name (some_same e);
  };
  within = λ l. record { time = time l; path = inr (inner l); name = λ n. absurd (true≢false (sym n)); value = within_nil; options = tt; body = pairs l };
  told = told;
}

pub defined_told : (L : Type 0) (T : EventView → Type 0) (path : List (List ℕ)) (block : BlockRef) (locals : Pairs) (place : Place) →
    ((name : List ℕ) → path ≢ inner_of StopPath name) → (L → IsInner path) → (L → ArePairsWithin locals) → (L → IsFraction place.time) → (L → T (defined_event place path block locals)) → IsTold L T place (defined_event place path block locals)
defined_told L T path block locals place clear inner pairs time told = record {
  placed = refl;
  made = record {
    fields = defined_fields place path block locals;
    outside = λ w. absurd (true≢false (sym w));
    unstopped = λ k name e. clear name (some_same e);
  };
  within = λ l. record { time = time l; path = inr (inner l); name = λ n. absurd (true≢false (sym n)); value = within_nil; options = tt; body = pairs l };
  told = told;
}

pub took_told : (L : Type 0) (T : EventView → Type 0) (path : List (List ℕ)) (value : Value) (place : Place) →
    (L → IsPathWithin path) → (L → IsWithin value) → (L → IsFraction place.time) → (L → T (took_event place path value)) → IsTold L T place (took_event place path value)
took_told L T path value place good held time told = record {
  placed = refl;
  made = record {
    fields = took_fields place path value;
    outside = λ w. absurd (true≢false (sym w));
    unstopped = λ k. absurd (k refl);
  };
  within = λ l. record { time = time l; path = good l; name = λ n. absurd (true≢false (sym n)); value = held l; options = tt; body = tt };
  told = told;
}

pub cue_told : (L : Type 0) (T : EventView → Type 0) (path : List (List ℕ)) (value : Value) (place : Place) →
    (L → IsPathWithin path) → (L → IsWithin value) → (L → IsFraction place.time) → ((kind : InnerKind) (name : List ℕ) → path ≢ inner_of kind name) → (L → T (cue_event place path value)) → IsTold L T place (cue_event place path value)
cue_told L T path value place good held time other told = record {
  placed = refl;
  made = record {
    fields = cue_fields place path value;
    outside = λ w kind name e. other kind name (some_same e);
    unstopped = λ k name e. other StopPath name (some_same e);
  };
  within = λ l. record { time = time l; path = good l; name = λ n. absurd (true≢false (sym n)); value = held l; options = tt; body = tt };
  told = told;
}

-- a live loop tells of each of its turns
pub turn_told : (L : Type 0) (T : EventView → Type 0) (name : List ℕ) (place : Place) → (L → IsTrue (is_symbol_name name)) → (L → IsFraction place.time) → (L → T (cue_event place (codes "live_loop" ∷ name ∷ []) (Ring []))) → IsTold L T place (cue_event place (codes "live_loop" ∷ name ∷ []) (Ring []))
turn_told L T name place symbol time told =
    cue_told L T (codes "live_loop" ∷ name ∷ []) (Ring []) place (λ l. inl (named_path (codes "live_loop") name live_loop_segment (symbol l))) (λ l. within_ring [] refl tt) time
    (word_outside (codes "live_loop") name live_loop_segment) told

pub set_told : (L : Type 0) (T : EventView → Type 0) (path : List (List ℕ)) (value : Value) (place : Place) →
    (L → IsPathWithin path) → (L → IsWithin value) → (L → IsFraction place.time) → ((kind : InnerKind) (name : List ℕ) → path ≢ inner_of kind name) → (L → T (set_event place path value)) → IsTold L T place (set_event place path value)
set_told L T path value place good held time other told = record {
  placed = refl;
  made = record {
    fields = set_fields place path value;
    outside = λ w kind name e. other kind name (some_same e);
    unstopped = λ k name e. other StopPath name (some_same e);
  };
  within = λ l. record { time = time l; path = good l; name = λ n. absurd (true≢false (sym n)); value = held l; options = tt; body = tt };
  told = told;
}

pub log_told : (L : Type 0) (T : EventView → Type 0) (value : Value) (place : Place) → (L → IsWithin value) → (L → IsFraction place.time) → Quiet L T → IsTold L T place (log_event place value)
log_told L T value place held time quiet = record {
  placed = refl;
  made = record {
    fields = log_fields place value;
    outside = λ w. absurd (true≢false (sym w));
    unstopped = λ k name e. no_some e;
  };
  within = λ l. record { time = time l; path = tt; name = λ n. absurd (true≢false (sym n)); value = held l; options = tt; body = tt };
  told = λ l. quiet l _ refl;
}

pub play_told : (L : Type 0) (T : EventView → Type 0) (synth : List ℕ) (note : Value) (options : Pairs) (fx : Option FxId) (place : Place) →
    IsTrue (is_note note) → (L → IsTrue (is_symbol_name synth)) → (L → IsWithin note) → (L → ArePairsWithin options) → (L → IsFraction place.time) →
    Quiet L T → IsTold L T place (play_event place synth note options fx)
play_told L T synth note options fx place number symbol held pairs time quiet = record {
  placed = refl;
  made = record {
    fields = play_fields place synth note options fx number;
    outside = λ w. absurd (true≢false (sym w));
    unstopped = λ k name e. no_some e;
  };
  within = λ l. record { time = time l; path = tt; name = λ n. symbol l; value = held l; options = pairs l; body = tt };
  told = λ l. quiet l _ refl;
}

pub synth_told : (L : Type 0) (T : EventView → Type 0) (name : List ℕ) (options : Pairs) (fx : Option FxId) (place : Place) →
    (L → IsTrue (is_symbol_name name)) → (L → ArePairsWithin options) → (L → IsFraction place.time) → Quiet L T → IsTold L T place (synth_event place name options fx)
synth_told L T name options fx place symbol pairs time quiet = record {
  placed = refl;
  made = record {
    fields = synth_fields place name options fx;
    outside = λ w. absurd (true≢false (sym w));
    unstopped = λ k name e. no_some e;
  };
  within = λ l. record { time = time l; path = tt; name = λ n. symbol l; value = within_nil; options = pairs l; body = tt };
  told = λ l. quiet l _ refl;
}

pub sample_told : (L : Type 0) (T : EventView → Type 0) (sample : Value) (options : Pairs) (fx : Option FxId) (place : Place) →
    IsTrue (is_sample_name sample) → (L → IsWithin sample) → (L → ArePairsWithin options) → (L → IsFraction place.time) → Quiet L T → IsTold L T place (sample_event place sample options fx)
sample_told L T sample options fx place named held pairs time quiet = record {
  placed = refl;
  made = record {
    fields = sample_fields place sample options fx named;
    outside = λ w. absurd (true≢false (sym w));
    unstopped = λ k name e. no_some e;
  };
  within = λ l. record { time = time l; path = tt; name = λ n. absurd (true≢false (sym n)); value = held l; options = pairs l; body = tt };
  told = λ l. quiet l _ refl;
}

-- an effect, whose number is one of 32 bits
pub fx_made : (place : Place) (name : List ℕ) (number : ℕ) (options : Pairs) (fx : Option FxId) → number < 2 ^ 32 → IsWellMade (fx_event place name number options fx)
fx_made place name number options fx small = record {
  fields = fx_fields place name number options fx small;
  outside = λ w. absurd (true≢false (sym w));
  unstopped = λ k name e. no_some e;
}

pub fx_within : (place : Place) (name : List ℕ) (number : ℕ) (options : Pairs) (fx : Option FxId) →
    IsFraction place.time → IsTrue (is_symbol_name name) → ArePairsWithin options → number < 2 ^ 63 → IsEventWithin (fx_event place name number options fx)
fx_within place name number options fx time symbol pairs small =
    record { time = time; path = tt; name = λ n. symbol; value = within_whole (pos number) small; options = pairs; body = tt }

-- the inner path of a symbol's name
pub inner_path : (kind : InnerKind) (name : List ℕ) → IsTrue (is_symbol_name name) → IsInner (inner_of kind name)
inner_path kind name symbol = record { kind = kind; name = name; symbol = symbol; whole = refl }

-- the path at which a thread tells of its start and of its end
pub name_path_inner : (role : Role) (path : List (List ℕ)) → IsRoleWithin role → name_path role ≡ Some path → IsInner path
name_path_inner Plain path held e = absurd (no_some e)
name_path_inner (Named name) path held e = subst IsInner (some_same e) (inner_path NamedPath name held)
name_path_inner (Looped name wait init) path held e = subst IsInner (some_same e) (inner_path LoopedPath name held.0)
name_path_inner (Timed rest given line) path held e = absurd (no_some e)

-- the second byte of the first word of a path
abbrev mark : List (List ℕ) → ℕ
mark ((a ∷ b ∷ bytes) ∷ words) = b
mark _ = 0

-- a thread tells of its start and of its end, of bodies and of functions at no path of a stop
pub body_unstopped : (name other : List ℕ) → inner_of BodyPath name ≢ inner_of StopPath other
body_unstopped name other e = let z : ◌≡◌ {A = ℕ} 98 115 = ap mark e in omega arith

pub def_unstopped : (name other : List ℕ) → inner_of DefPath name ≢ inner_of StopPath other
def_unstopped name other e = let z : ◌≡◌ {A = ℕ} 100 115 = ap mark e in omega arith

named_unstopped : (name other : List ℕ) → inner_of NamedPath name ≢ inner_of StopPath other
named_unstopped name other e = let z : ◌≡◌ {A = ℕ} 110 115 = ap mark e in omega arith

looped_unstopped : (name other : List ℕ) → inner_of LoopedPath name ≢ inner_of StopPath other
looped_unstopped name other e = let z : ◌≡◌ {A = ℕ} 108 115 = ap mark e in omega arith

pub name_path_unstopped : (role : Role) (path : List (List ℕ)) → name_path role ≡ Some path → (name : List ℕ) → path ≢ inner_of StopPath name
name_path_unstopped Plain path e name same = no_some e
name_path_unstopped (Named own) path e name same = named_unstopped own name (some_same e ∙ same)
name_path_unstopped (Looped own wait init) path e name same = looped_unstopped own name (some_same e ∙ same)
name_path_unstopped (Timed rest given line) path e name same = no_some e
