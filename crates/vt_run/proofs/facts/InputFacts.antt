-- An orderly input is within the limits of the language.
use Rattle.std.proofs.Common.{◌≡◌, ℕ, ◌+◌, zero, suc, List, [], ◌∷◌, map, false, Option, Some, None, IsSomeAnd, inl, inr, refl, sym, subst, ◌∙◌, true≢false, slice_get}
use Rattle.std.specs.Prelude.{is_some}
use Rattle.std.specs.List.{AllByRecursion}
use Rattle.std.proofs.lemmas.List.Elements.{recursion_from_All}
use Rattle.vt_frac.specs.Fraction.{IsFraction}
use Rattle.vt_path.specs.declared.inner_path.InnerKind.TheVariants.{Stop}
use Rattle.vt_path.specs.Path.{IsPath}
use Rattle.vt_event.specs.declared.kind.Kind.{Kind}
use Rattle.vt_event.specs.declared.kind.Kind.TheVariants.{Cue, Set, Ended}
use Rattle.vt_event.specs.declared.references.BlockRef.{BlockRef}
use Rattle.vt_event.specs.Event.{EventView}
use Rattle.vt_event.specs.Kinds.{has_body, has_name, has_options}
use Rattle.vt_event.specs.Orderly.{IsGiven, IsInput, IsStopPath}
use Rattle.vt_event.specs.Pairs.{Pairs}
use Rattle.vt_run.specs.laws.StartLaws.{InputLaw}
use Rattle.vt_run.specs.Limits.{ArePairsWithin, IsBodyWithin, IsEventWithin, IsSomePathWithin}

written_path : (path : Option (List (List ℕ))) → IsSomeAnd path IsPath → IsSomePathWithin path
written_path None h = absurd h
written_path (Some path) h = inl h

stop_path : (path : Option (List (List ℕ))) → IsSomeAnd path IsStopPath → IsSomePathWithin path
stop_path None h = absurd h
stop_path (Some path) h = inr (record { kind = Stop; name = h.name; symbol = h.symbol; whole = h.whole })

-- the path is within the limits, and the kind is one without a name, options and a body
record IsInputWithin (kind : Kind) (event : EventView) : Type 0 where
  path : IsSomePathWithin event.path
  no_name : has_name kind ≡ false
  no_options : has_options kind ≡ false
  no_body : has_body kind ≡ false

given_within : (kind : Kind) (event : EventView) → IsGiven kind event → IsInputWithin kind event
given_within Cue event given = record { path = written_path event.path given.path; no_name = refl; no_options = refl; no_body = refl }
given_within Set event given = record { path = written_path event.path given.path; no_name = refl; no_options = refl; no_body = refl }
given_within Ended event given = record { path = stop_path event.path given; no_name = refl; no_options = refl; no_body = refl }
given_within _ event given = absurd given

no_body_within : (body : Option (BlockRef × Pairs)) → is_some body ≡ false → IsBodyWithin body
no_body_within None e = tt
no_body_within (Some body) e = absurd (true≢false e)

input_within : (number : ℕ) (event : EventView) → IsInput number event → IsFraction event.place.time → IsEventWithin event
input_within number event input time =
    let given = given_within event.kind event input.form in
    record {
      time = time;
      path = given.path;
      name = λ has. absurd (true≢false (sym has ∙ given.no_name));
      value = input.within;
      options = subst ArePairsWithin (sym (input.fields.no_options given.no_options)) tt;
      body = no_body_within event.body (input.fields.body_with_kind ∙ given.no_body);
    }

fraction_at : (inputs : List EventView) (k : ℕ) (input : EventView) → AllByRecursion IsFraction (map (λ (event : EventView). event.place.time) inputs) → slice_get inputs k ≡ Some input → IsFraction input.place.time
fraction_at [] k input each e = absurd (let z : None ≡ Some input = e in cc)
fraction_at (first ∷ inputs) zero input each e = let same : first ≡ input = cc in subst (λ (event : EventView). IsFraction event.place.time) same each.0
fraction_at (first ∷ inputs) (suc k) input each e = fraction_at inputs k input each.1 e

pub input_law : InputLaw
input_law text_times inputs k input orderly e =
    let held = orderly.each k input e in
    let times = recursion_from_All IsFraction (map (λ (event : EventView). event.place.time) inputs) orderly.inputs_times.fractions in
    (held.fields, input_within (k + 1) input held (fraction_at inputs k input times e))
