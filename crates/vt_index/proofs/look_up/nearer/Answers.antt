use Rattle.std.proofs.Common.{List, ℕ, length, sym, subst, ◌∙◌, true≢false}
use Rattle.vt_event.specs.Order.{place_of}
use Rattle.vt_index.specs.private.Nearest.{NearestOf, StandsIn}
use Rattle.vt_index.specs.private.Rows.{AreWithin}
use Rattle.vt_index.proofs.LookUpLemmas.{row_kept, row_passed, row_taken}
use Rattle.vt_index.proofs.RowLemmas.{row_within}
use Rattle.vt_index.proofs.look_up.nearer.Goals as goal

pub returns-then-not-matches : goal.returns-then-not-matches
returns-then-not-matches c = λ seen so_far.
    row_passed c.args.events.now seen c.args.row.now c.args.pattern.now c.args.side (place_of c.args.place.now) c.args.found
    (λ matched. true≢false (sym (c.matches.ensures.1 matched) ∙ c.if-not-matches.true)) so_far

pub nearest_in_row-other-requires-clause-within : goal.nearest_in_row-other-requires-clause-within
nearest_in_row-other-requires-clause-within c =
    subst (AreWithin (length c.args.events.now)) (sym c.as_slice.ensures.value) (row_within c.args.events.now (length c.args.events.now) c.args.row.now c.requires)

pub returns-then-is_better : goal.returns-then-is_better
returns-then-is_better c = λ seen so_far.
    row_taken c.args.events.now seen c.args.row.now c.args.pattern.now c.args.side (place_of c.args.place.now) c.args.found c.nearest_in_row-other.result
    (c.matches.ensures.0 c.if-not-matches.false) (c.is_better.ensures.0 c.if-is_better.true) so_far
    (subst (λ (at : List ℕ). NearestOf (StandsIn c.args.events.now at) c.args.side (place_of c.args.place.now) c.nearest_in_row-other.result) c.as_slice.ensures.value c.nearest_in_row-other.ensures)

pub returns : goal.returns
returns c = λ seen so_far.
    row_kept c.args.events.now seen c.args.row.now c.args.pattern.now c.args.side (place_of c.args.place.now) c.args.found c.nearest_in_row-other.result
    (c.matches.ensures.0 c.if-not-matches.false) (λ better. true≢false (sym (c.is_better.ensures.1 better) ∙ c.if-is_better.false)) so_far
    (subst (λ (at : List ℕ). NearestOf (StandsIn c.args.events.now at) c.args.side (place_of c.args.place.now) c.nearest_in_row-other.result) c.as_slice.ensures.value c.nearest_in_row-other.ensures)
