use Rattle.std.proofs.Common.{◌≡◌, ◌<◌, ◌^◌, ◌++◌, [], ℕ, List, length, get_or, Bool, true, false, cond, Ok, Err, sym, ap, ◌∙◌}
use Rattle.std.specs.Result.{is_ok}
use Rattle.std.proofs.lemmas.List.{append-nil}
use Rattle.std.proofs.lemmas.Result.{err_from_is_err_and}
use Rattle.vt_value.specs.declared.fault.FaultKind.TheVariants.{TooLarge}
use Rattle.vt_value.specs.declared.value.Value.{Value}
use Rattle.vt_value.specs.Arithmetic.{are_within}
use Rattle.vt_ring.specs.Shuffling.{shuffled_by, shuffle_of}
use Rattle.vt_ring.proofs.LimitLemmas.{within_same, within_few}
use Rattle.vt_ring.proofs.ShuffleLemmas.{shuffled_same}
use Rattle.vt_ring.proofs.shuffling.shuffled.Goals as goal

-- the limits of the shuffled items are those of the items
by_items : (items : List Value) (words : List ℕ) (within : Bool) → ((i : ℕ) → i < length words → get_or words i 0 < 2 ^ 32) → within ≡ are_within (items ++ []) → shuffle_of items words ≡ cond within (Ok (shuffled_by items words)) (Err TooLarge)
by_items items words within fit h =
    let same = shuffled_same items words fit in
    ap (λ b. cond b (Ok (shuffled_by items words)) (Err TooLarge)) (within_same (shuffled_by items words) items same.0 same.1 ∙ sym (ap are_within (append-nil items)) ∙ sym h)

pub returns-then-not-is_within : goal.returns-then-not-is_within
returns-then-not-is_within c = by_items c.args.items.now c.args.words.now false (λ i h. (c.type_inv.words i).fits) c.if-not-is_within.ensures

pub exchanged_copies-requires-clause-few : goal.exchanged_copies-requires-clause-few
exchanged_copies-requires-clause-few c = within_few c.args.items.now (sym (c.if-not-is_within.ensures ∙ ap are_within (append-nil c.args.items.now)))

pub returns-in_err-list : goal.returns-in_err-list
returns-in_err-list c =
    let p = err_from_is_err_and c.from_residual.result c.from_residual.ensures.1 in
    rw (p.1, p.2) (ap is_ok (by_items c.args.items.now c.args.words.now true (λ i h. (c.type_inv.words i).fits) c.if-not-is_within.ensures))

pub returns : goal.returns
returns c = by_items c.args.items.now c.args.words.now true (λ i h. (c.type_inv.words i).fits) c.if-not-is_within.ensures ∙ ap (λ list. Ok list) (sym c.in_ok-list.ensures)
