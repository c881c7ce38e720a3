use Rattle.std.proofs.Common.{◌≡◌, ◌∙◌, List, Result, Ok, IsOk, refl, sym, ap, subst, rules}
use Rattle.vt_rand.specs.Draw.{RandomStream}
use Rattle.vt_value.specs.declared.fault.FaultKind.{FaultKind}
use Rattle.vt_value.specs.declared.value.Value.{Value}
use Rattle.vt_ring.specs.Limits.{within_limits}
use Rattle.vt_ring.specs.RandomCalls.{choices}
use Rattle.vt_ring.specs.Streams.{words_from}
use Rattle.vt_prim.proofs.WordLists.{not_too_large, too_large}
use Rattle.vt_prim.proofs.picking.picked.Goals as goal

pub returns-in_err-list-clause-value : goal.returns-in_err-list-clause-value
returns-in_err-list-clause-value c =
    let fits = not_too_large c.args.items.now (words_from c.args.stream.now) c.args.count c.size_of_choices-size.result c.requires.few c.size_of_choices-size.ensures.value c.if-size-ge-MAX_SIZE.false in
    let there : IsOk (within_limits (choices c.args.items.now (words_from c.args.stream.now) c.args.count)) = subst IsOk (sym fits) refl in
    search (rules, there)

pub returns-clause-value : goal.returns-clause-value
returns-clause-value c =
    not_too_large c.args.items.now (words_from c.args.stream.now) c.args.count c.size_of_choices-size.result c.requires.few c.size_of_choices-size.ensures.value c.if-size-ge-MAX_SIZE.false
    ∙ ap (λ (xs : List Value). let r : Result (List Value) FaultKind = Ok xs in r)
    (ap (λ (s : RandomStream). choices c.args.items.now (words_from s) c.args.count) (sym c.copy_of-words.ensures) ∙ sym c.in_ok-list.ensures)
