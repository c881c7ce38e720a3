use Rattle.std.proofs.Common.{◌≡◌, ◌∙◌, ◌-◌, length, sym, ap, arith, rules}
use Rattle.vt_ring.specs.Streams.{words_from}
use Rattle.vt_prim.proofs.WordLists.{length-words, shuffle_fault, shuffle_fits}
use Rattle.vt_prim.proofs.shuffling.shuffled_by.Goals as goal

pub returns-in_err-list : goal.returns-in_err-list
returns-in_err-list c =
    let there = shuffle_fits c.args.items.now c.args.words.now (length c.args.items.now - 1) (sym c.are_within.ensures ∙ c.if-are_within.true) in
    search (rules, there)

pub shuffled-requires : goal.shuffled-requires
shuffled-requires c =
    omega (arith, ap length c.deref.ensures.value, ap length c.in_ok-list.ensures, length-words (words_from c.args.words.now) c.saturating_sub.result, c.saturating_sub.ensures)

pub returns : goal.returns
returns c = shuffle_fault c.args.items.now c.args.words.now (length c.args.items.now - 1) (sym c.are_within.ensures ∙ c.if-are_within.false)
