use Rattle.std.proofs.Common.{◌∙◌, sym, refl}
use Rattle.vt_lex.specs.Bytes.{is_blank}
use Rattle.vt_session.proofs.WordLemmas.{all_of_prefix, next_found, no_size, none_without_gap, size_within}
use Rattle.vt_session.proofs.words.next_word.Goals as goal

pub returns-then-gap-bytes : goal.returns-then-gap-bytes
returns-then-gap-bytes c = all_of_prefix is_blank c.args.bytes.now (sym c.blanks_len-gap.ensures.longest ∙ c.if-gap-bytes.true)

pub returns-then-gap-eq0 : goal.returns-then-gap-eq0
returns-then-gap-eq0 c = none_without_gap c.args.bytes.now (sym c.blanks_len-gap.ensures.longest ∙ c.if-gap-eq0.true) (λ e. c.if-gap-bytes.false (c.blanks_len-gap.ensures.longest ∙ e))

pub word_of-requires : goal.word_of-requires
word_of-requires c = size_within c.args.bytes.now _ c.blanks_len-gap.result c.blanks_len-gap.ensures.longest refl c.in-Some.len c.in-Some.ensures

pub returns-in-Some : goal.returns-in-Some
returns-in-Some c =
    next_found c.args.bytes.now _ c.blanks_len-gap.result c.blanks_len-gap.ensures.longest refl c.in-Some.len c.word_of.result c.in-Some.ensures c.if-gap-eq0.false c.if-gap-bytes.false c.word_of.ensures

pub returns-in-None : goal.returns-in-None
returns-in-None c = no_size c.args.bytes.now _ c.blanks_len-gap.result c.blanks_len-gap.ensures.longest refl c.in-None.ensures c.if-gap-bytes.false
