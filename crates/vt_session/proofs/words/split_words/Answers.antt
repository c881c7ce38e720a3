use Rattle.std.proofs.Common.{◌∙◌, List, ℕ, Bor, sym, ap, subst}
use Rattle.std.proofs.lemmas.List.{map_push}
use Rattle.vt_session.specs.private.Reading.{bytes_of}
use Rattle.vt_session.proofs.WordLemmas.{Splits, splits_end, splits_more}
use Rattle.vt_session.proofs.words.split_words.Goals as goal

pub returns-in-End : goal.returns-in-End
returns-in-End c = splits_end c.args.bytes.now c.reading.left.now (bytes_of c.reading.words.items) c.reading.invariant c.in-End.ensures

pub reading-preserved : goal.reading-preserved
reading-preserved c =
    subst (λ (ws : List (List ℕ)). Splits c.args.bytes.now c.in-Word.rest.now ws)
    (sym (ap bytes_of c.in_ok-push-in-Word.ensures.items ∙ map_push (λ (text : Bor (List ℕ)). text.now) c.reading.words.items c.in-Word.word))
    (splits_more c.args.bytes.now c.reading.left.now c.in-Word.word.now c.in-Word.rest.now (bytes_of c.reading.words.items) c.reading.invariant c.in-Word.ensures)
