use Rattle.std.proofs.Common.{◌∙◌, ℕ, List, Bor, length, ap, arith}
use Rattle.std.specs.List.{concat}
use Rattle.vt_session.specs.Words.{AreWords}
use Rattle.vt_session.specs.private.Reading.{AreNoWords, bytes_of, line_in, told}
use Rattle.vt_session.proofs.FormLemmas.{if_ok, read_none_cut, read_some_cut, rest_short}
use Rattle.vt_session.proofs.WordLemmas.{words_short}
use Rattle.vt_session.proofs.directive.read_directive.Goals as goal

pub told-requires : goal.told-requires
told-requires c =
    let rest = c.split_at.result.1.now in
    let h : AreWords (bytes_of c.in-Some.words.items) rest = rw c.in-Some.is at c.in_ok-words.ensures in
    let short = rest_short c.args.line.now c.content-bytes.result.now c.split_at.result.0.now rest c.name_len.result c.content-bytes.ensures c.name_len.ensures.longest c.split_at.ensures.front c.split_at.ensures.back in
    omega (arith, words_short (bytes_of c.in-Some.words.items) rest h, short, c.requires.short, ap (λ (xs : List (Bor (List ℕ))). length (concat (bytes_of xs))) c.as_slice.ensures.value)

pub returns-in-Some : goal.returns-in-Some
returns-in-Some c =
    let rest = c.split_at.result.1.now in
    let h : AreWords (bytes_of c.in-Some.words.items) rest = rw c.in-Some.is at c.in_ok-words.ensures in
    if_ok c.told.result _ _ c.told.ensures
    (λ read e. read_some_cut c.args.line.now c.content-bytes.result.now c.split_at.result.0.now rest c.name_len.result c.content-bytes.ensures c.name_len.ensures.longest c.split_at.ensures.front c.split_at.ensures.back
    (bytes_of c.in-Some.words.items) (line_in read) c.requires.begins h (e ∙ ap (λ (xs : List (Bor (List ℕ))). told c.split_at.result.0.now (bytes_of xs)) c.as_slice.ensures.value))

pub returns-in-None : goal.returns-in-None
returns-in-None c =
    let rest = c.split_at.result.1.now in
    let none : AreNoWords rest = rw c.in-None.is at c.in_ok-words.ensures in
    read_none_cut c.args.line.now c.content-bytes.result.now c.split_at.result.0.now rest c.name_len.result c.content-bytes.ensures c.name_len.ensures.longest c.split_at.ensures.front c.split_at.ensures.back c.requires.begins none
