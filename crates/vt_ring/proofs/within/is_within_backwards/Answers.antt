use Rattle.std.proofs.Common.{◌+◌, ◌++◌, length, reverse, sym, ap, ◌∙◌, length-append}
use Rattle.std.proofs.lemmas.List.{length-reverse}
use Rattle.vt_value.specs.Sizes.{sizes_of}
use Rattle.vt_value.proofs.Layers.{sizes-append}
use Rattle.vt_ring.proofs.LimitLemmas.{within_same, sizes-reverse}
use Rattle.vt_ring.proofs.within.is_within_backwards.Goals as goal

pub returns : goal.returns
returns c =
    let prefix = c.args.prefix.now in
    let rest = c.args.rest.now in
    c.is_within.ensures ∙ within_same (prefix ++ rest) (prefix ++ reverse rest)
    (length-append prefix rest ∙ sym (length-append prefix (reverse rest) ∙ ap (λ n. length prefix + n) (length-reverse rest)))
    (sizes-append prefix rest ∙ sym (sizes-append prefix (reverse rest) ∙ ap (λ n. sizes_of prefix + n) (sizes-reverse rest)))
