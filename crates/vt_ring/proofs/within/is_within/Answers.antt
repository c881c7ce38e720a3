use Rattle.std.proofs.Common.{◌≡◌, ◌∙◌, ◌+◌, length, ◌++◌, ◌&&◌, ap, arith, length-append}
use Rattle.std.specs.Prelude.{nat_le}
use Rattle.vt_value.specs.Sizes.{sizes_of}
use Rattle.vt_value.proofs.Layers.{sizes-append}
use Rattle.vt_ring.proofs.LimitLemmas.{capped, few_capped, small_capped, within_by}
use Rattle.vt_ring.proofs.within.is_within.Goals as goal

pub returns : goal.returns
returns c =
    let prefix = c.args.prefix.now in
    let rest = c.args.rest.now in
    let count : c.saturating_add-count.result ≡ capped (length prefix + length rest) = omega (arith, c.saturating_add-count.ensures) in
    let size : c.saturating_add-size.result ≡ capped (sizes_of prefix + sizes_of rest) = omega (arith, c.saturating_add-size.ensures, c.sizes.ensures, c.sizes-2.ensures) in
    c.are_few.ensures
    ∙ ap (λ n. nat_le n 4096 && nat_le (1 + c.saturating_add-size.result) 65536) count
    ∙ ap (λ n. nat_le (capped (length prefix + length rest)) 4096 && nat_le (1 + n) 65536) size
    ∙ ap (λ b. b && nat_le (1 + capped (sizes_of prefix + sizes_of rest)) 65536) (few_capped (length prefix + length rest))
    ∙ ap (λ b. nat_le (length prefix + length rest) 4096 && b) (small_capped (sizes_of prefix + sizes_of rest))
    ∙ within_by (prefix ++ rest) (length prefix + length rest) (sizes_of prefix + sizes_of rest) (length-append prefix rest) (sizes-append prefix rest)
