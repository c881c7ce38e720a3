use Rattle.std.proofs.Common.{◌≡◌, ◌∙◌, Ok, Err, pos, sym}
use Rattle.vt_frac.specs.Fraction.{whole}
use Rattle.vt_session.proofs.TimeLemmas.{zero_made}
use Rattle.vt_session.proofs.reader.zero.Goals as goal

pub unreachable-requires : goal.unreachable-requires
unreachable-requires c = let z : Err c.in-Err.field-0 ≡ Ok (whole (pos 0)) = sym c.in-Err.is ∙ c.new.ensures.value ∙ zero_made in cc

pub returns : goal.returns
returns c = let z : Ok c.in-Ok.zero ≡ Ok (whole (pos 0)) = sym c.in-Ok.is ∙ c.new.ensures.value ∙ zero_made in cc
