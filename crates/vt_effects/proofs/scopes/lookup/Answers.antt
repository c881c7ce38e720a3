use Rattle.std.proofs.Common.{sym, ap, ◌∙◌}
use Rattle.std.specs.Prelude.{bytes_eq}
use Rattle.vt_effects.proofs.ScopeLemmas.{lookup_found, lookup_past}
use Rattle.vt_effects.proofs.scopes.lookup.Goals as goal

pub returns-then-eq : goal.returns-then-eq
returns-then-eq c =
    let local = c.in-Some.local.now in
    let name = c.args.name.now in
    let same = sym (c.eq.ensures ∙ ap (λ bytes. bytes_eq bytes name) c.as_bytes.ensures) ∙ c.if-eq.true in
    sym (lookup_found name c.loop-local.left.now c.in-Some.rest.now local c.in-Some.ensures.cases.0 same) ∙ c.loop-local.invariant

pub loop-local-preserved : goal.loop-local-preserved
loop-local-preserved c =
    let local = c.in-Some.local.now in
    let name = c.args.name.now in
    let other = sym (c.eq.ensures ∙ ap (λ bytes. bytes_eq bytes name) c.as_bytes.ensures) ∙ c.if-eq.false in
    sym (lookup_past name c.loop-local.left.now c.in-Some.rest.now local c.in-Some.ensures.cases.0 other) ∙ c.loop-local.invariant
