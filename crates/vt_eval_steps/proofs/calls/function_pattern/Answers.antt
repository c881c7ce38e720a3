use Rattle.vt_run.proofs.facts.TreeFacts.{label_symbol}
use Rattle.std.proofs.Common.{sym, subst}
use Rattle.std.specs.Prelude.{IsTrue}
use Rattle.vt_frac.specs.Names.{is_symbol_name}
use Rattle.vt_eval_steps.proofs.calls.function_pattern.Goals as goal

pub inner-requires : goal.inner-requires
inner-requires c = subst (λ name. IsTrue (is_symbol_name name)) (sym c.as_bytes.ensures) (label_symbol c.args.name.now c.requires.form)
