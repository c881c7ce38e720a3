-- A text more leaves the texts checked.
use Rattle.std.proofs.Common.{◌≡◌, ℕ, zero, suc, [], ◌∷◌, ◌++◌, Some, None, subst}
use Rattle.std.specs.Prelude.{slice_get}
use Rattle.vt_check.specs.Checked.{IsChecked}
use Rattle.vt_frac.specs.Fraction.{Fraction}
use Rattle.vt_tree.specs.declared.statement.Block.{Block}
use Rattle.vt_run.specs.declared.texts.Texts.{Texts}
use Rattle.vt_run.specs.declared.texts.Verdict.{Verdict}
use Rattle.vt_run.specs.declared.texts.Verdict.TheVariants.{Good, Bad}
use Rattle.vt_run.specs.Limits.{AreChecked}
use Rattle.vt_run.specs.Threads.{tree_in, tree_of}
use Rattle.vt_run.specs.private.Verdicts.{IsVerdictChecked}

verdict_tree : (verdict : Verdict) (tree : Block) → IsVerdictChecked verdict → tree_of verdict ≡ Some tree → IsChecked tree
verdict_tree (Good tree) other h is = let same : tree ≡ other = cc in subst IsChecked same h
verdict_tree (Bad kind line) tree h is = absurd (let z : None ≡ Some tree = is in cc)

at_end : (texts : Texts) (time : Fraction) (verdict : Verdict) → ((k : ℕ) (tree : Block) → tree_in (slice_get texts k) ≡ Some tree → IsChecked tree) → IsVerdictChecked verdict →
    (k : ℕ) (tree : Block) → tree_in (slice_get (texts ++ (time, verdict) ∷ []) k) ≡ Some tree → IsChecked tree
at_end [] time verdict h one zero tree is = verdict_tree verdict tree one is
at_end [] time verdict h one (suc k) tree is = absurd (let z : None ≡ Some tree = is in cc)
at_end (text ∷ texts) time verdict h one zero tree is = h zero tree is
at_end (text ∷ texts) time verdict h one (suc k) tree is = at_end texts time verdict (λ k. h (suc k)) one k tree is

pub checked_more : (texts : Texts) (time : Fraction) (verdict : Verdict) → AreChecked texts → IsVerdictChecked verdict → AreChecked (texts ++ (time, verdict) ∷ [])
checked_more texts time verdict h one zero tree is = absurd (let z : None ≡ Some tree = is in cc)
checked_more texts time verdict h one (suc k) tree is = at_end texts time verdict (λ k. h (suc k)) one k tree is
