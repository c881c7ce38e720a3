-- What a judgement of a whole text says, and how numbered blocks are found.
use Rattle.std.proofs.Common.{◌≡◌, ℕ, zero, suc, ◌+◌, List, [], ◌∷◌, cond, Option, Some, None, Result, Ok, Err, IfErr, IfSome, option_copied, Bor, refl, sym, ap, ◌∙◌, subst, arith}
use Rattle.std.specs.Prelude.{slice_get}
use Rattle.std.specs.Result.{IsErrAnd}
use Rattle.std.proofs.lemmas.Bool.{eq-eqb, ne_eqb}
use Rattle.std.proofs.lemmas.Result.{err_from_is_err_and}
use Rattle.vt_tree.specs.declared.statement.Block.{Block, out-Block}
use Rattle.vt_tree.specs.Parts.{blocks, children, in_block, in_text, whole_block}
use Rattle.vt_tree.specs.WellFormed.{IsNumbered}
use Rattle.vt_check.specs.declared.fault.CheckFault.{CheckFault}
use Rattle.vt_check.specs.declared.fault.CheckFault.TheVariants.{At, NoMemory}
use Rattle.vt_check.specs.Checked.{IsCause, IsSoundBlock}
use Rattle.vt_check.specs.private.Finding.{block_with, Finds}
use Rattle.vt_check.specs.private.Judging.{Judges}
use Rattle.vt_check.specs.Allowed.{IsAllowed, CheckRefuses}

pub allowed_by : {U : Type 0} (tree : Block) (u : U) → Judges (in_block tree in_text) (Ok u) → IsAllowed tree
unfolding IsAllowed
allowed_by tree u h = h.judged

cause_by : {U : Type 0} (tree : Block) (e : CheckFault) → Judges {U = U} (in_block tree in_text) (Err e) → IsCause tree e
unfolding CheckRefuses
cause_by tree (At line kind) h = h.judged
cause_by tree NoMemory h = tt

pub refused_by : {U V : Type 0} (tree : Block) (r : Result V CheckFault) (e : CheckFault) → IsErrAnd r (λ y. y ≡ e) → Judges {U = U} (in_block tree in_text) (Err e) → IfErr r (IsCause tree)
refused_by tree r e g h =
    let p = err_from_is_err_and r g in
    let P : Result _ CheckFault → Type 0 = λ r. IfErr r (IsCause tree) in
    subst P (sym p.1) (subst (λ y. IsCause tree y) (sym p.2) (cause_by tree e h))

-- blocks that are numbered from k on
counted : (bs : List Block) (k n : ℕ) → ((i : ℕ) (b : Block) → slice_get bs i ≡ Some b → (out-Block b).number ≡ k + i) → block_with (k + n) bs ≡ slice_get bs n
counted [] k n h = refl
counted (b ∷ bs) k zero h = ap (λ t. cond t (Some b) (block_with (k + 0) bs)) (eq-eqb (out-Block b).number (k + 0) (h 0 b refl))
counted (b ∷ bs) k (suc n) h =
    let here : (out-Block b).number ≡ k + 0 = h 0 b refl in
    let other : (out-Block b).number ≡ k + suc n → ⊥ = λ e. omega arith in
    let same : k + suc n ≡ suc k + n = omega arith in
    ap (λ t. cond t (Some b) (block_with (k + suc n) bs)) (ne_eqb (out-Block b).number (k + suc n) other)
    ∙ ap (λ m. block_with m bs) same
    ∙ counted bs (suc k) n (λ i c e. let there : (out-Block c).number ≡ k + suc i = h (suc i) c e in omega arith)

pub block_of_number : (tree : Block) (n : ℕ) → IsNumbered tree → block_with n (blocks tree) ≡ slice_get (blocks tree) n
block_of_number tree n h = let zeroth : n ≡ 0 + n = omega arith in
    ap (λ m. block_with m (blocks tree)) zeroth ∙ counted (blocks tree) 0 n (λ i b e. let there : (out-Block b).number ≡ i = h i b e in omega arith)

-- what holds of the block that is found
pub found_number : (tree : Block) (n : ℕ) (o : Option (Bor Block)) → IsNumbered tree → option_copied o ≡ slice_get (blocks tree) n → IfSome o (λ b. (out-Block b.now).number ≡ n)
found_number tree n None h e = tt
found_number tree n (Some b) h e = h n b.now (sym e)

pub found_sound : (tree : Block) (n : ℕ) (o : Option (Bor Block)) → IsAllowed tree → Finds n (whole_block children tree) (option_copied o) → IfSome o (λ b. IsSoundBlock b.now)
unfolding IsAllowed
found_sound tree n None h f = tt
found_sound tree n (Some b) h f = f.sound in_text h
