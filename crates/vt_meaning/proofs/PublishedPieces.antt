-- A piece is published at once, and leaves what its steps leave one by one.
use Rattle.std.proofs.Common.{◌≡◌, ℕ, ◌+◌, List, [], ◌∷◌, ◌++◌, length, take, refl, sym, ◌∙◌, ap, arith, zero, suc, subst, Option, Some, None, length-append, append_assoc, append-nil, add-zero}
use Rattle.std.specs.Prelude.{slice_get, slice_set}
use Rattle.vt_run.specs.Standing.{Ready}
use Rattle.vt_meaning.specs.Consistent.{IsConsistent}
use Rattle.vt_meaning.specs.Reach.{IsKnown}
use Rattle.vt_meaning.specs.Steps.{Changes, more, published, started_all}
use Rattle.vt_meaning.specs.Steps.Changes.{Changed, Unchanged}
use Rattle.vt_meaning.specs.Steps.Follows.{Stepped}
use Rattle.vt_meaning.specs.ThreadLaws.{AreActs, IsActs, IsOrderly}
use Rattle.vt_meaning.specs.ThreadMeaning.{ThreadMeaning}
use Rattle.vt_meaning.specs.Traces.{Entry, paired, stance_in, standing, Thread, trace}
use Rattle.vt_meaning.specs.World.{moved_on, one_more, Opening, started_by}
use Rattle.vt_meaning.proofs.OneMoreStep.{step_kept}
use Rattle.vt_meaning.proofs.Pairing.{left, paired-append}
use Rattle.vt_meaning.proofs.StepLaws.{acts_lawful, acts_live, longer_by, open_trace}
use Rattle.vt_meaning.proofs.Lists.{entry_at, get-append_left, get-set_same, take_front}

-- further steps only extend a trace
longer_trace : (m : ThreadMeaning) (a : AreActs m) (thread : Thread) (k : ℕ) → (entries : List Entry) × (trace m (more k thread) ≡ trace m thread ++ entries)
longer_trace m a thread k =
    let b = longer_by m a thread.start thread.answers thread.done k in (
      paired b.0 (left (m.acts thread.start thread.answers thread.done) thread.answers),
      open_trace m (more k thread) ∙ ap (λ l. paired l thread.answers) b.1 ∙ paired-append (m.acts thread.start thread.answers thread.done) b.0 thread.answers
          ∙ ap (λ l. l ++ paired b.0 (left (m.acts thread.start thread.answers thread.done) thread.answers)) (sym (open_trace m thread)),
    )

set_set : {A : Type 0} (xs ys : List A) (i : ℕ) (x y z : A) → slice_get xs i ≡ Some z → slice_set (slice_set xs i x ++ ys) i y ≡ slice_set xs i y ++ ys
set_set [] ys i x y z h = absurd (let n : ◌≡◌ {A = Option _} None (Some z) = h in cc)
set_set (a ∷ xs) ys zero x y z h = refl
set_set (a ∷ xs) ys (suc i) x y z h = ap (λ l. a ∷ l) (set_set xs ys i x y z h)

set_itself : {A : Type 0} (xs : List A) (i : ℕ) (x : A) → slice_get xs i ≡ Some x → slice_set xs i x ≡ xs
set_itself [] i x h = refl
set_itself (a ∷ xs) zero x h = let z : Some a ≡ Some x = h in let s : a ≡ x = cc z in ap (λ l. l ∷ xs) (sym s)
set_itself (a ∷ xs) (suc i) x h = ap (λ l. a ∷ l) (set_itself xs i x h)

cancel : {A : Type 0} (xs a b : List A) → xs ++ a ≡ xs ++ b → a ≡ b
cancel [] a b h = h
cancel (x ∷ xs) a b h = let z : x ∷ (xs ++ a) ≡ x ∷ (xs ++ b) = h in let t : xs ++ a ≡ xs ++ b = cc z in cancel xs a b t

more_more : (k : ℕ) (thread : Thread) → more k (one_more thread) ≡ more (suc k) thread
more_more k thread = let e : (thread.done + 1) + k ≡ thread.done + suc k = omega arith in λ j. record { start = thread.start; answers = thread.answers; done = e j }

more_none : (thread : Thread) → more 0 thread ≡ thread
more_none thread = λ j. record { start = thread.start; answers = thread.answers; done = add-zero thread.done j }

-- so a published piece leaves a consistent set, step by step
pub piece_both : (m : ThreadMeaning) (a : IsActs m) (opening : Opening) → IsKnown m opening → IsOrderly opening → (k : ℕ) (these : List Thread) → IsConsistent m opening these → (i : ℕ) (thread : Thread) → slice_get these i ≡ Some thread →
    (entries : List Entry) → trace m (more k thread) ≡ trace m thread ++ entries → length entries ≡ k →
    IsConsistent m opening (published these i (more k thread) entries) × Changes m opening these (published these i (more k thread) entries)
piece_both m a opening knowns ok zero these consistent i thread has [] e n =
    let s : published these i (more 0 thread) [] ≡ these = append-nil (slice_set these i (more 0 thread)) ∙ ap (slice_set these i) (more_none thread) ∙ set_itself these i thread has in
    (subst (IsConsistent m opening) (sym s) consistent, subst (Changes m opening these) (sym s) (Unchanged these))
piece_both m a opening knowns ok zero these consistent i thread has (x ∷ entries) e n = absurd (let z : suc (length entries) ≡ 0 = n in omega arith)
piece_both m a opening knowns ok (suc k) these consistent i thread has [] e n = absurd (let z : 0 ≡ suc k = n in omega arith)
piece_both m a opening knowns ok (suc k) these consistent i thread has (y ∷ entries) e n =
    let law = acts_lawful m a in
    let live = acts_live m a.acts in
    let l = ap length e in
    let f = length-append (trace m thread) (y ∷ entries) in
    let at = entry_at (trace m (more (suc k) thread)) (length (trace m thread)) (let c : length (y ∷ entries) ≡ suc (length entries) = refl in omega (arith, l, f, c)) in
    let here = law.placed (more (suc k) thread) (length (trace m thread)) at.0 at.1 in
    let goes : stance_in m thread ≡ Ready here.0 =
    ap (standing m thread.start) (sym (ap (take (length (trace m thread))) e ∙ take_front (trace m thread) (y ∷ entries))) ∙ here.1 in
    let g = live.grows thread here.0 (consistent.exact i thread has) goes in
    let con1 : IsConsistent m opening (moved_on these i (one_more thread) g.0.step.action) = step_kept m law live opening knowns ok these consistent i thread here.0 has goes in
    let has1 : slice_get (moved_on these i (one_more thread) g.0.step.action) i ≡ Some (one_more thread) =
    get-append_left (slice_set these i (one_more thread)) (started_by g.0.step.action) i (one_more thread) (get-set_same these i thread (one_more thread) has) in
    let rest = longer_trace m a.acts (one_more thread) k in
    let whole : trace m thread ++ (y ∷ entries) ≡ trace m thread ++ (g.0 ∷ rest.0) =
    sym e ∙ ap (trace m) (sym (more_more k thread)) ∙ rest.1 ∙ ap (λ v. v ++ rest.0) g.1 ∙ append_assoc (trace m thread) (g.0 ∷ []) rest.0 in
    let parts : y ∷ entries ≡ g.0 ∷ rest.0 = cancel (trace m thread) (y ∷ entries) (g.0 ∷ rest.0) whole in
    let n2 : length rest.0 ≡ k = (let q = ap length parts in let c : suc (length entries) ≡ suc (length rest.0) = q in let d : suc (length entries) ≡ suc k = n in omega arith) in
    let later = piece_both m a opening knowns ok k (moved_on these i (one_more thread) g.0.step.action) con1 i (one_more thread) has1 rest.0 rest.1 n2 in
    let shape : published (moved_on these i (one_more thread) g.0.step.action) i (more k (one_more thread)) rest.0 ≡ published these i (more (suc k) thread) (y ∷ entries) =
    ap (λ v. v ++ started_all rest.0) (set_set these (started_by g.0.step.action) i (one_more thread) (more k (one_more thread)) thread has)
    ∙ append_assoc (slice_set these i (more k (one_more thread))) (started_by g.0.step.action) (started_all rest.0)
    ∙ ap (λ v. slice_set these i v ++ started_all (g.0 ∷ rest.0)) (more_more k thread)
    ∙ ap (λ v. slice_set these i (more (suc k) thread) ++ started_all v) (sym parts) in
    let step = Stepped i thread here.0 g.0 has goes g.1 in (
      subst (IsConsistent m opening) shape later.0,
      subst (Changes m opening these) shape (Changed these (moved_on these i (one_more thread) g.0.step.action) (published (moved_on these i (one_more thread) g.0.step.action) i (more k (one_more thread)) rest.0) step later.1),
    )

-- **a published piece keeps a set consistent**
pub piece_kept : (m : ThreadMeaning) (a : IsActs m) (opening : Opening) → IsKnown m opening → IsOrderly opening → (k : ℕ) (these : List Thread) → IsConsistent m opening these → (i : ℕ) (thread : Thread) → slice_get these i ≡ Some thread →
    (entries : List Entry) → trace m (more k thread) ≡ trace m thread ++ entries → length entries ≡ k → IsConsistent m opening (published these i (more k thread) entries)
piece_kept m a opening knowns ok k these consistent i thread has entries e n = (piece_both m a opening knowns ok k these consistent i thread has entries e n).0
