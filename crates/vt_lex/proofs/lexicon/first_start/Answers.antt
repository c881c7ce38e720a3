use Rattle.std.proofs.Common.{◌≡◌, length, ℕ, ◌+◌, ◌<◌, Bool, true, false, nat_eq, List, Bor, Some, cond, get_or, drop, sym, ap, ◌∙◌}
use Rattle.std.specs.List.{starts_with}
use Rattle.std.proofs.lemmas.List.{at_drop_more}
use Rattle.vt_lex.specs.Lexicon.{first_start}
use Rattle.vt_lex.specs.private.Spelled.{spelled}
use Rattle.vt_lex.proofs.lexicon.first_start.Goals as goal

step : (forms : List (Bor (List ℕ))) (i : ℕ) (d : Bor (List ℕ)) (bytes : List ℕ) → i < length forms → first_start (spelled (drop i forms)) bytes ≡ cond (starts_with nat_eq bytes (get_or forms i d).now) (Some (length (get_or forms i d).now)) (first_start (spelled (drop (i + 1) forms)) bytes)
step forms i d bytes h = at_drop_more (λ xs. first_start (spelled xs) bytes) forms i d h

taken : (forms : List (Bor (List ℕ))) (i : ℕ) (d : Bor (List ℕ)) (bytes : List ℕ) (r : Bool) → i < length forms → first_start (spelled (drop i forms)) bytes ≡ first_start (spelled forms) bytes → r ≡ starts_with nat_eq bytes (get_or forms i d).now → r ≡ true → Some (length (get_or forms i d).now) ≡ first_start (spelled forms) bytes
taken forms i d bytes r h inv e t = sym (ap (λ b. cond b (Some (length (get_or forms i d).now)) (first_start (spelled (drop (i + 1) forms)) bytes)) (sym e ∙ t)) ∙ (sym (step forms i d bytes h) ∙ inv)

passed : (forms : List (Bor (List ℕ))) (i : ℕ) (d : Bor (List ℕ)) (bytes : List ℕ) (r : Bool) → i < length forms → first_start (spelled (drop i forms)) bytes ≡ first_start (spelled forms) bytes → r ≡ starts_with nat_eq bytes (get_or forms i d).now → r ≡ false → first_start (spelled (drop (i + 1) forms)) bytes ≡ first_start (spelled forms) bytes
passed forms i d bytes r h inv e t = sym (ap (λ b. cond b (Some (length (get_or forms i d).now)) (first_start (spelled (drop (i + 1) forms)) bytes)) (sym e ∙ t)) ∙ (sym (step forms i d bytes h) ∙ inv)

pub returns-then-starts_with : goal.returns-then-starts_with
returns-then-starts_with c = taken _ _ _ _ _ c.loop-form-test.true c.loop-form.invariant c.starts_with.ensures.value c.if-starts_with.true

pub loop-form-preserved : goal.loop-form-preserved
loop-form-preserved c = passed _ _ _ _ _ c.loop-form-test.true c.loop-form.invariant c.starts_with.ensures.value c.if-starts_with.false
