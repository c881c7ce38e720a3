-- Where no form is longer than one before it, the first with which bytes begin is the longest.
use Rattle.std.proofs.Common.{◌≡◌, ℕ, ◌≤◌, Bool, true, false, nat_le, List, [], ◌∷◌, length, take, Some, cond, refl, sym, ap, ◌∙◌, subst, ⊎_elim, arith}
use Rattle.std.specs.Prelude.{nat_eq, ◌&&◌}
use Rattle.std.specs.List.{list_all, starts_with}
use Rattle.std.specs.Str.{bytes_eq}
use lib.Pointwise.{bytes_decides}
use Rattle.std.proofs.lemmas.Bool.{leb-true, and_parts, or_cases, false≢true}
use Rattle.std.proofs.lemmas.List.{length-take-le}
use Rattle.vt_frac.specs.Names.{is_among}
use Rattle.vt_lex.specs.Lexicon.{first_start, operators}

-- no form is longer than one before it
abbrev is_falling : List (List ℕ) → Bool
is_falling [] = true
is_falling (f ∷ fs) = list_all (λ (w : List ℕ). nat_le (length w) (length f)) fs && is_falling fs

among_short : (n : ℕ) (forms : List (List ℕ)) (word : List ℕ) → list_all (λ (w : List ℕ). nat_le (length w) n) forms ≡ true → is_among forms word ≡ true → length word ≤ n
among_short n [] word all e = absurd (false≢true e)
among_short n (f ∷ fs) word all e =
    let parts = and_parts (nat_le (length f) n) (list_all (λ (w : List ℕ). nat_le (length w) n) fs) all in
    ⊎_elim
    (λ (h : bytes_eq f word ≡ true). subst (λ (w : List ℕ). length w ≤ n) ((bytes_decides f word).0 h) (leb-true (length f) n parts.0))
    (λ (h : is_among fs word ≡ true). among_short n fs word parts.1 h)
    (or_cases (bytes_eq f word) (is_among fs word) e)

step : (bytes f : List ℕ) (fs : List (List ℕ)) (len other : ℕ) (b : Bool) → starts_with nat_eq bytes f ≡ b → cond b (Some (length f)) (first_start fs bytes) ≡ Some len → list_all (λ (w : List ℕ). nat_le (length w) (length f)) fs ≡ true → other ≤ length bytes → (bytes_eq f (take other bytes) ≡ true) → other ≤ len
step bytes f fs len other true s e all most h =
    let size : length f ≡ len = cc in
    let same : length f ≡ length (take other bytes) = ap length ((bytes_decides f (take other bytes)).0 h) in
    let taken = length-take-le other bytes most in
    omega arith
step bytes f fs len other false s e all most h =
    let form : f ≡ take other bytes = (bytes_decides f (take other bytes)).0 h in
    let size : length f ≡ other = ap length form ∙ length-take-le other bytes most in
    let own : f ≡ take (length f) bytes = form ∙ ap (λ (k : ℕ). take k bytes) (sym size) in
    absurd (false≢true (sym s ∙ (bytes_decides f (take (length f) bytes)).1 own))

later : (bytes f : List ℕ) (fs : List (List ℕ)) (len other : ℕ) (b : Bool) → cond b (Some (length f)) (first_start fs bytes) ≡ Some len → list_all (λ (w : List ℕ). nat_le (length w) (length f)) fs ≡ true → other ≤ length bytes → is_among fs (take other bytes) ≡ true → (first_start fs bytes ≡ Some len → other ≤ len) → other ≤ len
later bytes f fs len other true e all most h rest =
    let size : length f ≡ len = cc in
    let short = among_short (length f) fs (take other bytes) all h in
    let taken = length-take-le other bytes most in
    omega arith
later bytes f fs len other false e all most h rest = rest e

first_is_longest : (forms : List (List ℕ)) (bytes : List ℕ) (len other : ℕ) → is_falling forms ≡ true → first_start forms bytes ≡ Some len → other ≤ length bytes → is_among forms (take other bytes) ≡ true → other ≤ len
first_is_longest [] bytes len other falling e most h = absurd (false≢true h)
first_is_longest (f ∷ fs) bytes len other falling e most h =
    let parts = and_parts (list_all (λ (w : List ℕ). nat_le (length w) (length f)) fs) (is_falling fs) falling in
    ⊎_elim
    (λ (here : bytes_eq f (take other bytes) ≡ true). step bytes f fs len other (starts_with nat_eq bytes f) refl e parts.0 most here)
    (λ (there : is_among fs (take other bytes) ≡ true). later bytes f fs len other (starts_with nat_eq bytes f) e parts.0 most there (λ g. first_is_longest fs bytes len other parts.1 g most there))
    (or_cases (bytes_eq f (take other bytes)) (is_among fs (take other bytes)) h)

pub longest_operator : (bytes : List ℕ) (len other : ℕ) → first_start operators bytes ≡ Some len → other ≤ length bytes → is_among operators (take other bytes) ≡ true → other ≤ len
unfolding operators
longest_operator bytes len other e most h = first_is_longest operators bytes len other refl e most h
