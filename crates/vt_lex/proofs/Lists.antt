-- Words in two lists, one after the other.
use Rattle.std.proofs.Common.{◌≡◌, ℕ, Bool, true, false, List, [], ◌∷◌, ◌++◌, ◌||◌, Option, Some, None, cond, length, refl, sym, ap, ◌∙◌}
use Rattle.std.specs.Prelude.{nat_eq}
use Rattle.std.specs.List.{starts_with}
use Rattle.std.specs.Str.{bytes_eq}
use Rattle.vt_frac.specs.Names.{is_among}
use Rattle.vt_lex.specs.Lexicon.{first_start}

or_assoc : (a b c : Bool) → (a || (b || c)) ≡ ((a || b) || c)
or_assoc true b c = refl
or_assoc false b c = refl

pub among_both : (words others : List (List ℕ)) (word : List ℕ) → (is_among words word || is_among others word) ≡ is_among (words ++ others) word
among_both [] others word = refl
among_both (w ∷ ws) others word =
    sym (or_assoc (bytes_eq w word) (is_among ws word) (is_among others word)) ∙ ap (λ (b : Bool). bytes_eq w word || b) (among_both ws others word)

-- the first of one list, or else of the other
pub or_else : Option ℕ → Option ℕ → Option ℕ
or_else None other = other
or_else (Some len) other = Some len

or_else_cond : (b : Bool) (len : ℕ) (first other : Option ℕ) → or_else (cond b (Some len) first) other ≡ cond b (Some len) (or_else first other)
unfolding or_else
or_else_cond true len first other = refl
or_else_cond false len first other = refl

first_of_both : (forms others : List (List ℕ)) (bytes : List ℕ) → or_else (first_start forms bytes) (first_start others bytes) ≡ first_start (forms ++ others) bytes
unfolding or_else
first_of_both [] others bytes = refl
first_of_both (f ∷ fs) others bytes =
    or_else_cond (starts_with nat_eq bytes f) (length f) (first_start fs bytes) (first_start others bytes)
    ∙ ap (λ (o : Option ℕ). cond (starts_with nat_eq bytes f) (Some (length f)) o) (first_of_both fs others bytes)

pub found_first : (forms others : List (List ℕ)) (bytes : List ℕ) (len : ℕ) → Some len ≡ first_start forms bytes → Some len ≡ first_start (forms ++ others) bytes
unfolding or_else
found_first forms others bytes len e = ap (λ (o : Option ℕ). or_else o (first_start others bytes)) e ∙ first_of_both forms others bytes

pub found_later : (forms others : List (List ℕ)) (bytes : List ℕ) → None ≡ first_start forms bytes → first_start others bytes ≡ first_start (forms ++ others) bytes
unfolding or_else
found_later forms others bytes e = ap (λ (o : Option ℕ). or_else o (first_start others bytes)) e ∙ first_of_both forms others bytes

pub among_first : (words others : List (List ℕ)) (word : List ℕ) (r : Bool) → r ≡ is_among words word → r ≡ true → r ≡ is_among (words ++ others) word
among_first words others word r e t = t ∙ (ap (λ (b : Bool). b || is_among others word) (sym t ∙ e) ∙ among_both words others word)

pub among_later : (words others : List (List ℕ)) (word : List ℕ) (r s : Bool) → r ≡ is_among words word → r ≡ false → s ≡ is_among others word → s ≡ is_among (words ++ others) word
among_later words others word r s e f g = g ∙ (ap (λ (b : Bool). b || is_among others word) (sym f ∙ e) ∙ among_both words others word)
