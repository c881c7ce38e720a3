-- A line by its first three words.
use Rattle.std.proofs.Common.{◌≡◌, ℕ, ◌==◌, List, [], ◌∷◌, true, false, length, sym, ap, ◌∙◌, arith}
use Rattle.std.proofs.lemmas.Grind.{common_steps}
use Rattle.vt_cli.specs.declared.line.Line.TheVariants.{Nothing, Refused}
use Rattle.vt_cli.specs.Line.{line_of, said, said_by_words, words_of}
use Rattle.vt_cli.specs.private.FirstPart.{word_and_more}

pub line-of-none : (line verb : List ℕ) (more : List (List ℕ)) → words_of line ≡ word_and_more verb more → (length verb == 0) ≡ true
    → Nothing ≡ line_of line
unfolding line_of
line-of-none line [] more cut empty = sym (ap said_by_words cut)
line-of-none line (b ∷ bs) more cut empty = absurd (grind (arith, common_steps, empty))

pub line-of-one : (line verb operand : List ℕ) (more others : List (List ℕ)) → words_of line ≡ word_and_more verb more → (length verb == 0) ≡ false
    → more ≡ word_and_more operand others → (length operand == 0) ≡ true → Refused ≡ line_of line
unfolding line_of
line-of-one line [] operand more others cut filled then empty = absurd (grind (arith, common_steps, filled))
line-of-one line (b ∷ bs) [] more others cut filled then empty = sym (ap said_by_words (cut ∙ ap (λ ws. (b ∷ bs) ∷ ws) then))
line-of-one line (b ∷ bs) (d ∷ ds) more others cut filled then empty = absurd (grind (arith, common_steps, empty))

pub line-of-two : (line verb operand other : List ℕ) (more others rest : List (List ℕ)) → words_of line ≡ word_and_more verb more → (length verb == 0) ≡ false
    → more ≡ word_and_more operand others → (length operand == 0) ≡ false
    → others ≡ word_and_more other rest → (length other == 0) ≡ true → said verb operand ≡ line_of line
unfolding line_of
line-of-two line [] operand other more others rest cut filled then filled' last empty = absurd (grind (arith, common_steps, filled))
line-of-two line (b ∷ bs) [] other more others rest cut filled then filled' last empty = absurd (grind (arith, common_steps, filled'))
line-of-two line (b ∷ bs) (d ∷ ds) [] more others rest cut filled then filled' last empty =
    sym (ap said_by_words (cut ∙ ap (λ ws. (b ∷ bs) ∷ ws) (then ∙ ap (λ ws. (d ∷ ds) ∷ ws) last)))
line-of-two line (b ∷ bs) (d ∷ ds) (e ∷ es) more others rest cut filled then filled' last empty = absurd (grind (arith, common_steps, empty))

pub line-of-three : (line verb operand other : List ℕ) (more others rest : List (List ℕ)) → words_of line ≡ word_and_more verb more → (length verb == 0) ≡ false
    → more ≡ word_and_more operand others → (length operand == 0) ≡ false
    → others ≡ word_and_more other rest → (length other == 0) ≡ false → Refused ≡ line_of line
unfolding line_of
line-of-three line [] operand other more others rest cut filled then filled' last filled'' = absurd (grind (arith, common_steps, filled))
line-of-three line (b ∷ bs) [] other more others rest cut filled then filled' last filled'' = absurd (grind (arith, common_steps, filled'))
line-of-three line (b ∷ bs) (d ∷ ds) [] more others rest cut filled then filled' last filled'' = absurd (grind (arith, common_steps, filled''))
line-of-three line (b ∷ bs) (d ∷ ds) (e ∷ es) more others rest cut filled then filled' last filled'' =
    sym (ap said_by_words (cut ∙ ap (λ ws. (b ∷ bs) ∷ ws) (then ∙ ap (λ ws. (d ∷ ds) ∷ ws) last)))
