use Rattle.std.proofs.Common.{inr, refl, lit≤, ◌∷◌, []}
use Rattle.tests_language.proofs.lex.single_quotes_have_their_value.Goals as goal

pub text_value-requires : goal.text_value-requires
text_value-requires c = record {
  quote = inr refl;
  body = record { len = 13; value = 105 ∷ 116 ∷ 39 ∷ 115 ∷ 32 ∷ 92 ∷ 32 ∷ 35 ∷ 123 ∷ 34 ∷ [] };
  closes = refl;
  ends = refl;
  short = lit≤ tt;
}
