use Rattle.std.proofs.Common.{inl, refl, lit≤, ◌∷◌, []}
use Rattle.tests_language.proofs.lex.double_quotes_have_their_value.Goals as goal

pub text_value-requires : goal.text_value-requires
text_value-requires c = record {
  quote = inl refl;
  body = record { len = 12; value = 97 ∷ 10 ∷ 9 ∷ 92 ∷ 34 ∷ 35 ∷ 39 ∷ [] };
  closes = refl;
  ends = refl;
  short = lit≤ tt;
}
