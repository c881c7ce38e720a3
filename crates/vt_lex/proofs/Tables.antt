-- The tables of the program are the words and operators of the language.
use Rattle.std.proofs.Common.{◌≡◌, ℕ, List, ◌++◌, map, refl}
use Rattle.vt_frac.specs.Names.{keywords, reserved}
use Rattle.vt_lex.specs.declared.lexicon.TheConstants.{JOINING_OPERATORS, PLAIN_OPERATORS, JOINING_KEYWORDS, PLAIN_KEYWORDS, RESERVED}
use Rattle.vt_lex.specs.Lexicon.{operators, joining}

-- the texts of a constant
abbrev pub texts_of : List (record { now : List ℕ }) → List (List ℕ)
texts_of texts = map (λ (text : record { now : List ℕ }). text.now) texts

pub keywords_are : texts_of PLAIN_KEYWORDS ++ texts_of JOINING_KEYWORDS ≡ keywords
unfolding keywords
keywords_are = refl

pub reserved_are : texts_of RESERVED ≡ reserved
unfolding reserved
reserved_are = refl

pub operators_are : texts_of JOINING_OPERATORS ++ texts_of PLAIN_OPERATORS ≡ operators
unfolding operators
operators_are = refl

pub joining_are : texts_of JOINING_OPERATORS ++ texts_of JOINING_KEYWORDS ≡ joining
unfolding joining
joining_are = refl
