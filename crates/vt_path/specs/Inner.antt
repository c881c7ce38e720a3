-- Inner paths, under which a program keeps bodies, functions and names, and stops of live loops: own.
use Rattle.std.specs.Prelude.{◌≡◌, ℕ, List, [], ◌∷◌, IsTrue}
use Rattle.vt_frac.specs.Names.{is_symbol_name}
use Rattle.vt_path.specs.declared.inner_path.InnerKind.{InnerKind}
use Rattle.vt_path.specs.declared.inner_path.InnerKind.TheVariants.{Body, Def, Named, Looped, Stop}

-- the first segment of an inner path: `!body`, `!def`, `!name`, `!loop`, `!stop`
abbrev pub kind_word : InnerKind → List ℕ
kind_word Body = 33 ∷ 98 ∷ 111 ∷ 100 ∷ 121 ∷ []
kind_word Def = 33 ∷ 100 ∷ 101 ∷ 102 ∷ []
kind_word Named = 33 ∷ 110 ∷ 97 ∷ 109 ∷ 101 ∷ []
kind_word Looped = 33 ∷ 108 ∷ 111 ∷ 111 ∷ 112 ∷ []
kind_word Stop = 33 ∷ 115 ∷ 116 ∷ 111 ∷ 112 ∷ []

-- the inner path `/!KIND/NAME`
abbrev pub inner_of : InnerKind → List ℕ → List (List ℕ)
inner_of kind name = kind_word kind ∷ name ∷ []

-- an inner path
pub record IsInner (path : List (List ℕ)) : Type 0 where
  pub kind : InnerKind
  pub name : List ℕ
  pub symbol : IsTrue (is_symbol_name name)
  pub whole : path ≡ inner_of kind name
