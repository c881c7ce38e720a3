-- What a parse function says of what it read, and of where it stopped.
use Rattle.std.specs.Prelude.{◌≡◌, List, [], ◌∷◌, ◌++◌}
use Rattle.vt_grammar.specs.Form.{Form}

-- the form was read from a prefix of old, new is left, and the token there doesn't go on with it
pub record Read {T V : Type 0} (a : Form T V) (old new : List T) (v : V) : Type 0 where
  pub prefix : List T
  pub whole : old ≡ prefix ++ new
  pub is_read : a.reads prefix v
  pub settled : (t : T) (rest : List T) → new ≡ t ∷ rest → a.begins (prefix ++ t ∷ []) → ⊥

-- the tokens before new begin the form and are none, and with the token there they don't begin it
pub record Stuck {T V : Type 0} (a : Form T V) (old new : List T) : Type 0 where
  pub prefix : List T
  pub whole : old ≡ prefix ++ new
  pub begun : a.begins prefix
  pub unread : (v : V) → a.reads prefix v → ⊥
  pub stops : (t : T) (rest : List T) → new ≡ t ∷ rest → a.begins (prefix ++ t ∷ []) → ⊥
