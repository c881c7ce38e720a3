-- What is found in a part of a text: what it mentions, and its blocks. Own.
use Rattle.std.specs.Prelude.{List, [], ◌∷◌, ◌++◌, Option, Some, None}
use Rattle.vt_reach.specs.declared.found.BlockUse.{BlockUse}
use Rattle.vt_reach.specs.declared.found.Found.{Found}
use Rattle.vt_reach.specs.declared.mention.Key.{Key}
use Rattle.vt_reach.specs.declared.mention.Mention.{Mention}

abbrev pub nothing : Found
nothing = record { mentions = []; blocks = [] }

-- mentions alone
abbrev pub only : List Mention → Found
only mentions = record { mentions = mentions; blocks = [] }

-- what is found in one part and then in another
abbrev pub joined : Found → Found → Found
joined a b = record { mentions = a.mentions ++ b.mentions; blocks = a.blocks ++ b.blocks }

-- what is found in parts, one after another
abbrev pub all_of : List Found → Found
all_of [] = nothing
all_of (found ∷ founds) = joined found (all_of founds)

-- what is there, if anything
abbrev pub if_found : Option Found → Found
if_found None = nothing
if_found (Some found) = found

-- a block, by whose body it is, what it mentions itself, and what is found inside it
abbrev pub in_block : Option Key → List Mention → Found → Found
in_block key mentions inside = record {
  mentions = mentions ++ inside.mentions;
  blocks = record { body_of = key; mentions = mentions ++ inside.mentions } ∷ inside.blocks;
}
