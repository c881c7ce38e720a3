-- Which patterns are those of inner paths: own.
use Rattle.std.specs.Prelude.{List, [], ◌∷◌, Bool, false, ◌==◌}
use Rattle.vt_path.specs.declared.pattern.Segment.{Segment}
use Rattle.vt_path.specs.declared.pattern.Segment.TheVariants.{AnySegments, Parts}
use Rattle.vt_path.specs.declared.pattern.Part.{Part}
use Rattle.vt_path.specs.declared.pattern.Part.TheVariants.{Byte, AnyBytes, AnyByte, Set, Alternatives}

-- the parts begin with the byte `!` (33)
abbrev pub begins_inner : List Part → Bool
begins_inner [] = false
begins_inner (Byte byte ∷ parts) = byte == 33
begins_inner (AnyBytes ∷ parts) = false
begins_inner (AnyByte ∷ parts) = false
begins_inner (Set held ∷ parts) = false
begins_inner (Alternatives names ∷ parts) = false

-- the pattern of an inner path: its first segment begins with `!`
abbrev pub is_inner_pattern : List Segment → Bool
is_inner_pattern [] = false
is_inner_pattern (AnySegments ∷ pattern) = false
is_inner_pattern (Parts parts ∷ pattern) = begins_inner parts
