-- Inner paths are matched by inner patterns, and no other path is.
use Rattle.std.proofs.Common.{◌≡◌, ℕ, List, [], ◌∷◌, Bool, true, false, nat_eq, refl, sym, ap, subst}
use Rattle.std.specs.Bool.{MatchBool}
use Rattle.vt_path.specs.InnerPattern.{begins_inner, is_inner_pattern}
use Rattle.vt_path.specs.Match.{Matches, MatchesBytes, MatchesSegments, is_inner, literal_of}
use Rattle.vt_path.specs.declared.pattern.Segment.{Segment}
use Rattle.vt_path.specs.declared.pattern.Segment.TheVariants.{AnySegments, Parts}
use Rattle.vt_path.specs.declared.pattern.Part.{Part}
use Rattle.vt_path.specs.declared.pattern.Part.TheVariants.{Byte, AnyBytes, AnyByte, Set, Alternatives}
use Rattle.vt_reach.specs.Uses.{AreInnerAlike}

-- parts that match no byte do not begin with one
no_byte : (parts : List Part) → MatchesBytes parts [] → begins_inner parts ≡ false
no_byte [] h = refl
no_byte (Byte c ∷ parts) h = absurd h
no_byte (AnyBytes ∷ parts) h = refl
no_byte (AnyByte ∷ parts) h = refl
no_byte (Set held ∷ parts) h = refl
no_byte (Alternatives names ∷ parts) h = refl

-- parts that match bytes of which the first is no `!` do not begin with it
other_byte : (parts : List Part) (b : ℕ) (bytes : List ℕ) → MatchesBytes parts (b ∷ bytes) → nat_eq b 33 ≡ false → begins_inner parts ≡ nat_eq b 33
other_byte [] b bytes h e = absurd h
other_byte (Byte c ∷ parts) b bytes h e = ap (λ x. nat_eq x 33) (sym h.0)
other_byte (AnyBytes ∷ parts) b bytes h e = sym e
other_byte (AnyByte ∷ parts) b bytes h e = sym e
other_byte (Set held ∷ parts) b bytes h e = sym e
other_byte (Alternatives names ∷ parts) b bytes h e = sym e

pub inner_alike : AreInnerAlike
inner_alike [] [] h = refl
inner_alike (AnySegments ∷ pattern) [] h = refl
inner_alike (Parts parts ∷ pattern) [] h = absurd h
inner_alike [] ([] ∷ path) h = absurd h
inner_alike (AnySegments ∷ pattern) ([] ∷ path) h = refl
inner_alike (Parts parts ∷ pattern) ([] ∷ path) h = no_byte parts h.0
inner_alike pattern ((b ∷ bytes) ∷ path) h = go (nat_eq b 33) refl h
  where
    outer : (q : List Segment) → nat_eq b 33 ≡ false → MatchesSegments q ((b ∷ bytes) ∷ path) → is_inner_pattern q ≡ nat_eq b 33
    outer [] e m = absurd m
    outer (AnySegments ∷ q) e m = sym e
    outer (Parts parts ∷ q) e m = other_byte parts b bytes m.0 e

    go : (t : Bool) → nat_eq b 33 ≡ t → MatchBool t (pattern ≡ literal_of ((b ∷ bytes) ∷ path)) (MatchesSegments pattern ((b ∷ bytes) ∷ path)) → is_inner_pattern pattern ≡ nat_eq b 33
    go true e m = ap is_inner_pattern m
    go false e m = outer pattern e m
