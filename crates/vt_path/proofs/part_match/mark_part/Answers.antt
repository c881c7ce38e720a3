use Rattle.std.proofs.Common.{◌≡◌, ℕ, ◌+◌, ◌<◌, ◌≤◌, List, ◌∷◌, length, drop, get_or, ◌∙◌, ap, subst, ◌↔◌, Bool, true, false}
use Rattle.vt_path.specs.Match.{MatchesBytes}
use Rattle.vt_path.specs.private.Marks.{mark, IsMarked, TakesOne, TakesByte, SomeName}
use Rattle.vt_path.specs.declared.pattern.Part.{Part}
use Rattle.vt_path.specs.declared.pattern.Part.TheVariants.{Byte, AnyBytes, AnyByte, Set, Alternatives}
use Rattle.vt_path.proofs.MarkLemmas.{marks_skip, marks_one, marks_names, first_of, marked_along}
use Rattle.vt_path.proofs.part_match.mark_part.Goals as goal

-- the first part, as the arm knows it, and the others
parts_are : (parts : List Part) (first p : Part) → 0 < length parts → first ≡ get_or parts 0 first → first ≡ p → parts ≡ p ∷ drop 1 parts
parts_are parts first p some is e = first_of parts first some is ∙ ap (λ (x : Part). x ∷ drop 1 parts) e

-- a part that takes one byte, as its arm knows it
one_along : {first : Part} (parts : List Part) (p : Part) (bytes : List ℕ) (old new : List Bool) → TakesOne p → 0 < length parts → first ≡ get_or parts 0 first → first ≡ p
    → IsMarked (MatchesBytes (drop 1 parts)) bytes old → mark new (length bytes) ≡ false
    → ((i : ℕ) → i < length bytes → (mark new i ≡ true) ↔ (TakesByte first (get_or bytes i 0) × (mark old (i + 1) ≡ true)))
    → IsMarked (MatchesBytes parts) bytes new
one_along {first} parts p bytes old new one some is e marked end each =
    let P : Part → Type 0 = λ x. (i : ℕ) → i < length bytes → (mark new i ≡ true) ↔ (TakesByte x (get_or bytes i 0) × (mark old (i + 1) ≡ true)) in
    marked_along (p ∷ drop 1 parts) parts bytes new (parts_are parts first p some is e) (marks_one p (drop 1 parts) bytes old new one marked end (subst P e each))

pub returns-in-AnyBytes : goal.returns-in-AnyBytes
returns-in-AnyBytes c =
    marked_along (AnyBytes ∷ drop 1 c.args.parts.now) c.args.parts.now c.args.bytes.now c.skip.new.marks
    (parts_are c.args.parts.now _ _ c.requires.some c.index-parts-0.is c.in-AnyBytes.is)
    (marks_skip 0 (MatchesBytes (drop 1 c.args.parts.now)) c.args.bytes.now c.args.marks.now c.skip.new.marks c.requires.marked c.skip.ensures.last c.skip.ensures.each)

pub returns-in-Alternatives : goal.returns-in-Alternatives
returns-in-Alternatives c =
    let names : c.as_slice.result.now ≡ c.in-Alternatives.names = c.as_slice.ensures.value ∙ c.names.view_is in
    let each = c.mark_names.ensures in
    marked_along (Alternatives c.in-Alternatives.names ∷ drop 1 c.args.parts.now) c.args.parts.now c.args.bytes.now c.mark_names.new.marks
    (parts_are c.args.parts.now _ _ c.requires.some c.index-parts-0.is c.in-Alternatives.is)
    (marks_names c.in-Alternatives.names (drop 1 c.args.parts.now) c.args.bytes.now c.args.marks.now c.mark_names.new.marks c.requires.marked
    (let P : List (List ℕ) → Type 0 = λ x. (i : ℕ) → i ≤ length c.args.bytes.now → (mark c.mark_names.new.marks i ≡ true) ↔ SomeName x c.args.bytes.now c.args.marks.now i in
    subst P names each))

pub returns-in-Byte : goal.returns-in-Byte
returns-in-Byte c =
    one_along c.args.parts.now (Byte c.in-Byte.field-0) c.args.bytes.now c.args.marks.now c.mark_one.new.marks tt c.requires.some c.index-parts-0.is c.in-Byte.is c.requires.marked
    c.mark_one.ensures.end c.mark_one.ensures.each

pub returns-in-AnyByte : goal.returns-in-AnyByte
returns-in-AnyByte c =
    one_along c.args.parts.now AnyByte c.args.bytes.now c.args.marks.now c.mark_one-in-AnyByte.new.marks tt c.requires.some c.index-parts-0.is c.in-AnyByte.is c.requires.marked
    c.mark_one-in-AnyByte.ensures.end c.mark_one-in-AnyByte.ensures.each

pub returns-in-Set : goal.returns-in-Set
returns-in-Set c =
    one_along c.args.parts.now (Set c.in-Set.field-0) c.args.bytes.now c.args.marks.now c.mark_one-in-Set.new.marks tt c.requires.some c.index-parts-0.is c.in-Set.is c.requires.marked
    c.mark_one-in-Set.ensures.end c.mark_one-in-Set.ensures.each
