-- How the path that a pattern is written as is put into a buffer.
use Rattle.std.proofs.Common.{◌≡◌, ◌≢◌, ℕ, zero, suc, ◌+◌, ◌<◌, ◌≤◌, List, [], ◌∷◌, ◌++◌, length, take, set, get_or, map, refl, sym, ◌∙◌, ap, subst, arith, append_assoc}
use Rattle.std.specs.List.{All, Contains, flat_map}
use Rattle.std.proofs.lemmas.List.{append-nil, length-map, map-append, take_more, take_more_set}
use Rattle.std.proofs.lemmas.List.Elements.{All-contains, Contains-append_right}
use Rattle.std.proofs.lemmas.Grind.{flat_map-append}
use Rattle.vt_path.specs.Kept.{IsKeptPath}
use Rattle.vt_path.specs.KeptPattern.{IsKeptPattern}
use Rattle.vt_path.specs.LiteralText.{IsWrittenAs}
use Rattle.vt_path.specs.Match.{byte_parts, literal_of, literal_segment}
use Rattle.vt_path.specs.Path.{path_text}
use Rattle.vt_path.specs.private.LiteralWriting.{AreBytes, IsPathSoFar, IsSegmentWritten}
use Rattle.vt_path.specs.declared.pattern.Segment.{Segment}
use Rattle.vt_path.specs.declared.pattern.Part.{Part}
use Rattle.vt_path.specs.declared.pattern.Part.TheVariants.{Byte}
use Rattle.vt_path.proofs.OneKept.{literal_kept}

-- one byte more
pub byte_step : (parts : List Part) (before buffer : List ℕ) (i n : ℕ) (part : Part) (byte : ℕ) → i < length parts → part ≡ get_or parts i part → part ≡ Byte byte →
    n < length buffer → AreBytes (take i parts) before (take n buffer) → AreBytes (take (i + 1) parts) before (take (n + 1) (set buffer n byte))
byte_step parts before buffer i n part byte less is same room so_far = record {
  bytes = so_far.bytes ++ byte ∷ [];
  literal = take_more parts i part less ∙ (ap (λ (p : Part). take i parts ++ p ∷ []) (sym is ∙ same) ∙ (ap (λ (ps : List Part). ps ++ Byte byte ∷ []) so_far.literal
      ∙ sym (map-append (λ byte. Byte byte) so_far.bytes (byte ∷ []))));
  written = take_more_set buffer n byte room ∙ (ap (λ (x : List ℕ). x ++ byte ∷ []) so_far.written ∙ append_assoc before so_far.bytes (byte ∷ []));
}

pub no_bytes : (before : List ℕ) → AreBytes [] before before
no_bytes before = record { bytes = []; literal = refl; written = sym (append-nil before) }

-- an item of a list that is made item by item is made of an item
made_of : {X Y : Type 0} (f : Y → X) (ys : List Y) (i : ℕ) (x : X) → i < length ys → x ≡ get_or (map f ys) i x → (y : Y) × Contains ys y × (x ≡ f y)
made_of f [] i x less is = absurd (omega arith)
made_of f (y ∷ ys) zero x less is = (y, (0, omega arith, refl), is)
made_of f (y ∷ ys) (suc i) x less is = let h = made_of f ys i x (omega arith) is in (h.0, Contains-append_right (y ∷ []) ys h.0 h.1, h.2)

-- a part that is no byte
pub no_byte : (parts : List Part) (i : ℕ) (part : Part) → i < length parts → part ≡ get_or parts i part → ((byte : ℕ) → part ≢ Byte byte) →
    (bytes : List ℕ) → parts ≢ byte_parts bytes
no_byte parts i part less is none bytes e =
    let n : length parts ≡ length bytes = ap length e ∙ length-map bytes (λ byte. Byte byte) in
    let h = made_of (λ byte. Byte byte) bytes i part (omega arith) (subst (λ (ps : List Part). part ≡ get_or ps i part) e is) in
    none h.0 h.2

pub too_many_parts : (parts : List Part) → 64 < length parts → (bytes : List ℕ) → length bytes ≤ 64 → parts ≢ byte_parts bytes
too_many_parts parts many bytes few e =
    let n : length parts ≡ length bytes = ap length e ∙ length-map bytes (λ byte. Byte byte) in
    absurd (omega arith)

-- one segment more
pub segment_step : (segments : List Segment) (before after : List ℕ) (k : ℕ) (segment : Segment) → k < length segments → segment ≡ get_or segments k segment →
    IsPathSoFar (take k segments) before → IsSegmentWritten segment before after → IsPathSoFar (take (k + 1) segments) after
segment_step segments before after k segment less is so_far w = record {
  path = so_far.path ++ w.bytes ∷ [];
  literal = take_more segments k segment less ∙ (ap (λ (s : Segment). take k segments ++ s ∷ []) (sym is ∙ w.literal) ∙ (ap (λ (ss : List Segment). ss ++ literal_segment w.bytes ∷ []) so_far.literal
      ∙ sym (map-append literal_segment so_far.path (w.bytes ∷ []))));
  written = w.written ∙ (ap (λ (x : List ℕ). x ++ 47 ∷ w.bytes) so_far.written ∙ (ap (λ (x : List ℕ). path_text so_far.path ++ x) (sym (append-nil (47 ∷ w.bytes)))
      ∙ sym (flat_map-append (λ (segment : List ℕ). 47 ∷ segment) so_far.path (w.bytes ∷ []))));
}

pub no_segments : IsPathSoFar [] []
no_segments = record { path = []; literal = refl; written = refl }

pub segment_of_parts : (parts : List Part) (segment : Segment) (before after : List ℕ) → ((bytes : List ℕ) → parts ≡ byte_parts bytes → segment ≡ literal_segment bytes) →
    AreBytes parts (before ++ 47 ∷ []) after → IsSegmentWritten segment before after
segment_of_parts parts segment before after same w = record {
  bytes = w.bytes;
  literal = same w.bytes w.literal;
  written = w.written ∙ append_assoc before (47 ∷ []) w.bytes;
}

-- a segment that is no literal one
pub no_literal : (segments : List Segment) (k : ℕ) (segment : Segment) → IsKeptPattern segments → k < length segments → segment ≡ get_or segments k segment →
    ((bytes : List ℕ) → length bytes ≤ 64 → segment ≢ literal_segment bytes) → (path : List (List ℕ)) → segments ≢ literal_of path
no_literal segments k segment kept less is none path e =
    let own : IsKeptPath path = literal_kept path (subst IsKeptPattern e kept) in
    let n : length segments ≡ length path = ap length e ∙ length-map path literal_segment in
    let h = made_of literal_segment path k segment (omega arith) (subst (λ (ss : List Segment). segment ≡ get_or ss k segment) e is) in
    none h.0 (All-contains (λ segment. length segment ≤ 64) path h.0 own.short h.1) h.2

pub too_many_segments : (segments : List Segment) → IsKeptPattern segments → 16 < length segments → (path : List (List ℕ)) → segments ≢ literal_of path
too_many_segments segments kept many path e =
    let own : IsKeptPath path = literal_kept path (subst IsKeptPattern e kept) in
    let n : length segments ≡ length path = ap length e ∙ length-map path literal_segment in
    let few : length path ≤ 16 = own.few in
    absurd (omega arith)

-- all segments are put
pub all_written : (segments : List Segment) (text : List ℕ) → IsKeptPattern segments → IsPathSoFar segments text → IsWrittenAs segments text
all_written segments text kept done = record {
  path = done.path;
  kept = literal_kept done.path (subst IsKeptPattern done.literal kept);
  literal = done.literal;
  written = done.written;
}
