-- No two paths of a program are written alike, and a pattern of a program that is the literal one of a path has one of a program.
use Rattle.std.proofs.Common.{◌≡◌, ◌≢◌, ℕ, zero, suc, ◌<◌, ◌≤◌, List, [], ◌∷◌, ◌++◌, length, Bool, true, false, not, ◌&&◌, ◌==◌, ◌⊎◌, inl, inr, refl, sym, ◌∙◌, ap, subst, true≢false, arith}
use Rattle.std.specs.List.{All, Contains}
use Rattle.std.proofs.Math.Logic.{∥∥₁_map, ∥∥₁_elim}
use Rattle.std.proofs.lemmas.Bool.{cases_lt}
use Rattle.std.proofs.lemmas.List.{length-map}
use Rattle.std.proofs.lemmas.List.Elements.{All-nil, All-cons, All-head, All-tail, All-contains, All-contains_itself, All-weaker}
use Rattle.vt_path.specs.Byte.{IsPathByte}
use Rattle.vt_path.specs.Inner.{IsInner, inner_of, kind_word}
use Rattle.vt_path.specs.Kept.{IsKeptPath}
use Rattle.vt_path.specs.KeptPattern.{IsKeptPattern}
use Rattle.vt_path.specs.LiteralText.{IsOneKeptPath}
use Rattle.vt_path.specs.Match.{byte_parts, literal_of, literal_segment}
use Rattle.vt_path.specs.Path.{IsPath, IsSegment, path_text}
use Rattle.vt_path.specs.Pattern.{AreParts, IsPart, IsPattern, IsPatternSegment, parts_text}
use Rattle.vt_path.specs.declared.inner_path.InnerKind.{InnerKind}
use Rattle.vt_path.specs.declared.inner_path.InnerKind.TheVariants.{Body, Def, Named, Looped, Stop}
use Rattle.vt_path.specs.declared.pattern.Part.TheVariants.{Byte}
use Rattle.vt_path.proofs.ByteLemmas.{no_slash}
use Rattle.vt_path.proofs.KeptLemmas.{kept_inner, kept_path}
use Rattle.vt_path.proofs.LiteralLemmas.{literal_same, parts_text-bytes}
use Rattle.vt_path.proofs.NameLemmas.{symbol_segment}

-- no slash (47) among these bytes
abbrev HasNoSlash : List ℕ → Type 0
HasNoSlash bytes = All (λ (b : ℕ). b ≢ 47) bytes

abbrev is_plain : List ℕ → Bool
is_plain [] = true
is_plain (b ∷ bs) = not (b == 47) && is_plain bs

plain_rest : (a b : Bool) → (a && b) ≡ true → b ≡ true
plain_rest true b e = e
plain_rest false b e = absurd (true≢false (sym e))

plain_bytes : (bytes : List ℕ) → is_plain bytes ≡ true → HasNoSlash bytes
plain_bytes [] e = All-nil (λ (b : ℕ). b ≢ 47)
plain_bytes (b ∷ bs) e =
    All-cons (λ (b : ℕ). b ≢ 47) b bs
    (λ (is : b ≡ 47). let z : (not (47 == 47) && is_plain bs) ≡ true = subst (λ (x : ℕ). (not (x == 47) && is_plain bs) ≡ true) is e in true≢false (sym z))
    (plain_bytes bs (plain_rest (not (b == 47)) (is_plain bs) e))

plain_word : (kind : InnerKind) → is_plain (kind_word kind) ≡ true
plain_word Body = refl
plain_word Def = refl
plain_word Named = refl
plain_word Looped = refl
plain_word Stop = refl

plain_segment : (segment : List ℕ) → IsSegment segment → HasNoSlash segment
plain_segment segment good = All-weaker IsPathByte (λ (b : ℕ). b ≢ 47) (λ b h is. no_slash b is h) segment good.bytes

plain_path : (path : List (List ℕ)) → IsPath path ⊎ IsInner path → All HasNoSlash path
plain_path path (inl good) = All-weaker IsSegment HasNoSlash plain_segment path good.segments
plain_path path (inr inner) =
    subst (All HasNoSlash) (sym inner.whole)
    (All-cons HasNoSlash (kind_word inner.kind) (inner.name ∷ []) (plain_bytes (kind_word inner.kind) (plain_word inner.kind))
    (All-cons HasNoSlash inner.name [] (plain_segment inner.name (symbol_segment inner.name inner.symbol)) (All-nil HasNoSlash)))

-- no segment of a path of a program has a slash
no_slash_in : (path : List (List ℕ)) → IsKeptPath path → (segment : List ℕ) → Contains path segment → (b : ℕ) → Contains segment b → b ≢ 47
no_slash_in path kept segment listed b at is = ∥∥₁_elim kept.form (λ x y. absurd x) go
  where
    go : IsPath path ⊎ IsInner path → ⊥
    go form = All-contains (λ (b : ℕ). b ≢ 47) segment b (All-contains HasNoSlash path segment (plain_path path form) listed) at is

plain_kept : (path : List (List ℕ)) → IsKeptPath path → All HasNoSlash path
plain_kept path kept =
    All-weaker (Contains path) HasNoSlash
    (λ segment listed. All-weaker (Contains segment) (λ (b : ℕ). b ≢ 47) (λ b at. no_slash_in path kept segment listed b at) segment (All-contains_itself segment))
    path (All-contains_itself path)

-- nothing, or a slash and what follows
abbrev Ends : List ℕ → Type 0
Ends [] = Unit {0}
Ends (b ∷ bs) = b ≡ 47

ends : (path : List (List ℕ)) → Ends (path_text path)
ends [] = tt
ends (s ∷ ss) = refl

same_start : (s t x y : List ℕ) → HasNoSlash s → HasNoSlash t → Ends x → Ends y → s ++ x ≡ t ++ y → (s ≡ t) × (x ≡ y)
same_start [] [] x y hs ht ex ey e = (refl, e)
same_start [] (c ∷ t) [] y hs ht ex ey e = absurd (let z : [] ≡ c ∷ (t ++ y) = e in cc)
same_start [] (c ∷ t) (b ∷ x) y hs ht ex ey e =
    let z : b ∷ x ≡ c ∷ (t ++ y) = e in
    let same : c ≡ b = cc in
    absurd (All-head (λ (b : ℕ). b ≢ 47) c t ht (same ∙ ex))
same_start (b ∷ s) [] x [] hs ht ex ey e = absurd (let z : b ∷ (s ++ x) ≡ [] = e in cc)
same_start (b ∷ s) [] x (c ∷ y) hs ht ex ey e =
    let z : b ∷ (s ++ x) ≡ c ∷ y = e in
    let same : b ≡ c = cc in
    absurd (All-head (λ (b : ℕ). b ≢ 47) b s hs (same ∙ ey))
same_start (b ∷ s) (c ∷ t) x y hs ht ex ey e =
    let z : b ∷ (s ++ x) ≡ c ∷ (t ++ y) = e in
    let same : b ≡ c = cc in
    let after : s ++ x ≡ t ++ y = cc in
    let h = same_start s t x y (All-tail (λ (b : ℕ). b ≢ 47) b s hs) (All-tail (λ (b : ℕ). b ≢ 47) c t ht) ex ey after in
    (ap (λ v. v ∷ s) same ∙ ap (λ v. c ∷ v) h.0, h.1)

same_text : (p q : List (List ℕ)) → All HasNoSlash p → All HasNoSlash q → path_text p ≡ path_text q → p ≡ q
same_text [] [] hp hq e = refl
same_text [] (t ∷ ts) hp hq e = absurd (let z : [] ≡ 47 ∷ (t ++ path_text ts) = e in cc)
same_text (s ∷ ss) [] hp hq e = absurd (let z : 47 ∷ (s ++ path_text ss) ≡ [] = e in cc)
same_text (s ∷ ss) (t ∷ ts) hp hq e =
    let z : 47 ∷ (s ++ path_text ss) ≡ 47 ∷ (t ++ path_text ts) = e in
    let after : s ++ path_text ss ≡ t ++ path_text ts = cc in
    let h = same_start s t (path_text ss) (path_text ts) (All-head HasNoSlash s ss hp) (All-head HasNoSlash t ts hq) (ends ss) (ends ts) after in
    ap (λ (v : List ℕ). v ∷ ss) h.0 ∙ ap (λ (v : List (List ℕ)). t ∷ v) (same_text ss ts (All-tail HasNoSlash s ss hp) (All-tail HasNoSlash t ts hq) h.1)

pub one_kept_path : IsOneKeptPath
one_kept_path path other kept kept' e = same_text path other (plain_kept path kept) (plain_kept other kept') e

-- what a literal pattern that a user writes says of its path
bytes_from : (bytes : List ℕ) → All IsPart (byte_parts bytes) → All IsPathByte bytes
bytes_from [] h = All-nil IsPathByte
bytes_from (b ∷ bs) h = All-cons IsPathByte b bs (All-head IsPart (Byte b) (byte_parts bs) h) (bytes_from bs (All-tail IsPart (Byte b) (byte_parts bs) h))

segment_from : (segment : List ℕ) → AreParts (byte_parts segment) → IsSegment segment
segment_from segment h = record {
  nonempty = (let n : length (byte_parts segment) ≡ length segment = length-map segment (λ byte. Byte byte) in let k = h.nonempty in omega arith);
  short = (let n : length (parts_text (byte_parts segment)) ≡ length segment = ap length (parts_text-bytes segment) in let k = h.short in omega arith);
  bytes = bytes_from segment h.each;
}

segments_from : (path : List (List ℕ)) → All IsPatternSegment (literal_of path) → All IsSegment path
segments_from [] h = All-nil IsSegment
segments_from (s ∷ ss) h =
    All-cons IsSegment s ss (segment_from s (All-head IsPatternSegment (literal_segment s) (literal_of ss) h))
    (segments_from ss (All-tail IsPatternSegment (literal_segment s) (literal_of ss) h))

path_from : (path : List (List ℕ)) → IsPattern (literal_of path) → IsPath path
path_from path h =
    let n : length (literal_of path) ≡ length path = length-map path literal_segment in
    record {
      nonempty = (let k = h.nonempty in omega arith);
      few = (let k = h.few in omega arith);
      segments = segments_from path h.segments;
    }

kept_of : (path : List (List ℕ)) → IsPath path ⊎ IsInner path → IsKeptPath path
kept_of path (inl good) = kept_path path good
kept_of path (inr inner) = subst IsKeptPath (sym inner.whole) (kept_inner inner.kind inner.name inner.symbol)

kept_by_form : (path : List (List ℕ)) → ∥ IsPath path ⊎ IsInner path ∥₁ → IsKeptPath path
kept_by_form path form = record {
  form = form;
  few = few (cases_lt 16 (length path));
  short = All-weaker (Contains path) (λ segment. length segment ≤ 64) (λ segment listed. short segment listed (cases_lt 64 (length segment))) path (All-contains_itself path);
}
  where
    few : (16 < length path) ⊎ (length path ≤ 16) → length path ≤ 16
    few (inr within) = within
    few (inl beyond) = absurd (∥∥₁_elim form (λ x y. absurd x) (λ h. let k : length path ≤ 16 = (kept_of path h).few in omega arith))

    short : (segment : List ℕ) → Contains path segment → (64 < length segment) ⊎ (length segment ≤ 64) → length segment ≤ 64
    short segment listed (inr within) = within
    short segment listed (inl beyond) =
        absurd (∥∥₁_elim form (λ x y. absurd x) (λ h. let k : length segment ≤ 64 = All-contains (λ segment. length segment ≤ 64) path segment (kept_of path h).short listed in omega arith))

-- the literal pattern of a program has a path of a program
pub literal_kept : (path : List (List ℕ)) → IsKeptPattern (literal_of path) → IsKeptPath path
literal_kept path kept = kept_by_form path (∥∥₁_map kept go)
  where
    go : IsPattern (literal_of path) ⊎ ((p : List (List ℕ)) × IsInner p × (literal_of path ≡ literal_of p)) → IsPath path ⊎ IsInner path
    go (inl good) = inl (path_from path good)
    go (inr (p, inner, same)) = inr (subst IsInner (sym (literal_same path p same)) inner)
