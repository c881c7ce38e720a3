-- A path that is being read goes on with a byte, or no path does.
use Rattle.std.proofs.Common.{◌≡◌, ℕ, ◌+◌, ◌<◌, ◌≤◌, List, [], ◌∷◌, ◌++◌, length, refl, arith, append_assoc, length-append, inl, inr, Some, None, ap, suc, ◌*◌, lit≤, Bool, true, false, Option, subst}
use Rattle.std.specs.List.{All}
use Rattle.std.proofs.lemmas.List.{append-nil}
use Rattle.std.proofs.lemmas.List.Elements.{All-head, All-tail, All-nil, All-cons, All-push}
use Rattle.vt_path.specs.Byte.{IsPathByte}
use Rattle.vt_path.specs.Path.{IsPath, IsSegment, path_text}
use Rattle.vt_path.specs.private.PathReading.{GoesOnTo, IsSound, ReadsOn, ReadsNoFurther, Ends, Takes}
use Rattle.vt_path.proofs.ByteLemmas.{not_path_byte}
use Rattle.vt_path.proofs.Prefixes.{Reads, Opens}
use Rattle.vt_path.proofs.Lists.{All-back, All-middle}

-- what a slash goes on with: the end of the segment, and another
record Slash (rest more : List ℕ) (tail : List (List ℕ)) : Type 0 where
  next : List ℕ
  others : List (List ℕ)
  ended : more ≡ []
  after : tail ≡ next ∷ others
  text : rest ≡ next ++ path_text others

slash : (rest more : List ℕ) (tail : List (List ℕ)) → All IsPathByte more → 47 ∷ rest ≡ more ++ path_text tail → Slash rest more tail
slash rest [] [] all e = absurd (let z : 47 ∷ rest ≡ [] = e in cc)
slash rest [] (t ∷ ts) all e = record {
  next = t;
  others = ts;
  ended = refl;
  after = refl;
  text = (let z : 47 ∷ rest ≡ 47 ∷ (t ++ path_text ts) = e in cc);
}
slash rest (b ∷ more) tail all e =
    absurd (not_path_byte b (inl (let z : 47 ∷ rest ≡ b ∷ (more ++ path_text tail) = e in cc)) (All-head IsPathByte b more all))

-- what a path byte goes on with: the same segment
record Byte (b : ℕ) (rest more : List ℕ) (tail : List (List ℕ)) : Type 0 where
  later : List ℕ
  goes : more ≡ b ∷ later
  text : rest ≡ later ++ path_text tail

byte : (b : ℕ) (rest more : List ℕ) (tail : List (List ℕ)) → IsPathByte b → b ∷ rest ≡ more ++ path_text tail → Byte b rest more tail
byte b rest [] [] p e = absurd (let z : b ∷ rest ≡ [] = e in cc)
byte b rest [] (t ∷ ts) p e =
    absurd (not_path_byte b (inl (let z : b ∷ rest ≡ 47 ∷ (t ++ path_text ts) = e in cc)) p)
byte b rest (c ∷ more) tail p e = record {
  later = more;
  goes = (let z : b ∷ rest ≡ c ∷ (more ++ path_text tail) = e in cc);
  text = (let z : b ∷ rest ≡ c ∷ (more ++ path_text tail) = e in cc);
}

-- the segment that is being read, whole
segment_of : {done : List (List ℕ)} {begun rest : List ℕ} {path : List (List ℕ)} → IsPath path → (h : GoesOnTo done begun rest path) → IsSegment (begun ++ h.more)
segment_of {done} {begun} {rest} {path} good h =
    All-middle IsSegment done (begun ++ h.more) h.tail (let e = h.whole in let g = good.segments in rw e at g)

more_bytes : {done : List (List ℕ)} {begun rest : List ℕ} {path : List (List ℕ)} → IsPath path → (h : GoesOnTo done begun rest path) → All IsPathByte h.more
more_bytes {done} {begun} good h = All-back IsPathByte begun h.more (segment_of good h).bytes

-- what the lists say of the path, once more is known of them
after_slash : (path done tail others : List (List ℕ)) (begun more next : List ℕ) → path ≡ done ++ (begun ++ more) ∷ tail → more ≡ [] → tail ≡ next ∷ others
    → path ≡ (done ++ begun ∷ []) ++ ([] ++ next) ∷ others
after_slash path done tail others begun more next e m t = rw (e, m, t, append-nil begun) (rw append_assoc refl)

after_byte : (path done tail : List (List ℕ)) (begun more later : List ℕ) (b : ℕ) → path ≡ done ++ (begun ++ more) ∷ tail → more ≡ b ∷ later
    → path ≡ done ++ ((begun ++ b ∷ []) ++ later) ∷ tail
after_byte path done tail begun more later b e m = rw (e, m) (rw append_assoc refl)

length_slash : (path done tail others : List (List ℕ)) (segment next : List ℕ) → path ≡ done ++ segment ∷ tail → tail ≡ next ∷ others
    → length path ≡ length done + length (segment ∷ next ∷ others)
length_slash path done tail others segment next e t = rw (e, t) (length-append done _)

length_byte : (begun more later : List ℕ) (b : ℕ) → more ≡ b ∷ later → length (begun ++ more) ≡ length begun + length (b ∷ later)
length_byte begun more later b e = rw e (length-append begun _)

pub no_slash_empty : (done : List (List ℕ)) → ReadsNoFurther done [] 47
no_slash_empty done rest path good h =
    let s = slash rest h.more h.tail (more_bytes good h) h.text in
    let long : 0 < length ([] ++ h.more) = (segment_of good h).nonempty in
    let e : h.more ≡ [] = s.ended in
    let z : 0 < length h.more = long in
    absurd (let y : 0 < length {A = ℕ} [] = rw e at z in omega arith)

pub no_slash_full : (done : List (List ℕ)) (begun : List ℕ) → length done + 1 ≡ 16 → ReadsNoFurther done begun 47
no_slash_full done begun full rest path good h =
    let s = slash rest h.more h.tail (more_bytes good h) h.text in
    let n : length path ≡ length done + length ((begun ++ h.more) ∷ s.next ∷ s.others) = length_slash path done h.tail s.others (begun ++ h.more) s.next h.whole s.after in
    let few : length path ≤ 16 = good.few in
    absurd (omega arith)

pub slash_reads_on : (done : List (List ℕ)) (begun : List ℕ) → IsSound done begun → 0 < length begun → length done + 1 < 16
    → ReadsOn done begun 47 (done ++ begun ∷ []) []
slash_reads_on done begun sound some room = record {
  sound = record {
    few = rw length-append (omega arith);
    segments = All-push IsSegment done begun sound.segments (record { nonempty = some; short = sound.short; bytes = sound.bytes });
    short = omega arith;
    bytes = All-nil IsPathByte;
  };
  on = λ rest path good h.
      let s = slash rest h.more h.tail (more_bytes good h) h.text in
      record {
        more = s.next;
        tail = s.others;
        whole = after_slash path done h.tail s.others begun h.more s.next h.whole s.ended s.after;
        text = s.text;
      };
  back = λ rest path h.
      record {
        more = [];
        tail = h.more ∷ h.tail;
        whole = rw (append-nil begun) (let e = h.whole in rw (append_assoc) at e);
        text = rw (h.text) refl;
      };
}

pub byte_reads_on : (done : List (List ℕ)) (begun : List ℕ) (b : ℕ) → IsSound done begun → IsPathByte b → length begun < 64
    → ReadsOn done begun b done (begun ++ b ∷ [])
byte_reads_on done begun b sound p room = record {
  sound = record {
    few = sound.few;
    segments = sound.segments;
    short = rw length-append (omega arith);
    bytes = All-push IsPathByte begun b sound.bytes p;
  };
  on = λ rest path good h.
      let s = byte b rest h.more h.tail p h.text in
      record {
        more = s.later;
        tail = h.tail;
        whole = after_byte path done h.tail begun h.more s.later b h.whole s.goes;
        text = s.text;
      };
  back = λ rest path h.
      record {
        more = b ∷ h.more;
        tail = h.tail;
        whole = (let e = h.whole in rw append_assoc at e);
        text = rw (h.text) refl;
      };
}

pub no_byte_full : (done : List (List ℕ)) (begun : List ℕ) (b : ℕ) → IsPathByte b → length begun ≡ 64 → ReadsNoFurther done begun b
no_byte_full done begun b p full rest path good h =
    let s = byte b rest h.more h.tail p h.text in
    let short : length (begun ++ h.more) ≤ 64 = (segment_of good h).short in
    let n : length (begun ++ h.more) ≡ length begun + length (b ∷ s.later) = length_byte begun h.more s.later b s.goes in
    absurd (omega arith)

other : (b : ℕ) (rest more : List ℕ) (tail : List (List ℕ)) → (IsPathByte b → ⊥) → (b ≡ 47 → ⊥) → All IsPathByte more → b ∷ rest ≡ more ++ path_text tail → ⊥
other b rest [] [] p q all e = let z : b ∷ rest ≡ [] = e in cc
other b rest [] (t ∷ ts) p q all e = q (let z : b ∷ rest ≡ 47 ∷ (t ++ path_text ts) = e in cc)
other b rest (c ∷ more) tail p q all e =
    let z : b ∷ rest ≡ c ∷ (more ++ path_text tail) = e in
    let y : b ≡ c = cc in
    p (rw y (All-head IsPathByte c more all))

pub no_other : (done : List (List ℕ)) (begun : List ℕ) (b : ℕ) → (IsPathByte b → ⊥) → (b ≡ 47 → ⊥) → ReadsNoFurther done begun b
no_other done begun b p q rest path good h = other b rest h.more h.tail p q (more_bytes good h) h.text

-- at the end of the bytes
at_end : (more : List ℕ) (tail : List (List ℕ)) → [] ≡ more ++ path_text tail → (more ≡ []) × (tail ≡ [])
at_end [] [] e = (refl, refl)
at_end [] (t ∷ ts) e = absurd (let z : [] ≡ 47 ∷ (t ++ path_text ts) = e in cc)
at_end (b ∷ more) tail e = absurd (let z : [] ≡ b ∷ (more ++ path_text tail) = e in cc)

pub ends_none : (done : List (List ℕ)) → Ends done [] None
ends_none done path good h =
    let z : 0 < length h.more = (segment_of good h).nonempty in
    let e = (at_end h.more h.tail h.text).0 in
    let y : 0 < length {A = ℕ} [] = rw e at z in omega arith

pub ends_some : (done : List (List ℕ)) (begun : List ℕ) → IsSound done begun → 0 < length begun → Ends done begun (Some (done ++ begun ∷ []))
ends_some done begun sound some = (
  record {
    nonempty = rw length-append (omega arith);
    few = (let f = sound.few in rw length-append (omega arith));
    segments = All-push IsSegment done begun sound.segments (record { nonempty = some; short = sound.short; bytes = sound.bytes });
  },
  record { more = []; tail = []; whole = rw (append-nil begun) refl; text = refl },
)

-- whatever was read, some bytes finish a path
pub path_opens : (done : List (List ℕ)) (begun : List ℕ) → IsSound done begun → Opens IsPath (GoesOnTo done begun)
unfolding IsPathByte
path_opens done [] sound =
    let one : IsPathByte 97 = inr (inr (inl (lit≤ tt, lit≤ tt))) in
    let segment : IsSegment (97 ∷ []) = record { nonempty = omega arith; short = omega arith; bytes = All-cons IsPathByte 97 [] one (All-nil IsPathByte) } in (
      97 ∷ [],
      done ++ (97 ∷ []) ∷ [],
      record {
        nonempty = rw length-append (omega arith);
        few = (let f = sound.few in rw length-append (omega arith));
        segments = All-push IsSegment done (97 ∷ []) sound.segments segment;
      },
      record { more = 97 ∷ []; tail = []; whole = refl; text = refl },
    )
path_opens done (b ∷ bs) sound =
    let end = ends_some done (b ∷ bs) sound (omega arith) in ([], done ++ (b ∷ bs) ∷ [], end.0, end.1)

-- what the first slash leaves to be read
pub path_begins : Reads IsPath path_text (GoesOnTo [] []) (47 ∷ [])
path_begins = record {
  on = λ rest path good e. begun rest path good e;
  back = λ rest path h. (let w = h.whole in let t = h.text in rw (w, t) refl);
} where
  begun : (rest : List ℕ) (path : List (List ℕ)) → IsPath path → 47 ∷ rest ≡ path_text path → GoesOnTo [] [] rest path
  begun rest [] good e = absurd (let z : 47 ∷ rest ≡ [] = e in cc)
  begun rest (s ∷ ss) good e = record {
    more = s;
    tail = ss;
    whole = refl;
    text = (let z : 47 ∷ rest ≡ 47 ∷ (s ++ path_text ss) = e in cc);
  }

lengths : (path : List (List ℕ)) → All IsSegment path → length (path_text path) ≤ 65 * length path
lengths [] all = omega arith
lengths (s ∷ ss) all =
    let short : length s ≤ 64 = (All-head IsSegment s ss all).short in
    let n : length (path_text (s ∷ ss)) ≡ suc (length s + length (path_text ss)) = ap suc (length-append s (path_text ss)) in
    omega (arith, lengths ss (All-tail IsSegment s ss all))

-- a path is no longer than this
pub length-path_text : (path : List (List ℕ)) → IsPath path → length (path_text path) ≤ 1040
length-path_text path good = let f = good.few in omega (arith, lengths path good.segments)

pub takes_yes : (done : List (List ℕ)) (begun : List ℕ) (b : ℕ) (done' : List (List ℕ)) (begun' : List ℕ) (taken : Bool) → taken ≡ true
    → Takes done begun b done' begun' taken → ReadsOn done begun b done' begun'
takes_yes done begun b done' begun' true e h = h
takes_yes done begun b done' begun' false e h = absurd (let z : false ≡ true = e in cc)

pub takes_no : (done : List (List ℕ)) (begun : List ℕ) (b : ℕ) (done' : List (List ℕ)) (begun' : List ℕ) (taken : Bool) → taken ≡ false
    → Takes done begun b done' begun' taken → ReadsNoFurther done begun b
takes_no done begun b done' begun' true e h = absurd (let z : true ≡ false = e in cc)
takes_no done begun b done' begun' false e h = h

pub ends_yes : (done : List (List ℕ)) (begun : List ℕ) (o : Option (List (List ℕ))) (path : List (List ℕ)) → o ≡ Some path → Ends done begun o
    → IsPath path × GoesOnTo done begun [] path
ends_yes done begun None path e h = absurd (let z : None ≡ Some path = e in cc)
ends_yes done begun (Some p) path e h =
    let same : p ≡ path = cc in let P : List (List ℕ) → Type 0 = λ q. IsPath q × GoesOnTo done begun [] q in subst P same h

pub ends_no : (done : List (List ℕ)) (begun : List ℕ) (o : Option (List (List ℕ))) → o ≡ None → Ends done begun o
    → (path : List (List ℕ)) → IsPath path → GoesOnTo done begun [] path → ⊥
ends_no done begun None e h = h
ends_no done begun (Some p) e h = absurd (let z : Some p ≡ None = e in cc)

-- a path that is written begins with a slash, and there is one
pub path_slash : (path : List (List ℕ)) → IsPath path → (rest : List ℕ) × (path_text path ≡ 47 ∷ rest)
path_slash [] good = let n : 0 < length {A = List ℕ} [] = good.nonempty in absurd (omega arith)
path_slash (s ∷ ss) good = (s ++ path_text ss, refl)

-- before anything was read
pub sound_begin : IsSound [] []
sound_begin = record { few = omega arith; segments = All-nil IsSegment; short = omega arith; bytes = All-nil IsPathByte }
