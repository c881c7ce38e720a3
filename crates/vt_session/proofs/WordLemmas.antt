-- What stands at the head of bytes, and what words they are.
use Rattle.std.proofs.Common.{◌≡◌, ℕ, zero, suc, ◌+◌, ◌-◌, ◌<◌, ◌≤◌, Bool, true, false, not, ◌||◌, inl, inr, Bor, get_or, List, [], ◌∷◌, ◌++◌, length, take, drop, Option, Some, None, cond, eqb, refl, sym, ap, ◌∙◌, subst, arith, append_assoc, append-nil, length-append, true≢false}
use Rattle.std.specs.List.{concat, list_all, prefix_len}
use Rattle.std.proofs.lemmas.Bool.{eqb-true}
use Rattle.std.proofs.lemmas.List.{take-append-drop, take_rest, take_all, take_at, drop_at, length-take-le}
use Rattle.std.proofs.lemmas.List.Sums.{prefix_len-le-length}
use Rattle.vt_frac.proofs.DecimalLemmas.{both_true}
use Rattle.vt_lex.specs.Bytes.{is_blank}
use Rattle.vt_lex.specs.declared.texts.Measure.{Measure}
use Rattle.vt_lex.specs.Texts.{Body, body_of, measured}
use Rattle.vt_lex.proofs.Bounds.{body_inside, prefix_some}
use Rattle.vt_lex.proofs.Shapes.{all_pass, body_taken}
use Rattle.vt_lex.proofs.Units.{body_extended}
use Rattle.vt_session.specs.declared.words.Next.{Next}
use Rattle.vt_session.specs.declared.words.Next.TheVariants.{End, Word, Bad}
use Rattle.vt_session.specs.Words.{AreWords, IsWord, is_bare_byte}
use Rattle.vt_session.specs.private.Reading.{AreNoWords, IsNext, IsNextWord, IsWordOf, bytes_of, ends_word, quoted_size, word_size}

-- the first byte, if there is one, fails the test
abbrev pub Stops : (ℕ → Bool) → List ℕ → Type 0
Stops p [] = Unit {0}
Stops p (b ∷ bytes) = p b ≡ false

pub prefix_whole : (p : ℕ → Bool) (xs ys : List ℕ) → list_all p xs ≡ true → Stops p ys → prefix_len p (xs ++ ys) ≡ length xs
prefix_whole p [] [] h s = refl
prefix_whole p [] (y ∷ ys) h s = rw s refl
prefix_whole p (x ∷ xs) ys h s =
    let parts = both_true (p x) (list_all p xs) h in
    rw (parts.0, prefix_whole p xs ys parts.1 s) (omega arith)

pub all_of_prefix : (p : ℕ → Bool) (xs : List ℕ) → prefix_len p xs ≡ length xs → list_all p xs ≡ true
all_of_prefix p xs e = subst (λ (ys : List ℕ). list_all p ys ≡ true) (ap (λ (n : ℕ). take n xs) e ∙ take_all (length xs) xs (omega arith)) (all_pass p xs)

pub prefix_of_all : (p : ℕ → Bool) (xs : List ℕ) → list_all p xs ≡ true → prefix_len p xs ≡ length xs
prefix_of_all p xs h = ap (prefix_len p) (sym (append-nil xs)) ∙ prefix_whole p xs [] h tt

neither : (x y : Bool) → not (x || y) ≡ true → (x ≡ false) × (y ≡ false)
neither true y h = absurd (true≢false (sym h))
neither false true h = absurd (true≢false (sym h))
neither false false h = (refl, refl)

bare_from : (x y : Bool) → x ≡ false → y ≡ false → not (x || y) ≡ true
bare_from x y h k = rw (h, k) refl

pub bare_parts : (b : ℕ) → is_bare_byte b ≡ true → (is_blank b ≡ false) × (eqb b 34 ≡ false)
bare_parts b h = neither (is_blank b) (eqb b 34) h

-- a word begins with no blank
word_stops : (word rest : List ℕ) → IsWord word → Stops is_blank (word ++ rest)
word_stops [] rest (inl bare) = absurd (let n : 0 < 0 = bare.some in omega arith)
word_stops [] rest (inr quoted) = absurd (let z : 0 ≡ 34 = quoted.quote in omega arith)
word_stops (b ∷ bytes) rest (inl bare) = (bare_parts b (both_true (is_bare_byte b) (list_all is_bare_byte bytes) bare.bare).0).0
word_stops (b ∷ bytes) rest (inr quoted) = let e : b ≡ 34 = quoted.quote in ap is_blank e

bare_ends : (rest : List ℕ) → ends_word rest ≡ true → Stops is_bare_byte rest
bare_ends [] e = tt
bare_ends (b ∷ bytes) e = ap (λ (x : Bool). not (x || eqb b 34)) e

-- the size of a word that ends where it ends
pub word_sized : (word rest : List ℕ) → IsWord word → ends_word rest ≡ true → word_size (word ++ rest) ≡ Some (length word)
word_sized [] rest (inl bare) ends = absurd (let n : 0 < 0 = bare.some in omega arith)
word_sized [] rest (inr quoted) ends = absurd (let z : 0 ≡ 34 = quoted.quote in omega arith)
word_sized (b ∷ bytes) rest (inl bare) ends =
    let parts = both_true (is_bare_byte b) (list_all is_bare_byte bytes) bare.bare in
    let no_quote = (bare_parts b parts.0).1 in
    let size : prefix_len is_bare_byte ((b ∷ bytes) ++ rest) ≡ length (b ∷ bytes) = prefix_whole is_bare_byte (b ∷ bytes) rest bare.bare (bare_ends rest ends) in
    ap (λ (t : Bool). cond t (quoted_size (body_of 34 (bytes ++ rest))) (Some (prefix_len is_bare_byte (b ∷ (bytes ++ rest))))) no_quote
    ∙ ap (λ (n : ℕ). Some n) size
word_sized (b ∷ bytes) rest (inr quoted) ends =
    let first : b ≡ 34 = quoted.quote in
    let body : body_of 34 (bytes ++ rest) ≡ Some quoted.body = body_extended 34 bytes rest quoted.body quoted.closes in
    ap (λ (c : ℕ). cond (eqb c 34) (quoted_size (body_of 34 (bytes ++ rest))) (Some (prefix_len is_bare_byte (c ∷ (bytes ++ rest))))) first
    ∙ (ap quoted_size body ∙ ap (λ (n : ℕ). Some n) quoted.ends)

bare_there : (b : ℕ) (rest : List ℕ) → is_blank b ≡ false → eqb b 34 ≡ false → IsWord (take (prefix_len is_bare_byte (b ∷ rest)) (b ∷ rest)) × (prefix_len is_bare_byte (b ∷ rest) ≤ length (b ∷ rest))
bare_there b rest no_blank no_quote =
    let within = prefix_len-le-length is_bare_byte (b ∷ rest) in
    let some : 0 < prefix_len is_bare_byte (b ∷ rest) = prefix_some is_bare_byte (b ∷ rest) (omega arith) (bare_from (is_blank b) (eqb b 34) no_blank no_quote) in (
      inl (record {
        some = omega (arith, some, length-take-le (prefix_len is_bare_byte (b ∷ rest)) (b ∷ rest) within);
        bare = all_pass is_bare_byte (b ∷ rest);
      }),
      within,
    )

quoted_there : (b : ℕ) (rest : List ℕ) (body : Body) → b ≡ 34 → body_of 34 rest ≡ Some body → IsWord (take (suc body.len) (b ∷ rest)) × (suc body.len ≤ length (b ∷ rest))
quoted_there b rest body first e =
    let within : body.len ≤ length rest = (body_inside 34 rest).inside body e in (
      inr (record {
        quote = first;
        body = body;
        closes = body_taken 34 rest body e;
        ends = omega (arith, length-take-le body.len rest within);
      }),
      omega arith,
    )

quoted_by : (b : ℕ) (rest : List ℕ) (n : ℕ) (o : Option Body) → b ≡ 34 → body_of 34 rest ≡ o → quoted_size o ≡ Some n → IsWord (take n (b ∷ rest)) × (n ≤ length (b ∷ rest))
quoted_by b rest n None first e f = absurd (let z : None ≡ Some n = f in cc)
quoted_by b rest n (Some body) first e f =
    let sized : 1 + body.len ≡ n = cc in
    let same : suc body.len ≡ n = omega (arith, sized) in
    subst (λ (m : ℕ). IsWord (take m (b ∷ rest)) × (m ≤ length (b ∷ rest))) same (quoted_there b rest body first e)

-- a word of the size is there
pub word_there : (form : List ℕ) (n : ℕ) → Stops is_blank form → word_size form ≡ Some n → IsWord (take n form) × (n ≤ length form)
word_there [] n stops e = absurd (let z : None ≡ Some n = e in cc)
word_there (b ∷ rest) n stops e = go (eqb b 34) refl e where
  go : (t : Bool) → eqb b 34 ≡ t → cond t (quoted_size (body_of 34 rest)) (Some (prefix_len is_bare_byte (b ∷ rest))) ≡ Some n → IsWord (take n (b ∷ rest)) × (n ≤ length (b ∷ rest))
  go true quote f = quoted_by b rest n (body_of 34 rest) (eqb-true b 34 quote) refl f
  go false quote f =
      let same : prefix_len is_bare_byte (b ∷ rest) ≡ n = cc in
      subst (λ (m : ℕ). IsWord (take m (b ∷ rest)) × (m ≤ length (b ∷ rest))) same (bare_there b rest stops quote)

-- words begin with what ends a word before them
blank_ends : (bytes : List ℕ) → list_all is_blank bytes ≡ true → ends_word bytes ≡ true
blank_ends [] h = refl
blank_ends (b ∷ bytes) h = (both_true (is_blank b) (list_all is_blank bytes) h).0

gap_ends : (gap more : List ℕ) → 0 < length gap → list_all is_blank gap ≡ true → ends_word (gap ++ more) ≡ true
gap_ends [] more some h = absurd (omega arith)
gap_ends (b ∷ gap) more some h = (both_true (is_blank b) (list_all is_blank gap) h).0

pub words_end : (words : List (List ℕ)) (bytes : List ℕ) → AreWords words bytes → ends_word bytes ≡ true
words_end [] bytes h = blank_ends bytes h
words_end (word ∷ words) bytes h =
    ap ends_word (h.whole ∙ append_assoc h.gap word h.rest) ∙ gap_ends h.gap (word ++ h.rest) h.some h.blank

-- the first of words, and the rest
pub next_of_words : (word : List ℕ) (words : List (List ℕ)) (bytes : List ℕ) → (h : AreWords (word ∷ words) bytes) → IsNextWord word h.rest bytes
next_of_words word words bytes h = record {
  gap = h.gap;
  some = h.some;
  blank = h.blank;
  word_form = h.word_form;
  whole = h.whole;
  ends = words_end words h.rest h.more;
}

pub words_of_next : (word rest : List ℕ) (words : List (List ℕ)) (bytes : List ℕ) → IsNextWord word rest bytes → AreWords words rest → AreWords (word ∷ words) bytes
words_of_next word rest words bytes n h = record {
  gap = n.gap;
  rest = rest;
  some = n.some;
  blank = n.blank;
  word_form = n.word_form;
  whole = n.whole;
  more = h;
}

-- the bytes behind the blanks at the head
abbrev pub behind_gap : List ℕ → List ℕ
behind_gap bytes = drop (prefix_len is_blank bytes) bytes

-- where a word is next, the blanks are all that stands before it, and its size tells it
pub record IsCut (word rest bytes : List ℕ) : Type 0 where
  pub some : 0 < prefix_len is_blank bytes
  pub short : prefix_len is_blank bytes < length bytes
  pub form : behind_gap bytes ≡ word ++ rest
  pub size : word_size (behind_gap bytes) ≡ Some (length word)

length_word : (word : List ℕ) → IsWord word → 0 < length word
length_word word (inl bare) = bare.some
length_word [] (inr quoted) = absurd (let z : 0 ≡ 34 = quoted.quote in omega arith)
length_word (b ∷ bytes) (inr quoted) = omega arith

pub cut_of : (word rest bytes : List ℕ) → IsNextWord word rest bytes → IsCut word rest bytes
cut_of word rest bytes n =
    let whole : bytes ≡ n.gap ++ (word ++ rest) = n.whole ∙ append_assoc n.gap word rest in
    let len : prefix_len is_blank bytes ≡ length n.gap = ap (prefix_len is_blank) whole ∙ prefix_whole is_blank n.gap (word ++ rest) n.blank (word_stops word rest n.word_form) in
    let form : behind_gap bytes ≡ word ++ rest = ap (λ (k : ℕ). drop k bytes) len ∙ (ap (drop (length n.gap)) whole ∙ drop_at n.gap (word ++ rest) (length n.gap) refl) in
    record {
      some = omega (arith, len, n.some);
      short = omega (arith, len, ap length whole, length-append n.gap (word ++ rest), length-append word rest, length_word word n.word_form);
      form = form;
      size = ap word_size form ∙ word_sized word rest n.word_form n.ends;
    }

-- a word that is next has the size, and the rest follows it
pub cut_at : (word rest bytes : List ℕ) (n : ℕ) → IsNextWord word rest bytes → word_size (behind_gap bytes) ≡ Some n → (word ≡ take n (behind_gap bytes)) × (rest ≡ drop n (behind_gap bytes))
cut_at word rest bytes n next e =
    let c = cut_of word rest bytes next in
    let z : Some (length word) ≡ Some n = sym c.size ∙ e in
    let same : length word ≡ n = cc in (
      sym (ap (take n) c.form ∙ take_at word rest n same),
      sym (ap (drop n) c.form ∙ drop_at word rest n same),
    )

-- two words that are next are the same
pub next_one : (word rest other more bytes : List ℕ) → IsNextWord word rest bytes → IsNextWord other more bytes → (word ≡ other) × (rest ≡ more)
next_one word rest other more bytes a b =
    let size = (cut_of other more bytes b).size in
    let one = cut_at word rest bytes (length other) a size in
    let two = cut_at other more bytes (length other) b size in
    (one.0 ∙ sym two.0, one.1 ∙ sym two.1)

-- nothing but blanks has no word
pub no_next : (word rest bytes : List ℕ) → IsNextWord word rest bytes → list_all is_blank bytes ≡ true → ⊥
no_next word rest bytes n h =
    let c = cut_of word rest bytes n in
    let len = prefix_of_all is_blank bytes h in
    let short = c.short in
    omega arith

-- the bytes are words in one way
pub words_one : (words others : List (List ℕ)) (bytes : List ℕ) → AreWords words bytes → AreWords others bytes → words ≡ others
words_one [] [] bytes a b = refl
words_one [] (other ∷ others) bytes a b = absurd (no_next other b.rest bytes (next_of_words other others bytes b) a)
words_one (word ∷ words) [] bytes a b = absurd (no_next word a.rest bytes (next_of_words word words bytes a) b)
words_one (word ∷ words) (other ∷ others) bytes a b =
    let one = next_one word a.rest other b.rest bytes (next_of_words word words bytes a) (next_of_words other others bytes b) in
    let more = words_one words others b.rest (subst (λ (r : List ℕ). AreWords words r) one.1 a.more) b.more in
    ap (λ (w : List ℕ). w ∷ words) one.0 ∙ ap (λ (ws : List (List ℕ)). other ∷ ws) more

-- what is no word at the head is no words
module _ (bytes : List ℕ) where
  pub none_without_gap : prefix_len is_blank bytes ≡ 0 → (prefix_len is_blank bytes ≡ length bytes → ⊥) → AreNoWords bytes
  none_without_gap zero_gap left [] h = left (prefix_of_all is_blank bytes h)
  none_without_gap zero_gap left (word ∷ words) h =
      let some = (cut_of word h.rest bytes (next_of_words word words bytes h)).some in omega arith

  pub none_without_size : word_size (behind_gap bytes) ≡ None → (prefix_len is_blank bytes ≡ length bytes → ⊥) → AreNoWords bytes
  none_without_size e left [] h = left (prefix_of_all is_blank bytes h)
  none_without_size e left (word ∷ words) h =
      let z : None ≡ Some (length word) = sym e ∙ (cut_of word h.rest bytes (next_of_words word words bytes h)).size in cc

  pub none_without_end : (n : ℕ) → word_size (behind_gap bytes) ≡ Some n → ends_word (drop n (behind_gap bytes)) ≡ false → (prefix_len is_blank bytes ≡ length bytes → ⊥) → AreNoWords bytes
  none_without_end n e f left [] h = left (prefix_of_all is_blank bytes h)
  none_without_end n e f left (word ∷ words) h =
      let next = next_of_words word words bytes h in
      true≢false (sym next.ends ∙ (ap ends_word (cut_at word h.rest bytes n next e).1 ∙ f))

  -- a word of the size, behind the blanks
  pub next_there : (n : ℕ) → 0 < prefix_len is_blank bytes → Stops is_blank (behind_gap bytes) → word_size (behind_gap bytes) ≡ Some n → ends_word (drop n (behind_gap bytes)) ≡ true → IsNextWord (take n (behind_gap bytes)) (drop n (behind_gap bytes)) bytes
  next_there n some stops e ends =
      let w = word_there (behind_gap bytes) n stops e in
      record {
        gap = take (prefix_len is_blank bytes) bytes;
        some = omega (arith, length-take-le (prefix_len is_blank bytes) bytes (prefix_len-le-length is_blank bytes));
        blank = all_pass is_blank bytes;
        word_form = w.0;
        whole = sym (append_assoc (take (prefix_len is_blank bytes) bytes) (take n (behind_gap bytes)) (drop n (behind_gap bytes))
            ∙ (ap (λ (xs : List ℕ). take (prefix_len is_blank bytes) bytes ++ xs) (take-append-drop n (behind_gap bytes))
            ∙ take-append-drop (prefix_len is_blank bytes) bytes));
        ends = ends;
      }

-- the bytes behind the longest prefix do not begin with what passes
stops_by : (p : ℕ → Bool) (b n : ℕ) (bytes : List ℕ) (t : Bool) → p b ≡ t → Stops p (drop n bytes) → Stops p (drop (cond t (1 + n) 0) (b ∷ bytes))
stops_by p b n bytes false e more = e
stops_by p b n bytes true e more = subst (λ (k : ℕ). Stops p (drop k (b ∷ bytes))) (let one : suc n ≡ 1 + n = omega arith in one) more

pub behind_stops : (p : ℕ → Bool) (bytes : List ℕ) → Stops p (drop (prefix_len p bytes) bytes)
behind_stops p [] = tt
behind_stops p (b ∷ bytes) = stops_by p b (prefix_len p bytes) bytes (p b) refl (behind_stops p bytes)

-- words are no longer than the bytes that they stand in
pub words_short : (words : List (List ℕ)) (bytes : List ℕ) → AreWords words bytes → length (concat words) ≤ length bytes
words_short [] bytes h = omega arith
words_short (word ∷ words) bytes h =
    omega (arith, words_short words h.rest h.more, ap length h.whole, length-append (h.gap ++ word) h.rest, length-append h.gap word, length-append word (concat words))

pub later_short : (n : ℕ) (words : List (Bor (List ℕ))) → length (concat (bytes_of (drop n words))) ≤ length (concat (bytes_of words))
later_short zero words = omega arith
later_short (suc n) [] = omega arith
later_short (suc n) (word ∷ words) = omega (arith, later_short n words, length-append word.now (concat (bytes_of words)))

pub word_short : (words : List (Bor (List ℕ))) (i : ℕ) (d : Bor (List ℕ)) → i < length words → length (get_or words i d).now ≤ length (concat (bytes_of words))
word_short [] i d h = absurd (omega arith)
word_short (word ∷ words) zero d h = omega (arith, length-append word.now (concat (bytes_of words)))
word_short (word ∷ words) (suc i) d h = omega (arith, word_short words i d (omega arith), length-append word.now (concat (bytes_of words)))

-- where words are split off one by one: those that are found, and those that are left
pub record Splits (bytes left : List ℕ) (found : List (List ℕ)) : Type 0 where
  pub more : (words : List (List ℕ)) → AreWords words left → AreWords (found ++ words) bytes
  pub all : (words : List (List ℕ)) → AreWords words bytes → (others : List (List ℕ)) × AreWords others left
  pub within : length left ≤ length bytes

pub splits_none : (bytes : List ℕ) → Splits bytes bytes []
splits_none bytes = record { more = λ words h. h; all = λ words h. (words, h); within = omega arith }

pub tail_words : (word rest left : List ℕ) (words : List (List ℕ)) → IsNextWord word rest left → AreWords words left → (others : List (List ℕ)) × AreWords others rest
tail_words word rest left [] n h = absurd (no_next word rest left n h)
tail_words word rest left (other ∷ words) n h =
    let one = next_one word rest other h.rest left n (next_of_words other words left h) in
    (words, subst (λ (r : List ℕ). AreWords words r) (sym one.1) h.more)

pub splits_more : (bytes left word rest : List ℕ) (found : List (List ℕ)) → Splits bytes left found → IsNextWord word rest left → Splits bytes rest (found ++ word ∷ [])
splits_more bytes left word rest found s n = record {
  more = λ words h. subst (λ (ws : List (List ℕ)). AreWords ws bytes) (sym (append_assoc found (word ∷ []) words)) (s.more (word ∷ words) (words_of_next word rest words left n h));
  all = λ words h. let o = s.all words h in tail_words word rest left o.0 n o.1;
  within = omega (arith, s.within, ap length n.whole, length-append (n.gap ++ word) rest);
}

pub splits_shorter : (left word rest : List ℕ) → IsNextWord word rest left → length rest < length left
splits_shorter left word rest n = omega (arith, ap length n.whole, length-append (n.gap ++ word) rest, length-append n.gap word, n.some)

pub splits_end : (bytes left : List ℕ) (found : List (List ℕ)) → Splits bytes left found → list_all is_blank left ≡ true → AreWords found bytes
splits_end bytes left found s h = subst (λ (ws : List (List ℕ)). AreWords ws bytes) (append-nil found) (s.more [] h)

pub splits_bad : (bytes left : List ℕ) (found : List (List ℕ)) → Splits bytes left found → AreNoWords left → AreNoWords bytes
splits_bad bytes left found s none words h = let o = s.all words h in none o.0 o.1

-- Where the word of the code stands: in the form behind the gap
module _ (bytes form : List ℕ) (gap : ℕ) (longest : gap ≡ prefix_len is_blank bytes) (cut : form ≡ take (length bytes - gap) (drop gap bytes)) where
  form_is : form ≡ behind_gap bytes
  form_is = cut ∙ (take_rest bytes gap ∙ ap (λ (k : ℕ). drop k bytes) longest)

  stops : Stops is_blank form
  stops = subst (Stops is_blank) (sym form_is) (behind_stops is_blank bytes)

  pub size_within : (n : ℕ) → Some n ≡ word_size form → n ≤ length form
  size_within n e = (word_there form n stops (sym e)).1

  pub no_size : None ≡ word_size form → (gap ≡ length bytes → ⊥) → AreNoWords bytes
  no_size e left = none_without_size bytes (ap word_size (sym form_is) ∙ sym e) (λ f. left (longest ∙ f))

  pub next_found : (n : ℕ) (next : Next) → Some n ≡ word_size form → (gap ≡ 0 → ⊥) → (gap ≡ length bytes → ⊥) → IsWordOf form n next → IsNext bytes next
  next_found n End e some left h = absurd h
  next_found n (Word word rest) e some left h =
      let size : word_size (behind_gap bytes) ≡ Some n = ap word_size (sym form_is) ∙ sym e in
      let ends : ends_word (drop n (behind_gap bytes)) ≡ true = ap (λ (xs : List ℕ). ends_word (drop n xs)) (sym form_is) ∙ h.2 in
      let there = next_there bytes n (omega (arith, longest, some)) (behind_stops is_blank bytes) size ends in
      let first : take n (behind_gap bytes) ≡ word.now = ap (take n) (sym form_is) ∙ sym h.0 in
      let second : drop n (behind_gap bytes) ≡ rest.now = ap (drop n) (sym form_is) ∙ sym h.1 in
      subst (λ (w : List ℕ). IsNextWord w rest.now bytes) first (subst (λ (r : List ℕ). IsNextWord (take n (behind_gap bytes)) r bytes) second there)
  next_found n Bad e some left h =
      none_without_end bytes n (ap word_size (sym form_is) ∙ sym e) (ap (λ (xs : List ℕ). ends_word (drop n xs)) (sym form_is) ∙ h) (λ f. left (longest ∙ f))

pub quoted_measured : (o : Option Body) (m : Measure) → Some m ≡ measured o → Some (1 + m.len) ≡ quoted_size o
quoted_measured None m e = absurd (let z : Some m ≡ None = e in cc)
quoted_measured (Some body) m e =
    let same : m ≡ record { len = body.len; count = length body.value } = cc in
    ap (λ (x : Measure). Some (1 + x.len)) same

pub quoted_none : (o : Option Body) → None ≡ measured o → None ≡ quoted_size o
quoted_none None e = refl
quoted_none (Some body) e = absurd (let z : None ≡ Some (record { len = body.len; count = length body.value }) = e in cc)
