-- What the parser's answer says of the tokens with their bytes.
use Rattle.std.proofs.Common.{◌≡◌, inl, inr, ℕ, List, [], ◌∷◌, ◌++◌, Some, None, refl, sym, ap, ◌∙◌, subst, append-nil}
use Rattle.vt_lex.specs.declared.token.Token.{Token}
use Rattle.vt_tree.specs.declared.statement.Stmt.{Stmt}
use Rattle.vt_grammar.specs.private.Parsing.{Read, Stuck}
use Rattle.vt_parse.specs.private.Ends.{end_line}
use Rattle.vt_grammar.specs.Grammar.{block, opened}
use Rattle.vt_grammar.specs.Marks.{Mark, Spelled, marked, mark_of, number_with}
use Rattle.vt_parse.specs.private.Parses.{Fails, peeked_line}
use Rattle.vt_grammar.specs.Tokens.{spelled, spelled_in}
use Rattle.vt_grammar.specs.Text.{text, Reads, Begins, SyntaxRefuses}
use Rattle.vt_grammar.specs.Trees.{block_tree}
use Rattle.vt_build.specs.declared.fault.Fault.{Fault}
use Rattle.vt_build.specs.declared.fault.Fault.TheVariants.{Here}
use Rattle.vt_grammar.proofs.TextLaws.{text_lawful}

-- where the marks are cut before one of them, so are the tokens
record CutAt (n : ℕ) (ss : List Spelled) (f : List Mark) (t : Mark) : Type 0 where
  prefix : List Spelled
  token : Spelled
  rest : List Spelled
  whole : ss ≡ prefix ++ token ∷ rest
  before : marked n prefix ≡ f
  with_it : marked n (prefix ++ token ∷ []) ≡ f ++ t ∷ []
  line_is : t.line ≡ token.token.line

cut_at : (f : List Mark) (n : ℕ) (ss : List Spelled) (t : Mark) (r : List Mark) → marked n ss ≡ f ++ t ∷ r → CutAt n ss f t
unfolding mark_of
cut_at f n [] t r e = absurd (nonempty f t r e)
  where
    nonempty : (f : List Mark) (t : Mark) (r : List Mark) → [] ≡ f ++ t ∷ r → ⊥
    nonempty [] t r e = cc
    nonempty (x ∷ f) t r e = cc
cut_at [] n (s ∷ ss) t r e =
    let same : mark_of n s ≡ t = cc in
    record {
      prefix = [];
      token = s;
      rest = ss;
      whole = refl;
      before = refl;
      with_it = ap (λ z. z ∷ []) same;
      line_is = ap (λ (z : Mark). z.line) (sym same);
    }
cut_at (x ∷ f) n (s ∷ ss) t r e =
    let same : mark_of n s ≡ x = cc in
    let c = cut_at f (number_with n s) ss t r (let tail : marked (number_with n s) ss ≡ f ++ t ∷ r = cc in tail) in
    record {
      prefix = s ∷ c.prefix;
      token = c.token;
      rest = c.rest;
      whole = ap (λ z. s ∷ z) c.whole;
      before = let e1 : mark_of n s ∷ marked (number_with n s) c.prefix ≡ x ∷ f = (let p = same in let q = c.before in cc) in e1;
      with_it = let e2 : mark_of n s ∷ marked (number_with n s) (c.prefix ++ c.token ∷ []) ≡ x ∷ (f ++ t ∷ []) = (let p = same in let q = c.with_it in cc) in e2;
      line_is = c.line_is;
    }

module _ (bytes : List ℕ) (ts : List Token) where
  pub text_ok : (n : List Mark) (v : List Stmt) → Read (block (opened 64)) (marked 0 (spelled bytes ts)) n v → peeked_line n ≡ None
      → Reads (spelled bytes ts) (block_tree 0 None v)
  unfolding Reads text
  text_ok [] v h e = (v, subst (λ z. (block (opened 64)).reads z v) (sym (h.whole ∙ append-nil h.prefix)) h.is_read, refl)
  text_ok (t ∷ n) v h e = absurd (cc)

  refused_at : (f : List Mark) (t : Mark) (n : List Mark) (line : ℕ) → marked 0 (spelled bytes ts) ≡ f ++ t ∷ n → text.begins f → (text.begins (f ++ t ∷ []) → ⊥)
      → t.line ≡ line → SyntaxRefuses (spelled bytes ts) line
  unfolding Begins
  refused_at f t n line e b s l =
      let c = cut_at f 0 (spelled bytes ts) t n e in
      inl (record {
        prefix = c.prefix;
        token = c.token;
        rest = c.rest;
        whole = c.whole;
        begun = subst text.begins (sym c.before) b;
        stops = λ g. s (subst text.begins c.with_it g);
        line_is = sym l ∙ c.line_is;
      })

  pub text_more : (n : List Mark) (v : List Stmt) (line : ℕ) → Read (block (opened 64)) (marked 0 (spelled bytes ts)) n v → peeked_line n ≡ Some line
      → SyntaxRefuses (spelled bytes ts) line
  unfolding text
  text_more [] v line h e = absurd (cc)
  text_more (t ∷ n) v line h e =
      refused_at h.prefix t n line h.whole (text_lawful.opens.whole h.prefix (block_tree 0 None v) (v, h.is_read, refl)) (λ g. h.settled t n refl g) (cc)

  pub text_stuck : (n : List Mark) (line : ℕ) → Stuck (block (opened 64)) (marked 0 (spelled bytes ts)) n → peeked_line n ≡ Some line → SyntaxRefuses (spelled bytes ts) line
  unfolding text
  text_stuck [] line h e = absurd (cc)
  text_stuck (t ∷ n) line h e = refused_at h.prefix t n line h.whole h.begun (λ g. h.stops t n refl g) (cc)

record LastOf (ss : List Spelled) (line : ℕ) : Type 0 where
  prefix : List Spelled
  last : Spelled
  whole : ss ≡ prefix ++ last ∷ []
  line_is : line ≡ last.token.line

last_of : (bytes : List ℕ) (t : Token) (ts : List Token) → LastOf (spelled bytes (t ∷ ts)) (end_line (t ∷ ts))
unfolding spelled_in
last_of bytes t [] = record { prefix = []; last = spelled_in bytes t; whole = refl; line_is = refl }
last_of bytes t (u ∷ ts) =
    let l = last_of bytes u ts in
    record { prefix = spelled_in bytes t ∷ l.prefix; last = l.last; whole = ap (λ z. spelled_in bytes t ∷ z) l.whole; line_is = l.line_is }

pub text_ends : (bytes : List ℕ) (ts : List Token) (n : List Mark) (line : ℕ) → Stuck (block (opened 64)) (marked 0 (spelled bytes ts)) n → peeked_line n ≡ None
    → line ≡ end_line ts → SyntaxRefuses (spelled bytes ts) line
unfolding text Begins Reads block
text_ends bytes ts (t ∷ n) line h e l = absurd (cc)
text_ends bytes [] [] line h e l = absurd (h.unread [] (subst (λ z. (block (opened 64)).reads z []) (h.whole ∙ append-nil h.prefix) nothing_read))
  where
    nothing_read : (block (opened 64)).reads [] []
    nothing_read = ((None, []), record { prefix = []; rest = []; whole = refl; first = inr (refl, refl); second = refl }, refl)
text_ends bytes (t ∷ ts) [] line h e l =
    let all : marked 0 (spelled bytes (t ∷ ts)) ≡ h.prefix = h.whole ∙ append-nil h.prefix in
    let k = last_of bytes t ts in
    inr (record {
      prefix = k.prefix;
      last = k.last;
      whole = k.whole;
      begun = subst (block (opened 64)).begins (sym all) h.begun;
      unread = λ tree g. h.unread g.0 (subst (λ z. (block (opened 64)).reads z g.0) all g.1);
      line_is = l ∙ k.line_is;
    })

pub stuck_of : (o p n : List Mark) (f : Fault) → f ≡ Here → o ≡ p → Fails (block (opened 64)) o n f → Stuck (block (opened 64)) p n
stuck_of o p n f e same h = subst (λ z. Stuck (block (opened 64)) z n) same (subst (λ z. Fails (block (opened 64)) o n z) e h)
