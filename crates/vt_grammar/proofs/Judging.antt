-- Each list of tokens is read or refused: the grammar's forms are decided, so it can be told whether the tokens are read, and
-- otherwise which token is the first with which they begin no text.
use Rattle.std.specs.Prelude.{◌≡◌, ℕ, List, [], ◌∷◌, ◌++◌}
use Rattle.std.proofs.Common.{inl, inr, refl, sym, ap, subst, append_assoc, append-nil}
use Rattle.vt_grammar.specs.Grammar.{block, opened}
use Rattle.vt_grammar.specs.Marks.{Spelled, marked}
use Rattle.vt_grammar.specs.Text.{text, Reads, Begins, RefusedAt}
use Rattle.vt_grammar.specs.Verdict.{IsJudged, AlwaysOne, Parsed, parsed_by}
use Rattle.vt_frac.proofs.Decision.{Decision, holds, fails}
use Rattle.vt_grammar.proofs.Decided.{Hit, Decided, mapped_decided}
use Rattle.vt_grammar.proofs.DecidedRules.{brackets, block_decided}

text_decided : Decided text
unfolding text
text_decided = mapped_decided (block_decided (opened 64) (brackets 64))

-- the tokens are read
abbrev IsRead : List Spelled → Type 0
IsRead tokens = Hit (λ tree. Reads tokens tree) (λ tree. Unit {0})

is_read : (tokens : List Spelled) → Decision (IsRead tokens)
unfolding Reads
is_read tokens = text_decided.search (marked 0 tokens) (λ tree. Unit {0}) (λ tree. holds tt)

is_begun : (tokens : List Spelled) → Decision (Begins tokens)
unfolding Begins
is_begun tokens = text_decided.begun (marked 0 tokens)

nil_read : IsRead []
unfolding Reads text block
nil_read = record {
  value = _;
  found = (_, ((_, []), record { prefix = []; rest = []; whole = refl; first = inr (refl, refl); second = refl }, refl), refl);
  passes = tt;
}

nil_begun : Begins []
unfolding Begins text block
nil_begun = inl (inr refl)

-- the tokens are refused at one of them
abbrev IsRefusedAt : List Spelled → Type 0
IsRefusedAt tokens = (line : ℕ) × RefusedAt tokens line

refused_here : (prefix : List Spelled) (t : Spelled) (rest : List Spelled) → Begins prefix → Decision (Begins (prefix ++ t ∷ []))
    → (Begins (prefix ++ t ∷ []) → IsRefusedAt ((prefix ++ t ∷ []) ++ rest)) → IsRefusedAt (prefix ++ t ∷ rest)
refused_here prefix t rest b (holds h) later = subst IsRefusedAt (append_assoc prefix (t ∷ []) rest) (later h)
refused_here prefix t rest b (fails n) later =
    (t.token.line, record { prefix = prefix; token = t; rest = rest; whole = refl; begun = b; stops = n; line_is = refl })

-- the first token with which the tokens before it begin no text
refused_from : (rest prefix : List Spelled) → Begins prefix → (Begins (prefix ++ rest) → ⊥) → IsRefusedAt (prefix ++ rest)
refused_from [] prefix b n = absurd (n (subst Begins (sym (append-nil prefix)) b))
refused_from (t ∷ rest) prefix b n =
    refused_here prefix t rest b (is_begun (prefix ++ t ∷ []))
    (λ h. refused_from rest (prefix ++ t ∷ []) h (λ g. n (subst Begins (append_assoc prefix (t ∷ []) rest) g)))

-- the list's last token
record Last (tokens : List Spelled) : Type 0 where
  prefix : List Spelled
  last : Spelled
  whole : tokens ≡ prefix ++ last ∷ []

last_of : (t : Spelled) (ts : List Spelled) → Last (t ∷ ts)
last_of t [] = record { prefix = []; last = t; whole = refl }
last_of t (u ∷ ts) = let end = last_of u ts in record { prefix = t ∷ end.prefix; last = end.last; whole = ap (λ z. t ∷ z) end.whole }

judge : (tokens : List Spelled) → Decision (IsRead tokens) → Decision (Begins tokens) → IsJudged tokens
judge tokens (holds h) d = inl (h.value, h.found)
judge tokens (fails n) (fails m) = let at = refused_from tokens [] nil_begun m in inr (at.0, inl at.1)
judge [] (fails n) (holds b) = absurd (n nil_read)
judge (t ∷ ts) (fails n) (holds b) =
    let end = last_of t ts in
    inr (
      end.last.token.line,
      inr (record {
        prefix = end.prefix;
        last = end.last;
        whole = end.whole;
        begun = b;
        unread = λ tree h. n (record { value = tree; found = h; passes = tt });
        line_is = refl;
      }),
    )

pub always : AlwaysOne
always tokens = judge tokens (is_read tokens) (is_begun tokens)

-- the verdict on the tokens, which there always is
unfoldable pub parsed_of : List Spelled → Parsed
parsed_of tokens = parsed_by tokens (always tokens)
