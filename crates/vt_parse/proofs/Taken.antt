-- What the parser does where a value decides.
use Rattle.std.proofs.Common.{◌≡◌, ℕ, zero, suc, Bool, true, false, ◌&&◌, nat_lt, List, [], ◌∷◌, Option, None, refl, sym, subst, arith, lt-ltb}
use Rattle.vt_tree.specs.declared.expression.Expr.{Expr}
use Rattle.vt_tree.specs.declared.statement.Block.{Block}
use Rattle.vt_grammar.specs.declared.parts.Arguments.{Arguments}
use Rattle.vt_grammar.specs.declared.parts.Part.{Part}
use Rattle.vt_grammar.specs.declared.terminals.Terminal.TheVariants as terminals
use Rattle.vt_grammar.specs.Form.{Form, mapped, many_from}
use Rattle.vt_grammar.specs.private.Parsing.{Read, Stuck}
use Rattle.vt_grammar.specs.Marks.{Mark}
use Rattle.vt_grammar.specs.private.Sets.{just, PartStarts}
use Rattle.vt_parse.specs.private.Parses.{peeked_in}
use Rattle.vt_grammar.specs.Trees.{gathered, left_after, with_part, with_parts, Left}
use Rattle.vt_grammar.specs.Grammar.{Opened, part, after_part, next_arg, labels_begun, block_where, opened}
use Rattle.vt_grammar.proofs.Choices.{empty_read}
use Rattle.vt_grammar.proofs.TerminalSets.{In, included}
use Rattle.vt_grammar.proofs.Rules.{has_room, brackets, part_rule}
use Rattle.vt_grammar.proofs.Exact.{exacts, part_exact}
use Rattle.vt_parse.proofs.Gathering.{GathersFrom, from_one, more_parts_step}
use Rattle.vt_parse.proofs.Rules.{bars_out, moved_on}

and_left : (a b : Bool) → a && b ≡ true → a ≡ true
and_left true b e = refl
and_left false b e = absurd (cc)

and_right : (a b : Bool) → a && b ≡ true → b ≡ true
and_right true b e = e
and_right false b e = absurd (cc)

-- whether an index or a dot is taken
abbrev Takes : ℕ → ℕ → List Mark → Bool
Takes n left o = nat_lt 0 left && peeked_in (PartStarts (has_room n)) o

-- the form of an index or a dot doesn't depend on how many more may follow
as_one : (s : Opened) (left : ℕ) (fresh : Bool) → nat_lt 0 left ≡ true → (P : Form Mark Part → Type 0) → P (part s (1, false)) → P (part s (left, fresh))
unfolding part
as_one s zero fresh p P h = absurd (cc)
as_one s (suc n) fresh p P h = h

pub part_err : (n left : ℕ) (fresh : Bool) (o : List Mark) {k : List Mark} → Takes n left o ≡ true → Stuck (part (opened n) (1, false)) o k → Stuck (part (opened n) (left, fresh)) o k
part_err n left fresh o {k = k} p h = as_one (opened n) left fresh (and_left (nat_lt 0 left) _ p) (λ a. Stuck a o k) h

pub part_moved : (n left : ℕ) (fresh : Bool) (o k : List Mark) → Takes n left o ≡ true → Stuck (part (opened n) (1, false)) o k → o ≡ k → ⊥
part_moved n left fresh o k p h = moved_on (part_exact (opened n) (has_room n) (exacts n) 0 false) (and_right (nat_lt 0 left) _ p) h

pub part_one : (n left : ℕ) (fresh : Bool) (s0 : Left) (e : Expr) (o m k : List Mark) (w z : Expr) (v : Part) → (after : ℕ) → Takes n left m ≡ true
    → GathersFrom (with_parts e) after_part (part (opened n)) s0 (left, fresh) o m w → Read (part (opened n) (1, false)) m k v
    → after ≡ left_after left fresh v → z ≡ with_part w v
    → GathersFrom (with_parts e) after_part (part (opened n)) s0 (after, false) o k z
part_one n left fresh s0 e o m k w z v after p g h a q =
    subst (λ y. GathersFrom (with_parts e) after_part (part (opened n)) s0 (y, false) o k z) (sym a)
    (from_one after_part (part (opened n)) (part_rule (opened n) (has_room n) (brackets n)) refl z (λ vs i. more_parts_step e vs v w z q i) g
    (as_one (opened n) left fresh (and_left (nat_lt 0 left) _ p) (λ a. Read a m k v) h))

pub part_cold : (n left : ℕ) (fresh : Bool) (o : List Mark) → Takes n left o ≡ false → (t : Mark) (rest : List Mark) → o ≡ t ∷ rest → (part (opened n) (left, fresh)).begins (t ∷ []) → ⊥
unfolding part
part_cold n zero fresh o p t rest e h = cc
part_cold n (suc left) fresh o p t rest e h =
    (bars_out (PartStarts (has_room n)) {F = PartStarts (has_room n)} (included (PartStarts (has_room n))) (second (nat_lt 0 (suc left)) _ (lt-ltb 0 (suc left) (omega arith)) p)).bars t rest e
    ((part_rule (opened n) (has_room n) (brackets n) (suc left, fresh)).law.opens.first t [] h)
  where
    second : (a b : Bool) → a ≡ true → a && b ≡ false → b ≡ false
    second true b e p = p
    second false b e p = absurd (cc)

pub comma_cold : (o : List Mark) (t : Mark) (rest : List Mark) → peeked_in (just terminals.Comma) o ≡ false → o ≡ t ∷ rest → In (just terminals.Comma) t → ⊥
comma_cold o t rest p e h = (bars_out (just terminals.Comma) {F = just terminals.Comma} (included (just terminals.Comma)) p).bars t rest e h

pub labels_are : (s : Opened) (found : Arguments) {v : Arguments} {l k : Bool} {o n : List Mark} → k ≡ l → Read (mapped (gathered found) (many_from labels_begun (next_arg s) l)) o n v
    → Read (mapped (gathered found) (many_from labels_begun (next_arg s) k)) o n v
labels_are s found {v = v} {o = o} {n = n} e h = subst (λ z. Read (mapped (gathered found) (many_from labels_begun (next_arg s) z)) o n v) (sym e) h

pub labels_are_stuck : (s : Opened) (found : Arguments) {l k : Bool} {o n : List Mark} → k ≡ l → Stuck (mapped (gathered found) (many_from labels_begun (next_arg s) l)) o n
    → Stuck (mapped (gathered found) (many_from labels_begun (next_arg s) k)) o n
labels_are_stuck s found {o = o} {n = n} e h = subst (λ z. Stuck (mapped (gathered found) (many_from labels_begun (next_arg s) z)) o n) (sym e) h

pub takes_are : (s : Opened) {v : Option Block} {l k : Bool} {o n : List Mark} → k ≡ l → Read (block_where s l) o n v → Read (block_where s k) o n v
takes_are s {v = v} {o = o} {n = n} e h = subst (λ z. Read (block_where s z) o n v) (sym e) h

pub takes_are_stuck : (s : Opened) {l k : Bool} {o n : List Mark} → k ≡ l → Stuck (block_where s l) o n → Stuck (block_where s k) o n
takes_are_stuck s {o = o} {n = n} e h = subst (λ z. Stuck (block_where s z) o n) (sym e) h

pub not_taken : (s : Opened) (b : Bool) (o : List Mark) → b ≡ false → Read (block_where s b) o o None
not_taken s false o e = empty_read None o
not_taken s true o e = absurd (cc)
