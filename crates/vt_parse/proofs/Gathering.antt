-- What the loops of the parser keep.
use Rattle.std.proofs.Common.{◌≡◌, ℕ, Bool, true, false, List, [], ◌∷◌, ◌++◌, Option, Some, None, refl, sym, ap, ap₂, ◌∙◌, subst, append_assoc, append-nil}
use Rattle.vt_tree.specs.declared.expression.Expr.{Expr}
use Rattle.vt_tree.specs.declared.statement.Stmt.{Stmt}
use Rattle.vt_grammar.specs.declared.parts.Arguments.{Arguments}
use Rattle.vt_grammar.specs.declared.parts.Part.{Part}
use Rattle.vt_grammar.specs.declared.terminals.Terminal.{Terminal}
use Rattle.vt_grammar.specs.Form.{Form, mapped, many, many_from}
use Rattle.vt_grammar.specs.private.Parsing.{Read, Stuck}
use Rattle.vt_grammar.specs.Marks.{Mark}
use Rattle.vt_parse.specs.private.Parses.{peeked_in}
use Rattle.vt_grammar.specs.Trees.{Argument, gathered, positional, labelled, present, with_part, with_parts}
use Rattle.vt_grammar.specs.Grammar.{names_of}
use Rattle.vt_grammar.proofs.ManyFrom.{from_cons, from_stuck, from_stuck_first, from_end}
use Rattle.vt_parse.proofs.Loops.{Continues, continues_start}
use Rattle.vt_grammar.proofs.TerminalSets.{In, disjoint, apart}
use Rattle.vt_grammar.proofs.MarkLaws.{Rule}
use Rattle.vt_grammar.proofs.Exact.{Exact}
use Rattle.vt_parse.proofs.Rules.{loop_one, loop_ok, loop_err, map_read, map_stuck}

-- what f makes of the values that were read from the start up to here
pub record Gathers {V W : Type 0} (f : List V → W) (a : Form Mark V) (start here : List Mark) (w : W) : Type 0 where
  pub found : List V
  pub made : w ≡ f found
  pub on : Continues (many a) start here found

pub gathers_start : {V W : Type 0} (f : List V → W) (a : Form Mark V) (o : List Mark) (w : W) → w ≡ f [] → Gathers f a o o w
gathers_start f a o w e = record { found = []; made = e; on = continues_start (many a) o }

module _ {V W : Type 0} {f : List V → W} {a : Form Mark V} {F M : Terminal → Bool} (pa : Rule a F M) (d : disjoint M F ≡ true) where
  pub gathers_one : {o m n : List Mark} {w : W} {v : V} (z : W) → ((vs : List V) → w ≡ f vs → z ≡ f (vs ++ v ∷ [])) → Gathers f a o m w → Read a m n v → Gathers f a o n z
  gathers_one z step g h = record { found = g.found ++ _ ∷ []; made = step g.found g.made; on = loop_one pa d g.on h }

  pub gathers_ok : {o m : List Mark} {w : W} → Gathers f a o m w → peeked_in F m ≡ false → Read (mapped f (many a)) o m w
  gathers_ok {o = o} {m = m} g p = subst (λ z. Read (mapped f (many a)) o m z) (sym g.made) (map_read (loop_ok pa d g.on p))

  pub gathers_err : {o m n : List Mark} {w : W} → Exact a F → Gathers f a o m w → peeked_in F m ≡ true → Stuck a m n → Stuck (mapped f (many a)) o n
  gathers_err x g p h = map_stuck (loop_err pa d x g.on p h)

-- vs were read from the start up to here, in the state s here, and what follows goes on from s
pub record GoesOn {S V : Type 0} (go : S → V → S) (a : S → Form Mark V) (s0 s : S) (start here : List Mark) (vs : List V) : Type 0 where
  pub read_on : (n : List Mark) (ws : List V) → Read (many_from go a s) here n ws → Read (many_from go a s0) start n (vs ++ ws)
  pub stuck_on : (n : List Mark) → Stuck (many_from go a s) here n → Stuck (many_from go a s0) start n

pub record GathersFrom {S V W : Type 0} (f : List V → W) (go : S → V → S) (a : S → Form Mark V) (s0 s : S) (start here : List Mark) (w : W) : Type 0 where
  pub found : List V
  pub made : w ≡ f found
  pub on : GoesOn go a s0 s start here found

pub from_start : {S V W : Type 0} (f : List V → W) (go : S → V → S) (a : S → Form Mark V) (s : S) (o : List Mark) (w : W) → w ≡ f [] → GathersFrom f go a s s o o w
from_start f go a s o w e = record { found = []; made = e; on = record { read_on = λ n ws h. h; stuck_on = λ n h. h } }

module _ {S V W : Type 0} {f : List V → W} (go : S → V → S) (a : S → Form Mark V) {F M : Terminal → Bool} (pa : (s : S) → Rule (a s) F M) (d : disjoint M F ≡ true) where
  pub from_one : {s0 s : S} {o m n : List Mark} {w : W} {v : V} (z : W) → ((vs : List V) → w ≡ f vs → z ≡ f (vs ++ v ∷ [])) → GathersFrom f go a s0 s o m w
      → Read (a s) m n v → GathersFrom f go a s0 (go s v) o n z
  from_one {s0 = s0} {s = s} {o = o} {m = m} {n = n} {v = v} z step g h = record {
    found = g.found ++ v ∷ [];
    made = step g.found g.made;
    on = record {
      read_on = λ r ws k. subst (λ z. Read (many_from go a s0) o r z) (sym (append_assoc g.found (v ∷ []) ws))
          (g.on.read_on r (v ∷ ws) (from_cons go a (In F) (In M) (λ s. (pa s).law) (apart d) (λ s. (pa s).solid.solid) s m n r v ws h k));
      stuck_on = λ r k. g.on.stuck_on r (from_stuck go a (In F) (In M) (λ s. (pa s).law) (apart d) (λ s. (pa s).solid.solid) s m n r v h k);
    };
  }

  pub from_ok : {s0 s : S} {o m : List Mark} {w : W} → GathersFrom f go a s0 s o m w
      → ((t : Mark) (rest : List Mark) → m ≡ t ∷ rest → (a s).begins (t ∷ []) → ⊥) → Read (mapped f (many_from go a s0)) o m w
  from_ok {s0 = s0} {s = s} {o = o} {m = m} g cold =
      let all : Read (many_from go a s0) o m g.found =
      subst (λ z. Read (many_from go a s0) o m z) (append-nil g.found)
      (g.on.read_on m [] (from_end go a (In F) (In M) (λ s. (pa s).law) (apart d) (λ s. (pa s).solid.solid) s m cold)) in
      subst (λ z. Read (mapped f (many_from go a s0)) o m z) (sym g.made) (map_read all)

  pub from_err : {s0 s : S} {o m n : List Mark} {w : W} → GathersFrom f go a s0 s o m w → (m ≡ n → ⊥) → Stuck (a s) m n → Stuck (mapped f (many_from go a s0)) o n
  from_err {s = s} {m = m} {n = n} g some h =
      map_stuck (g.on.stuck_on n (from_stuck_first go a (In F) (In M) (λ s. (pa s).law) (apart d) (λ s. (pa s).solid.solid) s m n h some))

-- The values that the loops gather

names_append : (xs ys : List Mark) → names_of (xs ++ ys) ≡ names_of xs ++ names_of ys
names_append [] ys = refl
names_append (x ∷ xs) ys = ap (λ z. x.bytes ∷ z) (names_append xs ys)

pub present_append : (xs ys : List (Option Stmt)) → present (xs ++ ys) ≡ present xs ++ present ys
present_append [] ys = refl
present_append (None ∷ xs) ys = present_append xs ys
present_append (Some x ∷ xs) ys = ap (λ z. x ∷ z) (present_append xs ys)

positional_append : (xs ys : List Argument) → positional (xs ++ ys) ≡ positional xs ++ positional ys
positional_append [] ys = refl
positional_append ((None, e) ∷ xs) ys = ap (λ z. e ∷ z) (positional_append xs ys)
positional_append ((Some label, e) ∷ xs) ys = positional_append xs ys

labelled_append : (xs ys : List Argument) → labelled (xs ++ ys) ≡ labelled xs ++ labelled ys
labelled_append [] ys = refl
labelled_append ((None, e) ∷ xs) ys = labelled_append xs ys
labelled_append ((Some label, e) ∷ xs) ys = ap (λ z. (label, e) ∷ z) (labelled_append xs ys)

pub more_items_step : {V : Type 0} (found vs : List V) (v : V) (w : List V) → w ≡ found ++ vs → w ++ v ∷ [] ≡ found ++ (vs ++ v ∷ [])
more_items_step found vs v w e = ap (λ z. z ++ v ∷ []) e ∙ append_assoc found vs (v ∷ [])

pub more_names_step : (found : List (List ℕ)) (vs : List Mark) (v : Mark) (w : List (List ℕ)) → w ≡ found ++ names_of vs → w ++ v.bytes ∷ [] ≡ found ++ names_of (vs ++ v ∷ [])
more_names_step found vs v w e =
    ap (λ z. z ++ v.bytes ∷ []) e ∙ append_assoc found (names_of vs) (v.bytes ∷ []) ∙ ap (λ z. found ++ z) (sym (names_append vs (v ∷ [])))

pub more_lines_step : (found : List Stmt) (vs : List (Option Stmt)) (v : Option Stmt) (w z : List Stmt) → z ≡ w ++ present (v ∷ []) → w ≡ found ++ present vs
    → z ≡ found ++ present (vs ++ v ∷ [])
more_lines_step found vs v w z p e =
    p ∙ ap (λ y. y ++ present (v ∷ [])) e ∙ append_assoc found (present vs) (present (v ∷ [])) ∙ ap (λ y. found ++ y) (sym (present_append vs (v ∷ [])))

pub gathered_step : (found : Arguments) (vs ws : List Argument) → gathered (gathered found vs) ws ≡ gathered found (vs ++ ws)
gathered_step found vs ws =
    let args : (found.args ++ positional vs) ++ positional ws ≡ found.args ++ positional (vs ++ ws) =
    append_assoc found.args (positional vs) (positional ws) ∙ ap (λ z. found.args ++ z) (sym (positional_append vs ws)) in
    let options : (found.options ++ labelled vs) ++ labelled ws ≡ found.options ++ labelled (vs ++ ws) =
    append_assoc found.options (labelled vs) (labelled ws) ∙ ap (λ z. found.options ++ z) (sym (labelled_append vs ws)) in
    ap₂ (λ x y. record { args = x; options = y }) args options

pub more_args_step : (found : Arguments) (vs : List Argument) (v : Argument) (w z : Arguments) → z ≡ gathered w (v ∷ []) → w ≡ gathered found vs
    → z ≡ gathered found (vs ++ v ∷ [])
more_args_step found vs v w z p e = p ∙ ap (λ y. gathered y (v ∷ [])) e ∙ gathered_step found vs (v ∷ [])

pub no_more_args : (found : Arguments) → found ≡ gathered found []
no_more_args found = ap₂ (λ x y. record { args = x; options = y }) (sym (append-nil found.args)) (sym (append-nil found.options))

pub with_parts_append : (e : Expr) (ps : List Part) (p : Part) → with_parts e (ps ++ p ∷ []) ≡ with_part (with_parts e ps) p
with_parts_append e [] p = refl
with_parts_append e (q ∷ ps) p = with_parts_append (with_part e q) ps p

pub more_parts_step : (e : Expr) (ps : List Part) (p : Part) (w z : Expr) → z ≡ with_part w p → w ≡ with_parts e ps → z ≡ with_parts e (ps ++ p ∷ [])
more_parts_step e ps p w z q h = q ∙ ap (λ y. with_part y p) h ∙ sym (with_parts_append e ps p)

pub nothing_more : {V : Type 0} (found : List V) → found ≡ found ++ []
nothing_more found = sym (append-nil found)
