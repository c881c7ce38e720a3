-- The steps of the parser's functions, by the laws of the parts.
use Rattle.std.proofs.Common.{◌≡◌, ◌<◌, Bool, true, false, length, List, [], ◌∷◌, ◌++◌, Some, None, Result, Ok, Err, Option, refl, sym, ap, ap₂, ◌∙◌, subst, arith, length-append}
use Rattle.std.specs.Result.{IsErrAnd}
use Rattle.std.proofs.lemmas.Result.{err_from_is_err_and}
use Rattle.vt_build.specs.declared.fault.Fault.{Fault}
use Rattle.vt_build.specs.declared.fault.Fault.TheVariants.{Here, NoMemory}
use Rattle.vt_grammar.specs.declared.terminals.Terminal.{Terminal}
use Rattle.vt_tree.specs.declared.expression.Expr.{Expr}
use Rattle.vt_tree.specs.declared.statement.Arm.{Arm}
use Rattle.vt_tree.specs.declared.statement.Simple.TheVariants as simples
use Rattle.vt_tree.specs.declared.statement.Stmt.{Stmt}
use Rattle.vt_grammar.specs.Trees.{arm_tree}
use Rattle.vt_grammar.specs.Form.{Form, next, either, mapped, optional, with_its, many}
use Rattle.vt_grammar.specs.private.Parsing.{Read, Stuck}
use Rattle.vt_grammar.specs.Marks.{Mark}
use Rattle.vt_grammar.specs.Grammar.{terminal, among, first_line}
use Rattle.vt_build.specs.private.Made.{Makes, Maps}
use Rattle.vt_parse.specs.private.Parses.{Fails, Parses, peeked_in}
use Rattle.vt_grammar.specs.private.Sets.{just}
use Rattle.vt_grammar.proofs.Sequences.{next_read, next_stuck, next_stuck_first, stuck_here}
use Rattle.vt_grammar.proofs.Choices.{Bars, one_read, one_stuck, empty_lawful, empty_read, mapped_read, mapped_stuck, left_read, right_read, left_stuck, right_stuck}
use Rattle.vt_grammar.proofs.Builders.{Solid, map_lawful}
use Rattle.vt_grammar.proofs.TerminalSets.{In, Is, includes, disjoint, sub, apart, included, just_is, just_self, is_in}
use Rattle.vt_grammar.proofs.MarkLaws.{Rule, Maybe}
use Rattle.vt_grammar.proofs.Exact.{Exact}
use Rattle.vt_parse.proofs.Loops.{Continues, continues_one, loop_end, loop_stuck, moved}

-- What stands first

pub bars_out : (C : Terminal → Bool) {F : Terminal → Bool} {o : List Mark} → includes F C ≡ true → peeked_in C o ≡ false → Bars o (In F)
bars_out C {o = []} i p = record { bars = λ t rest e h. cc }
bars_out C {o = c ∷ o} i p = record {
  bars = λ t rest e h. let same : c ≡ t = cc in go t (subst (λ (z : Mark). C z.terminal ≡ false) same p) (sub i t h);
}
  where
    go : (t : Mark) → C t.terminal ≡ false → In C t → ⊥
    go t p h = let q : C t.terminal ≡ true = h.is in cc

pub bars_in : (C : Terminal → Bool) {F : Terminal → Bool} {o : List Mark} → disjoint C F ≡ true → peeked_in C o ≡ true → Bars o (In F)
bars_in C {o = []} d p = absurd (cc)
bars_in C {o = c ∷ o} d p = record {
  bars = λ t rest e h. let same : c ≡ t = cc in apart {F = C} d t (record { is = subst (λ (z : Mark). C z.terminal ≡ true) same p }) h;
}

-- The token was there.
pub terminal_read : {w : Terminal} {o n : List Mark} {t : Mark} → peeked_in (just w) o ≡ true → o ≡ t ∷ n → Read (terminal w) o n t
terminal_read {w = w} {o = o} {n = n} {t = t} p e = one_read (Is w) o n t e (sym (just_is w t.terminal (subst (λ z. peeked_in (just w) z ≡ true) e p)))

pub among_read : (F : Terminal → Bool) {o n : List Mark} {t : Mark} → peeked_in F o ≡ true → o ≡ t ∷ n → Read (among F) o n t
among_read F {o = o} {n = n} {t = t} p e = one_read (λ t. F t.terminal ≡ true) o n t e (subst (λ z. peeked_in F z ≡ true) e p)

-- .. or it was not.
pub terminal_stuck : {w : Terminal} {o : List Mark} → peeked_in (just w) o ≡ false → Stuck (terminal w) o o
terminal_stuck {w = w} {o = o} p = one_stuck (Is w) o (record { bars = λ t rest e h. (bars_out (just w) {F = just w} (included (just w)) p).bars t rest e (is_in (just w) (just_self w) t h) })

pub among_stuck : (F : Terminal → Bool) {o : List Mark} → peeked_in F o ≡ false → Stuck (among F) o o
among_stuck F {o = o} p = one_stuck (λ t. F t.terminal ≡ true) o (record { bars = λ t rest e h. (bars_out F {F = F} (included F) p).bars t rest e (record { is = h }) })

-- What a `?` and a last call return

pub exit : {V W : Type 0} (a : Form Mark V) (b : Form Mark W) (o m n : List Mark) (e : Fault) (r : Result W Fault)
    → IsErrAnd r (λ y. y ≡ e) → (Stuck a m n → Stuck b o n) → Fails a m n e → Parses b o n r
exit a b o m n e r p step h =
    let q = err_from_is_err_and r p in
    subst (λ z. Parses b o n z) (sym q.1) (subst (λ z. Fails b o n z) (sym q.2) (go e h))
  where
    go : (f : Fault) → Fails a m n f → Fails b o n f
    go Here g = step g
    go NoMemory g = tt

pub tail : {V : Type 0} (a b : Form Mark V) (o m n : List Mark) (r : Result V Fault)
    → ((v : V) → Read a m n v → Read b o n v) → (Stuck a m n → Stuck b o n) → Parses a m n r → Parses b o n r
tail a b o m n (Ok v) ok err h = ok v h
tail a b o m n (Err Here) ok err h = err h
tail a b o m n (Err NoMemory) ok err h = tt

-- what was read, made into its value
pub made : {V : Type 0} (a : Form Mark V) (o n : List Mark) (v : V) (r : Result V Fault) → Read a o n v → Makes v r → Parses a o n r
made a o n v (Ok w) h m = subst (λ z. Read a o n z) (sym m) h
made a o n v (Err Here) h m = absurd (cc)
made a o n v (Err NoMemory) h m = tt

-- what a value that was read is made into, or the fault where none was
pub maps_tail : {V U : Type 0} (a : Form Mark V) (b : Form Mark U) (f : V → U) (o m n : List Mark) (s : Result V Fault) (r : Result U Fault)
    → ((v : V) → Read a m n v → Read b o n (f v)) → (Stuck a m n → Stuck b o n) → Maps f s r → Parses a m n s → Parses b o n r
maps_tail a b f o m n (Ok v) r ok err e h = subst (λ z. Parses b o n z) (sym e) (ok v h)
maps_tail a b f o m n (Err Here) r ok err e h = subst (λ z. Parses b o n z) (sym e) (err h)
maps_tail a b f o m n (Err NoMemory) r ok err e h = subst (λ z. Parses b o n z) (sym e) tt

pub maps_ok : {V U : Type 0} (a : Form Mark V) (o n : List Mark) (f : V → U) (s : Result V Fault) (w : U) → Parses a o n s → Maps f s (Ok w)
    → (v : V) × Read a o n v × (w ≡ f v)
maps_ok a o n f (Ok v) w h e = (v, h, cc)
maps_ok a o n f (Err d) w h e = absurd (cc)

pub maps_err : {V U : Type 0} (a : Form Mark V) (o n : List Mark) (f : V → U) (s : Result V Fault) (e : Fault) → Parses a o n s → Maps f s (Err e)
    → Fails a o n e
maps_err a o n f (Ok v) e h p = absurd (cc)
maps_err a o n f (Err d) e h p = let same : d ≡ e = cc in subst (λ z. Fails a o n z) same h

-- the branches after the first, as the branches of the whole
pub branches_value : {found : List Arm} {first : Arm} {u v : Bool} {cond other : Expr} (stmts : List Stmt) (more : List Arm) (last : Option (List Stmt))
    → found ≡ first ∷ [] → first ≡ arm_tree u cond stmts → u ≡ v → cond ≡ other
    → simples.Iff (found ++ more) last ≡ simples.Iff (arm_tree v other stmts ∷ more) last
branches_value stmts more last e f g h =
    ap (λ z. simples.Iff (z ++ more) last) (e ∙ ap (λ z. z ∷ []) (f ∙ ap₂ (λ x y. arm_tree x y stmts) g h))

-- a form that isn't empty takes a token
pub shorter : {V : Type 0} {a : Form Mark V} {o n : List Mark} {v : V} → Solid a → Read a o n v → length n < length o
shorter {a = a} {o = o} {n = n} {v = v} s h = go h.prefix h.whole h.is_read
  where
    go : (f : List Mark) → o ≡ f ++ n → a.reads f v → length n < length o
    go [] e g = absurd (s.solid v g)
    go (t ∷ f) e g = omega (arith, ap length e, length-append f n)

-- One form and then another

module _ {A B : Type 0} {a : Form Mark A} {b : Form Mark B} {FA MA FB MB : Terminal → Bool} (la : Maybe a FA MA) (lb : Maybe b FB MB) (d : disjoint MA FB ≡ true) where
  pub both_read : {o m n : List Mark} {v : A} {w : B} → Read a o m v → Read b m n w → Read (next a (λ _. b)) o n (v, w)
  both_read h g = next_read a (λ _. b) (In FA) (In MA) (λ _. In FB) la (λ _. lb.opens) (λ _ t m f. apart d t m f) _ _ _ _ _ h g

  pub second_stuck : {o m n : List Mark} {v : A} → Read a o m v → Stuck b m n → Stuck (next a (λ _. b)) o n
  second_stuck h g = next_stuck a (λ _. b) (In FA) (In MA) (λ _. In FB) la (λ _. lb.opens) (λ _ t m f. apart d t m f) _ _ _ _ h g

  pub first_stuck : {o n : List Mark} → Stuck a o n → Stuck (next a (λ _. b)) o n
  first_stuck h = next_stuck_first a (λ _. b) (In FA) (In MA) (λ _. In FB) la (λ _. lb.opens) (λ _ t m f. apart d t m f) _ _ h

-- .. that depends on the value of the first
module _ {A B : Type 0} {a : Form Mark A} {FA MA FB MB : Terminal → Bool} (k : A → Form Mark B) (la : Maybe a FA MA) (lk : (v : A) → Maybe (k v) FB MB)
    (d : disjoint MA FB ≡ true) where
  pub by_read : {o m n : List Mark} {v : A} {w : B} → Read a o m v → Read (k v) m n w → Read (next a k) o n (v, w)
  by_read h g = next_read a k (In FA) (In MA) (λ _. In FB) la (λ v. (lk v).opens) (λ _ t m f. apart d t m f) _ _ _ _ _ h g

  pub by_stuck : {o m n : List Mark} {v : A} → Read a o m v → Stuck (k v) m n → Stuck (next a k) o n
  by_stuck h g = next_stuck a k (In FA) (In MA) (λ _. In FB) la (λ v. (lk v).opens) (λ _ t m f. apart d t m f) _ _ _ _ h g

  pub by_first : {o n : List Mark} → Stuck a o n → Stuck (next a k) o n
  by_first h = next_stuck_first a k (In FA) (In MA) (λ _. In FB) la (λ v. (lk v).opens) (λ _ t m f. apart d t m f) _ _ h

module _ {T A B : Type 0} {f : A → B} {a : Form T A} where
  pub map_read : {o n : List T} {v : A} → Read a o n v → Read (mapped f a) o n (f v)
  map_read h = mapped_read f a _ _ _ h

  pub map_stuck : {o n : List T} → Stuck a o n → Stuck (mapped f a) o n
  map_stuck h = mapped_stuck f a _ _ h

-- Either form, by a class of terminals that the first token is of or not

module _ {V : Type 0} {a b : Form Mark V} {FA MA FB MB : Terminal → Bool} (C : Terminal → Bool) (pa : Rule a FA MA) (pb : Rule b FB MB) where
  pub left_ok : {o n : List Mark} {v : V} → disjoint C FB ≡ true → peeked_in C o ≡ true → Read a o n v → Read (either a b) o n v
  left_ok d p h = left_read a b (In FA) (In FB) pa.law.opens pb.law.opens _ _ _ (bars_in C d p) h

  pub left_err : {o n : List Mark} → disjoint C FB ≡ true → peeked_in C o ≡ true → Stuck a o n → Stuck (either a b) o n
  left_err d p h = left_stuck a b (In FA) (In FB) pa.law.opens pb.law.opens _ _ (bars_in C d p) h (λ w g _. pb.solid.solid w g)

  pub right_ok : {o n : List Mark} {v : V} → includes FA C ≡ true → peeked_in C o ≡ false → Read b o n v → Read (either a b) o n v
  right_ok i p h = right_read a b (In FA) (In FB) pa.law.opens pb.law.opens _ _ _ (bars_out C i p) h

  pub right_err : {o n : List Mark} → includes FA C ≡ true → peeked_in C o ≡ false → Stuck b o n → Stuck (either a b) o n
  right_err i p h = right_stuck a b (In FA) (In FB) pa.law.opens pb.law.opens _ _ (bars_out C i p) h (λ w g _. pa.solid.solid w g)

-- none of the form stands here
pub stuck_out : {V : Type 0} {a : Form Mark V} {F M : Terminal → Bool} (C : Terminal → Bool) {o : List Mark} → Rule a F M → includes F C ≡ true → peeked_in C o ≡ false → Stuck a o o
stuck_out {a = a} {F = F} C {o = o} p i e = stuck_here a (In F) p.law.opens p.solid.solid o (λ t rest q h. (bars_out C {F = F} i e).bars t rest q h)

-- a form whose first token was there is stuck past it
pub moved_on : {V : Type 0} {a : Form Mark V} {F : Terminal → Bool} {o n : List Mark} → Exact a F → peeked_in F o ≡ true → Stuck a o n → o ≡ n → ⊥
moved_on {o = []} x p h e = cc
moved_on {a = a} {o = t ∷ o} {n = n} x p h e = moved a (t ∷ o) n t o refl (x.exact t p) h e

-- A part that may be left out

module _ {V : Type 0} {a : Form Mark V} {F M : Terminal → Bool} (pa : Rule a F M) where
  pub some_ok : {o n : List Mark} {v : V} → Read a o n v → Read (optional a) o n (Some v)
  some_ok h = left_read _ _ (In F) (λ t. ⊥) (map_lawful pa.law).opens (empty_lawful None).opens _ _ (Some _) (record { bars = λ t rest e h. h }) (map_read h)

  pub some_err : {o n : List Mark} → (o ≡ n → ⊥) → Stuck a o n → Stuck (optional a) o n
  some_err some h = left_stuck _ _ (In F) (λ t. ⊥) (map_lawful pa.law).opens (empty_lawful None).opens _ _ (record { bars = λ t rest e h. h }) (map_stuck h)
      (λ w _ p. some p)

  pub none_ok : {o : List Mark} (C : Terminal → Bool) → includes F C ≡ true → peeked_in C o ≡ false → Read (optional a) o o None
  none_ok {o = o} C i p = right_read _ _ (In F) (λ t. ⊥) (map_lawful pa.law).opens (empty_lawful None).opens o o None (bars_out C i p) (empty_read None o)

-- Loops

module _ {V : Type 0} {a : Form Mark V} {F M : Terminal → Bool} (pa : Rule a F M) (d : disjoint M F ≡ true) where
  pub loop_one : {o m n : List Mark} {vs : List V} {v : V} → Continues (many a) o m vs → Read a m n v → Continues (many a) o n (vs ++ v ∷ [])
  loop_one c h = continues_one a (In F) (In M) pa.law (apart d) pa.solid.solid _ _ _ _ _ c h

  pub loop_ok : {o m : List Mark} {vs : List V} → Continues (many a) o m vs → peeked_in F m ≡ false → Read (many a) o m vs
  loop_ok c p = loop_end a (In F) (In M) pa.law (apart d) pa.solid.solid _ _ _ c (bars_out F (included F) p)

  pub loop_err : {o m n : List Mark} {vs : List V} → Exact a F → Continues (many a) o m vs → peeked_in F m ≡ true → Stuck a m n → Stuck (many a) o n
  loop_err x c p h = loop_stuck a (In F) (In M) pa.law (apart d) pa.solid.solid _ _ _ _ c (λ e. moved_on x p h e) h

-- a value that is another
pub valued : {V : Type 0} {a : Form Mark V} {o n : List Mark} {v z : V} → z ≡ v → Read a o n v → Read a o n z
valued {a = a} {o = o} {n = n} e h = subst (λ y. Read a o n y) (sym e) h

-- no memory for a value
pub no_memory : {V : Type 0} (b : Form Mark V) (o n : List Mark) (e : Fault) (r : Result V Fault) → IsErrAnd r (λ y. y ≡ e) → e ≡ NoMemory → Parses b o n r
no_memory b o n e r p q =
    let k = err_from_is_err_and r p in
    subst (λ z. Parses b o n z) (sym k.1) (subst (λ z. Fails b o n z) (sym (k.2 ∙ q)) tt)

-- what a mapped form was read from
pub unmap_read : {A B : Type 0} {f : A → B} {a : Form Mark A} {o n : List Mark} {w : B} → Read (mapped f a) o n w → (v : A) × Read a o n v × (w ≡ f v)
unmap_read h = (h.is_read.0, record { prefix = h.prefix; whole = h.whole; is_read = h.is_read.1; settled = h.settled }, h.is_read.2)

pub unmap_stuck : {A B : Type 0} {f : A → B} {a : Form Mark A} {o n : List Mark} → Stuck (mapped f a) o n → Stuck a o n
unmap_stuck h = record { prefix = h.prefix; whole = h.whole; begun = h.begun; unread = λ v g. h.unread _ (v, g, refl); stops = h.stops }

-- with the line of the first token
pub line_ok : {V : Type 0} {a : Form Mark V} {o n : List Mark} {v : V} → Solid a → Read a o n v → Read (with_its first_line a) o n (first_line o, v)
line_ok {a = a} {o = o} {n = n} {v = v} s h = record {
  prefix = h.prefix;
  whole = h.whole;
  is_read = (h.is_read, go h.prefix h.whole h.is_read);
  settled = h.settled;
}
  where
    go : (f : List Mark) → o ≡ f ++ n → a.reads f v → first_line o ≡ first_line f
    go [] e g = absurd (s.solid v g)
    go (t ∷ f) e g = ap first_line e

pub line_err : {V : Type 0} {a : Form Mark V} {o n : List Mark} → Stuck a o n → Stuck (with_its first_line a) o n
line_err h = record { prefix = h.prefix; whole = h.whole; begun = h.begun; unread = λ v g. h.unread v.1 g.0; stops = h.stops }

-- what was read from a list is read from an equal one
pub read_from : {V : Type 0} {a : Form Mark V} {o p n : List Mark} {v : V} → o ≡ p → Read a o n v → Read a p n v
read_from {a = a} {n = n} {v = v} e h = subst (λ z. Read a z n v) e h
