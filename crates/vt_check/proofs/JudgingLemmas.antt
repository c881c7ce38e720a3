-- How the judgements of a walk over a tree are put together.
use Rattle.std.proofs.Common.{◌≡◌, ◌<◌, ◌≤◌, ℕ, ◌+◌, List, [], ◌∷◌, ◌++◌, length, get_or, drop, Result, Ok, Err, Option, Some, None, refl, sym, ap, ◌∙◌, subst, append_assoc, arith}
use Rattle.std.specs.List.{All}
use Rattle.std.specs.Result.{IsErrAnd}
use Rattle.std.proofs.lemmas.List.{drop_more, drop_all}
use Rattle.std.proofs.lemmas.List.Elements.{All-append, All-cons}
use Rattle.std.proofs.lemmas.Result.{err_from_is_err_and}
use Rattle.vt_tree.specs.declared.statement.Block.{Block}
use Rattle.vt_tree.specs.Parts.{Part, called, opened, Context, Walk, Site, sites_of, each}
use Rattle.vt_check.specs.declared.fault.CheckKind.{CheckKind}
use Rattle.vt_check.specs.declared.fault.CheckFault.{CheckFault}
use Rattle.vt_check.specs.declared.fault.CheckFault.TheVariants.{At, NoMemory}
use Rattle.vt_check.specs.Allowed.{IsSound, IsFaultOf, FirstFault}
use Rattle.vt_check.specs.private.Judging.{Judges, JudgesCall}

pub sites_of-append : (a b : List Part) → sites_of (a ++ b) ≡ sites_of a ++ sites_of b
sites_of-append [] b = refl
sites_of-append (called s ∷ a) b = ap (λ rest. s ∷ rest) (sites_of-append a b)
sites_of-append (opened k ∷ a) b = sites_of-append a b

-- the same parts
pub judges_at : {U : Type 0} {a b : List Part} {r : Result U CheckFault} → a ≡ b → Judges b r → Judges a r
judges_at {r = r} e h = subst (λ parts. Judges parts r) (sym e) h

-- the same thing in the same context
pub moved : {U X : Type 0} (f : X → Walk) {x y : X} {p q : Context} {r : Result U CheckFault} → x ≡ y → p ≡ q → Judges (f x p) r → Judges (f y q) r
moved f e s h = judges_at (λ i. f (sym e i) (sym s i)) h

pub judges_none : Judges [] (Ok (tt {0}))
judges_none = record { judged = λ k d h. absurd (omega arith) }

pub judges_first : {U V : Type 0} (a b : List Part) (e : CheckFault) → Judges {U = U} a (Err e) → Judges {U = V} (a ++ b) (Err e)
judges_first a b (At line kind) h = let f : FirstFault (sites_of a) line kind = h.judged in record {
  judged = record {
    before = f.before;
    call = f.call;
    after = f.after ++ sites_of b;
    whole = sites_of-append a b ∙ ap (λ s. s ++ sites_of b) f.whole ∙ append_assoc f.before (f.call ∷ f.after) (sites_of b);
    sound = f.sound;
    fault = f.fault;
    here = f.here;
  };
}
judges_first a b NoMemory h = record { judged = tt }

pub judges_then : {U V : Type 0} (a b : List Part) (u : U) (r : Result V CheckFault) → Judges a (Ok u) → Judges b r → Judges (a ++ b) r
judges_then a b u (Ok v) g h = let P : List Site → Type 0 = λ s. All IsSound s in record { judged = subst P (sym (sites_of-append a b)) (All-append IsSound (sites_of a) (sites_of b) g.judged h.judged) }
judges_then a b u (Err (At line kind)) g h = let f : FirstFault (sites_of b) line kind = h.judged in record {
  judged = record {
    before = sites_of a ++ f.before;
    call = f.call;
    after = f.after;
    whole = sites_of-append a b ∙ ap (λ s. sites_of a ++ s) f.whole ∙ sym (append_assoc (sites_of a) f.before (f.call ∷ f.after));
    sound = All-append IsSound (sites_of a) f.before g.judged f.sound;
    fault = f.fault;
    here = f.here;
  };
}
judges_then a b u (Err NoMemory) g h = record { judged = tt }

-- a call without a fault, and then what stands in it
pub judges_sound : {U : Type 0} (site : Site) (rest : List Part) (r : Result U CheckFault) → IsSound site → Judges rest r → Judges (called site ∷ rest) r
judges_sound site rest r g h = judges_then (called site ∷ []) rest (tt {0}) r (record { judged = All-cons IsSound site [] g (λ k d i. absurd (omega arith)) }) h

-- a call with a fault
pub judges_fault : {U : Type 0} (site : Site) (rest : List Part) (kind : CheckKind) → IsFaultOf site kind → Judges {U = U} (called site ∷ rest) (Err (At site.context.line kind))
judges_fault site rest kind h = record {
  judged = record {
    before = [];
    call = site;
    after = sites_of rest;
    whole = refl;
    sound = λ k d i. absurd (omega arith);
    fault = h;
    here = refl;
  };
}

-- want of memory
pub judges_wanting : {U : Type 0} (parts : List Part) (r : Result U CheckFault) → IsErrAnd r (λ y. y ≡ NoMemory) → Judges {U = U} parts r
judges_wanting {U} parts r g = let p = err_from_is_err_and r g in subst (λ q. Judges {U = U} parts q) (sym p.1) (subst (λ y. Judges {U = U} parts (Err y)) (sym p.2) (record { judged = tt }))

-- the error that a `?` hands on
pub handed_on : {U : Type 0} (parts : List Part) (r : Result U CheckFault) (e : CheckFault) → IsErrAnd r (λ y. y ≡ e) → Judges {U = U} parts (Err e) → Judges {U = U} parts r
handed_on {U} parts r e g h = let p = err_from_is_err_and r g in subst (λ q. Judges {U = U} parts q) (sym p.1) (subst (λ y. Judges {U = U} parts (Err y)) (sym p.2) h)

-- what is left of a list, after those that were judged
pub record Left {X : Type 0} (f : X → Walk) (xs : List X) (p : Context) (i : ℕ) : Type 0 where
  pub by : (r : Result (Unit {0}) CheckFault) → Judges (each f (drop i xs) p) r → Judges (each f xs p) r

pub left_all : {X : Type 0} (f : X → Walk) (xs : List X) (p : Context) → Left f xs p 0
left_all f xs p = record { by = λ r h. h }

pub drop_item : {X : Type 0} (xs : List X) (i : ℕ) (x : X) → i < length xs → x ≡ get_or xs i x → drop i xs ≡ x ∷ drop (i + 1) xs
drop_item xs i x lt e = drop_more xs i x lt ∙ ap (λ y. y ∷ drop (i + 1) xs) (sym e)

pub left_next : {X : Type 0} (f : X → Walk) (xs : List X) (p : Context) (i : ℕ) (x : X) → Left f xs p i → i < length xs → x ≡ get_or xs i x → Judges (f x p) (Ok (tt {0})) → Left f xs p (i + 1)
left_next f xs p i x left lt e h = record { by = λ r k. left.by r (judges_at (ap (λ ys. each f ys p) (drop_item xs i x lt e)) (judges_then (f x p) (each f (drop (i + 1) xs) p) _ r h k)) }

pub left_fails : {U X : Type 0} (f : X → Walk) (xs : List X) (p : Context) (i : ℕ) (x : X) (e : CheckFault) → Left f xs p i → i < length xs → x ≡ get_or xs i x → Judges {U = U} (f x p) (Err e) → Judges {U = Unit {0}} (each f xs p) (Err e)
left_fails f xs p i x e left lt is h = left.by (Err e) (judges_at (ap (λ ys. each f ys p) (drop_item xs i x lt is)) (judges_first (f x p) (each f (drop (i + 1) xs) p) e h))

pub drop_past : {X : Type 0} (xs : List X) (i : ℕ) → length xs ≤ i → drop i xs ≡ []
drop_past xs i h = drop_all i xs h

pub left_none : {X : Type 0} (f : X → Walk) (xs : List X) (p : Context) (i : ℕ) → Left f xs p i → length xs ≤ i → Judges (each f xs p) (Ok (tt {0}))
left_none f xs p i left h = left.by (Ok (tt {0})) (judges_at (ap (λ ys. each f ys p) (drop_past xs i h)) judges_none)

pub of_none : (site : Site) (o : Option CheckKind) → o ≡ None → JudgesCall site o → IsSound site
of_none site o e h = subst (λ o. JudgesCall site o) e h

pub of_some : (site : Site) (o : Option CheckKind) (kind : CheckKind) → o ≡ Some kind → JudgesCall site o → IsFaultOf site kind
of_some site o kind e h = subst (λ o. JudgesCall site o) e h

-- a block is no call
pub opened_then : {U : Type 0} (block : Block) (rest : List Part) (r : Result U CheckFault) → Judges rest r → Judges (opened block ∷ rest) r
opened_then block rest (Ok u) h = record { judged = h.judged }
opened_then block rest (Err (At line kind)) h = record { judged = h.judged }
opened_then block rest (Err NoMemory) h = record { judged = tt }
