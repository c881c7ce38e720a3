-- What a loop over many of a form keeps.
use Rattle.std.proofs.Common.{◌≡◌, List, [], ◌∷◌, ◌++◌, sym, ◌∙◌, subst, append_assoc, append-nil}
use Rattle.vt_grammar.specs.Form.{Form, many}
use Rattle.vt_grammar.specs.private.Parsing.{Read, Stuck}
use Rattle.vt_grammar.proofs.Sequences.{Lawful}
use Rattle.vt_grammar.proofs.Many.{many_cons, many_stuck, many_end, many_stuck_first}
use Rattle.vt_grammar.proofs.Choices.{Bars}
use Rattle.std.proofs.lemmas.List.{append_cancel_right}

-- vs were read from start up to here, and whatever is read from here follows them
pub record Continues {T V : Type 0} (a : Form T (List V)) (start here : List T) (vs : List V) : Type 0 where
  pub read_on : (n : List T) (ws : List V) → Read a here n ws → Read a start n (vs ++ ws)
  pub stuck_on : (n : List T) → Stuck a here n → Stuck a start n

pub continues_start : {T V : Type 0} (a : Form T (List V)) (o : List T) → Continues a o o []
continues_start a o = record { read_on = λ n ws h. h; stuck_on = λ n h. h }

pub continues_one : {T V : Type 0} (a : Form T V) (F M : T → Type 0) → Lawful a F M
    → ((t : T) → M t → F t → ⊥) → ((v : V) → a.reads [] v → ⊥)
    → (o m n : List T) (vs : List V) (v : V) → Continues (many a) o m vs → Read a m n v → Continues (many a) o n (vs ++ v ∷ [])
continues_one a F M la apart solid o m n vs v c h = record {
  read_on = λ r ws g. subst (λ z. Read (many a) o r z) (sym (append_assoc vs (v ∷ []) ws))
      (c.read_on r (v ∷ ws) (many_cons a F M la apart solid m n r v ws h g));
  stuck_on = λ r g. c.stuck_on r (many_stuck a F M la apart solid m n r v h g);
}

-- at the end of the loop
pub loop_end : {T V : Type 0} (a : Form T V) (F M : T → Type 0) → Lawful a F M
    → ((t : T) → M t → F t → ⊥) → ((v : V) → a.reads [] v → ⊥)
    → (o m : List T) (vs : List V) → Continues (many a) o m vs → Bars m F → Read (many a) o m vs
loop_end a F M la apart solid o m vs c bars =
    subst (λ z. Read (many a) o m z) (append-nil vs) (c.read_on m [] (many_end a F M la apart solid m bars))

-- one of the form is stuck, past its first token
pub loop_stuck : {T V : Type 0} (a : Form T V) (F M : T → Type 0) → Lawful a F M
    → ((t : T) → M t → F t → ⊥) → ((v : V) → a.reads [] v → ⊥)
    → (o m n : List T) (vs : List V) → Continues (many a) o m vs → (m ≡ n → ⊥) → Stuck a m n → Stuck (many a) o n
loop_stuck a F M la apart solid o m n vs c some h = c.stuck_on n (many_stuck_first a F M la apart solid m n h some)

-- a form whose first token was there is stuck past it
pub moved : {T V : Type 0} (a : Form T V) (o n : List T) (t : T) (rest : List T) → o ≡ t ∷ rest → a.begins (t ∷ []) → Stuck a o n → o ≡ n → ⊥
moved a o n t rest e b h p =
    h.stops t rest (sym p ∙ e) (subst (λ f. a.begins (f ++ t ∷ [])) (sym (append_cancel_right h.prefix [] n (sym h.whole ∙ p))) b)
