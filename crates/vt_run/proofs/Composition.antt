-- What is done in a row may be grouped in any way.
use Rattle.std.proofs.Common.{◌≡◌, List, [], ◌∷◌, ◌++◌, map, Option, Some, None, refl, sym, ap, ◌∙◌, append_assoc}
use Rattle.vt_value.specs.declared.value.Value.{Value}
use Rattle.vt_run.specs.declared.state.State.{State}
use Rattle.vt_run.specs.Environment.{Env, Meaning}
use Rattle.vt_run.specs.Scopes.{row}
use Rattle.vt_run.specs.Evaluation.{Left, Next, Ran, Spot, Step, after, goes_on}
use Rattle.vt_run.specs.laws.SequenceLaws.{AfterOptionsLaw, AfterValuesLaw, LinksLaw, OptionsLaw, SequenceLaw, ValuesLaw}
use Rattle.vt_run.specs.Operators.{links}
use Rattle.vt_run.specs.TreeMeaning.{options_of, stmt_meaning, values_of}

pub goes_on-append : (s t : List Step) (left : Option Left) (next : Next) → goes_on (s ++ t) left next ≡ record { steps = s ++ (goes_on t left next).steps; left = (goes_on t left next).left }
goes_on-append s t None next = refl
goes_on-append s t (Some l) next = ap (λ steps. record { steps = steps; left = (next l.value l.state).left }) (append_assoc s t _)

after_assoc_on : (s : List Step) (left : Option Left) (f g : Next) → after (goes_on s left f) g ≡ goes_on s left (λ value st. after (f value st) g)
after_assoc_on s None f g = refl
after_assoc_on s (Some l) f g = goes_on-append s (f l.value l.state).steps (f l.value l.state).left g

-- an evaluation, then a second, then a third
pub after_assoc : (ran : Ran) (f g : Next) → after (after ran f) g ≡ after ran (λ value st. after (f value st) g)
after_assoc ran f g = after_assoc_on ran.steps ran.left f g

pub row-append : (first rest : List Meaning) (value : Value) (env : Env) (at : Spot) (st : State) → row (first ++ rest) value env at st ≡ after (row first value env at st) (λ value st. row rest value env at st)
row-append [] rest value env at st = refl
row-append (part ∷ first) rest value env at st =
    ap (after (part env at st)) (λ i value st. row-append first rest value env at st i)
    ∙ sym (after_assoc (part env at st) (λ value st. row first value env at st) (λ value st. row rest value env at st))

map-append : {A B : Type 0} (f : A → B) (xs ys : List A) → map f (xs ++ ys) ≡ map f xs ++ map f ys
map-append f [] ys = refl
map-append f (x ∷ xs) ys = ap (λ zs. f x ∷ zs) (map-append f xs ys)

pub sequence_law : SequenceLaw
sequence_law first rest value env at st =
    ap (λ parts. row parts value env at st) (map-append stmt_meaning first rest)
    ∙ row-append (map stmt_meaning first) (map stmt_meaning rest) value env at st

pub links_law : LinksLaw
links_law [] rest value env at st = refl
links_law (link ∷ first) rest value env at st =
    ap (after (link value env at st)) (λ i value st. links_law first rest value env at st i)
    ∙ sym (after_assoc (link value env at st) (λ value st. links first value env at st) (λ value st. links rest value env at st))

pub values_law : ValuesLaw
values_law [] rest env at st go = refl
values_law (part ∷ first) rest env at st go =
    ap (after (part env at st)) (λ i value st. values_law first rest env at st (λ values st. go (value ∷ values) st) i)

pub after_values_law : AfterValuesLaw
after_values_law [] env at st go next = refl
after_values_law (part ∷ parts) env at st go next =
    after_assoc (part env at st) (λ value st. values_of parts env at st (λ values st. go (value ∷ values) st)) next
    ∙ ap (after (part env at st)) (λ i value st. after_values_law parts env at st (λ values st. go (value ∷ values) st) next i)

pub options_law : OptionsLaw
options_law [] rest env at st go = refl
options_law (part ∷ first) rest env at st go =
    ap (after (part.1 env at st)) (λ i value st. options_law first rest env at st (λ options st. go ((part.0, value) ∷ options) st) i)

pub after_options_law : AfterOptionsLaw
after_options_law [] env at st go next = refl
after_options_law (part ∷ parts) env at st go next =
    after_assoc (part.1 env at st) (λ value st. options_of parts env at st (λ options st. go ((part.0, value) ∷ options) st)) next
    ∙ ap (after (part.1 env at st)) (λ i value st. after_options_law parts env at st (λ options st. go ((part.0, value) ∷ options) st) next i)
