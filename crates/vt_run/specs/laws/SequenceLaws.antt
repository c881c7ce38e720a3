-- A sequence does what its first part does, and then the rest from there: so for statements, the arguments of a call and the items of a list, options, and the links of a chain. After FARM 2014.
use Rattle.std.specs.Prelude.{◌≡◌, ℕ, List, ◌++◌}
use Rattle.vt_tree.specs.declared.statement.Stmt.{Stmt}
use Rattle.vt_value.specs.declared.value.Value.{Value}
use Rattle.vt_event.specs.Pairs.{Pairs}
use Rattle.vt_run.specs.declared.state.State.{State}
use Rattle.vt_run.specs.Environment.{Env, Meaning}
use Rattle.vt_run.specs.Evaluation.{Next, Ran, Spot, after}
use Rattle.vt_run.specs.Operators.{links}
use Rattle.vt_run.specs.TreeMeaning.{LinkMeaning, options_of, stmts_meaning, values_of}

-- the steps of statements one after another are those of the first ones, and then, where these leave something, those of the rest from what they leave
abbrev pub SequenceLaw : Type 0
SequenceLaw =
    (first rest : List Stmt) (value : Value) (env : Env) (at : Spot) (st : State) →
    stmts_meaning (first ++ rest) value env at st ≡ after (stmts_meaning first value env at st) (λ value st. stmts_meaning rest value env at st)

-- the links of a chain: the first ones on the value before them, and then the rest on what these leave
abbrev pub LinksLaw : Type 0
LinksLaw =
    (first rest : List LinkMeaning) (value : Value) (env : Env) (at : Spot) (st : State) →
    links (first ++ rest) value env at st ≡ after (links first value env at st) (λ value st. links rest value env at st)

-- the arguments of a call, or the items of a list: the first ones, then the rest from what these leave, and then what comes next of the values of both in order
abbrev pub ValuesLaw : Type 0
ValuesLaw =
    (first rest : List Meaning) (env : Env) (at : Spot) (st : State) (go : List Value → State → Ran) →
    values_of (first ++ rest) env at st go ≡ values_of first env at st (λ values st. values_of rest env at st (λ others st. go (values ++ others) st))

-- and what comes next of the values is what comes after them
abbrev pub AfterValuesLaw : Type 0
AfterValuesLaw =
    (parts : List Meaning) (env : Env) (at : Spot) (st : State) (go : List Value → State → Ran) (next : Next) →
    after (values_of parts env at st go) next ≡ values_of parts env at st (λ values st. after (go values st) next)

-- the options of a call, with their labels
abbrev pub OptionsLaw : Type 0
OptionsLaw =
    (first rest : List (List ℕ × Meaning)) (env : Env) (at : Spot) (st : State) (go : Pairs → State → Ran) →
    options_of (first ++ rest) env at st go ≡ options_of first env at st (λ options st. options_of rest env at st (λ others st. go (options ++ others) st))

-- and what comes next of the options is what comes after them
abbrev pub AfterOptionsLaw : Type 0
AfterOptionsLaw =
    (parts : List (List ℕ × Meaning)) (env : Env) (at : Spot) (st : State) (go : Pairs → State → Ran) (next : Next) →
    after (options_of parts env at st go) next ≡ options_of parts env at st (λ options st. after (go options st) next)
