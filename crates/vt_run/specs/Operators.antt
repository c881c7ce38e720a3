-- Operators, indexes and lists. After Ruby; exact numbers, kinds and faults are own.
use Rattle.std.specs.Prelude.{neg_ℤ, List, [], ◌∷◌, not, cond, Result, Ok, Err}
use Rattle.vt_frac.specs.Arithmetic.{floor_of}
use Rattle.vt_ring.specs.Answers.{and_then}
use Rattle.vt_ring.specs.Items.{item_at}
use Rattle.vt_ring.specs.Signatures.{number_argument, ring_argument}
use Rattle.vt_tree.specs.declared.expression.ChainOp.{ChainOp}
use Rattle.vt_tree.specs.declared.expression.ChainOp.TheVariants.{And, Or, Eq, Ne, Lt, Le, Gt, Ge, Add, Sub, Mul, Div, Rem}
use Rattle.vt_tree.specs.declared.expression.Literal.{Literal}
use Rattle.vt_tree.specs.declared.expression.Literal.TheVariants as literal
use Rattle.vt_tree.specs.declared.expression.UnaryOp.{UnaryOp}
use Rattle.vt_tree.specs.declared.expression.UnaryOp.TheVariants.{Minus, Not}
use Rattle.vt_value.specs.declared.arithmetic.ArithOp.TheVariants as arith
use Rattle.vt_value.specs.declared.comparison.OrderOp.{OrderOp}
use Rattle.vt_value.specs.declared.comparison.OrderOp.TheVariants as order
use Rattle.vt_value.specs.declared.fault.FaultKind.{FaultKind}
use Rattle.vt_value.specs.declared.fault.FaultKind.TheVariants.{WrongKind}
use Rattle.vt_value.specs.declared.value.Value.{Value, out-Value}
use Rattle.vt_value.specs.declared.value.Value.TheOpen.{Value-F}
use Rattle.vt_value.specs.declared.value.Value.TheVariants.{Nil, Bool as Truth, Whole, Part, Sym, Text}
use Rattle.vt_value.specs.Arithmetic.{arith_of}
use Rattle.vt_value.specs.Comparison.{compare_of}
use Rattle.vt_value.specs.Kinds.{is_truthy}
use Rattle.vt_value.specs.Same.{same_as}
use Rattle.vt_run.specs.Actions.{or_fails}
use Rattle.vt_run.specs.Environment.{Meaning}
use Rattle.vt_run.specs.Evaluation.{gives, after}

-- a literal's value: a decimal number is an exact fraction
abbrev pub literal_value : Literal → Value
literal_value literal.Nil = Nil
literal_value (literal.Bool b) = Truth b
literal_value (literal.Whole n) = Whole n
literal_value (literal.Decimal f) = Part f
literal_value (literal.Text bytes) = Text bytes
literal_value (literal.Sym name) = Sym name

abbrev pub negated_layer : {A : Type 0} → Value-F A → Result Value FaultKind
negated_layer (Value-F.Whole n) = Ok (Whole (neg_ℤ n))
negated_layer (Value-F.Part f) = Ok (Part (record { numer = neg_ℤ f.numer; denom = f.denom }))
negated_layer _ = Err WrongKind

-- `-v` of a number; `!v` and `not v` are true exactly for nil and false
abbrev pub unary_of : UnaryOp → Value → Result Value FaultKind
unary_of Minus value = negated_layer (out-Value value)
unary_of Not value = Ok (Truth (not (is_truthy value)))

-- `v[i]`: the item of a ring at the floor of a number, wrapping
abbrev pub index_of : Value → Value → Result Value FaultKind
index_of value at =
    and_then (ring_argument value) (λ items.
    and_then (number_argument at) (λ index.
    item_at items (floor_of index)))

-- the value before an operator, then the part after it, then the operator
abbrev pub by_both : (Value → Value → Result Value FaultKind) → Value → Meaning → Meaning
by_both operator value part env at st =
    after (part env at st) (λ other st. or_fails (operator value other) env at st (λ result. gives result st))

abbrev pub compares : OrderOp → Value → Value → Result Value FaultKind
compares op value other = and_then (compare_of op value other) (λ holds. Ok (Truth holds))

-- An operator and the part after it, on the value before it. `and` and `&&` leave the part alone where that value is untrue, `or` and `||` where it is true.
unfoldable pub linked : ChainOp → Value → Meaning → Meaning
linked And value part env at st = cond (is_truthy value) (part env at st) (gives value st)
linked Or value part env at st = cond (is_truthy value) (gives value st) (part env at st)
linked Eq value part env at st = by_both (λ v w. Ok (Truth (same_as v w))) value part env at st
linked Ne value part env at st = by_both (λ v w. Ok (Truth (not (same_as v w)))) value part env at st
linked Lt value part env at st = by_both (compares order.Lt) value part env at st
linked Le value part env at st = by_both (compares order.Le) value part env at st
linked Gt value part env at st = by_both (compares order.Gt) value part env at st
linked Ge value part env at st = by_both (compares order.Ge) value part env at st
linked Add value part env at st = by_both (arith_of arith.Add) value part env at st
linked Sub value part env at st = by_both (arith_of arith.Sub) value part env at st
linked Mul value part env at st = by_both (arith_of arith.Mul) value part env at st
linked Div value part env at st = by_both (arith_of arith.Div) value part env at st
linked Rem value part env at st = by_both (arith_of arith.Rem) value part env at st

-- the links of a chain from left to right: each part and at once its operator
abbrev pub links : List (Value → Meaning) → Value → Meaning
links [] value env at st = gives value st
links (link ∷ rest) value env at st = after (link value env at st) (λ value st. links rest value env at st)
