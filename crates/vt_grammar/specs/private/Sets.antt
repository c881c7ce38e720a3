-- Sets of terminals: with which terminals each rule begins, where something more may be opened or not, and with which a whole one
-- may go on.
use Rattle.std.specs.Prelude.{ℕ, nat_eq, Bool, true, false, ◌&&◌, ◌||◌}
use Rattle.vt_grammar.specs.declared.terminals.Terminal.{Terminal}
use Rattle.vt_grammar.specs.declared.terminals.Terminal.TheVariants as terminals
use Rattle.vt_grammar.specs.Grammar.{is_paren_open, is_list_open, is_condition, is_term_op, is_sum_op, is_comp_op, is_conj_op, is_disj_op, is_expr_op, is_set, leads}

-- the place of a terminal in the list of all
abbrev pub number_of : Terminal → ℕ
number_of terminals.Newline = 0
number_of terminals.Name = 1
number_of terminals.Label = 2
number_of terminals.Whole = 3
number_of terminals.Decimal = 4
number_of terminals.Text = 5
number_of terminals.Symbol = 6
number_of terminals.Nil = 7
number_of terminals.True = 8
number_of terminals.False = 9
number_of terminals.Do = 10
number_of terminals.End = 11
number_of terminals.If = 12
number_of terminals.Elsif = 13
number_of terminals.Else = 14
number_of terminals.Unless = 15
number_of terminals.And = 16
number_of terminals.Or = 17
number_of terminals.Not = 18
number_of terminals.Plus = 19
number_of terminals.Minus = 20
number_of terminals.TightMinus = 21
number_of terminals.Star = 22
number_of terminals.Slash = 23
number_of terminals.Percent = 24
number_of terminals.Same = 25
number_of terminals.Differs = 26
number_of terminals.Below = 27
number_of terminals.AtMost = 28
number_of terminals.Above = 29
number_of terminals.AtLeast = 30
number_of terminals.Set = 31
number_of terminals.SetPlus = 32
number_of terminals.SetMinus = 33
number_of terminals.SetTimes = 34
number_of terminals.Both = 35
number_of terminals.Either = 36
number_of terminals.Bang = 37
number_of terminals.CallOpen = 38
number_of terminals.ParenOpen = 39
number_of terminals.ParenClose = 40
number_of terminals.IndexOpen = 41
number_of terminals.ListOpen = 42
number_of terminals.ListClose = 43
number_of terminals.BraceOpen = 44
number_of terminals.BraceClose = 45
number_of terminals.Bar = 46
number_of terminals.Comma = 47
number_of terminals.Dot = 48
number_of terminals.Other = 49

-- one terminal alone
abbrev pub just : Terminal → Terminal → Bool
just w v = nat_eq (number_of w) (number_of v)

abbrev pub none : Terminal → Bool
none w = false

abbrev pub also : (Terminal → Bool) → (Terminal → Bool) → Terminal → Bool
also F G w = F w || G w

-- the set, where something more may be opened
abbrev pub with_room : Bool → (Terminal → Bool) → Terminal → Bool
with_room b F w = F w && b

abbrev pub ParenStarts : Bool → Terminal → Bool
ParenStarts b = with_room b is_paren_open

abbrev pub ListStarts : Bool → Terminal → Bool
ListStarts b = with_room b is_list_open

abbrev pub CallStarts : Bool → Terminal → Bool
CallStarts b = with_room b (just terminals.CallOpen)

abbrev pub IndexStarts : Bool → Terminal → Bool
IndexStarts b = with_room b (just terminals.IndexOpen)

abbrev pub BraceStarts : Bool → Terminal → Bool
BraceStarts b = with_room b (just terminals.BraceOpen)

abbrev pub DoStarts : Bool → Terminal → Bool
DoStarts b = with_room b (just terminals.Do)

abbrev pub IffStarts : Bool → Terminal → Bool
IffStarts b = with_room b is_condition

abbrev pub GroupStarts : Bool → Terminal → Bool
GroupStarts b terminals.CallOpen = b
GroupStarts b terminals.ParenOpen = b
GroupStarts b terminals.IndexOpen = b
GroupStarts b terminals.ListOpen = b
GroupStarts b _ = false

abbrev pub NameStarts : Bool → Terminal → Bool
NameStarts b terminals.Name = true
NameStarts b w = GroupStarts b w

abbrev pub PrimaryStarts : Bool → Terminal → Bool
PrimaryStarts b terminals.Whole = true
PrimaryStarts b terminals.Decimal = true
PrimaryStarts b terminals.Text = true
PrimaryStarts b terminals.Symbol = true
PrimaryStarts b terminals.Nil = true
PrimaryStarts b terminals.True = true
PrimaryStarts b terminals.False = true
PrimaryStarts b w = NameStarts b w

abbrev pub PartStarts : Bool → Terminal → Bool
PartStarts b terminals.IndexOpen = b
PartStarts b terminals.Dot = true
PartStarts b _ = false

abbrev pub UnaryStarts : Bool → Terminal → Bool
UnaryStarts b terminals.Minus = true
UnaryStarts b terminals.TightMinus = true
UnaryStarts b terminals.Bang = true
UnaryStarts b w = PrimaryStarts b w

abbrev pub ExprStarts : Bool → Terminal → Bool
ExprStarts b terminals.Not = true
ExprStarts b w = UnaryStarts b w

abbrev pub ArgStarts : Bool → Terminal → Bool
ArgStarts b terminals.Label = true
ArgStarts b w = ExprStarts b w

abbrev pub StmtStarts : Bool → Terminal → Bool
StmtStarts b terminals.If = b
StmtStarts b terminals.Unless = b
StmtStarts b w = ExprStarts b w

abbrev pub BlockStarts : Bool → Terminal → Bool
BlockStarts b terminals.Newline = true
BlockStarts b w = StmtStarts b w

abbrev pub NameGoes : Terminal → Bool
NameGoes terminals.CallOpen = true
NameGoes _ = false

abbrev pub PartGoes : Terminal → Bool
PartGoes terminals.CallOpen = true
PartGoes terminals.BraceOpen = true
PartGoes _ = false

abbrev pub PostfixGoes : Terminal → Bool
PostfixGoes terminals.CallOpen = true
PostfixGoes terminals.BraceOpen = true
PostfixGoes terminals.IndexOpen = true
PostfixGoes terminals.Dot = true
PostfixGoes _ = false

abbrev pub TermGoes : Terminal → Bool
TermGoes = also is_term_op PostfixGoes

abbrev pub SumGoes : Terminal → Bool
SumGoes = also is_sum_op TermGoes

abbrev pub CompGoes : Terminal → Bool
CompGoes = also is_comp_op SumGoes

abbrev pub ConjGoes : Terminal → Bool
ConjGoes = also is_conj_op CompGoes

abbrev pub DisjGoes : Terminal → Bool
DisjGoes = also is_disj_op ConjGoes

abbrev pub ExprGoes : Terminal → Bool
ExprGoes = also is_expr_op DisjGoes

abbrev pub ArgsGoes : Terminal → Bool
ArgsGoes terminals.Comma = true
ArgsGoes w = ExprGoes w

abbrev pub CondGoes : Terminal → Bool
CondGoes = also leads ArgsGoes

abbrev pub RhsGoes : Terminal → Bool
RhsGoes terminals.Do = true
RhsGoes w = CondGoes w

abbrev pub SimpleGoes : Terminal → Bool
SimpleGoes = also is_set RhsGoes

abbrev pub StmtGoes : Terminal → Bool
StmtGoes terminals.If = true
StmtGoes terminals.Unless = true
StmtGoes w = SimpleGoes w

abbrev pub LineGoes : Terminal → Bool
LineGoes = also (StmtStarts true) StmtGoes

abbrev pub BlockGoes : Terminal → Bool
BlockGoes terminals.Newline = true
BlockGoes w = LineGoes w

abbrev pub ParamGoes : Terminal → Bool
ParamGoes terminals.Comma = true
ParamGoes _ = false

abbrev pub ArmsGoes : Terminal → Bool
ArmsGoes terminals.Elsif = true
ArmsGoes w = BlockGoes w

abbrev pub ArmsStart : Terminal → Bool
ArmsStart terminals.Elsif = true
ArmsStart terminals.Else = true
ArmsStart terminals.End = true
ArmsStart _ = false

abbrev pub ElseGoes : Terminal → Bool
ElseGoes terminals.Else = true
ElseGoes w = BlockGoes w
