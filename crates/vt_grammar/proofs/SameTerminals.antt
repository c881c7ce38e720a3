-- Whether two terminals are one is told by their numbers.
use Rattle.std.specs.Prelude.{◌≡◌, true, List, [], ◌∷◌, get_or}
use Rattle.std.proofs.Common.{refl, sym, ap, ◌∙◌, subst}
use Rattle.std.proofs.lemmas.Bool.{eqb-true, eq-eqb}
use Rattle.vt_grammar.specs.declared.terminals.Terminal.{Terminal}
use Rattle.vt_grammar.specs.declared.terminals.Terminal.TheVariants as terminals
use Rattle.vt_grammar.specs.private.Sets.{just, number_of}
use Rattle.vt_frac.proofs.Decision.{Decision, alike, is_true}

-- all terminals, each at its number
abbrev pub every_terminal : List Terminal
every_terminal =
    terminals.Newline ∷ terminals.Name ∷ terminals.Label ∷ terminals.Whole ∷ terminals.Decimal ∷ terminals.Text ∷ terminals.Symbol ∷ terminals.Nil ∷ terminals.True ∷ terminals.False ∷ terminals.Do ∷ terminals.End ∷ terminals.If ∷ terminals.Elsif ∷ terminals.Else ∷ terminals.Unless ∷ terminals.And ∷ terminals.Or ∷ terminals.Not ∷ terminals.Plus ∷ terminals.Minus ∷ terminals.TightMinus ∷ terminals.Star ∷ terminals.Slash ∷ terminals.Percent ∷ terminals.Same ∷ terminals.Differs ∷ terminals.Below ∷ terminals.AtMost ∷ terminals.Above ∷ terminals.AtLeast ∷ terminals.Set ∷ terminals.SetPlus ∷ terminals.SetMinus ∷ terminals.SetTimes ∷ terminals.Both ∷ terminals.Either ∷ terminals.Bang ∷ terminals.CallOpen ∷ terminals.ParenOpen ∷ terminals.ParenClose ∷ terminals.IndexOpen ∷ terminals.ListOpen ∷ terminals.ListClose ∷ terminals.BraceOpen ∷ terminals.BraceClose ∷ terminals.Bar ∷ terminals.Comma ∷ terminals.Dot ∷ terminals.Other ∷ []

at_number : (w : Terminal) → get_or every_terminal (number_of w) terminals.Other ≡ w
at_number terminals.Newline = refl
at_number terminals.Name = refl
at_number terminals.Label = refl
at_number terminals.Whole = refl
at_number terminals.Decimal = refl
at_number terminals.Text = refl
at_number terminals.Symbol = refl
at_number terminals.Nil = refl
at_number terminals.True = refl
at_number terminals.False = refl
at_number terminals.Do = refl
at_number terminals.End = refl
at_number terminals.If = refl
at_number terminals.Elsif = refl
at_number terminals.Else = refl
at_number terminals.Unless = refl
at_number terminals.And = refl
at_number terminals.Or = refl
at_number terminals.Not = refl
at_number terminals.Plus = refl
at_number terminals.Minus = refl
at_number terminals.TightMinus = refl
at_number terminals.Star = refl
at_number terminals.Slash = refl
at_number terminals.Percent = refl
at_number terminals.Same = refl
at_number terminals.Differs = refl
at_number terminals.Below = refl
at_number terminals.AtMost = refl
at_number terminals.Above = refl
at_number terminals.AtLeast = refl
at_number terminals.Set = refl
at_number terminals.SetPlus = refl
at_number terminals.SetMinus = refl
at_number terminals.SetTimes = refl
at_number terminals.Both = refl
at_number terminals.Either = refl
at_number terminals.Bang = refl
at_number terminals.CallOpen = refl
at_number terminals.ParenOpen = refl
at_number terminals.ParenClose = refl
at_number terminals.IndexOpen = refl
at_number terminals.ListOpen = refl
at_number terminals.ListClose = refl
at_number terminals.BraceOpen = refl
at_number terminals.BraceClose = refl
at_number terminals.Bar = refl
at_number terminals.Comma = refl
at_number terminals.Dot = refl
at_number terminals.Other = refl

just_one : (w v : Terminal) → just w v ≡ true → v ≡ w
just_one w v e =
    sym (at_number v) ∙ ap (λ n. get_or every_terminal n terminals.Other) (sym (eqb-true (number_of w) (number_of v) e)) ∙ at_number w

pub is_terminal : (w v : Terminal) → Decision (v ≡ w)
is_terminal w v = alike (just_one w v) (λ e. subst (λ z. just w z ≡ true) (sym e) (eq-eqb (number_of w) (number_of w) refl)) (is_true (just w v))
