-- Sets of terminals, which are compared by computing.
use Rattle.std.proofs.Common.{◌≡◌, ℕ, zero, suc, Bool, true, false, ◌&&◌, not, ◌||◌, List, [], ◌∷◌, Option, Some, None, refl, sym, ap, ◌∙◌, subst}
use Rattle.std.proofs.lemmas.Bool.{eqb-true}
use Rattle.vt_grammar.specs.declared.terminals.Terminal.{Terminal}
use Rattle.vt_grammar.specs.declared.terminals.Terminal.TheVariants as terminals
use Rattle.vt_grammar.specs.Marks.{Mark}
use Rattle.vt_grammar.specs.private.Sets.{just, number_of}

-- the token's terminal is in the set
pub record In (F : Terminal → Bool) (t : Mark) : Type 0 where
  pub is : F t.terminal ≡ true

abbrev pub Is : Terminal → Mark → Type 0
Is w t = t.terminal ≡ w

abbrev pub all_terminals : List Terminal
all_terminals =
    terminals.Newline ∷ terminals.Name ∷ terminals.Label ∷ terminals.Whole ∷ terminals.Decimal ∷ terminals.Text ∷ terminals.Symbol ∷ terminals.Nil ∷ terminals.True ∷ terminals.False ∷ terminals.Do ∷ terminals.End ∷ terminals.If ∷ terminals.Elsif ∷ terminals.Else ∷ terminals.Unless ∷ terminals.And ∷ terminals.Or ∷ terminals.Not ∷ terminals.Plus ∷ terminals.Minus ∷ terminals.TightMinus ∷ terminals.Star ∷ terminals.Slash ∷ terminals.Percent ∷ terminals.Same ∷ terminals.Differs ∷ terminals.Below ∷ terminals.AtMost ∷ terminals.Above ∷ terminals.AtLeast ∷ terminals.Set ∷ terminals.SetPlus ∷ terminals.SetMinus ∷ terminals.SetTimes ∷ terminals.Both ∷ terminals.Either ∷ terminals.Bang ∷ terminals.CallOpen ∷ terminals.ParenOpen ∷ terminals.ParenClose ∷ terminals.IndexOpen ∷ terminals.ListOpen ∷ terminals.ListClose ∷ terminals.BraceOpen ∷ terminals.BraceClose ∷ terminals.Bar ∷ terminals.Comma ∷ terminals.Dot ∷ terminals.Other ∷ []

abbrev pub passes : (Terminal → Bool) → List Terminal → Bool
passes f [] = true
passes f (w ∷ ws) = f w && passes f ws

abbrev pub every : (Terminal → Bool) → Bool
every f = passes f all_terminals

abbrev terminal_number : List Terminal → ℕ → Option Terminal
terminal_number [] n = None
terminal_number (w ∷ ws) zero = Some w
terminal_number (w ∷ ws) (suc n) = terminal_number ws n

left : (a b : Bool) → a && b ≡ true → a ≡ true
left true b e = refl
left false b e = e

right : (a b : Bool) → a && b ≡ true → b ≡ true
right true b e = e
right false b e = absurd (cc)

passes_at : (f : Terminal → Bool) (ws : List Terminal) (n : ℕ) (w : Terminal) → passes f ws ≡ true → terminal_number ws n ≡ Some w → f w ≡ true
passes_at f [] n w e p = absurd (cc)
passes_at f (v ∷ ws) zero w e p = let same : v ≡ w = cc in subst (λ z. f z ≡ true) same (left (f v) (passes f ws) e)
passes_at f (v ∷ ws) (suc n) w e p = passes_at f ws n w (right (f v) (passes f ws) e) p

every_at : (f : Terminal → Bool) (w : Terminal) → every f ≡ true → f w ≡ true
every_at f terminals.Newline e = passes_at f all_terminals 0 terminals.Newline e refl
every_at f terminals.Name e = passes_at f all_terminals 1 terminals.Name e refl
every_at f terminals.Label e = passes_at f all_terminals 2 terminals.Label e refl
every_at f terminals.Whole e = passes_at f all_terminals 3 terminals.Whole e refl
every_at f terminals.Decimal e = passes_at f all_terminals 4 terminals.Decimal e refl
every_at f terminals.Text e = passes_at f all_terminals 5 terminals.Text e refl
every_at f terminals.Symbol e = passes_at f all_terminals 6 terminals.Symbol e refl
every_at f terminals.Nil e = passes_at f all_terminals 7 terminals.Nil e refl
every_at f terminals.True e = passes_at f all_terminals 8 terminals.True e refl
every_at f terminals.False e = passes_at f all_terminals 9 terminals.False e refl
every_at f terminals.Do e = passes_at f all_terminals 10 terminals.Do e refl
every_at f terminals.End e = passes_at f all_terminals 11 terminals.End e refl
every_at f terminals.If e = passes_at f all_terminals 12 terminals.If e refl
every_at f terminals.Elsif e = passes_at f all_terminals 13 terminals.Elsif e refl
every_at f terminals.Else e = passes_at f all_terminals 14 terminals.Else e refl
every_at f terminals.Unless e = passes_at f all_terminals 15 terminals.Unless e refl
every_at f terminals.And e = passes_at f all_terminals 16 terminals.And e refl
every_at f terminals.Or e = passes_at f all_terminals 17 terminals.Or e refl
every_at f terminals.Not e = passes_at f all_terminals 18 terminals.Not e refl
every_at f terminals.Plus e = passes_at f all_terminals 19 terminals.Plus e refl
every_at f terminals.Minus e = passes_at f all_terminals 20 terminals.Minus e refl
every_at f terminals.TightMinus e = passes_at f all_terminals 21 terminals.TightMinus e refl
every_at f terminals.Star e = passes_at f all_terminals 22 terminals.Star e refl
every_at f terminals.Slash e = passes_at f all_terminals 23 terminals.Slash e refl
every_at f terminals.Percent e = passes_at f all_terminals 24 terminals.Percent e refl
every_at f terminals.Same e = passes_at f all_terminals 25 terminals.Same e refl
every_at f terminals.Differs e = passes_at f all_terminals 26 terminals.Differs e refl
every_at f terminals.Below e = passes_at f all_terminals 27 terminals.Below e refl
every_at f terminals.AtMost e = passes_at f all_terminals 28 terminals.AtMost e refl
every_at f terminals.Above e = passes_at f all_terminals 29 terminals.Above e refl
every_at f terminals.AtLeast e = passes_at f all_terminals 30 terminals.AtLeast e refl
every_at f terminals.Set e = passes_at f all_terminals 31 terminals.Set e refl
every_at f terminals.SetPlus e = passes_at f all_terminals 32 terminals.SetPlus e refl
every_at f terminals.SetMinus e = passes_at f all_terminals 33 terminals.SetMinus e refl
every_at f terminals.SetTimes e = passes_at f all_terminals 34 terminals.SetTimes e refl
every_at f terminals.Both e = passes_at f all_terminals 35 terminals.Both e refl
every_at f terminals.Either e = passes_at f all_terminals 36 terminals.Either e refl
every_at f terminals.Bang e = passes_at f all_terminals 37 terminals.Bang e refl
every_at f terminals.CallOpen e = passes_at f all_terminals 38 terminals.CallOpen e refl
every_at f terminals.ParenOpen e = passes_at f all_terminals 39 terminals.ParenOpen e refl
every_at f terminals.ParenClose e = passes_at f all_terminals 40 terminals.ParenClose e refl
every_at f terminals.IndexOpen e = passes_at f all_terminals 41 terminals.IndexOpen e refl
every_at f terminals.ListOpen e = passes_at f all_terminals 42 terminals.ListOpen e refl
every_at f terminals.ListClose e = passes_at f all_terminals 43 terminals.ListClose e refl
every_at f terminals.BraceOpen e = passes_at f all_terminals 44 terminals.BraceOpen e refl
every_at f terminals.BraceClose e = passes_at f all_terminals 45 terminals.BraceClose e refl
every_at f terminals.Bar e = passes_at f all_terminals 46 terminals.Bar e refl
every_at f terminals.Comma e = passes_at f all_terminals 47 terminals.Comma e refl
every_at f terminals.Dot e = passes_at f all_terminals 48 terminals.Dot e refl
every_at f terminals.Other e = passes_at f all_terminals 49 terminals.Other e refl

-- each terminal of the first set is in the second
abbrev pub includes : (Terminal → Bool) → (Terminal → Bool) → Bool
includes F G = every (λ w. G w || not (F w))

-- no terminal is in both sets
abbrev pub disjoint : (Terminal → Bool) → (Terminal → Bool) → Bool
disjoint F G = every (λ w. not (F w && G w))

pub sub : {F G : Terminal → Bool} → includes F G ≡ true → (t : Mark) → In F t → In G t
sub {F = F} {G = G} e t h = record { is = go (F t.terminal) (G t.terminal) (every_at (λ w. G w || not (F w)) t.terminal e) h.is }
  where
    go : (a b : Bool) → (b || not a) ≡ true → a ≡ true → b ≡ true
    go a true p q = refl
    go true false p q = absurd (cc)
    go false false p q = absurd (cc)

pub apart : {F G : Terminal → Bool} → disjoint F G ≡ true → (t : Mark) → In F t → In G t → ⊥
apart {F = F} {G = G} e t h g = go (F t.terminal) (G t.terminal) (every_at (λ w. not (F w && G w)) t.terminal e) h.is g.is
  where
    go : (a b : Bool) → not (a && b) ≡ true → a ≡ true → b ≡ true → ⊥
    go true true p q s = cc
    go false b p q s = cc
    go true false p q s = cc

-- both where something more may be opened and where nothing may
pub by_room : (P : Bool → Type 0) → P true → P false → (b : Bool) → P b
by_room P p q true = p
by_room P p q false = q

pub is_in : (F : Terminal → Bool) {w : Terminal} → F w ≡ true → (t : Mark) → Is w t → In F t
is_in F e t h = record { is = subst (λ z. F z ≡ true) (sym h) e }

pub is_out : {F : Terminal → Bool} {w : Terminal} → F w ≡ false → (t : Mark) → Is w t → In F t → ⊥
is_out {F = F} e t h g = let at : F t.terminal ≡ false = subst (λ z. F z ≡ false) (sym h) e in let there : F t.terminal ≡ true = g.is in cc

pub just_self : (w : Terminal) → just w w ≡ true
just_self terminals.Newline = refl
just_self terminals.Name = refl
just_self terminals.Label = refl
just_self terminals.Whole = refl
just_self terminals.Decimal = refl
just_self terminals.Text = refl
just_self terminals.Symbol = refl
just_self terminals.Nil = refl
just_self terminals.True = refl
just_self terminals.False = refl
just_self terminals.Do = refl
just_self terminals.End = refl
just_self terminals.If = refl
just_self terminals.Elsif = refl
just_self terminals.Else = refl
just_self terminals.Unless = refl
just_self terminals.And = refl
just_self terminals.Or = refl
just_self terminals.Not = refl
just_self terminals.Plus = refl
just_self terminals.Minus = refl
just_self terminals.TightMinus = refl
just_self terminals.Star = refl
just_self terminals.Slash = refl
just_self terminals.Percent = refl
just_self terminals.Same = refl
just_self terminals.Differs = refl
just_self terminals.Below = refl
just_self terminals.AtMost = refl
just_self terminals.Above = refl
just_self terminals.AtLeast = refl
just_self terminals.Set = refl
just_self terminals.SetPlus = refl
just_self terminals.SetMinus = refl
just_self terminals.SetTimes = refl
just_self terminals.Both = refl
just_self terminals.Either = refl
just_self terminals.Bang = refl
just_self terminals.CallOpen = refl
just_self terminals.ParenOpen = refl
just_self terminals.ParenClose = refl
just_self terminals.IndexOpen = refl
just_self terminals.ListOpen = refl
just_self terminals.ListClose = refl
just_self terminals.BraceOpen = refl
just_self terminals.BraceClose = refl
just_self terminals.Bar = refl
just_self terminals.Comma = refl
just_self terminals.Dot = refl
just_self terminals.Other = refl

pub passes_all : (f : Terminal → Bool) → ((w : Terminal) → f w ≡ true) → (ws : List Terminal) → passes f ws ≡ true
passes_all f h [] = refl
passes_all f h (w ∷ ws) = both (f w) (passes f ws) (h w) (passes_all f h ws)
  where
    both : (a b : Bool) → a ≡ true → b ≡ true → a && b ≡ true
    both true b p q = q
    both false b p q = absurd (cc)

-- a set is in itself
pub included : (F : Terminal → Bool) → includes F F ≡ true
included F = passes_all (λ w. F w || not (F w)) (λ w. go (F w)) all_terminals
  where
    go : (a : Bool) → a || not a ≡ true
    go true = refl
    go false = refl

-- two terminals with one number are one terminal
terminal_back : (w : Terminal) → terminal_number all_terminals (number_of w) ≡ Some w
terminal_back terminals.Newline = refl
terminal_back terminals.Name = refl
terminal_back terminals.Label = refl
terminal_back terminals.Whole = refl
terminal_back terminals.Decimal = refl
terminal_back terminals.Text = refl
terminal_back terminals.Symbol = refl
terminal_back terminals.Nil = refl
terminal_back terminals.True = refl
terminal_back terminals.False = refl
terminal_back terminals.Do = refl
terminal_back terminals.End = refl
terminal_back terminals.If = refl
terminal_back terminals.Elsif = refl
terminal_back terminals.Else = refl
terminal_back terminals.Unless = refl
terminal_back terminals.And = refl
terminal_back terminals.Or = refl
terminal_back terminals.Not = refl
terminal_back terminals.Plus = refl
terminal_back terminals.Minus = refl
terminal_back terminals.TightMinus = refl
terminal_back terminals.Star = refl
terminal_back terminals.Slash = refl
terminal_back terminals.Percent = refl
terminal_back terminals.Same = refl
terminal_back terminals.Differs = refl
terminal_back terminals.Below = refl
terminal_back terminals.AtMost = refl
terminal_back terminals.Above = refl
terminal_back terminals.AtLeast = refl
terminal_back terminals.Set = refl
terminal_back terminals.SetPlus = refl
terminal_back terminals.SetMinus = refl
terminal_back terminals.SetTimes = refl
terminal_back terminals.Both = refl
terminal_back terminals.Either = refl
terminal_back terminals.Bang = refl
terminal_back terminals.CallOpen = refl
terminal_back terminals.ParenOpen = refl
terminal_back terminals.ParenClose = refl
terminal_back terminals.IndexOpen = refl
terminal_back terminals.ListOpen = refl
terminal_back terminals.ListClose = refl
terminal_back terminals.BraceOpen = refl
terminal_back terminals.BraceClose = refl
terminal_back terminals.Bar = refl
terminal_back terminals.Comma = refl
terminal_back terminals.Dot = refl
terminal_back terminals.Other = refl

pub just_is : (w v : Terminal) → just w v ≡ true → w ≡ v
just_is w v e =
    let same : number_of w ≡ number_of v = eqb-true (number_of w) (number_of v) e in
    let both : Some w ≡ Some v = sym (terminal_back w) ∙ ap (λ n. terminal_number all_terminals n) same ∙ terminal_back v in
    cc

pub just_iff : (w v : Terminal) (b : Bool) → (b ≡ true → w ≡ v) → (w ≡ v → b ≡ true) → b ≡ just w v
just_iff w v true to from = sym (subst (λ z. just w z ≡ true) (to refl) (just_self w))
just_iff w v false to from = go (just w v) refl
  where
    go : (x : Bool) → just w v ≡ x → false ≡ just w v
    go false e = sym e
    go true e = absurd (let p : false ≡ true = from (just_is w v e) in cc)
