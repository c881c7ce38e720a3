-- A greater bound only adds steps, and only past the bound.
use Rattle.std.proofs.Common.{◌≡◌, ◌≤◌, ℕ, suc, List, ◌∷◌, ◌++◌, length, take, Option, Some, None, refl, sym, ap, ◌∙◌, subst, arith, append_assoc, length-append}
use Rattle.std.proofs.lemmas.List.{take-append-le}
use Rattle.vt_run.specs.Evaluation.{Left, Next, Ran, Step, after, goes_on, halts, step}

-- the shorter run stopped for the bound: the longer one begins with it, and it has at least n steps
pub record IsCut (n : ℕ) (a b : Ran) : Type 0 where
  pub nothing : a.left ≡ None
  pub more : List Step
  pub prefix : b.steps ≡ a.steps ++ more
  pub long : n ≤ length a.steps

-- under the greater bound the run is the same, or it goes on where the shorter one stopped
pub data Grows (n : ℕ) (a b : Ran) : Type 0 where
  same : a ≡ b → Grows n a b
  cut : IsCut n a b → Grows n a b

pub less : {n m : ℕ} {a b : Ran} → m ≤ n → Grows n a b → Grows m a b
less le (same e) = same e
less le (cut c) = cut (record { nothing = c.nothing; more = c.more; prefix = c.prefix; long = omega arith })

pub step_grows : {n : ℕ} {a b : Ran} (s : Step) → Grows n a b → Grows (suc n) (step s a) (step s b)
step_grows s (same e) = same (ap (step s) e)
step_grows s (cut c) = cut (record { nothing = c.nothing; more = c.more; prefix = ap (λ l. s ∷ l) c.prefix; long = omega (arith, c.long) })

pub halts_grow : (b : Ran) → Grows 0 halts b
halts_grow b = cut (record { nothing = refl; more = b.steps; prefix = refl; long = omega arith })

goes_on_grows : (n : ℕ) (s : List Step) (left : Option Left) (k k' : Next) → ((l : Left) → left ≡ Some l → Grows n (k l.value l.state) (k' l.value l.state)) → Grows n (goes_on s left k) (goes_on s left k')
goes_on_grows n s None k k' h = same refl
goes_on_grows n s (Some l) k k' h = go (h l refl)
  where
    go : Grows n (k l.value l.state) (k' l.value l.state) → Grows n (goes_on s (Some l) k) (goes_on s (Some l) k')
    go (same e) = same (ap (λ (r : Ran). goes_on s (Some l) (λ _ _. r)) e)
    go (cut c) = cut (record { nothing = c.nothing; more = c.more; prefix = ap (λ t. s ++ t) c.prefix ∙ sym (append_assoc s _ c.more); long = omega (arith, c.long, length-append s (k l.value l.state).steps) })

-- a run that stopped, whatever comes after
stopped_grows : (n : ℕ) (s t : List Step) (left left' : Option Left) (k k' : Next) → left ≡ None → (more : List Step) → t ≡ s ++ more → n ≤ length s → Grows n (goes_on s left k) (goes_on t left' k')
stopped_grows n s t None None k k' e more f long = cut (record { nothing = refl; more = more; prefix = f; long = long })
stopped_grows n s t None (Some r) k k' e more f long =
    cut (record { nothing = refl; more = more ++ (k' r.value r.state).steps; prefix = ap (λ x. x ++ (k' r.value r.state).steps) f ∙ append_assoc s more _; long = long })
stopped_grows n s t (Some r) left' k k' e more f long = cc

pub after_grows : {n : ℕ} (a b : Ran) (k k' : Next) → Grows n a b → ((l : Left) → a.left ≡ Some l → Grows n (k l.value l.state) (k' l.value l.state)) → Grows n (after a k) (after b k')
after_grows {n} a b k k' (same e) h = subst (λ x. Grows n (after a k) (after x k')) e (goes_on_grows n a.steps a.left k k' h)
after_grows {n} a b k k' (cut c) h = stopped_grows n a.steps b.steps a.left b.left k k' c.nothing c.more c.prefix c.long

-- the first n steps are the same
pub prefix_same : {n : ℕ} {a b : Ran} → Grows n a b → take n a.steps ≡ take n b.steps
prefix_same {n} (same e) = ap (λ (r : Ran). take n r.steps) e
prefix_same {n} {a} (cut c) = sym (ap (take n) c.prefix ∙ take-append-le n a.steps c.more c.long)
