-- How the first block of a number is found.
use Rattle.std.proofs.Common.{◌≡◌, ◌<◌, ◌≤◌, ℕ, ◌+◌, List, [], ◌∷◌, ◌++◌, length, get_or, drop, cond, Bool, true, false, nat_eq, Option, Some, None, is_some, option_copied, Bor, refl, sym, ap, ◌∙◌, subst, true≢false}
use Rattle.std.specs.List.{All}
use Rattle.std.proofs.lemmas.List.Elements.{All-cons, All-head, All-nil, All-tail}
use Rattle.std.proofs.lemmas.Bool.{eq-eqb, ne_eqb}
use Rattle.vt_tree.specs.declared.statement.Block.{Block, out-Block}
use Rattle.vt_tree.specs.Parts.{Part, called, opened, Context, Walk, Site, blocks_of, each, in_block, sites_of}
use Rattle.vt_check.specs.private.Finding.{block_with, Finds}
use Rattle.vt_check.specs.Allowed.{IsSound}
use Rattle.vt_check.proofs.JudgingLemmas.{drop_item, drop_past, sites_of-append}

blocks_of-append : (a b : List Part) → blocks_of (a ++ b) ≡ blocks_of a ++ blocks_of b
blocks_of-append [] b = refl
blocks_of-append (called s ∷ a) b = blocks_of-append a b
blocks_of-append (opened k ∷ a) b = ap (λ rest. k ∷ rest) (blocks_of-append a b)

-- the calls of a prefix, and of what follows it
sound_prefix : (a b : List Site) → All IsSound (a ++ b) → All IsSound a
sound_prefix [] b h = All-nil IsSound
sound_prefix (x ∷ a) b h = All-cons IsSound x a (All-head IsSound x (a ++ b) h) (sound_prefix a b (All-tail IsSound x (a ++ b) h))

sound_back : (a b : List Site) → All IsSound (a ++ b) → All IsSound b
sound_back [] b h = h
sound_back (x ∷ a) b h = sound_back a b (All-tail IsSound x (a ++ b) h)

split_sites : (a b : List Part) → All IsSound (sites_of (a ++ b)) → All IsSound (sites_of a ++ sites_of b)
split_sites a b h = subst (λ sites. All IsSound sites) (sites_of-append a b) h

cond_some : (t : Bool) (k x : Block) (o o' : Option Block) → (o ≡ Some x → o' ≡ Some x) → cond t (Some k) o ≡ Some x → cond t (Some k) o' ≡ Some x
cond_some true k x o o' h e = e
cond_some false k x o o' h e = h e

cond_none : (t : Bool) (k : Block) (o o' r : Option Block) → (o ≡ None → o' ≡ r) → cond t (Some k) o ≡ None → cond t (Some k) o' ≡ r
cond_none true k o o' r h e = cc
cond_none false k o o' r h e = h e

with_some : (n : ℕ) (x : Block) (a b : List Block) → block_with n a ≡ Some x → block_with n (a ++ b) ≡ Some x
with_some n x [] b e = cc
with_some n x (k ∷ a) b e = cond_some (nat_eq (out-Block k).number n) k x (block_with n a) (block_with n (a ++ b)) (with_some n x a b) e

with_none : (n : ℕ) (a b : List Block) → block_with n a ≡ None → block_with n (a ++ b) ≡ block_with n b
with_none n [] b e = refl
with_none n (k ∷ a) b e = cond_none (nat_eq (out-Block k).number n) k (block_with n a) (block_with n (a ++ b)) (block_with n b) (with_none n a b) e

-- the same parts
pub finds_by : {n : ℕ} {walk : Walk} {o : Option Block} (walk' : Walk) → ((p : Context) → walk p ≡ walk' p) → Finds n walk' o → Finds n walk o
finds_by {n} walk' e h = record { by = λ p. h.by p ∙ ap (λ parts. block_with n (blocks_of parts)) (sym (e p)); sound = λ p a. h.sound p (subst (λ parts. All IsSound (sites_of parts)) (e p) a) }

-- the same in other contexts
pub finds_at : {n : ℕ} {walk : Walk} {o : Option Block} (move : Context → Context) → Finds n walk o → Finds n (λ p. walk (move p)) o
finds_at move h = record { by = λ p. h.by (move p); sound = λ p a. h.sound (move p) a }

pub finds_nothing : (n : ℕ) → Finds n (λ p. []) None
finds_nothing n = record { by = λ p. refl; sound = λ p a. tt }

pub finds_first : {n : ℕ} {f : Walk} {x : Block} (g : Walk) → Finds n f (Some x) → Finds n (λ p. f p ++ g p) (Some x)
finds_first {n} {f} {x} g h = record { by = λ p. sym (ap (block_with n) (blocks_of-append (f p) (g p)) ∙ with_some n x (blocks_of (f p)) (blocks_of (g p)) (sym (h.by p))); sound = λ p a. h.sound p (sound_prefix (sites_of (f p)) (sites_of (g p)) (split_sites (f p) (g p) a)) }

pub finds_then : {n : ℕ} {f g : Walk} {o : Option Block} → Finds n f None → Finds n g o → Finds n (λ p. f p ++ g p) o
finds_then {n} {f} {g} h k = record { by = λ p. k.by p ∙ sym (ap (block_with n) (blocks_of-append (f p) (g p)) ∙ with_none n (blocks_of (f p)) (blocks_of (g p)) (sym (h.by p))); sound = λ p a. k.sound p (sound_back (sites_of (f p)) (sites_of (g p)) (split_sites (f p) (g p) a)) }

some_of : (o : Option (Bor Block)) → is_some o ≡ true → (x : Block) × (option_copied o ≡ Some x)
some_of None e = absurd (true≢false (sym e))
some_of (Some x) e = (x.now, refl)

none_of : (o : Option (Bor Block)) → is_some o ≡ false → option_copied o ≡ None
none_of None e = refl
none_of (Some x) e = absurd (true≢false e)

-- a block that is found
pub finds_some : {n : ℕ} {f : Walk} (g : Walk) (o : Option (Bor Block)) → is_some o ≡ true → Finds n f (option_copied o) → Finds n (λ p. f p ++ g p) (option_copied o)
finds_some {n} {f} g o e h = let x = some_of o e in subst (λ r. Finds n (λ p. f p ++ g p) r) (sym x.1) (finds_first g (subst (λ r. Finds n f r) x.1 h))

-- none
pub finds_none : {n : ℕ} {f : Walk} (o : Option (Bor Block)) → is_some o ≡ false → Finds n f (option_copied o) → Finds n f None
finds_none {n} {f} o e h = subst (λ r. Finds n f r) (none_of o e) h

-- what is left of a list, after those where nothing was found
pub record Left {X : Type 0} (n : ℕ) (f : X → Walk) (xs : List X) (i : ℕ) : Type 0 where
  pub by : (o : Option Block) → Finds n (each f (drop i xs)) o → Finds n (each f xs) o

pub left_all : {X : Type 0} (n : ℕ) (f : X → Walk) (xs : List X) → Left n f xs 0
left_all n f xs = record { by = λ o h. h }

pub left_next : {X : Type 0} (n : ℕ) (f : X → Walk) (xs : List X) (i : ℕ) (x : X) → Left n f xs i → i < length xs → x ≡ get_or xs i x → Finds n (f x) None → Left n f xs (i + 1)
left_next n f xs i x left lt is h = record { by = λ o k. left.by o (finds_by (λ p. f x p ++ each f (drop (i + 1) xs) p) (λ p. ap (λ ys. each f ys p) (drop_item xs i x lt is)) (finds_then h k)) }

pub left_finds : {X : Type 0} (n : ℕ) (f : X → Walk) (xs : List X) (i : ℕ) (x : X) (o : Option (Bor Block)) → Left n f xs i → i < length xs → x ≡ get_or xs i x → is_some o ≡ true → Finds n (f x) (option_copied o) → Finds n (each f xs) (option_copied o)
left_finds n f xs i x o left lt is e h = left.by (option_copied o) (finds_by (λ p. f x p ++ each f (drop (i + 1) xs) p) (λ p. ap (λ ys. each f ys p) (drop_item xs i x lt is)) (finds_some (each f (drop (i + 1) xs)) o e h))

pub left_none : {X : Type 0} (n : ℕ) (f : X → Walk) (xs : List X) (i : ℕ) → Left n f xs i → length xs ≤ i → Finds n (each f xs) None
left_none n f xs i left le = left.by None (finds_by (λ p. []) (λ p. ap (λ ys. each f ys p) (drop_past xs i le)) (finds_nothing n))

-- a block of this number, and a block of another
pub finds_here : (n : ℕ) (k : Block) → (out-Block k).number ≡ n → Finds n (λ p. opened k ∷ in_block k p) (Some k)
finds_here n k e = record {
  by = λ p. sym (ap (λ t. cond t (Some k) (block_with n (blocks_of (in_block k p)))) (eq-eqb (out-Block k).number n e));
  sound = λ p a. record { context = p; sound = a };
}

pub finds_other : {n : ℕ} {k : Block} {inner : Walk} {o : Option Block} → ((out-Block k).number ≡ n → ⊥) → Finds n inner o → Finds n (λ p. opened k ∷ inner p) o
finds_other {n} {k} {inner} {o} e h = record { by = λ p. h.by p ∙ sym (ap (λ t. cond t (Some k) (block_with n (blocks_of (inner p)))) (ne_eqb (out-Block k).number n e)); sound = λ p a. h.sound p a }

-- a call is no block
pub finds_called : {n : ℕ} {inner : Walk} {o : Option Block} (site : Context → Site) → Finds n inner o → Finds n (λ p. called (site p) ∷ inner p) o
finds_called {inner = inner} site h = record { by = λ p. h.by p; sound = λ p a. h.sound p (All-tail IsSound (site p) (sites_of (inner p)) a) }

-- in an equal thing
pub finds_of : {n : ℕ} {X : Type 0} (f : X → Walk) {x y : X} {o : Option Block} → x ≡ y → Finds n (f x) o → Finds n (f y) o
finds_of {n} f {o = o} e h = subst (λ z. Finds n (f z) o) e h
