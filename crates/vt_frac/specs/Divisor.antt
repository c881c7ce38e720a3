-- The greatest common divisor of two numbers without bound.
use Rattle.std.specs.Prelude.{ℕ, zero, suc, ◌%◌}

-- Euclid's rule, for at most so many steps: gcd a 0 = a, and gcd a b = gcd b (a mod b)
abbrev pub gcd_within : ℕ → ℕ → ℕ → ℕ
gcd_within zero a b = a
gcd_within (suc steps) a zero = a
gcd_within (suc steps) a (suc b) = gcd_within steps (suc b) (a % suc b)

-- The greatest number that divides both, and 0 for 0 and 0 (Euclid, Elements, book 7). Each step makes the second number smaller, so it takes at most as many as that number.
unfoldable pub gcd : ℕ → ℕ → ℕ
gcd a b = gcd_within b a b
