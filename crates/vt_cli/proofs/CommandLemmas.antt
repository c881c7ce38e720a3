-- Options and commands, as they are read.
use Rattle.std.proofs.Common.{◌≡◌, ℕ, ◌^◌, ◌≤◌, ◌<◌, List, [], ◌∷◌, ◌++◌, Option, None, Some, Err, refl, sym, ap, arith, append_assoc}
use Rattle.std.proofs.Math.Nat.{pow-le-pow_right}
use Rattle.vt_cli.specs.declared.words.WordsFault.{WordsFault}
use Rattle.vt_cli.specs.declared.words.WordsFault.TheVariants.{Usage, NoMemory}
use Rattle.vt_cli.specs.Commands.{gen_of_words}
use Rattle.vt_cli.specs.Options.{Written, and_option}
use Rattle.vt_cli.specs.private.Pairs.{AreOptionsRead, IsCommandRead}

-- Where options are read off one by one

-- options that are read, and then the rest
abbrev pub behind : List Written → Option (List Written) → Option (List Written)
behind front None = None
behind front (Some more) = Some (front ++ more)

pub behind-none : (o : Option (List Written)) → o ≡ behind [] o
behind-none None = refl
behind-none (Some more) = refl

pub behind-one : (front : List Written) (option : Written) (o : Option (List Written)) → behind front (and_option option o) ≡ behind (front ++ option ∷ []) o
behind-one front option None = refl
behind-one front option (Some more) = ap Some (sym (append_assoc front (option ∷ []) more))

-- what is known of options that are not read
pub gen-unread : (o : Option (List Written)) (e : WordsFault) → AreOptionsRead o (Err e) → IsCommandRead (gen_of_words o) (Err e)
gen-unread o Usage h = ap gen_of_words h
gen-unread o NoMemory h = tt

pub tens-few : (i : ℕ) → i < 20 → 10 ^ i ≤ 10 ^ 19
tens-few i h = pow-le-pow_right {n = 10} (omega arith) {i = i} {j = 19} (omega (arith, h))
