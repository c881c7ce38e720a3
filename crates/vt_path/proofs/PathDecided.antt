-- Which bytes are a path can be told, and so the path of bytes is a function.
use Rattle.std.specs.Prelude.{◌≡◌, ◌↔◌, ℕ, List, ◌∷◌, length, Option, Some, None}
use Rattle.std.specs.List.{All}
use Rattle.vt_path.specs.Byte.{IsPathByte}
use Rattle.vt_frac.proofs.Decision.{Decision, holds, fails, both, one_of, alike, is_same, is_at_most}
use Rattle.vt_path.specs.Path.{IsPath, IsPathText, IsSegment, path_text}
use Rattle.vt_path.proofs.TextsDecided.{is_between, is_filled, are_all, is_begun, IsTextOf, are_texts}

pub path_byte_decided : (b : ℕ) → Decision (IsPathByte b)
unfolding IsPathByte
path_byte_decided b =
    one_of (is_between 48 b 58) (one_of (is_between 65 b 90) (one_of (is_between 97 b 122) (one_of (is_same b 95) (one_of (is_same b 46) (is_same b 45)))))

pub path_bytes_decided : (bytes : List ℕ) → Decision (All IsPathByte bytes)
path_bytes_decided bytes = are_all IsPathByte path_byte_decided bytes

segment_decided : (bytes : List ℕ) → Decision (IsSegment bytes)
segment_decided bytes =
    alike
    (λ p. record { nonempty = p.0; short = p.1.0; bytes = p.1.1 })
    (λ s. (s.nonempty, (s.short, s.bytes)))
    (both (is_filled bytes) (both (is_at_most (length bytes) 64) (path_bytes_decided bytes)))

-- a slash and a segment
slashed : (bytes : List ℕ) → Decision (IsTextOf IsSegment (λ segment. 47 ∷ segment) bytes)
slashed bytes =
    alike
    (λ h. record { value = h.rest; good = h.fact; written = h.whole })
    (λ h. record { rest = h.value; whole = h.written; fact = h.good })
    (is_begun 47 IsSegment segment_decided bytes)

pub path_decided : (bytes : List ℕ) → Decision (IsPathText bytes)
path_decided bytes =
    alike
    (λ h. (h.values, record { nonempty = h.some; few = h.few; segments = h.good }, h.written))
    (λ p. record { values = p.0; some = p.1.nonempty; few = p.1.few; good = p.1.segments; written = p.2 })
    (are_texts IsSegment (λ segment. 47 ∷ segment) slashed 16 bytes)

abbrev pub path_by : (bytes : List ℕ) → Decision (IsPathText bytes) → Option (List (List ℕ))
path_by bytes (holds (path, good, written)) = Some path
path_by bytes (fails none) = None

-- the path that the bytes are, if they are one
unfoldable pub path_of : List ℕ → Option (List (List ℕ))
path_of bytes = path_by bytes (path_decided bytes)

-- it is a path exactly where the bytes are that path as it is written
abbrev pub IsPathWhereWritten : Type 0
IsPathWhereWritten = (bytes : List ℕ) (path : List (List ℕ)) → (path_of bytes ≡ Some path) ↔ (IsPath path × (bytes ≡ path_text path))

-- it is none exactly where the bytes are no path
abbrev pub IsNoneWhereNoPath : Type 0
IsNoneWhereNoPath = (bytes : List ℕ) → (path_of bytes ≡ None) ↔ (IsPathText bytes → ⊥)
