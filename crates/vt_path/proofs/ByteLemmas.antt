use Rattle.std.proofs.Common.{◌≡◌, ℕ, ◌⊎◌, inl, inr, arith}
use Rattle.vt_path.specs.Byte.{IsPathByte}

-- the bytes that have a meaning of their own in a path or a pattern are no path bytes
pub not_path_byte : (b : ℕ) → (b ≡ 47) ⊎ (b ≡ 33) ⊎ (b ≡ 42) ⊎ (b ≡ 63) ⊎ (b ≡ 91) ⊎ (b ≡ 93) ⊎ (b ≡ 123) ⊎ (b ≡ 125) ⊎ (b ≡ 44) → IsPathByte b → ⊥
unfolding IsPathByte
not_path_byte b e (inl h) = omega arith
not_path_byte b e (inr (inl h)) = omega arith
not_path_byte b e (inr (inr (inl h))) = omega arith
not_path_byte b e (inr (inr (inr (inl h)))) = omega arith
not_path_byte b e (inr (inr (inr (inr (inl h))))) = omega arith
not_path_byte b e (inr (inr (inr (inr (inr h))))) = omega arith

pub no_slash : (b : ℕ) → b ≡ 47 → IsPathByte b → ⊥
no_slash b e = not_path_byte b (inl e)

pub no_star : (b : ℕ) → b ≡ 42 → IsPathByte b → ⊥
no_star b e = not_path_byte b (inr (inr (inl e)))

pub no_mark : (b : ℕ) → b ≡ 63 → IsPathByte b → ⊥
no_mark b e = not_path_byte b (inr (inr (inr (inl e))))

pub no_bracket : (b : ℕ) → b ≡ 91 → IsPathByte b → ⊥
no_bracket b e = not_path_byte b (inr (inr (inr (inr (inl e)))))

pub no_closing_bracket : (b : ℕ) → b ≡ 93 → IsPathByte b → ⊥
no_closing_bracket b e = not_path_byte b (inr (inr (inr (inr (inr (inl e))))))

pub no_brace : (b : ℕ) → b ≡ 123 → IsPathByte b → ⊥
no_brace b e = not_path_byte b (inr (inr (inr (inr (inr (inr (inl e)))))))

pub no_closing_brace : (b : ℕ) → b ≡ 125 → IsPathByte b → ⊥
no_closing_brace b e = not_path_byte b (inr (inr (inr (inr (inr (inr (inr (inl e))))))))

pub no_comma : (b : ℕ) → b ≡ 44 → IsPathByte b → ⊥
no_comma b e = not_path_byte b (inr (inr (inr (inr (inr (inr (inr (inr e))))))))
