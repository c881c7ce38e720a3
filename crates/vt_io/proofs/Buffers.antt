-- What a read that copied bytes into a buffer did to the bytes that are left.
use Rattle.std.proofs.Common.{◌≡◌, ◌≤◌, ◌<◌, ◌+◌, ◌-◌, ◌++◌, ◌∙◌, ap, sym, ℕ, List, [], take, drop, length, min, Result, Ok, Err, IfOk, arith}
use Rattle.std.proofs.Math.ListN.{drop_of_length-le}
use Rattle.std.proofs.Math.Seq.{take-append_seam}
use Rattle.std.specs.Io.{ReadsAtMost}
use Rattle.std.proofs.lemmas.List.{drop-append-le, drop-drop, length-drop, length-take-le, take-append-drop}

-- the prefix of a buffer is what was copied there
pub take-copied : (source copied rest : List ℕ) (n : ℕ) → copied ≡ take n source → n ≤ length source → take n (copied ++ rest) ≡ take n source
take-copied source copied rest n c f =
    let long : length copied ≡ n = ap length c ∙ length-take-le n source f in
    ap (λ k. take k (copied ++ rest)) (sym long) ∙ take-append_seam copied rest ∙ c

-- the bytes that are left are the copied ones and then the rest
pub left-copied : (items copied rest : List ℕ) (at n : ℕ) → copied ≡ take n (drop at items) → n ≤ length items - at → drop at items ≡ take n (copied ++ rest) ++ drop (at + n) items
left-copied items copied rest at n c f =
    let room : n ≤ length (drop at items) = omega (arith, length-drop at items) in
    sym (ap (λ xs. xs ++ drop (at + n) items) (take-copied (drop at items) copied rest n c room)
    ∙ ap (λ xs. take n (drop at items) ++ xs) (sym (drop-drop n at items))
    ∙ take-append-drop n (drop at items))

-- where no byte is copied into a buffer that is not empty, none is left
pub left-none_copied : (items : List ℕ) (at n room : ℕ) → n ≡ min room (length items - at) → at ≤ length items → n ≡ 0 → 0 < room → drop (at + n) items ≡ []
left-none_copied items at n room e within none some = drop_of_length-le items (omega arith)

-- where a read into the prefix of a buffer left alone what lies past its bytes, it left alone what lies past them in the
-- whole buffer
pub beyond_prefix : {E : Type 0} (buf prefix : List ℕ) (most : ℕ) (r : Result ℕ E) → length prefix ≡ length (take most buf) → ReadsAtMost r prefix → IfOk r (λ n. drop n prefix ≡ drop n (take most buf)) → IfOk r (λ n. drop n (prefix ++ drop most buf) ≡ drop n buf)
beyond_prefix buf prefix most (Ok n) l b e =
    drop-append-le n prefix (drop most buf) b.0
    ∙ ap (λ xs. xs ++ drop most buf) e
    ∙ sym (drop-append-le n (take most buf) (drop most buf) (omega (arith, b.0, l)))
    ∙ ap (λ xs. drop n xs) (take-append-drop most buf)
beyond_prefix buf prefix most (Err e) l b f = tt
