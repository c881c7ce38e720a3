-- What a loop of reads and a loop of writes did to known bytes.
use Rattle.std.proofs.Common.{◌≡◌, ℕ, ◌+◌, ◌-◌, ◌≤◌, List, [], ◌++◌, Option, None, Some, IfSome, length, take, drop, sym, ap, ◌∙◌, subst, append-nil, length-drop, take_all}
use Rattle.std.proofs.Math.Seq.{take-length, take-add, take-append_seam, drop-append_seam}
use Rattle.std.proofs.Math.ListN.{drop_of_length-le}
use Rattle.std.specs.Io.KnownBytes.{Consumes, Appends, IsAtEnd}
use Rattle.std.proofs.KnownBytes.{Consumes-trans, Appends-trans}
use Rattle.vt_cli.specs.Reading.{ReadsNoFurther, limit}

-- at the end, what is gone is all there was
whole : (xs bs ys : List ℕ) → xs ≡ bs ++ ys → ys ≡ [] → xs ≡ bs
whole xs bs ys e none = e ∙ ap (λ l. bs ++ l) none ∙ append-nil bs

pub read-end : (n : ℕ) (a b : Option (List ℕ)) (bs : List ℕ) → Consumes a b bs → IsAtEnd b → length bs ≤ n → IfSome a (λ input. bs ≡ take n input)
read-end n None b bs gone end short = tt
read-end n (Some x) None bs gone end short = absurd gone
read-end n (Some x) (Some y) bs gone end short =
    let same : x ≡ bs = whole x bs y gone end in
    sym (take_all n bs short) ∙ ap (take n) (sym same)

pub rest-end : (n : ℕ) (a b : Option (List ℕ)) (bs : List ℕ) → Consumes a b bs → IsAtEnd b → length bs ≤ n → IfSome a (λ input. b ≡ Some (drop n input))
rest-end n None b bs gone end short = tt
rest-end n (Some x) None bs gone end short = absurd gone
rest-end n (Some x) (Some y) bs gone end short =
    let same : x ≡ bs = whole x bs y gone end in
    ap Some (end ∙ sym (drop_of_length-le bs short) ∙ ap (drop n) (sym same))

pub read-full : (n : ℕ) (a b : Option (List ℕ)) (bs : List ℕ) → Consumes a b bs → length bs ≡ n → IfSome a (λ input. bs ≡ take n input)
read-full n None b bs gone full = tt
read-full n (Some x) None bs gone full = absurd gone
read-full n (Some x) (Some y) bs gone full =
    sym (ap (take n) gone ∙ ap (λ k. take k (bs ++ y)) (sym full) ∙ take-append_seam bs y)

pub rest-full : (n : ℕ) (a b : Option (List ℕ)) (bs : List ℕ) → Consumes a b bs → length bs ≡ n → IfSome a (λ input. b ≡ Some (drop n input))
rest-full n None b bs gone full = tt
rest-full n (Some x) None bs gone full = absurd gone
rest-full n (Some x) (Some y) bs gone full =
    ap Some (sym (ap (drop n) gone ∙ ap (λ k. drop k (bs ++ y)) (sym full) ∙ drop-append_seam bs y))

pub no-further : (a b : Option (List ℕ)) (bs : List ℕ) → Consumes a b bs → length bs ≤ limit + 1 → IfSome a (λ input. ReadsNoFurther input b)
no-further None b bs gone short = tt
no-further (Some x) None bs gone short = absurd gone
no-further (Some x) (Some y) bs gone short = (length bs, short, ap Some (sym (ap (drop (length bs)) gone ∙ drop-append_seam bs y)))

-- nothing more is gone
pub gone-none : (a b c : Option (List ℕ)) (bs buf : List ℕ) (n : ℕ) → Consumes a b bs → Consumes b c (take n buf) → n ≡ 0 → Consumes a c bs
gone-none a b c bs buf n first second none =
    subst (Consumes a c) (ap (λ k. bs ++ take k buf) none ∙ append-nil bs) (Consumes-trans a b c bs (take n buf) first second)

tail-whole : (n : ℕ) (xs : List ℕ) → take (length xs - n) (drop n xs) ≡ drop n xs
tail-whole n xs = ap (λ m. take m (drop n xs)) (sym (length-drop n xs)) ∙ take-length (drop n xs)

-- one write more
pub given-more : (a b c : Option (List ℕ)) (text : List ℕ) (at n : ℕ) → Appends a b (take at text) → Appends b c (take n (take (length text - at) (drop at text)))
    → Appends a c (take (at + n) text)
given-more a b c text at n first second =
    subst (Appends a c) (ap (λ xs. take at text ++ take n xs) (tail-whole at text) ∙ sym (take-add at n text)) (Appends-trans a b c _ _ first second)
