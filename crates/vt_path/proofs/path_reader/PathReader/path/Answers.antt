use Rattle.std.proofs.Common.{◌≡◌, [], arith}
use Rattle.std.proofs.lemmas.List.{nil_from_length}
use Rattle.vt_path.proofs.PathReadsOn.{ends_none, ends_some}
use Rattle.vt_path.proofs.KeptLemmas.{kept_path}
use Rattle.vt_path.proofs.path_reader.PathReader.path.Goals as goal

pub returns-then-is_empty : goal.returns-then-is_empty
returns-then-is_empty c = let e : c.args.self.bytes.items ≡ [] = nil_from_length _ (grind arith) in rw e (ends_none _)

pub returns : goal.returns
returns c = rw (c.in_ok-push.ensures.items, c.in_ok-of.ensures, c.as_slice.ensures.value) (ends_some _ _ c.requires (grind arith))

pub invariant_of-result : goal.invariant_of-result
invariant_of-result c =
    rw (c.in_ok-push.ensures.items, c.in_ok-of.ensures, c.as_slice.ensures.value) (kept_path _ (ends_some _ _ c.requires (grind arith)).0)
