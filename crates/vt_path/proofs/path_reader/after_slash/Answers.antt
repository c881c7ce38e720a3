use Rattle.std.proofs.Common.{ℕ, ◌+◌, ◌≤◌, List, ◌∷◌, length, arith, take}
use Rattle.vt_path.specs.Path.{IsPath, path_text}
use Rattle.vt_path.specs.private.PathReading.{GoesOnTo, IsSound}
use Rattle.vt_path.proofs.Prefixes.{Reads, Reads-next, stops_at_next, stops_after_all, text_after_all, place_bound}
use Rattle.vt_path.proofs.PathReadsOn.{path_opens, length-path_text, takes_yes, takes_no, ends_yes, ends_no}
use Rattle.vt_path.proofs.path_reader.after_slash.Goals as goal

bound : {done : List (List ℕ)} {begun : List ℕ} (bytes : List ℕ) (i : ℕ) → IsSound done begun → i ≤ length bytes → Reads IsPath path_text (GoesOnTo done begun) (47 ∷ take i bytes)
    → i + 1 ≤ 1040
bound {done} {begun} bytes i sound less reads =
    place_bound IsPath path_text (GoesOnTo done begun) bytes i 1040 less length-path_text reads (path_opens done begun sound)

pub overflow_cast-result : goal.overflow_cast-result
overflow_cast-result c = let h = bound c.args.rest.now c.loop-i.i c.loop-i.invariant.sound (omega arith) c.loop-i.invariant.reads in omega arith

pub overflow_add-result : goal.overflow_add-result
overflow_add-result c = let h = bound c.args.rest.now c.loop-i.i c.loop-i.invariant.sound (omega arith) c.loop-i.invariant.reads in omega arith

pub returns-then-not-taken-clause-refused : goal.returns-then-not-taken-clause-refused
returns-then-not-taken-clause-refused c =
    stops_at_next IsPath path_text (GoesOnTo _ _) c.args.rest.now c.loop-i.i (omega arith) c.loop-i.invariant.reads (path_opens _ _ c.loop-i.invariant.sound)
    (takes_no _ _ _ _ _ _ c.if-not-taken.true c.in_ok-taken.ensures)

pub loop-i-preserved : goal.loop-i-preserved
loop-i-preserved c =
    let s = takes_yes _ _ _ _ _ _ c.if-not-taken.false c.in_ok-taken.ensures in
    record {
      sound = s.sound;
      reads = Reads-next IsPath path_text (GoesOnTo _ _) (GoesOnTo _ _) c.args.rest.now c.loop-i.i (omega arith) c.loop-i.invariant.reads s.on s.back;
    }

pub overflow_cast-result-in-None : goal.overflow_cast-result-in-None
overflow_cast-result-in-None c = let h = bound c.args.rest.now c.loop-i.i c.loop-i.invariant.sound (omega arith) c.loop-i.invariant.reads in omega arith

pub overflow_add-result-in-None : goal.overflow_add-result-in-None
overflow_add-result-in-None c = let h = bound c.args.rest.now c.loop-i.i c.loop-i.invariant.sound (omega arith) c.loop-i.invariant.reads in omega arith

pub returns-in-Some-clause-written : goal.returns-in-Some-clause-written
returns-in-Some-clause-written c =
    text_after_all IsPath path_text (GoesOnTo _ _) c.args.rest.now c.loop-i.i c.in-Some.path (omega arith) c.loop-i.invariant.reads
    (ends_yes _ _ _ _ c.in-Some.is c.in_ok-path.ensures).1

pub returns-in-None-clause-refused : goal.returns-in-None-clause-refused
returns-in-None-clause-refused c =
    stops_after_all IsPath path_text (GoesOnTo _ _) c.args.rest.now c.loop-i.i (omega arith) c.loop-i.invariant.reads (path_opens _ _ c.loop-i.invariant.sound)
    (ends_no _ _ _ c.in-None.is c.in_ok-path.ensures)
