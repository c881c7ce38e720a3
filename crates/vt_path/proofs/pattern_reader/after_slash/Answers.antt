use Rattle.std.proofs.Common.{ℕ, ◌+◌, ◌≤◌, List, ◌∷◌, length, arith, take}
use Rattle.vt_path.specs.Pattern.{IsPattern, pattern_text}
use Rattle.vt_path.specs.private.PatternReading.{Reading, GoesOnTo, IsSound, reading}
use Rattle.vt_path.proofs.Prefixes.{Reads, Reads-next, stops_at_next, stops_after_all, text_after_all, place_bound}
use Rattle.vt_path.proofs.PatternEnds.{pattern_opens, pattern_begins, length-pattern_text, takes_yes, takes_no, ends_yes, ends_no}
use Rattle.vt_path.proofs.pattern_reader.after_slash.Goals as goal

bound : (r : Reading) (bytes : List ℕ) (i : ℕ) → IsSound r → i ≤ length bytes → Reads IsPattern pattern_text (GoesOnTo r) (47 ∷ take i bytes) → i + 1 ≤ 1040
bound r bytes i sound less reads = place_bound IsPattern pattern_text (GoesOnTo r) bytes i 1040 less length-pattern_text reads (pattern_opens r sound)

pub loop-i-init : goal.loop-i-init
loop-i-init c = record {
  sound = c.new-reader.ensures.sound;
  reads = pattern_begins (reading c.new-reader.result) c.new-reader.ensures.position c.new-reader.ensures.done c.new-reader.ensures.parts;
}

pub takes-requires : goal.takes-requires
takes-requires c = c.loop-i.invariant.sound

pub overflow_cast-result : goal.overflow_cast-result
overflow_cast-result c = let h = bound (reading c.loop-i.reader) c.args.rest.now c.loop-i.i c.loop-i.invariant.sound (omega arith) c.loop-i.invariant.reads in omega arith

pub overflow_add-result : goal.overflow_add-result
overflow_add-result c = let h = bound (reading c.loop-i.reader) c.args.rest.now c.loop-i.i c.loop-i.invariant.sound (omega arith) c.loop-i.invariant.reads in omega arith

pub returns-then-not-taken-clause-refused : goal.returns-then-not-taken-clause-refused
returns-then-not-taken-clause-refused c =
    stops_at_next IsPattern pattern_text (GoesOnTo (reading c.loop-i.reader)) c.args.rest.now c.loop-i.i (omega arith) c.loop-i.invariant.reads
    (pattern_opens (reading c.loop-i.reader) c.loop-i.invariant.sound)
    (takes_no (reading c.loop-i.reader) _ (reading c.takes.new.self) _ c.if-not-taken.true c.in_ok-taken.ensures)

pub loop-i-preserved : goal.loop-i-preserved
loop-i-preserved c =
    let s = takes_yes (reading c.loop-i.reader) _ (reading c.takes.new.self) _ c.if-not-taken.false c.in_ok-taken.ensures in
    record {
      sound = s.sound;
      reads = Reads-next IsPattern pattern_text (GoesOnTo (reading c.loop-i.reader)) (GoesOnTo (reading c.takes.new.self)) c.args.rest.now c.loop-i.i (omega arith) c.loop-i.invariant.reads s.on s.back;
    }

pub pattern-requires : goal.pattern-requires
pattern-requires c = c.loop-i.invariant.sound

pub overflow_cast-result-in-None : goal.overflow_cast-result-in-None
overflow_cast-result-in-None c = let h = bound (reading c.loop-i.reader) c.args.rest.now c.loop-i.i c.loop-i.invariant.sound (omega arith) c.loop-i.invariant.reads in omega arith

pub overflow_add-result-in-None : goal.overflow_add-result-in-None
overflow_add-result-in-None c = let h = bound (reading c.loop-i.reader) c.args.rest.now c.loop-i.i c.loop-i.invariant.sound (omega arith) c.loop-i.invariant.reads in omega arith

pub returns-in-Some-clause-pattern : goal.returns-in-Some-clause-pattern
returns-in-Some-clause-pattern c = (ends_yes (reading c.loop-i.reader) _ c.in-Some.pattern c.in-Some.is c.in_ok-pattern.ensures).0

pub returns-in-Some-clause-written : goal.returns-in-Some-clause-written
returns-in-Some-clause-written c =
    text_after_all IsPattern pattern_text (GoesOnTo (reading c.loop-i.reader)) c.args.rest.now c.loop-i.i c.in-Some.pattern (omega arith) c.loop-i.invariant.reads
    (ends_yes (reading c.loop-i.reader) _ c.in-Some.pattern c.in-Some.is c.in_ok-pattern.ensures).1

pub returns-in-None-clause-refused : goal.returns-in-None-clause-refused
returns-in-None-clause-refused c =
    stops_after_all IsPattern pattern_text (GoesOnTo (reading c.loop-i.reader)) c.args.rest.now c.loop-i.i (omega arith) c.loop-i.invariant.reads
    (pattern_opens (reading c.loop-i.reader) c.loop-i.invariant.sound)
    (ends_no (reading c.loop-i.reader) _ c.in-None.is c.in_ok-pattern.ensures)
