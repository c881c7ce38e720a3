use Rattle.std.proofs.Common.{◌≡◌, [], length, sym}
use Rattle.std.proofs.lemmas.Bool.{eqb-true}
use Rattle.std.proofs.lemmas.List.{nil_from_length}
use Rattle.vt_session.specs.private.Standing.{standing_of}
use Rattle.vt_session.proofs.FormLemmas.{if_ok}
use Rattle.vt_session.proofs.ReadLemmas.{reads_inputs, reads_none, reads_refused, reads_session, reads_taken, reads_whole}
use Rattle.vt_session.proofs.reader.read_session.Goals as goal

pub lines-init : goal.lines-init
lines-init c = reads_none c.args.bytes.now (standing_of c.new-reader.result) c.new-reader.ensures

pub read_line-requires-clause-inputs : goal.read_line-requires-clause-inputs
read_line-requires-clause-inputs c = reads_inputs c.args.bytes.now c.lines.left.now (standing_of c.lines.reader) c.lines.invariant

pub returns-in-Err-clause-refused : goal.returns-in-Err-clause-refused
returns-in-Err-clause-refused c =
    reads_refused c.args.bytes.now c.lines.left.now c.split_line.result.0.now c.split_line.result.1.now (standing_of c.lines.reader) (standing_of c.read_line.new.self) c.lines.invariant c.split_line.ensures.first c.in-Err.fault
    (c.in-Err.ensures c.lines.invariant.what c.lines.invariant.holds)

pub lines-preserved : goal.lines-preserved
lines-preserved c =
    reads_taken c.args.bytes.now c.lines.left.now c.split_line.result.0.now c.split_line.result.1.now (standing_of c.lines.reader) (standing_of c.read_line.new.self) c.lines.invariant
    c.split_line.ensures.first c.split_line.ensures.sizes c.split_line.ensures.some tt (c.in-Ok.ensures c.lines.invariant.what c.lines.invariant.holds)

pub finish-requires : goal.finish-requires
finish-requires c =
    let none : c.lines.left.now ≡ [] = nil_from_length c.lines.left.now (eqb-true (length c.lines.left.now) 0 (sym c.lines-test.ensures)) in
    reads_whole c.args.bytes.now c.lines.left.now (standing_of c.lines.reader) c.lines.invariant none c.requires

pub returns-clause-session : goal.returns-clause-session
returns-clause-session c =
    let none : c.lines.left.now ≡ [] = nil_from_length c.lines.left.now (eqb-true (length c.lines.left.now) 0 (sym c.lines-test.ensures)) in
    if_ok c.finish.result _ _ c.finish.ensures.ok (λ session h. reads_session c.args.bytes.now c.lines.left.now (standing_of c.lines.reader) c.lines.invariant none session h)
