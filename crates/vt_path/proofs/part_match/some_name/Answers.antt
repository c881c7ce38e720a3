use Rattle.std.proofs.Common.{◌≡◌, ◌+◌, length, refl, true, false, sym, ◌∙◌, ap}
use Rattle.vt_path.specs.private.Marks.{mark}
use Rattle.vt_path.proofs.MarkLemmas.{prefix_is, name_found, names_more, no_name}
use Rattle.vt_path.proofs.part_match.some_name.Goals as goal
use Rattle.vt_path.proofs.part_match.some_name.Goals.{else-starts_with-via-then-starts_with+else-marks-i, else-starts_with-via-else-starts_with}

pub returns-then-marks-i : goal.returns-then-marks-i
returns-then-marks-i c = (
  λ _. name_found c.args.names.now c.args.bytes.now c.args.marks.now c.args.i c.loop-name.name-index (length c.as_bytes-then-starts_with.result.now) c.name-item.result c.as_bytes.result.now c.starts_with.result
      c.loop-name-test.true c.name-item.is c.as_bytes.ensures c.starts_with.ensures.value c.if-starts_with.true (ap length c.as_bytes-then-starts_with.ensures) c.if-marks-i.true,
  λ _. refl,
)

pub loop-name-preserved : goal.loop-name-preserved
loop-name-preserved c =
    names_more c.args.names.now c.args.bytes.now c.args.marks.now c.args.i c.loop-name.name-index c.name-item.result c.loop-name-test.true c.name-item.is c.loop-name.invariant
    (λ rest e m.
    let found = (prefix_is c.args.bytes.now c.args.i c.name-item.result c.as_bytes.result.now c.starts_with.result c.as_bytes.ensures c.starts_with.ensures.value).1 rest e in
    elim c.else-starts_with.branch [
      | else-starts_with-via-then-starts_with+else-marks-i w ↦
          (let off = w.if-marks-i.false in let z : true ≡ false = sym m ∙ (ap (λ n. mark c.args.marks.now (c.args.i + n)) (sym (ap length w.as_bytes-then-starts_with.ensures)) ∙ off) in cc)
      | else-starts_with-via-else-starts_with w ↦ (let never = w.if-starts_with.false in let z : true ≡ false = sym found ∙ never in cc)
    ])

pub returns : goal.returns
returns c = (
  λ e. absurd (let z : false ≡ true = e in cc),
  λ s. absurd (no_name c.args.names.now c.args.bytes.now c.args.marks.now c.args.i c.loop-name.name-index c.loop-name-test.false c.loop-name.invariant s),
)
