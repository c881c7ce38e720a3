use Rattle.std.proofs.Common.{◌∙◌, arith}
use Rattle.indexmap.specs.Layout.{length-set_value_at}
use Rattle.vt_index.proofs.EntryLemmas.{cut_end, cut_step}
use Rattle.vt_index.proofs.grow.cut_rows.Goals as goal

pub loop-index-preserved : goal.loop-index-preserved
loop-index-preserved c = record {
  length = length-set_value_at c.loop-index.rows.entries c.loop-index.index c.cut_row.new.row ∙ c.loop-index.invariant.length;
  cut = λ events n less rows.
      cut_step c.loop-index.rows.entries c.loop-index.index c.args.from c.index_mut.result.now c.cut_row.new.row
      (omega (arith, c.loop-index-test.true, c.len-index-end.ensures.len, c.loop-index.invariant.length)) c.index_mut.ensures.value c.cut_row.ensures events n less
      (c.loop-index.invariant.cut events n less rows);
}

pub returns : goal.returns
returns c = λ events n less rows.
    cut_end events c.args.from n c.loop-index.index c.loop-index.rows.entries (omega (arith, c.loop-index-test.false, c.len-index-end.ensures.len, c.loop-index.invariant.length))
    (c.loop-index.invariant.cut events n less rows)
