use Rattle.std.proofs.Common.{◌++◌, ℕ, List, codes, decimal, ap, ◌∙◌}
use Rattle.vt_gen.specs.Session.{as_line, eighths, lowest_note}
use Rattle.vt_gen.proofs.LineLemmas.{five_written}
use Rattle.vt_gen.proofs.lines.write_player.Goals as goal

pub returns : goal.returns
returns c =
    let first : ℕ → List ℕ = λ (n : ℕ). as_line (codes "live_loop :l" ++ decimal n ++ codes " do") in
    let second : ℕ → List ℕ = λ (n : ℕ). as_line (codes "  play " ++ decimal n ++ codes " + rand_i(12)") in
    let third : ℕ → List ℕ = λ (n : ℕ). as_line (codes "  set :s" ++ decimal n ++ codes ", tick") in
    let fourth : ℕ → List ℕ = λ (n : ℕ). as_line (codes "  sleep " ++ decimal n ++ codes " * 0.125") in
    five_written c.write_end.result
    c.args.text.now.items c.write_numbered.new.text.items c.write_numbered-2.new.text.items c.write_numbered-3.new.text.items c.write_numbered-4.new.text.items c.write_end.new.text.items
    (first c.args.number) (second (lowest_note c.args.word)) (third c.args.number) (fourth (eighths c.args.word)) (as_line (codes "end"))
    c.in_ok-write_numbered.ensures
    (c.in_ok-write_numbered-2.ensures ∙ ap (λ (n : ℕ). c.write_numbered.new.text.items ++ second n) c.lowest_note.ensures)
    c.in_ok-write_numbered-3.ensures
    (c.in_ok-write_numbered-4.ensures ∙ ap (λ (n : ℕ). c.write_numbered-3.new.text.items ++ fourth n) c.eighths.ensures)
    c.write_end.ensures
