use Rattle.std.proofs.Common.{◌≡◌, ◌++◌, ◌-◌, ℕ, List, codes, decimal, ap, ◌∙◌, append-nil}
use Rattle.vt_gen.specs.Session.{as_line}
use Rattle.vt_gen.proofs.LineLemmas.{four_written}
use Rattle.vt_gen.proofs.lines.write_follower.Goals as goal

pub returns : goal.returns
returns c =
    let first : ℕ → List ℕ = λ (n : ℕ). as_line (codes "live_loop :l" ++ decimal n ++ codes " do") in
    let second : ℕ → List ℕ = λ (n : ℕ). as_line (codes "  sync :l" ++ decimal n) in
    let third : ℕ → List ℕ = λ (n : ℕ). as_line (codes "  play get(:s" ++ decimal n ++ codes ")") in
    let before : c.saturating_sub-before.result ≡ c.args.number - 1 = c.saturating_sub-before.ensures in
    four_written c.write_end.result
    c.args.text.now.items c.write_numbered.new.text.items c.write_numbered-2.new.text.items c.write_numbered-3.new.text.items c.write_end.new.text.items
    (first c.args.number) (second (c.args.number - 1)) (third (c.args.number - 1)) (as_line (codes "end"))
    c.in_ok-write_numbered.ensures
    (c.in_ok-write_numbered-2.ensures
    ∙ ap (λ (line : List ℕ). c.write_numbered.new.text.items ++ as_line line) (append-nil (codes "  sync :l" ++ decimal c.saturating_sub-before.result))
    ∙ ap (λ (n : ℕ). c.write_numbered.new.text.items ++ second n) before)
    (c.in_ok-write_numbered-3.ensures ∙ ap (λ (n : ℕ). c.write_numbered-2.new.text.items ++ third n) before)
    c.write_end.ensures
