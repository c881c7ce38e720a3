use Rattle.std.proofs.Common.{◌≡◌, ◌∙◌, ℕ, ◌+◌, ◌%◌, ◌^◌, List, ◌++◌, ap, arith}
use Rattle.std.specs.List.{flat_map}
use Rattle.vt_rand.specs.Draw.{RandomStream}
use Rattle.vt_rand.specs.Word.{word}
use Rattle.vt_gen.specs.Session.{as_line, beats_line, loop_lines}
use Rattle.vt_gen.proofs.LineLemmas.{text_more, text_none}
use Rattle.vt_gen.proofs.sessions.session_text.Goals as goal

pub loop-i-preserved : goal.loop-i-preserved
loop-i-preserved c =
    let w : c.word.result ≡ word c.args.seed c.loop-i.i =
    c.word.ensures.value ∙ ap (λ (s : ℕ). word s c.loop-i.stream.drawn) c.loop-i.invariant.seed ∙ ap (word c.args.seed) c.loop-i.invariant.drawn in
    let drawn : c.word.new.self.drawn ≡ (c.loop-i.stream.drawn + 1) % 2 ^ 64 = ap (λ (s : RandomStream). s.drawn) c.word.ensures.drawn in
    record {
      so_far = c.in_ok-write_loop.ensures
          ∙ ap (λ (text : List ℕ). text ++ flat_map as_line (loop_lines (c.loop-i.i + 1) c.word.result)) c.loop-i.invariant.so_far
          ∙ text_more c.args.seed c.loop-i.i c.args.beats c.word.result w;
      seed = ap (λ (s : RandomStream). s.seed) c.word.ensures.drawn ∙ c.loop-i.invariant.seed;
      drawn = omega (arith, c.loop-i.invariant.drawn);
    }

pub loop-i-init : goal.loop-i-init
loop-i-init c = record {
  so_far = c.in_ok-write_beats.ensures ∙ ap (λ (text : List ℕ). text ++ as_line (beats_line c.args.beats)) c.new-text.ensures.items ∙ text_none c.args.seed c.args.beats;
  seed = ap (λ (s : RandomStream). s.seed) c.from_seed-stream.ensures;
  drawn = ap (λ (s : RandomStream). s.drawn) c.from_seed-stream.ensures;
}
