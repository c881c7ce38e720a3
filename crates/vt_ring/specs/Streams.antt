-- A random stream at a call. The project's own.
use Rattle.std.specs.Prelude.{ℕ, zero, suc, ◌+◌}
use Rattle.vt_rand.specs.Draw.{RandomStream, after_draws}
use Rattle.vt_rand.specs.Word.{word}

-- the words of a stream from where it stands: word 0 is the next one
abbrev pub words_from : RandomStream → ℕ → ℕ
words_from stream k = word stream.seed (stream.drawn + k)

-- the stream after n more words; after none it is as it was
abbrev pub moved_on : ℕ → RandomStream → RandomStream
moved_on zero stream = stream
moved_on (suc n) stream = after_draws (suc n) stream
