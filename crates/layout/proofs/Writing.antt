-- One text written after another.
use Rattle.std.proofs.Common.{ℕ, ◌+◌, ◌≤◌, List, [], ◌++◌, length, refl, ap, ◌∙◌, arith}
use Rattle.std.proofs.lemmas.List.{length-append}
use Rattle.numeral.proofs.Written.{length_written, written_none, written_on}
use Rattle.layout.specs.declared.writer.Writer.{Writer}
use Rattle.layout.specs.Writing.{HasRoom, Wrote}

pub wrote_none : (w : Writer) → Wrote w w []
wrote_none w = record { ends_after = omega arith; writes_alone = written_none w.at w.buffer.now; same_buffer = refl }

module _ (a b : Writer) (s t : List ℕ) (room : a.at + length s + length t ≤ length a.buffer.now) (first : Wrote a b s) where
  pub room_after : HasRoom b t
  room_after = omega (arith, first.ends_after, ap length first.writes_alone ∙ length_written a.at s a.buffer.now (omega (arith, room)), room)

  pub wrote_more : (c : Writer) → Wrote b c t → Wrote a c (s ++ t)
  wrote_more c second =
      record {
        ends_after = omega (arith, first.ends_after, second.ends_after, length-append s t);
        writes_alone = written_on a.at s t a.buffer.now _ _ _ first.writes_alone first.ends_after second.writes_alone room;
        same_buffer = second.same_buffer ∙ first.same_buffer;
      }
