-- The laws of reading between points, put together.
use Rattle.curve.specs.Lines.{between_start, between_end, between_from, between_to, between_mono}
use Rattle.curve.specs.Runs.{reads_between, reads_past, reads_mono, reads_low, reads_high}
use Rattle.curve.specs.Laws.{LineLaws, RunLaws}

pub line_laws : LineLaws
line_laws = record { exact_at_first = between_start; exact_at_last = between_end; not_below = between_from; not_above = between_to; never_falls = between_mono }

pub run_laws : RunLaws
run_laws = record { line_between = reads_between; stays_after = reads_past; never_falls = reads_mono; not_quicker = reads_low; not_slower = reads_high }
