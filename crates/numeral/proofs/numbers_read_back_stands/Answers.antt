use Rattle.numeral.proofs.Back.{reads_what_is_written, writes_what_is_read}
use Rattle.numeral.proofs.numbers_read_back_stands.Goals as goal

pub returns : goal.returns
returns c = record { reads_what_is_written = reads_what_is_written; writes_what_is_read = writes_what_is_read }
