use Rattle.rows.specs.Rows.{laid_back}
use Rattle.rows.proofs.rows_stand.Goals as goal

pub returns : goal.returns
returns c = record { laid_out_reads_back = laid_back }
