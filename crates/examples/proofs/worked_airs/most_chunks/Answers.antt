use lib.Count.{count_leading_zeros}
use Rattle.examples.proofs.worked_airs.most_chunks.Goals as goal

pub returns : goal.returns
unfolding count_leading_zeros
returns c = c.get_log_num_quotient_chunks.ensures.value
