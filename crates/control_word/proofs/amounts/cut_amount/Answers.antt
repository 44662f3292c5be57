use Rattle.control_word.proofs.Sums.{cuts}
use Rattle.control_word.proofs.amounts.cut_amount.Goals as goal

pub returns : goal.returns
returns c = record { law = cuts }
