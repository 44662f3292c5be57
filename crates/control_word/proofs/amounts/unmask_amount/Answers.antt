use Rattle.control_word.proofs.Sums.{unmasks}
use Rattle.control_word.proofs.amounts.unmask_amount.Goals as goal

pub returns : goal.returns
returns c = record { law = unmasks }
