use Rattle.control_word.proofs.Sums.{masks}
use Rattle.control_word.proofs.amounts.mask_amount.Goals as goal

pub returns : goal.returns
returns c = record { law = masks }
