use Rattle.model_runs.proofs.moments.look.Goals as goal

pub returns-then-is_empty : goal.returns-then-is_empty
returns-then-is_empty g c = c.nothing_found.ensures _ _ _
