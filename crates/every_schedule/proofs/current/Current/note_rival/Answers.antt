use Rattle.every_schedule.proofs.current.Current.note_rival.Goals as goal

pub invariant_of-self : goal.invariant_of-self
invariant_of-self c = c.self.invariant
