use Rattle.std.proofs.Common.{sym, ◌∙◌}
use Rattle.reasons.proofs.Told.{at_place, past_it}
use Rattle.reasons.proofs.text_reasons.refused_reasons.Goals as goal

pub returns-in-Some : goal.returns-in-Some
returns-in-Some c =
    at_place c.args.text.now c.in-Parse.error c.in-Some.place c.args.refused c.in-Parse.is c.requires (sym c.place_of.ensures ∙ c.in-Some.is)
    c.place_reasons.result c.place_reasons.ensures

pub returns-in-Term : goal.returns-in-Term
returns-in-Term c =
    past_it c.args.text.now c.in-Term.error c.args.refused c.in-Term.is c.requires c.limit_reasons.result c.limit_reasons.ensures.told
    c.limit_reasons.ensures.memory
