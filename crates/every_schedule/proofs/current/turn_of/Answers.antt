use Rattle.std.proofs.Common.{refl, sym, subst}
use Rattle.std.specs.Prelude.{List}
use Rattle.every_schedule.specs.declared.turns.Turned.{Turned}
use Rattle.every_schedule.specs.Private.Turning.{AreTurned, reply_of}
use Rattle.every_schedule.proofs.Knowing.{known_more}
use Rattle.every_schedule.proofs.Turning.{found_moved, turned_added, turned_more}
use Rattle.every_schedule.proofs.current.turn_of.Goals as goal

pub returns-in-Some-clause-turned : goal.returns-in-Some-clause-turned
returns-in-Some-clause-turned c =
    found_moved c.args.states.now.fibers.items.items c.args.states.now.turns.kept.items c.args.state c.args.said (reply_of c.args.said) c.in-Some.turn
    refl c.requires.turns c.in-Some.ensures

pub know_all-requires : goal.know_all-requires
know_all-requires c =
    known_more c.args.states.now.fibers.items.items c.made.new.pool.items.items c.args.states.now.known.items c.made.ensures.more c.requires.known

pub returns-in_err-turn-clause-turns : goal.returns-in_err-turn-clause-turns
returns-in_err-turn-clause-turns c =
    turned_more c.args.states.now.fibers.items.items c.made.new.pool.items.items c.args.states.now.turns.kept.items c.made.ensures.more c.requires.turns

pub returns-in_err-turn-clause-known : goal.returns-in_err-turn-clause-known
returns-in_err-turn-clause-known c =
    known_more c.args.states.now.fibers.items.items c.made.new.pool.items.items c.args.states.now.known.items c.made.ensures.more c.requires.known

pub returns-in_err-know_all-clause-turns : goal.returns-in_err-know_all-clause-turns
returns-in_err-know_all-clause-turns c =
    turned_more c.args.states.now.fibers.items.items c.made.new.pool.items.items c.args.states.now.turns.kept.items c.made.ensures.more c.requires.turns

pub returns-in_err-add-clause-turns : goal.returns-in_err-add-clause-turns
returns-in_err-add-clause-turns c =
    subst (λ (l : List Turned). AreTurned c.made.new.pool.items.items l) (sym c.in_err-add.ensures.same)
    (turned_more c.args.states.now.fibers.items.items c.made.new.pool.items.items c.args.states.now.turns.kept.items c.made.ensures.more c.requires.turns)

pub returns-clause-turns : goal.returns-clause-turns
returns-clause-turns c =
    let fs = c.args.states.now.fibers.items.items in
    let gs = c.made.new.pool.items.items in
    let ts = c.args.states.now.turns.kept.items in
    subst (λ (l : List Turned). AreTurned gs l) (sym c.in_ok-add.ensures.added)
    (turned_added gs ts _ c.in_ok-turn.ensures.turned (turned_more fs gs ts c.made.ensures.more c.requires.turns))
