use Rattle.std.proofs.Common.{◌≡◌, ◌≤◌, ◌++◌, ◌∙◌, Ok, ap, sym, subst, length}
use Rattle.term_parse.{specs.{Atoms.atoms_of, Reading.reading, Spelling.canonical}, proofs.{ParseLaws.one_term, RoundTrip.reading-canonical}}
use Rattle.term_parse.proofs.SpelledLaws.{spelled-from_reading}
use Rattle.term_parse.proofs.printer.print.Goals as goal

pub returns-clause-parsed : goal.returns-clause-parsed
returns-clause-parsed c = λ kinded deep short.
    let same : c.write_term.new.out.items ≡ canonical c.args.term.now =
    c.in_ok-write_term.ensures.text ∙ ap (λ xs. xs ++ canonical c.args.term.now) c.new-text.ensures.items in
    let fits : length (canonical c.args.term.now) ≤ 65536 = subst (λ xs. length xs ≤ 65536) same short in
    subst (λ xs. reading xs ≡ Ok (atoms_of c.args.term.now)) (sym same) (reading-canonical c.args.term.now kinded c.in_ok-write_term.ensures.numbers deep fits)

pub returns-clause-read_back : goal.returns-clause-read_back
returns-clause-read_back c =
    λ kinded deep short. spelled-from_reading c.write_term.new.out.items (atoms_of c.args.term.now) (returns-clause-parsed c kinded deep short)

pub returns-clause-same_term : goal.returns-clause-same_term
returns-clause-same_term c = λ kinded deep short u h. one_term c.write_term.new.out.items c.args.term.now u (returns-clause-parsed c kinded deep short) h
