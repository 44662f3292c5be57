use Rattle.std.proofs.Common.{◌≡◌, subst, rules}
use Rattle.term_parse.{specs.{Forms.Adds, OpenForms.innermost}, proofs.OpenStacks.open_closes}
use Rattle.term_parse.specs.declared.form.ReadPart.TheVariants as pieces
use Rattle.term_parse.proofs.reader.resume.Goals as goal

pub returns : goal.returns
returns c = λ text at o h l w.
    let t = c.truncate.new.self.items in
    let b = c.in-Some.outer in
    let g = c.with_piece.new.form in
    let same : c.deref_mut-2.result.now ≡ b.value = search rules in
    let part : c.deref-2.result.now.next ≡ b.value.next = search rules in
    let added = subst (λ n. Adds (innermost t c.deref_mut-2.result.now) (pieces.Term c.in_ok-term.term) n
    (innermost t g)) part
    (c.in_ok-with_piece.ensures t) in (
      open_closes text at c.args.next c.args.stack.now.scope.items t c.args.stack.now.form.value g b
          c.args.stack.now.around.items c.pop.new.self.items c.in_ok-term.term o c.in-Some.ensures.items h (search rules)
          (search rules) (subst (λ x. Adds (innermost t x) (pieces.Term c.in_ok-term.term) b.value.next
          (innermost t g)) same added)
          l w,
      l,
    )
