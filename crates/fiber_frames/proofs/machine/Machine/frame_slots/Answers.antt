use Rattle.fiber_frames.proofs.Prelude.{◌≡◌, ℕ, ◌+◌, List, pos, sym, subst, CoreWord, Tree, rest_of, tree_at, EnvEntry, Frame, close, env_of, step_of}
use Rattle.fiber_frames.proofs.Prelude.{In_guarded, In_handle, In_let, In_seq, Names}
use Rattle.derived_ops.specs.Tree as tree
use Rattle.fiber_frames.proofs.SlotSets.{names_ap}
use Rattle.fiber_frames.proofs.machine.Machine.frame_slots.Goals as goal

abbrev Named : ℕ → List CoreWord → ℕ → Frame → Type 0
Named slots ws own f = Names slots (λ (es : List EnvEntry). step_of ws es own f)

-- of the words that the table has
at : (ws vs : List CoreWord) (r i level n : ℕ) → ws ≡ vs → Names r (λ (es : List EnvEntry). close (env_of es level) (tree_at ws i n)) →
    Names r (λ (es : List EnvEntry). close (env_of es level) (tree_at vs i n))
at ws vs r i level n same h = subst (λ (l : List CoreWord). Names r (λ (es : List EnvEntry). close (env_of es level) (tree_at l i n))) same h

pub returns-in-Again : goal.returns-in-Again
returns-in-Again c = subst (Named c.slots-in-Again.result c.args.self.now.words.value c.args.self.now.own) (sym c.in-Again.is)
    (names_ap (λ (t : Tree). In_seq tree.Last (tree.Loop (tree.Times (tree.Number (pos c.in-Again.field-1))) t)) _ _ (at _ _ _ _ _ _ c.deref-in-Again.ensures (c.slots-in-Again.ensures (c.in-Again.level))))

pub returns-in-Let : goal.returns-in-Let
returns-in-Let c = subst (Named c.slots.result c.args.self.now.words.value c.args.self.now.own) (sym c.in-Let.is)
    (names_ap (In_let c.in-Let.level) _ _ (at _ _ _ _ _ _ c.deref.ensures (c.slots.ensures (c.in-Let.level + 1))))

pub returns-in-Seq : goal.returns-in-Seq
returns-in-Seq c = subst (Named c.slots-in-Seq.result c.args.self.now.words.value c.args.self.now.own) (sym c.in-Seq.is)
    (names_ap (In_seq (rest_of c.in-Seq.field-0)) _ _ (at _ _ _ _ _ _ c.deref-in-Seq.ensures (c.slots-in-Seq.ensures (c.in-Seq.level))))

pub returns-in-Forever : goal.returns-in-Forever
returns-in-Forever c = subst (Named c.slots-in-Forever.result c.args.self.now.words.value c.args.self.now.own) (sym c.in-Forever.is)
    (names_ap (In_seq tree.Last) _ _ (at _ _ _ _ _ _ c.deref-in-Forever.ensures (c.slots-in-Forever.ensures (c.in-Forever.level))))

pub returns-in-Handle : goal.returns-in-Handle
returns-in-Handle c = subst (Named c.slots-in-Handle.result c.args.self.now.words.value c.args.self.now.own) (sym c.in-Handle.is)
    (names_ap (In_handle c.in-Handle.level) _ _ (at _ _ _ _ _ _ c.deref-in-Handle.ensures (c.slots-in-Handle.ensures (c.in-Handle.level + 1))))

pub returns-in-Guarded : goal.returns-in-Guarded
returns-in-Guarded c = subst (Named c.slots-in-Guarded.result c.args.self.now.words.value c.args.self.now.own) (sym c.in-Guarded.is)
    (names_ap In_guarded _ _ (at _ _ _ _ _ _ c.deref-in-Guarded.ensures (c.slots-in-Guarded.ensures (c.in-Guarded.level))))
