use Rattle.fiber_frames.proofs.Prelude.{◌≡◌, sym, ap, ◌∙◌, inl, inr, Done, Fiber, move_case, row_of, ask_in, case_of, fiber_in, state_of}
use Rattle.fiber_frames.proofs.CallsAndKinds.{ask_row, case_is}
use Rattle.fiber_frames.proofs.machine.Machine.wanted.Goals as goal

pub returns-in-Looks : goal.returns-in-Looks
returns-in-Looks c =
    let m = c.args.self.now in
    ap (ask_in (fiber_in m)) (sym (case_is (state_of m) m.look c.requires ∙ sym c.next_case.ensures ∙ ap case_of c.in-Looks.is))

pub returns-in-Cuts : goal.returns-in-Cuts
returns-in-Cuts c =
    let m = c.args.self.now in
    ap (ask_in (fiber_in m)) (sym (case_is (state_of m) m.look c.requires ∙ sym c.next_case.ensures ∙ ap case_of c.in-Cuts.is))

pub returns-in-Reduces : goal.returns-in-Reduces
returns-in-Reduces c =
    let m = c.args.self.now in
    let f : Fiber = fiber_in m in
    let k : case_of c.next_case.result ≡ move_case f = c.next_case.ensures ∙ sym (case_is (state_of m) m.look c.requires) in
    let a : c.row_ask.result ≡ (row_of f Done).call = c.row_ask.ensures ∙ sym (ask_row (state_of m) m.look Done c.requires) in
    elim c.in-Reduces.is [ inl e ↦ a ∙ ap (ask_in f) (sym (ap case_of e) ∙ k) | inr e ↦ a ∙ ap (ask_in f) (sym (ap case_of e) ∙ k) ]
