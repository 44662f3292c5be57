-- Histories: lists of calls with their callers and replies, in order.
use Rattle.std.specs.Prelude.{◌≡◌, ℕ, ◌<◌, ◌==◌, List, [], ◌∷◌}
use Rattle.std.specs.List.{filter}
use Rattle.cell_registry.specs.declared.limits.Limits.{Limits}
use Rattle.cell_registry.specs.declared.call.Entry.{Entry}
use Rattle.cell_registry.specs.Cells.{Cells, opening, after, reply_of, IsAccepted}

-- the caller was started, its call is accepted, and the reply is that of the registry
pub record MayFollow (k : Limits) (s : Cells) (e : Entry) : Type 0 where
  pub born : e.by < s.next_fiber
  pub accepted : IsAccepted k s e.by e.call
  pub replied : e.reply ≡ reply_of s e.by e.call

abbrev pub left_from : Cells → List Entry → Cells
left_from s [] = s
left_from s (e ∷ es) = left_from (after s e.by e.call) es

abbrev pub IsLegalFrom : Limits → Cells → List Entry → Type 0
IsLegalFrom k s [] = Unit {0}
IsLegalFrom k s (e ∷ es) = MayFollow k s e × IsLegalFrom k (after s e.by e.call) es

-- the registry after a history
unfoldable pub left : Limits → List Entry → Cells
left k h = left_from (opening k) h

-- a legal history: one that a single thread could have made
unfoldable pub IsLegal : Limits → List Entry → Type 0
IsLegal k h = IsLegalFrom k (opening k) h

-- the calls of one fiber, in order
abbrev pub calls_by : ℕ → List Entry → List Entry
calls_by f h = filter (λ e. e.by == f) h
