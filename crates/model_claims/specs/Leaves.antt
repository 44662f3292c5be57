-- The truth of single words of a condition at one answer.
use Rattle.std.specs.Prelude.{◌&&◌, ◌||◌, ◌==◌, not, ℕ, ℤ, Bool, true, false, List, [], ◌∷◌, Option, Some, None, slice_range, codes, int_lt}
use Rattle.std.specs.List.{list_all, list_any, slice_get}
use Rattle.std.specs.Option.{is_some}
use Rattle.std.specs.Ordering.{int_eq}
use Rattle.std.specs.Str.{bytes_eq}
use Rattle.std.specs.Cmp.Lexicographic.{pointwise}
use Rattle.effect_term.specs.declared.reply.Outcome.{Outcome}
use Rattle.effect_term.specs.declared.reply.Outcome.TheVariants as outcomes
use Rattle.model_forms.specs.declared.form.Form.{Form}
use Rattle.model_terms.specs.declared.source.Source.{Source}
use Rattle.model_claims.specs.declared.answer.FiberName.{FiberName}
use Rattle.model_claims.specs.declared.answer.FiberName.TheVariants as names
use Rattle.model_claims.specs.declared.answer.SeenFiber.{SeenFiber}
use Rattle.model_claims.specs.declared.answer.Seen.{Seen}
use Rattle.model_claims.specs.declared.condition.Comparison.{Comparison}
use Rattle.model_claims.specs.declared.condition.Comparison.TheVariants as comparisons
use Rattle.model_claims.specs.declared.condition.Wanted.{Wanted}
use Rattle.model_claims.specs.declared.condition.Wanted.TheVariants as ways
use Rattle.model_claims.specs.declared.condition.Who.{Who}
use Rattle.model_claims.specs.declared.condition.Who.TheVariants as whos

-- ---- ways to end
abbrev pub wants_none : Wanted → Bool
wants_none ways.Unended = true
wants_none _ = false

abbrev pub wants_value : Wanted → ℤ → Bool
wants_value ways.Succeeded v = true
wants_value (ways.SucceededWith w) v = int_eq w v
wants_value _ v = false

abbrev pub wants_error : Wanted → ℤ → Bool
wants_error ways.Errored c = true
wants_error (ways.ErroredWith w) c = int_eq w c
wants_error _ c = false

abbrev pub wants_cut : Wanted → Bool
wants_cut ways.Canceled = true
wants_cut _ = false

abbrev pub wants_outcome : Wanted → Outcome → Bool
wants_outcome w (outcomes.Succeeded v) = wants_value w v
wants_outcome w (outcomes.Errored c) = wants_error w c
wants_outcome w outcomes.Canceled = wants_cut w

-- whether a fiber ended in a wanted way: with that value, with any value, with that code, with any code, by a
-- cancelation, or not at all
abbrev pub is_wanted : Wanted → Option Outcome → Bool
is_wanted w None = wants_none w
is_wanted w (Some o) = wants_outcome w o

-- ---- the fibers that a condition is about
abbrev pub bytes_of : List ℕ → Option Form → List ℕ
bytes_of text None = []
bytes_of text (Some f) = slice_range text f.start f.end

-- the bytes of the form with this number
abbrev pub spelling : Source → ℕ → List ℕ
spelling source at = bytes_of source.text.items (slice_get source.file.forms.items at)

abbrev pub is_number : Option ℕ → ℕ → Bool
is_number None n = false
is_number (Some m) n = m == n

-- whether a condition about these fibers is about a fiber of this name and, if it is in a row, of this number
abbrev pub has_name : Source → Who → List ℕ → Option ℕ → Bool
has_name source whos.Everyone name number = true
has_name source whos.Main name number = false
has_name source (whos.Named start end) name number = bytes_eq (slice_range source.text.items start end) name
has_name source (whos.OneOf start end n) name number =
    is_number number n && bytes_eq (slice_range source.text.items start end) name

abbrev pub has_main : Who → Bool
has_main whos.Everyone = true
has_main whos.Main = true
has_main (whos.Named start end) = false
has_main (whos.OneOf start end n) = false

-- whether a condition about these fibers is about the fibers of this name. `main` is fiber 0. A name means each fiber
-- that was started by it, or each fiber of its row. No condition is about a fiber that the file doesn't name
abbrev pub speaks_of : Source → Who → FiberName → Bool
speaks_of source who names.Main = has_main who
speaks_of source who (names.Word form) = has_name source who (spelling source form) None
speaks_of source who (names.Row form n) = has_name source who (spelling source form) (Some n)
speaks_of source who names.Left = has_name source who (codes "left") None
speaks_of source who names.Right = has_name source who (codes "right") None
speaks_of source who names.Watcher = false
speaks_of source who names.Hidden = false

-- ---- how fibers ended
-- whether a fiber has ended, or isn't one of these fibers
abbrev pub is_ended : Source → Who → SeenFiber → Bool
is_ended source who f = not (speaks_of source who f.name) || is_some f.outcome

-- whether each of these fibers has ended
abbrev pub have_ended : Source → Seen → Who → Bool
have_ended source seen who = list_all (λ f. is_ended source who f) seen.fibers.items

-- whether a fiber ended in one of these ways
abbrev pub is_one_of : List Wanted → Option Outcome → Bool
is_one_of wanted outcome = list_any (λ w. is_wanted w outcome) wanted

-- whether a fiber ended in one of these ways, or isn't one of these fibers
abbrev pub ends_so : Source → Who → List Wanted → SeenFiber → Bool
ends_so source who wanted f = not (speaks_of source who f.name) || is_one_of wanted f.outcome

-- whether each of these fibers ended in one of these ways
abbrev pub end_so : Source → Seen → Who → List Wanted → Bool
end_so source seen who wanted = list_all (λ f. ends_so source who wanted f) seen.fibers.items

-- ---- what fibers said
-- the values that a fiber said, in their order
abbrev pub says_of : Seen → SeenFiber → List ℤ
says_of seen f = slice_range seen.says.items f.says_from f.says_to

abbrev pub has_value : List ℤ → ℤ → Bool
has_value said v = list_any (λ w. int_eq w v) said

-- whether each of these values was said
abbrev pub has_said : List ℤ → List ℤ → Bool
has_said said values = list_all (λ v. has_value said v) values

abbrev pub said_all : Source → Seen → Who → List ℤ → SeenFiber → Bool
said_all source seen who values f = speaks_of source who f.name && has_said (says_of seen f) values

-- whether one of these fibers said each of these values
abbrev pub one_said : Source → Seen → Who → List ℤ → Bool
one_said source seen who values = list_any (λ f. said_all source seen who values f) seen.fibers.items

abbrev pub says_so : Source → Seen → Who → List ℤ → SeenFiber → Bool
says_so source seen who values f = not (speaks_of source who f.name) || pointwise int_eq (says_of seen f) values

-- whether each of these fibers said exactly these values, in this order
abbrev pub all_say : Source → Seen → Who → List ℤ → Bool
all_say source seen who values = list_all (λ f. says_so source seen who values f) seen.fibers.items

-- ---- the value of a ref
abbrev pub compare : Comparison → ℤ → ℤ → Bool
compare comparisons.Equal held number = int_eq held number
compare comparisons.Unequal held number = not (int_eq held number)
compare comparisons.Below held number = int_lt held number
compare comparisons.AtMost held number = not (int_lt number held)
compare comparisons.Above held number = int_lt number held
compare comparisons.AtLeast held number = not (int_lt held number)

-- whether a comparison of the value that a ref held with a number holds; false if the value isn't known
abbrev pub compare_held : Comparison → Option ℤ → ℤ → Bool
compare_held comparison None number = false
compare_held comparison (Some held) number = compare comparison held number
