-- A reply of the registry is of the kind that the ask wants.
use Rattle.std.proofs.Common.{◌≡◌, ◌≢◌, ℕ, subst}
use Rattle.fiber_frames.specs.{declared.ask.Ask.Ask, Answers.Answers}
use Rattle.cell_registry.specs.{declared.call.Call.Call, Cells.{Cells, reply_of}}
use Rattle.scheduled_core.specs.{declared.wish.Wish.TheVariants.{Shared, Alone}, Core.wish_of}
use Rattle.effect_term.specs.declared.reply.Reply.TheVariants as reply
use Rattle.fiber_frames.specs.declared.ask.Ask.TheVariants as ask
use Rattle.cell_registry.specs.declared.call.Call.TheVariants as call

pub called_answers : (s : Cells) (i n : ℕ) (a : Ask) (c : Call) → wish_of a ≡ Shared c → c ≢ call.Start → Answers n a (reply_of s i c)
unfolding reply_of
called_answers s i n ask.Look c h other = subst (λ (x : Call). Answers n ask.Look (reply_of s i x)) (let e : call.Look ≡ c = cc in e) tt
called_answers s i n ask.Cut c h other = subst (λ (x : Call). Answers n ask.Cut (reply_of s i x)) (let e : call.Cut ≡ c = cc in e) tt
called_answers s i n ask.Mask c h other = subst (λ (x : Call). Answers n ask.Mask (reply_of s i x)) (let e : call.Mask ≡ c = cc in e) tt
called_answers s i n ask.Unmask c h other = subst (λ (x : Call). Answers n ask.Unmask (reply_of s i x)) (let e : call.Unmask ≡ c = cc in e) tt
called_answers s i n (ask.Finish o) c h other = subst (λ (x : Call). Answers n (ask.Finish o) (reply_of s i x)) (let e : call.Finish o ≡ c = cc in e) tt
called_answers s i n (ask.Cancel f) c h other = subst (λ (x : Call). Answers n (ask.Cancel f) (reply_of s i x)) (let e : call.Cancel f ≡ c = cc in e) tt
called_answers s i n (ask.Join f) c h other = subst (λ (x : Call). Answers n (ask.Join f) (reply_of s i x)) (let e : call.Join f ≡ c = cc in e) tt
called_answers s i n ask.Start c h other = absurd (other (let e : c ≡ call.Start = cc in e))
called_answers s i n ask.NewRef c h other = subst (λ (x : Call). Answers n ask.NewRef (reply_of s i x)) (let e : call.NewRef ≡ c = cc in e) tt
called_answers s i n (ask.Get r) c h other = subst (λ (x : Call). Answers n (ask.Get r) (reply_of s i x)) (let e : call.Get r ≡ c = cc in e) tt
called_answers s i n (ask.Set r v) c h other = subst (λ (x : Call). Answers n (ask.Set r v) (reply_of s i x)) (let e : call.Set r v ≡ c = cc in e) tt
called_answers s i n (ask.Modify r v) c h other = subst (λ (x : Call). Answers n (ask.Modify r v) (reply_of s i x)) (let e : call.Modify r v ≡ c = cc in e) tt
called_answers s i n ask.NewDeferred c h other = subst (λ (x : Call). Answers n ask.NewDeferred (reply_of s i x)) (let e : call.NewDeferred ≡ c = cc in e) tt
called_answers s i n (ask.Complete d v) c h other =
    subst (λ (x : Call). Answers n (ask.Complete d v) (reply_of s i x)) (let e : call.Complete d v ≡ c = cc in e) tt
called_answers s i n (ask.Read d) c h other = subst (λ (x : Call). Answers n (ask.Read d) (reply_of s i x)) (let e : call.Read d ≡ c = cc in e) tt
called_answers s i n _ c h other = absurd (cc)

pub alone_answers : (n : ℕ) (a : Ask) → wish_of a ≡ Alone → Answers n a reply.Done
alone_answers n ask.Silent h = tt
alone_answers n ask.Cut h = tt
alone_answers n ask.Mask h = tt
alone_answers n ask.Unmask h = tt
alone_answers n (ask.Finish o) h = tt
alone_answers n (ask.Set r v) h = tt
alone_answers n _ h = absurd (cc)
