-- How a schedule's text is written, item by item.
use Rattle.std.proofs.Common.{◌≡◌, ◌-◌, Result, Ok, Err, ◌<◌, ◌≤◌, ℕ, List, [], ◌∷◌, ◌++◌, length, take, drop, replicate, refl, sym, ap, ◌∙◌, append_assoc}
use Rattle.std.{proofs.{Common.{append-nil, arith, subst}, lemmas.List.{length-drop, take-append-drop, take_all, Elements.All-drop}}, specs.Prelude.IfOk}
use Rattle.text_io.specs.{Schedule.{Item, IsItemOf, SpellsEntries, entries_of, fiber_of, front_of, times_of}, Reading.HasWritten}
use Rattle.text_io.proofs.ScheduleLemmas.{entries_more, front_more, good_more, text_more}

-- the entries that an item adds
added : (rest entries : List ℕ) (items : List Item) (i : Item) (times : ℕ) → entries ≡ entries_of items ++ rest → times ≡ times_of i →
    take times rest ≡ replicate times (fiber_of i) → entries ≡ entries_of (items ++ i ∷ []) ++ drop times rest
added rest entries items i times e t run =
    let parts : rest ≡ replicate (times_of i) (fiber_of i) ++ drop times rest = sym (take-append-drop times rest) ∙
    ap (λ xs. xs ++ drop times rest) (run ∙ ap (λ n. replicate n (fiber_of i)) t) in
    e ∙ ap (λ xs. entries_of items ++ xs) parts ∙ sym (append_assoc (entries_of items) (replicate (times_of i) (fiber_of i)) (drop times rest)) ∙
    ap (λ xs. xs ++ drop times rest) (sym (entries_more items i))

pub write_more : (text rest entries item more : List ℕ) (fiber times : ℕ) → HasWritten text rest entries → IsItemOf item fiber times →
    take times rest ≡ replicate times fiber → more ≡ (text ++ item) ++ 32 ∷ [] → 0 < length (drop times rest) → HasWritten more (drop times rest) entries
write_more text rest entries item more fiber times h i run is some = record {
  items = h.items ++ i.item ∷ [];
  good = good_more h.items i.item h.good i.good;
  text_is = is ∙ append_assoc text item (32 ∷ []) ∙ ap (λ t. t ++ (item ++ 32 ∷ [])) h.text_is ∙
      ap (λ t. front_of h.items ++ (t ++ 32 ∷ [])) i.text_is ∙ sym (front_more h.items i.item);
  entries_are = added rest entries h.items i.item times h.entries_are i.times_is (run ∙ ap (replicate times) i.fiber_is);
  fibers = All-drop (λ f. f < 1000) times rest h.fibers;
  some = some;
}

pub write_all : (text rest entries item more : List ℕ) (fiber times : ℕ) → HasWritten text rest entries → IsItemOf item fiber times →
    take times rest ≡ replicate times fiber → more ≡ text ++ item → length (drop times rest) ≡ 0 → length entries ≤ 1000000 → SpellsEntries more entries
write_all text rest entries item more fiber times h i run is none few = record {
  items = h.items ++ i.item ∷ [];
  good = good_more h.items i.item h.good i.good;
  text_is = is ∙ ap (λ t. t ++ item) h.text_is ∙ ap (λ t. front_of h.items ++ t) i.text_is ∙ sym (text_more h.items i.item);
  entries_are = added rest entries h.items i.item times h.entries_are i.times_is (run ∙ ap (replicate times) i.fiber_is) ∙
      ap (λ xs. entries_of (h.items ++ i.item ∷ []) ++ xs) (nothing (drop times rest) none) ∙ append-nil (entries_of (h.items ++ i.item ∷ []));
  few = few;
} where
  nothing : (xs : List ℕ) → length xs ≡ 0 → xs ≡ []
  nothing [] h = refl
  nothing (x ∷ xs) h = absurd (omega arith)

-- what is behind an index, as a range gives it
pub behind : (times : ℕ) (rest : List ℕ) → take (length rest - times) (drop times rest) ≡ drop times rest
behind times rest = take_all (length rest - times) (drop times rest) (omega (arith, length-drop times rest))

-- a text that may be there is an item, if its bytes are one
pub item_there : {S E : Type 0} (bytes_of : S → List ℕ) (r : Result S E) (bytes : List ℕ) (fiber times : ℕ) → IfOk r (λ s. bytes_of s ≡ bytes) →
    IsItemOf bytes fiber times → IfOk r (λ s. IsItemOf (bytes_of s) fiber times)
item_there bytes_of (Ok s) bytes fiber times is i = subst (λ b. IsItemOf b fiber times) (sym is) i
item_there bytes_of (Err e) bytes fiber times is i = tt
