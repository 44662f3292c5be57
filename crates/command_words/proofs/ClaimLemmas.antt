-- Whether the words have claims.
use Rattle.std.proofs.Common.{◌≡◌, ◌≢◌, ◌∙◌, Bool, true, false, not, List, [], ◌∷◌, Option, Some, None, map, length, nat_eq, ap, sym}
use Rattle.std.proofs.lemmas.Bool.{eqb-true}
use Rattle.std.proofs.lemmas.List.{nil_from_length}
use Rattle.std.specs.Borrow.{Bor}
use Rattle.std.specs.Option.{is_some, option_map}
use Rattle.clap.specs.Words.{Text}

pub some_text : (xs : List (Bor Text)) (texts : List Text) → texts ≡ map (λ s. s.now) xs → not (nat_eq (length xs) 0) ≡ true → texts ≢ []
some_text [] texts e some = absurd (cc)
some_text (x ∷ xs) texts e some = λ none. absurd (cc)

not_false : (b : Bool) → not b ≡ false → b ≡ true
not_false true h = λ i. true
not_false false h = absurd (cc)

pub no_text : (xs : List (Bor Text)) (texts : List Text) → texts ≡ map (λ s. s.now) xs → not (nat_eq (length xs) 0) ≡ false → texts ≡ []
no_text xs texts e none =
    e ∙ ap (λ (ys : List (Bor Text)). map (λ s. s.now) ys) (nil_from_length xs (eqb-true (length xs) 0 (not_false (nat_eq (length xs) 0) none)))

pub some_said : (o : Option (Bor Text)) (said : Option Text) → option_map (λ s. s.now) o ≡ said → is_some o ≡ true → said ≢ None
some_said (Some x) said e some = λ none. absurd (cc)
some_said None said e some = absurd (cc)

pub none_said : (o : Option (Bor Text)) (said : Option Text) → option_map (λ s. s.now) o ≡ said → is_some o ≡ false → said ≡ None
none_said (Some x) said e none = absurd (cc)
none_said None said e none = sym e
