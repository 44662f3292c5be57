-- Texts that spell no outcomes.
use Rattle.std.proofs.Common.{◌≡◌, ◌∙◌, ◌<◌, ◌+◌, ◌++◌, ◌∷◌, ℕ, suc, List, [], Option, Some, None, map, length, drop}
use Rattle.std.proofs.Common.{drop-cons, append_assoc, get_or, ap, sym, subst, refl, arith}
use Rattle.std.specs.Prelude.{IfSome}
use Rattle.std.specs.List.{All}
use Rattle.std.specs.Borrow.{Bor}
use Rattle.std.proofs.lemmas.List.{get_or-map, length-map, map-append}
use Rattle.std.proofs.lemmas.List.Elements.{All-get_or, All-push}
use Rattle.std.specs.Option.{option_map, unwrap_or}
use Rattle.clap.specs.Words.{Row, Text, all_of}
use Rattle.exploration_text.specs.declared.wants.Want.{Want}
use Rattle.exploration_text.specs.declared.wants.Want.TheVariants.{Unended}
use Rattle.exploration_text.specs.Wants.{IsInRange, want_text}
use Rattle.command_words.specs.Requests.{AreWants, texts_said}

-- if one text spells no outcome, there is no list of outcomes for the texts
pub no_wants : (texts : List Text) (i : ℕ) (d : Text) → i < length texts → ((w : Want) → IsInRange w → get_or texts i d ≡ want_text w → ⊥) →
    (wants : List Want) → AreWants texts wants → ⊥
no_wants texts i d low none wants are =
    let here : i < length wants = subst (λ n. i < n) (sym (ap length are.spelled) ∙ length-map wants want_text) low in
    none (get_or wants i Unended) (All-get_or IsInRange wants i Unended here are.ranges)
    (ap (λ ts. get_or ts i d) (sym are.spelled) ∙ get_or-map want_text wants i Unended d here)

-- the same for texts behind references
pub none_of : (texts : List (Bor Text)) (i : ℕ) (d : Bor Text) → i < length texts →
    ((w : Want) → IsInRange w → (get_or texts i d).now ≡ want_text w → ⊥) → (wants : List Want) → AreWants (map (λ s. s.now) texts) wants → ⊥
none_of texts i d low none = no_wants (map (λ s. s.now) texts) i d.now (subst (λ n. i < n) (sym (length-map texts (λ s. s.now))) low)
    (λ w good is. none w good (sym (get_or-map (λ (s : Bor Text). s.now) texts i d d.now low) ∙ is))

-- `wants` are the outcomes of the first `i` texts
pub record SoFar (texts : List (Bor Text)) (i : ℕ) (wants : List Want) : Type 0 where
  pub spelled : map want_text wants ++ map (λ s. s.now) (drop i texts) ≡ map (λ s. s.now) texts
  pub ranges : All IsInRange wants

one_more : (texts : List (Bor Text)) (i : ℕ) (d : Bor Text) (wants : List Want) (w : Want) → i < length texts → map want_text wants ++
    map (λ s. s.now) (drop i texts) ≡ map (λ s. s.now) texts → All IsInRange wants → (get_or texts i d).now ≡ want_text w → IsInRange w →
    SoFar texts (suc i) (wants ++ w ∷ [])
one_more texts i d wants w low spelled ranges is good = record {
  spelled =
      let front : map want_text (wants ++ w ∷ []) ≡ map want_text wants ++ want_text w ∷ [] = map-append want_text wants (w ∷ []) in
      let behind : drop i texts ≡ get_or texts i d ∷ drop (suc i) texts = drop-cons texts i d low in
      ap (λ ts. ts ++ map (λ s. s.now) (drop (suc i) texts)) front
      ∙ append_assoc (map want_text wants) (want_text w ∷ []) (map (λ s. s.now) (drop (suc i) texts))
      ∙ ap (λ t. map want_text wants ++ t ∷ map (λ s. s.now) (drop (suc i) texts)) (sym is)
      ∙ sym (ap (λ (ts : List (Bor Text)). map want_text wants ++ map (λ s. s.now) ts) behind)
      ∙ spelled;
  ranges = All-push IsInRange wants w ranges good;
}

pub next_read : (texts : List (Bor Text)) (i : ℕ) (d : Bor Text) (wants new : List Want) (read : Option Want) (w : Want) → new ≡ wants ++ w ∷ [] →
    read ≡ Some w → i < length texts → IfSome read (λ x. (get_or texts i d).now ≡ want_text x) → IfSome read IsInRange → map want_text wants ++
    map (λ s. s.now) (drop i texts) ≡ map (λ s. s.now) texts → All IsInRange wants → SoFar texts (i + 1) new
next_read texts i d wants new read w more is low spells good spelled ranges =
    let one : suc i ≡ i + 1 = omega arith in
    let far = one_more texts i d wants w low spelled ranges
    (subst (λ (r : Option Want). IfSome r (λ x. (get_or texts i d).now ≡ want_text x)) is spells)
    (subst (λ (r : Option Want). IfSome r IsInRange) is good) in
    subst (λ n. SoFar texts n new) one (subst (λ ws. SoFar texts (suc i) ws) (sym more) far)

-- the texts of an option are those that `clap` found
pub texts_given : {A : Type 0} (f : A → List Text) (given : Option A) (texts : A) (name : Text) (rows : List Row) → given ≡ Some texts →
    option_map f given ≡ all_of name rows → texts_said name rows ≡ f texts
texts_given f given texts name rows is same = ap (λ (o : Option (List Text)). unwrap_or o []) (sym same ∙ ap (option_map f) is)

pub none_given : {A : Type 0} (f : A → List Text) (given : Option A) (name : Text) (rows : List Row) → given ≡ None →
    option_map f given ≡ all_of name rows → texts_said name rows ≡ []
none_given f given name rows is same = ap (λ (o : Option (List Text)). unwrap_or o []) (sym same ∙ ap (option_map f) is)

-- if there are no texts, nothing is wanted
pub none_wanted : (wants : List Want) (texts : List Text) → wants ≡ [] → texts ≡ [] → AreWants texts wants
none_wanted wants texts none nothing =
    subst (λ ts. AreWants ts wants) (sym nothing)
    (subst (λ ws. AreWants [] ws) (sym none) record { spelled = refl; ranges = λ i d low. absurd (omega (arith, low)) })
