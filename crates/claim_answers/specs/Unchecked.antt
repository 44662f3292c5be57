-- The notes on claims that are checked at no moment.
use Rattle.std.specs.Prelude.{◌≡◌, ◌&&◌, ℕ, Bool, true, false, if◌then◌else◌, List, [], ◌++◌, codes}
use Rattle.std.specs.List.{list_any}
use Rattle.claim_words.specs.declared.words.SpelledWord.{SpelledWord}
use Rattle.claim_words.specs.declared.words.SpelledWord.TheVariants.{Numbered, Named, Not, Join, World}
use Rattle.claim_answers.specs.declared.asked.Asked.{Asked}
use Rattle.claim_answers.specs.declared.judging.Verdict.{Verdict}
use Rattle.claim_answers.specs.declared.judging.Verdict.TheVariants.{Moment, NoMoment, Undecided}
use Rattle.claim_answers.specs.declared.moments.Among.{Among}
use Rattle.claim_answers.specs.declared.moments.Among.TheVariants as among
use Rattle.claim_answers.specs.Verdicts.{AreLines, rule_text}

-- the word compares a ref
abbrev pub compares_ref : SpelledWord → Bool
compares_ref (Numbered n how v) = true
compares_ref (Named how v) = true
compares_ref Not = false
compares_ref (Join j) = false
compares_ref (World x) = false

abbrev pub names_refs : List SpelledWord → Bool
names_refs words = list_any compares_ref words

-- by the verdict on the words that are true when a claim is checked, none of these schedules comes to such a moment
abbrev pub is_unchecked : Among → Verdict → Bool
is_unchecked among.All (Moment schedule) = false
is_unchecked among.All NoMoment = true
is_unchecked among.All Undecided = false
is_unchecked among.Drawn (Moment schedule) = false
is_unchecked among.Drawn NoMoment = false
is_unchecked among.Drawn Undecided = true

-- what is said of such a claim
abbrev pub unset_text : Among → List ℕ
unset_text among.All = codes ": no schedule sets each ref that it names, so it is checked at no moment\n"
unset_text among.Drawn = codes ": no drawn schedule sets each ref that it names, so it is checked at no moment\n"

-- the note on a claim: a line if it names refs and is checked at no moment, or else nothing
abbrev pub unchecked_text : Among → Asked → Verdict → List ℕ
unchecked_text which a v =
    if names_refs a.claim.words.items && is_unchecked which v
    then rule_text a.rule ++ (codes " " ++ (a.claim.text.items ++ unset_text which))
    else []

abbrev pub IsUnchecked : Among → Asked → Verdict → List ℕ → Type 0
IsUnchecked which a v text = text ≡ unchecked_text which a v

-- the notes on all claims, one after the other
abbrev pub AreUnchecked : Among → List Asked → List Verdict → List ℕ → Type 0
AreUnchecked which asked moments text = AreLines (IsUnchecked which) asked moments text
