-- The effects of comparing two texts.
use Rattle.std.proofs.Common.{◌≡◌, ◌≢◌, ◌∙◌, ℕ, List, Result, Ok, Err, IfErr, inl, refl, ap, subst}
use Rattle.compared_ends.specs.declared.order.CompareOrder.{CompareOrder}
use Rattle.comparison_answers.specs.PairAnswers.{IsPairAnswer}
use Rattle.text_io.specs.declared.fault.TextFault.{TextFault}
use Rattle.text_io.specs.declared.fault.TextFault.TheVariants as faults
use Rattle.text_io.specs.declared.status.Status.{Status}
use Rattle.text_io.specs.declared.status.Status.TheVariants.{Fault}
use Rattle.text_io.specs.Devices.{Reader, Writer}
use Rattle.text_io.specs.Exchange.{IsOutOfReads, IsRead}
use Rattle.text_io.specs.FaultLines.{fault_line}
use Rattle.text_io.specs.Telling.{Told}
use Rattle.text_io.specs.Text.{GoesOut, OnlyWriteFaults, is_read_fault, is_write_fault}
use Rattle.command_line.specs.Comparings.{IsFileFault, IsFileText, IsUnread, NotesPair, WritesPair, answered}
use Rattle.command_line.proofs.RunLemmas.{only_same, out_same, write_same}

read_same : (X : Type 0) (f : TextFault) → is_read_fault {A = X} (Err f) ≡ is_read_fault {A = Status} (Err f)
read_same X faults.NoMemory = refl
read_same X faults.ReadFault = refl
read_same X (faults.WriteFault n) = refl
read_same X faults.TurnBound = refl

-- the text of a file that was opened
pub file_read : (before after : Reader) (text : List ℕ) → IsUnread before → IsRead before after text → IsFileText text
file_read before after text unread read = record { before = before; after = after; unread = unread; read = read }

-- a file that was opened has no text, if reading it failed
pub file_fault : {X : Type 0} (before after : Reader) (r : Result X TextFault) → IsUnread before → after.failed ≡ is_read_fault r →
    (r ≡ Err faults.TurnBound → IsOutOfReads before after) → ((n : ℕ) → r ≢ Err (faults.WriteFault n)) → IfErr r IsFileFault
file_fault before after (Ok v) unread failed turns nothing = tt
file_fault {X} before after (Err f) unread failed turns nothing = inl record {
  before = before;
  after = after;
  unread = unread;
  failed = failed ∙ read_same X f;
  turns = λ same. turns (ap Err same);
  nothing_written = λ n same. nothing n (ap Err same);
}

module _ (order : CompareOrder) (out out' : Writer) (one other answer : List ℕ) (own : Status)
    (answers : IsPairAnswer order.json order.limits order.bounds order.basis one other answer own) (result : Result (Unit {0}) TextFault)
    (written : List ℕ) (same : written ≡ answer) (goes : GoesOut out.contents out'.contents written result) (only : OnlyWriteFaults result)
    (failed : out'.failed ≡ is_write_fault result) where
  -- the answer was written
  pub pair_answered : (err err' : Writer) (done : Unit {0}) → result ≡ Ok done → NotesPair one other err err' →
      WritesPair order one other out out' err err' own
  pair_answered err err' done is noted = answered record {
    answer = answer;
    own = own;
    result = Ok own;
    answers = answers;
    gives = refl;
    goes = subst (λ (r : Result (Unit {0}) TextFault). GoesOut out.contents out'.contents answer r) is
        (subst (λ (t : List ℕ). GoesOut out.contents out'.contents t result) same goes);
    only = tt;
    failed = failed ∙ ap is_write_fault is;
    told = noted;
    status_is = refl;
  }

  -- or a write failed, and the line of the fault was written
  pub pair_kept_back : (err err' : Writer) (f : TextFault) (status : Status) → result ≡ Err f → Told (fault_line f) err err' → status ≡ Fault →
      WritesPair order one other out out' err err' status
  pair_kept_back err err' f status is told status_is = answered record {
    answer = answer;
    own = own;
    result = Err f;
    answers = answers;
    gives = tt;
    goes = out_same out.contents out'.contents answer f (subst (λ (r : Result (Unit {0}) TextFault). GoesOut out.contents out'.contents answer r) is
        (subst (λ (t : List ℕ). GoesOut out.contents out'.contents t result) same goes));
    only = only_same f (subst (λ (r : Result (Unit {0}) TextFault). OnlyWriteFaults r) is only);
    failed = failed ∙ ap is_write_fault is ∙ write_same f;
    told = told;
    status_is = status_is;
  }
