-- The effect of the words, from the contracts of `clap` and of the orders.
use Rattle.std.proofs.Common.{◌≡◌, ◌≢◌, ◌∙◌, ◌⊎◌, ap, subst, ℕ, List, [], true, Option, Some, None, Result, Ok, Err, inl, inr, sym, refl}
use Rattle.clap.specs.Words.{App, IsAmong, Row, Text, HasMatchesOf, fault_of, is_simple, is_simple_and_free, subcommand_of, subcommand_rows_of, takes}
use Rattle.clap.specs.declared.error.kind.ErrorKind.{ErrorKind}
use Rattle.clap.specs.declared.error.kind.ErrorKind.TheVariants as kind
use Rattle.clap.specs.declared.parser.matches.ArgMatches.{ArgMatches}
use Rattle.text_io.specs.declared.fault.TextFault.{TextFault}
use Rattle.text_io.specs.declared.fault.TextFault.TheVariants as faults
use Rattle.text_io.specs.declared.status.Status.{Status}
use Rattle.text_io.specs.declared.status.Status.TheVariants.{Succeeded, Fault}
use Rattle.text_io.specs.Devices.{Devices, Writer}
use Rattle.text_io.specs.FaultLines.{fault_line}
use Rattle.text_io.specs.Telling.{Told}
use Rattle.text_io.specs.Text.{GoesOut, OnlyWriteFaults, is_write_fault}
use Rattle.command_words.specs.declared.requests.Request.{Request}
use Rattle.command_words.specs.Requests.{AreSettledByInput, GivesRequest, IsSettledByInput}
use Rattle.command_line.specs.Obeying.{ObeysRequest, Runs, no_request, no_words, refused, request}
use Rattle.command_words.specs.Telling.{AsksHelp, LacksMemory, ShowsText, TellsKind, TellsWrong, no_memory, shown, wrong}
use Rattle.command_words.specs.Words.{program}

-- the command is one for which `clap` promises how a parse fails
pub free_built : (a : App) → a ≡ program → is_simple_and_free a ≡ true
free_built a same = ap is_simple_and_free same

-- the subcommand that was found is the one in the words
said_so : (a : App) (words : List Text) (m : ArgMatches) → a ≡ program → HasMatchesOf a words m → subcommand_rows_of m ≡ subcommand_of program words
said_so a words m same h = (h (ap is_simple same)).1 ∙ ap (λ (x : App). subcommand_of x words) same

pub runs_request : (a : App) (words : List Text) (m : ArgMatches) (r : Request) (before after : Devices) (status : Status) → a ≡ program →
    HasMatchesOf a words m → fault_of a words ≡ [] → GivesRequest (subcommand_rows_of m) (Some r) → ObeysRequest r before after status →
    Runs words before after status
runs_request a words m r before after status same h right gives obeys = request record {
  request = r;
  right = sym (ap (λ (x : App). fault_of x words) same) ∙ right;
  gives = subst (λ (s : Option (Text × List Row)). GivesRequest s (Some r)) (said_so a words m same h) gives;
  obeys = obeys;
}

pub takes_input : (a : App) (words : List Text) (m : ArgMatches) (r : Request) → a ≡ program → HasMatchesOf a words m →
    GivesRequest (subcommand_rows_of m) (Some r) → IsSettledByInput r → AreSettledByInput words
takes_input a words m r same h gives takes = record {
  request = r;
  gives = subst (λ (s : Option (Text × List Row)). GivesRequest s (Some r)) (said_so a words m same h) gives;
  settled = takes;
}

pub runs_no_request : (a : App) (words : List Text) (m : ArgMatches) (before after : Devices) (status : Status) → a ≡ program →
    HasMatchesOf a words m → GivesRequest (subcommand_rows_of m) None → after.input ≡ before.input → after.out ≡ before.out →
    TellsWrong before.err after.err status ⊎ LacksMemory before.err after.err status → Runs words before after status
runs_no_request a words m before after status same h gives unread unanswered told = no_request record {
  gives = subst (λ (s : Option (Text × List Row)). GivesRequest s None) (said_so a words m same h) gives;
  unread = unread;
  unanswered = unanswered;
  told = told;
}

-- a request for help isn't the error of memory
help_known : (k : ErrorKind) → AsksHelp k → k ≢ kind.OutOfMemory
help_known k (inl help) = λ e. cc
help_known k (inr version) = λ e. cc

pub runs_error : (a : App) (words : List Text) (k : ErrorKind) (before after : Devices) (status : Status) → a ≡ program → (k ≡ kind.OutOfMemory) ⊎
    IsAmong k (fault_of a words) → (takes a words ≡ true → k ≡ kind.OutOfMemory) → after.input ≡ before.input →
    TellsKind k before.out after.out before.err after.err status → Runs words before after status
runs_error a words k before after status same among passes unread (no_memory unanswered lacks) =
    no_words record { unread = unread; unanswered = unanswered; lacks = lacks }
runs_error a words k before after status same (inl memory) passes unread (shown asks shows) = absurd (help_known k asks memory)
runs_error a words k before after status same (inl memory) passes unread (wrong other known unanswered tells) = absurd (known memory)
runs_error a words k before after status same (inr among) passes unread (shown asks shows) = refused record {
  kind = k;
  among = subst (λ (x : App). IsAmong k (fault_of x words)) same among;
  untaken = λ taken. help_known k asks (passes (ap (λ (x : App). takes x words) same ∙ taken));
  unread = unread;
  told = shown asks shows;
}
runs_error a words k before after status same (inr among) passes unread (wrong other known unanswered tells) = refused record {
  kind = k;
  among = subst (λ (x : App). IsAmong k (fault_of x words)) same among;
  untaken = λ taken. known (passes (ap (λ (x : App). takes x words) same ∙ taken));
  unread = unread;
  told = wrong other known unanswered tells;
}

pub runs_no_words : (words : List Text) (before after : Devices) (status : Status) → after.input ≡ before.input → after.out ≡ before.out →
    LacksMemory before.err after.err status → Runs words before after status
runs_no_words words before after status unread unanswered lacks = no_words record { unread = unread; unanswered = unanswered; lacks = lacks }

-- the kinds whose text goes to `out`
pub help_of : (k : ErrorKind) → ((k ≢ kind.DisplayHelp) × (k ≢ kind.DisplayVersion) → ⊥) → AsksHelp k
help_of kind.DisplayHelp h = inl refl
help_of kind.DisplayVersion h = inr refl
help_of k h = absurd (h ((λ e. cc), (λ e. cc)))

-- the requested text was written
pub text_shown : (out out' err : Writer) (text : List ℕ) (result : Result (Unit {0}) TextFault) (done : Unit {0}) → result ≡ Ok done →
    GoesOut out.contents out'.contents text result → OnlyWriteFaults result → out'.failed ≡ is_write_fault result → ShowsText out out' err err Succeeded
text_shown out out' err text result done is goes only failed = record {
  text = text;
  result = Ok Succeeded;
  succeeded = refl;
  goes = subst (λ (r : Result (Unit {0}) TextFault). GoesOut out.contents out'.contents text r) is goes;
  only = tt;
  failed = failed ∙ ap is_write_fault is;
  told = refl;
  status_is = refl;
}

-- for a fault, `GoesOut` is the same for each type of result
pub out_same : (old new : Option (List ℕ)) (text : List ℕ) (f : TextFault) → GoesOut {A = Unit {0}} old new text (Err f) → GoesOut {A = Status} old new text (Err f)
out_same old new text faults.NoMemory g = g
out_same old new text faults.ReadFault g = g
out_same old new text (faults.WriteFault n) g = g
out_same old new text faults.TurnBound g = g

pub only_same : (f : TextFault) → OnlyWriteFaults {A = Unit {0}} (Err f) → OnlyWriteFaults {A = Status} (Err f)
only_same faults.NoMemory o = o
only_same faults.ReadFault o = o
only_same (faults.WriteFault n) o = o
only_same faults.TurnBound o = o

pub write_same : (f : TextFault) → is_write_fault {A = Unit {0}} (Err f) ≡ is_write_fault {A = Status} (Err f)
write_same faults.NoMemory = refl
write_same faults.ReadFault = refl
write_same (faults.WriteFault n) = refl
write_same faults.TurnBound = refl

-- or its device failed, and the line of the fault was written
pub text_kept_back : (out out' err err' : Writer) (text : List ℕ) (f : TextFault) (result : Result (Unit {0}) TextFault) (status : Status) →
    result ≡ Err f → GoesOut out.contents out'.contents text result → OnlyWriteFaults result → out'.failed ≡ is_write_fault result →
    Told (fault_line f) err err' → status ≡ Fault → ShowsText out out' err err' status
text_kept_back out out' err err' text f result status is goes only failed told status_is = record {
  text = text;
  result = Err f;
  succeeded = tt;
  goes = out_same out.contents out'.contents text f (subst (λ (r : Result (Unit {0}) TextFault). GoesOut out.contents out'.contents text r) is goes);
  only = only_same f (subst (λ (r : Result (Unit {0}) TextFault). OnlyWriteFaults r) is only);
  failed = failed ∙ ap is_write_fault is ∙ write_same f;
  told = told;
  status_is = status_is;
}
