-- Laws of an answer from one call on the far store: it is the far side's answer to its question.
use Rattle.std.proofs.Common.{◌≡◌, ℕ, ◌^◌, ◌<◌, ◌≤◌, true, List, length, take, Option}
use Rattle.std.proofs.Common.{None, Some, refl, sym, ap, ◌∙◌, subst, arith, eq-eqb, drop, MatchOption}
use Rattle.std.specs.Prelude.{◌&&◌, ◌==◌, Result, Ok, Err}
use Rattle.std.proofs.lemmas.Bool.{and_from}
use Rattle.std.proofs.lemmas.List.{length-take, length-take-le}
use Rattle.file_laws.specs.Numbers.{IsBytes-take}
use Rattle.view_outside.specs.Faults.{Rose}
use Rattle.view_outside.specs.Files.{Named, HasFile, HasName, ReadsFile, ReadsFrom, ReadsNothing, bytes_at}
use Rattle.view_outside.specs.Messages.{MessageSeen, AsksBytes, GivesBytes, AsksName, GivesFile, SaysFailed}
use Rattle.view_outside.specs.Messages.{message_number, is_size, IsMessage, message_in}
use Rattle.view_outside.specs.Links.{is_awaited, is_refusal, IsAnswerTo, IsAwaited, IsRefusal, IsThere}
use Rattle.link_messages.specs.Fields.{size_range}
use Rattle.link_messages.specs.Spelled.{message_in-text}
use Rattle.memory_link.specs.FarCalls.{HasFound, HasRead, found_answer, read_answer, AnswersName, AnswersRead}
use Rattle.memory_link.specs.FarCalls.{CallsFor, HasAnswered}
use Rattle.view_outside.specs.declared.failed.Failed.{Failed}

-- the answer to a question, from one call on the far store
pub record FarCall {S : Type 0} (files : S → Option (List Named)) (faults : S → ℕ) (question : MessageSeen)
    (old new : S) (bytes : List ℕ) : Type 0 where
  pub answer : MessageSeen
  pub is : message_in bytes ≡ Some answer
  pub number : message_number answer ≡ message_number question
  pub answers : IsAnswerTo (files old) question answer
  pub kept : files new ≡ files old
  pub later : faults old ≤ faults new
  pub cause : is_refusal question answer ≡ true → IsThere (files old) question → Rose (faults old) (faults new)

same_number : (n : ℕ) → (n == n) ≡ true
same_number n = eq-eqb n n refl

-- ---- a name

name_right : {S : Type 0} (files : S → Option (List Named)) (faults taken : S → ℕ) (number : ℕ) (name : List ℕ)
    (old new : S) (result : Result ℕ Failed) → number < 2 ^ 64
    → HasFound files faults taken name old new result → IsMessage (found_answer number result)
name_right files faults taken number name old new (Ok file) fits called =
    record { number_fits = fits; file_fits = called.fits }
name_right files faults taken number name old new (Err failed) fits called = fits

name_number : (number : ℕ) (result : Result ℕ Failed) → message_number (found_answer number result) ≡ number
name_number number (Ok file) = refl
name_number number (Err failed) = refl

name_answers : {S : Type 0} (files : S → Option (List Named)) (faults taken : S → ℕ) (number : ℕ) (name : List ℕ)
    (old new : S) (result : Result ℕ Failed) → HasFound files faults taken name old new result
    → IsAnswerTo (files old) (AsksName number name) (found_answer number result)
name_answers files faults taken number name old new (Ok file) called =
    IsAwaited (same_number number) (record { there = called.there; found = called.found })
name_answers files faults taken number name old new (Err failed) called = IsRefusal (same_number number)

name_cause : {S : Type 0} (files : S → Option (List Named)) (faults taken : S → ℕ) (number : ℕ) (name : List ℕ)
    (old new : S) (result : Result ℕ Failed) → HasFound files faults taken name old new result
    → is_refusal (AsksName number name) (found_answer number result) ≡ true → HasName (files old) name
    → Rose (faults old) (faults new)
name_cause files faults taken number name old new (Ok file) called refuses there = cc
name_cause files faults taken number name old new (Err failed) called refuses there = called.cause.failed there

name_call : {S : Type 0} (files : S → Option (List Named)) (faults taken : S → ℕ) (number : ℕ) (name : List ℕ)
    (old new : S) (bytes : List ℕ) → IsMessage (AsksName number name)
    → AnswersName files faults taken number name old new bytes
    → FarCall files faults (AsksName number name) old new bytes
name_call files faults taken number name old new bytes right answers =
    let result = answers.result in
    let fits = name_right files faults taken number name old new result right.number_fits answers.called in
    record {
      answer = found_answer number result;
      is = ap message_in answers.text ∙ message_in-text (found_answer number result) fits;
      number = name_number number result;
      answers = name_answers files faults taken number name old new result answers.called;
      kept = answers.called.kept;
      later = answers.called.cause.later;
      cause = name_cause files faults taken number name old new result answers.called;
    }

-- ---- bytes

module _ {S : Type 0} (files : S → Option (List Named)) (faults taken : S → ℕ) (number file offset size : ℕ)
    (old new : S) (buffer : List ℕ)
  where
    read_right : (result : Result ℕ Failed) → IsMessage (AsksBytes number file offset size)
        → HasRead files faults taken file offset size old new buffer result
        → IsMessage (read_answer number file offset size buffer result)
    read_right (Ok n) right called = record {
      asking = right;
      within = omega (arith, length-take n buffer, called.bound);
      given = IsBytes-take n buffer called.given;
    }
    read_right (Err failed) right called = right.number_fits

    read_number : (result : Result ℕ Failed)
        → message_number (read_answer number file offset size buffer result) ≡ number
    read_number (Ok n) = refl
    read_number (Err failed) = refl

    read_cause : (result : Result ℕ Failed) → HasRead files faults taken file offset size old new buffer result
        → is_refusal (AsksBytes number file offset size) (read_answer number file offset size buffer result) ≡ true
        → HasFile (files old) file → Rose (faults old) (faults new)
    read_cause (Ok n) called refuses there = cc
    read_cause (Err failed) called refuses there = called.cause.failed there

-- a read holds of each buffer that begins with its bytes
read_from : (bytes buffer other : List ℕ) (offset n : ℕ) → n ≤ length buffer → 0 < length buffer
    → take (length (take n buffer)) other ≡ take n buffer
    → ReadsFrom bytes offset buffer n → ReadsFrom bytes offset other (length (take n buffer))
read_from bytes buffer other offset n within some begins read =
    let size : length (take n buffer) ≡ n = length-take-le n buffer within in
    record {
      same = begins ∙ read.same ∙ ap (λ (k : ℕ). take k (drop offset bytes)) (sym size);
      there = omega (arith, size, read.there);
      end = λ none room. read.end (sym size ∙ none) some;
    }

read_of : (found : Option (List ℕ)) (buffer other : List ℕ) (offset n : ℕ) → n ≤ length buffer → 0 < length buffer
    → take (length (take n buffer)) other ≡ take n buffer
    → MatchOption found (ReadsNothing buffer n) (λ bytes. ReadsFrom bytes offset buffer n)
    → MatchOption found (ReadsNothing other (length (take n buffer)))
    (λ bytes. ReadsFrom bytes offset other (length (take n buffer)))
read_of None buffer other offset n within some begins read = absurd (omega (arith, read.no_room))
read_of (Some bytes) buffer other offset n within some begins read =
    read_from bytes buffer other offset n within some begins read

reads_file : (far : Option (List Named)) (file offset : ℕ) (buffer other : List ℕ) (n : ℕ) → n ≤ length buffer
    → 0 < length buffer → take (length (take n buffer)) other ≡ take n buffer
    → ReadsFile far file offset buffer n → ReadsFile far file offset other (length (take n buffer))
reads_file None file offset buffer other n within some begins read = tt
reads_file (Some files) file offset buffer other n within some begins read =
    read_of (bytes_at files file) buffer other offset n within some begins read

read_awaited : (number file offset size : ℕ) (bytes : List ℕ)
    → is_awaited (AsksBytes number file offset size) (GivesBytes number file offset size bytes) ≡ true
read_awaited number file offset size bytes =
    and_from (number == number) ((file == file) && ((offset == offset) && (size == size))) (same_number number)
    (and_from (file == file) ((offset == offset) && (size == size)) (same_number file)
    (and_from (offset == offset) (size == size) (same_number offset) (same_number size)))

read_answers : {S : Type 0} (files : S → Option (List Named)) (faults taken : S → ℕ) (number file offset size : ℕ)
    (old new : S) (buffer : List ℕ) (result : Result ℕ Failed) → is_size size ≡ true
    → HasRead files faults taken file offset size old new buffer result
    → IsAnswerTo (files old) (AsksBytes number file offset size) (read_answer number file offset size buffer result)
read_answers files faults taken number file offset size old new buffer (Ok n) right called =
    let range = size_range size right in
    let within : n ≤ length buffer = omega (arith, called.room, called.bound) in
    let some : 0 < length buffer = omega (arith, called.room, range.0) in
    IsAwaited (read_awaited number file offset size (take n buffer)) (record {
      told = called.told;
      read = λ other room begins. reads_file (files old) file offset buffer other n within some begins called.bytes;
    })
read_answers files faults taken number file offset size old new buffer (Err failed) right called =
    IsRefusal (same_number number)

read_call : {S : Type 0} (files : S → Option (List Named)) (faults taken : S → ℕ) (number file offset size : ℕ)
    (old new : S) (bytes : List ℕ) → IsMessage (AsksBytes number file offset size)
    → AnswersRead files faults taken number file offset size old new bytes
    → FarCall files faults (AsksBytes number file offset size) old new bytes
read_call files faults taken number file offset size old new bytes right answers =
    let result = answers.result in
    let buffer = answers.buffer in
    let fits = read_right files faults taken number file offset size old new buffer result right answers.called in
    record {
      answer = read_answer number file offset size buffer result;
      is = ap message_in answers.text ∙ message_in-text (read_answer number file offset size buffer result) fits;
      number = read_number files faults taken number file offset size old new buffer result;
      answers = read_answers files faults taken number file offset size old new buffer result right.size_fits
          answers.called;
      kept = answers.called.kept;
      later = answers.called.cause.later;
      cause = read_cause files faults taken number file offset size old new buffer result answers.called;
    }

-- ---- a question

pub far_call : {S : Type 0} (files : S → Option (List Named)) (faults taken : S → ℕ) (question : MessageSeen)
    (old new : S) (bytes : List ℕ) → IsMessage question → CallsFor files faults taken question old new bytes
    → FarCall files faults question old new bytes
far_call files faults taken (AsksName number name) old new bytes right calls =
    name_call files faults taken number name old new bytes right calls
far_call files faults taken (AsksBytes number file offset size) old new bytes right calls =
    read_call files faults taken number file offset size old new bytes right calls
far_call files faults taken (GivesBytes number file offset size given) old new bytes right calls = absurd calls
far_call files faults taken (GivesFile number file) old new bytes right calls = absurd calls
far_call files faults taken (SaysFailed number) old new bytes right calls = absurd calls

-- the answer to the message is that of its question
pub far_answer : {S : Type 0} (files : S → Option (List Named)) (faults taken : S → ℕ) (message : List ℕ)
    (question : MessageSeen) (old new : S) (bytes : List ℕ) → message_in message ≡ Some question
    → HasAnswered files faults taken message old new bytes → FarCall files faults question old new bytes
far_answer files faults taken message question old new bytes is has =
    let one : has.question ≡ question = cc (is, has.is) in
    subst (λ q. FarCall files faults q old new bytes) one
    (far_call files faults taken has.question old new bytes has.right has.calls)

-- the far files are kept
pub answered_keeps : {S : Type 0} (files : S → Option (List Named)) (faults taken : S → ℕ) (message : List ℕ)
    (old new : S) (bytes : List ℕ) → HasAnswered files faults taken message old new bytes → files new ≡ files old
answered_keeps files faults taken message old new bytes has =
    let call = far_call files faults taken has.question old new bytes has.right has.calls in call.kept
