-- The bytes of a message are read as that message.
use Rattle.std.proofs.Common.{◌≡◌, ℕ, ◌+◌, ◌^◌, ◌<◌, ◌≤◌, true, List, [], ◌++◌, length, drop, refl, sym, ◌∙◌, arith}
use Rattle.std.proofs.Common.{Some}
use Rattle.std.proofs.Common.{length-append, append-nil}
use Rattle.std.specs.Str.{is_utf8}
use Rattle.std.proofs.lemmas.Bool.{le-leb, eq-eqb, and_from}
use Rattle.std.proofs.lemmas.Str.{is_utf8-from_IsUtf8}
use Rattle.view_outside.specs.Messages.{MessageSeen, AsksBytes, GivesBytes, AsksName, GivesFile, SaysFailed}
use Rattle.view_outside.specs.Messages.{is_size, IsPlace, IsGiving, IsNaming, IsNumbered, IsMessage, field, field_at}
use Rattle.view_outside.specs.Messages.{message_text, asks_bytes_in, has_bytes, gives_bytes_in, has_name_size}
use Rattle.view_outside.specs.Messages.{asks_name_in}
use Rattle.view_outside.specs.Messages.{gives_file_in, says_failed_in, message_in}
use Rattle.link_messages.specs.Fields.{length-field, size_range, field_at-spelled, past_field}

-- ---- how many bytes a message has

pub length-asks_bytes : (number file offset size : ℕ) → length (message_text (AsksBytes number file offset size)) ≡ 23
unfolding message_text
length-asks_bytes number file offset size = simp (length-append, length-field)

pub length-gives_bytes : (number file offset size : ℕ) (bytes : List ℕ)
    → length (message_text (GivesBytes number file offset size bytes)) ≡ 25 + length bytes
unfolding message_text
length-gives_bytes number file offset size bytes = simp (length-append, length-field) (omega arith)

pub length-asks_name : (number : ℕ) (name : List ℕ) → length (message_text (AsksName number name)) ≡ 10 + length name
unfolding message_text
length-asks_name number name = simp (length-append, length-field) (omega arith)

pub length-gives_file : (number file : ℕ) → length (message_text (GivesFile number file)) ≡ 13
unfolding message_text
length-gives_file number file = simp (length-append, length-field)

pub length-says_failed : (number : ℕ) → length (message_text (SaysFailed number)) ≡ 9
unfolding message_text
length-says_failed number = simp length-field

-- ---- what is read of bytes with these fields

asks_bytes-of : (bytes : List ℕ) (number file offset size : ℕ) → length bytes ≡ 23 → field_at 8 1 bytes ≡ number
    → field_at 4 9 bytes ≡ file → field_at 8 13 bytes ≡ offset → field_at 2 21 bytes ≡ size → is_size size ≡ true
    → asks_bytes_in bytes ≡ Some (AsksBytes number file offset size)
unfolding asks_bytes_in
asks_bytes-of bytes number file offset size long n f o s right = rw (long, n, f, o, s, right) refl

gives_bytes-of : (bytes given : List ℕ) (number file offset size : ℕ) → length bytes ≡ 25 + length given
    → field_at 8 1 bytes ≡ number → field_at 4 9 bytes ≡ file → field_at 8 13 bytes ≡ offset
    → field_at 2 21 bytes ≡ size → field_at 2 23 bytes ≡ length given → drop 25 bytes ≡ given → is_size size ≡ true
    → length given ≤ size
    → gives_bytes_in bytes ≡ Some (GivesBytes number file offset size given)
unfolding gives_bytes_in
gives_bytes-of bytes given number file offset size long n f o s k rest right within =
    let has : has_bytes bytes ≡ true =
    rw (s, k) (and_from _ _ (le-leb 25 (length bytes) (omega arith)) (and_from _ _ right
    (and_from _ _ (le-leb (length given) size within) (eq-eqb (length bytes) (25 + length given) long)))) in
    rw (has, n, f, o, s, rest) refl

asks_name-of : (bytes name : List ℕ) (number : ℕ) → length bytes ≡ 10 + length name → field_at 8 1 bytes ≡ number
    → field_at 1 9 bytes ≡ length name → drop 10 bytes ≡ name → 1 ≤ length name → is_utf8 name ≡ true
    → asks_name_in bytes ≡ Some (AsksName number name)
unfolding asks_name_in
asks_name-of bytes name number long n k rest some text =
    let has : has_name_size bytes ≡ true =
    rw k (and_from _ _ (le-leb 10 (length bytes) (omega arith)) (and_from _ _ (le-leb 1 (length name) some)
    (eq-eqb (length bytes) (10 + length name) long))) in
    rw (has, rest, text, n) refl

gives_file-of : (bytes : List ℕ) (number file : ℕ) → length bytes ≡ 13 → field_at 8 1 bytes ≡ number
    → field_at 4 9 bytes ≡ file → gives_file_in bytes ≡ Some (GivesFile number file)
unfolding gives_file_in
gives_file-of bytes number file long n f = rw (long, n, f) refl

says_failed-of : (bytes : List ℕ) (number : ℕ) → length bytes ≡ 9 → field_at 8 1 bytes ≡ number
    → says_failed_in bytes ≡ Some (SaysFailed number)
unfolding says_failed_in
says_failed-of bytes number long n = rw (long, n) refl

-- ---- the fields of a message's bytes

asks_bytes-text : (number file offset size : ℕ) → IsPlace number file offset size
    → asks_bytes_in (message_text (AsksBytes number file offset size)) ≡ Some (AsksBytes number file offset size)
unfolding message_text
asks_bytes-text number file offset size right =
    let text = message_text (AsksBytes number file offset size) in
    let third : List ℕ = field 8 offset ++ field 2 size in
    let second : List ℕ = field 4 file ++ third in
    let at_1 : drop 1 text ≡ field 8 number ++ second = refl in
    let at_9 : drop 9 text ≡ second = past_field 8 number 1 9 text second at_1 refl in
    let at_13 : drop 13 text ≡ third = past_field 4 file 9 13 text third at_9 refl in
    let at_21 : drop 21 text ≡ field 2 size = past_field 8 offset 13 21 text (field 2 size) at_13 refl in
    let small : size < 256 ^ 2 = omega (arith, (size_range size right.size_fits).1) in
    asks_bytes-of text number file offset size (length-asks_bytes number file offset size)
    (field_at-spelled 8 number 1 text second at_1 right.number_fits)
    (field_at-spelled 4 file 9 text third at_9 right.file_fits)
    (field_at-spelled 8 offset 13 text (field 2 size) at_13 right.offset_fits)
    (field_at-spelled 2 size 21 text [] (at_21 ∙ sym (append-nil (field 2 size))) small) right.size_fits

gives_bytes-text : (number file offset size : ℕ) (bytes : List ℕ) → IsGiving number file offset size bytes
    → gives_bytes_in (message_text (GivesBytes number file offset size bytes))
    ≡ Some (GivesBytes number file offset size bytes)
unfolding message_text
gives_bytes-text number file offset size bytes right =
    let text = message_text (GivesBytes number file offset size bytes) in
    let place = right.asking in
    let few = (size_range size place.size_fits).1 in
    let fifth : List ℕ = field 2 (length bytes) ++ bytes in
    let fourth : List ℕ = field 2 size ++ fifth in
    let third : List ℕ = field 8 offset ++ fourth in
    let second : List ℕ = field 4 file ++ third in
    let at_1 : drop 1 text ≡ field 8 number ++ second = refl in
    let at_9 : drop 9 text ≡ second = past_field 8 number 1 9 text second at_1 refl in
    let at_13 : drop 13 text ≡ third = past_field 4 file 9 13 text third at_9 refl in
    let at_21 : drop 21 text ≡ fourth = past_field 8 offset 13 21 text fourth at_13 refl in
    let at_23 : drop 23 text ≡ fifth = past_field 2 size 21 23 text fifth at_21 refl in
    let at_25 : drop 25 text ≡ bytes = past_field 2 (length bytes) 23 25 text bytes at_23 refl in
    let small : size < 256 ^ 2 = omega (arith, few) in
    let short : length bytes < 256 ^ 2 = omega (arith, few, right.within) in
    gives_bytes-of text bytes number file offset size (length-gives_bytes number file offset size bytes)
    (field_at-spelled 8 number 1 text second at_1 place.number_fits)
    (field_at-spelled 4 file 9 text third at_9 place.file_fits)
    (field_at-spelled 8 offset 13 text fourth at_13 place.offset_fits)
    (field_at-spelled 2 size 21 text fifth at_21 small)
    (field_at-spelled 2 (length bytes) 23 text bytes at_23 short) at_25 place.size_fits right.within

asks_name-text : (number : ℕ) (name : List ℕ) → IsNaming number name
    → asks_name_in (message_text (AsksName number name)) ≡ Some (AsksName number name)
unfolding message_text
asks_name-text number name right =
    let text = message_text (AsksName number name) in
    let named = right.named in
    let second : List ℕ = field 1 (length name) ++ name in
    let at_1 : drop 1 text ≡ field 8 number ++ second = refl in
    let at_9 : drop 9 text ≡ second = past_field 8 number 1 9 text second at_1 refl in
    let at_10 : drop 10 text ≡ name = past_field 1 (length name) 9 10 text name at_9 refl in
    let short : length name < 256 ^ 1 = omega (arith, named.few) in
    asks_name-of text name number (length-asks_name number name)
    (field_at-spelled 8 number 1 text second at_1 right.number_fits)
    (field_at-spelled 1 (length name) 9 text name at_9 short) at_10 named.some (is_utf8-from_IsUtf8 name named.text)

gives_file-text : (number file : ℕ) → IsNumbered number file
    → gives_file_in (message_text (GivesFile number file)) ≡ Some (GivesFile number file)
unfolding message_text
gives_file-text number file right =
    let text = message_text (GivesFile number file) in
    let at_1 : drop 1 text ≡ field 8 number ++ field 4 file = refl in
    let at_9 : drop 9 text ≡ field 4 file = past_field 8 number 1 9 text (field 4 file) at_1 refl in
    gives_file-of text number file (length-gives_file number file)
    (field_at-spelled 8 number 1 text (field 4 file) at_1 right.number_fits)
    (field_at-spelled 4 file 9 text [] (at_9 ∙ sym (append-nil (field 4 file))) right.file_fits)

says_failed-text : (number : ℕ) → number < 2 ^ 64
    → says_failed_in (message_text (SaysFailed number)) ≡ Some (SaysFailed number)
unfolding message_text
says_failed-text number fits =
    let text = message_text (SaysFailed number) in
    says_failed-of text number (length-says_failed number)
    (field_at-spelled 8 number 1 text [] (sym (append-nil (field 8 number))) fits)

-- the kind in the first byte says which question or answer is read
pub message_in-text : (m : MessageSeen) → IsMessage m → message_in (message_text m) ≡ Some m
unfolding message_in message_text
message_in-text (AsksBytes number file offset size) right = asks_bytes-text number file offset size right
message_in-text (GivesBytes number file offset size bytes) right = gives_bytes-text number file offset size bytes right
message_in-text (AsksName number name) right = asks_name-text number name right
message_in-text (GivesFile number file) right = gives_file-text number file right
message_in-text (SaysFailed number) right = says_failed-text number right

-- no message is longer than the 1,280 bytes that a link carries
pub message_text-fits : (m : MessageSeen) → IsMessage m → length (message_text m) ≤ 1280
message_text-fits (AsksBytes number file offset size) right = omega (arith, length-asks_bytes number file offset size)
message_text-fits (GivesBytes number file offset size bytes) right =
    omega (
      arith,
      length-gives_bytes number file offset size bytes,
      right.within,
      (size_range size right.asking.size_fits).1,
    )
message_text-fits (AsksName number name) right = omega (arith, length-asks_name number name, right.named.few)
message_text-fits (GivesFile number file) right = omega (arith, length-gives_file number file)
message_text-fits (SaysFailed number) right = omega (arith, length-says_failed number)
