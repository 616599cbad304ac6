-- A string of bytes that is read as a message is that message's bytes, and the message's numbers are in range.
use Rattle.std.proofs.Common.{◌≡◌, ℕ, ◌+◌, ◌<◌, ◌≤◌, Bool, true, false, cond, List, length, drop, refl, sym, subst}
use Rattle.std.proofs.Common.{arith}
use Rattle.std.proofs.Common.{Option, Some, None}
use Rattle.std.specs.Prelude.{slice_index, nat_le, ◌==◌, ◌&&◌}
use Rattle.std.specs.Str.{is_utf8}
use Rattle.std.proofs.lemmas.Bool.{leb-true, eqb-true, and_parts}
use Rattle.std.proofs.lemmas.List.{length-drop}
use Rattle.std.proofs.lemmas.Str.{IsUtf8-from_is_utf8}
use Rattle.file_laws.specs.Numbers.{IsBytes-drop}
use Rattle.view_outside.specs.Files.{AreBytes}
use Rattle.view_outside.specs.Messages.{MessageSeen, AsksBytes, GivesBytes, AsksName, GivesFile, SaysFailed}
use Rattle.view_outside.specs.Messages.{is_size, IsMessage, field_at}
use Rattle.view_outside.specs.Messages.{message_text, asks_bytes_in, has_bytes, gives_bytes_in, has_name_size}
use Rattle.view_outside.specs.Messages.{asks_name_in}
use Rattle.view_outside.specs.Messages.{gives_file_in, says_failed_in, message_in}
use Rattle.link_messages.specs.Fields.{field_at-fits, field_spells, last_spells, kind_spells}

-- the bytes are those of the message, which is one
pub record IsSpelled (m : MessageSeen) (bytes : List ℕ) : Type 0 where
  pub text : message_text m ≡ bytes
  pub right : IsMessage m

-- what a test lets through is what it gives
some_of : {X : Type 0} (test : Bool) (x m : X) → cond test (Some x) None ≡ Some m → (test ≡ true) × (x ≡ m)
some_of true x m is = (refl, cc)
some_of false x m is = cc

-- a message of this kind is spelled where its own reading gave it
from_kind : (bytes : List ℕ) (read : Option MessageSeen) (other : Option MessageSeen) (test : Bool) (m : MessageSeen)
    → cond test read other ≡ Some m → (test ≡ true → read ≡ Some m → IsSpelled m bytes)
    → (other ≡ Some m → IsSpelled m bytes) → IsSpelled m bytes
from_kind bytes read other true m is here there = here refl is
from_kind bytes read other false m is here there = there is

asks_bytes-spells : (bytes : List ℕ) (m : MessageSeen) → AreBytes bytes → slice_index bytes 0 ≡ 1
    → asks_bytes_in bytes ≡ Some m → IsSpelled m bytes
unfolding asks_bytes_in message_text
asks_bytes-spells bytes m are kind is =
    let got = some_of ((length bytes == 23) && is_size (field_at 2 21 bytes)) _ m is in
    let tests = and_parts (length bytes == 23) (is_size (field_at 2 21 bytes)) got.0 in
    let long : length bytes ≡ 23 = eqb-true (length bytes) 23 tests.0 in
    let spelled : IsSpelled (AsksBytes (field_at 8 1 bytes) (field_at 4 9 bytes) (field_at 8 13 bytes)
    (field_at 2 21 bytes)) bytes =
    record {
      text = rw (
        last_spells 2 21 bytes are (sym long),
        field_spells 8 13 21 bytes are refl (omega arith),
        field_spells 4 9 13 bytes are refl (omega arith),
        field_spells 8 1 9 bytes are refl (omega arith),
      )
          (kind_spells 1 bytes kind (omega arith));
      right = record {
        number_fits = field_at-fits 8 1 bytes are;
        file_fits = field_at-fits 4 9 bytes are;
        offset_fits = field_at-fits 8 13 bytes are;
        size_fits = tests.1;
      };
    } in
    subst (λ (k : MessageSeen). IsSpelled k bytes) got.1 spelled

gives_bytes-spells : (bytes : List ℕ) (m : MessageSeen) → AreBytes bytes → slice_index bytes 0 ≡ 2
    → gives_bytes_in bytes ≡ Some m → IsSpelled m bytes
unfolding gives_bytes_in message_text
gives_bytes-spells bytes m are kind is =
    let given = drop 25 bytes in
    let size = field_at 2 21 bytes in
    let count = field_at 2 23 bytes in
    let got = some_of (has_bytes bytes) _ m is in
    let first = and_parts (nat_le 25 (length bytes))
    (is_size size && (nat_le count size && (length bytes == 25 + count))) got.0 in
    let second = and_parts (is_size size) (nat_le count size && (length bytes == 25 + count)) first.1 in
    let third = and_parts (nat_le count size) (length bytes == 25 + count) second.1 in
    let there : 25 ≤ length bytes = leb-true 25 (length bytes) first.0 in
    let few : count ≤ size = leb-true count size third.0 in
    let long : length bytes ≡ 25 + count = eqb-true (length bytes) (25 + count) third.1 in
    let counted : length given ≡ count = omega (arith, length-drop 25 bytes) in
    let spelled : IsSpelled (GivesBytes (field_at 8 1 bytes) (field_at 4 9 bytes) (field_at 8 13 bytes) size
    given) bytes =
    record {
      text = rw (
        counted,
        field_spells 2 23 25 bytes are refl (omega arith),
        field_spells 2 21 23 bytes are refl (omega arith),
        field_spells 8 13 21 bytes are refl (omega arith),
        field_spells 4 9 13 bytes are refl (omega arith),
        field_spells 8 1 9 bytes are refl (omega arith),
      )
          (kind_spells 2 bytes kind (omega arith));
      right = record {
        asking = record {
          number_fits = field_at-fits 8 1 bytes are;
          file_fits = field_at-fits 4 9 bytes are;
          offset_fits = field_at-fits 8 13 bytes are;
          size_fits = second.0;
        };
        within = omega arith;
        given = IsBytes-drop 25 bytes are;
      };
    } in
    subst (λ (k : MessageSeen). IsSpelled k bytes) got.1 spelled

asks_name-spells : (bytes : List ℕ) (m : MessageSeen) → AreBytes bytes → slice_index bytes 0 ≡ 3
    → asks_name_in bytes ≡ Some m → IsSpelled m bytes
unfolding asks_name_in message_text
asks_name-spells bytes m are kind is =
    let name = drop 10 bytes in
    let count = field_at 1 9 bytes in
    let got = some_of (has_name_size bytes && is_utf8 name) _ m is in
    let tests = and_parts (has_name_size bytes) (is_utf8 name) got.0 in
    let first = and_parts (nat_le 10 (length bytes)) (nat_le 1 count && (length bytes == 10 + count)) tests.0 in
    let second = and_parts (nat_le 1 count) (length bytes == 10 + count) first.1 in
    let there : 10 ≤ length bytes = leb-true 10 (length bytes) first.0 in
    let some : 1 ≤ count = leb-true 1 count second.0 in
    let long : length bytes ≡ 10 + count = eqb-true (length bytes) (10 + count) second.1 in
    let counted : length name ≡ count = omega (arith, length-drop 10 bytes) in
    let fits : count < 256 = field_at-fits 1 9 bytes are in
    let spelled : IsSpelled (AsksName (field_at 8 1 bytes) name) bytes =
    record {
      text = rw (
        counted,
        field_spells 1 9 10 bytes are refl (omega arith),
        field_spells 8 1 9 bytes are refl (omega arith),
      ) (kind_spells 3 bytes kind (omega arith));
      right = record {
        number_fits = field_at-fits 8 1 bytes are;
        named = record { some = omega arith; few = omega arith; text = IsUtf8-from_is_utf8 name tests.1 };
      };
    } in
    subst (λ (k : MessageSeen). IsSpelled k bytes) got.1 spelled

gives_file-spells : (bytes : List ℕ) (m : MessageSeen) → AreBytes bytes → slice_index bytes 0 ≡ 4
    → gives_file_in bytes ≡ Some m → IsSpelled m bytes
unfolding gives_file_in message_text
gives_file-spells bytes m are kind is =
    let got = some_of (length bytes == 13) _ m is in
    let long : length bytes ≡ 13 = eqb-true (length bytes) 13 got.0 in
    let spelled : IsSpelled (GivesFile (field_at 8 1 bytes) (field_at 4 9 bytes)) bytes =
    record {
      text = rw (last_spells 4 9 bytes are (sym long), field_spells 8 1 9 bytes are refl (omega arith))
          (kind_spells 4 bytes kind (omega arith));
      right = record { number_fits = field_at-fits 8 1 bytes are; file_fits = field_at-fits 4 9 bytes are };
    } in
    subst (λ (k : MessageSeen). IsSpelled k bytes) got.1 spelled

says_failed-spells : (bytes : List ℕ) (m : MessageSeen) → AreBytes bytes → slice_index bytes 0 ≡ 5
    → says_failed_in bytes ≡ Some m → IsSpelled m bytes
unfolding says_failed_in message_text
says_failed-spells bytes m are kind is =
    let got = some_of (length bytes == 9) _ m is in
    let long : length bytes ≡ 9 = eqb-true (length bytes) 9 got.0 in
    let spelled : IsSpelled (SaysFailed (field_at 8 1 bytes)) bytes =
    record {
      text = rw (last_spells 8 1 bytes are (sym long)) (kind_spells 5 bytes kind (omega arith));
      right = field_at-fits 8 1 bytes are;
    } in
    subst (λ (k : MessageSeen). IsSpelled k bytes) got.1 spelled

pub message_in-spells : (bytes : List ℕ) (m : MessageSeen) → AreBytes bytes → message_in bytes ≡ Some m
    → IsSpelled m bytes
unfolding message_in
message_in-spells bytes m are is =
    let kind = slice_index bytes 0 in
    from_kind bytes _ _ (kind == 1) m is (λ k. asks_bytes-spells bytes m are (eqb-true kind 1 k)) (λ not_1.
    from_kind bytes _ _ (kind == 2) m not_1 (λ k. gives_bytes-spells bytes m are (eqb-true kind 2 k)) (λ not_2.
    from_kind bytes _ _ (kind == 3) m not_2 (λ k. asks_name-spells bytes m are (eqb-true kind 3 k)) (λ not_3.
    from_kind bytes _ _ (kind == 4) m not_3 (λ k. gives_file-spells bytes m are (eqb-true kind 4 k)) (λ not_4.
    from_kind bytes _ _ (kind == 5) m not_4 (λ k. says_failed-spells bytes m are (eqb-true kind 5 k)) (λ none. cc)))))
