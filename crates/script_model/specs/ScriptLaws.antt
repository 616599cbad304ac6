-- The lines of a script have ascending numbers, and each order is allowed in its turn.
use Rattle.std.specs.Prelude.{◌≡◌, ℕ, ◌+◌, ◌<◌, Bool, true, false, not, ◌&&◌, List, [], ◌∷◌, ◌++◌, length, Option, Some, None, Result, Ok, Err, nat_lt, refl, if◌then◌else◌}
use Rattle.std.proofs.Common.{subst, arith}
use Rattle.std.specs.List.{list_all}
use Rattle.std.specs.Option.{option_to_list}
use Rattle.std.proofs.lemmas.Bool.{lt-ltb, ltb-true, and_parts}
use Rattle.text_model.specs.declared.faults.ScriptFault.{ScriptFault}
use Rattle.text_model.specs.declared.faults.ScriptFault.TheVariants.{TooLong, NotText, SessionOut, AlreadyThere, NotThere, NoView, NoTier, PlayOnly}
use Rattle.script_model.specs.declared.limits.TheConstants.{MOST_SCRIPT}
use Rattle.script_model.specs.declared.modes.Mode.{Mode}
use Rattle.script_model.specs.declared.modes.Mode.TheVariants.{Play}
use Rattle.script_model.specs.declared.orders.Line.{Line}
use Rattle.script_model.specs.declared.orders.Order.{Order}
use Rattle.script_model.specs.ScriptLines.{lines_of, words_of, is_text_byte}
use Rattle.script_model.specs.Orders.{◌>>=◌}
use Rattle.script_model.specs.Histories.{History, no_sessions, history_after}
use Rattle.script_model.specs.OrderFaults.{names_no_session, opens_again, names_closed, lacks_view, names_no_tier, is_left_out, order_fault, allows}
use Rattle.script_model.specs.Scripts.{line_unless, spelt_in, words_in, line_in, history_behind, lines_in, script_in, are_lines_from, AreLines}

-- where no test of a chain holds, the chain gives nothing, and the other way round
none_of_six : {E : Type 0} (a b c d e f : Bool) (u v w x y z : E)
    → (if a then Some u else if b then Some v else if c then Some w else if d then Some x else if e then Some y else if f then Some z else None) ≡ None
    → (not a && not b && not c && not d && not e && not f) ≡ true
none_of_six true b c d e f u v w x y z is = absurd cc
none_of_six false true c d e f u v w x y z is = absurd cc
none_of_six false false true d e f u v w x y z is = absurd cc
none_of_six false false false true e f u v w x y z is = absurd cc
none_of_six false false false false true f u v w x y z is = absurd cc
none_of_six false false false false false true u v w x y z is = absurd cc
none_of_six false false false false false false u v w x y z is = refl

six_of_none : {E : Type 0} (a b c d e : Bool) (u v w x y z : E) → (not a && not b && not c && not d && not e) ≡ true
    → (if a then Some u else if b then Some v else if c then Some w else if d then Some x else if e then Some y else if false then Some z else None) ≡ None
six_of_none true b c d e u v w x y z is = absurd cc
six_of_none false true c d e u v w x y z is = absurd cc
six_of_none false false true d e u v w x y z is = absurd cc
six_of_none false false false true e u v w x y z is = absurd cc
six_of_none false false false false true u v w x y z is = absurd cc
six_of_none false false false false false u v w x y z is = refl

-- an order without a fault is allowed, and one for a script of its mode
pub faultless : (mode : Mode) (tiers : ℕ) (history : History) (number : ℕ) (order : Order) → order_fault mode tiers history number order ≡ None → (allows tiers history order && not (is_left_out mode order)) ≡ true
unfolding order_fault allows
faultless mode tiers history number order is =
    none_of_six (names_no_session order) (opens_again history order) (names_closed history order) (lacks_view history order) (names_no_tier tiers order) (is_left_out mode order) (SessionOut number) (AlreadyThere number) (NotThere number) (NoView number) (NoTier number) (PlayOnly number) is

-- an order that is allowed has no fault in a script that is played
pub allowed-faultless : (tiers : ℕ) (history : History) (number : ℕ) (order : Order) → allows tiers history order ≡ true → order_fault Play tiers history number order ≡ None
unfolding order_fault allows
allowed-faultless tiers history number order is =
    six_of_none (names_no_session order) (opens_again history order) (names_closed history order) (lacks_view history order) (names_no_tier tiers order) (SessionOut number) (AlreadyThere number) (NotThere number) (NoView number) (NoTier number) (PlayOnly number) is

pub faultless_in_play : (tiers : ℕ) (history : History) (number : ℕ) (order : Order) → order_fault Play tiers history number order ≡ None → allows tiers history order ≡ true
faultless_in_play tiers history number order is = (and_parts (allows tiers history order) true (faultless Play tiers history number order is)).0

-- a line that was read has this number, and its order has no fault
record IsLine (mode : Mode) (tiers : ℕ) (history : History) (number : ℕ) (line : Line) : Type 0 where
  numbered : line.number ≡ number
  allowed : (allows tiers history line.order && not (is_left_out mode line.order)) ≡ true

unless_line : (mode : Mode) (tiers : ℕ) (history : History) (number : ℕ) (order : Order) (fault : Option ScriptFault) (line : Line) → order_fault mode tiers history number order ≡ fault → line_unless number order fault ≡ Ok (Some line) → IsLine mode tiers history number line
unless_line mode tiers history number order None line none_there e =
    let same : record { number = number; order = order } ≡ line = cc in
    subst (IsLine mode tiers history number) same (record { numbered = refl; allowed = faultless mode tiers history number order none_there })
unless_line mode tiers history number order (Some fault) line is e = absurd cc

spelt_line : (mode : Mode) (tiers : ℕ) (history : History) (number : ℕ) (spelt : Result Order ScriptFault) (line : Line)
    → (spelt >>= λ order. line_unless number order (order_fault mode tiers history number order)) ≡ Ok (Some line) → IsLine mode tiers history number line
spelt_line mode tiers history number (Ok order) line e = unless_line mode tiers history number order (order_fault mode tiers history number order) line refl e
spelt_line mode tiers history number (Err fault) line e = absurd cc

words_line : (mode : Mode) (tiers : ℕ) (history : History) (number : ℕ) (words : List (List ℕ)) (line : Line) → words_in mode tiers history number words ≡ Ok (Some line) → IsLine mode tiers history number line
unfolding words_in
words_line mode tiers history number [] line e = absurd cc
words_line mode tiers history number (word ∷ words) line e = spelt_line mode tiers history number (spelt_in number (word ∷ words)) line e

text_line : (mode : Mode) (tiers : ℕ) (history : History) (number : ℕ) (is_text : Bool) (words : List (List ℕ)) (line : Line)
    → (if is_text then words_in mode tiers history number words else Err (NotText number)) ≡ Ok (Some line) → IsLine mode tiers history number line
text_line mode tiers history number true words line e = words_line mode tiers history number words line e
text_line mode tiers history number false words line e = absurd cc

line_is : (mode : Mode) (tiers : ℕ) (history : History) (number : ℕ) (bytes : List ℕ) (line : Line) → line_in mode tiers history number bytes ≡ Ok (Some line) → IsLine mode tiers history number line
unfolding line_in
line_is mode tiers history number bytes line e = text_line mode tiers history number (list_all is_text_byte bytes) (words_of bytes) line e

-- what stands before others is followed by them
record IsFollowed (read : Result (List Line) ScriptFault) (front lines : List Line) : Type 0 where
  others : List Line
  is : read ≡ Ok others
  whole : front ++ others ≡ lines

followed : (read : Result (List Line) ScriptFault) (front lines : List Line) → (read >>= λ others. Ok (front ++ others)) ≡ Ok lines → IsFollowed read front lines
followed (Ok others) front lines e = record { others = others; is = refl; whole = cc }
followed (Err fault) front lines e = absurd cc

-- four tests that hold, the middle two together
all_four : (a b c d : Bool) → a ≡ true → (b && c) ≡ true → d ≡ true → (a && b && c && d) ≡ true
all_four true true true true is_a is_bc is_d = refl
all_four false b c d is_a is_bc is_d = absurd cc
all_four true false c d is_a is_bc is_d = absurd cc
all_four true true false d is_a is_bc is_d = absurd cc
all_four true true true false is_a is_bc is_d = absurd cc

-- the lines behind one that was read
behind_line : (mode : Mode) (tiers : ℕ) (history : History) (above number : ℕ) (read : Result (Option Line) ScriptFault) (rest : History → Result (List Line) ScriptFault) (lines : List Line)
    → ((line : Line) → read ≡ Ok (Some line) → IsLine mode tiers history number line)
    → ((h : History) (a : ℕ) (ls : List Line) → a < number + 1 → rest h ≡ Ok ls → are_lines_from mode tiers h a ls ≡ true)
    → above < number → (read >>= λ line. rest (history_behind history line) >>= λ ls. Ok (option_to_list line ++ ls)) ≡ Ok lines → are_lines_from mode tiers history above lines ≡ true
unfolding are_lines_from
behind_line mode tiers history above number (Err fault) rest lines reads goes below e = absurd cc
behind_line mode tiers history above number (Ok None) rest lines reads goes below e =
    let f = followed (rest history) [] lines e in
    subst (λ ls. are_lines_from mode tiers history above ls ≡ true) f.whole (goes history above f.others (omega arith) f.is)
behind_line mode tiers history above number (Ok (Some line)) rest lines reads goes below e =
    let f = followed (rest (history_after history line.order)) (line ∷ []) lines e in
    let is = reads line refl in
    let first : nat_lt above line.number ≡ true = lt-ltb above line.number (omega (arith, is.numbered)) in
    let others = goes (history_after history line.order) line.number f.others (omega (arith, is.numbered)) f.is in
    subst (λ ls. are_lines_from mode tiers history above ls ≡ true) f.whole (all_four (nat_lt above line.number) (allows tiers history line.order) (not (is_left_out mode line.order)) (are_lines_from mode tiers (history_after history line.order) line.number f.others) first is.allowed others)

lines_are : (mode : Mode) (tiers : ℕ) (pieces : List (List ℕ)) (history : History) (above number : ℕ) (lines : List Line) → above < number → lines_in mode tiers history number pieces ≡ Ok lines → are_lines_from mode tiers history above lines ≡ true
unfolding lines_in are_lines_from
lines_are mode tiers [] history above number lines below e = let none_left : [] ≡ lines = cc in subst (λ ls. are_lines_from mode tiers history above ls ≡ true) none_left refl
lines_are mode tiers (bytes ∷ others) history above number lines below e =
    behind_line mode tiers history above number (line_in mode tiers history number bytes) (λ h. lines_in mode tiers h (number + 1) others) lines
    (λ line is. line_is mode tiers history number bytes line is)
    (λ h a ls less is. lines_are mode tiers others h a (number + 1) ls less is)
    below e

script_lines : (mode : Mode) (tiers : ℕ) (too_long : Bool) (bytes : List ℕ) (lines : List Line) → (if too_long then Err TooLong else lines_in mode tiers no_sessions 1 (lines_of bytes)) ≡ Ok lines → AreLines mode tiers lines
script_lines mode tiers true bytes lines e = absurd cc
script_lines mode tiers false bytes lines e = lines_are mode tiers (lines_of bytes) no_sessions 0 1 lines (omega arith) e

-- what lines of a byte string give may be the lines of a script
pub are_lines : (mode : Mode) (tiers : ℕ) (bytes : List ℕ) (lines : List Line) → lines_in mode tiers no_sessions 1 (lines_of bytes) ≡ Ok lines → AreLines mode tiers lines
are_lines mode tiers bytes lines e = lines_are mode tiers (lines_of bytes) no_sessions 0 1 lines (omega arith) e

pub script_are_lines : (mode : Mode) (tiers : ℕ) (bytes : List ℕ) (lines : List Line) → script_in mode tiers bytes ≡ Ok lines → AreLines mode tiers lines
unfolding script_in
script_are_lines mode tiers bytes lines e = script_lines mode tiers (nat_lt MOST_SCRIPT (length bytes)) bytes lines e

-- the first of several lines: its number is above, its order may stand here, and the others may stand behind it
pub record StandsFirst (mode : Mode) (tiers : ℕ) (history : History) (above : ℕ) (line : Line) (lines : List Line) : Type 0 where
  pub ascends : above < line.number
  pub allowed : allows tiers history line.order ≡ true
  pub kept_in : is_left_out mode line.order ≡ false
  pub others : are_lines_from mode tiers (history_after history line.order) line.number lines ≡ true

stands : (mode : Mode) (tiers : ℕ) (history : History) (above : ℕ) (line : Line) (lines : List Line) (a b c d : Bool)
    → nat_lt above line.number ≡ a → allows tiers history line.order ≡ b → is_left_out mode line.order ≡ c → are_lines_from mode tiers (history_after history line.order) line.number lines ≡ d
    → (a && b && not c && d) ≡ true → StandsFirst mode tiers history above line lines
stands mode tiers history above line lines true true false true is_a is_b is_c is_d is = record { ascends = ltb-true above line.number is_a; allowed = is_b; kept_in = is_c; others = is_d }
stands mode tiers history above line lines false b c d is_a is_b is_c is_d is = absurd cc
stands mode tiers history above line lines true false c d is_a is_b is_c is_d is = absurd cc
stands mode tiers history above line lines true true true d is_a is_b is_c is_d is = absurd cc
stands mode tiers history above line lines true true false false is_a is_b is_c is_d is = absurd cc

-- of lines that may be a script's, the first may stand there
pub first_stands : (mode : Mode) (tiers : ℕ) (history : History) (above : ℕ) (line : Line) (lines : List Line) → are_lines_from mode tiers history above (line ∷ lines) ≡ true → StandsFirst mode tiers history above line lines
unfolding are_lines_from
first_stands mode tiers history above line lines is =
    stands mode tiers history above line lines (nat_lt above line.number) (allows tiers history line.order) (is_left_out mode line.order) (are_lines_from mode tiers (history_after history line.order) line.number lines) refl refl refl refl is
