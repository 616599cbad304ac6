-- Lines that are read one after another.
use Rattle.std.proofs.Common.{◌≡◌, ℕ, ◌+◌, ◌<◌, ◌≤◌, List, [], ◌++◌, length, get_or, drop, Option, Result, Ok, Err, refl, sym, ap, ◌∙◌, append_assoc, append-nil}
use Rattle.std.specs.Option.{option_to_list}
use Rattle.std.proofs.lemmas.List.{at_drop_more, at_drop_all}
use Rattle.text_model.specs.declared.faults.ScriptFault.{ScriptFault}
use Rattle.script_model.specs.declared.modes.Mode.{Mode}
use Rattle.script_model.specs.declared.orders.Line.{Line}
use Rattle.script_model.specs.Orders.{◌>>=◌}
use Rattle.script_model.specs.Histories.{History}
use Rattle.script_model.specs.Scripts.{line_in, history_behind, lines_in}
use Rattle.view_script.specs.declared.refusals.ScriptRefusal.{ScriptRefusal}
use Rattle.view_script.specs.declared.refusals.ScriptRefusal.TheVariants.{Script, ReadFault, Memory}
use Rattle.view_script.specs.Answers.{Refuses}

-- what is read behind these lines
abbrev pub with_front : List Line → Result (List Line) ScriptFault → Result (List Line) ScriptFault
with_front front read = read >>= λ lines. Ok (front ++ lines)

pub with_front-nil : (read : Result (List Line) ScriptFault) → with_front [] read ≡ read
with_front-nil (Ok lines) = refl
with_front-nil (Err fault) = refl

front_moves : (front mid : List Line) (others : Result (List Line) ScriptFault) → with_front front (others >>= λ lines. Ok (mid ++ lines)) ≡ with_front (front ++ mid) others
front_moves front mid (Ok lines) = ap Ok (sym (append_assoc front mid lines))
front_moves front mid (Err fault) = refl

-- the first line and those behind it
abbrev behind : Result (Option Line) ScriptFault → (Option Line → Result (List Line) ScriptFault) → Result (List Line) ScriptFault
behind first others = first >>= λ line. others line >>= λ lines. Ok (option_to_list line ++ lines)

first_read : (front : List Line) (first : Result (Option Line) ScriptFault) (others : Option Line → Result (List Line) ScriptFault) (read : Option Line) → first ≡ Ok read → with_front front (behind first others) ≡ with_front (front ++ option_to_list read) (others read)
first_read front first others read is = ap (λ f. with_front front (behind f others)) is ∙ front_moves front (option_to_list read) (others read)

-- the line at this place was read
pub line_read : (mode : Mode) (tiers : ℕ) (history : History) (number : ℕ) (pieces : List (List ℕ)) (n : ℕ) (piece : List ℕ) (front : List Line) (whole : Result (List Line) ScriptFault) (read : Option Line)
    → n < length pieces → piece ≡ get_or pieces n piece → line_in mode tiers history number piece ≡ Ok read
    → whole ≡ with_front front (lines_in mode tiers history number (drop n pieces))
    → whole ≡ with_front (front ++ option_to_list read) (lines_in mode tiers (history_behind history read) (number + 1) (drop (n + 1) pieces))
unfolding lines_in
line_read mode tiers history number pieces n piece front whole read within here is so_far =
    so_far ∙ ap (with_front front) (at_drop_more (lines_in mode tiers history number) pieces n piece within)
    ∙ first_read front (line_in mode tiers history number (get_or pieces n piece)) (λ line. lines_in mode tiers (history_behind history line) (number + 1) (drop (n + 1) pieces)) read
    (ap (line_in mode tiers history number) (sym here) ∙ is)

-- the line at this place has a fault
pub line_faulty : (mode : Mode) (tiers : ℕ) (history : History) (number : ℕ) (pieces : List (List ℕ)) (n : ℕ) (piece : List ℕ) (front : List Line) (whole : Result (List Line) ScriptFault) (fault : ScriptFault)
    → n < length pieces → piece ≡ get_or pieces n piece → line_in mode tiers history number piece ≡ Err fault
    → whole ≡ with_front front (lines_in mode tiers history number (drop n pieces)) → whole ≡ Err fault
unfolding lines_in
line_faulty mode tiers history number pieces n piece front whole fault within here is so_far =
    so_far ∙ ap (with_front front) (at_drop_more (lines_in mode tiers history number) pieces n piece within)
    ∙ ap (λ f. with_front front (behind f (λ line. lines_in mode tiers (history_behind history line) (number + 1) (drop (n + 1) pieces))))
    (ap (line_in mode tiers history number) (sym here) ∙ is)

-- the refusal of the line at this place is one of the script
pub line_refused : (mode : Mode) (tiers : ℕ) (history : History) (number : ℕ) (pieces : List (List ℕ)) (n : ℕ) (piece : List ℕ) (front : List Line) (whole : Result (List Line) ScriptFault) (refusal : ScriptRefusal)
    → n < length pieces → piece ≡ get_or pieces n piece → Refuses refusal (line_in mode tiers history number piece)
    → whole ≡ with_front front (lines_in mode tiers history number (drop n pieces)) → Refuses refusal whole
line_refused mode tiers history number pieces n piece front whole (Script fault) within here is so_far = line_faulty mode tiers history number pieces n piece front whole fault within here is so_far
line_refused mode tiers history number pieces n piece front whole ReadFault within here is so_far = tt
line_refused mode tiers history number pieces n piece front whole Memory within here is so_far = tt

-- no line is left
pub lines_read : (mode : Mode) (tiers : ℕ) (history : History) (number : ℕ) (pieces : List (List ℕ)) (n : ℕ) (front : List Line) (whole : Result (List Line) ScriptFault)
    → length pieces ≤ n → whole ≡ with_front front (lines_in mode tiers history number (drop n pieces)) → whole ≡ Ok front
unfolding lines_in
lines_read mode tiers history number pieces n front whole past so_far =
    so_far ∙ ap (with_front front) (at_drop_all (lines_in mode tiers history number) pieces n past) ∙ ap Ok (append-nil front)
