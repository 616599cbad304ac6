-- A line ahead, reached by passing one line after the other.
use Rattle.std.proofs.Common.{◌≡◌, ℕ, zero, suc, ◌+◌, ◌-◌, ◌<◌, List, Some, None, Ok, Err, ap, ◌∙◌, arith}
use Rattle.audit_lines.specs.declared.faults.AuditFault.TheVariants.{Short}
use Rattle.audit_lines.specs.Places.{Taken, first_line, by_taken, line_ahead}

pub line_passed : (lines passed : ℕ) (rest : List ℕ) (number : ℕ) (first : Taken) → passed < lines
    → first_line rest ≡ Some first → line_ahead (lines - passed) rest number ≡ line_ahead
    (lines - (passed + 1)) first.rest number
line_passed lines passed rest number first more is =
    let left : lines - passed ≡ suc (lines - (passed + 1)) = omega arith in
    ap (λ (n : ℕ). line_ahead n rest number) left ∙ ap
    (by_taken (λ (t : Taken). line_ahead (lines - (passed + 1)) t.rest number) number) is

pub no_line : (lines : ℕ) (rest : List ℕ) (number : ℕ) → first_line rest ≡ None
    → line_ahead lines rest number ≡ Err (Short number)
no_line zero rest number none = ap (by_taken (λ (t : Taken). Ok t.line) number) none
no_line (suc lines) rest number none = ap (by_taken (λ (t : Taken). line_ahead lines t.rest number) number) none

pub line_reached : (lines passed : ℕ) (rest : List ℕ) (number : ℕ) (first : Taken) → passed ≡ lines
    → first_line rest ≡ Some first → line_ahead (lines - passed) rest number ≡ Ok first.line
line_reached lines passed rest number first all is =
    let left : lines - passed ≡ 0 = omega arith in
    ap (λ (n : ℕ). line_ahead n rest number) left ∙ ap (by_taken (λ (t : Taken). Ok t.line) number) is
