-- A text that is written piece by piece.
use Rattle.std.proofs.Common.{◌≡◌, ℕ, ◌+◌, ◌-◌, List, length, take, drop, Option, sym, ap, ◌∙◌}
use Rattle.std.proofs.Math.Seq.{take-add}
use Rattle.std.proofs.lemmas.List.{take_rest}
use Rattle.view_outside.specs.Streams.{appended}
use Rattle.view_outside.specs.Written.{appended-after}

-- n bytes more of a text of which i were written
pub bytes_more : (before between after : Option (List ℕ)) (bytes : List ℕ) (i n : ℕ)
    → between ≡ appended before (take i bytes)
    → after ≡ appended between (take n (take (length bytes - i) (drop i bytes)))
    → after ≡ appended before (take (i + n) bytes)
bytes_more before between after bytes i n wrote writes =
    let rest : after ≡ appended between (take n (drop i bytes)) = writes
    ∙ ap (λ (t : List ℕ). appended between (take n t)) (take_rest bytes i) in
    appended-after before between after (take i bytes) (take n (drop i bytes)) wrote rest
    ∙ ap (appended before) (sym (take-add i n bytes))
