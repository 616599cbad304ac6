-- The first line of bytes, found by looking at one byte after the other.
use Rattle.std.proofs.Common.{◌≡◌, ℕ, suc, ◌+◌, ◌<◌, ◌==◌, false, List, [], ◌∷◌, ◌++◌, length, get_or, take, drop, Some, None, refl, sym, ap, ◌∙◌, add-one}
use Rattle.std.proofs.Math.Seq.{drop-cons}
use Rattle.std.proofs.lemmas.Bool.{cond-false, ne_eqb, or_parts, or_from}
use Rattle.std.proofs.lemmas.List.{take_more, take-append-drop}
use Rattle.std.proofs.lemmas.List.Folds.{list_any-append}
use Rattle.audit_lines.specs.Places.{has_line_feed, with_front, first_line}
use Rattle.audit_lines.specs.TextLaws.{first_line_is}

-- one more byte that ends no line
pub no_feed_more : (text : List ℕ) (i : ℕ) → i < length text → has_line_feed (take i text) ≡ false
    → (get_or text i 0 ≡ 10 → ⊥) → has_line_feed (take (i + 1) text) ≡ false
no_feed_more text i within none other =
    ap has_line_feed (take_more text i 0 within)
    ∙ list_any-append (λ c. c == 10) (take i text) (get_or text i 0 ∷ [])
    ∙ or_from (has_line_feed (take i text)) (has_line_feed (get_or text i 0 ∷ [])) none
    (or_from (get_or text i 0 == 10) false (ne_eqb (get_or text i 0) 10 other) refl)

pub first_at : (text : List ℕ) (i : ℕ) → i < length text → has_line_feed (take i text) ≡ false → get_or text i 0 ≡ 10
    → first_line text ≡ Some (record { line = take i text; rest = drop (i + 1) text })
first_at text i within none feed =
    let behind : drop i text ≡ 10 ∷ drop (i + 1) text = drop-cons text i 0 within
    ∙ ap (λ (c : ℕ). c ∷ drop (suc i) text) feed ∙ ap (λ (n : ℕ). 10 ∷ drop n text) (sym (add-one i)) in
    let whole : text ≡ take i text ++ (10 ∷ drop (i + 1) text) = sym (take-append-drop i text)
    ∙ ap (λ (rest : List ℕ). take i text ++ rest) behind in
    ap first_line whole ∙ first_line_is (take i text) (drop (i + 1) text) none

pub none_first : (text : List ℕ) → has_line_feed text ≡ false → first_line text ≡ None
none_first [] none = refl
none_first (c ∷ cs) none =
    let parts = or_parts (c == 10) (has_line_feed cs) none in
    cond-false (c == 10) (Some (record { line = []; rest = cs })) (with_front c (first_line cs)) parts.0
    ∙ ap (with_front c) (none_first cs parts.1)
