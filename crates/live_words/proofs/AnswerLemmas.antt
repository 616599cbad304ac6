-- Answers that are made of parts, one behind another.
use Rattle.std.proofs.Common.{◌≡◌, ℕ, List, [], ◌∷◌, ◌++◌, length, sym, ap, ap₂, ◌∙◌, append_assoc}
use Rattle.std.specs.Prelude.{codes}
use Rattle.file_model.specs.declared.fields.Try.{Try}
use Rattle.text_model.specs.FrameText.{Frame, cut_line, tries_line, patches_line}
use Rattle.text_model.specs.Lines.{Adds, line_of, decimals}
use Rattle.live_model.specs.LiveTexts.{show_line, show_text, given_bytes}

-- a line, bytes and a line feed
pub given_joined : (p q count : ℕ) (bytes given empty first second third : List ℕ) → q ≡ p → count ≡ length bytes
    → given ≡ bytes → empty ≡ [] → Adds empty first (line_of (codes "body") (decimals (q ∷ count ∷ [])))
    → second ≡ first ++ given → Adds second third (10 ∷ []) → third ≡ given_bytes p bytes
unfolding given_bytes
given_joined p q count bytes given empty first second third patch many same none line then last =
    let front : first ≡ line_of (codes "body") (decimals (p ∷ length bytes ∷ [])) =
    line.is ∙ ap₂ (λ (t : List ℕ) (u : List ℕ). t ++ u) none
    (ap₂ (λ (n : ℕ) (m : ℕ). line_of (codes "body") (decimals (n ∷ m ∷ []))) patch many) in
    last.is ∙ ap (λ (t : List ℕ). t ++ (10 ∷ [])) (then ∙ ap₂ (λ (t : List ℕ) (u : List ℕ). t ++ u) front same)
    ∙ append_assoc (line_of (codes "body") (decimals (p ∷ length bytes ∷ []))) bytes (10 ∷ [])

-- the first line and the three behind it
pub shown_joined : (frame : Frame) (cut : List ℕ) (tries : List Try) (patches first text : List ℕ)
    → first ≡ show_line frame → Adds first text (cut_line cut ++ (tries_line tries ++ patches_line patches))
    → frame.cut ≡ cut → frame.tries ≡ tries → frame.patches ≡ patches → text ≡ show_text frame
unfolding show_text
shown_joined frame cut tries patches first text head adds cut_is tries_are patches_are =
    adds.is ∙ ap₂ (λ (t : List ℕ) (u : List ℕ). t ++ u) head
    (ap₂ (λ (t : List ℕ) (u : List ℕ). t ++ u) (ap cut_line (sym cut_is))
    (ap₂ (λ (t : List ℕ) (u : List ℕ). t ++ u) (ap tries_line (sym tries_are)) (ap patches_line (sym patches_are))))
