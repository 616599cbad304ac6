-- The third line of a frame's text has its answers.
use Rattle.std.proofs.Common.{◌≡◌, ℕ, suc, ◌^◌, ◌<◌, ◌≤◌, List, [], ◌∷◌, ◌++◌, length, map, refl, sym, ap, subst, ◌∙◌, append_assoc}
use Rattle.std.specs.Prelude.{codes}
use Rattle.std.specs.Fmt.{decimal}
use Rattle.std.specs.List.{AllByRecursion, flat_map}
use Rattle.text_model.specs.Lines.{decimals}
use Rattle.text_model.specs.FrameText.{Frame, try_text, head_line, cut_line, tries_line, patches_line, triangle_line, front_lines, frame_text}
use Rattle.audit_lines.specs.Places.{StandsAhead}
use Rattle.audit_spelling.specs.Words.{spaced_words, line_with, IsPlain, AreWords}
use Rattle.audit_spelling.specs.WordLaws.{written_is_one_line, line_with_is}
use Rattle.audit_spelling.specs.NumberSpellings.{decimal_plain}
use Rattle.audit_spelling.specs.Spellings.{tries_words, AreTries}
use Rattle.audit_spelling.specs.TryLaws.{tries_spell}
use Rattle.audit_frames.specs.Answers.{IsPrintable}

-- a line of words stands first in its text
stands_here : (words : List (List ℕ)) (rest : List ℕ) → AreWords words
    → StandsAhead 0 (spaced_words words) (line_with words ++ rest)
stands_here words rest are = (rest, append_assoc (spaced_words words) (10 ∷ []) rest, written_is_one_line words are)

-- what stands so many lines on in a text stands one line further on behind one more line
stands_behind : (words : List (List ℕ)) (lines : ℕ) (line rest : List ℕ) → AreWords words → StandsAhead lines line rest
    → StandsAhead (suc lines) line (line_with words ++ rest)
stands_behind words lines line rest are stands =
    (spaced_words words, rest, append_assoc (spaced_words words) (10 ∷ []) rest, written_is_one_line words are, stands)

decimals_plain : (ns : List ℕ) → AllByRecursion (λ n. n < 10 ^ 64) ns → AllByRecursion IsPlain (decimals ns)
decimals_plain [] few = tt
decimals_plain (n ∷ ns) few = (decimal_plain n few.0, decimals_plain ns few.1)

module _ (open_edges : ℕ) (f : Frame) (printable : IsPrintable open_edges f) where
  abbrev head_words : List (List ℕ)
  head_words = codes "frame" ∷ decimal f.session ∷ decimal f.number ∷ codes "nodes" ∷ decimal
      (length f.cut) ∷ codes "patches" ∷ decimal (length f.patches) ∷ codes "triangles" ∷ decimal
      (length f.triangles) ∷ codes "open" ∷ decimal open_edges ∷ []

  head_are : AreWords head_words
  head_are = record {
    first = tt;
    plain = (
      refl,
      (
        decimal_plain f.session printable.session,
        (
          decimal_plain f.number printable.number,
          (
            refl,
            (
              decimal_plain (length f.cut) printable.nodes,
              (
                refl,
                (
                  decimal_plain (length f.patches) printable.patches,
                  (
                    refl,
                    (
                      decimal_plain (length f.triangles) printable.triangles,
                      (refl, (decimal_plain open_edges printable.open_edges_few, tt)),
                    ),
                  ),
                ),
              ),
            ),
          ),
        ),
      ),
    );
  }

  abbrev cut_words : List (List ℕ)
  cut_words = codes "cut" ∷ decimals f.cut

  cut_are : AreWords cut_words
  cut_are = record { first = tt; plain = (refl, decimals_plain f.cut printable.cut) }

  abbrev behind_tries : List ℕ
  behind_tries = patches_line f.patches ++ flat_map triangle_line f.triangles

  -- the text line by line
  text_is : frame_text open_edges f ≡ line_with head_words ++
      (line_with cut_words ++ (line_with (tries_words f.tries) ++ behind_tries))
  unfolding frame_text front_lines head_line cut_line tries_line
  text_is =
      let triangles = flat_map triangle_line f.triangles in
      append_assoc (head_line open_edges f) (cut_line f.cut ++ (tries_line f.tries ++ patches_line f.patches)) triangles
      ∙ ap (λ (rest : List ℕ). head_line open_edges f ++ rest)
      (append_assoc (cut_line f.cut) (tries_line f.tries ++ patches_line f.patches) triangles
      ∙ ap (λ (rest : List ℕ). cut_line f.cut ++ rest)
      (append_assoc (tries_line f.tries) (patches_line f.patches) triangles))
      ∙ ap (λ (line : List ℕ). line ++ (cut_line f.cut ++ (tries_line f.tries ++ behind_tries)))
      (sym (line_with_is (codes "frame")
      (decimal f.session ∷ decimal f.number ∷ codes "nodes" ∷ decimal (length f.cut) ∷ codes "patches" ∷ decimal
      (length f.patches) ∷ codes "triangles" ∷ decimal
      (length f.triangles) ∷ codes "open" ∷ decimal open_edges ∷ [])))
      ∙ ap (λ (line : List ℕ). line_with head_words ++ (line ++ (tries_line f.tries ++ behind_tries)))
      (sym (line_with_is (codes "cut") (decimals f.cut)))
      ∙ ap (λ (line : List ℕ). line_with head_words ++ (line_with cut_words ++ (line ++ behind_tries)))
      (sym (line_with_is (codes "tries") (map try_text f.tries)))

  pub third_line : (patches : ℕ) → 1 ≤ patches → patches ≤ 10 ^ 19 → AreTries patches f.tries
      → StandsAhead 2 (spaced_words (tries_words f.tries)) (frame_text open_edges f)
  third_line patches some few tries =
      let words : AreWords (tries_words f.tries) = record
      { first = tt; plain = (tries_spell patches some few).plain f.tries tries } in
      let line = spaced_words (tries_words f.tries) in
      subst (StandsAhead 2 line) (sym text_is)
      (stands_behind head_words 1 line
      (line_with cut_words ++ (line_with (tries_words f.tries) ++ behind_tries)) head_are
      (stands_behind cut_words 0 line (line_with (tries_words f.tries) ++ behind_tries) cut_are
      (stands_here (tries_words f.tries) behind_tries words)))
