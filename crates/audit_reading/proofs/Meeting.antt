-- A text that is due, met byte by byte.
use Rattle.std.proofs.Common.{◌≡◌, ℕ, suc, ◌+◌, ◌<◌, ◌≤◌, ◌==◌, List, ◌∷◌, length, get_or, drop, Ok, Err, sym, ap, ◌∙◌, add-one, arith}
use Rattle.std.proofs.Math.Seq.{drop-cons}
use Rattle.std.proofs.lemmas.Bool.{cond_both, cond-true, cond-false, eq-eqb, ne_eqb}
use Rattle.std.proofs.lemmas.List.{drop_all}
use Rattle.audit_lines.specs.declared.faults.AuditFault.TheVariants.{Short}
use Rattle.audit_lines.specs.Places.{place_at, feeds_of, differs_at, met_at}

-- so many bytes of the text were met, and the line has this number
pub record IsMeeting (text rest : List ℕ) (first at line : ℕ) : Type 0 where
  pub met : met_at text rest first ≡ met_at (drop at text) (drop at rest) line
  pub within : at ≤ length rest
  pub few : line ≤ first + at

met_byte : (c d : ℕ) (cs ds : List ℕ) (line : ℕ) → d ≡ c
    → met_at (c ∷ cs) (d ∷ ds) line ≡ met_at cs ds (feeds_of c + line)
met_byte c d cs ds line same = cond-true (d == c) (met_at cs ds (feeds_of c + line)) (Err (differs_at (d ∷ ds) line))
    (eq-eqb d c same)

feeds_are_few : (c : ℕ) → feeds_of c ≤ 1
feeds_are_few c = cond_both (c == 10) 1 0 (λ (n : ℕ). n ≤ 1) (λ is. omega arith) (λ is. omega arith)

pub one_more : (text rest : List ℕ) (first at line : ℕ) → IsMeeting text rest first at line → at < length text
    → at < length rest → get_or rest at 0 ≡ get_or text at 0
    → IsMeeting text rest first (at + 1) (feeds_of (get_or text at 0) + line)
one_more text rest first at line meeting in_text in_rest same =
    let c = get_or text at 0 in
    let d = get_or rest at 0 in
    record {
      met =
          meeting.met
          ∙ ap (λ (bytes : List ℕ). met_at bytes (drop at rest) line) (drop-cons text at 0 in_text)
          ∙ ap (λ (bytes : List ℕ). met_at (c ∷ drop (suc at) text) bytes line) (drop-cons rest at 0 in_rest)
          ∙ met_byte c d (drop (suc at) text) (drop (suc at) rest) line same
          ∙ ap (λ (n : ℕ). met_at (drop n text) (drop n rest) (feeds_of c + line)) (sym (add-one at));
      within = omega arith;
      few = let feeds = feeds_are_few c in let before = meeting.few in omega arith;
    }

pub ends_early : (text rest : List ℕ) (first at line : ℕ) → IsMeeting text rest first at line → at < length text
    → at ≡ length rest → met_at text rest first ≡ Err (Short line)
ends_early text rest first at line meeting in_text all =
    meeting.met
    ∙ ap (λ (bytes : List ℕ). met_at bytes (drop at rest) line) (drop-cons text at 0 in_text)
    ∙ ap (λ (bytes : List ℕ). met_at (get_or text at 0 ∷ drop (suc at) text) bytes line)
    (drop_all at rest (let same : length rest ≤ at = omega arith in same))

pub other_byte : (text rest : List ℕ) (first at line : ℕ) → IsMeeting text rest first at line → at < length text
    → at < length rest → (get_or rest at 0 ≡ get_or text at 0 → ⊥)
    → met_at text rest first ≡ Err (differs_at (drop at rest) line)
other_byte text rest first at line meeting in_text in_rest other =
    let c = get_or text at 0 in
    let d = get_or rest at 0 in
    let there = drop-cons rest at 0 in_rest in
    meeting.met
    ∙ ap (λ (bytes : List ℕ). met_at bytes (drop at rest) line) (drop-cons text at 0 in_text)
    ∙ ap (λ (bytes : List ℕ). met_at (c ∷ drop (suc at) text) bytes line) there
    ∙ cond-false (d == c) (met_at (drop (suc at) text) (drop (suc at) rest) (feeds_of c + line))
    (Err (differs_at (d ∷ drop (suc at) rest) line)) (ne_eqb d c other)
    ∙ ap (λ (bytes : List ℕ). Err (differs_at bytes line)) (sym there)

pub all_met : (text rest : List ℕ) (first line : ℕ) → IsMeeting text rest first (length text) line
    → met_at text rest first ≡ Ok (place_at (drop (length text) rest) line)
all_met text rest first line meeting =
    meeting.met ∙ ap (λ (bytes : List ℕ). met_at bytes (drop (length text) rest) line)
    (drop_all (length text) text (let same : length text ≤ length text = omega arith in same))
