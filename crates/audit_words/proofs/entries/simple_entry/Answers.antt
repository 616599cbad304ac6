use Rattle.std.proofs.Common.{◌≡◌, ℕ, List, rules, ap, sym, arith}
use Rattle.std.specs.Prelude.{codes}
use Rattle.std.specs.Option.{option_map}
use Rattle.std.proofs.lemmas.Slice.Eq.{text_from_reads}
use Rattle.tier_model.specs.declared.turns.Turn.{Turn}
use Rattle.audit_spelling.specs.Spellings.{kind_in}
use Rattle.audit_words.proofs.entries.simple_entry.Goals as goal

pub returns-in-commit : goal.returns-in-commit
returns-in-commit c =
    let e : c.args.kind.now ≡ codes "commit" = text_from_reads c.args.kind.now (codes "commit") (omega arith)
    (search rules) in
    ap (λ (word : List ℕ). option_map (λ (turn : ℕ → Turn). turn c.args.patch) (kind_in word)) (sym e)

pub returns-in-reserve : goal.returns-in-reserve
returns-in-reserve c =
    let e : c.args.kind.now ≡ codes "reserve" = text_from_reads c.args.kind.now (codes "reserve") (omega arith)
    (search rules) in
    ap (λ (word : List ℕ). option_map (λ (turn : ℕ → Turn). turn c.args.patch) (kind_in word)) (sym e)
