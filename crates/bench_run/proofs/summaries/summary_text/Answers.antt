-- The five lines, one after the other.
use Rattle.std.proofs.Common.{◌≡◌, ℕ, List, [], ◌∷◌, ◌++◌, codes, ap, subst, ◌∙◌, append_assoc}
use Rattle.std.specs.Fmt.{decimal}
use Rattle.text_model.specs.Lines.{Adds, line_of}
use Rattle.text_model.specs.BenchText.{bench_line, bench_file_line, bench_base_line, bench_settle_line, bench_frame_line, bench_text}
use Rattle.bench_run.specs.Counts.{frame_seen, counts_seen}
use Rattle.bench_run.proofs.summaries.summary_text.Goals as goal

five_lines : (a b c d e f : List ℕ) (first second third fourth fifth : List ℕ) → a ≡ [] → Adds a b first → Adds b c second → Adds c d third → Adds d e fourth → Adds e f fifth
    → f ≡ first ++ (second ++ (third ++ (fourth ++ fifth)))
five_lines a b c d e f first second third fourth fifth none one two three four five =
    five.is
    ∙ ap (λ (t : List ℕ). t ++ fifth) (four.is ∙ ap (λ (t : List ℕ). t ++ fourth) (three.is ∙ ap (λ (t : List ℕ). t ++ third) (two.is ∙ ap (λ (t : List ℕ). t ++ second) (one.is ∙ ap (λ (t : List ℕ). t ++ first) none))))
    ∙ simp append_assoc

pub returns : goal.returns
unfolding bench_text bench_line bench_settle_line
returns c =
    let counts = counts_seen c.args.counts in
    five_lines c.new-text.result.items c.add_line.new.out.items c.add_file_line.new.out.items c.add_base_line.new.out.items c.add_line-2.new.out.items c.add_frame_line.new.out.items
    (bench_line counts.columns) (bench_file_line counts) (bench_base_line counts) (bench_settle_line counts.turns) (bench_frame_line counts.frame)
    c.new-text.ensures.items
    (subst (λ (n : ℕ). Adds c.new-text.result.items c.add_line.new.out.items (line_of (codes "bench") (decimal n ∷ []))) c.from.ensures c.in_ok-add_line.ensures.ok)
    c.in_ok-add_file_line.ensures c.in_ok-add_base_line.ensures c.in_ok-add_line-2.ensures.ok c.in_ok-add_frame_line.ensures
