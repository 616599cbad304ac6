-- Each word's budget is the next, and a word that spells none ends it.
use Rattle.std.proofs.Common.{◌≡◌, ℕ, Option, Some, None, map, length, sym, ap, ◌∙◌, arith}
use Rattle.std.specs.Prelude.{string_bytes}
use Rattle.std.proofs.lemmas.List.{length-map}
use Rattle.number_words.specs.Numbers.{number_in}
use Rattle.viewer_program.specs.declared.plays.TheConstants.{GREATEST_BUDGET}
use Rattle.viewer_program.proofs.PlayWords.{no_budgets, one_budget, all_budgets}
use Rattle.viewer_program.proofs.plays.reading.read_budgets.Goals as goal

pub returns-in_err-read_number-clause-value : goal.returns-in_err-read_number-clause-value
returns-in_err-read_number-clause-value c =
    let none : number_in GREATEST_BUDGET (string_bytes c.word-item.result) ≡ None = ap (number_in GREATEST_BUDGET) (sym c.as_bytes.ensures.value) ∙ sym c.in_err-read_number.ensures.value in
    rw c.from_residual.ensures (sym (no_budgets string_bytes c.args.words.now c.loop-word.word-index c.word-item.result c.loop-word-test.true c.word-item.is c.loop-word.budgets.items none c.loop-word.invariant.so_far))

pub loop-word-preserved : goal.loop-word-preserved
loop-word-preserved c =
    let some : number_in GREATEST_BUDGET (string_bytes c.word-item.result) ≡ Some c.in_ok-read_number.field-0 = ap (number_in GREATEST_BUDGET) (sym c.as_bytes.ensures.value) ∙ sym c.in_ok-read_number.ensures.value in
    record {
      so_far = rw c.push.ensures.items (one_budget string_bytes c.args.words.now c.loop-word.word-index c.word-item.result c.loop-word-test.true c.word-item.is c.loop-word.budgets.items c.in_ok-read_number.field-0 some c.loop-word.invariant.so_far);
      many = let more = c.push.ensures.len in let was = c.loop-word.invariant.many in omega (arith, more, was);
    }

pub returns-clause-value : goal.returns-clause-value
returns-clause-value c =
    all_budgets (map string_bytes c.args.words.now) c.loop-word.word-index c.loop-word.budgets.items (omega (arith, length-map c.args.words.now string_bytes, c.loop-word-test.false)) c.loop-word.invariant.so_far
