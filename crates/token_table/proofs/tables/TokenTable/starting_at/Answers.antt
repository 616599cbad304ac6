use Rattle.std.proofs.Common.{◌≡◌, ℕ, ◌+◌, ◌*◌, ◌%◌, [], length, map, vec_len, sym, ap, subst, ◌∙◌}
use Rattle.atomic_table.specs.Table.{opening}
use Rattle.token_table.specs.declared.knowledge.View.TheVariants.{Keeper}
use Rattle.token_table.specs.WordRule.{Holds, opened_at}
use Rattle.token_table.proofs.Openings.{starts_pinned, starts_seated}
use Rattle.token_table.proofs.tables.TokenTable.starting_at.Goals as goal

pub of_words-requires : goal.of_words-requires
of_words-requires c =
    let holds = starts_pinned (Unit {0}) c.args.start c.args.patches c.args.base.now c.in_ok-epochs.epochs.items c.as_slice-2.result.now c.in_ok-epochs.ensures c.requires.below
    (c.as_slice-2.ensures.value ∙ (c.in_ok-words.ensures ∙ ap (map (λ epoch. epoch * 4294967296 + epoch % 2)) c.as_slice.ensures.value)) in
    let same : vec_len c.in_ok-epochs.epochs ≡ length c.in_ok-epochs.epochs.items = c.in_ok-epochs.epochs.ok.0 in
    subst (λ (n : ℕ). Holds {S = Unit {0}} n (opening c.as_slice-2.result.now [] (Keeper (opened_at c.in_ok-epochs.epochs.items)))) (sym same) holds

pub invariant_of-keeper : goal.invariant_of-keeper
invariant_of-keeper c =
    starts_seated (Unit {0}) c.args.start c.args.patches c.args.base.now c.in_ok-epochs.epochs.items c.as_slice-2.result.now c.in_ok-epochs.ensures c.requires.below
    (c.as_slice-2.ensures.value ∙ (c.in_ok-words.ensures ∙ ap (map (λ epoch. epoch * 4294967296 + epoch % 2)) c.as_slice.ensures.value))
    c.in_ok-table.table.shared.table_id c.in_ok-table.seat.table_id c.in_ok-table.seat.me c.in_ok-table.ensures.0 c.in_ok-table.ensures.2 c.in_ok-table.ensures.4
